-- What a bank's answers say of the instances.
use Rattle.std.proofs.Common.{◌≡◌, ℕ, zero, suc, ◌+◌, ◌<◌, ◌≤◌, Bool, true, false, cond, eqb, List, [], ◌∷◌, map, length, get_or, take, drop, Some, None, Ok, Err, Option, Result, sym, refl, ap, ◌∙◌, arith, length-drop}
use lib.ListN.{length-map}
use Rattle.std.proofs.lemmas.List.{take_at, take-map}
use Rattle.std.specs.List.{slice_get}
use Rattle.effects.specs.declared.value.Value.{Value}
use Rattle.effects.specs.declared.interface.PropertyFault.{PropertyFault}
use Rattle.effects.specs.Values.{ValueModel, seen}
use Rattle.effects.specs.Model.{InterfaceModel}
use Rattle.effects.specs.Calls.{all_after, all_answer, broken, values_of}
use Rattle.banks.specs.Rows.{asked, lent}
use Rattle.signals.specs.declared.bodies.BodyError.{BodyError}
use Rattle.signals.specs.Readable.{and_then, announced_as, readable, readable_one}

clash : ◌≡◌ {A = ℕ} 0 1 → {X : Type 0} → X
clash e = absurd (omega arith)

-- an answer is no refusal
pub never : (e : BodyError) → ◌≡◌ {A = Result (Unit {0}) BodyError} (Err e) (Ok tt) → ⊥
never e h = clash (cc)

-- the loop over the instances
pub readable-step : (models : List InterfaceModel) (is : List ℕ) (k d : ℕ) → k < length is
    → readable models (drop k is) ≡ and_then (readable_one (get_or is k d) (slice_get models (get_or is k d))) (readable models (drop (k + 1) is))
unfolding readable
readable-step models [] k d lt = absurd (omega arith)
readable-step models (i ∷ is) zero d lt = refl
readable-step models (i ∷ is) (suc k) d lt =
    let n : suc k + 1 ≡ suc (k + 1) = omega arith in rw n (readable-step models is k d (omega arith))

module _ (models : List InterfaceModel) (is : List ℕ) (k d : ℕ) where
  abbrev one : Result (Unit {0}) BodyError
  one = readable_one (get_or is k d) (slice_get models (get_or is k d))

  pub stops_at : (e : BodyError) → k < length is → Err e ≡ one → readable models (drop k is) ≡ readable models is → Err e ≡ readable models is
  stops_at e lt h inv = ap (λ a. and_then a (readable models (drop (k + 1) is))) h ∙ sym (readable-step models is k d lt) ∙ inv

  pub goes_on : k < length is → Ok tt ≡ one → readable models (drop k is) ≡ readable models is → readable models (drop (k + 1) is) ≡ readable models is
  goes_on lt h inv = ap (λ a. and_then a (readable models (drop (k + 1) is))) h ∙ sym (readable-step models is k d lt) ∙ inv

nothing_left : (models : List InterfaceModel) (is : List ℕ) → length is ≡ 0 → Ok tt ≡ readable models is
unfolding readable
nothing_left models [] e = refl
nothing_left models (i ∷ is) e = absurd (omega arith)

pub at-end : (models : List InterfaceModel) (is : List ℕ) (k : ℕ) → length is ≤ k → readable models (drop k is) ≡ readable models is → Ok tt ≡ readable models is
at-end models is k le inv = nothing_left models (drop k is) (omega (arith, length-drop k is)) ∙ inv

both_ok : (a b : Result (Unit {0}) BodyError) → and_then a b ≡ Ok tt → (a ≡ Ok tt) × (b ≡ Ok tt)
both_ok (Ok u) b h = (refl, h)
both_ok (Err e) b h = clash (cc)

pub readable-at : (models : List InterfaceModel) (is : List ℕ) (k d : ℕ) → k < length is → readable models is ≡ Ok tt → readable_one (get_or is k d) (slice_get models (get_or is k d)) ≡ Ok tt
unfolding readable
readable-at models [] k d lt h = absurd (omega arith)
readable-at models (i ∷ is) zero d lt h = (both_ok _ _ h).0
readable-at models (i ∷ is) (suc k) d lt h = readable-at models is k d (omega arith) (both_ok _ _ h).1

-- the values that were read
after-ok : (b : Bool) (m : InterfaceModel) (k : ℕ) (vs : List Value) (before : List ValueModel) → ◌≡◌ {A = Result ℕ PropertyFault} (Ok k) (cond b (Ok (length m.properties)) (Err (broken m.fault)))
    → map seen vs ≡ all_after (cond b (Ok (length m.properties)) (Err (broken m.fault))) m before → map seen (take k vs) ≡ values_of m.properties
after-ok true m k vs before h e =
    let n : length (values_of m.properties) ≡ k = length-map m.properties (λ p. p.value) ∙ cc in
    sym (take-map seen k vs) ∙ ap (take k) e ∙ take_at (values_of m.properties) _ k n
after-ok false m k vs before h e = clash (cc)

pub values-read : (o : Option InterfaceModel) (k : ℕ) (vs : List Value) (before : List ValueModel) → Ok (Ok k) ≡ asked all_answer o → map seen vs ≡ lent (λ m. all_after (all_answer m) m) o before
    → map seen (take k vs) ≡ values_of (announced_as o).properties
values-read None k vs before h e = clash (cc)
values-read (Some m) k vs before h e = after-ok (eqb m.fault 0) m k vs before (cc) e
