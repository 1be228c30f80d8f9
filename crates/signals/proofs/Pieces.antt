-- The pieces that bodies are made of.
use Rattle.std.proofs.Common.{◌≡◌, ℕ, zero, suc, ◌+◌, ◌<◌, ◌≤◌, List, [], ◌∷◌, map, length, get_or, take, Some, None, Ok, Err, Option, Result, IsErr, IsSome, sym, refl, ap, ◌∙◌, arith}
use lib.ListN.{length-map}
use Rattle.std.specs.Borrow.{Bor}
use Rattle.std.specs.List.{slice_get}
use Rattle.std.specs.Option.{option_map}
use Rattle.outbox.specs.Marshal.{Bytes, Part, ◌▹◌, entry, many, put_bool, put_i32, put_signature, put_string, put_u32}
use Rattle.outbox.specs.Pours.{Poured}
use Rattle.effects.specs.Values.{ValueModel, truth, whole, count, letters, code_of, seen, type_of}
use Rattle.effects.specs.declared.value.Value.{Value}
use Rattle.effects.specs.Calls.{values_of}
use Rattle.effects.specs.Model.{PropertyModel}
use Rattle.outbox.proofs.Chains.{poured-stops, poured-then}
use Rattle.signals.specs.Bodies.{put_property, put_value}
use Rattle.signals.proofs.Loops.{poured-more, poured-stuck}

-- a value without its signature
abbrev pub plain_value : ValueModel → Part
plain_value (truth b) = put_bool b
plain_value (whole z) = put_i32 z
plain_value (count n) = put_u32 n
plain_value (letters s) = put_string s

pub value-is : (v : ValueModel) → put_signature (code_of (type_of v) ∷ []) ▹ plain_value v ≡ put_value v
unfolding put_value
value-is (truth b) = refl
value-is (whole z) = refl
value-is (count n) = refl
value-is (letters s) = refl

-- another part that is equal
pub poured-as : {E : Type 0} (was is : Bytes) (from : ℕ) (r : Result ℕ E) (v w : Part) → v ≡ w → Poured was from is r v → Poured was from is r w
poured-as was is from r v w e a = rw (sym e) a

-- a refusal that a call hands on
pub poured-fails : {E : Type 0} (was is : Bytes) (from : ℕ) (r : Result ℕ E) (w : Part) → IsErr r → ((e : E) → Poured was from is (Err e) w) → Poured was from is r w
poured-fails was is from (Ok n) w h k = let z : ◌≡◌ {A = ℕ} 0 1 = cc in absurd (omega arith)
poured-fails was is from (Err e) w h k = k e

whole-value : (letter : ℕ) (v : ValueModel) → letter ≡ code_of (type_of v) → put_signature (letter ∷ []) ▹ plain_value v ≡ put_value v
whole-value letter v same = ap (λ n. put_signature (n ∷ []) ▹ plain_value v) same ∙ value-is v

-- a value after its signature
pub value-put : {E : Type 0} (was mid is : Bytes) (from letter : ℕ) (v : ValueModel) → letter ≡ code_of (type_of v) → (g : ℕ) (r : Result ℕ E) (w : Part) → w ≡ plain_value v
    → Poured {E = E} was from mid (Ok g) (put_signature (letter ∷ [])) → Poured mid g is r w → Poured was from is r (put_value v)
value-put was mid is from letter v same g r w e a b = poured-as was is from r _ _ (whole-value letter v same) (poured-then _ _ _ _ _ _ _ _ a (poured-as mid is g r w _ e b))

pub value-stops : {E : Type 0} (was is : Bytes) (from letter : ℕ) (v : ValueModel) → letter ≡ code_of (type_of v) → (d e : E) → Poured was from is (Err d) (put_signature (letter ∷ [])) → Poured was from is (Err e) (put_value v)
value-stops was is from letter v same d e a = poured-as was is from (Err e) _ _ (whole-value letter v same) (poured-stops _ _ _ _ _ _ _ a)

-- the name and the value at a place are the property there
named : (q : Option PropertyModel) (n : Bytes) → ◌≡◌ {A = Option Bytes} (Some n) (option_map (λ p. p.name) q) → (p : PropertyModel) × (q ≡ Some p) × (n ≡ p.name)
named None n e = let z : ◌≡◌ {A = ℕ} 0 1 = cc in absurd (omega arith)
named (Some p) n e = (p, refl, (cc))

value-at : (ps : List PropertyModel) (vs : List Value) (k : ℕ) (p : PropertyModel) (d : Value) → map seen vs ≡ values_of ps → slice_get ps k ≡ Some p → seen (get_or vs k d) ≡ p.value
value-at [] vs k p d e h = let z : ◌≡◌ {A = ℕ} 0 1 = cc in absurd (omega arith)
value-at (q ∷ ps) [] k p d e h = let z : ◌≡◌ {A = ℕ} 0 1 = cc in absurd (omega arith)
value-at (q ∷ ps) (v ∷ vs) zero p d e h = let x : q ≡ p = cc in let y : seen v ≡ q.value = cc in y ∙ ap (λ z. z.value) x
value-at (q ∷ ps) (v ∷ vs) (suc k) p d e h = value-at ps vs k p d (cc) h

-- one more property
module _ {E : Type 0} (was mid is : Bytes) (from g : ℕ) (ps : List PropertyModel) (vs : List Value) (k : ℕ) (n : Bytes) (v d : Value) (read : map seen vs ≡ values_of ps) (at : v ≡ get_or vs k d)
    (here : Some n ≡ option_map (λ p. p.name) (slice_get ps k)) (a : Poured {E = E} was from mid (Ok g) (many put_property (take k ps))) where
  property-is : (p : PropertyModel) → slice_get ps k ≡ Some p → n ≡ p.name → entry (put_string n) (put_value (seen v)) ≡ put_property p
  unfolding put_property
  property-is p h e = ap (λ x. entry (put_string x) (put_value (seen v))) e ∙ ap (λ x. entry (put_string p.name) (put_value x)) (ap seen at ∙ value-at ps vs k p d read h)

  pub property-more : (h : ℕ) → Poured {E = E} mid g is (Ok h) (entry (put_string n) (put_value (seen v))) → Poured {E = E} was from is (Ok h) (many put_property (take (k + 1) ps))
  property-more h b =
      let x = named (slice_get ps k) n here in
      poured-more put_property was mid is from g ps k x.0 x.1 a h (poured-as _ _ _ _ _ _ (property-is x.0 x.1 x.2) b)

  pub property-stuck : (e : E) → Poured mid g is (Err e) (entry (put_string n) (put_value (seen v))) → (e' : E) → Poured was from is (Err e') (many put_property ps)
  property-stuck e b e' =
      let x = named (slice_get ps k) n here in
      poured-stuck put_property was mid is from g ps k x.0 x.1 a e e' (poured-as _ _ _ _ _ _ (property-is x.0 x.1 x.2) b)

pub as_many : (vs : List Value) (ps : List PropertyModel) → map seen vs ≡ values_of ps → length vs ≡ length ps
as_many vs ps e = sym (length-map vs seen) ∙ ap length e ∙ length-map ps (λ p. p.value)

pub none_left : (ps : List PropertyModel) (k : ℕ) → None ≡ option_map (λ p. p.name) (slice_get ps k) → length ps ≤ k
none_left [] k e = omega arith
none_left (p ∷ ps) zero e = let z : ◌≡◌ {A = ℕ} 0 1 = cc in absurd (omega arith)
none_left (p ∷ ps) (suc k) e = omega (arith, none_left ps k e)

-- a property whose value was read has a name
pub name-there : (ps : List PropertyModel) (vs : List Value) (k : ℕ) (o : Option (Bor Bytes)) → map seen vs ≡ values_of ps → k < length vs → option_map (λ x. x.now) o ≡ option_map (λ p. p.name) (slice_get ps k) → IsSome o
name-there ps vs k None read lt e = absurd (omega (arith, none_left ps k e, as_many vs ps read))
name-there ps vs k (Some x) read lt e = refl
