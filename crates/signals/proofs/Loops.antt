-- One part for each of a list, written in turn.
use Rattle.std.proofs.Common.{◌≡◌, ℕ, zero, suc, ◌+◌, ◌<◌, ◌≤◌, List, [], ◌∷◌, ◌++◌, map, length, get_or, take, drop, Some, None, Ok, Err, Option, Result, sym, refl, ap, ◌∙◌, append_assoc, add-zero, arith, length-append}
use Rattle.std.proofs.lemmas.List.{append-nil, take-append-drop}
use Rattle.std.specs.List.{slice_get}
use Rattle.outbox.specs.Marshal.{Bytes, Part, ◌▹◌, array, contents_at, many, open_array}
use Rattle.outbox.specs.Pours.{Poured, room}
use Rattle.signature.specs.declared.codes.Code.{Code}
use Rattle.outbox.proofs.Lengths.{length-▹, length-array}
use Rattle.outbox.proofs.Chains.{poured-same, poured-stops, poured-then}

none-some : {X : Type 0} (x : X) → ◌≡◌ {A = Option X} None (Some x) → ⊥
none-some x e = let z : ◌≡◌ {A = ℕ} 0 1 = cc in omega arith

-- the same of a call that would refuse in other words
pub poured-ok : {D E : Type 0} (was is : Bytes) (from h : ℕ) (w : Part) → Poured {E = D} was from is (Ok h) w → Poured {E = E} was from is (Ok h) w
poured-ok was is from h w a = record { by = a.by }

pub poured-err : {D E : Type 0} (was is : Bytes) (from : ℕ) (d : D) (e : E) (w : Part) → Poured was from is (Err d) w → Poured was from is (Err e) w
poured-err was is from d e w a = record { by = a.by }

module _ {X : Type 0} (f : X → Part) where
  pub many-++ : (xs ys : List X) (off : ℕ) → (many f xs ▹ many f ys) off ≡ many f (xs ++ ys) off
  unfolding many ◌▹◌
  many-++ [] ys off = ap (many f ys) (add-zero off)
  many-++ (x ∷ xs) ys off =
      let o = off + length (f x off) in
      let e : off + length (f x off ++ many f xs o) ≡ o + length (many f xs o) = omega (arith, length-append (f x off) (many f xs o)) in
      append_assoc (f x off) (many f xs o) _ ∙ ap (λ n. f x off ++ (many f xs o ++ many f ys n)) e ∙ ap (λ l. f x off ++ l) (many-++ xs ys o)

  many-one : (x : X) (off : ℕ) → f x off ≡ many f (x ∷ []) off
  unfolding many ◌▹◌
  many-one x off = sym (append-nil (f x off))

  pub poured-one : {E : Type 0} (was is : Bytes) (from : ℕ) (r : Result ℕ E) (x : X) → Poured was from is r (f x) → Poured was from is r (many f (x ∷ []))
  poured-one was is from r x a = poured-same _ _ _ _ _ (many f (x ∷ [])) (many-one x from) a

  pub poured-empty : {E : Type 0} (was is : Bytes) (from : ℕ) (r : Result ℕ E) (w : Part) → Poured was from is r w → Poured was from is r (w ▹ many f [])
  unfolding many ◌▹◌
  poured-empty was is from r w a = poured-same _ _ _ _ _ (w ▹ many f []) (sym (append-nil (w from))) a

  -- the element of a number ends the first part
  nth-take : (xs : List X) (k : ℕ) (x : X) → slice_get xs k ≡ Some x → take k xs ++ (x ∷ []) ≡ take (k + 1) xs
  nth-take [] k x e = absurd (none-some x e)
  nth-take (y ∷ xs) zero x e = let p : y ≡ x = cc in ap (λ z. z ∷ []) (sym p)
  nth-take (y ∷ xs) (suc k) x e =
      let n : suc k + 1 ≡ suc (k + 1) = omega arith in
      rw n (ap (λ l. y ∷ l) (nth-take xs k x e))

  nth-split : (xs : List X) (k : ℕ) (x : X) → slice_get xs k ≡ Some x → take k xs ++ (x ∷ drop (k + 1) xs) ≡ xs
  nth-split [] k x e = absurd (none-some x e)
  nth-split (y ∷ xs) zero x e = let p : y ≡ x = cc in ap (λ z. z ∷ xs) (sym p)
  nth-split (y ∷ xs) (suc k) x e =
      let n : suc k + 1 ≡ suc (k + 1) = omega arith in
      rw n (ap (λ l. y ∷ l) (nth-split xs k x e))

  pub poured-none : {E : Type 0} (was : Bytes) (from : ℕ) → from ≤ room was → Poured {E = E} was from was (Ok from) (many f [])
  unfolding many
  poured-none was from le =
      record { by = record { bytes = sym (take-append-drop from was) ∙ ap (λ n. take from was ++ drop n was) (sym (add-zero from)); ends = sym (add-zero from); fits = le } }

  module _ {E : Type 0} (was mid is : Bytes) (from g : ℕ) (xs : List X) (k : ℕ) (x : X) (here : slice_get xs k ≡ Some x) (a : Poured {E = E} was from mid (Ok g) (many f (take k xs))) where
    pub poured-more : {D : Type 0} (h : ℕ) → Poured {E = D} mid g is (Ok h) (f x) → Poured {E = E} was from is (Ok h) (many f (take (k + 1) xs))
    unfolding ◌▹◌ many
    poured-more h b =
        let e : (many f (take k xs) ▹ f x) from ≡ many f (take (k + 1) xs) from =
        ap (λ l. many f (take k xs) from ++ l) (many-one x _) ∙ many-++ (take k xs) (x ∷ []) from ∙ ap (λ l. many f l from) (nth-take xs k x here) in
        poured-same _ _ _ _ _ (many f (take (k + 1) xs)) e (poured-then _ _ _ _ _ _ _ _ a (poured-ok _ _ _ _ _ b))

    -- what does not fit here does not fit at all
    pub poured-stuck : {D F : Type 0} (e : D) (d : F) → Poured mid g is (Err e) (f x) → Poured was from is (Err d) (many f xs)
    unfolding many
    poured-stuck {D} {F} e d b =
        let rest = many f (drop (k + 1) xs) in
        let q : (many f (take k xs) ▹ (f x ▹ rest)) from ≡ many f xs from = many-++ (take k xs) (x ∷ drop (k + 1) xs) from ∙ ap (λ l. many f l from) (nth-split xs k x here) in
        poured-same _ _ _ _ _ (many f xs) q (poured-then {F = F} _ _ _ _ _ (Err d) _ _ a (poured-stops _ _ _ _ _ _ _ b))

-- an array that does not fit
pub array-stops : {E F : Type 0} (was is : Bytes) (from : ℕ) (code : Code) (d : E) (e : F) (w : Part) → Poured was from is (Err d) (open_array code ▹ w) → Poured was from is (Err e) (array code w)
unfolding contents_at
array-stops was is from code d e w a =
    record { by = record { kept = a.by.kept; full = omega (arith, a.by.full, length-▹ (open_array code) w from, length-array code w from) } }

pub nth-mapped : {X Y : Type 0} (f : X → Y) (xs : List X) (k : ℕ) (d : X) → k < length xs → slice_get (map f xs) k ≡ Some (f (get_or xs k d))
nth-mapped f [] k d lt = absurd (omega arith)
nth-mapped f (x ∷ xs) zero d lt = refl
nth-mapped f (x ∷ xs) (suc k) d lt = nth-mapped f xs k d (omega arith)

pub array-unopened : {E F : Type 0} (was is : Bytes) (from : ℕ) (code : Code) (d : E) (e : F) (w : Part) → Poured was from is (Err d) (open_array code) → Poured was from is (Err e) (array code w)
array-unopened was is from code d e w a = array-stops was is from code d e w (poured-stops was is from d d (open_array code) w a)
