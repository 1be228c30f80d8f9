-- Two lists of interfaces, one after the other, up to a number of them.
use Rattle.std.specs.Prelude.{◌≡◌, ℕ, zero, suc, ◌+◌, ◌-◌, ◌<◌, ◌≤◌, min, Bool, true, List, [], ◌∷◌, ◌++◌, length, take, None, Ok, Err, refl}
use Rattle.std.proofs.Math.Path.{sym, ap}
use Rattle.std.proofs.Common.{subst, ◌∙◌, ⊎_elim, arith, length-append}
use Rattle.std.proofs.Math.ListN.{length-take}
use Rattle.std.proofs.lemmas.Bool.{and_from, and_parts, lt-ltb, le-ltb, cond-true, cond-false, cases_lt}
use Rattle.std.specs.List.{slice_get}
use Rattle.names.specs.Names.{all}
use Rattle.effects.specs.Model.{InterfaceModel}
use Rattle.banks.specs.declared.pair.Place.TheVariants.{First, Second}
use Rattle.banks.specs.Rows.{changed, joined, place_of, Stands}

-- looking
module _ {X : Type 0} where
  nth-take : (k : ℕ) (xs : List X) (i : ℕ) → i < k → slice_get (take k xs) i ≡ slice_get xs i
  nth-take zero xs i h = absurd (omega arith)
  nth-take (suc k) [] i h = refl
  nth-take (suc k) (x ∷ xs) zero h = refl
  nth-take (suc k) (x ∷ xs) (suc i) h = nth-take k xs i (omega arith)

  nth_past : (k : ℕ) (xs : List X) (i : ℕ) → k ≤ i → slice_get (take k xs) i ≡ None
  nth_past zero [] i h = refl
  nth_past zero (x ∷ xs) i h = refl
  nth_past (suc k) [] i h = refl
  nth_past (suc k) (x ∷ xs) zero h = absurd (omega arith)
  nth_past (suc k) (x ∷ xs) (suc i) h = nth_past k xs i (omega arith)

  nth-front : (xs ys : List X) (i : ℕ) → i < length xs → slice_get (xs ++ ys) i ≡ slice_get xs i
  nth-front [] ys i h = absurd (omega arith)
  nth-front (x ∷ xs) ys zero h = refl
  nth-front (x ∷ xs) ys (suc i) h = nth-front xs ys i (omega arith)

  nth-back : (xs ys : List X) (i : ℕ) → length xs ≤ i → slice_get (xs ++ ys) i ≡ slice_get ys (i - length xs)
  nth-back [] ys i h = ap (slice_get ys) (omega arith)
  nth-back (x ∷ xs) ys zero h = absurd (omega arith)
  nth-back (x ∷ xs) ys (suc i) h = nth-back xs ys i (omega arith) ∙ ap (slice_get ys) (omega arith)

-- changing
module _ (f : InterfaceModel → InterfaceModel) where
  change-take : (k : ℕ) (xs : List InterfaceModel) (i : ℕ) → take k (changed f xs i) ≡ changed f (take k xs) i
  change-take zero [] i = refl
  change-take zero (x ∷ xs) zero = refl
  change-take zero (x ∷ xs) (suc i) = refl
  change-take (suc k) [] i = refl
  change-take (suc k) (x ∷ xs) zero = refl
  change-take (suc k) (x ∷ xs) (suc i) = ap (λ r. x ∷ r) (change-take k xs i)

  change-past : (xs : List InterfaceModel) (i : ℕ) → length xs ≤ i → changed f xs i ≡ xs
  change-past [] i h = refl
  change-past (x ∷ xs) zero h = absurd (omega arith)
  change-past (x ∷ xs) (suc i) h = ap (λ r. x ∷ r) (change-past xs i (omega arith))

  change-front : (xs ys : List InterfaceModel) (i : ℕ) → i < length xs → changed f xs i ++ ys ≡ changed f (xs ++ ys) i
  change-front [] ys i h = absurd (omega arith)
  change-front (x ∷ xs) ys zero h = refl
  change-front (x ∷ xs) ys (suc i) h = ap (λ r. x ∷ r) (change-front xs ys i (omega arith))

  change-back : (xs ys : List InterfaceModel) (i : ℕ) → length xs ≤ i → xs ++ changed f ys (i - length xs) ≡ changed f (xs ++ ys) i
  change-back [] ys i h = ap (changed f ys) (omega arith)
  change-back (x ∷ xs) ys zero h = absurd (omega arith)
  change-back (x ∷ xs) ys (suc i) h = ap (λ r. x ∷ r) (ap (λ k. xs ++ changed f ys k) (omega arith) ∙ change-back xs ys i (omega arith))

-- a number of a pair
module _ (xs ys : List InterfaceModel) (i : ℕ) where
  at_first : i < 65536 → i < length xs → Stands xs ys i (Ok (First i))
  unfolding joined
  at_first h k =
      (sym (nth-take 65536 (xs ++ ys) i h ∙ nth-front xs ys i k), λ f. ap (take 65536) (change-front f xs ys i k) ∙ change-take f 65536 (xs ++ ys) i)

  at_second : i < 65536 → length xs ≤ i → Stands xs ys i (Ok (Second (i - length xs)))
  unfolding joined
  at_second h k =
      (sym (nth-take 65536 (xs ++ ys) i h ∙ nth-back xs ys i k), λ f. ap (take 65536) (change-back f xs ys i k) ∙ change-take f 65536 (xs ++ ys) i)

  at-neither : 65536 ≤ i → Stands xs ys i (Err (record {}))
  unfolding joined
  at-neither h =
      (sym (nth_past 65536 (xs ++ ys) i h), λ f. sym (change-past f (joined xs ys) i (simp length-take (omega arith))))

  -- the place of number i is good for it
  pub at_place : Stands xs ys i (place_of (length xs) i)
  at_place =
      ⊎_elim
      (λ h. ⊎_elim
      (λ k. subst (Stands xs ys i) (sym (cond-true _ _ _ (lt-ltb i 65536 h) ∙ ap Ok (cond-true _ _ _ (lt-ltb i (length xs) k)))) (at_first h k))
      (λ k. subst (Stands xs ys i) (sym (cond-true _ _ _ (lt-ltb i 65536 h) ∙ ap Ok (cond-false _ _ _ (le-ltb i (length xs) k)))) (at_second h k))
      (cases_lt i (length xs)))
      (λ h. subst (Stands xs ys i) (sym (cond-false _ _ _ (le-ltb i 65536 h))) (at-neither h))
      (cases_lt i 65536)

-- the laws
all_take : {X : Type 0} (f : X → Bool) (k : ℕ) (xs : List X) → all f xs ≡ true → all f (take k xs) ≡ true
all_take f zero [] h = refl
all_take f zero (x ∷ xs) h = refl
all_take f (suc k) [] h = refl
all_take f (suc k) (x ∷ xs) h = let w = and_parts (f x) (all f xs) h in and_from _ _ w.0 (all_take f k xs w.1)

all_append : {X : Type 0} (f : X → Bool) (xs ys : List X) → all f xs ≡ true → all f ys ≡ true → all f (xs ++ ys) ≡ true
all_append f [] ys h k = k
all_append f (x ∷ xs) ys h k = let w = and_parts (f x) (all f xs) h in and_from _ _ w.0 (all_append f xs ys w.1 k)

pub joined-all : (f : InterfaceModel → Bool) (xs ys : List InterfaceModel) → all f xs ≡ true → all f ys ≡ true → all f (joined xs ys) ≡ true
unfolding joined
joined-all f xs ys h k = all_take f 65536 (xs ++ ys) (all_append f xs ys h k)

pub joined-few : (xs ys : List InterfaceModel) → length (joined xs ys) ≤ 65536
unfolding joined
joined-few xs ys = simp length-take (omega arith)

pub joined_length : (xs ys : List InterfaceModel) → length (joined xs ys) ≡ min (length xs + length ys) 65536
unfolding joined
joined_length xs ys = simp (length-take, length-append) (omega arith)
