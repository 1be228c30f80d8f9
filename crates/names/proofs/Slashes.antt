-- The last slash of a path.
use Rattle.std.proofs.Common.{◌≡◌, ◌≢◌, ℕ, zero, suc, ◌+◌, ◌<◌, Bool, true, false, cond, [], ◌∷◌, ◌++◌, length, get_or, take, drop, Some, None, Option, sym, refl, ap, ◌∙◌, append-nil, add-one, arith, drop-cons, MatchOption}
use Rattle.std.proofs.lemmas.Bool.{eq-eqb, ne_eqb}
use Rattle.std.specs.Str.{bytes_eq}
use Rattle.names.specs.Names.{Bytes, elements_of, valid_path}
use Rattle.names.specs.Paths.{sooner, before_last, later, after_last, NoSlash, LastSlash, or_root, parent_bytes, parent_of, last_bytes, last_of}
use Rattle.std.proofs.lemmas.List.{take-append-drop}
use Rattle.names.proofs.Spelled.{before-further, after-further, parent-elements, last-elements}

no-bytes : NoSlash []
unfolding before_last after_last
no-bytes = record { ahead = refl; behind = refl }

other-first : (b : ℕ) (s : Bytes) → (b ≡ 47 → ⊥) → NoSlash s → NoSlash (b ∷ s)
unfolding before_last sooner after_last later
other-first b s ne n = record { ahead = rw (n.ahead, ne_eqb b 47 ne); behind = rw (n.behind, ne_eqb b 47 ne) }

none-in : (s : Bytes) → ((k : ℕ) → k < length s → get_or s k 0 ≢ 47) → NoSlash s
none-in [] h = no-bytes
none-in (b ∷ s) h = other-first b s (h 0 (omega arith)) (none-in s (λ k lt. h (suc k) (omega arith)))

none-after : (s : Bytes) (i : ℕ) → ((k : ℕ) → i < k → k < length s → get_or s k 0 ≢ 47) → NoSlash (drop (suc i) s)
none-after [] i h = no-bytes
none-after (b ∷ s) zero h = none-in s (λ k lt. h (suc k) (omega arith) (omega arith))
none-after (b ∷ s) (suc i) h = none-after s i (λ k lt le. h (suc k) (omega arith) (omega arith))

slash-first : (b : ℕ) (s : Bytes) → b ≡ 47 → NoSlash s → (before_last (b ∷ s) ≡ Some []) × (after_last (b ∷ s) ≡ Some s)
unfolding before_last sooner after_last later
slash-first b s e n = (rw (n.ahead, eq-eqb b 47 e), rw (n.behind, eq-eqb b 47 e))

pub last_found : (s : Bytes) (i : ℕ) → i < length s → get_or s i 0 ≡ 47 → NoSlash (drop (suc i) s) → LastSlash s i
last_found s i h e n =
    let here = slash-first (get_or s i 0) (drop (suc i) s) e n in
    let split : take i s ++ (get_or s i 0 ∷ drop (suc i) s) ≡ s = ap (λ (u : Bytes). take i s ++ u) (sym (drop-cons s i 0 h)) ∙ take-append-drop i s in
    record {
      within = h;
      ahead = ap before_last (sym split) ∙ before-further (take i s) (get_or s i 0 ∷ drop (suc i) s) [] here.0 ∙ ap Some (append-nil (take i s));
      behind = ap after_last (sym split) ∙ after-further (take i s) (get_or s i 0 ∷ drop (suc i) s) (drop (suc i) s) here.1 ∙ ap (λ n. Some (drop n s)) (sym (add-one i));
    }

-- the last slash by the bytes at each place, as `rposition` finds it
abbrev pub Rightmost : Bytes → Option ℕ → Type 0
Rightmost s r = MatchOption r ((k : ℕ) → k < length s → get_or s k 0 ≢ 47) (λ i. (i < length s) × (get_or s i 0 ≡ 47) × ((k : ℕ) → i < k → k < length s → get_or s k 0 ≢ 47))

pub rightmost-last : (s : Bytes) (r : Option ℕ) → Rightmost s r → MatchOption r (NoSlash s) (λ at. LastSlash s at)
rightmost-last s None h = none-in s h
rightmost-last s (Some i) h = last_found s i h.0 h.1 (none-after s i h.2)

-- the parent and the last element, by the last slash; `r` is what is told
pub record ParentTold (p : Bytes) (r : Option Bytes) : Type 0 where
  pub bytes : r ≡ parent_bytes p
  pub elements : valid_path p ≡ true → r ≡ parent_of (elements_of p)

parent-told : (p : Bytes) (r : Option Bytes) → r ≡ parent_bytes p → ParentTold p r
parent-told p r e = record { bytes = e; elements = λ v. e ∙ parent-elements p v }

pub parent-root : (p : Bytes) → true ≡ bytes_eq p (47 ∷ []) → ParentTold p None
parent-root p h = parent-told p None (ap (λ (t : Bool). cond {A = Option Bytes} t None (or_root (before_last p))) h)

parent-below : (p : Bytes) (o : Option Bytes) → false ≡ bytes_eq p (47 ∷ []) → before_last p ≡ o → or_root o ≡ parent_bytes p
parent-below p o h e = ap or_root (sym e) ∙ ap (λ (t : Bool). cond t None (or_root (before_last p))) h

pub parent-none : (p : Bytes) → false ≡ bytes_eq p (47 ∷ []) → NoSlash p → ParentTold p None
unfolding or_root
parent-none p h n = parent-told p None (parent-below p None h n.ahead)

first-slash : (p : Bytes) (at : ℕ) → at ≡ 0 → or_root (Some (take at p)) ≡ Some (47 ∷ [])
unfolding or_root
first-slash p at e = rw e

pub parent-top : (p : Bytes) (at : ℕ) → false ≡ bytes_eq p (47 ∷ []) → LastSlash p at → at ≡ 0 → ParentTold p (Some (47 ∷ []))
parent-top p at h l e = parent-told p (Some (47 ∷ [])) (sym (first-slash p at e) ∙ parent-below p (Some (take at p)) h l.ahead)

some-before : (s : Bytes) (at : ℕ) → at < length s → (at ≡ 0 → ⊥) → or_root (Some (take at s)) ≡ Some (take at s)
unfolding or_root
some-before s zero h ne = absurd (ne refl)
some-before [] (suc at) h ne = absurd (omega arith)
some-before (b ∷ s) (suc at) h ne = refl

pub parent-some : (p : Bytes) (at : ℕ) → false ≡ bytes_eq p (47 ∷ []) → LastSlash p at → (at ≡ 0 → ⊥) → ParentTold p (Some (take at p))
parent-some p at h l ne = parent-told p (Some (take at p)) (sym (some-before p at l.within ne) ∙ parent-below p (Some (take at p)) h l.ahead)

pub record LastTold (p : Bytes) (r : Option Bytes) : Type 0 where
  pub bytes : r ≡ last_bytes p
  pub elements : valid_path p ≡ true → r ≡ last_of (elements_of p)

last-told : (p : Bytes) (r : Option Bytes) → r ≡ last_bytes p → LastTold p r
last-told p r e = record { bytes = e; elements = λ v. e ∙ last-elements p v }

pub last-root : (p : Bytes) → true ≡ bytes_eq p (47 ∷ []) → LastTold p None
last-root p h = last-told p None (ap (λ (t : Bool). cond {A = Option Bytes} t None (after_last p)) h)

last-below : (p : Bytes) (o : Option Bytes) → false ≡ bytes_eq p (47 ∷ []) → after_last p ≡ o → o ≡ last_bytes p
last-below p o h e = sym e ∙ ap (λ (t : Bool). cond t None (after_last p)) h

pub last_none : (p : Bytes) → false ≡ bytes_eq p (47 ∷ []) → NoSlash p → LastTold p None
last_none p h n = last-told p None (last-below p None h n.behind)

pub last_some : (p : Bytes) (at : ℕ) → false ≡ bytes_eq p (47 ∷ []) → LastSlash p at → LastTold p (Some (drop (at + 1) p))
last_some p at h l = last-told p (Some (drop (at + 1) p)) (last-below p (Some (drop (at + 1) p)) h l.behind)
