-- A draft's part of the lent bytes, and what an outbox then holds.
use Rattle.std.proofs.Common.{◌≡◌, ℕ, ◌+◌, ◌<◌, ◌≤◌, ◌++◌, length, take, drop, Ok, Err, Result, sym, refl, ap, ◌∙◌, arith}
use Rattle.std.proofs.lemmas.List.{drop-take, take-append-drop, take_at, take-take}
use Rattle.outbox.specs.declared.drafts.Draft.{Draft}
use Rattle.outbox.specs.Drafts.{Went, drafted, reached}
use Rattle.outbox.specs.Marshal.{Bytes, Part, ◌▹◌}
use Rattle.outbox.specs.Pours.{Poured, room}
use Rattle.outbox.proofs.Chains.{poured-stops, poured-then}

pub poured-at : {E : Type 0} (a a' b b' : Bytes) (f f' : ℕ) (r r' : Result ℕ E) (w : Part) → a ≡ a' → b ≡ b' → f ≡ f' → r ≡ r' → Poured a f b r w → Poured a' f' b' r' w
poured-at a a' b b' f f' r r' w p q s t h = rw (sym p, sym q, sym s, sym t) h

take_more : (n m : ℕ) (xs : Bytes) → take (n + m) xs ≡ take n xs ++ take m (drop n xs)
take_more n m xs =
    sym (take-append-drop n (take (n + m) xs)) ∙ ap (λ l. l ++ drop n (take (n + m) xs)) (take-take n (n + m) xs (omega arith)) ∙ ap (λ l. take n xs ++ l) (drop-take n m xs)

-- a whole message behind the first f bytes
pub added : {E : Type 0} (was is : Bytes) (f s a n : ℕ) (w : Part) → s ≡ f → a ≡ 0 → take s is ≡ take s was → Poured {E = E} (drop s was) a (drop s is) (Ok n) w
    → (take (f + n) is ≡ take f was ++ w 0) × (n ≡ length (w 0)) × (length (w 0) ≤ room (drop f was))
added {E} was is f s a n w p q below h =
    let k : take f is ≡ take f was = rw p at below in
    let m : Poured {E = E} (drop f was) 0 (drop f is) (Ok n) w = rw (p, q) at h in
    let l : n ≡ length (w 0) = omega (arith, m.by.ends) in
    let t : take n (drop f is) ≡ w 0 = ap (take n) m.by.bytes ∙ take_at (w 0) _ n (sym l) in
    (take_more f n is ∙ ap (λ x. x ++ take n (drop f is)) k ∙ ap (λ x. take f was ++ x) t, l, omega (arith, m.by.fits))

-- and one that was refused
pub declined : {E : Type 0} (was is : Bytes) (f s a : ℕ) (e : E) (w : Part) → s ≡ f → a ≡ 0 → take s is ≡ take s was → Poured (drop s was) a (drop s is) (Err e) w
    → (take f is ≡ take f was) × (room (drop f was) < length (w 0))
declined was is f s a e w p q below h =
    let k : take f is ≡ take f was = rw p at below in
    let m : Poured (drop f was) 0 (drop f is) (Err e) w = rw (p, q) at h in
    (k, omega (arith, m.by.full))

-- one part of a draft after another
module _ {S T E F : Type 0} (d e f : Draft) (was between is : Bytes) (t : S) (v w : Part) (a : Went {E = E} d was e between (Ok t) v) where
  further : (r : Result T F) → Went e between f is r w → Poured (drop d.start was) (drafted d) (drop d.start is) (reached r (drafted f)) (v ▹ w)
  further r b =
      poured-then _ (drop d.start between) _ _ _ _ v w a.wrote
      (poured-at _ _ _ _ _ _ _ _ w (ap (λ k. drop k between) a.start) (ap (λ k. drop k is) a.start) refl refl b.wrote)

  below : (r : Result T F) → Went e between f is r w → take d.start is ≡ take d.start was
  below r b = let k : take d.start is ≡ take d.start between = rw a.start at b.below in k ∙ a.below

  pub went_then : (r : Result T F) → Went e between f is r w → Went d was f is r (v ▹ w)
  went_then (Ok x) b =
      record {
        wrote = further (Ok x) b;
        below = below (Ok x) b;
        size = b.size ∙ a.size;
        fill = b.fill ∙ ap (λ k. k + drafted f) a.start;
        serial = b.serial ∙ a.serial;
        start = b.start ∙ a.start;
        lent = b.lent ∙ a.lent;
      }
  went_then (Err x) b =
      record {
        wrote = further (Err x) b;
        below = below (Err x) b;
        size = b.size ∙ a.size;
        fill = tt;
        serial = b.serial ∙ a.serial;
        start = b.start ∙ a.start;
        lent = b.lent ∙ a.lent;
      }

pub went-stops : {S T E F : Type 0} (d e : Draft) (was is : Bytes) (x : E) (y : F) (v w : Part) → Went {T = S} d was e is (Err x) v → Went {T = T} d was e is (Err y) (v ▹ w)
went-stops d e was is x y v w a =
    record { wrote = poured-stops _ _ _ x y v w a.wrote; below = a.below; size = a.size; fill = tt; serial = a.serial; start = a.start; lent = a.lent }
