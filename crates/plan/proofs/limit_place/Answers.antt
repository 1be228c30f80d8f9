use Rattle.std.proofs.Common.{◌≡◌, ℕ, zero, suc, ◌+◌, ◌<◌, ◌≤◌, true, false, length, take, Some, None, Option, refl, sym, ap, ◌∙◌, add-one, arith, rules, take_all, MatchOption}
use Rattle.std.proofs.lemmas.Iterator.{first_from_Range}
use Rattle.names.specs.Names.{Bytes}
use Rattle.names.specs.Paths.{makeable}
use Rattle.plan.specs.Plans.{Unmakeable}
use Rattle.plan.proofs.limit_place.Goals as goal

-- where each longer beginning can be made, so can this one
kept : (path : Bytes) (n : ℕ) → ((k : ℕ) → k < n → makeable (take (k + 1) path) ≡ true) → makeable (take n path) ≡ true
unfolding makeable
kept path zero h = refl
kept path (suc n) h = rw add-one at (h n (omega arith))

found : (path : Bytes) (r : Option ℕ) → makeable path ≡ false →
    MatchOption r ((k : ℕ) → 0 ≤ k → k < length path → makeable (take (k + 1) path) ≡ true)
    (λ i. (0 ≤ i) × (i < length path) × (makeable (take (i + 1) path) ≡ false) × ((k : ℕ) → 0 ≤ k → k < i → makeable (take (k + 1) path) ≡ true)) →
    MatchOption r (makeable path ≡ true) (λ at. (makeable path ≡ false) × Unmakeable path at)
found path None e h = ap makeable (sym (take_all (length path) path (omega arith))) ∙ kept path (length path) (λ k lt. h k (omega arith) lt)
found path (Some i) e h = (e, record { within = h.1; kept = kept path i (λ k lt. h.3 k (omega arith) lt); broken = h.2 })

pub returns : goal.returns
returns c =
    let path = c.args.path.now in
    let broken : makeable path ≡ false = sym c.if-is_makeable.ensures in
    found path c.find.result broken
    (first_from_Range _ _ _ c.find.result (λ i. makeable (take (i + 1) path) ≡ false) (λ i. makeable (take (i + 1) path) ≡ true) c.find.ensures.ran (λ i q k. search rules) (λ i q k. search rules))
