-- A loop of the code runs as `repeat` does.
use Rattle.std.proofs.Common.{◌≡◌, ℕ, zero, suc, ◌<◌, ◌≤◌, refl, ap, ◌∙◌, arith}
use Rattle.signature.specs.Repeat.{Turn, go, after, repeat}

module _ {S R : Type 0} (turn : S → Turn S R) (size : S → ℕ) where
  -- from the state s the loop answers what it answers from its start, in at most n turns more
  pub record Runs (n : ℕ) (start s : S) : Type 0 where
    pub fuel : ℕ
    pub enough : size s ≤ fuel
    pub same : repeat turn (suc n) start ≡ repeat turn (suc fuel) s

  pub begun : (n : ℕ) (s : S) → size s ≤ n → Runs n s s
  begun n s h = record { fuel = n; enough = h; same = refl }

  onward : {n : ℕ} {start s : S} (t : S) (k : ℕ) → size s ≤ k → repeat turn (suc n) start ≡ repeat turn (suc k) s → turn s ≡ go t → size t < size s → Runs n start t
  onward t zero e p is less = absurd (omega arith)
  onward t (suc k) e p is less = record { fuel = k; enough = omega arith; same = p ∙ ap (λ w. after w (repeat turn (suc k))) is }

  pub next : {n : ℕ} {start s : S} (t : S) → Runs n start s → turn s ≡ go t → size t < size s → Runs n start t
  next t w is less = onward t w.fuel w.enough w.same is less
