-- A walk: a turn goes on from a state, or halts with an answer.
use Rattle.std.specs.Prelude.{ℕ, zero, suc, Some, None, Option}

abbrev pub bind : {A B : Type 0} → Option A → (A → Option B) → Option B
bind None f = None
bind (Some x) f = f x

pub data Turn (S R : Type 0) : Type 0 where
  go : S → Turn S R
  halt : Option R → Turn S R

abbrev pub after : {S R : Type 0} → Turn S R → (S → Option R) → Option R
after (go s) f = f s
after (halt r) f = r

-- on from a state, where there is one
abbrev pub onward : {S R : Type 0} → Option S → Turn S R
onward None = halt None
onward (Some s) = go s

-- turns up to a halt, and at most so many
abbrev pub repeat : {S R : Type 0} → (S → Turn S R) → ℕ → S → Option R
repeat turn zero s = None
repeat turn (suc k) s = after (turn s) (repeat turn k)
