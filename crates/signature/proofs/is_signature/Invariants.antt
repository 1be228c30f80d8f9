use Rattle.std.proofs.Common.{◌-◌, ◌≤◌, length}
use Rattle.signature.specs.Signatures.{list_turn}
use Rattle.signature.proofs.Runs.{Runs}
use Rattle.signature.proofs.is_signature.Given as goal

abbrev pub invariant-loop-at : goal.invariant-loop-at
invariant-loop-at l = (l.at ≤ length l.signature) × Runs (list_turn l.signature) (λ i. length l.signature - i) (length l.signature) 0 l.at

abbrev pub decreases-loop-at : goal.decreases-loop-at
decreases-loop-at l = length l.signature - l.at
