use Rattle.std.proofs.Common.{length}
use Rattle.names_cases.proofs.unescaped.Given as goal

abbrev pub decreases-loop-value : goal.decreases-loop-value
decreases-loop-value l = length l.left
