use Rattle.std.proofs.Common.{◌+◌, ◌-◌, ◌*◌, ◌<◌, ◌≤◌, false, length}
use Rattle.signature.specs.Signatures.{field_turn, type_end}
use Rattle.signature.proofs.Runs.{Runs}
use Rattle.signature.proofs.+entry_end_fields_end_type_end.Given as goal

abbrev pub decreases-entry_end : goal.decreases-entry_end
decreases-entry_end l = 2 * l.levels.all + 1

abbrev pub decreases-fields_end : goal.decreases-fields_end
decreases-fields_end l = 2 * l.levels.all + 1

abbrev pub decreases-type_end : goal.decreases-type_end
decreases-type_end l = 2 * l.levels.all

abbrev pub invariant-fields_end-loop-levels : goal.invariant-fields_end-loop-levels
invariant-fields_end-loop-levels l =
    (l.at < l.i) × (l.i ≤ length l.signature) × Runs (field_turn (type_end l.signature false l.levels) l.signature) (λ i. length l.signature - i) (length l.signature) l.initial.i l.i

abbrev pub decreases-fields_end-loop-levels : goal.decreases-fields_end-loop-levels
decreases-fields_end-loop-levels l = length l.signature - l.i
