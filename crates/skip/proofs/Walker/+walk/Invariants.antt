use Rattle.std.proofs.Common.{◌+◌, ◌-◌, ◌*◌, ◌<◌, ◌≤◌, length}
use Rattle.signature.proofs.Runs.{Runs}
use Rattle.skip.specs.Values.{field_turn, item_turn, value_end}
use Rattle.skip.proofs.Walker.+walk.Given as goal

abbrev pub decreases-value : goal.decreases-value
decreases-value l = 3 * l.levels.all

abbrev pub decreases-items : goal.decreases-items
decreases-items l = 3 * l.levels.all + 1

abbrev pub decreases-array : goal.decreases-array
decreases-array l = 3 * l.levels.all + 2

abbrev pub decreases-fields : goal.decreases-fields
decreases-fields l = 3 * l.levels.all + 1

abbrev pub decreases-variant : goal.decreases-variant
decreases-variant l = 3 * l.levels.all + 1

abbrev pub invariant-items-loop-p : goal.invariant-items-loop-p
invariant-items-loop-p l =
    Runs (item_turn (value_end l.self.reader.order l.self.reader.message.now l.levels l.self.signature.now l.at) l.end) (λ p. l.end - p) (l.end - l.first) l.first l.p

abbrev pub decreases-items-loop-p : goal.decreases-items-loop-p
decreases-items-loop-p l = l.end - l.p

abbrev pub invariant-fields-loop-levels : goal.invariant-fields-loop-levels
invariant-fields-loop-levels l =
    (l.at < l.i) × (l.i ≤ length l.self.signature.now) × (l.pos < l.p) × (l.p ≤ length l.self.reader.message.now)
    × Runs (field_turn (value_end l.self.reader.order l.self.reader.message.now l.levels l.self.signature.now) l.close l.self.signature.now) (λ s. length l.self.signature.now - s.0) (length l.self.signature.now) (l.initial.i, l.initial.p) (l.i, l.p)

abbrev pub decreases-fields-loop-levels : goal.decreases-fields-loop-levels
decreases-fields-loop-levels l = length l.self.signature.now - l.i
