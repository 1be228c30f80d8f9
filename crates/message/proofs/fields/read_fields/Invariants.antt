use Rattle.std.proofs.Common.{◌-◌, length}
use Rattle.message.specs.Headers.{look}
use Rattle.message.proofs.Walk.{Walks}
use Rattle.message.proofs.fields.read_fields.Given as goal

abbrev pub invariant-loop-at : goal.invariant-loop-at
invariant-loop-at l = Walks l.reader.order l.reader.message.now (look l.fields) l.at

abbrev pub decreases-loop-at : goal.decreases-loop-at
decreases-loop-at l = length l.reader.message.now - l.at
