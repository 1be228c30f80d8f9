use Rattle.std.proofs.Common.{arith}
use Rattle.message.specs.Headers.{entered_all, look}
use Rattle.message.proofs.Walk.{begun, next}
use Rattle.message.proofs.fields.read_fields.Goals as goal

pub loop-at-init : goal.loop-at-init
loop-at-init c = begun c.args.reader.order c.args.reader.message.now (look c.none-fields.result) c.none-fields.ensures

pub loop-at-preserved : goal.loop-at-preserved
loop-at-preserved c =
    next c.args.reader.order c.args.reader.message.now (look c.note.new.self) c.in_ok-found.end (entered_all c.in_ok-found.found) c.loop-at.invariant c.loop-at-test.true (grind arith) (grind arith) c.note.ensures
