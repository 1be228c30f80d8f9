use Rattle.std.proofs.Common.{Err, ap, ◌∙◌}
use Rattle.std.proofs.lemmas.Result.{err_from_is_err_and}
use Rattle.signals.proofs.Readings.{at-end, goes_on, stops_at}
use Rattle.signals.proofs.bodies.check_readable.Goals as goal

pub returns-in_err-read : goal.returns-in_err-read
returns-in_err-read g c =
    let p = err_from_is_err_and c.from_residual.result c.from_residual.ensures.1 in
    let e = stops_at (g.B.Bank.models c.args.bank.now) c.args.instances.now c.loop-i.i-index 0 _ c.loop-i-test.true c.in_err-read.ensures.answer c.loop-i.invariant in
    rw p.1 (ap Err p.2 ∙ e)

pub loop-i-preserved : goal.loop-i-preserved
loop-i-preserved g c = goes_on (g.B.Bank.models c.args.bank.now) c.args.instances.now c.loop-i.i-index 0 c.loop-i-test.true c.in_ok-read.ensures.answer c.loop-i.invariant

pub returns : goal.returns
returns g c = at-end (g.B.Bank.models c.args.bank.now) c.args.instances.now c.loop-i.i-index c.loop-i-test.false c.loop-i.invariant
