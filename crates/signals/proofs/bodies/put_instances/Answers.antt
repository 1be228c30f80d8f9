use Rattle.std.proofs.Common.{◌≤◌, map, length, ap, ◌∙◌, arith}
use lib.ListN.{length-map}
use Rattle.std.proofs.Math.Path.{ap₂}
use Rattle.std.proofs.lemmas.List.{take_all}
use Rattle.std.proofs.lemmas.Result.{err_from_is_err_and}
use Rattle.std.specs.Borrow.{Bor}
use Rattle.outbox.specs.Marshal.{many}
use Rattle.outbox.specs.Pours.{room}
use Rattle.signals.specs.Bodies.{put_announced}
use Rattle.signals.specs.Readable.{announced}
use Rattle.signals.proofs.Loops.{nth-mapped, poured-more, poured-none, poured-stuck}
use Rattle.signals.proofs.Pieces.{poured-as}
use Rattle.signals.proofs.Readings.{never, readable-at}
use Rattle.signals.proofs.bodies.put_instances.Goals as goal

pub loop-i-init : goal.loop-i-init
loop-i-init g c = let le : c.args.from ≤ room c.args.bytes.now = omega arith in poured-none put_announced _ _ le

pub returns-in_err-instance : goal.returns-in_err-instance
returns-in_err-instance g c =
    absurd (never _ (c.in_err-instance.ensures.answer ∙ readable-at _ c.args.instances.now c.loop-i.i-index 0 c.loop-i-test.true c.requires))

pub returns-in_err-at : goal.returns-in_err-at
returns-in_err-at g c =
    let f = announced (g.B.Bank.models c.args.bank.now) in
    let it = c.in_ok-instance.ensures.instance in
    let part = ap put_announced (ap₂ (λ (b : Bor g.row.B.Denot) n. announced (g.B.Bank.models b.now) n) it.0 it.1) in
    let p = err_from_is_err_and c.from_residual-in_err-at.result c.from_residual-in_err-at.ensures.1 in
    record {
      wrote = rw p.1 (poured-stuck put_announced _ _ _ _ _ _ c.loop-i.i-index _ (nth-mapped f c.args.instances.now c.loop-i.i-index 0 c.loop-i-test.true) c.loop-i.invariant _ _ (poured-as _ _ _ _ _ _ part c.in_err-at.ensures));
      full = rw p.1 p.2;
    }

pub loop-i-preserved : goal.loop-i-preserved
loop-i-preserved g c =
    let f = announced (g.B.Bank.models c.args.bank.now) in
    let it = c.in_ok-instance.ensures.instance in
    let part = ap put_announced (ap₂ (λ (b : Bor g.row.B.Denot) n. announced (g.B.Bank.models b.now) n) it.0 it.1) in
    poured-more put_announced _ _ _ _ _ _ c.loop-i.i-index _ (nth-mapped f c.args.instances.now c.loop-i.i-index 0 c.loop-i-test.true) c.loop-i.invariant _ (poured-as _ _ _ _ _ _ part c.in_ok-at.ensures)

pub returns : goal.returns
returns g c =
    let xs = map (announced (g.B.Bank.models c.args.bank.now)) c.args.instances.now in
    let le : length xs ≤ c.loop-i.i-index = omega (arith, length-map c.args.instances.now (announced (g.B.Bank.models c.args.bank.now)), c.loop-i-test.false) in
    record { wrote = poured-as _ _ _ _ _ _ (ap (many put_announced) (take_all c.loop-i.i-index xs le)) c.loop-i.invariant; full = tt }
