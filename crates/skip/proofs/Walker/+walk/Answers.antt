use Rattle.std.proofs.Common.{◌≤◌, length, arith}
use Rattle.signature.proofs.Runs.{begun, next}
use Rattle.skip.proofs.Walker.+walk.Goals as goal

pub fields-loop-levels-init : goal.fields-loop-levels-init
fields-loop-levels-init t c =
    let ahead = c.in_ok-i.ensures.ahead in
    let from : c.args.pos ≤ c.in_ok-start.start = grind arith in
    (ahead.0, ahead.1, omega (arith, from, ahead.2), ahead.3, begun _ _ (length c.args.self.signature.now) (c.in_ok-i.i, c.in_ok-i.p) (omega arith))

pub fields-loop-levels-preserved : goal.fields-loop-levels-preserved
fields-loop-levels-preserved t c =
    let ahead = c.in_ok-i-2.ensures.ahead in (
      omega (arith, ahead.0, c.loop-levels.invariant.0),
      ahead.1,
      omega (arith, ahead.2, c.loop-levels.invariant.2),
      ahead.3,
      next _ _ (c.in_ok-i-2.field-0-0, c.in_ok-i-2.field-0-1) c.loop-levels.invariant.4 (grind arith) (omega (arith, ahead.0, ahead.1)),
    )

pub items-loop-p-preserved : goal.items-loop-p-preserved
items-loop-p-preserved t c = next _ _ c.in_ok-p.field-0-1 c.loop-p.invariant (grind arith) (omega (arith, c.in_ok-p.ensures.ahead.2))
