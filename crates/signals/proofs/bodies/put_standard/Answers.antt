use Rattle.outbox.specs.Marshal.{put_string}
use Rattle.outbox.proofs.Chains.{poured-stops, poured-then}
use Rattle.signals.specs.Bodies.{put_announced, put_properties, put_property}
use Rattle.signals.proofs.Loops.{array-unopened, poured-empty}
use Rattle.signals.proofs.Pieces.{poured-as, poured-fails}
use Rattle.std.proofs.Common.{ap}
use Rattle.signals.proofs.bodies.put_standard.Goals as goal

pub returns-in_err-at : goal.returns-in_err-at
unfolding put_announced put_properties
returns-in_err-at c =
    poured-fails _ _ _ _ _ c.from_residual.ensures.0 (λ e. poured-stops _ _ _ _ _ _ _ c.in_err-at.ensures)

pub returns-in_err-start : goal.returns-in_err-start
unfolding put_announced put_properties
returns-in_err-start c =
    poured-fails _ _ _ _ _ c.from_residual-in_err-start.ensures.0 (λ e. poured-then _ _ _ _ _ _ _ _ c.in_ok-at.ensures (poured-stops _ _ _ _ _ _ _ (poured-as _ _ _ _ _ _ (ap put_string c.name.ensures) c.in_err-start.ensures.wrote)))

pub returns-in_err-at-2 : goal.returns-in_err-at-2
unfolding put_announced put_properties
returns-in_err-at-2 c =
    poured-fails _ _ _ _ _ c.from_residual-in_err-at-2.ensures.0 (λ e. poured-then _ _ _ _ _ _ _ _ c.in_ok-at.ensures (poured-then _ _ _ _ _ _ _ _ (poured-as _ _ _ _ _ _ (ap put_string c.name.ensures) c.in_ok-start.ensures.wrote) (array-unopened _ _ _ _ _ _ _ (c.in_err-at-2.ensures))))

pub returns : goal.returns
unfolding put_announced put_properties
returns c = poured-then _ _ _ _ _ _ _ _ c.in_ok-at.ensures (poured-then _ _ _ _ _ _ _ _ (poured-as _ _ _ _ _ _ (ap put_string c.name.ensures) c.in_ok-start.ensures.wrote) (c.close_array.ensures.closes _ _ (poured-empty put_property _ _ _ _ _ c.in_ok-at-2.ensures)))
