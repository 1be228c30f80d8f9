use Rattle.outbox.proofs.Chains.{poured-then}
use Rattle.signals.specs.Bodies.{put_properties}
use Rattle.signals.proofs.Loops.{array-stops, array-unopened}
use Rattle.signals.proofs.Pieces.{poured-fails}
use Rattle.signals.proofs.bodies.put_dictionary.Goals as goal

pub returns-in_err-at : goal.returns-in_err-at
unfolding put_properties
returns-in_err-at g c =
    poured-fails _ _ _ _ _ c.from_residual.ensures.0 (λ e. array-unopened _ _ _ _ _ _ _ (c.in_err-at.ensures))

pub returns-in_err-at-2 : goal.returns-in_err-at-2
unfolding put_properties
returns-in_err-at-2 g c =
    poured-fails _ _ _ _ _ c.from_residual-in_err-at-2.ensures.0 (λ e. array-stops _ _ _ _ _ _ _ (poured-then _ _ _ _ _ _ _ _ c.in_ok-at.ensures c.in_err-at-2.ensures))

pub returns : goal.returns
unfolding put_properties
returns g c = c.close_array.ensures.closes _ _ (poured-then _ _ _ _ _ _ _ _ c.in_ok-at.ensures c.in_ok-at-2.ensures)
