use Rattle.outbox.proofs.Chains.{poured_stopped, poured-stops, poured-then}
use Rattle.signals.proofs.Pieces.{poured-fails}
use Rattle.signals.proofs.bodies.put_property.Goals as goal

pub returns-in_err-at : goal.returns-in_err-at
returns-in_err-at c = poured_stopped _ _ _ _ _ _ _ _ c.from_residual.ensures.1 c.in_err-at.ensures

pub returns-in_err-at-2 : goal.returns-in_err-at-2
returns-in_err-at-2 c =
    poured-fails _ _ _ _ _ c.from_residual-in_err-at-2.ensures.0 (λ e. poured-then _ _ _ _ _ _ _ _ c.in_ok-at.ensures (poured-stops _ _ _ _ _ _ _ c.in_err-at-2.ensures.wrote))

pub returns : goal.returns
returns c =
    poured-then _ _ _ _ _ _ _ _ c.in_ok-at.ensures (poured-then _ _ _ _ _ _ _ _ c.in_ok-at-2.ensures.wrote c.put_value.ensures)
