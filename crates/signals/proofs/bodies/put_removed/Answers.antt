use Rattle.outbox.specs.Marshal.{put_string}
use Rattle.outbox.proofs.Chains.{poured-stops, poured-then}
use Rattle.signals.specs.Bodies.{removed_part}
use Rattle.signals.proofs.Loops.{array-stops, array-unopened, poured-one}
use Rattle.signals.proofs.Pieces.{poured-fails}
use Rattle.signals.proofs.bodies.put_removed.Goals as goal

pub returns-in_err-start : goal.returns-in_err-start
unfolding removed_part
returns-in_err-start c =
    poured-fails _ _ _ _ _ c.from_residual.ensures.0 (λ e. poured-stops _ _ _ _ _ _ _ c.in_err-start.ensures.wrote)

pub returns-in_err-at : goal.returns-in_err-at
unfolding removed_part
returns-in_err-at c =
    poured-fails _ _ _ _ _ c.from_residual-in_err-at.ensures.0 (λ e. poured-then _ _ _ _ _ _ _ _ c.in_ok-start.ensures.wrote (array-unopened _ _ _ _ _ _ _ (c.in_err-at.ensures)))

pub returns-in_err-at-2 : goal.returns-in_err-at-2
unfolding removed_part
returns-in_err-at-2 c =
    poured-fails _ _ _ _ _ c.from_residual-in_err-at-2.ensures.0 (λ e. poured-then _ _ _ _ _ _ _ _ c.in_ok-start.ensures.wrote (array-stops _ _ _ _ _ _ _ (poured-then _ _ _ _ _ _ _ _ c.in_ok-at.ensures (poured-one put_string _ _ _ _ _ c.in_err-at-2.ensures.wrote))))

pub returns : goal.returns
unfolding removed_part
returns c = poured-then _ _ _ _ _ _ _ _ c.in_ok-start.ensures.wrote (c.close_array.ensures.closes _ _ (poured-then _ _ _ _ _ _ _ _ c.in_ok-at.ensures (poured-one put_string _ _ _ _ _ c.in_ok-at-2.ensures.wrote)))
