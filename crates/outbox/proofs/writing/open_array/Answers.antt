use Rattle.outbox.specs.Marshal.{open_array}
use Rattle.outbox.proofs.Chains.{poured_stopped, poured-then}
use Rattle.outbox.proofs.writing.open_array.Goals as goal

pub returns-in_err-at : goal.returns-in_err-at
unfolding open_array
returns-in_err-at c = poured_stopped _ _ _ _ _ _ _ _ c.from_residual.ensures.1 c.in_err-at.ensures

pub returns : goal.returns
unfolding open_array
returns c = poured-then _ _ _ _ _ _ _ _ c.in_ok-at.ensures c.put_pad.ensures
