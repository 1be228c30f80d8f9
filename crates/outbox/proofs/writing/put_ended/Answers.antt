use Rattle.outbox.specs.Marshal.{ended}
use Rattle.outbox.proofs.Chains.{poured_stopped, poured-then}
use Rattle.outbox.proofs.writing.put_ended.Goals as goal

pub returns-in_err-at : goal.returns-in_err-at
unfolding ended
returns-in_err-at c = poured_stopped _ _ _ _ _ _ _ _ c.from_residual.ensures.1 c.in_err-at.ensures

pub returns : goal.returns
unfolding ended
returns c = poured-then _ _ _ _ _ _ _ _ c.in_ok-at.ensures c.put_raw-2.ensures
