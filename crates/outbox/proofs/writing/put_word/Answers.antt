use Rattle.outbox.specs.Marshal.{le32, put_word, raw}
use Rattle.outbox.proofs.Chains.{poured-same, poured_stopped, poured-then}
use Rattle.outbox.proofs.writing.put_word.Goals as goal

pub returns-in_err-at : goal.returns-in_err-at
unfolding put_word
returns-in_err-at c = poured_stopped _ _ _ _ _ _ _ _ c.from_residual.ensures.1 c.in_err-at.ensures

pub returns : goal.returns
unfolding put_word le32
returns c = poured-then _ _ _ _ _ _ _ _ c.in_ok-at.ensures (poured-same _ _ _ _ _ (raw _) c.to_le_bytes.ensures c.put_raw.ensures)
