use Rattle.outbox.proofs.Chains.{poured-pad}
use Rattle.outbox.proofs.writing.put_pad.Goals as goal

pub returns : goal.returns
returns c = poured-pad _ _ _ _ _ _ c.gap_to-n.ensures.value c.put_raw.ensures
