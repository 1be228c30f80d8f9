use Rattle.outbox.proofs.ReadBack.{string-reads, reads-back}
use Rattle.outbox.proofs.writing.put_string.Goals as goal

pub returns : goal.returns
returns c = record { wrote = c.put_text.ensures; reads = λ valid. reads-back _ _ _ _ _ _ _ (string-reads _ valid) c.put_text.ensures }
