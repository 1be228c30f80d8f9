use Rattle.outbox.proofs.ReadBack.{every-reads-back}
use Rattle.outbox.proofs.writing.values_read_back.Goals as goal

pub returns : goal.returns
returns c = every-reads-back
