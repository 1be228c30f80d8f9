use Rattle.std.proofs.Common.{arith}
use Rattle.outbox.proofs.ReadBack.{reads-back, u32-reads}
use Rattle.outbox.proofs.writing.put_u32.Goals as goal

pub returns : goal.returns
returns c = record { wrote = c.put_word.ensures; reads = reads-back _ _ _ _ _ _ _ (u32-reads c.args.n (omega arith)) c.put_word.ensures }
