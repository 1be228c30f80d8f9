use Rattle.std.proofs.Common.{rules}
use Rattle.outbox.specs.Marshal.{put_bool}
use Rattle.outbox.specs.Pours.{Poured}
use Rattle.outbox.proofs.ReadBack.{bool-reads, reads-back}
use Rattle.outbox.proofs.writing.put_bool.Goals as goal

pub returns : goal.returns
returns c =
    let wrote : Poured c.args.bytes.now c.args.from c.put_word.new.bytes c.put_word.result (put_bool c.args.b) = search rules in
    record { wrote = wrote; reads = reads-back _ _ _ _ _ _ _ (bool-reads c.args.b) wrote }
