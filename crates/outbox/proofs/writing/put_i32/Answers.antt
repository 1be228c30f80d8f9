use Rattle.std.proofs.Common.{◌≡◌, ◌^◌, ◌<◌, refl, arith, w32, of_z, rules}
use Rattle.signature.specs.declared.codes.Code.TheVariants.{Int32}
use Rattle.signature.specs.Codes.{align_of}
use Rattle.outbox.specs.Marshal.{put_i32}
use Rattle.outbox.specs.Pours.{Poured}
use Rattle.outbox.proofs.ReadBack.{reads-back, word-reads}
use Rattle.outbox.proofs.writing.put_i32.Goals as goal

pub returns : goal.returns
unfolding align_of
returns c =
    let bits = of_z w32 c.args.n in
    let e : c.cast_unsigned.result ≡ bits = search rules in
    let lt : bits < 2 ^ 32 = omega arith in
    let wrote : Poured c.args.bytes.now c.args.from c.put_word.new.bytes c.put_word.result (put_i32 c.args.n) = search rules in
    record { wrote = wrote; reads = reads-back _ _ _ _ _ _ _ (word-reads Int32 bits refl lt) wrote }
