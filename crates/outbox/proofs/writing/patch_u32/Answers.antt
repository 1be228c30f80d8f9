use Rattle.std.proofs.Common.{length, ap, ◌∙◌, arith}
use Rattle.std.proofs.lemmas.Result.{err_from_is_err_and}
use Rattle.outbox.specs.Marshal.{le32}
use Rattle.outbox.specs.Pours.{written}
use Rattle.outbox.proofs.writing.patch_u32.Goals as goal

pub returns-in_err-put_raw : goal.returns-in_err-put_raw
unfolding le32
returns-in_err-put_raw c =
    let p = err_from_is_err_and c.from_residual.result c.from_residual.ensures.1 in
    let q = c.in_err-put_raw.ensures.by in
    rw p.1 (record { by = (q.kept, omega (arith, q.full, ap length c.to_le_bytes.ensures)) })

pub returns : goal.returns
unfolding le32
returns c =
    let q = c.in_ok-put_raw.ensures.by in
    record { by = (q.bytes ∙ ap (written c.args.bytes.now c.args.at) c.to_le_bytes.ensures, omega (arith, q.ends, q.fits, ap length c.to_le_bytes.ensures)) }
