use Rattle.std.proofs.Common.{◌≡◌, length, rules}
use Rattle.outbox.specs.Marshal.{put_signature}
use Rattle.outbox.proofs.Chains.{poured_stopped, poured-then}
use Rattle.outbox.proofs.ReadBack.{reads-back, signature-reads}
use Rattle.outbox.proofs.writing.put_signature.Goals as goal

pub returns-in_err-at-clause-wrote : goal.returns-in_err-at-clause-wrote
unfolding put_signature
returns-in_err-at-clause-wrote c h =
    let e : c.in_ok-len.len ≡ length c.args.signature.now = search rules in
    poured_stopped _ _ _ _ _ _ _ _ c.from_residual-in_err-at.ensures.1 (rw e at c.in_err-at.ensures)

pub returns-clause-wrote : goal.returns-clause-wrote
unfolding put_signature
returns-clause-wrote c h =
    let e : c.in_ok-len.len ≡ length c.args.signature.now = search rules in
    poured-then _ _ _ _ _ _ _ _ (rw e at c.in_ok-at.ensures) c.put_ended.ensures

pub returns-clause-reads : goal.returns-clause-reads
unfolding put_signature
returns-clause-reads c valid =
    let e : c.in_ok-len.len ≡ length c.args.signature.now = search rules in
    reads-back _ _ _ _ _ _ _ (signature-reads _ valid) (poured-then _ _ _ _ _ _ _ _ (rw e at c.in_ok-at.ensures) c.put_ended.ensures)
