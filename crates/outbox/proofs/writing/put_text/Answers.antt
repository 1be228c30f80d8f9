use Rattle.std.proofs.Common.{arith}
use Rattle.outbox.specs.Marshal.{put_text}
use Rattle.outbox.proofs.Chains.{poured-long, poured_stopped, poured-then}
use Rattle.outbox.proofs.Lengths.{length-text}
use Rattle.outbox.proofs.writing.put_text.Goals as goal

pub returns-then-text-gt-MAX_LEN : goal.returns-then-text-gt-MAX_LEN
returns-then-text-gt-MAX_LEN c = poured-long _ _ _ _ (omega (arith, length-text c.args.code c.args.text.now c.args.from))

pub returns-in_err-at : goal.returns-in_err-at
unfolding put_text
returns-in_err-at c = poured_stopped _ _ _ _ _ _ _ _ c.from_residual.ensures.1 c.in_err-at.ensures

pub returns : goal.returns
unfolding put_text
returns c = poured-then _ _ _ _ _ _ _ _ c.in_ok-at.ensures c.put_ended.ensures
