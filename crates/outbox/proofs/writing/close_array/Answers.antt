use Rattle.std.proofs.Common.{◌≡◌, ◌+◌, ◌-◌, ◌<◌, ◌≤◌, length, Ok, Err, refl, ap, ◌∙◌, arith}
use Rattle.signature.specs.declared.codes.Code.TheVariants.{Array}
use Rattle.outbox.specs.declared.writing.Full.{Full}
use Rattle.outbox.specs.Marshal.{contents_at, le32, pad}
use Rattle.outbox.specs.Pours.{Closed, room, written}
use Rattle.outbox.proofs.Arrays.{after-start, closes, contents-is, hole-at}
use Rattle.outbox.proofs.writing.close_array.Goals as goal
use Rattle.outbox.proofs.writing.close_array.Goals.{then-start-end-via-then-start-end, then-start-end-via-else-start-end+then-end-min}

pub returns-then-start-end : goal.returns-then-start-end
returns-then-start-end c =
    let full : contents_at c.args.element c.args.start ≤ c.args.end → room c.args.bytes.now < c.args.end =
    λ h.
    elim c.then-start-end.branch [
      | then-start-end-via-then-start-end w ↦ absurd (omega (arith, after-start c.args.element c.args.start, w.if-start-end.true))
      | then-start-end-via-else-start-end+then-end-min w ↦ omega (arith, w.if-end-min.true, w.min.ensures)
    ] in
    let p : Closed {E = Full} c.args.bytes.now c.args.start c.args.element c.args.end c.args.bytes.now (Err (record {})) = record { by = (refl, full) } in
    record { patched = p; closes = λ was w a. closes _ _ _ _ _ _ _ w p a }

pub returns-then-contents-end : goal.returns-then-contents-end
returns-then-contents-end c =
    let at = contents-is c.args.element c.args.start _ _ c.gap_to.ensures.value c.gap_to-2.ensures.value in
    let p : Closed {E = Full} c.args.bytes.now c.args.start c.args.element c.args.end c.args.bytes.now (Err (record {})) = record { by = (refl, λ h. absurd (omega (arith, at))) } in
    record { patched = p; closes = λ was w a. closes _ _ _ _ _ _ _ w p a }

pub returns-in_err-put_raw : goal.returns-in_err-put_raw
returns-in_err-put_raw c = absurd (omega (arith, c.in_err-put_raw.ensures.by.full, ap length c.to_le_bytes.ensures, c.min.ensures))

pub returns : goal.returns
unfolding le32
returns c =
    let s = c.args.start in
    let at = contents-is c.args.element s _ _ c.gap_to.ensures.value c.gap_to-2.ensures.value in
    let hole = hole-at c.args.element s _ _ c.gap_to.ensures.value c.gap_to-2.ensures.value in
    let n : c.args.end - (s + c.gap_to.result + 4 + c.gap_to-2.result) ≡ c.args.end - contents_at c.args.element s = omega arith in
    let e : c.to_le_bytes.result ≡ le32 (c.args.end - contents_at c.args.element s) = c.to_le_bytes.ensures ∙ ap le32 n in
    let is : c.put_raw.new.bytes ≡ written c.args.bytes.now (s + length (pad Array s)) (le32 (c.args.end - contents_at c.args.element s)) =
    c.in_ok-put_raw.ensures.by.bytes ∙ ap (λ k. written c.args.bytes.now k c.to_le_bytes.result) hole ∙ ap (written c.args.bytes.now (s + length (pad Array s))) e in
    let p : Closed {E = Full} c.args.bytes.now s c.args.element c.args.end c.put_raw.new.bytes (Ok c.args.end) =
    record { by = (refl, is, omega (arith, at), omega (arith, c.min.ensures)) } in
    record { patched = p; closes = λ was w a. closes _ _ _ _ _ _ _ w p a }
