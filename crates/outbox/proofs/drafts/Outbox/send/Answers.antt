use Rattle.std.proofs.Common.{◌≡◌, ◌+◌, take, refl, ap, ◌∙◌, arith}
use Rattle.outbox.specs.Drafts.{drafted, following}
use Rattle.outbox.proofs.Lent.{added}
use Rattle.outbox.proofs.drafts.Outbox.send.Goals as goal

pub returns : goal.returns
returns g c =
    let o = c.args.self.now in
    let q = c.in_ok-put.ensures.went in
    let lent = c.begin-draft.ensures.lent in
    let start = c.begin-draft.ensures.start in
    let n = drafted c.put.new.self in
    let none : drafted c.begin-draft.result ≡ 0 = omega (arith, start, ap (λ m. m.now.fill) lent) in
    let a = added o.bytes.now c.put.new.bytes o.mark.fill c.begin-draft.result.start (drafted c.begin-draft.result) n _ start none q.below q.wrote in
    let fill : c.keep.new.self.0.fill ≡ o.mark.fill + n = c.keep.ensures.fill ∙ q.fill ∙ ap (λ k. k + n) start in
    record {
      by = record {
        kept = ap (λ k. take k c.put.new.bytes) fill ∙ a.0;
        fill = fill ∙ ap (λ k. o.mark.fill + k) a.1;
        serial = c.keep.ensures.serial ∙ ap following (q.serial ∙ ap (λ m. m.now.serial) lent);
        fits = a.2;
      };
      size = q.size;
      lent = refl;
    }
