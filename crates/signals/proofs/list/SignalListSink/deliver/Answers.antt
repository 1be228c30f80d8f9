use Rattle.std.proofs.Common.{◌≡◌, ◌+◌, ◌<◌, ◌≤◌, true, ltb, leb, length, sym, ap, ◌∙◌, arith}
use Rattle.std.proofs.lemmas.Bool.{and_parts, leb-true, ltb-true}
use Rattle.signals.specs.Lists.{list_fits, list_waiting}
use Rattle.signals.specs.Signals.{offered, seen_signal}
use Rattle.signals.proofs.Told.{delivered}
use Rattle.signals.proofs.list.SignalListSink.deliver.Goals as goal

pub returns : goal.returns
returns c =
    let l = c.args.self.now in
    let s = seen_signal c.args.signal in
    let yes : list_fits l s ≡ true = sym c.accepts.ensures ∙ c.if-not-accepts.false in
    let both = and_parts (ltb l.count (length l.records.now)) (leb (l.used + (length s.path + length s.body)) (length l.text.now)) yes in
    let lt : l.count < length l.records.now = ltb-true _ _ both.0 in
    let room : l.used + (length s.path + length s.body) ≤ length l.text.now = leb-true _ _ both.1 in
    record {
      answer = sym yes;
      after =
          delivered l.text.now s.path s.body l.used room l.records.now l.count s.kind _ _ _ _
          c.copy_from_slice.ensures.after c.copy_from_slice-2.ensures.after (omega arith) (omega arith) lt
          ∙ ap (λ b. offered b (list_waiting l) s) (sym yes);
    }
