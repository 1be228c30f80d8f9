use Rattle.std.proofs.Common.{sym, ◌∙◌}
use Rattle.signals.proofs.Told.{got, shown_by}
use Rattle.signals.proofs.list.SignalList.get.Goals as goal

pub returns : goal.returns
returns c =
    let l = c.args.self.now in
    let r = c.in_ok-record.record in
    shown_by l.text.now _ _ r.now _ _ c.text_before-limit.ensures c.cut.ensures c.cut-2.ensures
    ∙ sym (got l.text.now l.records.now l.count l.used c.args.i c.len.result r c.len.ensures.records c.in_ok-record.ensures.lookup)
