use Rattle.std.proofs.Common.{◌≡◌, min, fold, ◌∙◌, rules}
use Rattle.signals.specs.declared.list.Record.{Record}
use Rattle.signals.proofs.Told.{fold-before}
use Rattle.signals.proofs.list.text_before.Goals as goal

pub returns : goal.returns
returns c =
    let e : c.fold.result ≡ fold (λ a (r : Record). min a r.start) c.args.used c.args.records.now = search rules in
    e ∙ fold-before c.args.used c.args.records.now
