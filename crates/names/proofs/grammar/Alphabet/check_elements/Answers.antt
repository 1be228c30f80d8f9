use Rattle.std.proofs.Common.{not, sym, ap, ◌∙◌, arith}
use Rattle.std.proofs.lemmas.Result.{err_from_is_err_and}
use Rattle.names.proofs.Options.{none-ok_or}
use Rattle.names.proofs.Scans.{keeps-more, stops, whole, unfinished}
use Rattle.names.proofs.grammar.Alphabet.check_elements.Goals as goal

pub returns-in_err-fresh : goal.returns-in_err-fresh
returns-in_err-fresh c =
    let p = err_from_is_err_and c.from_residual.result c.from_residual.ensures.1 in
    let n = none-ok_or c.step.result c.loop-i.i c.in_err-fresh.field-0.0 (sym c.in_err-fresh.ensures.value) in
    rw (p.1, p.2, n.1) (stops c.args.self c.loop-i.invariant c.loop-i-test.true (sym n.0 ∙ c.step.ensures))

pub loop-i-preserved : goal.loop-i-preserved
loop-i-preserved c = keeps-more c.args.self c.loop-i.invariant c.loop-i-test.true (sym c.in_ok-fresh.ensures.ok_part ∙ c.step.ensures)

pub returns-then-fresh : goal.returns-then-fresh
returns-then-fresh c = unfinished c.args.self c.loop-i.invariant (omega arith) c.if-fresh.true

pub returns-else-fresh : goal.returns-else-fresh
returns-else-fresh c = whole c.args.self c.loop-i.invariant c.loop-i-test.false ∙ ap not c.if-fresh.false
