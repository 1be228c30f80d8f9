use Rattle.std.proofs.lemmas.Result.{err_from_is_err_and}
use Rattle.names.proofs.Parts.{breaks-several, breaks-single}
use Rattle.names.proofs.grammar.Alphabet.check_several.Goals as goal

pub returns-in_err-check_elements : goal.returns-in_err-check_elements
returns-in_err-check_elements c =
    let p = err_from_is_err_and c.from_residual.result c.from_residual.ensures.1 in
    rw (p.1, p.2) (breaks-several c.args.self c.requires c.in_err-check_elements.ensures)

pub returns-else-parts : goal.returns-else-parts
returns-else-parts c = breaks-single c.args.self c.requires c.in_ok-check_elements.ensures c.if-parts.ensures
