use Rattle.std.proofs.Common.{◌∙◌, arith}
use Rattle.std.proofs.lemmas.Bool.{le-leb, lt-leb}
use Rattle.names.proofs.Limits.{too-big, root-makeable, path-makeable}
use Rattle.names.proofs.paths.is_makeable.Goals as goal

pub returns-then-path-le1 : goal.returns-then-path-le1
returns-then-path-le1 c = le-leb _ 1 (omega arith) ∙ root-makeable c.args.path.now (omega arith)

pub returns-else-path-le1 : goal.returns-else-path-le1
returns-else-path-le1 c = c.elements_fit.ensures ∙ path-makeable c.args.path.now (omega arith) (omega arith)

pub returns-else-path-le-MAX_PATH : goal.returns-else-path-le-MAX_PATH
returns-else-path-le-MAX_PATH c = lt-leb _ 255 (omega arith) ∙ too-big c.args.path.now (omega arith)
