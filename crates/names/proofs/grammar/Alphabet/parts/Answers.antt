use Rattle.std.proofs.Common.{◌∙◌, rules, tests}
use Rattle.std.proofs.lemmas.Iterator.{YieldsList-from_slice}
use Rattle.std.proofs.lemmas.Iterator.Search.{any_from_yields_List}
use Rattle.names.specs.Faults.{separates}
use Rattle.names.proofs.Parts.{any-several}
use Rattle.names.proofs.grammar.Alphabet.parts.Goals as goal

pub returns : goal.returns
returns c =
    any_from_yields_List (separates c.args.self) _ _ _ c.any.ensures.ran (YieldsList-from_slice c.args.s.now (cc)) (λ x b q k. search (rules, tests))
    ∙ any-several (separates c.args.self) c.args.s.now
