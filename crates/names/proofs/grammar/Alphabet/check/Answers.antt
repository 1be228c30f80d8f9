use Rattle.std.proofs.Common.{rules}
use Rattle.names.proofs.Leads.{valid-parts}
use Rattle.names.proofs.grammar.Alphabet.check.Goals as goal

pub returns-then-not-fits-clause-answer : goal.returns-then-not-fits-clause-answer
returns-then-not-fits-clause-answer c = rw valid-parts (search rules)

pub returns-clause-answer : goal.returns-clause-answer
returns-clause-answer c = rw valid-parts (search rules)
