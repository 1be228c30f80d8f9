use Rattle.std.proofs.Common.{rules}
use Rattle.names.proofs.Walks.{deeper-parts}
use Rattle.names.proofs.paths.goes_deeper.Goals as goal

pub returns-in-47 : goal.returns-in-47
returns-in-47 c = rw deeper-parts (search rules)

pub returns-in_default : goal.returns-in_default
returns-in_default c = rw deeper-parts (search rules)

pub returns-in_default-2 : goal.returns-in_default-2
returns-in_default-2 c = rw deeper-parts (search rules)
