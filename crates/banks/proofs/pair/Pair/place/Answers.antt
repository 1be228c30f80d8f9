use Rattle.banks.specs.Joined.{at_place}
use Rattle.banks.proofs.pair.Pair.place.Goals as goal

pub returns-clause-stands : goal.returns-clause-stands
returns-clause-stands g c =
    rw (c.place_of.ensures, c.len.ensures) (at_place (g.A.Bank.models c.args.self.now.first) (g.B.Bank.models c.args.self.now.second) c.args.i)
