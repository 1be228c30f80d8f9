use Rattle.names.proofs.Scans.{Keeps}
use Rattle.names.proofs.grammar.Alphabet.check_elements.Given as goal

abbrev pub invariant-loop-i : goal.invariant-loop-i
invariant-loop-i l = Keeps l.self l.s l.fresh l.i
