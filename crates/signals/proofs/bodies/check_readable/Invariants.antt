use Rattle.std.proofs.Common.{◌≡◌, drop}
use Rattle.signals.specs.Readable.{readable}
use Rattle.signals.proofs.bodies.check_readable.Given as goal

abbrev pub invariant-loop-i : goal.invariant-loop-i
invariant-loop-i g l = readable (g.B.Bank.models l.bank) (drop l.i-index l.instances) ≡ readable (g.B.Bank.models l.bank) l.instances
