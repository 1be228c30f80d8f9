use Rattle.std.proofs.Common.{arith, length-take}
use Rattle.signals.proofs.Told.{length-told}
use Rattle.signals.proofs.list.SignalList.len.Goals as goal

pub returns : goal.returns
returns c = record { value = simp (length-told, length-take) (omega (arith, c.min.ensures)); records = c.min.ensures }
