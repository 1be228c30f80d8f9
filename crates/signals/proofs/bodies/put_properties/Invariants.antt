use Rattle.std.proofs.Common.{take, Ok}
use Rattle.outbox.specs.declared.writing.Full.{Full}
use Rattle.outbox.specs.Marshal.{many}
use Rattle.outbox.specs.Pours.{Poured}
use Rattle.signals.specs.Bodies.{put_property}
use Rattle.signals.specs.Readable.{announced}
use Rattle.signals.proofs.bodies.put_properties.Given as goal

abbrev pub invariant-loop-k : goal.invariant-loop-k
invariant-loop-k g l = Poured {E = Full} l.initial.bytes l.initial.at l.bytes (Ok l.at) (many put_property (take l.k (announced (g.B.Bank.models l.instance.bank.now) l.instance.number).properties))
