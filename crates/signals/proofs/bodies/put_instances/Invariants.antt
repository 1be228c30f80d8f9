use Rattle.std.proofs.Common.{map, take, Ok}
use Rattle.outbox.specs.Marshal.{many}
use Rattle.outbox.specs.Pours.{Poured}
use Rattle.signals.specs.declared.bodies.BodyError.{BodyError}
use Rattle.signals.specs.Bodies.{put_announced}
use Rattle.signals.specs.Readable.{announced}
use Rattle.signals.proofs.bodies.put_instances.Given as goal

abbrev pub invariant-loop-i : goal.invariant-loop-i
invariant-loop-i g l = Poured {E = BodyError} l.initial.bytes l.initial.at l.bytes (Ok l.at) (many put_announced (take l.i-index (map (announced (g.B.Bank.models l.bank)) l.instances)))
