-- What a read answers, step by step.
use Rattle.std.proofs.Common.{◌≡◌, Ok, Result, sym, ap}
use Rattle.wire.specs.declared.reading.Fault.{Fault}
use Rattle.wire.specs.Reading.{and_then}

pub goes : {A B : Type 0} {r : Result A Fault} {x : A} (f : A → Result B Fault) → Ok x ≡ r → and_then r f ≡ f x
goes f e = ap (λ r. and_then r f) (sym e)
