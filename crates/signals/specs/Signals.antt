-- A signal: its kind, the path of the manager that sends it, and its body.
use Rattle.std.specs.Prelude.{Bool, cond, List, [], ◌∷◌, ◌++◌}
use Rattle.names.specs.Names.{Bytes}
use Rattle.signals.specs.declared.sink.Kind.{Kind}
use Rattle.signals.specs.declared.sink.Signal.{Signal}

pub record SignalModel : Type 0 where
  pub kind : Kind
  pub path : Bytes
  pub body : Bytes

abbrev pub seen_signal : Signal → SignalModel
seen_signal s = record { kind = s.kind; path = s.path.now; body = s.body.now }

-- the list with one signal more if it fits, and else as it was
abbrev pub offered : Bool → List SignalModel → SignalModel → List SignalModel
offered fits list signal = cond fits (list ++ (signal ∷ [])) list
