-- Which interfaces of a bank are announced, and what hinders it.
use Rattle.std.specs.Prelude.{◌≡◌, ℕ, cond, List, [], ◌∷◌, IfErr, Some, None, Ok, Err, Option, Result, ◌==◌}
use Rattle.std.specs.List.{slice_get}
use Rattle.outbox.specs.Marshal.{Bytes, Part}
use Rattle.outbox.specs.Pours.{Poured}
use Rattle.effects.specs.Model.{InterfaceModel}
use Rattle.signals.specs.declared.bodies.BodyError.{BodyError}
use Rattle.signals.specs.declared.bodies.BodyError.TheVariants.{NoSuchInstance, PropertyFault, Full}
use Rattle.signals.specs.Bodies.{Announced, own_one, standard_one}

-- one instance: the number may name nothing, and a fault number that is not 0 hinders the reading
abbrev pub readable_one : ℕ → Option InterfaceModel → Result (Unit {0}) BodyError
readable_one i None = Err (NoSuchInstance i)
readable_one i (Some m) = cond (m.fault == 0) (Ok tt) (Err (PropertyFault i m.fault))

abbrev pub and_then : Result (Unit {0}) BodyError → Result (Unit {0}) BodyError → Result (Unit {0}) BodyError
and_then (Ok u) r = r
and_then (Err e) r = Err e

-- the first that hinders
unfoldable pub readable : List InterfaceModel → List ℕ → Result (Unit {0}) BodyError
readable models [] = Ok tt
readable models (i ∷ is) = and_then (readable_one i (slice_get models i)) (readable models is)

-- the interface of a number, as it is announced
abbrev pub announced_as : Option InterfaceModel → Announced
announced_as None = standard_one []
announced_as (Some m) = own_one m

abbrev pub announced : List InterfaceModel → ℕ → Announced
announced models i = announced_as (slice_get models i)

-- A body is written from the first of the bytes on, or there is no room for it. Where a reading is hindered, that is the answer, and nothing is written.
abbrev pub Bodied : Bytes → Bytes → Result ℕ BodyError → Result (Unit {0}) BodyError → Part → Type 0
Bodied was is r (Ok u) w = Poured was 0 is r w × IfErr r (λ e. e ≡ Full)
Bodied was is r (Err e) w = (r ≡ Err e) × (is ≡ was)
