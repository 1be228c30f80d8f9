-- What each call on an interface answers, and what it leaves.
use Rattle.std.specs.Prelude.{ℕ, Bool, true, false, cond, List, [], ◌∷◌, ◌++◌, map, length, drop, Some, None, Ok, Err, Option, Result, ◌==◌}
use Rattle.std.specs.Borrow.{Bor}
use Rattle.std.specs.Str.{bytes_eq}
use Rattle.names.specs.Names.{Bytes}
use Rattle.effects.specs.declared.value.Signature.{Signature}
use Rattle.effects.specs.declared.interface.Access.{Access}
use Rattle.effects.specs.declared.interface.Access.TheVariants as A
use Rattle.effects.specs.declared.interface.PropertyInfo.{PropertyInfo}
use Rattle.effects.specs.declared.interface.PropertyFault.{PropertyFault}
use Rattle.effects.specs.declared.interface.SetRefusal.{SetRefusal}
use Rattle.effects.specs.declared.interface.SetRefusal.TheVariants.{NoSuchProperty, ReadOnly, WrongType, OutOfRange}
use Rattle.effects.specs.declared.interface.DispatchResult2.{DispatchResult2}
use Rattle.effects.specs.declared.interface.DispatchResult2.TheVariants.{NotFound, RequiresMut, Async}
use Rattle.effects.specs.Values.{ValueModel, type_of, same_type, in_range}
use Rattle.effects.specs.Model.{PropertyModel, Reply, succeeded, failed, Assignment, Effect, Deed, looks, changes, MethodModel, InterfaceModel, property_at, method_at}

-- What is told of a property: its name, type and access.
pub record Info : Type 0 where
  pub name : Bytes
  pub type : Signature
  pub access : Access

abbrev pub seen_info : PropertyInfo → Info
seen_info p = record { name = p.name.now; type = p.signature; access = p.access }

abbrev pub info_of : PropertyModel → Info
info_of p = record { name = p.name; type = p.type; access = p.access }

-- get: none for an absent name, else the fault number if it is not 0, else the value
abbrev pub broken : ℕ → PropertyFault
broken f = record { number = f }

-- whether values can be read at this fault number
abbrev pub readable : ℕ → Result (Unit {0}) PropertyFault
readable f = cond (f == 0) (Ok tt) (Err (broken f))

abbrev pub told : ℕ → Option PropertyModel → Option (Result ValueModel PropertyFault)
told f None = None
told f (Some p) = Some (cond (f == 0) (Ok p.value) (Err (broken f)))

abbrev pub reads : InterfaceModel → Bytes → Option (Result ValueModel PropertyFault)
reads m n = told m.fault (property_at n m.properties)

-- the same without the value, which goes into the lent place
abbrev pub get_answer : Option (Result ValueModel PropertyFault) → Option (Result (Unit {0}) PropertyFault)
get_answer None = None
get_answer (Some (Ok v)) = Some (Ok tt)
get_answer (Some (Err e)) = Some (Err e)

abbrev pub filled : Option (Result ValueModel PropertyFault) → ValueModel → ValueModel
filled None before = before
filled (Some (Ok v)) before = v
filled (Some (Err e)) before = before

-- get_all: the number of values, or the fault number if it is not 0
abbrev pub all_answer : InterfaceModel → Result ℕ PropertyFault
all_answer m = cond (m.fault == 0) (Ok (length m.properties)) (Err (broken m.fault))

abbrev pub values_of : List PropertyModel → List ValueModel
values_of ps = map (λ p. p.value) ps

-- the lent places: the values in order and the further places as before, or all as before
abbrev pub all_after : Result ℕ PropertyFault → InterfaceModel → List ValueModel → List ValueModel
all_after (Ok n) m before = values_of m.properties ++ drop (length m.properties) before
all_after (Err e) m before = before

-- set_mut: the first of these that holds refuses
abbrev pub writable : Access → Bool
writable A.Read = false
writable A.ReadWrite = true

abbrev pub judged : Option PropertyModel → ValueModel → Result (Unit {0}) SetRefusal
judged None v = Err NoSuchProperty
judged (Some p) v =
    cond (writable p.access)
    (cond (same_type p.type (type_of v)) (cond (in_range p.low p.high v) (Ok tt) (Err OutOfRange)) (Err WrongType))
    (Err ReadOnly)

abbrev pub set_answer : InterfaceModel → Bytes → ValueModel → Result (Unit {0}) SetRefusal
set_answer m n v = judged (property_at n m.properties) v

abbrev pub with_value : PropertyModel → ValueModel → PropertyModel
with_value p v = record { name = p.name; type = p.type; low = p.low; high = p.high; access = p.access; value = v }

-- the properties, with the value of the one of this name changed
abbrev pub put : Bytes → ValueModel → List PropertyModel → List PropertyModel
put n v [] = []
put n v (p ∷ ps) = cond (bytes_eq n p.name) (with_value p v ∷ ps) (p ∷ put n v ps)

-- the interface, with other values and another fault number
abbrev pub with_state : InterfaceModel → List PropertyModel → ℕ → InterfaceModel
with_state m ps f = record { name = m.name; properties = ps; methods = m.methods; fault = f }

abbrev pub set_after : Result (Unit {0}) SetRefusal → Bytes → ValueModel → InterfaceModel → InterfaceModel
set_after (Ok u) n v m = with_state m (put n v m.properties) m.fault
set_after (Err e) n v m = m

abbrev pub after_set : Bytes → ValueModel → InterfaceModel → InterfaceModel
after_set n v m = set_after (set_answer m n v) n v m

-- call and call_mut
pub data Dispatch : Type 0 where
  not_found : Dispatch
  requires_mut : Dispatch
  answered : Reply → Dispatch

abbrev pub seen_reply : Result (Unit {0}) (Bor Bytes) → Reply
seen_reply (Ok u) = succeeded
seen_reply (Err e) = failed e.now

abbrev pub seen_dispatch : DispatchResult2 → Dispatch
seen_dispatch NotFound = not_found
seen_dispatch RequiresMut = requires_mut
seen_dispatch (Async r) = answered (seen_reply r)

abbrev pub looked : Deed → List PropertyModel → ℕ → Dispatch
looked (looks f) ps n = answered (f ps n)
looked (changes f) ps n = requires_mut

abbrev pub call_of : Option MethodModel → InterfaceModel → Dispatch
call_of None m = not_found
call_of (Some k) m = looked k.deed m.properties m.fault

abbrev pub call_answer : InterfaceModel → Bytes → Dispatch
call_answer m n = call_of (method_at n m.methods) m

abbrev pub acted : Deed → List PropertyModel → ℕ → Dispatch
acted (looks f) ps n = not_found
acted (changes f) ps n = answered (f ps n).reply

abbrev pub call_mut_of : Option MethodModel → InterfaceModel → Dispatch
call_mut_of None m = not_found
call_mut_of (Some k) m = acted k.deed m.properties m.fault

abbrev pub call_mut_answer : InterfaceModel → Bytes → Dispatch
call_mut_answer m n = call_mut_of (method_at n m.methods) m

abbrev pub put_all : List Assignment → List PropertyModel → List PropertyModel
put_all [] ps = ps
put_all (a ∷ more) ps = put_all more (put a.name a.value ps)

abbrev pub after_effect : Effect → InterfaceModel → InterfaceModel
after_effect e m = with_state m (put_all e.assigns m.properties) e.fault

abbrev pub after_deed : Deed → InterfaceModel → InterfaceModel
after_deed (looks f) m = m
after_deed (changes f) m = after_effect (f m.properties m.fault) m

abbrev pub left_by : Option MethodModel → InterfaceModel → InterfaceModel
left_by None m = m
left_by (Some k) m = after_deed k.deed m

abbrev pub after_call : Bytes → InterfaceModel → InterfaceModel
after_call n m = left_by (method_at n m.methods) m
