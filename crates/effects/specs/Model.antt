-- What an interface is: a name, properties, methods and a fault number.
use Rattle.std.specs.Prelude.{ℕ, ◌^◌, Bool, true, cond, not, ◌&&◌, List, [], ◌∷◌, map, length, ℤ, Some, None, Option, nat_le, nat_lt}
use Rattle.std.specs.Str.{bytes_eq}
use Rattle.names.specs.Names.{Bytes, all, valid_interface, valid_member, valid_error}
use Rattle.names.specs.Paths.{bytes_before}
use Rattle.names.specs.Standard.{is_standard}
use Rattle.effects.specs.declared.value.Signature.{Signature}
use Rattle.effects.specs.declared.interface.Access.{Access}
use Rattle.effects.specs.Values.{ValueModel, fits, representable}

-- Of the name, type, range, access and value, only the value ever changes.
pub record PropertyModel : Type 0 where
  pub name : Bytes
  pub type : Signature
  pub low : ℤ
  pub high : ℤ
  pub access : Access
  pub value : ValueModel

-- A method answers success or an error of this name, without a body.
pub data Reply : Type 0 where
  succeeded : Reply
  failed : Bytes → Reply

-- A property's name, and the value that it gets.
pub record Assignment : Type 0 where
  pub name : Bytes
  pub value : ValueModel

-- What a changing method answers, and the values and the fault number that it leaves.
pub record Effect : Type 0 where
  pub reply : Reply
  pub assigns : List Assignment
  pub fault : ℕ

-- What a method does, by the properties and the fault number: it only looks at them, or it changes them.
pub data Deed : Type 0 where
  looks : (List PropertyModel → ℕ → Reply) → Deed
  changes : (List PropertyModel → ℕ → Effect) → Deed

pub record MethodModel : Type 0 where
  pub name : Bytes
  pub deed : Deed

pub record InterfaceModel : Type 0 where
  pub name : Bytes
  pub properties : List PropertyModel
  pub methods : List MethodModel
  pub fault : ℕ

-- The first property, or method, of a name.
abbrev pub property_at : Bytes → List PropertyModel → Option PropertyModel
property_at n [] = None
property_at n (p ∷ ps) = cond (bytes_eq n p.name) (Some p) (property_at n ps)

abbrev pub method_at : Bytes → List MethodModel → Option MethodModel
method_at n [] = None
method_at n (k ∷ ks) = cond (bytes_eq n k.name) (Some k) (method_at n ks)

-- The limits and the orders that every interface keeps: a name comes before the next one
abbrev pub before_next : Bytes → List Bytes → Bool
before_next a [] = true
before_next a (b ∷ bs) = bytes_before a b

-- each name is strictly above the one before it
abbrev pub ascending : List Bytes → Bool
ascending [] = true
ascending (a ∷ more) = before_next a more && ascending more

abbrev pub well_property : PropertyModel → Bool
well_property p =
    valid_member p.name && (nat_le (length p.name) 63 && (fits p.type p.low p.high p.value && representable p.value))

abbrev pub reply_of : Deed → List PropertyModel → ℕ → Reply
reply_of (looks f) ps n = f ps n
reply_of (changes f) ps n = (f ps n).reply

abbrev pub valid_reply : Reply → Bool
valid_reply succeeded = true
valid_reply (failed e) = valid_error e

abbrev pub well_method : List PropertyModel → ℕ → MethodModel → Bool
well_method ps n k = valid_member k.name && valid_reply (reply_of k.deed ps n)

-- A name that is valid and not standard, at most 16 properties and 16 methods, each good, their names ascending, and 32 bits of fault number.
unfoldable pub well_formed : InterfaceModel → Bool
well_formed m =
    (valid_interface m.name && not (is_standard m.name))
    && ((nat_le (length m.properties) 16 && (ascending (map (λ p. p.name) m.properties) && all well_property m.properties))
    && ((nat_le (length m.methods) 16 && (ascending (map (λ k. k.name) m.methods) && all (well_method m.properties m.fault) m.methods))
    && nat_lt m.fault (2 ^ 32)))
