-- What of an interface never changes: all but the values and the fault number.
use Rattle.std.specs.Prelude.{List, map, ℤ}
use Rattle.names.specs.Names.{Bytes}
use Rattle.effects.specs.declared.value.Signature.{Signature}
use Rattle.effects.specs.declared.interface.Access.{Access}
use Rattle.effects.specs.Model.{PropertyModel, MethodModel, InterfaceModel}

pub record PropertyShape : Type 0 where
  pub name : Bytes
  pub type : Signature
  pub low : ℤ
  pub high : ℤ
  pub access : Access

pub record Shape : Type 0 where
  pub name : Bytes
  pub properties : List PropertyShape
  pub methods : List MethodModel

abbrev pub property_shape : PropertyModel → PropertyShape
property_shape p = record { name = p.name; type = p.type; low = p.low; high = p.high; access = p.access }

abbrev pub shape_of : InterfaceModel → Shape
shape_of m = record { name = m.name; properties = map property_shape m.properties; methods = m.methods }
