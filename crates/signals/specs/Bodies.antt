-- The bodies of an object manager's signals: the D-Bus Specification, section "org.freedesktop.DBus.ObjectManager".
use Rattle.std.specs.Prelude.{List, []}
use Rattle.signature.specs.declared.codes.Code.TheVariants.{DictEntry, String}
use Rattle.outbox.specs.Marshal.{Bytes, Part, ◌▹◌, array, entry, many, put_bool, put_i32, put_path, put_string, put_u32, variant}
use Rattle.effects.specs.Values.{ValueModel, truth, whole, count, letters}
use Rattle.effects.specs.Model.{InterfaceModel, PropertyModel}

-- a value in a variant, by its type: b, i, u or s
unfoldable pub put_value : ValueModel → Part
put_value (truth b) = variant 98 (put_bool b)
put_value (whole z) = variant 105 (put_i32 z)
put_value (count n) = variant 117 (put_u32 n)
put_value (letters s) = variant 115 (put_string s)

-- {sv}
unfoldable pub put_property : PropertyModel → Part
put_property p = entry (put_string p.name) (put_value p.value)

-- a{sv}
unfoldable pub put_properties : List PropertyModel → Part
put_properties ps = array DictEntry (many put_property ps)

-- What is told of an interface that came: its name and its properties. A standard one has no properties.
pub record Announced : Type 0 where
  pub name : Bytes
  pub properties : List PropertyModel

abbrev pub own_one : InterfaceModel → Announced
own_one m = record { name = m.name; properties = m.properties }

abbrev pub standard_one : Bytes → Announced
standard_one n = record { name = n; properties = [] }

-- {sa{sv}}
unfoldable pub put_announced : Announced → Part
put_announced i = entry (put_string i.name) (put_properties i.properties)

-- InterfacesAdded: "oa{sa{sv}}"
unfoldable pub added_part : Bytes → List Announced → Part
added_part path is = put_path path ▹ array DictEntry (many put_announced is)

abbrev pub added_body : Bytes → List Announced → Bytes
added_body path is = added_part path is 0

-- InterfacesRemoved: "oas"
unfoldable pub removed_part : Bytes → List Bytes → Part
removed_part path names = put_path path ▹ array String (many put_string names)

abbrev pub removed_body : Bytes → List Bytes → Bytes
removed_body path names = removed_part path names 0
