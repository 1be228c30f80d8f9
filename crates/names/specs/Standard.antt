-- The standard interfaces' names. Every other interface is an own one.
use Rattle.std.specs.Prelude.{Bool, cond, ◌++◌, is_some, Some, None, codes, Option}
use Rattle.std.specs.Str.{bytes_eq}
use Rattle.names.specs.declared.standard.Standard.{Standard}
use Rattle.names.specs.declared.standard.Standard.TheVariants.{Introspectable, ObjectManager, Peer, Properties}
use Rattle.names.specs.Names.{Bytes}

unfoldable pub standard_name : Standard → Bytes
standard_name Introspectable = codes "org.freedesktop.DBus." ++ codes "Introspectable"
standard_name ObjectManager = codes "org.freedesktop.DBus." ++ codes "ObjectManager"
standard_name Peer = codes "org.freedesktop.DBus." ++ codes "Peer"
standard_name Properties = codes "org.freedesktop.DBus." ++ codes "Properties"

-- the standard interface of this name
abbrev pub standard_of : Bytes → Option Standard
standard_of n =
    cond (bytes_eq n (standard_name Introspectable)) (Some Introspectable)
    (cond (bytes_eq n (standard_name ObjectManager)) (Some ObjectManager)
    (cond (bytes_eq n (standard_name Peer)) (Some Peer)
    (cond (bytes_eq n (standard_name Properties)) (Some Properties) None)))

unfoldable pub is_standard : Bytes → Bool
is_standard n = is_some (standard_of n)
