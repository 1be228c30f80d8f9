-- How values and accesses are printed.
use Rattle.std.specs.Prelude.{cond, [], ◌∷◌, ◌++◌, codes, decimal}
use Rattle.std.specs.Fmt.{signed_decimal}
use Rattle.names.specs.Names.{Bytes}
use Rattle.effects.specs.declared.interface.Access.{Access}
use Rattle.effects.specs.declared.interface.Access.TheVariants as A
use Rattle.effects.specs.Values.{ValueModel, truth, whole, count, letters}

abbrev pub access_text : Access → Bytes
access_text A.Read = codes "read"
access_text A.ReadWrite = codes "readwrite"

-- a word, a number, or a text between double quotes
abbrev pub value_text : ValueModel → Bytes
value_text (truth b) = cond b (codes "true") (codes "false")
value_text (whole z) = signed_decimal z
value_text (count n) = decimal n
value_text (letters l) = (34 ∷ l) ++ 34 ∷ []
