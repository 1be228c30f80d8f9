-- Bus names of both kinds.
use Rattle.std.specs.Prelude.{Bool, true, false, cond, [], ◌∷◌, ◌==◌}
use Rattle.names.specs.declared.grammar.Alphabet.{Alphabet}
use Rattle.names.specs.declared.grammar.Alphabet.TheVariants as A
use Rattle.names.specs.declared.types.BusName.{BusName}
use Rattle.names.specs.declared.types.BusName.TheVariants.{Unique, WellKnown}
use Rattle.names.specs.Names.{Bytes}

abbrev pub bus_bytes : BusName → Bytes
bus_bytes (Unique n) = n.bytes.now
bus_bytes (WellKnown n) = n.bytes.now

abbrev pub is_unique : BusName → Bool
is_unique (Unique n) = true
is_unique (WellKnown n) = false

abbrev pub colon_first : Bytes → Bool
colon_first [] = false
colon_first (b ∷ bs) = b == 58

-- by which rule bytes are judged
abbrev pub bus_alphabet : Bytes → Alphabet
bus_alphabet bs = cond (colon_first bs) A.Unique A.WellKnown
