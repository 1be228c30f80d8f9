-- The texts that a property can hold.
use Rattle.std.specs.Prelude.{ℕ, Bool, ◌&&◌, length, nat_le}
use Rattle.names.specs.Names.{Bytes, all}

-- space to tilde
abbrev pub printable : ℕ → Bool
printable b = nat_le 32 b && nat_le b 126

abbrev pub plain : Bytes → Bool
plain bs = all printable bs

-- at most 64 bytes, each printable
abbrev pub valid_text : Bytes → Bool
valid_text bs = nat_le (length bs) 64 && plain bs
