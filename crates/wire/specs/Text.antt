-- What the bytes of padding and of a text may be: the D-Bus Specification, sections "Byte order and alignment" and "Basic types".
use Rattle.std.specs.Prelude.{ℕ, Bool, ◌&&◌, List, ◌==◌, nat_le}
use Rattle.std.proofs.Math.Utf8.{encodes, scalars}
use Rattle.std.specs.Str.{chars, bytes_eq}
use Rattle.names.specs.Names.{all}

-- padding "must always be made up of nul bytes"
abbrev pub zero? : ℕ → Bool
zero? b = b == 0

abbrev pub nonzero : ℕ → Bool
nonzero b = nat_le 1 b

-- Strict UTF-8: the bytes decode to Unicode scalar values, noncharacters among them, whose shortest encoding they are.
unfoldable pub utf8 : List ℕ → Bool
utf8 bs = scalars (chars bs) && bytes_eq (encodes (chars bs)) bs

-- "Unicode codepoints encoded in UTF-8, none of which may be U+0000"
unfoldable pub valid_text : List ℕ → Bool
valid_text bs = all nonzero bs && utf8 bs
