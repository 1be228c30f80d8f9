-- The type codes: the D-Bus Specification, sections "Summary of types" and "Summary of D-Bus marshalling".
use Rattle.std.specs.Prelude.{◌≡◌, ℕ, Bool, true, false, cond, List, [], ◌∷◌, IfErr, Some, None, Option, Result, ◌==◌}
use Rattle.std.specs.List.{find}
use Rattle.std.specs.Option.{option_map}
use Rattle.std.specs.Result.{result_ok}
use Rattle.signature.specs.declared.codes.Row.{Row}
use Rattle.signature.specs.declared.codes.UnknownCode.{UnknownCode}
use Rattle.signature.specs.declared.codes.Code.{Code}
use Rattle.signature.specs.declared.codes.Code.TheVariants.{Byte, Boolean, Int16, Uint16, Int32, Uint32, Int64, Uint64, Double, UnixFd, String, ObjectPath, Signature, Array, Structure, DictEntry, Variant}

-- column "Alignment"
unfoldable pub align_of : Code → ℕ
align_of Byte = 1
align_of Boolean = 4
align_of Int16 = 2
align_of Uint16 = 2
align_of Int32 = 4
align_of Uint32 = 4
align_of Int64 = 8
align_of Uint64 = 8
align_of Double = 8
align_of UnixFd = 4
align_of String = 4
align_of ObjectPath = 4
align_of Signature = 1
align_of Array = 4
align_of Structure = 8
align_of DictEntry = 8
align_of Variant = 1

-- "the types whose structure is entirely defined by their 1-character type code"; a variant is a container
abbrev pub basic : Code → Bool
basic Byte = true
basic Boolean = true
basic Int16 = true
basic Uint16 = true
basic Int32 = true
basic Uint32 = true
basic Int64 = true
basic Uint64 = true
basic Double = true
basic UnixFd = true
basic String = true
basic ObjectPath = true
basic Signature = true
basic Array = false
basic Structure = false
basic DictEntry = false
basic Variant = false

abbrev pub letter_of : Code → ℕ
letter_of Byte = 121
letter_of Boolean = 98
letter_of Int16 = 110
letter_of Uint16 = 113
letter_of Int32 = 105
letter_of Uint32 = 117
letter_of Int64 = 120
letter_of Uint64 = 116
letter_of Double = 100
letter_of UnixFd = 104
letter_of String = 115
letter_of ObjectPath = 111
letter_of Signature = 103
letter_of Array = 97
letter_of Structure = 40
letter_of DictEntry = 123
letter_of Variant = 118

abbrev pub every_code : List Code
every_code =
    Byte ∷ Boolean ∷ Int16 ∷ Uint16 ∷ Int32 ∷ Uint32 ∷ Int64 ∷ Uint64 ∷ Double ∷ UnixFd ∷ String ∷ ObjectPath ∷ Signature ∷ Array ∷ Structure ∷ DictEntry ∷ Variant ∷ []

-- the first of these codes with that letter
abbrev pub amongst : List Code → ℕ → Option Code
amongst [] b = None
amongst (c ∷ cs) b = cond (letter_of c == b) (Some c) (amongst cs b)

-- the code of a letter
unfoldable pub code_of : ℕ → Option Code
code_of b = amongst every_code b

-- what a letter converts to: its code, or, where it has none, an error that holds the letter
abbrev pub Coded : ℕ → Result Code UnknownCode → Type 0
Coded b r = (result_ok r ≡ code_of b) × IfErr r (λ e. e.0 ≡ b)

-- the row of a code
abbrev pub row_of : Code → Row
row_of c = record { letter = letter_of c; code = c; alignment = align_of c }

-- what a table has at a letter
abbrev pub lookup : ℕ → List Row → Option Code
lookup b rs = option_map (λ r. r.code) (find (λ r. r.letter == b) rs)
