-- Values as bytes, little-endian: the D-Bus Specification, section "Marshaling (Wire Format)".
use Rattle.std.specs.Prelude.{ℕ, ◌+◌, ◌/◌, ◌%◌, Bool, cond, List, [], ◌∷◌, ◌++◌, length, replicate, ℤ}
use Rattle.std.specs.Int.{w32}
use Rattle.std.proofs.Common.{of_z}
use Rattle.signature.specs.declared.codes.Code.{Code}
use Rattle.signature.specs.declared.codes.Code.TheVariants.{Boolean, Int32, Uint32, String, ObjectPath, Array, Structure, DictEntry}
use Rattle.signature.specs.Codes.{align_of}
use Rattle.wire.specs.Reading.{gap}

abbrev pub Bytes : Type 0
Bytes = List ℕ

-- A part of a message: the offset from the message's first byte gives its bytes.
abbrev pub Part : Type 0
Part = ℕ → Bytes

-- one part and then another
unfoldable pub ◌▹◌ : Part → Part → Part
(v ▹ w) off = v off ++ w (off + length (v off))

infixr 5 ◌▹◌
-- "the minimum required padding to properly align the following value", "made up of nul bytes"
unfoldable pub pad : Code → Part
pad code off = replicate (gap (align_of code) off) 0

-- bytes as they are
abbrev pub raw : Bytes → Part
raw xs off = xs

-- the least byte first
unfoldable pub le32 : ℕ → Bytes
le32 n = n % 256 ∷ n / 256 % 256 ∷ n / 65536 % 256 ∷ n / 16777216 % 256 ∷ []

-- 32 bits, on the boundary of a type
unfoldable pub put_word : Code → ℕ → Part
put_word code n = pad code ▹ raw (le32 n)

abbrev pub put_u32 : ℕ → Part
put_u32 n = put_word Uint32 n

-- "All signed integer values are encoded in two's complement"
abbrev pub put_i32 : ℤ → Part
put_i32 z = put_word Int32 (of_z w32 z)

-- "BOOLEAN values are encoded in 32 bits"
abbrev pub put_bool : Bool → Part
put_bool b = put_word Boolean (cond b 1 0)

-- the text and "a single zero (nul) byte which is not considered to be part of the text"
unfoldable pub ended : Bytes → Part
ended s = raw s ▹ raw (0 ∷ [])

-- "For the STRING and OBJECT_PATH types, n is encoded in 4 bytes"
unfoldable pub put_text : Code → Bytes → Part
put_text code s = put_word code (length s) ▹ ended s

abbrev pub put_string : Bytes → Part
put_string s = put_text String s

abbrev pub put_path : Bytes → Part
put_path s = put_text ObjectPath s

-- "For the SIGNATURE type, n is encoded as a single byte", on any boundary
unfoldable pub put_signature : Bytes → Part
put_signature s = raw (length s ∷ []) ▹ ended s

-- "the SIGNATURE of the contents .., followed by a marshalled value"; for a type of one letter
abbrev pub variant : ℕ → Part → Part
variant letter w = put_signature (letter ∷ []) ▹ w

-- part after part
unfoldable pub many : {X : Type 0} → (X → Part) → List X → Part
many f [] = raw []
many f (x ∷ xs) = f x ▹ many f xs

-- what stands before an array's elements, its length still 0: "followed by alignment padding to the alignment boundary of the array element type"
unfoldable pub open_array : Code → Part
open_array code = put_word Array 0 ▹ pad code

-- where the elements begin
unfoldable pub contents_at : Code → ℕ → ℕ
contents_at code off = off + length (open_array code off)

-- "n does not include the padding after the length"
unfoldable pub array : Code → Part → Part
array code w off = (put_word Array (length (w (contents_at code off))) ▹ pad code ▹ w) off

-- "Structs and dict entries are marshalled in the same way as their contents, but their alignment is always to an 8-byte boundary"
abbrev pub structure : Part → Part
structure w = pad Structure ▹ w

abbrev pub entry : Part → Part → Part
entry key value = pad DictEntry ▹ key ▹ value
