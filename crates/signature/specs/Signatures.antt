-- Which bytes are a signature: the D-Bus Specification, sections "Type System", "Valid Signatures" and "Container types".
-- Past the end of a signature stands 0, which is no type code.
use Rattle.std.specs.Prelude.{ℕ, zero, suc, ◌+◌, ◌<◌, ◌≤◌, Bool, true, false, cond, ◌&&◌, List, length, IfSome, Some, None, Option, ◌==◌, nat_le, slice_index}
use Rattle.signature.specs.declared.codes.Code.{Code}
use Rattle.signature.specs.declared.codes.Code.TheVariants.{Byte, Boolean, Int16, Uint16, Int32, Uint32, Int64, Uint64, Double, UnixFd, String, ObjectPath, Signature, Array, Structure, DictEntry, Variant}
use Rattle.signature.specs.declared.levels.Levels.{Levels}
use Rattle.signature.specs.Codes.{basic, code_of}
use Rattle.signature.specs.Depth.{full, in_array, in_structure}
use Rattle.signature.specs.Repeat.{Turn, halt, bind, onward, repeat}

-- an end lies past the start, and not past the bytes
abbrev pub Inside : List ℕ → ℕ → Option ℕ → Type 0
Inside bs at r = IfSome r (λ p. (at < p) × (p ≤ length bs))

-- One complete type at `at`, by its first code; `array`, `structure` and `entry` are where the rest of such a type ends.
-- A dictionary entry "occurs only as an array element type".
abbrev pub type_by : Bool → Option ℕ → Option ℕ → Option ℕ → ℕ → Code → Option ℕ
type_by in_arr array structure entry at Array = array
type_by in_arr array structure entry at Structure = structure
type_by in_arr array structure entry at DictEntry = cond in_arr entry None
type_by in_arr array structure entry at Byte = Some (at + 1)
type_by in_arr array structure entry at Boolean = Some (at + 1)
type_by in_arr array structure entry at Int16 = Some (at + 1)
type_by in_arr array structure entry at Uint16 = Some (at + 1)
type_by in_arr array structure entry at Int32 = Some (at + 1)
type_by in_arr array structure entry at Uint32 = Some (at + 1)
type_by in_arr array structure entry at Int64 = Some (at + 1)
type_by in_arr array structure entry at Uint64 = Some (at + 1)
type_by in_arr array structure entry at Double = Some (at + 1)
type_by in_arr array structure entry at UnixFd = Some (at + 1)
type_by in_arr array structure entry at String = Some (at + 1)
type_by in_arr array structure entry at ObjectPath = Some (at + 1)
type_by in_arr array structure entry at Signature = Some (at + 1)
type_by in_arr array structure entry at Variant = Some (at + 1)

abbrev pub type_step : Bool → Option ℕ → Option ℕ → Option ℕ → List ℕ → ℕ → Option ℕ
type_step in_arr array structure entry sig at = bind (code_of (slice_index sig at)) (type_by in_arr array structure entry at)

-- one type more, or the closing parenthesis
abbrev pub field_turn : (ℕ → Option ℕ) → List ℕ → ℕ → Turn ℕ ℕ
field_turn f sig at = cond (slice_index sig at == 41) (halt (Some (at + 1))) (onward (f at))

-- after the opening parenthesis: "there must be at least one type code between the parentheses"
abbrev pub fields_end : (ℕ → Option ℕ) → List ℕ → ℕ → Option ℕ
fields_end f sig at = bind (f at) (repeat (field_turn f sig) (suc (length sig)))

-- the closing brace
abbrev pub closed : List ℕ → ℕ → Option ℕ
closed sig at = cond (slice_index sig at == 125) (Some (at + 1)) None

-- after the opening brace: "exactly two single complete types", the first "a basic type"
abbrev pub entry_end : (ℕ → Option ℕ) → List ℕ → ℕ → Option ℕ
entry_end f sig at = bind (code_of (slice_index sig at)) (λ key. cond (basic key) (bind (f (at + 1)) (closed sig)) None)

-- by how many levels are left
abbrev pub type_end_by : List ℕ → ℕ → Bool → Levels → ℕ → Option ℕ
type_end_by sig zero in_arr l at = type_step in_arr None None None sig at
type_end_by sig (suc d) in_arr l at =
    type_step in_arr
    (bind (in_array l) (λ m. type_end_by sig d true m (at + 1)))
    (bind (in_structure l) (λ m. fields_end (type_end_by sig d false m) sig (at + 1)))
    (bind (in_structure l) (λ m. entry_end (type_end_by sig d false m) sig (at + 1)))
    sig at

-- where the single complete type at `at` ends, if there is one
unfoldable pub type_end : List ℕ → Bool → Levels → ℕ → Option ℕ
type_end sig in_arr l at = type_end_by sig l.all in_arr l at

-- where the first complete type ends
abbrev pub first_end : List ℕ → Option ℕ
first_end sig = type_end sig false full 0

-- one type more, or the end
abbrev pub list_turn : List ℕ → ℕ → Turn ℕ Bool
list_turn sig at = cond (nat_le (length sig) at) (halt (Some true)) (onward (type_end sig false full at))

abbrev pub holds : Option Bool → Bool
holds None = false
holds (Some b) = b

-- "a list of single complete types", of at most 255 bytes
unfoldable pub valid_signature : List ℕ → Bool
valid_signature sig = nat_le (length sig) 255 && holds (repeat (list_turn sig) (suc (length sig)) 0)

abbrev pub ends_at : ℕ → Option ℕ → Bool
ends_at n None = false
ends_at n (Some e) = e == n

-- one single complete type and nothing else, of at most 255 bytes
unfoldable pub single : List ℕ → Bool
single sig = nat_le (length sig) 255 && ends_at (length sig) (first_end sig)
