-- Where a value of a type ends in a message: the D-Bus Specification, sections "Marshalling basic types" and "Marshalling containers".
use Rattle.std.specs.Prelude.{ℕ, zero, suc, ◌+◌, ◌-◌, ◌<◌, ◌≤◌, true, cond, List, length, IfSome, Some, None, Ok, Err, Option, Result, ◌==◌, nat_le, nat_lt, slice_index}
use Rattle.std.specs.Result.{result_ok}
use Rattle.signature.specs.declared.codes.Code.{Code}
use Rattle.signature.specs.declared.codes.Code.TheVariants.{Byte, Boolean, Int16, Uint16, Int32, Uint32, Int64, Uint64, Double, UnixFd, String, ObjectPath, Signature, Array, Structure, DictEntry, Variant}
use Rattle.signature.specs.declared.levels.Levels.{Levels}
use Rattle.wire.specs.declared.reading.ByteOrder.{ByteOrder}
use Rattle.wire.specs.declared.reading.Fault.{Fault}
use Rattle.wire.specs.declared.reading.Fault.TheVariants as fault
use Rattle.signature.specs.Codes.{align_of, code_of}
use Rattle.signature.specs.Depth.{full, in_array, in_structure, in_variant}
use Rattle.wire.specs.Reading.{align_at, bool_at, fixed_at, path_at, signature_at, string_at, u32_at}
use Rattle.signature.specs.Repeat.{Turn, halt, bind, onward, repeat}
use Rattle.signature.specs.Signatures.{single, type_end}

-- the place after what was read
abbrev pub end_of : {A : Type 0} → Result (A × ℕ) Fault → Option ℕ
end_of (Ok x) = Some x.1
end_of (Err e) = None

-- a fixed type: as many bytes as its alignment, which is all that is asked of it
abbrev pub fixed_end : List ℕ → Code → ℕ → Option ℕ
fixed_end msg c at = result_ok (fixed_at (align_of c) msg at)

-- a value of a basic type
abbrev pub basic_end : ByteOrder → List ℕ → Code → ℕ → Option ℕ
basic_end order msg Byte at = fixed_end msg Byte at
basic_end order msg Boolean at = end_of (bool_at order msg at)
basic_end order msg Int16 at = fixed_end msg Int16 at
basic_end order msg Uint16 at = fixed_end msg Uint16 at
basic_end order msg Int32 at = fixed_end msg Int32 at
basic_end order msg Uint32 at = fixed_end msg Uint32 at
basic_end order msg Int64 at = fixed_end msg Int64 at
basic_end order msg Uint64 at = fixed_end msg Uint64 at
basic_end order msg Double at = fixed_end msg Double at
basic_end order msg UnixFd at = fixed_end msg UnixFd at
basic_end order msg String at = end_of (string_at order msg at)
basic_end order msg ObjectPath at = end_of (path_at order msg at)
basic_end order msg Signature at = end_of (signature_at msg at)
basic_end order msg Array at = None
basic_end order msg Structure at = None
basic_end order msg DictEntry at = None
basic_end order msg Variant at = None

-- the elements begin past the start, and their end is not past the message
abbrev pub Span : List ℕ → ℕ → Option (ℕ × ℕ) → Type 0
Span msg at r = IfSome r (λ s. (at < s.0) × (s.0 ≤ s.1) × (s.1 ≤ length msg))

-- "a UINT32 n giving the length of the array data in bytes, followed by alignment padding to the alignment boundary of
-- the array element type, followed by the n bytes"; n is at most 2 to the 26th power
unfoldable pub array_span : ByteOrder → List ℕ → Code → ℕ → Option (ℕ × ℕ)
array_span order msg element at =
    bind (result_ok (u32_at order msg at)) λ n.
    cond (nat_le n.0 67108864)
    (bind (result_ok (align_at (align_of element) msg n.1)) λ first.
    cond (nat_le (first + n.0) (length msg)) (Some (first, first + n.0)) None)
    None

-- both ends lie past the starts, and not past the signature and the message
abbrev pub Ahead : List ℕ → List ℕ → ℕ → ℕ → Option (ℕ × ℕ) → Type 0
Ahead msg sig at pos r = IfSome r (λ p. (at < p.0) × (p.0 ≤ length sig) × (pos < p.1) × (p.1 ≤ length msg))

-- from a place in the signature and one in the message to where the type and its value end
abbrev pub Skip : Type 0
Skip = ℕ → ℕ → Option (ℕ × ℕ)

-- one element more, or the end; an element must not go past it
abbrev pub item_turn : (ℕ → Option (ℕ × ℕ)) → ℕ → ℕ → Turn ℕ ℕ
item_turn f end p = cond (nat_lt p end) (onward (bind (f p) (λ q. Some q.1))) (cond (p == end) (halt (Some end)) (halt None))

abbrev pub items_end : (ℕ → Option (ℕ × ℕ)) → ℕ → ℕ → Option ℕ
items_end f first end = repeat (item_turn f end) (suc (end - first)) first

-- after `a`: "the array elements marshalled in sequence"
abbrev pub array_end : ByteOrder → List ℕ → Skip → List ℕ → Skip
array_end order msg f sig at pos =
    bind (type_end sig true full at) λ after.
    bind (code_of (slice_index sig at)) λ element.
    bind (array_span order msg element pos) λ s.
    bind (items_end (f at) s.0 s.1) λ p.
    Some (after, p)

-- one field more, or the closing bracket
abbrev pub field_turn : Skip → ℕ → List ℕ → ℕ × ℕ → Turn (ℕ × ℕ) (ℕ × ℕ)
field_turn f close sig s = cond (slice_index sig s.0 == close) (halt (Some (s.0 + 1, s.1))) (onward (f s.0 s.1))

-- after `(` or `{`: "each field marshaled in sequence starting from that 8-byte alignment boundary"
abbrev pub fields_end : List ℕ → Skip → ℕ → List ℕ → Skip
fields_end msg f close sig at pos =
    bind (result_ok (align_at (align_of Structure) msg pos)) λ start.
    bind (f at start) (repeat (field_turn f close sig) (suc (length sig)))

-- "the SIGNATURE of the contents (which must be a single complete type), followed by a marshalled value with the type given
-- by that signature"
abbrev pub variant_end : List ℕ → (List ℕ → Skip) → ℕ → Option ℕ
variant_end msg f pos =
    bind (result_ok (signature_at msg pos)) λ s.
    cond (single s.0) (bind (f s.0 0 s.1) λ r. Some r.1) None

-- a type of one letter
abbrev pub plainly : ℕ → Option ℕ → Option (ℕ × ℕ)
plainly at end = bind end (λ p. Some (at + 1, p))

-- A value by the first code of its type; `array`, `structure`, `entry` and `variant` are where a value of such a type ends.
-- DICT_ENTRY: "Identical to STRUCT."
abbrev pub value_by : ByteOrder → List ℕ → Option (ℕ × ℕ) → Option (ℕ × ℕ) → Option (ℕ × ℕ) → Option ℕ → ℕ → ℕ → Code → Option (ℕ × ℕ)
value_by order msg array structure entry variant at pos Byte = plainly at (basic_end order msg Byte pos)
value_by order msg array structure entry variant at pos Boolean = plainly at (basic_end order msg Boolean pos)
value_by order msg array structure entry variant at pos Int16 = plainly at (basic_end order msg Int16 pos)
value_by order msg array structure entry variant at pos Uint16 = plainly at (basic_end order msg Uint16 pos)
value_by order msg array structure entry variant at pos Int32 = plainly at (basic_end order msg Int32 pos)
value_by order msg array structure entry variant at pos Uint32 = plainly at (basic_end order msg Uint32 pos)
value_by order msg array structure entry variant at pos Int64 = plainly at (basic_end order msg Int64 pos)
value_by order msg array structure entry variant at pos Uint64 = plainly at (basic_end order msg Uint64 pos)
value_by order msg array structure entry variant at pos Double = plainly at (basic_end order msg Double pos)
value_by order msg array structure entry variant at pos UnixFd = plainly at (basic_end order msg UnixFd pos)
value_by order msg array structure entry variant at pos String = plainly at (basic_end order msg String pos)
value_by order msg array structure entry variant at pos ObjectPath = plainly at (basic_end order msg ObjectPath pos)
value_by order msg array structure entry variant at pos Signature = plainly at (basic_end order msg Signature pos)
value_by order msg array structure entry variant at pos Array = array
value_by order msg array structure entry variant at pos Structure = structure
value_by order msg array structure entry variant at pos DictEntry = entry
value_by order msg array structure entry variant at pos Variant = plainly at variant

abbrev pub value_step : ByteOrder → List ℕ → Option (ℕ × ℕ) → Option (ℕ × ℕ) → Option (ℕ × ℕ) → Option ℕ → List ℕ → Skip
value_step order msg array structure entry variant sig at pos =
    bind (code_of (slice_index sig at)) (value_by order msg array structure entry variant at pos)

-- by how many levels are left
abbrev pub value_end_by : ByteOrder → List ℕ → ℕ → Levels → List ℕ → Skip
value_end_by order msg zero l sig at pos = value_step order msg None None None None sig at pos
value_end_by order msg (suc d) l sig at pos =
    value_step order msg
    (bind (in_array l) (λ m. array_end order msg (value_end_by order msg d m sig) sig (at + 1) pos))
    (bind (in_structure l) (λ m. fields_end msg (value_end_by order msg d m sig) 41 sig (at + 1) pos))
    (bind (in_structure l) (λ m. fields_end msg (value_end_by order msg d m sig) 125 sig (at + 1) pos))
    (bind (in_variant l) (λ m. variant_end msg (value_end_by order msg d m) pos))
    sig at pos

-- a value of the type at `at` of a signature, with so many levels left
unfoldable pub value_end : ByteOrder → List ℕ → Levels → List ℕ → Skip
value_end order msg l sig at pos = value_end_by order msg l.all l sig at pos

abbrev pub ended : ℕ → Option (ℕ × ℕ) → Result ℕ Fault
ended pos None = Err (fault.Value pos)
ended pos (Some r) = Ok r.1

-- where a well-formed value of this type ends, or that none stands here
unfoldable pub value_at : ByteOrder → List ℕ → Levels → List ℕ → ℕ → Result ℕ Fault
value_at order msg l sig pos = cond (single sig) (ended pos (value_end order msg l sig 0 pos)) (Err (fault.Signature pos))
