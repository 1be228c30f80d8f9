-- Values in a message: the D-Bus Specification, sections "Byte order and alignment" and "Marshalling basic types".
-- Each is read at a place, and gives the value and the place after it, or a fault with its place.
use Rattle.std.specs.Prelude.{◌≡◌, ℕ, ◌+◌, ◌-◌, ◌*◌, ◌%◌, ◌≤◌, Bool, cond, List, length, take, drop, IfErr, IfOk, Some, None, Ok, Err, Option, Result, ◌==◌, nat_le, nat_lt, slice_index}
use Rattle.std.specs.Borrow.{Bor}
use Rattle.std.specs.Result.{result_ok}
use Rattle.names.specs.Names.{all, valid_path}
use Rattle.wire.specs.declared.reading.ByteOrder.{ByteOrder}
use Rattle.wire.specs.declared.reading.ByteOrder.TheVariants.{Little, Big}
use Rattle.wire.specs.declared.reading.Fault.{Fault}
use Rattle.wire.specs.declared.reading.Fault.TheVariants.{Short, Padding, Boolean, Unterminated, Text, Path, Signature}
use Rattle.wire.specs.declared.reading.StringLike.{StringLike}
use Rattle.wire.specs.declared.reading.UnknownByteOrder.{UnknownByteOrder}
use Rattle.wire.specs.declared.reading.StringLike.TheVariants as kind
use Rattle.signature.specs.Signatures.{valid_signature}
use Rattle.wire.specs.Text.{valid_text, zero?}

-- "ASCII 'l' for little-endian or ASCII 'B' for big-endian"
abbrev pub order_of : ℕ → Option ByteOrder
order_of b = cond (b == 108) (Some Little) (cond (b == 66) (Some Big) None)

-- what a byte converts to: the order that it names, or, where it names none, an error that holds the byte
abbrev pub Ordered : ℕ → Result ByteOrder UnknownByteOrder → Type 0
Ordered b r = (result_ok r ≡ order_of b) × IfErr r (λ e. e.0 ≡ b)

abbrev pub and_then : {A B : Type 0} → Result A Fault → (A → Result B Fault) → Result B Fault
and_then (Ok x) f = f x
and_then (Err e) f = Err e

-- an end lies not before the start, and not past the message
abbrev pub Onward : List ℕ → ℕ → Result ℕ Fault → Type 0
Onward msg at r = IfOk r (λ p. (at ≤ p) × (p ≤ length msg))

-- the same, n bytes on or more
abbrev pub Grown : List ℕ → ℕ → ℕ → Result ℕ Fault → Type 0
Grown msg at n r = IfOk r (λ p. (at + n ≤ p) × (p ≤ length msg))

-- the same of the place after a value
abbrev pub Past : {A : Type 0} → List ℕ → ℕ → ℕ → Result (A × ℕ) Fault → Type 0
Past msg at n r = IfOk r (λ x. (at + n ≤ x.1) × (x.1 ≤ length msg))

-- the n bytes at a place
abbrev pub part : ℕ → List ℕ → ℕ → List ℕ
part n msg at = take n (drop at msg)

-- past n bytes
abbrev pub bytes_at : ℕ → List ℕ → ℕ → Result ℕ Fault
bytes_at n msg at = cond (nat_le (at + n) (length msg)) (Ok (at + n)) (Err (Short at))

-- how far the next multiple of n is
unfoldable pub gap : ℕ → ℕ → ℕ
gap n at = (n - at % n) % n

-- "the minimum required padding .. made up of nul bytes"
unfoldable pub align_at : ℕ → List ℕ → ℕ → Result ℕ Fault
align_at n msg at =
    and_then (bytes_at (gap n at) msg at) (λ p. cond (all zero? (part (gap n at) msg at)) (Ok p) (Err (Padding at)))

-- a fixed type, of n bytes on a boundary of n
unfoldable pub fixed_at : ℕ → List ℕ → ℕ → Result ℕ Fault
fixed_at n msg at = and_then (align_at n msg at) (bytes_at n msg)

-- BYTE
abbrev pub byte_at : List ℕ → ℕ → Result (ℕ × ℕ) Fault
byte_at msg at = cond (nat_lt at (length msg)) (Ok (slice_index msg at, at + 1)) (Err (Short at))

-- four bytes as a number, the least or the greatest first
abbrev pub word_of : ByteOrder → List ℕ → ℕ → ℕ
word_of Little msg at = slice_index msg at + slice_index msg (at + 1) * 256 + slice_index msg (at + 2) * 65536 + slice_index msg (at + 3) * 16777216
word_of Big msg at = slice_index msg at * 16777216 + slice_index msg (at + 1) * 65536 + slice_index msg (at + 2) * 256 + slice_index msg (at + 3)

-- UINT32
unfoldable pub u32_at : ByteOrder → List ℕ → ℕ → Result (ℕ × ℕ) Fault
u32_at order msg at = and_then (fixed_at 4 msg at) (λ p. Ok (word_of order msg (p - 4), p))

-- BOOLEAN: "As for UINT32, but only 0 and 1 are valid values."
unfoldable pub bool_at : ByteOrder → List ℕ → ℕ → Result (Bool × ℕ) Fault
bool_at order msg at = and_then (u32_at order msg at) (λ x. cond (nat_le x.0 1) (Ok ((x.0 == 1), x.1)) (Err (Boolean (x.1 - 4))))

-- A string-like type's text of n bytes: "followed by a single zero (nul) byte which is not considered to be part of the text".
unfoldable pub ended_at : ℕ → List ℕ → ℕ → Result (List ℕ × ℕ) Fault
ended_at n msg at =
    and_then (bytes_at n msg at) (λ end. and_then (byte_at msg end) (λ z. cond (z.0 == 0) (Ok (part n msg at, z.1)) (Err (Unterminated end))))

-- column "Validity constraints"
abbrev pub valid_for : StringLike → List ℕ → Bool
valid_for kind.String bs = valid_text bs
valid_for kind.ObjectPath bs = valid_path bs
valid_for kind.Signature bs = valid_signature bs

abbrev pub fault_for : StringLike → ℕ → Fault
fault_for kind.String at = Text at
fault_for kind.ObjectPath at = Path at
fault_for kind.Signature at = Signature at

-- the length and where the text begins are known
unfoldable pub text_at : StringLike → List ℕ → ℕ × ℕ → Result (List ℕ × ℕ) Fault
text_at like msg x = and_then (ended_at x.0 msg x.1) (λ t. cond (valid_for like t.0) (Ok t) (Err (fault_for like x.1)))

-- STRING, OBJECT_PATH: "n is encoded in 4 bytes"
abbrev pub counted_at : StringLike → ByteOrder → List ℕ → ℕ → Result (List ℕ × ℕ) Fault
counted_at like order msg at = and_then (u32_at order msg at) (text_at like msg)

unfoldable pub string_at : ByteOrder → List ℕ → ℕ → Result (List ℕ × ℕ) Fault
string_at order msg at = counted_at kind.String order msg at

unfoldable pub path_at : ByteOrder → List ℕ → ℕ → Result (List ℕ × ℕ) Fault
path_at order msg at = counted_at kind.ObjectPath order msg at

-- SIGNATURE: "n is encoded as a single byte"
unfoldable pub signature_at : List ℕ → ℕ → Result (List ℕ × ℕ) Fault
signature_at msg at = and_then (byte_at msg at) (text_at kind.Signature msg)

-- what a result that borrows from the message says
abbrev pub seen : Result (Bor (List ℕ) × ℕ) Fault → Result (List ℕ × ℕ) Fault
seen (Ok x) = Ok (x.0.now, x.1)
seen (Err e) = Err e
