-- One header field: the D-Bus Specification, section "Header Fields", and its table.
use Rattle.std.specs.Prelude.{◌≡◌, ℕ, ◌<◌, ◌≤◌, Bool, true, cond, ◌||◌, List, [], ◌∷◌, length, is_ok, IfErr, IfOk, Some, None, Ok, Err, codes, Option, Result, ◌==◌, nat_le}
use Rattle.std.specs.Result.{result_ok}
use Rattle.std.specs.Str.{bytes_eq}
use Rattle.names.specs.Names.{valid_bus, valid_error, valid_interface, valid_member, valid_unique}
use Rattle.signature.specs.Depth.{left}
use Rattle.signature.specs.declared.levels.Levels.{Levels}
use Rattle.wire.specs.declared.reading.ByteOrder.{ByteOrder}
use Rattle.wire.specs.declared.reading.Fault.{Fault}
use Rattle.wire.specs.Reading.{align_at, path_at, signature_at, string_at, u32_at}
use Rattle.skip.specs.Values.{value_at}
use Rattle.message.specs.declared.fault.HeaderFault.{HeaderFault}
use Rattle.message.specs.declared.fault.HeaderFault.TheVariants.{BadField}
use Rattle.message.specs.declared.field.Field.{Field}
use Rattle.message.specs.declared.field.Field.TheVariants as field
use Rattle.message.specs.declared.field.FieldCode.{FieldCode}
use Rattle.message.specs.declared.field.FieldCode.TheVariants.{Path, Interface, Member, ErrorName, ReplySerial, Destination, Sender, Signature, UnixFds}
use Rattle.message.specs.declared.field.Flaw.{Flaw}
use Rattle.message.specs.declared.field.Flaw.TheVariants.{Twice, WrongType, BadValue}
use Rattle.message.specs.declared.field.UnknownField.{UnknownField}

pub data Value : Type 0 where
  text : List ℕ → Value
  count : ℕ → Value

-- Column "Decimal Code" of the table.
abbrev pub number_of : FieldCode → ℕ
number_of Path = 1
number_of Interface = 2
number_of Member = 3
number_of ErrorName = 4
number_of ReplySerial = 5
number_of Destination = 6
number_of Sender = 7
number_of Signature = 8
number_of UnixFds = 9

abbrev pub field_code : ℕ → Option FieldCode
field_code b =
    cond (b == 1) (Some Path)
    (cond (b == 2) (Some Interface)
    (cond (b == 3) (Some Member)
    (cond (b == 4) (Some ErrorName)
    (cond (b == 5) (Some ReplySerial)
    (cond (b == 6) (Some Destination)
    (cond (b == 7) (Some Sender)
    (cond (b == 8) (Some Signature)
    (cond (b == 9) (Some UnixFds) None))))))))

-- what a byte converts to: its code, or, where it has none, an error that holds the byte
abbrev pub Known : ℕ → Result FieldCode UnknownField → Type 0
Known b r = (result_ok r ≡ field_code b) × IfErr r (λ e. e.0 ≡ b)

-- column "Type": OBJECT_PATH, SIGNATURE and STRING; numbers are UINT32
abbrev pub type_of : FieldCode → ℕ
type_of Path = 111
type_of Interface = 115
type_of Member = 115
type_of ErrorName = 115
type_of ReplySerial = 117
type_of Destination = 115
type_of Sender = 115
type_of Signature = 103
type_of UnixFds = 117

-- "Unique name of the sending connection"; the bus itself sends under its own name
unfoldable pub valid_sender : List ℕ → Bool
valid_sender bs = valid_unique bs || bytes_eq bs (codes "org.freedesktop.DBus")

-- what was read goes on; nothing read is a flaw
abbrev pub reads : {A B : Type 0} → Flaw → Result A Fault → (A → Result B Flaw) → Result B Flaw
reads w (Ok x) f = f x
reads w (Err e) f = Err w

-- a code and its value
abbrev pub Entry : Type 0
Entry = ℕ × Value

-- what was read, under its code, if it passes the test
abbrev pub taken : {A : Type 0} → ℕ → (A → Value) → (A → Bool) → Result (A × ℕ) Fault → Result (Entry × ℕ) Flaw
taken k value test r = reads BadValue r λ x. cond (test x.0) (Ok ((k, value x.0), x.1)) (Err BadValue)

abbrev pub any : {A : Type 0} → A → Bool
any x = true

-- A field's value by its type, with what it has to be besides (a name of the field's kind; no message has the serial 0), and the
-- place after it.
unfoldable pub value_in : FieldCode → ByteOrder → List ℕ → ℕ → Result (Entry × ℕ) Flaw
value_in Path order area at = taken 1 text any (path_at order area at)
value_in Interface order area at = taken 2 text valid_interface (string_at order area at)
value_in Member order area at = taken 3 text valid_member (string_at order area at)
value_in ErrorName order area at = taken 4 text valid_error (string_at order area at)
value_in ReplySerial order area at = taken 5 count (nat_le 1) (u32_at order area at)
value_in Destination order area at = taken 6 text valid_bus (string_at order area at)
value_in Sender order area at = taken 7 text valid_sender (string_at order area at)
value_in Signature order area at = taken 8 text any (signature_at area at)
value_in UnixFds order area at = taken 9 count any (u32_at order area at)

-- the padding before a field: a structure is on a boundary of 8
unfoldable pub padded : List ℕ → ℕ → Bool
padded area at = is_ok (align_at 8 area at)

-- past the signature of a known field's variant, which is exactly its type
unfoldable pub typed_at : FieldCode → List ℕ → ℕ → Result ℕ Flaw
typed_at c area at =
    reads WrongType (signature_at area at) λ s. cond (bytes_eq s.0 (type_of c ∷ [])) (Ok s.1) (Err WrongType)

abbrev pub and_on : {A B : Type 0} → Result A Flaw → (A → Result B Flaw) → Result B Flaw
and_on (Ok x) f = f x
and_on (Err e) f = Err e

-- A field of a known code. Its padding begins at `at`, its variant after the code byte.
unfoldable pub known_at : FieldCode → ByteOrder → List ℕ → ℕ → ℕ → Result (Entry × ℕ) Flaw
known_at c order area at variant =
    and_on (typed_at c area variant) λ start. cond (padded area at) (value_in c order area start) (Err BadValue)

-- "a total message depth" of 64: the array of fields, a field's structure and its variant are three. How many arrays and
-- structures there may be is counted in each signature, and so sets no limit of its own here.
abbrev pub in_field : Levels
in_field = left 32 32 61

-- A field of another code. 0 is "Not a valid field name (error if it appears in a message)". Any other is accepted and ignored,
-- and "must still be well-formed" ("Invalid Protocol and Spec Extensions").
unfoldable pub unknown_at : ℕ → ByteOrder → List ℕ → ℕ → ℕ → Result ℕ Flaw
unknown_at b order area at variant =
    cond (b == 0) (Err BadValue)
    (cond (padded area at)
    (reads BadValue (signature_at area variant) λ s. reads BadValue (value_at order area in_field s.0 s.1) Ok) (Err BadValue))

abbrev pub code_of : Field → ℕ
code_of (field.Path p) = 1
code_of (field.Interface p) = 2
code_of (field.Member p) = 3
code_of (field.ErrorName p) = 4
code_of (field.ReplySerial n) = 5
code_of (field.Destination p) = 6
code_of (field.Sender p) = 7
code_of (field.Signature p) = 8
code_of (field.UnixFds n) = 9

abbrev pub value_of : Field → Value
value_of (field.Path p) = text p.now
value_of (field.Interface p) = text p.now
value_of (field.Member p) = text p.now
value_of (field.ErrorName p) = text p.now
value_of (field.ReplySerial n) = count n
value_of (field.Destination p) = text p.now
value_of (field.Sender p) = text p.now
value_of (field.Signature p) = text p.now
value_of (field.UnixFds n) = count n

abbrev pub field_seen : Result (Field × ℕ) Flaw → Result (Entry × ℕ) Flaw
field_seen (Ok x) = Ok ((code_of x.0, value_of x.0), x.1)
field_seen (Err e) = Err e

-- an end lies past the start, and not past the bytes
abbrev pub After : {A : Type 0} → List ℕ → ℕ → Result (A × ℕ) Flaw → Type 0
After area at r = IfOk r (λ x. (at < x.1) × (x.1 ≤ length area))

abbrev pub Further : List ℕ → ℕ → Result ℕ Flaw → Type 0
Further area at r = IfOk r (λ p. (at < p) × (p ≤ length area))

-- Each flaw of the field with its code byte at this place is the one refusal.
abbrev pub fault_of : Flaw → ℕ → HeaderFault
fault_of Twice place = BadField place
fault_of WrongType place = BadField place
fault_of BadValue place = BadField place
