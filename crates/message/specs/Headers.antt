-- The header of a message: the D-Bus Specification, section "Message Format".
use Rattle.std.specs.Prelude.{ℕ, zero, suc, ◌+◌, cond, List, length, take, drop, is_some, Some, None, Ok, Err, Option, Result, ◌==◌, nat_lt}
use Rattle.std.specs.Borrow.{Bor}
use Rattle.wire.specs.declared.reading.ByteOrder.{ByteOrder}
use Rattle.wire.specs.declared.reading.Fault.{Fault}
use Rattle.wire.specs.Reading.{align_at, byte_at}
use Rattle.message.specs.declared.fault.HeaderFault.{HeaderFault}
use Rattle.message.specs.declared.fault.HeaderFault.TheVariants.{BadField, NotACall}
use Rattle.message.specs.declared.field.Field.{Field}
use Rattle.message.specs.declared.field.FieldCode.{FieldCode}
use Rattle.message.specs.declared.field.Flaw.{Flaw}
use Rattle.message.specs.declared.field.Flaw.TheVariants.{Twice, BadValue}
use Rattle.message.specs.declared.fields.Fields.{Fields}
use Rattle.message.specs.declared.fixed.FixedPart.{FixedPart}
use Rattle.message.specs.declared.fixed.MessageType.{MessageType}
use Rattle.message.specs.declared.fixed.MessageType.TheVariants.{MethodCall, MethodReturn, Error, Signal, Unknown}
use Rattle.message.specs.declared.header.Header.{Header}
use Rattle.message.specs.Fields.{Entry, Value, and_on, code_of, count, fault_of, field_code, known_at, number_of, reads, text, unknown_at, value_of}
use Rattle.message.specs.Fixed.{fixed_of, raised}

-- what is found under each code
abbrev pub Found : Type 0
Found = ℕ → Option Value

abbrev pub nothing : Found
nothing k = None

-- one field more
abbrev pub noted : Option Entry → Found → Found
noted None found k = found k
noted (Some f) found k = cond (k == f.0) (Some f.1) (found k)

-- One field by its code, after its code byte and the place of its variant. A known one is bad when it was found already.
abbrev pub by_code : ByteOrder → List ℕ → Found → ℕ → ℕ × ℕ → Option FieldCode → Result (Option Entry × ℕ) Flaw
by_code order area found at b None = and_on (unknown_at b.0 order area at b.1) λ end. Ok (None, end)
by_code order area found at b (Some c) =
    cond (is_some (found (number_of c))) (Err Twice) (and_on (known_at c order area at b.1) λ f. Ok (Some f.0, f.1))

-- One field after a place: a STRUCT, so on a boundary of 8, "where the byte is the field code, and the variant is the field
-- value". It gives what is found, nothing if the code is unknown, and the place after the field.
unfoldable pub field_at : ByteOrder → List ℕ → Found → ℕ → Result (Option Entry × ℕ) Flaw
field_at order area found at = reads BadValue (byte_at area (raised at)) λ b. by_code order area found at b (field_code b.0)

abbrev pub onward : ℕ → Found → (Found → ℕ → Result Found HeaderFault) → Result (Option Entry × ℕ) Flaw → Result Found HeaderFault
onward place found f (Ok x) = f (noted x.0 found) x.1
onward place found f (Err w) = Err (fault_of w place)

-- The fields from a place on, while bytes of the array are left, at most so many. A field that is bad is told by the place of
-- its code byte.
abbrev pub fields_from : ByteOrder → List ℕ → ℕ → Found → ℕ → Result Found HeaderFault
fields_from order area zero found at = Ok found
fields_from order area (suc n) found at =
    cond (nat_lt at (length area)) (onward (raised at) found (fields_from order area n) (field_at order area found at)) (Ok found)

-- the fields of a header, which is this long without the padding at its end; each has a byte at least
unfoldable pub fields_of : ByteOrder → List ℕ → Result Found HeaderFault
fields_of order area = fields_from order area (length area) nothing 16

abbrev pub texted : Option (Bor (List ℕ)) → Option Value
texted None = None
texted (Some p) = Some (text p.now)

abbrev pub numbered : Option ℕ → Option Value
numbered None = None
numbered (Some n) = Some (count n)

-- what the fields hold under a code
abbrev pub look : Fields → Found
look f k =
    cond (k == 1) (texted f.path)
    (cond (k == 2) (texted f.interface)
    (cond (k == 3) (texted f.member)
    (cond (k == 4) (texted f.error_name)
    (cond (k == 5) (numbered f.reply_serial)
    (cond (k == 6) (texted f.destination)
    (cond (k == 7) (texted f.sender)
    (cond (k == 8) (texted f.signature)
    (cond (k == 9) (numbered f.unix_fds) None))))))))

abbrev pub entered : Field → Option Entry
entered f = Some (code_of f, value_of f)

abbrev pub entered_all : Option Field → Option Entry
entered_all None = None
entered_all (Some f) = entered f

abbrev pub found_seen : Result (Option Field × ℕ) Flaw → Result (Option Entry × ℕ) Flaw
found_seen (Ok x) = Ok (entered_all x.0, x.1)
found_seen (Err e) = Err e

abbrev pub fields_seen : Result Fields HeaderFault → Result Found HeaderFault
fields_seen (Ok f) = Ok (look f)
fields_seen (Err e) = Err e

-- what a header says
pub record HeaderModel : Type 0 where
  pub order : ByteOrder
  pub kind : MessageType
  pub flags : ℕ
  pub serial : ℕ
  pub found : Found
  pub body : List ℕ

abbrev pub and_then : {A B : Type 0} → Result A HeaderFault → (A → Result B HeaderFault) → Result B HeaderFault
and_then (Ok x) f = f x
and_then (Err e) f = Err e

abbrev pub model_of : FixedPart → Found → List ℕ → HeaderModel
model_of f s bs = record { order = f.order; kind = f.kind; flags = f.flags; serial = f.serial; found = s; body = bs }

-- "alignment padding to an 8-boundary" of zeros, then the body
abbrev pub ended : List ℕ → ℕ → FixedPart → Found → Result ℕ Fault → Result HeaderModel HeaderFault
ended msg end f found (Ok start) = Ok (model_of f found (drop start msg))
ended msg end f found (Err e) = Err (BadField end)

-- The header of a message: the fixed part, the array of fields, the padding. No field goes past the array's end.
unfoldable pub header_of : List ℕ → Result HeaderModel HeaderFault
header_of msg =
    and_then (fixed_of msg) λ f.
    and_then (fields_of f.order (take (16 + f.fields_len) msg)) λ found.
    ended msg (16 + f.fields_len) f found (align_at 8 msg (16 + f.fields_len))

abbrev pub of_call : HeaderModel → MessageType → Result HeaderModel HeaderFault
of_call h MethodCall = Ok h
of_call h MethodReturn = Err NotACall
of_call h Error = Err NotACall
of_call h Signal = Err NotACall
of_call h (Unknown b) = Err NotACall

-- the same of a call, the last refusal
unfoldable pub call_of : List ℕ → Result HeaderModel HeaderFault
call_of msg = and_then (header_of msg) λ h. of_call h h.kind

abbrev pub model : Header → HeaderModel
model h = model_of h.fixed (look h.fields) h.body.now

abbrev pub header_seen : Result Header HeaderFault → Result HeaderModel HeaderFault
header_seen (Ok h) = Ok (model h)
header_seen (Err e) = Err e
