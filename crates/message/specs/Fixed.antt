-- The fixed part of a header: the D-Bus Specification, section "Message Format". A header's signature is "yyyyuua(yv)"; its
-- fixed part is what stands before the array's first field, sixteen bytes.
use Rattle.std.specs.Prelude.{◌≡◌, ℕ, ◌+◌, ◌≤◌, Bool, cond, ◌&&◌, List, length, IfErr, Some, None, Ok, Err, Option, Result, ◌==◌, nat_le, nat_lt, slice_index}
use Rattle.std.specs.Result.{result_ok}
use Rattle.signature.specs.Repeat.{bind}
use Rattle.wire.specs.declared.reading.ByteOrder.{ByteOrder}
use Rattle.wire.specs.declared.reading.Fault.{Fault}
use Rattle.wire.specs.Reading.{gap, order_of, u32_at}
use Rattle.message.specs.declared.fault.HeaderFault.{HeaderFault}
use Rattle.message.specs.declared.fault.HeaderFault.TheVariants.{ShortMessage, BadFixedPart}
use Rattle.message.specs.declared.fixed.FixedPart.{FixedPart}
use Rattle.message.specs.declared.fixed.InvalidType.{InvalidType}
use Rattle.message.specs.declared.fixed.MessageType.{MessageType}
use Rattle.message.specs.declared.fixed.MessageType.TheVariants.{MethodCall, MethodReturn, Error, Signal, Unknown}

-- the next multiple of 8
abbrev pub raised : ℕ → ℕ
raised at = at + gap 8 at

-- 2nd BYTE: "Unknown types must be ignored"; of 0: "This is an invalid type."
abbrev pub message_type : ℕ → Option MessageType
message_type b =
    cond (b == 0) None
    (cond (b == 1) (Some MethodCall) (cond (b == 2) (Some MethodReturn) (cond (b == 3) (Some Error) (cond (b == 4) (Some Signal) (Some (Unknown b))))))

-- what a byte converts to: its type, or, where it has none, an error that holds the byte
abbrev pub Typed : ℕ → Result MessageType InvalidType → Type 0
Typed b r = (result_ok r ≡ message_type b) × IfErr r (λ e. e.0 ≡ b)

abbrev pub value_in : Result (ℕ × ℕ) Fault → Option ℕ
value_in (Ok x) = Some x.0
value_in (Err e) = None

-- a UINT32 at a place
abbrev pub word_at : ByteOrder → List ℕ → ℕ → Option ℕ
word_at order msg at = value_in (u32_at order msg at)

-- "The header ends after its alignment padding to an 8-boundary", then comes the body, which ends where the message does. An
-- array has at most 2 to the 26th power bytes, a message 2 to the 27th power.
unfoldable pub lengths_meet : List ℕ → ℕ → ℕ → Bool
lengths_meet msg fields body = nat_le fields 67108864 && nat_le (length msg) 134217728 && raised (16 + fields) + body == length msg

abbrev pub when : {A : Type 0} → Bool → Option A → Option A
when b o = cond b o None

-- The four bytes are order, type, flags ("Unknown flags must be ignored") and version, which is 1; the numbers are the body's
-- length, the serial ("This must not be zero") and the length of the array of fields.
unfoldable pub sound_fixed : List ℕ → Option FixedPart
sound_fixed msg =
    bind (order_of (slice_index msg 0)) λ o.
    bind (message_type (slice_index msg 1)) λ k.
    when (slice_index msg 3 == 1) (
    bind (word_at o msg 4) λ body.
    bind (word_at o msg 8) λ s.
    when (nat_lt 0 s) (
    bind (word_at o msg 12) λ fields.
    when (lengths_meet msg fields body) (
    Some (record { order = o; kind = k; flags = slice_index msg 2; serial = s; fields_len = fields }))))

-- the fields lie inside the message
abbrev pub Inside : List ℕ → FixedPart → Type 0
Inside msg f = (16 + f.fields_len ≤ length msg) × (f.fields_len ≤ 67108864)

abbrev pub or_bad : Option FixedPart → Result FixedPart HeaderFault
or_bad None = Err BadFixedPart
or_bad (Some f) = Ok f

-- the fixed part, or why there is none
unfoldable pub fixed_of : List ℕ → Result FixedPart HeaderFault
fixed_of msg = cond (nat_lt (length msg) 16) (Err ShortMessage) (or_bad (sound_fixed msg))
