-- What was written is read back by the readers of a message.
use Rattle.std.specs.Prelude.{◌≡◌, ℕ, ◌+◌, ◌^◌, ◌<◌, ◌≤◌, Bool, true, length, IfOk, Ok, Result}
use Rattle.names.specs.Names.{valid_path}
use Rattle.wire.specs.declared.reading.ByteOrder.TheVariants.{Little}
use Rattle.wire.specs.declared.reading.Fault.{Fault}
use Rattle.signature.specs.declared.codes.Code.{Code}
use Rattle.signature.specs.Codes.{align_of}
use Rattle.wire.specs.Reading.{align_at, bool_at, part, path_at, signature_at, string_at, u32_at}
use Rattle.signature.specs.Signatures.{valid_signature}
use Rattle.wire.specs.Text.{valid_text}
use Rattle.outbox.specs.Marshal.{Bytes, Part, ◌▹◌, array, contents_at, pad, put_bool, put_path, put_signature, put_string, put_u32}

-- a message has a part at a place, and the part is not too long for its lengths
pub record Stands (msg : Bytes) (at : ℕ) (w : Part) : Type 0 where
  pub bytes : part (length (w at)) msg at ≡ w at
  pub within : at + length (w at) ≤ length msg
  pub short : length (w at) < 2 ^ 32

abbrev pub Reader : Type 0 → Type 0
Reader A = Bytes → ℕ → Result (A × ℕ) Fault

-- wherever the part stands, the value is read, and the reading ends where the part does
abbrev pub Reads : {A : Type 0} → Reader A → Part → A → Type 0
Reads read w x = (msg : Bytes) (at : ℕ) → Stands msg at w → read msg at ≡ Ok (x, at + length (w at))

-- An array: its length, the padding before its elements, and then the elements, which end where the array does.
pub record ArrayStands (msg : Bytes) (at : ℕ) (element : Code) (w : Part) : Type 0 where
  pub start : ℕ
  pub counts : u32_at Little msg at ≡ Ok (length (w (contents_at element at)), start)
  pub pads : align_at (align_of element) msg start ≡ Ok (contents_at element at)
  pub holds : Stands msg (contents_at element at) w
  pub ends : contents_at element at + length (w (contents_at element at)) ≡ at + length (array element w at)

-- Every value that can be read, in the byte order that is written; and parts one after another, each where the one before it ends.
pub record EveryReadsBack : Type 0 where
  pub u32 : (n : ℕ) → n < 2 ^ 32 → Reads (u32_at Little) (put_u32 n) n
  pub bool : (b : Bool) → Reads (bool_at Little) (put_bool b) b
  pub string : (s : Bytes) → valid_text s ≡ true → Reads (string_at Little) (put_string s) s
  pub path : (s : Bytes) → valid_path s ≡ true → Reads (path_at Little) (put_path s) s
  pub signature : (s : Bytes) → valid_signature s ≡ true → Reads signature_at (put_signature s) s
  pub padding : (code : Code) (msg : Bytes) (at : ℕ) → Stands msg at (pad code) → align_at (align_of code) msg at ≡ Ok (at + length (pad code at))
  pub arrays : (msg : Bytes) (at : ℕ) (element : Code) (w : Part) → Stands msg at (array element w) → ArrayStands msg at element w
  pub in_front : (msg : Bytes) (at : ℕ) (v w : Part) → Stands msg at (v ▹ w) → Stands msg at v
  pub behind : (msg : Bytes) (at : ℕ) (v w : Part) → Stands msg at (v ▹ w) → Stands msg (at + length (v at)) w

-- after a call that wrote it, the value is read from these bytes
abbrev pub ReadsBack : {A E : Type 0} → Reader A → Bytes → ℕ → Result ℕ E → A → Type 0
ReadsBack read is from r x = IfOk r (λ end. read is from ≡ Ok (x, end))
