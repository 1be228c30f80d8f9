-- What a value stands for, of which type it is, and what a range measures of it.
use Rattle.std.specs.Prelude.{ℕ, ◌^◌, Bool, true, cond, ◌&&◌, length, take, ℤ, pos, negsuc, Some, None, Option, ◌==◌, int_le, nat_lt}
use Rattle.names.specs.Names.{Bytes}
use Rattle.effects.specs.declared.text.Text.{Text}
use Rattle.effects.specs.declared.value.Value.{Value}
use Rattle.effects.specs.declared.value.Value.TheVariants as V
use Rattle.effects.specs.declared.value.Signature.{Signature}
use Rattle.effects.specs.declared.value.Signature.TheVariants as S
use Rattle.effects.specs.Texts.{valid_text}

abbrev pub text_of : Text → Bytes
text_of t = take t.len t.bytes

-- the text of these bytes, if they are one
abbrev pub as_text : Bytes → Option Bytes
as_text bs = cond (valid_text bs) (Some bs) None

pub data ValueModel : Type 0 where
  truth : Bool → ValueModel
  whole : ℤ → ValueModel
  count : ℕ → ValueModel
  letters : Bytes → ValueModel

abbrev pub seen : Value → ValueModel
seen (V.Bool b) = truth b
seen (V.I32 z) = whole z
seen (V.U32 n) = count n
seen (V.Str t) = letters (text_of t)

-- the type of a value
abbrev pub type_of : ValueModel → Signature
type_of (truth b) = S.Bool
type_of (whole z) = S.I32
type_of (count n) = S.U32
type_of (letters l) = S.Str

-- the code of a type: b, i, u, s
abbrev pub code_of : Signature → ℕ
code_of S.Bool = 98
code_of S.I32 = 105
code_of S.U32 = 117
code_of S.Str = 115

abbrev pub same_type : Signature → Signature → Bool
same_type s t = code_of s == code_of t

-- what a range is about: a number itself, the length of a text, 0 or 1 for false or true
abbrev pub amount : ValueModel → ℤ
amount (truth b) = cond b (pos 1) (pos 0)
amount (whole z) = z
amount (count n) = pos n
amount (letters l) = pos (length l)

abbrev pub in_range : ℤ → ℤ → ValueModel → Bool
in_range low high v = int_le low (amount v) && int_le (amount v) high

-- of the type s, and from low to high
abbrev pub fits : Signature → ℤ → ℤ → ValueModel → Bool
fits s low high v = same_type s (type_of v) && in_range low high v

-- what the types themselves can hold
abbrev pub representable : ValueModel → Bool
representable (truth b) = true
representable (whole z) = int_le (negsuc 2147483647) z && int_le z (pos 2147483647)
representable (count n) = nat_lt n (2 ^ 32)
representable (letters l) = valid_text l
