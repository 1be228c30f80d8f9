-- How it is printed what is wrong with bytes that are no name.
use Rattle.std.specs.Prelude.{ℕ, ◌++◌, ◌-◌, ◌^◌, false, [], codes, decimal, encode_utf8}
use Rattle.std.specs.Fmt.{digits, format_spec, padded_integral}
use Rattle.names.specs.declared.grammar.Invalid.{Invalid}
use Rattle.names.specs.declared.grammar.Reason.{Reason}
use Rattle.names.specs.declared.grammar.Reason.TheVariants.{TooLong, Unfinished, Expected, EmptyElement, LeadingDigit, Forbidden}
use Rattle.names.specs.Names.{Bytes}

-- two hexadecimal digits
abbrev pub hexadecimal : ℕ → Bytes
hexadecimal b = padded_integral (format_spec 32 0 4 2 (2 ^ 64 - 1)) false [] (digits 16 false b)

abbrev pub reason_text : Reason → Bytes
reason_text TooLong = codes "a name has at most " ++ (decimal 255 ++ codes " bytes")
reason_text Unfinished = codes "it ends where more must follow"
reason_text (Expected b) = codes "it must begin with '" ++ (encode_utf8 b ++ codes "'")
reason_text EmptyElement = codes "an element is empty"
reason_text LeadingDigit = codes "an element may not begin with a digit"
reason_text (Forbidden b) = codes "byte 0x" ++ (hexadecimal b ++ codes " may not stand here")

-- the place before the reason
abbrev pub invalid_text : Invalid → Bytes
invalid_text i = codes "byte " ++ (decimal i.place ++ (codes ": " ++ reason_text i.why))
