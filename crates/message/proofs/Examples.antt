-- Worked examples of the definitions: a message of 40 bytes with a path and one field more.
use Rattle.std.proofs.Common.{◌≡◌, ℕ, List, [], ◌∷◌, map, Some, None, Ok, Err, codes, Option, Result, refl}
use Rattle.names.specs.Names.{valid}
use Rattle.signature.specs.Codes.{align_of, code_of}
use Rattle.signature.specs.Depth.{full}
use Rattle.signature.specs.Signatures.{single, type_end, valid_signature}
use Rattle.wire.specs.Reading.{align_at, ended_at, fixed_at, gap, path_at, signature_at, text_at, u32_at}
use Rattle.skip.specs.Values.{value_at, value_end}
use Rattle.message.specs.declared.fault.HeaderFault.{HeaderFault}
use Rattle.message.specs.declared.fault.HeaderFault.TheVariants.{BadFixedPart, BadField, NotACall}
use Rattle.message.specs.Fields.{Value, count, known_at, padded, text, typed_at, unknown_at, value_in}
use Rattle.message.specs.Fixed.{fixed_of, lengths_meet, sound_fixed}
use Rattle.message.specs.Headers.{HeaderModel, call_of, field_at, fields_of, header_of}

-- The version, the type, a byte of the padding after the path, the other field's code, its type, its number, and the length of
-- the array of fields. All numbers are little-endian.
pub record Sample : Type 0 where
  pub version : ℕ
  pub kind : ℕ
  pub padding : ℕ
  pub code : ℕ
  pub letter : ℕ
  pub number : ℕ
  pub len : ℕ

abbrev bytes : Sample → List ℕ
bytes s =
    108 ∷ s.kind ∷ 0 ∷ s.version ∷ 0 ∷ 0 ∷ 0 ∷ 0 ∷ 7 ∷ 0 ∷ 0 ∷ 0 ∷ s.len ∷ 0 ∷ 0 ∷ 0
    ∷ 1 ∷ 1 ∷ 111 ∷ 0 ∷ 2 ∷ 0 ∷ 0 ∷ 0 ∷ 47 ∷ 97 ∷ 0 ∷ 0 ∷ 0 ∷ 0 ∷ s.padding ∷ 0
    ∷ s.code ∷ 1 ∷ s.letter ∷ 0 ∷ s.number ∷ 0 ∷ 0 ∷ 0 ∷ []

abbrev sample : ℕ → ℕ → ℕ → ℕ → ℕ → ℕ → ℕ → Sample
sample v k p c l n len = record { version = v; kind = k; padding = p; code = c; letter = l; number = n; len = len }

-- what a call holds under the codes 1, 2, 5 and 9, or why it is refused
abbrev told : Result HeaderModel HeaderFault → Result (List (Option Value)) HeaderFault
told (Ok h) = Ok (h.found 1 ∷ h.found 2 ∷ h.found 5 ∷ h.found 9 ∷ [])
told (Err e) = Err e

examples :
    map (λ s. told (call_of (bytes s)))
    (sample 1 1 0 9 117 3 24 ∷ sample 1 1 0 5 117 3 24 ∷ sample 1 1 0 200 117 3 24
    ∷ sample 1 1 0 0 117 3 24 ∷ sample 1 1 0 1 111 0 24 ∷ sample 1 1 0 9 105 3 24 ∷ sample 1 1 0 5 117 0 24 ∷ sample 1 1 8 9 117 3 24
    ∷ sample 1 1 0 9 117 3 23 ∷ sample 1 1 0 9 117 3 25 ∷ sample 2 1 0 9 117 3 24 ∷ sample 1 0 0 9 117 3 24 ∷ sample 1 5 0 9 117 3 24 ∷ sample 1 5 0 0 117 3 24 ∷ [])
    ≡ Ok (Some (text (codes "/a")) ∷ None ∷ None ∷ Some (count 3) ∷ [])
    ∷ Ok (Some (text (codes "/a")) ∷ None ∷ Some (count 3) ∷ None ∷ [])
    ∷ Ok (Some (text (codes "/a")) ∷ None ∷ None ∷ None ∷ [])
    ∷ Err (BadField 32) ∷ Err (BadField 32) ∷ Err (BadField 32) ∷ Err (BadField 32) ∷ Err (BadField 32)
    ∷ Err (BadField 32) ∷ Err BadFixedPart ∷ Err BadFixedPart ∷ Err BadFixedPart ∷ Err NotACall ∷ Err (BadField 32) ∷ []
unfolding call_of header_of fixed_of sound_fixed lengths_meet fields_of field_at known_at unknown_at value_in padded typed_at gap align_at fixed_at u32_at path_at signature_at text_at ended_at valid_signature single type_end code_of align_of full valid value_at value_end
examples = refl
