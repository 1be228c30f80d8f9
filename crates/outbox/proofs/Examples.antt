-- Worked examples: those of the Specification, and bodies that libdbus 1.14 wrote.
use Rattle.std.proofs.Common.{◌≡◌, true, [], ◌∷◌, negsuc, codes, refl}
use Rattle.signature.specs.declared.codes.Code.TheVariants.{DictEntry, String, Uint64}
use Rattle.signature.specs.Codes.{align_of}
use Rattle.wire.specs.Reading.{gap}
use Rattle.outbox.specs.Marshal.{Part, ◌▹◌, array, contents_at, ended, entry, le32, many, open_array, pad, put_bool, put_i32, put_path, put_signature, put_string, put_text, put_u32, put_word, raw, variant}

-- "strings ‘foo’, ‘+’ and ‘bar’ would be serialized in sequence as follows"
pub three-strings : many put_string (codes "foo" ∷ codes "+" ∷ codes "bar" ∷ []) 8
    ≡ (3 ∷ 0 ∷ 0 ∷ 0 ∷ 102 ∷ 111 ∷ 111 ∷ 0 ∷ 1 ∷ 0 ∷ 0 ∷ 0 ∷ 43 ∷ 0 ∷ 0 ∷ 0 ∷ 3 ∷ 0 ∷ 0 ∷ 0 ∷ 98 ∷ 97 ∷ 114 ∷ 0 ∷ [])
unfolding many ◌▹◌ pad put_word put_text ended le32 gap align_of
three-strings = refl

-- a number of 64 bits, which no writer writes yet
abbrev five : Part
five = pad Uint64 ▹ raw (5 ∷ 0 ∷ 0 ∷ 0 ∷ 0 ∷ 0 ∷ 0 ∷ 0 ∷ [])

-- "an array containing only the 64-bit integer 5", here with the least byte first
pub array-of-five : array Uint64 five 8 ≡ (8 ∷ 0 ∷ 0 ∷ 0 ∷ 0 ∷ 0 ∷ 0 ∷ 0 ∷ 5 ∷ 0 ∷ 0 ∷ 0 ∷ 0 ∷ 0 ∷ 0 ∷ 0 ∷ [])
unfolding array contents_at open_array ◌▹◌ pad put_word le32 gap align_of
array-of-five = refl

-- "a variant containing a 64-bit integer 5", likewise
pub variant-of-five : variant 116 five 8 ≡ (1 ∷ 116 ∷ 0 ∷ 0 ∷ 0 ∷ 0 ∷ 0 ∷ 0 ∷ 5 ∷ 0 ∷ 0 ∷ 0 ∷ 0 ∷ 0 ∷ 0 ∷ 0 ∷ [])
unfolding ◌▹◌ pad put_signature ended gap align_of
variant-of-five = refl

-- "alignment padding for the first element is required even if there is no first element"
pub empty-array : array Uint64 (raw []) 8 ≡ (0 ∷ 0 ∷ 0 ∷ 0 ∷ 0 ∷ 0 ∷ 0 ∷ 0 ∷ [])
unfolding array contents_at open_array ◌▹◌ pad put_word le32 gap align_of
empty-array = refl

abbrev knobs : Part
knobs =
    entry (put_string (codes "On")) (variant 98 (put_bool true))
    ▹ entry (put_string (codes "Gain")) (variant 105 (put_i32 (negsuc 1)))
    ▹ entry (put_string (codes "Time")) (variant 117 (put_u32 300))
    ▹ entry (put_string (codes "Name")) (variant 115 (put_string (codes "hall")))

abbrev effects : Part
effects = entry (put_string (codes "x.Delay")) (array DictEntry knobs) ▹ entry (put_string (codes "x.Tuner")) (array DictEntry (raw []))

-- oa{sa{sv}}
pub added-body : (put_path (codes "/a/b") ▹ array DictEntry effects) 0
    ≡ (4 ∷ 0 ∷ 0 ∷ 0 ∷ 47 ∷ 97 ∷ 47 ∷ 98 ∷ 0 ∷ 0 ∷ 0 ∷ 0 ∷ 104 ∷ 0 ∷ 0 ∷ 0 ∷ 7 ∷ 0 ∷ 0 ∷ 0 ∷ 120 ∷ 46 ∷ 68 ∷ 101 ∷ 108 ∷ 97 ∷ 121 ∷ 0 ∷ 69 ∷ 0 ∷ 0 ∷ 0 ∷ 2 ∷ 0 ∷ 0 ∷ 0 ∷ 79 ∷ 110 ∷ 0 ∷ 1 ∷ 98 ∷ 0 ∷ 0 ∷ 0 ∷ 1 ∷ 0 ∷ 0 ∷ 0 ∷ 4 ∷ 0 ∷ 0 ∷ 0 ∷ 71 ∷ 97 ∷ 105 ∷ 110 ∷ 0 ∷ 1 ∷ 105 ∷ 0 ∷ 254 ∷ 255 ∷ 255 ∷ 255 ∷ 4 ∷ 0 ∷ 0 ∷ 0 ∷ 84 ∷ 105 ∷ 109 ∷ 101 ∷ 0 ∷ 1 ∷ 117 ∷ 0 ∷ 44 ∷ 1 ∷ 0 ∷ 0 ∷ 4 ∷ 0 ∷ 0 ∷ 0 ∷ 78 ∷ 97 ∷ 109 ∷ 101 ∷ 0 ∷ 1 ∷ 115 ∷ 0 ∷ 4 ∷ 0 ∷ 0 ∷ 0 ∷ 104 ∷ 97 ∷ 108 ∷ 108 ∷ 0 ∷ 0 ∷ 0 ∷ 0 ∷ 7 ∷ 0 ∷ 0 ∷ 0 ∷ 120 ∷ 46 ∷ 84 ∷ 117 ∷ 110 ∷ 101 ∷ 114 ∷ 0 ∷ 0 ∷ 0 ∷ 0 ∷ 0 ∷ [])
unfolding array contents_at open_array ◌▹◌ pad put_word put_text put_signature ended le32 gap align_of
added-body = refl

-- oas
pub removed-body : (put_path (codes "/a/b") ▹ array String (many put_string (codes "x.Delay" ∷ codes "x.Tuner" ∷ []))) 0
    ≡ (4 ∷ 0 ∷ 0 ∷ 0 ∷ 47 ∷ 97 ∷ 47 ∷ 98 ∷ 0 ∷ 0 ∷ 0 ∷ 0 ∷ 24 ∷ 0 ∷ 0 ∷ 0 ∷ 7 ∷ 0 ∷ 0 ∷ 0 ∷ 120 ∷ 46 ∷ 68 ∷ 101 ∷ 108 ∷ 97 ∷ 121 ∷ 0 ∷ 7 ∷ 0 ∷ 0 ∷ 0 ∷ 120 ∷ 46 ∷ 84 ∷ 117 ∷ 110 ∷ 101 ∷ 114 ∷ 0 ∷ [])
unfolding many array contents_at open_array ◌▹◌ pad put_word put_text ended le32 gap align_of
removed-body = refl
