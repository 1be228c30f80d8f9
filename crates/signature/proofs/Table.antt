-- The table of type codes has what the Specification has, and a lookup goes through it row by row.
use Rattle.std.proofs.Common.{◌≡◌, ℕ, ◌<◌, ◌≤◌, Bool, true, false, cond, eqb, List, [], ◌∷◌, map, get_or, Some, Option, refl, ap, ◌∙◌, lit<, lit≤}
use denote.Enum.Declared.{tag_of}
use Rattle.signature.specs.contracts.codes.Code.{the_type}
use Rattle.signature.specs.declared.codes.Code.{Code}
use Rattle.signature.specs.declared.codes.Code.TheVariants.{Byte, Boolean, Int16, Uint16, Int32, Uint32, Int64, Uint64, Double, UnixFd, String, ObjectPath, Signature, Array, Structure, DictEntry, Variant}
use Rattle.std.specs.List.{find}
use Rattle.std.specs.Option.{option_map}
use Rattle.signature.specs.declared.codes.Row.{Row}
use Rattle.signature.specs.Codes.{align_of, amongst, code_of, every_code, letter_of, lookup, row_of}

abbrev pub nothing : Row
nothing = record { letter = 0; code = Byte; alignment = 0 }

map_cond : {A B : Type 0} (f : A → B) (t : Bool) (x : A) (o : Option A) → option_map f (cond t (Some x) o) ≡ cond t (Some (f x)) (option_map f o)
map_cond f true x o = refl
map_cond f false x o = refl

lookup-rows : (b : ℕ) (cs : List Code) → lookup b (map row_of cs) ≡ amongst cs b
lookup-rows b [] = refl
lookup-rows b (c ∷ cs) = map_cond (λ r. r.code) (eqb (letter_of c) b) (row_of c) (find (λ r. eqb r.letter b) (map row_of cs)) ∙ ap (cond (eqb (letter_of c) b) (Some c)) (lookup-rows b cs)

-- the whole table, at every letter
pub lookup_codes : (b : ℕ) → lookup b (map row_of every_code) ≡ code_of b
unfolding code_of
lookup_codes b = lookup-rows b every_code

-- and by the number of a code
pub at_code : (c : Code) → (get_or (map row_of every_code) (tag_of the_type c) nothing).alignment ≡ align_of c
at_code Byte = refl
at_code Boolean = refl
at_code Int16 = refl
at_code Uint16 = refl
at_code Int32 = refl
at_code Uint32 = refl
at_code Int64 = refl
at_code Uint64 = refl
at_code Double = refl
at_code UnixFd = refl
at_code String = refl
at_code ObjectPath = refl
at_code Signature = refl
at_code Array = refl
at_code Structure = refl
at_code DictEntry = refl
at_code Variant = refl

pub align-small : (c : Code) → (0 < align_of c) × (align_of c ≤ 8)
unfolding align_of
align-small Byte = (lit< tt, lit≤ tt)
align-small Boolean = (lit< tt, lit≤ tt)
align-small Int16 = (lit< tt, lit≤ tt)
align-small Uint16 = (lit< tt, lit≤ tt)
align-small Int32 = (lit< tt, lit≤ tt)
align-small Uint32 = (lit< tt, lit≤ tt)
align-small Int64 = (lit< tt, lit≤ tt)
align-small Uint64 = (lit< tt, lit≤ tt)
align-small Double = (lit< tt, lit≤ tt)
align-small UnixFd = (lit< tt, lit≤ tt)
align-small String = (lit< tt, lit≤ tt)
align-small ObjectPath = (lit< tt, lit≤ tt)
align-small Signature = (lit< tt, lit≤ tt)
align-small Array = (lit< tt, lit≤ tt)
align-small Structure = (lit< tt, lit≤ tt)
align-small DictEntry = (lit< tt, lit≤ tt)
align-small Variant = (lit< tt, lit≤ tt)

pub ruleset alignments = (at_code, align-small)
