-- Where bytes stop being the beginning of a name.
use Rattle.std.specs.Prelude.{◌≡◌, ℕ, ◌+◌, ◌<◌, ◌≤◌, Bool, true, false, cond, ◌&&◌, ◌||◌, ◌∷◌, ◌++◌, length, take, Some, None, Option, ◌==◌, nat_le, nat_lt, slice_index, ⊤, Result, MatchResult}
use Rattle.names.specs.declared.grammar.Alphabet.{Alphabet}
use Rattle.names.specs.declared.grammar.Alphabet.TheVariants.{Path, Name, Member, WellKnown, Unique}
use Rattle.names.specs.declared.grammar.Reason.{Reason}
use Rattle.names.specs.declared.grammar.Reason.TheVariants.{TooLong, Unfinished, Expected, EmptyElement, LeadingDigit, Forbidden}
use Rattle.names.specs.declared.grammar.Invalid.{Invalid}
use Rattle.names.specs.Names.{Bytes, all, pieces, elements_of, element, path_element, slash, dot, letter, word, digit, hyphen, short, dotted, coloned, rooted, name_element, bus_element, unique_element}

-- The bytes s are not good, and `at` is the place of the fault: the bytes before it begin something good,
-- and with the one that stands there they begin nothing good. At the end of s, only more bytes are wanting.
pub record Breaks (good : Bytes → Bool) (s : Bytes) (at : ℕ) : Type 0 where
  pub bad : good s ≡ false
  pub within : at ≤ length s
  pub begins : (rest : Bytes) × (good (take at s ++ rest) ≡ true)
  pub ends : at < length s → (rest : Bytes) → good (take (at + 1) s ++ rest) ≡ false

-- Either bytes are good, or the place of the fault is told.
abbrev pub Checked : (Bytes → Bool) → Bytes → Result ⊤ ℕ → Type 0
Checked good s r = MatchResult r (λ _. good s ≡ true) (λ at. Breaks good s at)

-- the bytes that separate elements, begin one, and go on in one
abbrev pub separates : Alphabet → ℕ → Bool
separates Path = slash
separates Name = dot
separates Member = λ b. false
separates WellKnown = dot
separates Unique = dot

abbrev pub opens : Alphabet → ℕ → Bool
opens Path = word
opens Name = letter
opens Member = letter
opens WellKnown = λ b. letter b || hyphen b
opens Unique = λ b. word b || hyphen b

abbrev pub goes_on : Alphabet → ℕ → Bool
goes_on Path = word
goes_on Name = word
goes_on Member = word
goes_on WellKnown = λ b. word b || hyphen b
goes_on Unique = λ b. word b || hyphen b

-- elements and nothing else
abbrev pub spells : Alphabet → Bytes → Bool
spells a bs = all (element (opens a) (goes_on a)) (pieces (separates a) bs)

-- two elements or more
abbrev pub several : Alphabet → Bytes → Bool
several a bs = nat_le 2 (length (pieces (separates a) bs)) && spells a bs

-- what each kind of name is, whatever its length
abbrev pub good : Alphabet → Bytes → Bool
good Path = rooted
good Name = dotted name_element
good Member = name_element
good WellKnown = dotted bus_element
good Unique = coloned unique_element

-- the same after the byte that must come first
abbrev pub after_lead : Alphabet → Bytes → Bool
after_lead Path bs = all path_element (elements_of (47 ∷ bs))
after_lead Name bs = dotted name_element bs
after_lead Member bs = name_element bs
after_lead WellKnown bs = dotted bus_element bs
after_lead Unique bs = dotted unique_element bs

-- a path may be of any length, a name not
abbrev pub fits : Alphabet → Bytes → Bool
fits Path bs = true
fits Name bs = short bs
fits Member bs = short bs
fits WellKnown bs = short bs
fits Unique bs = short bs

-- the byte that must come first
abbrev pub lead : Alphabet → Option ℕ
lead Path = Some 47
lead Name = None
lead Member = None
lead WellKnown = None
lead Unique = Some 58

-- what a fault is called, by its place and the byte that stands there
abbrev pub reason_led : Option ℕ → ℕ → Reason → Reason
reason_led None at why = why
reason_led (Some b) at why = cond (at == 0) (Expected b) why

abbrev pub reason_of : Alphabet → ℕ → Reason
reason_of a b = cond (separates a b) EmptyElement (cond (digit b) LeadingDigit (Forbidden b))

abbrev pub reason_at : Alphabet → Bytes → ℕ → Reason
reason_at a s at = reason_led (lead a) at (cond (nat_lt at (length s)) (reason_of a (slice_index s at)) Unfinished)

-- A refusal tells that there are too many bytes, or else the place of the fault and what it is called.
pub record TooMany (e : Invalid) : Type 0 where
  pub place : e.place ≡ 255
  pub why : e.why ≡ TooLong

pub record Faulty (a : Alphabet) (s : Bytes) (e : Invalid) : Type 0 where
  pub place : Breaks (good a) s e.place
  pub why : e.why ≡ reason_at a s e.place

abbrev pub Refusal : Alphabet → Bytes → Invalid → Type 0
Refusal a s e = elim (fits a s) [ true ↦ Faulty a s e | false ↦ TooMany e ]
