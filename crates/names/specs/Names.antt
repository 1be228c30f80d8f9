-- Which bytes are a name or an object path: the D-Bus Specification, sections "Valid Object Paths" and "Valid Names".
-- All rules are about elements: the pieces between slashes or dots.
use Rattle.std.specs.Prelude.{ℕ, Bool, true, false, cond, ◌&&◌, ◌||◌, List, [], ◌∷◌, length, ◌==◌, nat_le}
use Rattle.names.specs.declared.grammar.Alphabet.{Alphabet}
use Rattle.names.specs.declared.grammar.Alphabet.TheVariants.{Path, Name, Member, WellKnown, Unique}

abbrev pub Bytes : Type 0
Bytes = List ℕ

abbrev pub all : {A : Type 0} → (A → Bool) → List A → Bool
all f [] = true
all f (x ∷ xs) = f x && all f xs

-- one byte more at the front of the first piece
abbrev pub onto : ℕ → List Bytes → List Bytes
onto b [] = (b ∷ []) ∷ []
onto b (p ∷ ps) = (b ∷ p) ∷ ps

-- the pieces between separators: one more than there are separators
abbrev pub pieces : (ℕ → Bool) → Bytes → List Bytes
pieces separates [] = [] ∷ []
pieces separates (b ∷ bs) = cond (separates b) ([] ∷ pieces separates bs) (onto b (pieces separates bs))

-- what stands between slashes; between dots
abbrev pub slash : ℕ → Bool
slash b = b == 47

abbrev pub dot : ℕ → Bool
dot b = b == 46

-- [A-Z] [a-z] _
abbrev pub letter : ℕ → Bool
letter b = (nat_le 65 b && nat_le b 90) || (nat_le 97 b && nat_le b 122) || b == 95

-- [0-9]
abbrev pub digit : ℕ → Bool
digit b = nat_le 48 b && nat_le b 57

-- [A-Z][a-z][0-9]_
abbrev pub word : ℕ → Bool
word b = letter b || digit b

-- -
abbrev pub hyphen : ℕ → Bool
hyphen b = b == 45

-- one byte or more: how the first is, and how the others are
abbrev pub element : (ℕ → Bool) → (ℕ → Bool) → Bytes → Bool
element first later [] = false
element first later (b ∷ bs) = first b && all later bs

-- an element of a path
abbrev pub path_element : Bytes → Bool
path_element = element word word

-- an element of an interface's or an error's name, or a member's name: no digit first
abbrev pub name_element : Bytes → Bool
name_element = element letter word

-- an element of a well-known bus name
abbrev pub bus_element : Bytes → Bool
bus_element = element (λ b. letter b || hyphen b) (λ b. word b || hyphen b)

-- an element of a unique bus name
abbrev pub unique_element : Bytes → Bool
unique_element = element (λ b. word b || hyphen b) (λ b. word b || hyphen b)

-- the elements of an object path: what stands between slashes after the first; "/" has none
abbrev pub elements_of : Bytes → List Bytes
elements_of [] = []
elements_of (b ∷ []) = []
elements_of (b ∷ c ∷ bs) = pieces slash (c ∷ bs)

-- a slash, and elements between slashes
abbrev pub rooted : Bytes → Bool
rooted [] = false
rooted (b ∷ bs) = b == 47 && all path_element (elements_of (b ∷ bs))

-- two or more elements between dots
abbrev pub dotted : (Bytes → Bool) → Bytes → Bool
dotted good bs = nat_le 2 (length (pieces dot bs)) && all good (pieces dot bs)

-- a colon, and such elements
abbrev pub coloned : (Bytes → Bool) → Bytes → Bool
coloned good [] = false
coloned good (b ∷ bs) = b == 58 && dotted good bs

-- no name is longer
abbrev pub short : Bytes → Bool
short bs = nat_le (length bs) 255

-- What each kind of name is. "The path may be of any length."
unfoldable pub valid : Alphabet → Bytes → Bool
valid Path bs = rooted bs
valid Name bs = short bs && dotted name_element bs
valid Member bs = short bs && name_element bs
valid WellKnown bs = short bs && dotted bus_element bs
valid Unique bs = short bs && coloned unique_element bs

abbrev pub valid_path : Bytes → Bool
valid_path = valid Path

abbrev pub valid_interface : Bytes → Bool
valid_interface = valid Name

-- "Error names have the same restrictions as interface names."
abbrev pub valid_error : Bytes → Bool
valid_error = valid Name

abbrev pub valid_member : Bytes → Bool
valid_member = valid Member

-- "Bus names that start with a colon character are unique connection names. Other bus names are called well-known bus names."
abbrev pub valid_unique : Bytes → Bool
valid_unique = valid Unique

abbrev pub valid_well_known : Bytes → Bool
valid_well_known = valid WellKnown

abbrev pub valid_bus : Bytes → Bool
valid_bus bs = valid_unique bs || valid_well_known bs
