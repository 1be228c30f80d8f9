-- Names that begin with a certain byte.
use Rattle.std.proofs.Common.{◌≡◌, ℕ, suc, ◌+◌, ◌<◌, Bool, true, false, cond, ◌&&◌, eqb, leb, List, [], ◌∷◌, ◌++◌, length, take, drop, Some, sym, refl, ap, ◌∙◌, subst, add-one, arith, MatchResult, IsErrAnd, Result, Ok, Err, ◌⊎◌, inl, inr, nat_eq}
use Rattle.std.specs.Prelude.{⊤}
use lib.Pointwise.{pointwise}
use mathlib.Core.Bool.{false≢true}
use Rattle.std.proofs.lemmas.Bool.{eqb-true}
use Rattle.names.specs.declared.grammar.Alphabet.{Alphabet}
use Rattle.names.specs.declared.grammar.Alphabet.TheVariants.{Path, Name, Member, WellKnown, Unique}
use Rattle.names.specs.declared.grammar.Invalid.{Invalid}
use Rattle.names.specs.Names.{Bytes, valid, all, onto, pieces, dot, short, dotted, name_element, bus_element, unique_element}
use Rattle.names.specs.Faults.{Breaks, Checked, lead, after_lead, separates, spells, several, good, fits, Refusal}
use Rattle.std.proofs.lemmas.Bool.{and_parts}
use Rattle.std.proofs.Math.Bool.{and-true, and-false}
use Rattle.names.specs.Buses.{colon_first, bus_alphabet}

-- `outer` is L and then `inner`
pub record Led (L : ℕ) (inner outer : Bytes → Bool) : Type 0 where
  pub none : outer [] ≡ false
  pub some : (b : ℕ) (rest : Bytes) → outer (b ∷ rest) ≡ eqb b L && inner rest
  pub first : eqb L L ≡ true

-- whether L comes first, as `strip_prefix` asks it
abbrev pub starts : ℕ → Bytes → Bool
starts L s = pointwise nat_eq (take 1 s) (L ∷ [])

pub split-first : (L : ℕ) (s rest : Bytes) → starts L s ≡ true → rest ≡ drop 1 s → s ≡ L ∷ rest
split-first L [] rest h e = absurd (false≢true h)
split-first L (b ∷ s) rest h e = let k : b ≡ L = eqb-true b L ((and_parts (eqb b L) true h).0) in cc

pub breaks-same : {g h : Bytes → Bool} {s : Bytes} {at : ℕ} → ((x : Bytes) → g x ≡ h x) → Breaks g s at → Breaks h s at
breaks-same {g} {h} {s} {at} e b =
    record {
      bad = sym (e s) ∙ b.bad;
      within = b.within;
      begins = (b.begins.0, sym (e _) ∙ b.begins.1);
      ends = λ lt rest. sym (e _) ∙ b.ends lt rest;
    }

pub checked-same : {g h : Bytes → Bool} (s : Bytes) (r : Result ⊤ ℕ) → ((x : Bytes) → g x ≡ h x) → Checked g s r → Checked h s r
checked-same s (Ok u) e c = sym (e s) ∙ c
checked-same s (Err at) e b = breaks-same e b

module _ {L : ℕ} {inner outer : Bytes → Bool} (l : Led L inner outer) where
  outer-led : (rest : Bytes) → outer (L ∷ rest) ≡ inner rest
  outer-led rest = l.some L rest ∙ ap (λ t. t && inner rest) l.first

  under : (rest : Bytes) (at : ℕ) → Breaks inner rest at → Breaks outer (L ∷ rest) (suc at)
  under rest at b =
      record {
        bad = outer-led rest ∙ b.bad;
        within = omega (arith, b.within);
        begins = (b.begins.0, outer-led _ ∙ b.begins.1);
        ends = λ lt more. ap (λ n. outer (take n (L ∷ rest) ++ more)) (add-one (suc at)) ∙ outer-led _ ∙ ap (λ n. inner (take n rest ++ more)) (sym (add-one at)) ∙ b.ends (omega arith) more;
      }

  -- what follows the first byte is good, or has a fault one place later
  pub checked-led : (s rest : Bytes) (r m : Result ⊤ ℕ) → s ≡ L ∷ rest → Checked inner rest r →
      MatchResult r (λ u. m ≡ Ok u) (λ at. IsErrAnd m (λ n. n ≡ at + 1)) → Checked outer s m
  checked-led s rest (Ok u) m e h k = rw (k, e) (outer-led rest ∙ h)
  checked-led s rest (Err at) (Ok u) e b k = absurd k
  checked-led s rest (Err at) (Err n) e b k = rw (k, e, add-one at) (under rest at b)

  unled : (s more : Bytes) → starts L s ≡ false → 0 < length s → outer (take 1 s ++ more) ≡ false
  unled [] more e lt = absurd (omega arith)
  unled (b ∷ s) more e lt = l.some b more ∙ ap (λ t. t && inner more) (sym (and-true (eqb b L)) ∙ e)

  unled-all : (s : Bytes) → starts L s ≡ false → outer s ≡ false
  unled-all [] e = l.none
  unled-all (b ∷ s) e = l.some b s ∙ ap (λ t. t && inner s) (sym (and-true (eqb b L)) ∙ e)

  pub breaks-first : (s : Bytes) → starts L s ≡ false → (x : Bytes) → inner x ≡ true → Breaks outer s 0
  breaks-first s e x h =
      record {
        bad = unled-all s e;
        within = omega arith;
        begins = (L ∷ x, outer-led x ∙ h);
        ends = λ lt more. unled s more e lt;
      }

-- a path after its slash
tail-spells : (x : Bytes) → 0 < length x → after_lead Path x ≡ spells Path x
tail-spells [] h = absurd (omega arith)
tail-spells (b ∷ x) h = refl

pub spells-tail : (x : Bytes) → spells Path x ≡ true → after_lead Path x ≡ true
spells-tail [] e = refl
spells-tail (b ∷ x) e = e

more-than-none : (at : ℕ) (x more : Bytes) → at < length x → 0 < length (take (at + 1) x ++ more)
more-than-none at [] more h = absurd (omega arith)
more-than-none at (b ∷ x) more h = rw add-one (omega arith)

pub breaks-tail : (rest : Bytes) (at : ℕ) → 0 < length rest → Breaks (spells Path) rest at → Breaks (after_lead Path) rest at
breaks-tail rest at h b =
    record {
      bad = tail-spells rest h ∙ b.bad;
      within = b.within;
      begins = (b.begins.0, spells-tail (take at rest ++ b.begins.0) b.begins.1);
      ends = λ lt more. tail-spells (take (at + 1) rest ++ more) (more-than-none at rest more lt) ∙ b.ends lt more;
    }

checked-tail : (s : Bytes) (r : Result ⊤ ℕ) → 0 < length s → Checked (spells Path) s r → Checked (after_lead Path) s r
checked-tail s (Ok u) h e = spells-tail s e
checked-tail s (Err at) h b = breaks-tail s at h b

pub path-after : (a : Alphabet) (s : Bytes) (r : Result ⊤ ℕ) → a ≡ Path → 0 < length s → Checked (spells a) s r → Checked (after_lead a) s r
path-after a s r p h e = rw p (checked-tail s r h (rw p at e))

-- a name of one element
one_piece : (x : Bytes) → pieces (separates Member) x ≡ x ∷ []
one_piece [] = refl
one_piece (b ∷ x) = ap (onto b) (one_piece x)

pub member-spells : (x : Bytes) → spells Member x ≡ after_lead Member x
member-spells x = ap (all name_element) (one_piece x) ∙ and-true (name_element x)

pub member-after : (a : Alphabet) → a ≡ Member → (x : Bytes) → spells a x ≡ after_lead a x
member-after a e x = rw e (member-spells x)

-- a name of several elements
pub several-after : (a : Alphabet) → (a ≡ Name) ⊎ (a ≡ WellKnown) ⊎ (a ≡ Unique) → (x : Bytes) → several a x ≡ after_lead a x
several-after a (inl e) x = rw e
several-after a (inr (inl e)) x = rw e
several-after a (inr (inr e)) x = rw e

-- where a byte must come first
pub led-by : (a : Alphabet) (L : ℕ) → Some L ≡ lead a → Led L (after_lead a) (good a)
led-by Path L e = let k : L ≡ 47 = cc in rw k (record { none = refl; some = λ b rest. refl; first = refl })
led-by Unique L e = let k : L ≡ 58 = cc in rw k (record { none = refl; some = λ b rest. refl; first = refl })
led-by Name L e = cc
led-by Member L e = cc
led-by WellKnown L e = cc

-- something good may follow the byte that must come first
pub some-after : (a : Alphabet) (L : ℕ) → Some L ≡ lead a → (x : Bytes) × (after_lead a x ≡ true)
some-after Path L e = ([], refl)
some-after Unique L e = (97 ∷ 46 ∷ 97 ∷ [], refl)
some-after Name L e = cc
some-after Member L e = cc
some-after WellKnown L e = cc

-- a name by its number of bytes and the rest of its rule
pub valid-parts : (a : Alphabet) (s : Bytes) → valid a s ≡ fits a s && good a s
unfolding valid
valid-parts Path s = refl
valid-parts Name s = refl
valid-parts Member s = refl
valid-parts WellKnown s = refl
valid-parts Unique s = refl

-- a bus name is of one kind: that of its first byte
pub no-colon : (s : Bytes) → colon_first s ≡ false → valid Unique s ≡ false
unfolding valid
no-colon [] e = refl
no-colon (b ∷ s) e = ap (λ t. short (b ∷ s) && (t && dotted unique_element s)) e ∙ and-false (short (b ∷ s))

colon-piece : (ps : List Bytes) → all bus_element (onto 58 ps) ≡ false
colon-piece [] = refl
colon-piece (p ∷ ps) = refl

pub colon-known : (s : Bytes) → colon_first s ≡ true → valid WellKnown s ≡ false
unfolding valid
colon-known [] e = absurd (false≢true e)
colon-known (b ∷ s) e =
    let is : b ≡ 58 = eqb-true b 58 e in
    rw is (ap (λ t. short (58 ∷ s) && (leb 2 (length (onto 58 (pieces dot s))) && t)) (colon-piece (pieces dot s))
    ∙ ap (λ t. short (58 ∷ s) && t) (and-false (leb 2 (length (onto 58 (pieces dot s)))))
    ∙ and-false (short (58 ∷ s)))

pub refused_as : (s : Bytes) (e : Invalid) (t : Bool) → colon_first s ≡ t → Refusal (cond t Unique WellKnown) s e → Refusal (bus_alphabet s) s e
refused_as s e t h r = let P : Bool → Type 0 = λ u. Refusal (cond u Unique WellKnown) s e in subst P (sym h) r
