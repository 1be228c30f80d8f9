-- A test of each byte; UTF-8 as a test.
use Rattle.std.proofs.Common.{◌≡◌, ℕ, Bool, true, false, not, eqb, ◌&&◌, List, [], ◌∷◌, IsUtf8, Decides, refl, sym, ap, ⊎_elim, arith}
use Rattle.std.proofs.lemmas.Bool.Decides.{nat_tests}
use Rattle.std.specs.List.{list_all}
use lib.Utf8.{encodes, scalars}
use Rattle.std.proofs.lemmas.Slice.Eq.{bytes_eq-Decides}
use Rattle.std.proofs.lemmas.Bool.{and_from, and_parts, cases_Bool}
use Rattle.std.proofs.lemmas.Str.{encodes-chars, scalars-chars}
use Rattle.std.specs.Str.{chars, bytes_eq}
use Rattle.names.specs.Names.{all}
use Rattle.wire.specs.Text.{nonzero, utf8}

-- a test of each byte, as the library names it
pub all_is : (f : ℕ → Bool) (bs : List ℕ) → list_all f bs ≡ all f bs
all_is f [] = refl
all_is f (b ∷ bs) = ap (λ r. f b && r) (all_is f bs)

pub nonzero-is : (b : ℕ) → not (eqb b 0) ≡ nonzero b
nonzero-is b = grind (arith, nat_tests)

pub utf8-decides : (bs : List ℕ) → Decides (utf8 bs) (IsUtf8 bs)
unfolding utf8
utf8-decides bs = (
  λ e. let p = and_parts (scalars (chars bs)) (bytes_eq (encodes (chars bs)) bs) e in (chars bs, (p.0, (bytes_eq-Decides (encodes (chars bs)) bs).0 p.1)),
  λ u. and_from _ _ (scalars-chars bs u) ((bytes_eq-Decides (encodes (chars bs)) bs).1 (encodes-chars bs u)),
)

pub utf8-true : (bs : List ℕ) → IsUtf8 bs → true ≡ utf8 bs
utf8-true bs u = sym ((utf8-decides bs).1 u)

pub utf8-false : (bs : List ℕ) → (IsUtf8 bs → ⊥) → false ≡ utf8 bs
utf8-false bs no_text = ⊎_elim (λ e. absurd (no_text ((utf8-decides bs).0 e))) (λ e. sym e) (cases_Bool (utf8 bs))

pub ruleset utf8s = (utf8-true, utf8-false)
