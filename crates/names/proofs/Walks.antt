-- What follows a front, and what goes deeper.
use Rattle.std.proofs.Common.{◌≡◌, ℕ, ◌+◌, Bool, true, false, cond, ◌&&◌, eqb, ltb, [], ◌∷◌, length, get_or, take, drop, Some, None, Option, sym, refl, ap, ◌∙◌, arith, Bor, MatchOption}
use Rattle.std.specs.Str.{bytes_eq}
use Rattle.std.proofs.lemmas.Bool.{cond-true, cond-false, le-leb}
use Rattle.std.specs.Option.{option_map}
use Rattle.names.specs.Names.{Bytes}
use Rattle.names.specs.Paths.{following, deeper}

-- what follows a front
eqb_swap : (x y : ℕ) → eqb x y ≡ eqb y x
eqb_swap x y = grind arith

cond-and : {A : Type 0} (s t : Bool) (x y : A) → cond s (cond t x y) y ≡ cond (s && t) x y
cond-and true t x y = refl
cond-and false t x y = refl

pub following-parts : (p q : Bytes) → following p q ≡ cond (bytes_eq (take (length p) q) p) (Some (drop (length p) q)) None
unfolding following
following-parts [] q = refl
following-parts (x ∷ p) [] = refl
following-parts (x ∷ p) (y ∷ q) =
    ap (λ (o : Option Bytes). cond (eqb x y) o None) (following-parts p q)
    ∙ cond-and (eqb x y) (bytes_eq (take (length p) q) p) (Some (drop (length p) q)) None
    ∙ ap (λ t. cond {A = Option Bytes} (t && bytes_eq (take (length p) q) p) (Some (drop (length p) q)) None) (eqb_swap x y)

-- what `strip_prefix` tells
pub stripped : (p q : Bytes) (o : Option (Bor Bytes)) →
    MatchOption o (bytes_eq (take (length p) q) p ≡ false) (λ x. (bytes_eq (take (length p) q) p ≡ true) × (x.now ≡ drop (length p) q) × (length x.now + length p ≡ length q)) →
    option_map (λ x. x.now) o ≡ following p q
stripped p q None h = sym (following-parts p q ∙ cond-false _ _ _ h)
stripped p q (Some x) h = ap Some h.1 ∙ sym (following-parts p q ∙ cond-true _ _ _ h.0)

-- what `is_some_and` tells of it
pub deeper-told : (o : Option (Bor Bytes)) (r : Bool) → MatchOption o (r ≡ false) (λ x. r ≡ deeper (Some x.now)) → r ≡ deeper (option_map (λ x. x.now) o)
unfolding deeper
deeper-told None r h = h
deeper-told (Some x) r h = h

-- a slash and more
pub deeper-parts : (s : Bytes) → deeper (Some s) ≡ ltb 1 (length s) && eqb (get_or s 0 0) 47
unfolding deeper
deeper-parts [] = refl
deeper-parts (b ∷ []) = refl
deeper-parts (b ∷ c ∷ s) = sym (ap (λ t. t && eqb b 47) (le-leb 2 (length (b ∷ c ∷ s)) (omega arith)))
