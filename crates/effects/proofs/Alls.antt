-- Tests of every byte.
use Rattle.std.proofs.Common.{◌≡◌, ℕ, zero, suc, ◌<◌, ◌≤◌, nat_le, Bool, true, ◌&&◌, List, [], ◌∷◌, get_or, refl, ap, IsAscii, arith}
use Rattle.std.specs.List.{list_all}
use Rattle.std.proofs.lemmas.Bool.{and_parts, leb-true}
use Rattle.names.specs.Names.{Bytes, all}
use Rattle.effects.specs.Texts.{plain}

-- the library's word
pub all-list : {X : Type 0} (f : X → Bool) (xs : List X) → all f xs ≡ list_all f xs
all-list f [] = refl
all-list f (x ∷ xs) = ap (λ r. f x && r) (all-list f xs)

plain-below : (bs : Bytes) (i : ℕ) → plain bs ≡ true → get_or bs i 0 < 128
plain-below [] i h = omega arith
plain-below (b ∷ bs) zero h =
    let low : b ≤ 126 = leb-true b 126 (and_parts (nat_le 32 b) (nat_le b 126) (and_parts _ _ h).0).1 in omega arith
plain-below (b ∷ bs) (suc i) h = plain-below bs i (and_parts _ _ h).1

pub plain-ascii : (bs : Bytes) → plain bs ≡ true → IsAscii bs
plain-ascii bs h = λ i. plain-below bs i h
