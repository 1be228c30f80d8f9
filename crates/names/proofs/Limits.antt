-- The limits of a path that the server makes.
use Rattle.std.proofs.Common.{◌≡◌, ℕ, suc, ◌+◌, ◌-◌, ◌<◌, ◌≤◌, Bool, true, false, ◌&&◌, ltb, leb, List, [], ◌∷◌, length, take, drop, sym, refl, ap, ◌∙◌, ⊎_elim, arith}
use Rattle.std.proofs.lemmas.Bool.{cases_lt, le-leb, lt-leb}
use Rattle.std.proofs.lemmas.Slice.{between_to_end}
use Rattle.names.specs.Names.{Bytes, all, pieces, slash, elements_of}
use Rattle.names.specs.Paths.{few_and_short, makeable}
use Rattle.std.specs.List.{slice_split, list_all, enumerate_from}
use Rattle.names.proofs.Parts.{pieces-split}

inner-nums : (n k m : ℕ) (B : Bool) → (ltb n 16 && leb k 63) && (leb (n + 1 + m) 16 && B) ≡ leb (n + suc m) 16 && (leb k 63 && B)
inner-nums n k m B = grind arith

outer-nums : (n k m : ℕ) (A B : Bool) → 16 ≤ n → (ltb n 16 && leb k 63) && A ≡ leb (n + suc m) 16 && (leb k 63 && B)
outer-nums n k m A B h = grind arith

-- the limits of the pieces that `split` gives, of which n came before
fits-from : (n : ℕ) (es : List Bytes) → n ≤ 16 → list_all (λ p. ltb p.0 16 && leb (length p.1) 63) (enumerate_from n es) ≡ leb (n + length es) 16 && all (λ e. leb (length e) 63) es
fits-from n [] h = sym (ap (λ t. t && true) (le-leb (n + 0) 16 (omega arith)))
fits-from n (e ∷ es) h = ⊎_elim
    (λ k. ap (λ t. (ltb n 16 && leb (length e) 63) && t) (fits-from (n + 1) es (omega arith)) ∙ inner-nums n (length e) (length es) (all (λ e. leb (length e) 63) es))
    (λ k. outer-nums n (length e) (length es) _ _ k)
    (cases_lt n 16)

pub numbered-fit : (s : Bytes) → list_all (λ p. ltb p.0 16 && leb (length p.1) 63) (enumerate_from 0 (slice_split slash s)) ≡ few_and_short (pieces slash s)
numbered-fit s =
    let es : List Bytes = slice_split slash s in
    let n : 0 + length es ≡ length es = omega arith in
    fits-from 0 es (omega arith) ∙ ap (λ m. leb m 16 && all (λ e. leb (length e) 63) es) n ∙ ap few_and_short (sym (pieces-split slash s))

-- a path by its length and the elements after its first byte
pub too-big : (s : Bytes) → 255 < length s → false ≡ makeable s
unfolding makeable
too-big s h = sym (ap (λ t. t && few_and_short (elements_of s)) (lt-leb (length s) 255 h))

small : (s : Bytes) → length s ≤ 255 → makeable s ≡ few_and_short (elements_of s)
unfolding makeable
small s h = ap (λ t. t && few_and_short (elements_of s)) (le-leb (length s) 255 h)

no-elements : (s : Bytes) → length s ≤ 1 → few_and_short (elements_of s) ≡ true
no-elements [] h = refl
no-elements (b ∷ []) h = refl
no-elements (b ∷ c ∷ s) h = absurd (omega arith)

pub root-makeable : (s : Bytes) → length s ≤ 1 → true ≡ makeable s
root-makeable s h = sym (small s (omega arith) ∙ no-elements s h)

some-elements : (s : Bytes) → 1 < length s → pieces slash (take (length s - 1) (drop 1 s)) ≡ elements_of s
some-elements [] h = absurd (omega arith)
some-elements (b ∷ []) h = absurd (omega arith)
some-elements (b ∷ c ∷ s) h = ap (pieces slash) (between_to_end (b ∷ c ∷ s) 1 (length (b ∷ c ∷ s)) (omega arith))

pub path-makeable : (s : Bytes) → length s ≤ 255 → 1 < length s → few_and_short (pieces slash (take (length s - 1) (drop 1 s))) ≡ makeable s
path-makeable s h l = ap few_and_short (some-elements s l) ∙ sym (small s h)
