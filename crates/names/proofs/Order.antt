-- The order of paths by bytes is that by elements, and goes through the tree parent first.
use Rattle.std.proofs.Common.{◌≡◌, ℕ, suc, Bool, true, false, cond, not, ◌&&◌, ◌||◌, eqb, ltb, List, [], ◌∷◌, ◌++◌, length, Some, None, Option, sym, refl, ap, ◌∙◌, ap₂, arith, ⊎_elim, true≢false}
use mathlib.Core.Bool.{false≢true}
use Rattle.std.specs.Borrow.{Bor}
use Rattle.std.specs.List.{find, zip}
use Rattle.std.specs.Str.{bytes_eq}
use Rattle.names.specs.Names.{Bytes, all, word, path_element, elements_of, valid_path}
use Rattle.names.specs.Paths.{joined, spelled, beneath, bytes_before, path_before, PreOrder}
use Rattle.std.proofs.lemmas.Bool.{and_parts, and_from, eqb-true, le-ltb, lt-ltb, or_cases, or_left, or_right}
use Rattle.std.specs.Cmp.Lexicographic.{same_text}
use Rattle.names.proofs.Spelled.{word-high, word-not-slash, word-not-low, words, path-elements, path-spelled}

-- The first two bytes that differ tell the order; where none do, what has ended is before what goes on.
abbrev pub pair-now : Bor ℕ × Bor ℕ → ℕ × ℕ
pair-now p = (p.0.now, p.1.now)

abbrev pub differs : ℕ × ℕ → Bool
differs p = not (eqb p.0 p.1)

abbrev pub told : Option (ℕ × ℕ) → ℕ → ℕ → Bool
told None m n = ltb m n
told (Some p) m n = ltb p.0 p.1

told-more : (o : Option (ℕ × ℕ)) (m n : ℕ) → told o (suc m) (suc n) ≡ told o m n
told-more None m n = grind arith
told-more (Some p) m n = refl

told-step : (t l : Bool) (x y m n : ℕ) (o : Option (ℕ × ℕ)) (r : Bool) → (t ≡ true → l ≡ false) → ltb x y ≡ l → told o m n ≡ r →
    told (cond (not t) (Some (x, y)) o) (suc m) (suc n) ≡ l || (t && r)
told-step true l x y m n o r h e k = told-more o m n ∙ k ∙ ap (λ v. v || r) (sym (h refl))
told-step false true x y m n o r h e k = e
told-step false false x y m n o r h e k = e

first-tells : (a b : Bytes) → told (find differs (zip a b)) (length a) (length b) ≡ bytes_before a b
unfolding bytes_before
first-tells [] [] = refl
first-tells [] (y ∷ b) = lt-ltb 0 (length (y ∷ b)) (omega arith)
first-tells (x ∷ a) [] = le-ltb (length (x ∷ a)) 0 (omega arith)
first-tells (x ∷ a) (y ∷ b) =
    told-step (eqb x y) (ltb x y) x y (length a) (length b) (find differs (zip a b)) (bytes_before a b)
    (λ e. let k : x ≡ y = eqb-true x y e in le-ltb x y (omega arith)) refl (first-tells a b)

pub before-told : (a b : Bytes) (o : Option (ℕ × ℕ)) → o ≡ find differs (zip a b) → told o (length a) (length b) ≡ bytes_before a b
before-told a b o h = ap (λ r. told r (length a) (length b)) h ∙ first-tells a b

or-assoc-and : (a e n s p : Bool) → a || (e && (n || (s && p))) ≡ (a || (e && n)) || ((e && s) && p)
or-assoc-and true e n s p = refl
or-assoc-and false true n s p = refl
or-assoc-and false false n s p = refl

-- what has ended, or goes on with a slash, is before what goes on with a byte of an element
ended : (r : List Bytes) (d : ℕ) (t : Bytes) → word d ≡ true → bytes_before (joined r) (d ∷ t) ≡ true
unfolding joined bytes_before
ended [] d t h = refl
ended (z ∷ r) d t h = rw (word-high d h)

longer : (r : List Bytes) (c : ℕ) (t : Bytes) → word c ≡ true → bytes_before (c ∷ t) (joined r) ≡ false
unfolding joined bytes_before
longer [] c t h = refl
longer (z ∷ r) c t h = rw (word-not-low c h, word-not-slash c h)

element-order : (x y : Bytes) (p q : List Bytes) → all word x ≡ true → all word y ≡ true →
    bytes_before (joined p) (joined q) ≡ path_before p q →
    bytes_before (x ++ joined p) (y ++ joined q) ≡ bytes_before x y || (bytes_eq x y && path_before p q)
unfolding bytes_before
element-order [] [] p q h k e = e
element-order [] (d ∷ y) p q h k e = ended p d (y ++ joined q) ((and_parts (word d) (all word y) k).0)
element-order (c ∷ x) [] p q h k e = longer q c (x ++ joined p) ((and_parts (word c) (all word x) h).0)
element-order (c ∷ x) (d ∷ y) p q h k e =
    rw (element-order x y p q ((and_parts (word c) (all word x) h).1) ((and_parts (word d) (all word y) k).1) e)
    (or-assoc-and (ltb c d) (eqb c d) (bytes_before x y) (bytes_eq x y) (path_before p q))

joined-order : (p q : List Bytes) → all path_element p ≡ true → all path_element q ≡ true → bytes_before (joined p) (joined q) ≡ path_before p q
unfolding joined bytes_before path_before
joined-order [] [] h k = refl
joined-order [] (y ∷ q) h k = refl
joined-order (x ∷ p) [] h k = refl
joined-order (x ∷ p) (y ∷ q) h k =
    element-order x y p q (words x ((and_parts (path_element x) (all path_element p) h).0)) (words y ((and_parts (path_element y) (all path_element q) k).0))
    (joined-order p q ((and_parts (path_element x) (all path_element p) h).1) ((and_parts (path_element y) (all path_element q) k).1))

spelled-order : (p q : List Bytes) → all path_element p ≡ true → all path_element q ≡ true → bytes_before (spelled p) (spelled q) ≡ path_before p q
unfolding spelled joined bytes_before path_before
spelled-order [] [] h k = refl
spelled-order [] ([] ∷ q) h k = absurd (false≢true k)
spelled-order [] ((d ∷ y) ∷ q) h k = refl
spelled-order ([] ∷ p) [] h k = absurd (false≢true h)
spelled-order ((c ∷ x) ∷ p) [] h k = refl
spelled-order (x ∷ p) (y ∷ q) h k = joined-order (x ∷ p) (y ∷ q) h k

pub order-elements : (a b : Bytes) → valid_path a ≡ true → valid_path b ≡ true → bytes_before a b ≡ path_before (elements_of a) (elements_of b)
order-elements a b h k =
    ap₂ bytes_before (sym (path-spelled a h)) (sym (path-spelled b k)) ∙ spelled-order (elements_of a) (elements_of b) (path-elements a h) (path-elements b k)

-- a path comes before what is beneath it
parent-first : (p q : List Bytes) → beneath p q ≡ true → path_before p q ≡ true
unfolding beneath path_before
parent-first [] [] h = absurd (false≢true h)
parent-first [] (y ∷ q) h = refl
parent-first (x ∷ p) [] h = absurd (false≢true h)
parent-first (x ∷ p) (y ∷ q) h =
    or_right (bytes_before x y) (bytes_eq x y && path_before p q)
    (and_from (bytes_eq x y) (path_before p q) ((and_parts (bytes_eq x y) (beneath p q) h).0) (parent-first p q ((and_parts (bytes_eq x y) (beneath p q) h).1)))

-- and what is beneath it before all else that follows it
before-siblings : (p q r : List Bytes) → beneath p q ≡ true → path_before p r ≡ true → beneath p r ≡ false → path_before q r ≡ true
unfolding beneath path_before
before-siblings [] q [] h k n = absurd (false≢true k)
before-siblings [] q (z ∷ r) h k n = absurd (true≢false n)
before-siblings (x ∷ p) [] r h k n = absurd (false≢true h)
before-siblings (x ∷ p) (y ∷ q) [] h k n = absurd (false≢true k)
before-siblings (x ∷ p) (y ∷ q) (z ∷ r) h k n =
    let e : x ≡ y = same_text x y (sym (and_parts (bytes_eq x y) (beneath p q) h).0) in
    ⊎_elim
    (λ (l : bytes_before x z ≡ true). or_left (bytes_before y z) (bytes_eq y z && path_before q r) (rw e at l))
    (λ (l : bytes_eq x z && path_before p r ≡ true).
    let s : bytes_eq x z ≡ true = (and_parts (bytes_eq x z) (path_before p r) l).0 in
    let m : beneath p r ≡ false = rw s at n in
    or_right (bytes_before y z) (bytes_eq y z && path_before q r)
    (and_from (bytes_eq y z) (path_before q r) (rw e at s)
    (before-siblings p q r ((and_parts (bytes_eq x y) (beneath p q) h).1) ((and_parts (bytes_eq x z) (path_before p r) l).1) m)))
    (or_cases (bytes_before x z) (bytes_eq x z && path_before p r) k)

pub pre-order : PreOrder
pre-order p q h k b = (
  order-elements p q h k ∙ parent-first (elements_of p) (elements_of q) b,
  λ r v f n. order-elements q r k v ∙ before-siblings (elements_of p) (elements_of q) (elements_of r) b (sym (order-elements p r h v) ∙ f) n,
)
