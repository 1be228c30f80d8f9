-- Paths by their bytes and by their elements.
use Rattle.std.proofs.Common.{◌≡◌, ℕ, Bool, true, false, cond, ◌&&◌, eqb, ltb, List, [], ◌∷◌, ◌++◌, Some, None, Option, sym, refl, ap, ◌∙◌, ap₂, append-nil, arith}
use mathlib.Core.Bool.{false≢true}
use Rattle.std.proofs.lemmas.Bool.{eqb-true}
use Rattle.std.specs.Str.{bytes_eq}
use Rattle.names.specs.Names.{Bytes, all, onto, pieces, slash, word, path_element, elements_of, valid_path, valid}
use Rattle.names.specs.Paths.{joined, spelled, beneath, all_but_last, last_of, parent_of, stem, following, deeper, is_beneath, sooner, before_last, later, after_last, or_root, parent_bytes, last_bytes}
use Rattle.std.proofs.lemmas.Bool.{and_parts}
use Rattle.std.proofs.Math.Bool.{and_assoc}

-- a slash is below every byte of an element
pub word-high : (c : ℕ) → word c ≡ true → ltb 47 c ≡ true
word-high c h = grind arith

pub word-not-slash : (c : ℕ) → word c ≡ true → eqb c 47 ≡ false
word-not-slash c h = let k : ltb 47 c ≡ true = word-high c h in grind arith

pub slash-not-word : (c : ℕ) → word c ≡ true → eqb 47 c ≡ false
slash-not-word c h = let k : ltb 47 c ≡ true = word-high c h in grind arith

pub word-not-low : (c : ℕ) → word c ≡ true → ltb c 47 ≡ false
word-not-low c h = let k : ltb 47 c ≡ true = word-high c h in grind arith

pub words : (x : Bytes) → path_element x ≡ true → all word x ≡ true
words [] h = refl
words (c ∷ x) h = h

-- what stands between slashes, joined by slashes

joined-onto : (b : ℕ) (bs : Bytes) (ps : List Bytes) → joined ps ≡ 47 ∷ bs → joined (onto b ps) ≡ 47 ∷ b ∷ bs
unfolding joined
joined-onto b bs [] h = let z : ◌≡◌ {A = ℕ} 0 1 = cc in absurd (omega arith)
joined-onto b bs (p ∷ ps) h = let t : p ++ joined ps ≡ bs = cc in ap (λ (u : Bytes). 47 ∷ b ∷ u) t

joined-next : (t : Bool) (b : ℕ) (bs : Bytes) (ps : List Bytes) → (t ≡ true → b ≡ 47) → joined ps ≡ 47 ∷ bs → joined (cond t ([] ∷ ps) (onto b ps)) ≡ 47 ∷ b ∷ bs
unfolding joined
joined-next true b bs ps e h = rw (e refl) (ap (λ (u : Bytes). 47 ∷ u) h)
joined-next false b bs ps e h = joined-onto b bs ps h

joined-pieces : (bs : Bytes) → joined (pieces slash bs) ≡ 47 ∷ bs
unfolding joined
joined-pieces [] = refl
joined-pieces (b ∷ bs) = joined-next (slash b) b bs (pieces slash bs) (λ e. eqb-true b 47 e) (joined-pieces bs)

elements-joined : (x : Bytes) (p : List Bytes) → all word x ≡ true → all path_element p ≡ true → pieces slash (x ++ joined p) ≡ x ∷ p
unfolding joined
elements-joined [] [] h k = refl
elements-joined [] (y ∷ p) h k =
    ap (λ (u : List Bytes). [] ∷ u) (elements-joined y p (words y ((and_parts (path_element y) (all path_element p) k).0)) ((and_parts (path_element y) (all path_element p) k).1))
elements-joined (c ∷ x) p h k =
    rw (word-not-slash c ((and_parts (word c) (all word x) h).0), elements-joined x p ((and_parts (word c) (all word x) h).1) k)

-- a valid path is the spelling of its elements

pub path-elements : (b : Bytes) → valid_path b ≡ true → all path_element (elements_of b) ≡ true
unfolding valid
path-elements [] h = absurd (false≢true h)
path-elements (x ∷ b) h = (and_parts (eqb x 47) (all path_element (elements_of (x ∷ b))) h).1

some-joined : (ps : List Bytes) (c : ℕ) (bs : Bytes) → joined ps ≡ 47 ∷ c ∷ bs → spelled ps ≡ 47 ∷ c ∷ bs
unfolding joined spelled
some-joined [] c bs h = let z : ◌≡◌ {A = ℕ} 0 1 = cc in absurd (omega arith)
some-joined (p ∷ ps) c bs h = h

pub path-spelled : (b : Bytes) → valid_path b ≡ true → spelled (elements_of b) ≡ b
unfolding valid spelled
path-spelled [] h = absurd (false≢true h)
path-spelled (x ∷ []) h = rw (eqb-true x 47 ((and_parts (eqb x 47) true h).0))
path-spelled (x ∷ c ∷ bs) h =
    some-joined (pieces slash (c ∷ bs)) c bs (joined-pieces (c ∷ bs))
    ∙ ap (λ (n : ℕ). n ∷ c ∷ bs) (sym (eqb-true x 47 ((and_parts (eqb x 47) (all path_element (elements_of (x ∷ c ∷ bs))) h).0)))

pub elements-spelled : (p : List Bytes) → all path_element p ≡ true → elements_of (spelled p) ≡ p
unfolding spelled joined
elements-spelled [] h = refl
elements-spelled ([] ∷ p) h = absurd (false≢true h)
elements-spelled ((c ∷ x) ∷ p) h = elements-joined (c ∷ x) p (words (c ∷ x) ((and_parts (path_element (c ∷ x)) (all path_element p) h).0)) ((and_parts (path_element (c ∷ x)) (all path_element p) h).1)

pub spelled-valid : (p : List Bytes) → all path_element p ≡ true → valid_path (spelled p) ≡ true
unfolding valid spelled joined
spelled-valid [] h = refl
spelled-valid (x ∷ p) h = rw (elements-spelled (x ∷ p) h) h

-- beneath, by bytes

after-words : (p : List Bytes) (d : ℕ) (t : Bytes) → word d ≡ true → deeper (following (joined p) (d ∷ t)) ≡ false
unfolding joined following deeper
after-words [] d [] h = refl
after-words [] d (e ∷ t) h = word-not-slash d h
after-words (z ∷ p) d t h = rw (slash-not-word d h)

words-after : (q : List Bytes) (c : ℕ) (t : Bytes) → word c ≡ true → deeper (following (c ∷ t) (joined q)) ≡ false
unfolding joined following deeper
words-after [] c t h = refl
words-after (z ∷ q) c t h = rw (word-not-slash c h)

same_first : (e s : Bool) (r : Option Bytes) → deeper r ≡ s → deeper (cond e r None) ≡ e && s
unfolding deeper
same_first true s r h = h
same_first false s r h = refl

beneath-element : (x y : Bytes) (p q : List Bytes) → all word x ≡ true → all word y ≡ true →
    deeper (following (x ++ joined p) (y ++ joined q)) ≡ bytes_eq x y && deeper (following (joined p) (joined q))
unfolding following
beneath-element [] [] p q h k = refl
beneath-element [] (d ∷ y) p q h k = after-words p d (y ++ joined q) ((and_parts (word d) (all word y) k).0)
beneath-element (c ∷ x) [] p q h k = words-after q c (x ++ joined p) ((and_parts (word c) (all word x) h).0)
beneath-element (c ∷ x) (d ∷ y) p q h k =
    same_first (eqb c d) _ (following (x ++ joined p) (y ++ joined q)) (beneath-element x y p q ((and_parts (word c) (all word x) h).1) ((and_parts (word d) (all word y) k).1))
    ∙ sym (and_assoc (eqb c d) (bytes_eq x y) (deeper (following (joined p) (joined q))))

beneath-joined : (p q : List Bytes) → all path_element p ≡ true → all path_element q ≡ true → deeper (following (joined p) (joined q)) ≡ beneath p q
unfolding joined following deeper beneath
beneath-joined [] [] h k = refl
beneath-joined [] ([] ∷ q) h k = absurd (false≢true k)
beneath-joined [] ((d ∷ y) ∷ q) h k = refl
beneath-joined (x ∷ p) [] h k = refl
beneath-joined (x ∷ p) (y ∷ q) h k =
    beneath-element x y p q (words x ((and_parts (path_element x) (all path_element p) h).0)) (words y ((and_parts (path_element y) (all path_element q) k).0))
    ∙ ap (λ t. bytes_eq x y && t) (beneath-joined p q ((and_parts (path_element x) (all path_element p) h).1) ((and_parts (path_element y) (all path_element q) k).1))

stem-spelled : (p : List Bytes) → all path_element p ≡ true → stem (spelled p) ≡ joined p
unfolding spelled joined
stem-spelled [] h = refl
stem-spelled ([] ∷ p) h = absurd (false≢true h)
stem-spelled ((c ∷ x) ∷ p) h = refl

under-root : (p : List Bytes) → all path_element p ≡ true → deeper (following (joined p) (47 ∷ [])) ≡ beneath p []
unfolding joined following deeper beneath
under-root [] h = refl
under-root ([] ∷ p) h = absurd (false≢true h)
under-root ((c ∷ x) ∷ p) h = refl

beneath-spelled : (p q : List Bytes) → all path_element p ≡ true → all path_element q ≡ true → is_beneath (spelled p) (spelled q) ≡ beneath p q
unfolding spelled
beneath-spelled p [] h k = ap (λ (u : Bytes). deeper (following u (47 ∷ []))) (stem-spelled p h) ∙ under-root p h
beneath-spelled p (y ∷ q) h k = ap (λ (u : Bytes). deeper (following u (joined (y ∷ q)))) (stem-spelled p h) ∙ beneath-joined p (y ∷ q) h k

pub beneath-elements : (a b : Bytes) → valid_path a ≡ true → valid_path b ≡ true → is_beneath a b ≡ beneath (elements_of a) (elements_of b)
beneath-elements a b h k =
    ap₂ is_beneath (sym (path-spelled a h)) (sym (path-spelled b k)) ∙ beneath-spelled (elements_of a) (elements_of b) (path-elements a h) (path-elements b k)

-- the parent and the last element, by bytes

no_slash : (x : Bytes) → all word x ≡ true → before_last x ≡ None
unfolding before_last sooner
no_slash [] h = refl
no_slash (c ∷ x) h = rw (no_slash x ((and_parts (word c) (all word x) h).1), word-not-slash c ((and_parts (word c) (all word x) h).0))

no-slash-after : (x : Bytes) → all word x ≡ true → after_last x ≡ None
unfolding after_last later
no-slash-after [] h = refl
no-slash-after (c ∷ x) h = rw (no-slash-after x ((and_parts (word c) (all word x) h).1), word-not-slash c ((and_parts (word c) (all word x) h).0))

pub before-further : (x s t : Bytes) → before_last s ≡ Some t → before_last (x ++ s) ≡ Some (x ++ t)
unfolding before_last sooner
before-further [] s t h = h
before-further (c ∷ x) s t h = rw (before-further x s t h)

pub after-further : (x s t : Bytes) → after_last s ≡ Some t → after_last (x ++ s) ≡ Some t
unfolding after_last later
after-further [] s t h = h
after-further (c ∷ x) s t h = rw (after-further x s t h)

before-joined : (x : Bytes) (p : List Bytes) → all path_element (x ∷ p) ≡ true → before_last (joined (x ∷ p)) ≡ Some (joined (all_but_last (x ∷ p)))
unfolding joined before_last sooner all_but_last
before-joined x [] h = rw (append-nil x, no_slash x (words x ((and_parts (path_element x) true h).0)))
before-joined x (y ∷ p) h =
    rw (before-further x (joined (y ∷ p)) (joined (all_but_last (y ∷ p))) (before-joined y p ((and_parts (path_element x) (all path_element (y ∷ p)) h).1)))

last-joined : (x : Bytes) (p : List Bytes) → all path_element (x ∷ p) ≡ true → (t : Bytes) × (last_of (x ∷ p) ≡ Some t) × (after_last (joined (x ∷ p)) ≡ Some t)
unfolding joined after_last later last_of
last-joined x [] h = (x, refl, rw (append-nil x, no-slash-after x (words x ((and_parts (path_element x) true h).0))))
last-joined x (y ∷ p) h =
    let r = last-joined y p ((and_parts (path_element x) (all path_element (y ∷ p)) h).1) in
    (r.0, r.1, rw (after-further x (joined (y ∷ p)) r.0 r.2))

root-joined : (p : List Bytes) → or_root (Some (joined p)) ≡ Some (spelled p)
unfolding or_root spelled joined
root-joined [] = refl
root-joined (x ∷ p) = refl

parent-spelled : (p : List Bytes) → all path_element p ≡ true → parent_bytes (spelled p) ≡ parent_of p
unfolding spelled parent_of joined
parent-spelled [] h = refl
parent-spelled ([] ∷ p) h = absurd (false≢true h)
parent-spelled ((c ∷ x) ∷ p) h = ap or_root (before-joined (c ∷ x) p h) ∙ root-joined (all_but_last ((c ∷ x) ∷ p))

last_none : None ≡ last_of []
unfolding last_of
last_none = refl

last-spelled : (p : List Bytes) → all path_element p ≡ true → last_bytes (spelled p) ≡ last_of p
unfolding spelled joined
last-spelled [] h = last_none
last-spelled ([] ∷ p) h = absurd (false≢true h)
last-spelled ((c ∷ x) ∷ p) h = let r = last-joined (c ∷ x) p h in r.2 ∙ sym r.1

pub parent-elements : (a : Bytes) → valid_path a ≡ true → parent_bytes a ≡ parent_of (elements_of a)
parent-elements a h = ap parent_bytes (sym (path-spelled a h)) ∙ parent-spelled (elements_of a) (path-elements a h)

pub last-elements : (a : Bytes) → valid_path a ≡ true → last_bytes a ≡ last_of (elements_of a)
last-elements a h = ap last_bytes (sym (path-spelled a h)) ∙ last-spelled (elements_of a) (path-elements a h)
