-- Object paths by their elements: what lies beneath, the order, the parent, and the limits of a path that the server makes.
use Rattle.std.specs.Prelude.{◌≡◌, ℕ, ◌+◌, ◌<◌, Bool, true, false, cond, ◌&&◌, ◌||◌, List, [], ◌∷◌, ◌++◌, length, take, drop, Some, None, Option, ◌==◌, nat_le, nat_lt}
use Rattle.std.specs.Str.{bytes_eq}
use Rattle.names.specs.Names.{Bytes, all, elements_of, valid_path}

-- Each element after a slash.
unfoldable pub joined : List Bytes → Bytes
joined [] = []
joined (x ∷ p) = 47 ∷ (x ++ joined p)

-- The path of these elements: "/" where there is none.
unfoldable pub spelled : List Bytes → Bytes
spelled [] = 47 ∷ []
spelled (x ∷ p) = joined (x ∷ p)

-- q has p's elements first and at least one more.
unfoldable pub beneath : List Bytes → List Bytes → Bool
beneath [] [] = false
beneath [] (y ∷ q) = true
beneath (x ∷ p) [] = false
beneath (x ∷ p) (y ∷ q) = bytes_eq x y && beneath p q

-- The strict order of bytes: by the first that differs; what has ended comes first.
unfoldable pub bytes_before : Bytes → Bytes → Bool
bytes_before [] [] = false
bytes_before [] (y ∷ b) = true
bytes_before (x ∷ a) [] = false
bytes_before (x ∷ a) (y ∷ b) = nat_lt x y || (x == y && bytes_before a b)

-- The strict order of paths by elements: by the first element that differs; a parent comes first.
unfoldable pub path_before : List Bytes → List Bytes → Bool
path_before [] [] = false
path_before [] (y ∷ q) = true
path_before (x ∷ p) [] = false
path_before (x ∷ p) (y ∷ q) = bytes_before x y || (bytes_eq x y && path_before p q)

-- All elements but the last; the last.
unfoldable pub all_but_last : List Bytes → List Bytes
all_but_last [] = []
all_but_last (x ∷ []) = []
all_but_last (x ∷ y ∷ p) = x ∷ all_but_last (y ∷ p)

unfoldable pub last_of : List Bytes → Option Bytes
last_of [] = None
last_of (x ∷ []) = Some x
last_of (x ∷ y ∷ p) = last_of (y ∷ p)

-- The path above: "/" has none.
unfoldable pub parent_of : List Bytes → Option Bytes
parent_of [] = None
parent_of (x ∷ p) = Some (spelled (all_but_last (x ∷ p)))

-- The same by bytes, for any bytes.

-- A path without the slash that stands alone for "/".
abbrev pub stem : Bytes → Bytes
stem p = cond (bytes_eq p (47 ∷ [])) [] p

-- What follows p in q, where q begins with p.
unfoldable pub following : Bytes → Bytes → Option Bytes
following [] q = Some q
following (x ∷ p) [] = None
following (x ∷ p) (y ∷ q) = cond (x == y) (following p q) None

-- A slash and at least one byte more.
unfoldable pub deeper : Option Bytes → Bool
deeper None = false
deeper (Some []) = false
deeper (Some (b ∷ [])) = false
deeper (Some (b ∷ c ∷ bs)) = b == 47

abbrev pub is_beneath : Bytes → Bytes → Bool
is_beneath p q = deeper (following (stem p) q)

-- What stands before the last slash, and after it.
unfoldable pub sooner : ℕ → Option Bytes → Option Bytes
sooner b None = cond (b == 47) (Some []) None
sooner b (Some p) = Some (b ∷ p)

unfoldable pub before_last : Bytes → Option Bytes
before_last [] = None
before_last (b ∷ bs) = sooner b (before_last bs)

unfoldable pub later : ℕ → Bytes → Option Bytes → Option Bytes
later b bs None = cond (b == 47) (Some bs) None
later b bs (Some p) = Some p

unfoldable pub after_last : Bytes → Option Bytes
after_last [] = None
after_last (b ∷ bs) = later b bs (after_last bs)

pub record NoSlash (bs : Bytes) : Type 0 where
  pub ahead : before_last bs ≡ None
  pub behind : after_last bs ≡ None

pub record LastSlash (bs : Bytes) (at : ℕ) : Type 0 where
  pub within : at < length bs
  pub ahead : before_last bs ≡ Some (take at bs)
  pub behind : after_last bs ≡ Some (drop (at + 1) bs)

-- Nothing before a slash is "/".
unfoldable pub or_root : Option Bytes → Option Bytes
or_root None = None
or_root (Some []) = Some (47 ∷ [])
or_root (Some (b ∷ bs)) = Some (b ∷ bs)

abbrev pub parent_bytes : Bytes → Option Bytes
parent_bytes p = cond (bytes_eq p (47 ∷ [])) None (or_root (before_last p))

abbrev pub last_bytes : Bytes → Option Bytes
last_bytes p = cond (bytes_eq p (47 ∷ [])) None (after_last p)

-- At most 16 elements, of at most 63 bytes each.
abbrev pub few_and_short : List Bytes → Bool
few_and_short es = nat_le (length es) 16 && all (λ e. nat_le (length e) 63) es

-- A path that the server makes has at most 255 bytes besides.
unfoldable pub makeable : Bytes → Bool
makeable bs = nat_le (length bs) 255 && few_and_short (elements_of bs)

-- The order of whole paths by their bytes goes through the tree parent first:
-- a path comes before all that is beneath it, and all that is beneath it comes before whatever else follows it.
abbrev pub PreOrder : Type 0
PreOrder = (p q : Bytes) → valid_path p ≡ true → valid_path q ≡ true → beneath (elements_of p) (elements_of q) ≡ true →
    (bytes_before p q ≡ true) ×
    ((r : Bytes) → valid_path r ≡ true → bytes_before p r ≡ true → beneath (elements_of p) (elements_of r) ≡ false → bytes_before q r ≡ true)
