-- A bank is a list of interfaces, numbered from 0: what a call on one number answers, and what it leaves.
use Rattle.std.specs.Prelude.{◌≡◌, ℕ, zero, suc, ◌-◌, cond, List, [], ◌∷◌, ◌++◌, take, Some, None, Ok, Err, Option, Result, nat_lt}
use Rattle.std.specs.List.{slice_get}
use Rattle.effects.specs.Model.{InterfaceModel}
use Rattle.banks.specs.declared.bank.NoSuchInstance.{NoSuchInstance}
use Rattle.banks.specs.declared.pair.Place.{Place}
use Rattle.banks.specs.declared.pair.Place.TheVariants.{First, Second}

-- There are no more numbers than these.
abbrev pub capacity : ℕ
capacity = 65536

-- What f tells of the interface, if there is one.
abbrev pub asked : {X : Type 0} → (InterfaceModel → X) → Option InterfaceModel → Result X NoSuchInstance
asked f None = Err (record {})
asked f (Some m) = Ok (f m)

-- What f makes of a lent place; as before without an interface.
abbrev pub lent : {X : Type 0} → (InterfaceModel → X → X) → Option InterfaceModel → X → X
lent f None before = before
lent f (Some m) before = f m before

-- The answer of the code, as f sees what is in it.
abbrev pub through : {X Y E : Type 0} → (X → Y) → Result X E → Result Y E
through f (Ok x) = Ok (f x)
through f (Err e) = Err e

-- What a bank of x alone has under a number.
abbrev pub only : {X : Type 0} → X → ℕ → Result X NoSuchInstance
only x zero = Ok x
only x (suc i) = Err (record {})

-- The list with the interface of number i changed, and no other.
abbrev pub changed : (InterfaceModel → InterfaceModel) → List InterfaceModel → ℕ → List InterfaceModel
changed f [] i = []
changed f (m ∷ ms) zero = f m ∷ ms
changed f (m ∷ ms) (suc i) = m ∷ changed f ms i

-- The second's numbers follow the first's, up to the last that there is.
unfoldable pub joined : List InterfaceModel → List InterfaceModel → List InterfaceModel
joined xs ys = take capacity (xs ++ ys)

-- Where number i is, if the first has n.
abbrev pub place_of : ℕ → ℕ → Result Place NoSuchInstance
place_of n i = cond (nat_lt i capacity) (Ok (cond (nat_lt i n) (First i) (Second (i - n)))) (Err (record {}))

-- What a place in one of two lists is good for: it has the interface of number i, and a change there is a change of number i.
abbrev pub Stands : List InterfaceModel → List InterfaceModel → ℕ → Result Place NoSuchInstance → Type 0
Stands xs ys i (Ok (First j)) =
    (slice_get xs j ≡ slice_get (joined xs ys) i) × ((f : InterfaceModel → InterfaceModel) → joined (changed f xs j) ys ≡ changed f (joined xs ys) i)
Stands xs ys i (Ok (Second j)) =
    (slice_get ys j ≡ slice_get (joined xs ys) i) × ((f : InterfaceModel → InterfaceModel) → joined xs (changed f ys j) ≡ changed f (joined xs ys) i)
Stands xs ys i (Err e) = (None ≡ slice_get (joined xs ys) i) × ((f : InterfaceModel → InterfaceModel) → joined xs ys ≡ changed f (joined xs ys) i)
