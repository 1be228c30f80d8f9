-- The definitions at worked examples.
use Rattle.std.proofs.Common.{◌≡◌, true, false, List, [], ◌∷◌, pos, Ok, Err, codes, refl}
use Rattle.std.specs.List.{slice_get}
use Rattle.effects.specs.Model.{InterfaceModel}
use Rattle.effects.specs.Calls.{after_call}
use Rattle.effects.specs.Makes.{delay_with, tuner_with}
use Rattle.banks.specs.declared.pair.Place.TheVariants.{First, Second}
use Rattle.banks.specs.Rows.{asked, changed, joined, place_of}

two : List InterfaceModel
two = delay_with false 0 [] ∷ tuner_with (pos 0) false 0 ∷ []

second-name : asked (λ m. m.name) (slice_get two 1) ≡ Ok (codes "com.example.Pedal.Tuner")
unfolding two
second-name = refl

no_third : asked (λ m. m.name) (slice_get two 2) ≡ Err (record {})
unfolding two
no_third = refl

-- a call on number 1 leaves number 0
held : changed (after_call (codes "Hold")) two 1 ≡ delay_with false 0 [] ∷ tuner_with (pos 0) true 0 ∷ []
unfolding two
held = refl

-- the seam of a pair whose first has 3, and the last number
before-seam : place_of 3 2 ≡ Ok (First 2)
before-seam = refl

past-seam : place_of 3 3 ≡ Ok (Second 0)
past-seam = refl

last : place_of 65536 65535 ≡ Ok (First 65535)
last = refl

past-last : place_of 3 65536 ≡ Err (record {})
past-last = refl

in_a_row : joined (delay_with true 1 [] ∷ []) two ≡ delay_with true 1 [] ∷ delay_with false 0 [] ∷ tuner_with (pos 0) false 0 ∷ []
unfolding two joined
in_a_row = refl
