-- The definitions at worked examples.
use Rattle.std.proofs.Common.{◌≡◌, true, false, [], ◌∷◌, replicate, pos, negsuc, Some, None, Ok, Err, codes, refl}
use Rattle.names.specs.Names.{valid}
use Rattle.names.specs.Paths.{bytes_before}
use Rattle.names.specs.declared.standard.Standard.TheVariants.{Properties}
use Rattle.names.specs.Standard.{is_standard, standard_name}
use Rattle.effects.specs.declared.interface.SetRefusal.TheVariants.{NoSuchProperty, ReadOnly, WrongType, OutOfRange}
use Rattle.effects.specs.Texts.{valid_text}
use Rattle.effects.specs.Values.{truth, whole, count}
use Rattle.effects.specs.Model.{InterfaceModel, succeeded, failed, well_formed}
use Rattle.effects.specs.Calls.{broken, reads, all_answer, all_after, set_answer, after_set, not_found, requires_mut, answered, call_answer, call_mut_answer, after_call}
use Rattle.effects.specs.Makes.{delay_with, tuner_with}

-- 64 bytes are a text and 65 are not; 32 and 126 may stand in one, 31 and 127 may not
texts : valid_text (replicate 64 32) ≡ true
texts = refl

too_long : valid_text (replicate 65 32) ≡ false
too_long = refl

tilde : valid_text (126 ∷ []) ≡ true
tilde = refl

below-space : valid_text (31 ∷ []) ≡ false
below-space = refl

past-tilde : valid_text (127 ∷ []) ≡ false
past-tilde = refl

-- new ones
delay : InterfaceModel
delay = delay_with false 0 []

tuner : InterfaceModel
tuner = tuner_with (pos 0) false 0

delay-well : well_formed delay ≡ true
unfolding delay well_formed valid bytes_before is_standard standard_name
delay-well = refl

-- a standard name is none of an interface
no-interface : well_formed (record { name = standard_name Properties; properties = []; methods = []; fault = 0 }) ≡ false
unfolding well_formed valid is_standard standard_name
no-interface = refl

reads-zero : reads delay (codes "Feedback") ≡ Some (Ok (count 0))
unfolding delay
reads-zero = refl

reads_none : reads delay (codes "feedback") ≡ None
unfolding delay
reads_none = refl

-- a fault hides values, and not which names there are
reads-fault : reads (tuner_with (pos 7) true 1) (codes "Cents") ≡ Some (Err (broken 1))
reads-fault = refl

reads-none-at-fault : reads (tuner_with (pos 7) true 1) (codes "Cent") ≡ None
reads-none-at-fault = refl

all-fault : all_answer (tuner_with (pos 7) true 1) ≡ Err (broken 1)
all-fault = refl

all-values : all_after (Ok 2) (tuner_with (negsuc 49) true 0) (count 1 ∷ count 2 ∷ count 3 ∷ []) ≡ whole (negsuc 49) ∷ truth true ∷ count 3 ∷ []
all-values = refl

-- the refusals, in their order
sets : after_set (codes "Feedback") (count 999) delay ≡ delay_with false 999 []
unfolding delay
sets = refl

too_much : set_answer delay (codes "Feedback") (count 1000) ≡ Err OutOfRange
unfolding delay
too_much = refl

no_number : set_answer delay (codes "Feedback") (whole (pos 1)) ≡ Err WrongType
unfolding delay
no_number = refl

not-writable : set_answer delay (codes "Bypassed") (count 1) ≡ Err ReadOnly
unfolding delay
not-writable = refl

not_there : set_answer delay (codes "Speed") (count 1) ≡ Err NoSuchProperty
unfolding delay
not_there = refl

-- the methods
cool : call_answer (delay_with false 900 []) (codes "Check") ≡ answered succeeded
cool = refl

hot : call_answer (delay_with false 901 []) (codes "Check") ≡ answered (failed (codes "com.example.Pedal.Error.TooHot"))
hot = refl

changing : call_answer delay (codes "Bypass") ≡ requires_mut
unfolding delay
changing = refl

flipped : after_call (codes "Bypass") (delay_with true 5 (codes "slap")) ≡ delay_with false 5 (codes "slap")
flipped = refl

unchanging : call_mut_answer delay (codes "Check") ≡ not_found
unfolding delay
unchanging = refl

held : after_call (codes "Hold") (tuner_with (pos 3) false 1) ≡ tuner_with (pos 3) true 1
held = refl
