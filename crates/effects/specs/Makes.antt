-- The two makes of interface.
use Rattle.std.specs.Prelude.{ℕ, Bool, true, cond, not, List, [], ◌∷◌, ℤ, pos, negsuc, Some, None, codes, Option, int_lt}
use Rattle.names.specs.Names.{Bytes}
use Rattle.effects.specs.declared.value.Signature.TheVariants as S
use Rattle.effects.specs.declared.interface.Access.{Access}
use Rattle.effects.specs.declared.interface.Access.TheVariants.{Read, ReadWrite}
use Rattle.effects.specs.declared.delay.Delay.{Delay}
use Rattle.effects.specs.declared.tuner.Tuner.{Tuner}
use Rattle.effects.specs.Values.{ValueModel, truth, whole, count, letters, text_of, amount}
use Rattle.effects.specs.Model.{PropertyModel, Reply, succeeded, failed, Effect, looks, changes, InterfaceModel, property_at}

-- A property, and its access and value.
abbrev pub boolean : Bytes → Access → Bool → PropertyModel
boolean n a b = record { name = n; type = S.Bool; low = pos 0; high = pos 1; access = a; value = truth b }

abbrev pub signed : Bytes → ℤ → ℤ → Access → ℤ → PropertyModel
signed n lo hi a z = record { name = n; type = S.I32; low = lo; high = hi; access = a; value = whole z }

abbrev pub unsigned : Bytes → ℕ → ℕ → Access → ℕ → PropertyModel
unsigned n lo hi a k = record { name = n; type = S.U32; low = pos lo; high = pos hi; access = a; value = count k }

abbrev pub lettered : Bytes → Access → Bytes → PropertyModel
lettered n a l = record { name = n; type = S.Str; low = pos 0; high = pos 64; access = a; value = letters l }

-- What a method finds by a property's name: the number in it; 0 without such a property.
abbrev pub amount_in : Option PropertyModel → ℤ
amount_in None = pos 0
amount_in (Some p) = amount p.value

-- A method that succeeds and gives one property a value.
abbrev pub sets : Bytes → ValueModel → ℕ → Effect
sets n v f = record { reply = succeeded; assigns = record { name = n; value = v } ∷ []; fault = f }

-- The Delay.
-- Bypass flips Bypassed.
abbrev pub bypass : List PropertyModel → ℕ → Effect
bypass ps f = sets (codes "Bypassed") (truth (not (int_lt (pos 0) (amount_in (property_at (codes "Bypassed") ps))))) f

-- Check answers an error where Feedback is above 900.
abbrev pub check : List PropertyModel → ℕ → Reply
check ps f = cond (int_lt (pos 900) (amount_in (property_at (codes "Feedback") ps))) (failed (codes "com.example.Pedal.Error.TooHot")) succeeded

abbrev pub delay_with : Bool → ℕ → Bytes → InterfaceModel
delay_with bypassed feedback label = record {
  name = codes "com.example.Pedal.Delay";
  properties = boolean (codes "Bypassed") Read bypassed
      ∷ unsigned (codes "Feedback") 0 999 ReadWrite feedback
      ∷ lettered (codes "Label") ReadWrite label
      ∷ [];
  methods = record { name = codes "Bypass"; deed = changes bypass }
      ∷ record { name = codes "Check"; deed = looks check }
      ∷ [];
  fault = 0;
}

abbrev pub delay_model : Delay → InterfaceModel
delay_model d = delay_with d.bypassed d.feedback (text_of d.label)

-- The Tuner.
-- Hold sets Locked.
abbrev pub hold : List PropertyModel → ℕ → Effect
hold ps f = sets (codes "Locked") (truth true) f

abbrev pub tuner_with : ℤ → Bool → ℕ → InterfaceModel
tuner_with cents locked f = record {
  name = codes "com.example.Pedal.Tuner";
  properties = signed (codes "Cents") (negsuc 49) (pos 50) Read cents
      ∷ boolean (codes "Locked") Read locked
      ∷ [];
  methods = record { name = codes "Hold"; deed = changes hold } ∷ [];
  fault = f;
}

-- the fault number of one that is unplugged, or not
abbrev pub fault_of : Bool → ℕ
fault_of unplugged = cond unplugged 1 0

abbrev pub tuner_model : Tuner → InterfaceModel
tuner_model t = tuner_with t.cents t.locked (fault_of t.unplugged)
