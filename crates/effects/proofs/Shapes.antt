-- No call changes an interface's shape.
use Rattle.std.proofs.Common.{◌≡◌, Bool, true, false, cond, List, [], ◌∷◌, map, Some, None, Ok, Err, Option, Result, refl, ap, ◌∙◌}
use Rattle.std.specs.Str.{bytes_eq}
use Rattle.names.specs.Names.{Bytes}
use Rattle.effects.specs.declared.interface.SetRefusal.{SetRefusal}
use Rattle.effects.specs.Values.{ValueModel}
use Rattle.effects.specs.Model.{PropertyModel, Assignment, Deed, looks, changes, MethodModel, InterfaceModel, method_at}
use Rattle.effects.specs.Calls.{with_value, put, put_all, set_answer, set_after, after_set, after_deed, left_by, after_call}
use Rattle.effects.specs.Shapes.{PropertyShape, Shape, property_shape, shape_of}

one : (b : Bool) (p : PropertyModel) (v : ValueModel) (ps qs : List PropertyModel) → map property_shape qs ≡ map property_shape ps →
    map property_shape (cond b (with_value p v ∷ ps) (p ∷ qs)) ≡ map property_shape (p ∷ ps)
one true p v ps qs e = refl
one false p v ps qs e = ap (λ r. property_shape p ∷ r) e

put-shape : (n : Bytes) (v : ValueModel) (ps : List PropertyModel) → map property_shape (put n v ps) ≡ map property_shape ps
put-shape n v [] = refl
put-shape n v (p ∷ ps) = one (bytes_eq n p.name) p v ps (put n v ps) (put-shape n v ps)

put_all-shape : (ws : List Assignment) (ps : List PropertyModel) → map property_shape (put_all ws ps) ≡ map property_shape ps
put_all-shape [] ps = refl
put_all-shape (a ∷ more) ps = put_all-shape more (put a.name a.value ps) ∙ put-shape a.name a.value ps

-- the shape with these properties
reshaped : InterfaceModel → List PropertyShape → Shape
reshaped m ps = record { name = m.name; properties = ps; methods = m.methods }

after : (r : Result (Unit {0}) SetRefusal) (n : Bytes) (v : ValueModel) (m : InterfaceModel) → shape_of (set_after r n v m) ≡ shape_of m
unfolding reshaped
after (Ok u) n v m = ap (reshaped m) (put-shape n v m.properties)
after (Err e) n v m = refl

pub set-shape : (n : Bytes) (v : ValueModel) (m : InterfaceModel) → shape_of (after_set n v m) ≡ shape_of m
set-shape n v m = after (set_answer m n v) n v m

deed : (d : Deed) (m : InterfaceModel) → shape_of (after_deed d m) ≡ shape_of m
unfolding reshaped
deed (looks f) m = refl
deed (changes f) m = ap (reshaped m) (put_all-shape (f m.properties m.fault).assigns m.properties)

left : (o : Option MethodModel) (m : InterfaceModel) → shape_of (left_by o m) ≡ shape_of m
left None m = refl
left (Some k) m = deed k.deed m

pub call_shape : (n : Bytes) (m : InterfaceModel) → shape_of (after_call n m) ≡ shape_of m
call_shape n m = left (method_at n m.methods) m
