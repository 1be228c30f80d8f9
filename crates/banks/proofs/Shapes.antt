-- No call on a bank changes the shape of an interface in it, so all names stay.
use Rattle.std.proofs.Common.{◌≡◌, ℕ, zero, suc, List, [], ◌∷◌, map, refl, ap}
use Rattle.names.specs.Names.{Bytes}
use Rattle.effects.specs.Values.{ValueModel}
use Rattle.effects.specs.Model.{InterfaceModel}
use Rattle.effects.specs.Calls.{after_set, after_call}
use Rattle.effects.specs.Shapes.{Shape, shape_of}
use Rattle.effects.proofs.Shapes.{set-shape, call_shape}
use Rattle.banks.specs.Rows.{changed}

-- what a change of an interface keeps, a change of one in a list keeps of all
pub changed-keeps : {X : Type 0} (g : InterfaceModel → X) (f : InterfaceModel → InterfaceModel) → ((m : InterfaceModel) → g (f m) ≡ g m) →
    (ms : List InterfaceModel) (i : ℕ) → map g (changed f ms i) ≡ map g ms
changed-keeps g f e [] i = refl
changed-keeps g f e (m ∷ ms) zero = ap (λ x. x ∷ map g ms) (e m)
changed-keeps g f e (m ∷ ms) (suc i) = ap (λ r. g m ∷ r) (changed-keeps g f e ms i)

module _ (n : Bytes) (ms : List InterfaceModel) (i : ℕ) where
  -- after set_mut
  pub set-shapes : (v : ValueModel) → map shape_of (changed (after_set n v) ms i) ≡ map shape_of ms
  set-shapes v = changed-keeps shape_of (after_set n v) (set-shape n v) ms i

  pub set-names : (v : ValueModel) → map (λ m. m.name) (changed (after_set n v) ms i) ≡ map (λ m. m.name) ms
  set-names v = changed-keeps (λ m. m.name) (after_set n v) (λ m. ap (λ (s : Shape). s.name) (set-shape n v m)) ms i

  -- after call_mut
  pub call-shapes : map shape_of (changed (after_call n) ms i) ≡ map shape_of ms
  call-shapes = changed-keeps shape_of (after_call n) (call_shape n) ms i

  pub call-names : map (λ m. m.name) (changed (after_call n) ms i) ≡ map (λ m. m.name) ms
  call-names = changed-keeps (λ m. m.name) (after_call n) (λ m. ap (λ (s : Shape). s.name) (call_shape n m)) ms i
