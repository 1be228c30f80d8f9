-- Looking up by number in a constant table.
use Rattle.std.proofs.Common.{◌≡◌, ℕ, List, map, Some, None, Option, option_map, option_copied, slice_get, sym, ap, ◌∙◌}
use Rattle.std.specs.Borrow.{Bor}
use Rattle.std.specs.Slice.{IsItemAt}
use Rattle.std.proofs.lemmas.Option.{slice_get-map, slice_get_past, slice_get-get_or}

copied-at : {X : Type 0} (xs : List X) (i : ℕ) (r : Option (Bor X)) → IsItemAt xs i r → option_copied r ≡ slice_get xs i
copied-at xs i None h = sym (slice_get_past xs i h.3)
copied-at xs i (Some x) h = ap Some h.1 ∙ sym (slice_get-get_or xs i x.now h.3.0)

-- a table that is seen as the model's list is looked up as that list
pub told_at : {X Y Z : Type 0} (f : X → Y) (g : Z → Y) (xs : List X) (zs : List Z) (i : ℕ) (r : Option (Bor X)) →
    map f xs ≡ map g zs → IsItemAt xs i r → option_map f (option_copied r) ≡ option_map g (slice_get zs i)
told_at f g xs zs i r e h =
    ap (option_map f) (copied-at xs i r h)
    ∙ sym (slice_get-map f xs i) ∙ ap (λ l. slice_get l i) e ∙ slice_get-map g zs i
