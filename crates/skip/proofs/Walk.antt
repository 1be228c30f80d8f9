-- What the walk through a value does at each place.
use Rattle.std.proofs.Common.{◌≡◌, ℕ, zero, suc, ◌+◌, List, None, Option, refl, ap, ◌∙◌}
use Rattle.signature.specs.declared.levels.Levels.{Levels}
use Rattle.wire.specs.declared.reading.ByteOrder.{ByteOrder}
use Rattle.signature.specs.Depth.{in_array, in_structure, in_variant}
use Rattle.signature.specs.Repeat.{bind}
use Rattle.signature.proofs.Types.{array-all, array-none, descend, nowhere, structure-all, structure-none, variant-all, variant-none}
use Rattle.skip.specs.Values.{Skip, array_end, fields_end, value_end, value_end_by, value_step, variant_end}

-- where a value of such a type ends
module _ (order : ByteOrder) (msg : List ℕ) where
  abbrev pub array_part : Levels → List ℕ → Skip
  array_part l sig at pos = bind (in_array l) (λ m. array_end order msg (value_end order msg m sig) sig at pos)

  abbrev pub bracket_part : ℕ → Levels → List ℕ → Skip
  bracket_part close l sig at pos = bind (in_structure l) (λ m. fields_end msg (value_end order msg m sig) close sig at pos)

  abbrev pub variant_part : Levels → ℕ → Option ℕ
  variant_part l pos = bind (in_variant l) (λ m. variant_end msg (value_end order msg m) pos)

  step_same : (a a' s s' t t' : Option (ℕ × ℕ)) (v v' : Option ℕ) (sig : List ℕ) (at pos : ℕ) → a ≡ a' → s ≡ s' → t ≡ t' → v ≡ v' → value_step order msg a s t v sig at pos ≡ value_step order msg a' s' t' v' sig at pos
  step_same a a' s s' t t' v v' sig at pos p q r u =
      ap (λ x. value_step order msg x s t v sig at pos) p ∙ ap (λ x. value_step order msg a' x t v sig at pos) q
      ∙ ap (λ x. value_step order msg a' s' x v sig at pos) r ∙ ap (λ x. value_step order msg a' s' t' x sig at pos) u

  here : (l : Levels) (sig : List ℕ) (at pos d : ℕ) → l.all ≡ d → value_end_by order msg d l sig at pos ≡ value_step order msg (array_part l sig (at + 1) pos) (bracket_part 41 l sig (at + 1) pos) (bracket_part 125 l sig (at + 1) pos) (variant_part l pos) sig at pos
  unfolding value_end
  here l sig at pos zero e =
      step_same None (array_part l sig (at + 1) pos) None (bracket_part 41 l sig (at + 1) pos) None (bracket_part 125 l sig (at + 1) pos) None (variant_part l pos) sig at pos
      (nowhere (in_array l) (λ m. array_end order msg (value_end order msg m sig) sig (at + 1) pos) (array-none l e))
      (nowhere (in_structure l) (λ m. fields_end msg (value_end order msg m sig) 41 sig (at + 1) pos) (structure-none l e))
      (nowhere (in_structure l) (λ m. fields_end msg (value_end order msg m sig) 125 sig (at + 1) pos) (structure-none l e))
      (nowhere (in_variant l) (λ m. variant_end msg (value_end order msg m) pos) (variant-none l e))
  here l sig at pos (suc d) e =
      step_same _ (array_part l sig (at + 1) pos) _ (bracket_part 41 l sig (at + 1) pos) _ (bracket_part 125 l sig (at + 1) pos) _ (variant_part l pos) sig at pos
      (descend (in_array l) d (λ n m. array_end order msg (value_end_by order msg n m sig) sig (at + 1) pos) (array-all l d e))
      (descend (in_structure l) d (λ n m. fields_end msg (value_end_by order msg n m sig) 41 sig (at + 1) pos) (structure-all l d e))
      (descend (in_structure l) d (λ n m. fields_end msg (value_end_by order msg n m sig) 125 sig (at + 1) pos) (structure-all l d e))
      (descend (in_variant l) d (λ n m. variant_end msg (value_end_by order msg n m) pos) (variant-all l d e))

  module _ (l : Levels) (sig : List ℕ) (at pos : ℕ) where
    -- the definition's recursion, without its counter
    pub value_here : value_end order msg l sig at pos ≡ value_step order msg (array_part l sig (at + 1) pos) (bracket_part 41 l sig (at + 1) pos) (bracket_part 125 l sig (at + 1) pos) (variant_part l pos) sig at pos
    unfolding value_end
    value_here = here l sig at pos l.all refl
