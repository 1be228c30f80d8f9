-- What the walk through a signature does at each place.
use Rattle.std.proofs.Common.{◌≡◌, ℕ, zero, suc, ◌+◌, ◌≤◌, Bool, true, false, ◌||◌, eqb, List, length, get_or, Some, None, Option, sym, refl, ap, ◌∙◌, arith}
use Rattle.std.proofs.lemmas.List.{get_or_past}
use Rattle.std.proofs.lemmas.Bool.{cond_both, cond-true, eq-eqb, or_left}
use Rattle.signature.specs.declared.levels.Levels.{Levels}
use Rattle.signature.specs.Codes.{code_of}
use Rattle.signature.specs.Depth.{in_array, in_structure, in_variant}
use Rattle.signature.specs.Repeat.{bind}
use Rattle.signature.specs.Signatures.{entry_end, fields_end, type_end, type_end_by, type_step}

-- so many levels are left inside, if one may go inside at all
abbrev pub AllIs : ℕ → Option Levels → Type 0
AllIs d None = Unit {0}
AllIs d (Some m) = m.all ≡ d

module _ (l : Levels) where
  pub array-all : (d : ℕ) → l.all ≡ suc d → AllIs d (in_array l)
  array-all d e = cond_both (eqb l.all 0 || eqb l.arrays 0) None _ (AllIs d) (λ _. tt) (λ _. omega arith)

  pub structure-all : (d : ℕ) → l.all ≡ suc d → AllIs d (in_structure l)
  structure-all d e = cond_both (eqb l.all 0 || eqb l.structures 0) None _ (AllIs d) (λ _. tt) (λ _. omega arith)

  pub variant-all : (d : ℕ) → l.all ≡ suc d → AllIs d (in_variant l)
  variant-all d e = cond_both (eqb l.all 0) None _ (AllIs d) (λ _. tt) (λ _. omega arith)

  pub array-none : l.all ≡ 0 → in_array l ≡ None
  array-none e = cond-true _ _ _ (or_left (eqb l.all 0) (eqb l.arrays 0) (eq-eqb _ _ e))

  pub structure-none : l.all ≡ 0 → in_structure l ≡ None
  structure-none e = cond-true _ _ _ (or_left (eqb l.all 0) (eqb l.structures 0) (eq-eqb _ _ e))

  pub variant-none : l.all ≡ 0 → in_variant l ≡ None
  variant-none e = cond-true _ _ _ (eq-eqb _ _ e)

-- a recursion by the levels left goes on by the levels left inside
pub descend : {B : Type 0} (o : Option Levels) (d : ℕ) (F : ℕ → Levels → Option B) → AllIs d o → bind o (F d) ≡ bind o (λ m. F m.all m)
descend None d F h = refl
descend (Some m) d F h = ap (λ n. F n m) (sym h)

pub nowhere : {B : Type 0} (o : Option Levels) (f : Levels → Option B) → o ≡ None → None ≡ bind o f
nowhere None f h = refl
nowhere (Some m) f h = cc

-- where the rest of an array, a structure, an entry ends
abbrev pub array_part : List ℕ → Levels → ℕ → Option ℕ
array_part sig l i = bind (in_array l) (λ m. type_end sig true m i)

abbrev pub structure_part : List ℕ → Levels → ℕ → Option ℕ
structure_part sig l i = bind (in_structure l) (λ m. fields_end (type_end sig false m) sig i)

abbrev pub entry_part : List ℕ → Levels → ℕ → Option ℕ
entry_part sig l i = bind (in_structure l) (λ m. entry_end (type_end sig false m) sig i)

here : (sig : List ℕ) (in_arr : Bool) (l : Levels) (at d : ℕ) → l.all ≡ d → type_end_by sig d in_arr l at ≡ type_step in_arr (array_part sig l (at + 1)) (structure_part sig l (at + 1)) (entry_part sig l (at + 1)) sig at
unfolding type_end
here sig in_arr l at zero e =
    let a = nowhere (in_array l) (λ m. type_end sig true m (at + 1)) (array-none l e) in
    let s = nowhere (in_structure l) (λ m. fields_end (type_end sig false m) sig (at + 1)) (structure-none l e) in
    let t = nowhere (in_structure l) (λ m. entry_end (type_end sig false m) sig (at + 1)) (structure-none l e) in
    ap (λ x. type_step in_arr x None None sig at) a ∙ ap (λ x. type_step in_arr (array_part sig l (at + 1)) x None sig at) s ∙ ap (λ x. type_step in_arr (array_part sig l (at + 1)) (structure_part sig l (at + 1)) x sig at) t
here sig in_arr l at (suc d) e =
    let a = descend (in_array l) d (λ n m. type_end_by sig n true m (at + 1)) (array-all l d e) in
    let s = descend (in_structure l) d (λ n m. fields_end (type_end_by sig n false m) sig (at + 1)) (structure-all l d e) in
    let t = descend (in_structure l) d (λ n m. entry_end (type_end_by sig n false m) sig (at + 1)) (structure-all l d e) in
    ap (λ x. type_step in_arr x (bind (in_structure l) (λ m. fields_end (type_end_by sig d false m) sig (at + 1))) (bind (in_structure l) (λ m. entry_end (type_end_by sig d false m) sig (at + 1))) sig at) a
    ∙ ap (λ x. type_step in_arr (array_part sig l (at + 1)) x (bind (in_structure l) (λ m. entry_end (type_end_by sig d false m) sig (at + 1))) sig at) s
    ∙ ap (λ x. type_step in_arr (array_part sig l (at + 1)) (structure_part sig l (at + 1)) x sig at) t

-- the definition's recursion, without its counter
pub type_here : (sig : List ℕ) (in_arr : Bool) (l : Levels) (at : ℕ) → type_end sig in_arr l at ≡ type_step in_arr (array_part sig l (at + 1)) (structure_part sig l (at + 1)) (entry_part sig l (at + 1)) sig at
unfolding type_end
type_here sig in_arr l at = here sig in_arr l at l.all refl

-- 0 is no type code, so what has one is inside
pub none_past : (sig : List ℕ) (at : ℕ) → length sig ≤ at → None ≡ code_of (get_or sig at 0)
unfolding code_of
none_past sig at h = sym (ap code_of (get_or_past sig at 0 h))
