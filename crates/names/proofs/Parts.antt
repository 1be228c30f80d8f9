-- How many elements there are.
use Rattle.std.proofs.Common.{◌≡◌, ℕ, ◌+◌, Bool, true, false, cond, ◌&&◌, ◌||◌, leb, List, [], ◌∷◌, ◌++◌, length, take, Some, None, Option, sym, refl, ap, ◌∙◌, append_assoc, arith}
use mathlib.Core.Bool.{false≢true}
use lib.Seq.{take-length}
use Rattle.std.specs.List.{slice_split, onto_first, count_by, list_any}
use Rattle.std.proofs.lemmas.List.Splits.{length-slice_split}
use Rattle.std.proofs.lemmas.List.Folds.{list_any-append}
use Rattle.std.proofs.lemmas.List.Sums.{sum_by-cons}
use Rattle.names.specs.declared.grammar.Alphabet.{Alphabet}
use Rattle.names.specs.Names.{Bytes, onto, pieces}
use Rattle.names.specs.Faults.{Breaks, separates, spells, several}
use Rattle.names.specs.Scan.{step}
use Rattle.std.proofs.lemmas.Bool.{and_from, or_left, or_right}
use Rattle.std.proofs.Math.Bool.{and-false}
use Rattle.names.proofs.Scans.{run, accepts, joined-run, spells-run, begun, run_end}

onto-first : (b : ℕ) (ps : List Bytes) → onto b ps ≡ onto_first b ps
onto-first b [] = refl
onto-first b (p ∷ ps) = refl

one-more : (t : Bool) (n : ℕ) → t || leb 1 n ≡ leb 1 (cond t 1 0 + n)
one-more true n = grind arith
one-more false n = grind arith

two-of : (n : ℕ) → leb 1 n ≡ leb 2 (n + 1)
two-of n = grind arith

module _ (sep : ℕ → Bool) where
  -- the pieces are those of `split`
  pub pieces-split : (bs : Bytes) → pieces sep bs ≡ slice_split sep bs
  pieces-split [] = refl
  pieces-split (b ∷ bs) =
      ap (λ (ps : List Bytes). cond (sep b) ([] ∷ ps) (onto b ps)) (pieces-split bs)
      ∙ ap (cond (sep b) ([] ∷ slice_split sep bs)) (onto-first b (slice_split sep bs))

  any-count : (bs : Bytes) → list_any sep bs ≡ leb 1 (count_by sep bs)
  any-count [] = refl
  any-count (b ∷ bs) = ap (λ t. sep b || t) (any-count bs) ∙ one-more (sep b) (count_by sep bs) ∙ ap (leb 1) (sym (sum_by-cons (λ x. cond (sep x) 1 0) b bs))

  -- there are several where some byte separates
  pub any-several : (bs : Bytes) → list_any sep bs ≡ leb 2 (length (pieces sep bs))
  any-several bs = any-count bs ∙ two-of (count_by sep bs) ∙ ap (leb 2) (sym (ap length (pieces-split bs) ∙ length-slice_split sep bs))

  pub parted : (p : Bytes) (b : ℕ) (q : Bytes) → sep b ≡ true → leb 2 (length (pieces sep (p ++ (b ∷ q)))) ≡ true
  parted p b q e = sym (any-several (p ++ (b ∷ q))) ∙ list_any-append sep p (b ∷ q) ∙ or_right (list_any sep p) (sep b || list_any sep q) (or_left (sep b) (list_any sep q) e)

module _ (a : Alphabet) where
  accepted : (o : Option Bool) → accepts a o ≡ true → o ≡ Some false
  accepted None e = absurd (false≢true e)
  accepted (Some true) e = absurd (false≢true e)
  accepted (Some false) e = refl

  -- a separator and a letter go on from whole elements
  gone-on : (p : Bool) (o : Option Bool) → p ≡ true → run a (cond p (Some true) o) (97 ∷ []) ≡ Some false
  gone-on true o e = run_end a (step a true 97) ∙ begun a
  gone-on false o e = absurd (false≢true e)

  -- what spells elements spells several with one more
  pub spells-more : (p : Bytes) → separates a 46 ≡ true → spells a p ≡ true → several a (p ++ (46 ∷ 97 ∷ [])) ≡ true
  spells-more p d e =
      let s : run a (Some true) p ≡ Some false = accepted (run a (Some true) p) (sym (spells-run a p) ∙ e) in
      let g : spells a (p ++ (46 ∷ 97 ∷ [])) ≡ true = joined-run a p s (46 ∷ 97 ∷ []) ∙ ap (accepts a) (gone-on (separates a 46) _ d) in
      and_from _ _ (parted (separates a) p 46 (97 ∷ []) d) g

  fewer : (bs : Bytes) → spells a bs ≡ false → several a bs ≡ false
  fewer bs e = ap (λ t. leb 2 (length (pieces (separates a) bs)) && t) e ∙ and-false (leb 2 (length (pieces (separates a) bs)))

  more-wanted : (s : Bytes) (at : ℕ) → separates a 46 ≡ true → (rest : Bytes) → spells a (take at s ++ rest) ≡ true → (more : Bytes) × (several a (take at s ++ more) ≡ true)
  more-wanted s at d rest e = (rest ++ (46 ∷ 97 ∷ []), ap (several a) (sym (append_assoc (take at s) rest (46 ∷ 97 ∷ []))) ∙ spells-more (take at s ++ rest) d e)

  -- a fault of elements is one of several
  pub breaks-several : {s : Bytes} {at : ℕ} → separates a 46 ≡ true → Breaks (spells a) s at → Breaks (several a) s at
  breaks-several {s} {at} d b =
      record {
        bad = fewer s b.bad;
        within = b.within;
        begins = more-wanted s at d b.begins.0 b.begins.1;
        ends = λ lt rest. fewer (take (at + 1) s ++ rest) (b.ends lt rest);
      }

  -- one element wants another
  pub breaks-single : {s : Bytes} → separates a 46 ≡ true → spells a s ≡ true → false ≡ leb 2 (length (pieces (separates a) s)) → Breaks (several a) s (length s)
  breaks-single {s} d e f =
      record {
        bad = rw (sym f);
        within = omega arith;
        begins = (46 ∷ 97 ∷ [], rw take-length (spells-more s d e));
        ends = λ lt rest. absurd (omega arith);
      }
