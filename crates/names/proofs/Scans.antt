-- A scan that looks once at each byte finds where the bytes stop spelling elements.
use Rattle.std.proofs.Common.{◌≡◌, ℕ, ◌+◌, ◌<◌, ◌≤◌, Bool, true, false, cond, not, ◌&&◌, List, [], ◌∷◌, ◌++◌, length, get_or, take, drop, Some, None, Option, sym, refl, ap, ◌∙◌, arith, take_all}
use Rattle.std.proofs.lemmas.List.{take_more, take-append-drop}
use Rattle.names.specs.declared.grammar.Alphabet.{Alphabet}
use Rattle.names.specs.declared.grammar.Alphabet.TheVariants.{Path, Name, Member, WellKnown, Unique}
use Rattle.names.specs.Names.{Bytes, all, onto, pieces, element}
use Rattle.names.specs.Faults.{Breaks, separates, opens, goes_on, spells}
use Rattle.names.specs.Scan.{step}
use Rattle.std.proofs.Math.Bool.{and_assoc}

-- every element may begin with the letter a
pub begun : (a : Alphabet) → step a true 97 ≡ Some false
begun Path = refl
begun Name = refl
begun Member = refl
begun WellKnown = refl
begun Unique = refl

module _ (a : Alphabet) where
  -- the scan of all bytes, from a state
  abbrev pub run : Option Bool → Bytes → Option Bool
  run None bs = None
  run (Some f) [] = Some f
  run (Some f) (b ∷ bs) = run (step a f b) bs

  -- it accepts where no element is awaited
  abbrev pub accepts : Option Bool → Bool
  accepts None = false
  accepts (Some f) = not f

  run_none : (bs : Bytes) → run None bs ≡ None
  run_none [] = refl
  run_none (b ∷ bs) = refl

  pub run-append : (o : Option Bool) (p q : Bytes) → run o (p ++ q) ≡ run (run o p) q
  run-append None p q = sym (run_none q)
  run-append (Some f) [] q = refl
  run-append (Some f) (b ∷ p) q = run-append (step a f b) p q

  -- what is left spells, where an element begins here (or goes on)
  abbrev left : Bool → List Bytes → Bool
  left true ps = all (element (opens a) (goes_on a)) ps
  left false [] = true
  left false (e ∷ es) = all (goes_on a) e && all (element (opens a) (goes_on a)) es

  fronted : (f : Bool) (b : ℕ) (ps : List Bytes) → left f (onto b ps) ≡ cond f (opens a b) (goes_on a b) && left false ps
  fronted true b [] = and_assoc (opens a b) true true
  fronted true b (e ∷ es) = and_assoc (opens a b) (all (goes_on a) e) (all (element (opens a) (goes_on a)) es)
  fronted false b [] = and_assoc (goes_on a b) true true
  fronted false b (e ∷ es) = and_assoc (goes_on a b) (all (goes_on a) e) (all (element (opens a) (goes_on a)) es)

  -- one byte more
  turned : (s t f : Bool) (bs : Bytes) → accepts (run (cond s (cond f None (Some true)) (cond t (Some false) None)) bs)
      ≡ cond s (not f && accepts (run (Some true) bs)) (t && accepts (run (Some false) bs))
  turned true t true bs = ap accepts (run_none bs)
  turned true t false bs = refl
  turned false true f bs = refl
  turned false false f bs = ap accepts (run_none bs)

  parted : (s f : Bool) (b : ℕ) (ps : List Bytes) → left f (cond s ([] ∷ ps) (onto b ps)) ≡ cond s (not f && left true ps) (cond f (opens a b) (goes_on a b) && left false ps)
  parted true true b ps = refl
  parted true false b ps = refl
  parted false f b ps = fronted f b ps

  agree : (f : Bool) (bs : Bytes) → accepts (run (Some f) bs) ≡ left f (pieces (separates a) bs)
  agree true [] = refl
  agree false [] = refl
  agree f (b ∷ bs) =
      turned (separates a b) (cond f (opens a b) (goes_on a b)) f bs
      ∙ (λ i. cond (separates a b) (not f && agree true bs i) (cond f (opens a b) (goes_on a b) && agree false bs i))
      ∙ sym (parted (separates a b) f b (pieces (separates a) bs))

  pub spells-run : (bs : Bytes) → spells a bs ≡ accepts (run (Some true) bs)
  spells-run bs = sym (agree true bs)

  pub run_end : (o : Option Bool) → run o [] ≡ o
  run_end None = refl
  run_end (Some f) = refl

  -- what the loop keeps
  pub record Keeps (s : Bytes) (f : Bool) (i : ℕ) : Type 0 where
    pub so : run (Some true) (take i s) ≡ Some f

  one_more : {s : Bytes} {f : Bool} {i : ℕ} → Keeps s f i → i < length s → run (Some true) (take (i + 1) s) ≡ step a f (get_or s i 0)
  one_more {s} {f} {i} k h =
      ap (run (Some true)) (take_more s i 0 h)
      ∙ run-append (Some true) (take i s) (get_or s i 0 ∷ [])
      ∙ ap (λ o. run o (get_or s i 0 ∷ [])) k.so
      ∙ run_end (step a f (get_or s i 0))

  pub keeps-more : {s : Bytes} {f g : Bool} {i : ℕ} → Keeps s f i → i < length s → Some g ≡ step a f (get_or s i 0) → Keeps s g (i + 1)
  keeps-more k h e = record { so = one_more k h ∙ sym e }

  -- whatever the state, some bytes finish it
  finish : (f : Bool) → (rest : Bytes) × (run (Some f) rest ≡ Some false)
  finish false = ([], refl)
  finish true = (97 ∷ [], run_end (step a true 97) ∙ begun a)

  pub joined-run : (p : Bytes) {f : Bool} → run (Some true) p ≡ Some f → (rest : Bytes) → spells a (p ++ rest) ≡ accepts (run (Some f) rest)
  joined-run p e rest = spells-run (p ++ rest) ∙ ap accepts (run-append (Some true) p rest ∙ ap (λ o. run o rest) e)

  dead : (p : Bytes) → run (Some true) p ≡ None → (rest : Bytes) → spells a (p ++ rest) ≡ false
  dead p e rest = spells-run (p ++ rest) ∙ ap accepts (run-append (Some true) p rest ∙ ap (λ o. run o rest) e ∙ run_none rest)

  begun-so-far : {s : Bytes} {f : Bool} {i : ℕ} → Keeps s f i → (rest : Bytes) × (spells a (take i s ++ rest) ≡ true)
  begun-so-far {s} {f} {i} k = let e = finish f in (e.0, joined-run (take i s) k.so e.0 ∙ ap accepts e.1)

  pub stops : {s : Bytes} {f : Bool} {i : ℕ} → Keeps s f i → i < length s → None ≡ step a f (get_or s i 0) → Breaks (spells a) s i
  stops {s} {f} {i} k h e =
      let none = one_more k h ∙ sym e in
      record {
        bad = ap (spells a) (sym (take-append-drop (i + 1) s)) ∙ dead (take (i + 1) s) none (drop (i + 1) s);
        within = omega arith;
        begins = begun-so-far k;
        ends = λ lt rest. dead (take (i + 1) s) none rest;
      }

  pub whole : {s : Bytes} {f : Bool} {i : ℕ} → Keeps s f i → length s ≤ i → spells a s ≡ not f
  whole {s} {f} {i} k h = spells-run s ∙ ap (λ p. accepts (run (Some true) p)) (sym (take_all i s h)) ∙ ap accepts k.so

  pub unfinished : {s : Bytes} {f : Bool} {i : ℕ} → Keeps s f i → i ≡ length s → f ≡ true → Breaks (spells a) s (length s)
  unfinished {s} {f} {i} k e on =
      record {
        bad = whole k (omega arith) ∙ ap not on;
        within = omega arith;
        begins = rw e at (begun-so-far k);
        ends = λ lt rest. absurd (omega arith);
      }
