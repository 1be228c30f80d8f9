-- One write after another.
use Rattle.std.proofs.Common.{◌≡◌, ℕ, ◌+◌, ◌-◌, ◌<◌, ◌≤◌, [], ◌∷◌, ◌++◌, length, take, drop, replicate, Ok, Err, Result, sym, refl, ap, ◌∙◌, append_assoc, arith, length-append}
use lib.Seq.{paste}
use Rattle.std.proofs.lemmas.List.Edits.{length-paste, paste_all, paste-paste}
use Rattle.std.proofs.lemmas.List.{length-take-le, take_at, drop_at, take-take, take-replicate}
use Rattle.signature.specs.declared.codes.Code.{Code}
use Rattle.signature.specs.Codes.{align_of}
use Rattle.wire.specs.Reading.{gap}
use Rattle.signature.proofs.Table.{align-small}
use Rattle.std.specs.Prelude.{IsErrAnd}
use Rattle.outbox.specs.Marshal.{Bytes, Part, ◌▹◌, pad, raw}
use Rattle.outbox.specs.Pours.{Kept, Poured, Refused, Wrote, room, written}
use Rattle.outbox.proofs.Lengths.{gap-lt, length-▹}

-- what stands where after a write
module _ (was : Bytes) (at : ℕ) (xs : Bytes) where
  as-paste : written was at xs ≡ paste was at xs (length xs)
  as-paste = sym (paste_all was at xs (length xs) refl)

  pub length-written : at + length xs ≤ length was → length (written was at xs) ≡ length was
  length-written h = ap length as-paste ∙ length-paste was at xs (length xs) h (omega arith)

  pub take-written : at ≤ length was → take (at + length xs) (written was at xs) ≡ take at was ++ xs
  take-written h =
      let n : length (take at was ++ xs) ≡ at + length xs = length-append (take at was) xs ∙ omega (arith, length-take-le at was h) in
      ap (take (at + length xs)) (sym (append_assoc (take at was) xs (drop (at + length xs) was))) ∙ take_at (take at was ++ xs) _ (at + length xs) n

  pub take-before : (n : ℕ) → n ≤ at → at ≤ length was → take n (written was at xs) ≡ take n was
  take-before n le h =
      sym (take-take n at (written was at xs) le) ∙ ap (take n) (take_at (take at was) _ at (length-take-le at was h)) ∙ take-take n at was le

  pub drop-written : at ≤ length was → drop at (written was at xs) ≡ xs ++ drop (at + length xs) was
  drop-written h = drop_at (take at was) _ at (length-take-le at was h)

-- a write behind another
pub written_then : (was : Bytes) (at : ℕ) (xs ys : Bytes) → at ≤ length was → written (written was at xs) (at + length xs) ys ≡ written was at (xs ++ ys)
written_then was at xs ys h =
    as-paste (written was at xs) (at + length xs) ys ∙ ap (λ l. paste l (at + length xs) ys (length ys)) (as-paste was at xs)
    ∙ paste-paste was at xs ys (length xs) (length ys) refl refl h ∙ ap (paste was at (xs ++ ys)) (sym (length-append xs ys)) ∙ sym (as-paste was at (xs ++ ys))

pub wrote-size : (was is : Bytes) (f g : ℕ) (w : Part) → Wrote was f is g w → length is ≡ length was
wrote-size was is f g w a = ap length a.bytes ∙ length-written was f (w f) (omega (arith, a.ends, a.fits))

pub wrote_kept : (was is : Bytes) (f g : ℕ) (w : Part) → Wrote was f is g w → Kept was f is
wrote_kept was is f g w a =
    record { below = ap (take f) a.bytes ∙ take-before was f (w f) f (omega arith) (omega (arith, a.ends, a.fits)); size = wrote-size was is f g w a }

pub kept_then : (was between is : Bytes) (f g : ℕ) → f ≤ g → Kept was f between → Kept between g is → Kept was f is
kept_then was between is f g le a b =
    record {
      below = sym (take-take f g is le) ∙ ap (take f) b.below ∙ take-take f g between le ∙ a.below;
      size = b.size ∙ a.size;
    }

module _ (was between is : Bytes) (f g : ℕ) (v w : Part) (a : Wrote was f between g v) where
  further : g + length (w g) ≡ f + length ((v ▹ w) f)
  further = let e : length (w g) ≡ length (w (f + length (v f))) = ap (λ n. length (w n)) a.ends in omega (arith, length-▹ v w f, a.ends)

  pub wrote_then : (h : ℕ) → Wrote between g is h w → Wrote was f is h (v ▹ w)
  unfolding ◌▹◌
  wrote_then h b =
      let s = wrote-size was between f g v a in
      let e : is ≡ written between (f + length (v f)) (w (f + length (v f))) = b.bytes ∙ ap (λ n. written between n (w n)) a.ends in
      record {
        bytes = e ∙ ap (λ l. written l (f + length (v f)) (w (f + length (v f)))) a.bytes ∙ written_then was f (v f) (w (f + length (v f))) (omega (arith, a.ends, a.fits));
        ends = b.ends ∙ further;
        fits = omega (arith, b.fits);
      }

  pub then-refused : Refused between g is w → Refused was f is (v ▹ w)
  then-refused b =
      record {
        kept = kept_then was between is f g (omega (arith, a.ends)) (wrote_kept was between f g v a) b.kept;
        full = omega (arith, further, b.full, wrote-size was between f g v a);
      }

-- the same as calls answer
pub poured-then : {E F : Type 0} (was between is : Bytes) (f g : ℕ) (r : Result ℕ F) (v w : Part) → Poured {E = E} was f between (Ok g) v → Poured between g is r w → Poured was f is r (v ▹ w)
poured-then was between is f g (Ok h) v w a b = record { by = wrote_then was between is f g v w a.by h b.by }
poured-then was between is f g (Err e) v w a b = record { by = then-refused was between is f g v w a.by b.by }

pub poured-stops : {E F : Type 0} (was is : Bytes) (f : ℕ) (d : E) (e : F) (v w : Part) → Poured was f is (Err d) v → Poured was f is (Err e) (v ▹ w)
poured-stops was is f d e v w a = record { by = record { kept = a.by.kept; full = omega (arith, length-▹ v w f, a.by.full) } }

-- the same, at the exit of a `?`
pub poured_stopped : {E F : Type 0} (Q : F → Type 0) (was is : Bytes) (f : ℕ) (d : E) (r : Result ℕ F) (v w : Part) → IsErrAnd r Q → Poured was f is (Err d) v → Poured was f is r (v ▹ w)
poured_stopped Q was is f d (Ok n) v w h a = absurd h
poured_stopped Q was is f d (Err e) v w h a = poured-stops was is f d e v w a

-- only the bytes at the place count
pub poured-same : {E : Type 0} (was is : Bytes) (f : ℕ) (r : Result ℕ E) (v w : Part) → v f ≡ w f → Poured was f is r v → Poured was f is r w
poured-same was is f (Ok h) v w e a = record { by = record { bytes = a.by.bytes ∙ ap (written was f) e; ends = a.by.ends ∙ ap (λ l. f + length l) e; fits = a.by.fits } }
poured-same was is f (Err d) v w e a = record { by = record { kept = a.by.kept; full = omega (arith, ap length e, a.by.full) } }

zeros : (n : ℕ) → n ≤ 8 → take {A = ℕ} (n - 0) (0 ∷ 0 ∷ 0 ∷ 0 ∷ 0 ∷ 0 ∷ 0 ∷ 0 ∷ []) ≡ replicate n 0
zeros n le = let e : n - 0 ≡ n = omega arith in rw e (take-replicate n 8 0 le)

-- padding, as a part of eight zeros
pub poured-pad : {E : Type 0} (was is : Bytes) (f n : ℕ) (code : Code) (r : Result ℕ E) → n ≡ gap (align_of code) f
    → Poured was f is r (raw (take (n - 0) (0 ∷ 0 ∷ 0 ∷ 0 ∷ 0 ∷ 0 ∷ 0 ∷ 0 ∷ []))) → Poured was f is r (pad code)
unfolding pad
poured-pad was is f n code r e a =
    poured-same was is f r _ (pad code) (zeros n (omega (arith, gap-lt (align_of code) f (align-small code).0, (align-small code).1)) ∙ ap (λ m. replicate m 0) e) a

-- what is longer than any message is refused at once
pub poured-long : {E : Type 0} (was : Bytes) (f : ℕ) (e : E) (w : Part) → room was < f + length (w f) → Poured was f was (Err e) w
poured-long was f e w lt = record { by = record { kept = record { below = refl; size = refl }; full = lt } }
