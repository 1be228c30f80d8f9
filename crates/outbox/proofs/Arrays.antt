-- The length of an array, filled in last.
use Rattle.std.proofs.Common.{◌≡◌, ℕ, ◌+◌, ◌-◌, ◌≤◌, ◌++◌, length, take, drop, Ok, Err, Result, sym, ap, ◌∙◌, append_assoc, arith, length-append}
use Rattle.std.proofs.lemmas.List.{drop_at, drop-drop, length-take-le, take_at}
use Rattle.signature.specs.declared.codes.Code.{Code}
use Rattle.signature.specs.declared.codes.Code.TheVariants.{Array}
use Rattle.signature.specs.Codes.{align_of}
use Rattle.wire.specs.Reading.{gap}
use Rattle.outbox.specs.Marshal.{Bytes, Part, ◌▹◌, array, contents_at, le32, open_array, pad, put_word}
use Rattle.outbox.specs.Pours.{Closed, Poured, Wrote, written}
use Rattle.outbox.proofs.Chains.{wrote-size}
use Rattle.outbox.proofs.Lengths.{length-▹, length-array, length-le32, length-pad, length-word}

-- a write over the middle of three
over : (h : ℕ) (p z b ys : Bytes) → length p ≡ h → length z ≡ length ys → written (p ++ (z ++ b)) h ys ≡ p ++ (ys ++ b)
over h p z b ys lp lz =
    let t = take_at p (z ++ b) h lp in
    let d : drop (h + length ys) (p ++ (z ++ b)) ≡ b =
    sym (drop-drop (length ys) h (p ++ (z ++ b))) ∙ ap (drop (length ys)) (drop_at p (z ++ b) h lp) ∙ drop_at z b (length ys) lz in
    rw (t, d)

-- the same of what was just written
pub patched : (was : Bytes) (s : ℕ) (a z b ys : Bytes) → s ≤ length was → length z ≡ length ys → written (written was s (a ++ (z ++ b))) (s + length a) ys ≡ written was s (a ++ (ys ++ b))
patched was s a z b ys le lz =
    let t = take s was in
    let d = drop (s + length (a ++ (z ++ b))) was in
    let n : length (a ++ (z ++ b)) ≡ length (a ++ (ys ++ b)) = omega (arith, length-append a (z ++ b), length-append z b, length-append a (ys ++ b), length-append ys b) in
    let e : t ++ ((a ++ (z ++ b)) ++ d) ≡ (t ++ a) ++ (z ++ (b ++ d)) = simp append_assoc in
    let f : (t ++ a) ++ (ys ++ (b ++ d)) ≡ t ++ ((a ++ (ys ++ b)) ++ d) = simp append_assoc in
    let l : length (t ++ a) ≡ s + length a = length-append t a ∙ ap (λ k. k + length a) (length-take-le s was le) in
    ap (λ x. written x (s + length a) ys) e ∙ over (s + length a) (t ++ a) z (b ++ d) ys l lz ∙ f ∙ ap (λ k. t ++ ((a ++ (ys ++ b)) ++ drop (s + k) was)) n

module _ (code : Code) (s : ℕ) where
  pub contents-at : contents_at code s ≡ s + length (pad Array s) + 4 + gap (align_of code) (s + length (pad Array s) + 4)
  unfolding contents_at open_array
  contents-at =
      let n = length-word Array 0 s in
      let m : s + length (put_word Array 0 s) ≡ s + length (pad Array s) + 4 = omega arith in
      let g : length (pad code (s + length (put_word Array 0 s))) ≡ gap (align_of code) (s + length (pad Array s) + 4) = length-pad code _ ∙ ap (gap (align_of code)) m in
      omega (arith, length-▹ (put_word Array 0) (pad code) s)

  -- an array with any number for its length
  laid : Part → ℕ → Bytes
  laid w n = pad Array s ++ (le32 n ++ (pad code (s + length (pad Array s) + 4) ++ w (contents_at code s)))

  module _ (w : Part) where
    opened : (open_array code ▹ w) s ≡ laid w 0
    unfolding laid contents_at open_array ◌▹◌ put_word
    opened =
        let m : s + length (pad Array s ++ le32 0) ≡ s + length (pad Array s) + 4 = omega (arith, length-append (pad Array s) (le32 0), length-le32 0) in
        rw m (simp append_assoc)

    with-length : (n : ℕ) → (put_word Array n ▹ pad code ▹ w) s ≡ laid w n
    unfolding laid ◌▹◌ put_word
    with-length n =
        let q = s + length (pad Array s) + 4 in
        let m : s + length (pad Array s ++ le32 n) ≡ q = omega (arith, length-append (pad Array s) (le32 n), length-le32 n) in
        let k : q + length (pad code q) ≡ contents_at code s = omega (arith, contents-at, length-pad code q) in
        rw m (rw k (append_assoc (pad Array s) (le32 n) _))

    closed : array code w s ≡ laid w (length (w (contents_at code s)))
    unfolding array
    closed = with-length (length (w (contents_at code s)))

module _ (was bytes is : Bytes) (s e : ℕ) (code : Code) (w : Part) (a : Wrote was s bytes e (open_array code ▹ w)) where
  ends : e ≡ contents_at code s + length (w (contents_at code s))
  unfolding contents_at
  ends = a.ends ∙ omega (arith, length-▹ (open_array code) w s)

  filled : is ≡ written bytes (s + length (pad Array s)) (le32 (e - contents_at code s)) → Wrote was s is e (array code w)
  unfolding laid
  filled p =
      let at = contents_at code s in
      let n : e - at ≡ length (w at) = omega (arith, ends) in
      let b = pad code (s + length (pad Array s) + 4) ++ w at in
      let le : s ≤ length was = omega (arith, a.ends, a.fits) in
      record {
        bytes =
            p ∙ ap (λ k. written bytes (s + length (pad Array s)) (le32 k)) n
            ∙ ap (λ l. written l (s + length (pad Array s)) (le32 (length (w at)))) (a.bytes ∙ ap (written was s) (opened code s w))
            ∙ patched was s (pad Array s) (le32 0) b (le32 (length (w at))) le (length-le32 0 ∙ sym (length-le32 (length (w at))))
            ∙ ap (written was s) (sym (closed code s w));
        ends = ends ∙ sym (length-array code w s);
        fits = a.fits;
      }

-- what was opened and written on is closed
pub closes : {E F : Type 0} (was bytes is : Bytes) (s e : ℕ) (code : Code) (r : Result ℕ E) (w : Part) → Closed bytes s code e is r → Poured {E = F} was s bytes (Ok e) (open_array code ▹ w) → Poured was s is r (array code w)
closes was bytes is s e code (Ok to) w p a =
    let f = filled was bytes is s e code w a.by p.by.1 in
    record { by = record { bytes = f.bytes; ends = p.by.0 ∙ f.ends; fits = omega (arith, p.by.0, f.fits) } }
closes was bytes is s e code (Err x) w p a =
    absurd (omega (arith, ends was bytes is s e code w a.by, a.by.fits, wrote-size was bytes s e _ a.by, p.by.1 (omega (arith, ends was bytes is s e code w a.by))))

-- the places that the code counts out
module _ (code : Code) (s before past : ℕ) (is_before : before ≡ gap (align_of Array) s) (is_past : past ≡ gap (align_of code) (s + before + 4)) where
  pub hole-at : s + before ≡ s + length (pad Array s)
  hole-at = ap (λ n. s + n) (is_before ∙ sym (length-pad Array s))

  pub contents-is : s + before + 4 + past ≡ contents_at code s
  contents-is =
      let e : s + before + 4 ≡ s + length (pad Array s) + 4 = omega (arith, hole-at) in
      let f : past ≡ gap (align_of code) (s + length (pad Array s) + 4) = is_past ∙ ap (gap (align_of code)) e in
      omega (arith, contents-at code s)

pub after-start : (code : Code) (s : ℕ) → s ≤ contents_at code s
after-start code s = omega (arith, contents-at code s)

-- a number of 32 bits inside what was written, filled in later
module _ (was bytes is : Bytes) (s e : ℕ) (u : Part) (code : Code) (w : Part) where
  around : ℕ → Bytes
  around n = (u s ++ pad code (s + length (u s))) ++ (le32 n ++ w (s + length (u s) + length (pad code (s + length (u s))) + 4))

  split_at : (n : ℕ) → (u ▹ put_word code n ▹ w) s ≡ around n
  unfolding around ◌▹◌ put_word
  split_at n =
      let q = s + length (u s) in
      let k : q + length (pad code q ++ le32 n) ≡ q + length (pad code q) + 4 = omega (arith, length-append (pad code q) (le32 n), length-le32 n) in
      rw k (simp append_assoc)

  pub patch-word : (m n : ℕ) → Wrote was s bytes e (u ▹ put_word code m ▹ w) → is ≡ written bytes (s + length (u s) + length (pad code (s + length (u s)))) (le32 n) → Wrote was s is e (u ▹ put_word code n ▹ w)
  unfolding around
  patch-word m n a p =
      let q = s + length (u s) in
      let at : q + length (pad code q) ≡ s + length (u s ++ pad code q) = omega (arith, length-append (u s) (pad code q)) in
      let size : length (around m) ≡ length (around n) =
      omega (arith, length-append (u s ++ pad code q) (le32 m ++ w (q + length (pad code q) + 4)), length-append (le32 m) (w (q + length (pad code q) + 4)), length-append (u s ++ pad code q) (le32 n ++ w (q + length (pad code q) + 4)), length-append (le32 n) (w (q + length (pad code q) + 4)), length-le32 m, length-le32 n) in
      record {
        bytes =
            p ∙ ap (λ k. written bytes k (le32 n)) at ∙ ap (λ l. written l (s + length (u s ++ pad code q)) (le32 n)) (a.bytes ∙ ap (written was s) (split_at m))
            ∙ patched was s (u s ++ pad code q) (le32 m) _ (le32 n) (omega (arith, a.ends, a.fits)) (length-le32 m ∙ sym (length-le32 n)) ∙ ap (written was s) (sym (split_at n));
        ends = a.ends ∙ omega (arith, ap length (split_at m), ap length (split_at n));
        fits = a.fits;
      }
