-- What was written is read back.
use Rattle.std.proofs.Common.{◌≡◌, ℕ, zero, suc, ◌+◌, ◌-◌, ◌*◌, ◌/◌, ◌%◌, ◌^◌, ◌<◌, ◌≤◌, Bool, true, false, [], ◌∷◌, ◌++◌, length, get_or, take, drop, replicate, Ok, Err, Result, sym, refl, ap, ◌∙◌, add-zero, mod-eq_of_lt, div-add-mod', arith}
use native.Mathlib.Nat.{div-div-eq-div-mul}
use Rattle.std.proofs.lemmas.Nat.{div_below}
use Rattle.std.proofs.lemmas.List.{drop_at, drop-drop, drop-take, get_or-drop, get_or-take, take_at, take-take}
use Rattle.std.proofs.lemmas.Bool.{cond-true, le-leb, lt-ltb}
use Rattle.names.specs.Names.{all, valid_path}
use Rattle.signature.specs.declared.codes.Code.{Code}
use Rattle.signature.specs.declared.codes.Code.TheVariants.{Array, Boolean, Uint32, String, ObjectPath}
use Rattle.wire.specs.declared.reading.ByteOrder.TheVariants.{Little}
use Rattle.wire.specs.declared.reading.Fault.{Fault}
use Rattle.signature.specs.Codes.{align_of}
use Rattle.wire.specs.Reading.{align_at, and_then, bool_at, byte_at, bytes_at, ended_at, fixed_at, gap, part, path_at, signature_at, string_at, text_at, u32_at, word_of}
use Rattle.signature.specs.Signatures.{valid_signature}
use Rattle.wire.specs.Text.{valid_text, zero?}
use Rattle.wire.proofs.Read.{goes}
use Rattle.outbox.specs.Marshal.{Bytes, Part, ◌▹◌, array, contents_at, ended, le32, pad, put_bool, put_path, put_signature, put_string, put_text, put_u32, put_word, raw}
use Rattle.outbox.specs.Pours.{Poured, Wrote}
use Rattle.outbox.specs.ReadBack.{ArrayStands, EveryReadsBack, Reader, Reads, ReadsBack, Stands}
use Rattle.outbox.proofs.Arrays.{after-start, contents-at}
use Rattle.outbox.proofs.Chains.{drop-written, wrote-size}
use Rattle.outbox.proofs.Lengths.{length-▹, length-array, length-ended, length-le32, length-pad, length-word}

-- one part and then another
module _ (msg : Bytes) (at : ℕ) (v w : Part) (a : Stands msg at (v ▹ w)) where
  two : part (length (v at) + length (w (at + length (v at)))) msg at ≡ v at ++ w (at + length (v at))
  unfolding ◌▹◌
  two = ap (λ n. part n msg at) (sym (length-▹ v w at)) ∙ a.bytes

  pub stands-first : Stands msg at v
  stands-first =
      let n = length (v at) in
      record {
        bytes = sym (take-take n (n + length (w (at + n))) (drop at msg) (omega arith)) ∙ ap (take n) two ∙ take_at (v at) _ n refl;
        within = omega (arith, length-▹ v w at, a.within);
        short = omega (arith, length-▹ v w at, a.short);
      }

  pub stands-next : Stands msg (at + length (v at)) w
  stands-next =
      let n = length (v at) in
      let m = length (w (at + n)) in
      record {
        bytes = ap (take m) (sym (drop-drop n at msg)) ∙ sym (drop-take n m (drop at msg)) ∙ ap (drop n) two ∙ drop_at (v at) _ n refl;
        within = omega (arith, length-▹ v w at, a.within);
        short = omega (arith, length-▹ v w at, a.short);
      }

bytes_read : (n : ℕ) (msg : Bytes) (at : ℕ) → at + n ≤ length msg → bytes_at n msg at ≡ Ok (at + n)
bytes_read n msg at h = cond-true _ _ _ (le-leb (at + n) (length msg) h)

all-zeros : (n : ℕ) → all zero? (replicate n 0) ≡ true
all-zeros zero = refl
all-zeros (suc n) = all-zeros n

pub pad-read : (code : Code) (msg : Bytes) (at : ℕ) → Stands msg at (pad code) → align_at (align_of code) msg at ≡ Ok (at + length (pad code at))
unfolding align_at pad
pad-read code msg at a =
    let l = length-pad code at in
    let g = gap (align_of code) at in
    let z : all zero? (part g msg at) ≡ true = ap (λ n. all zero? (part n msg at)) (sym l) ∙ ap (all zero?) a.bytes ∙ all-zeros g in
    let e : at + g ≡ at + length (pad code at) = omega arith in
    goes _ (sym (bytes_read g msg at (omega (arith, a.within)))) ∙ cond-true _ _ _ z ∙ ap Ok e

digits : (n q r p s o t : ℕ) → q * 256 + r ≡ n → p * 256 + s ≡ q → o * 256 + t ≡ p → r + s * 256 + t * 65536 + o * 16777216 ≡ n
digits n q r p s o t a b c = omega arith

-- four bytes are the number
word-is : (msg : Bytes) (at n : ℕ) → n < 2 ^ 32 → part 4 msg at ≡ le32 n → word_of Little msg at ≡ n
unfolding le32
word-is msg at n h e =
    let here : (i : ℕ) → i < 4 → get_or msg (at + i) 0 ≡ get_or (le32 n) i 0 = λ i lt. sym (get_or-drop at msg i 0) ∙ sym (get_or-take 4 (drop at msg) i 0 lt) ∙ ap (λ l. get_or l i 0) e in
    let z : get_or msg at 0 ≡ n % 256 = ap (λ k. get_or msg k 0) (sym (add-zero at)) ∙ here 0 (omega arith) in
    let a : n / 256 / 256 ≡ n / 65536 = div-div-eq-div-mul n 256 256 in
    let b : n / 65536 / 256 ≡ n / 16777216 = div-div-eq-div-mul n 65536 256 in
    let lt : n / 16777216 < 256 = div_below n 16777216 256 (omega arith) h in
    let top : n / 16777216 % 256 ≡ n / 16777216 = mod-eq_of_lt lt in
    let x = div-add-mod' n 256 in
    let y = div-add-mod' (n / 256) 256 in
    let w = div-add-mod' (n / 65536) 256 in
    rw (z, here 1 (omega arith), here 2 (omega arith), here 3 (omega arith), top)
    (digits n (n / 256) (n % 256) (n / 65536) (n / 256 % 256) (n / 16777216) (n / 65536 % 256) x (rw a at y) (rw b at w))

pub word-reads : (code : Code) (n : ℕ) → align_of code ≡ 4 → n < 2 ^ 32 → Reads (u32_at Little) (put_word code n) n
unfolding put_word u32_at fixed_at
word-reads code n four lt msg at a =
    let q = at + length (pad code at) in
    let p = stands-first msg at (pad code) (raw (le32 n)) a in
    let w = stands-next msg at (pad code) (raw (le32 n)) a in
    let aligned : align_at 4 msg at ≡ Ok q = ap (λ k. align_at k msg at) (sym four) ∙ pad-read code msg at p in
    let fixed : and_then (align_at 4 msg at) (bytes_at 4 msg) ≡ Ok (q + 4) = goes _ (sym aligned) ∙ bytes_read 4 msg q (omega (arith, w.within, length-le32 n)) in
    let four-back : q + 4 - 4 ≡ q = omega arith in
    let word : word_of Little msg (q + 4 - 4) ≡ n = ap (word_of Little msg) four-back ∙ word-is msg q n lt (ap (λ k. part k msg q) (sym (length-le32 n)) ∙ w.bytes) in
    let end : q + 4 ≡ at + length ((pad code ▹ raw (le32 n)) at) = omega (arith, length-▹ (pad code) (raw (le32 n)) at, length-le32 n) in
    goes _ (sym fixed) ∙ ap (λ k. Ok (k, q + 4)) word ∙ ap (λ k. Ok (n, k)) end

-- one byte
byte-read : (b : ℕ) (msg : Bytes) (at : ℕ) → Stands msg at (raw (b ∷ [])) → byte_at msg at ≡ Ok (b, at + 1)
byte-read b msg at a =
    let e : get_or msg at 0 ≡ b = ap (λ k. get_or msg k 0) (sym (add-zero at)) ∙ sym (get_or-drop at msg 0 0) ∙ sym (get_or-take 1 (drop at msg) 0 0 (omega arith)) ∙ ap (λ l. get_or l 0 0) a.bytes in
    cond-true _ _ _ (lt-ltb at (length msg) (omega (arith, a.within))) ∙ ap (λ k. Ok (k, at + 1)) e

ended-read : (s msg : Bytes) (at : ℕ) → Stands msg at (ended s) → ended_at (length s) msg at ≡ Ok (s, at + length s + 1)
unfolding ended ended_at
ended-read s msg at a =
    let t = stands-first msg at (raw s) (raw (0 ∷ [])) a in
    let z = stands-next msg at (raw s) (raw (0 ∷ [])) a in
    goes _ (sym (bytes_read (length s) msg at t.within)) ∙ goes _ (sym (byte-read 0 msg (at + length s) z)) ∙ ap (λ l. Ok (l, at + length s + 1)) t.bytes

-- a length, and a text that f takes
pub text-reads : (code : Code) (s : Bytes) (f : Bytes → ℕ × ℕ → Result (Bytes × ℕ) Fault) → align_of code ≡ 4
    → ((msg : Bytes) (at : ℕ) → Stands msg at (ended s) → f msg (length s, at) ≡ Ok (s, at + length s + 1)) → Reads (λ msg at. and_then (u32_at Little msg at) (f msg)) (put_text code s) s
unfolding put_text
text-reads code s f four text msg at a =
    let n = put_word code (length s) in
    let h = stands-first msg at n (ended s) a in
    let t = stands-next msg at n (ended s) a in
    let l = length-▹ n (ended s) at in
    let k = length-ended s (at + length (n at)) in
    let end : at + length (n at) + length s + 1 ≡ at + length ((n ▹ ended s) at) = omega arith in
    goes _ (sym (word-reads code (length s) four (omega (arith, t.short)) msg at h)) ∙ text msg (at + length (n at)) t ∙ ap (λ m. Ok (s, m)) end

pub string-reads : (s : Bytes) → valid_text s ≡ true → Reads (string_at Little) (put_string s) s
unfolding align_of string_at text_at
string-reads s valid = text-reads String s _ refl (λ msg at a. goes _ (sym (ended-read s msg at a)) ∙ cond-true _ _ _ valid)

pub path-reads : (s : Bytes) → valid_path s ≡ true → Reads (path_at Little) (put_path s) s
unfolding align_of path_at text_at
path-reads s valid = text-reads ObjectPath s _ refl (λ msg at a. goes _ (sym (ended-read s msg at a)) ∙ cond-true _ _ _ valid)

pub signature-reads : (s : Bytes) → valid_signature s ≡ true → Reads signature_at (put_signature s) s
unfolding signature_at text_at put_signature
signature-reads s valid msg at a =
    let n = raw (length s ∷ []) in
    let h = stands-first msg at n (ended s) a in
    let t = stands-next msg at n (ended s) a in
    let end : at + 1 + length s + 1 ≡ at + length ((n ▹ ended s) at) = omega (arith, length-▹ n (ended s) at, length-ended s (at + 1)) in
    goes _ (sym (byte-read (length s) msg at h)) ∙ goes _ (sym (ended-read s msg (at + 1) t)) ∙ cond-true _ _ _ valid ∙ ap (λ m. Ok (s, m)) end

pub u32-reads : (n : ℕ) → n < 2 ^ 32 → Reads (u32_at Little) (put_u32 n) n
unfolding align_of
u32-reads n lt = word-reads Uint32 n refl lt

pub bool-reads : (b : Bool) → Reads (bool_at Little) (put_bool b) b
unfolding align_of bool_at
bool-reads true msg at a = goes _ (sym (word-reads Boolean 1 refl (omega arith) msg at a))
bool-reads false msg at a = goes _ (sym (word-reads Boolean 0 refl (omega arith) msg at a))

module _ (msg : Bytes) (at : ℕ) (code : Code) (w : Part) (a : Stands msg at (array code w)) where
  pub array-stands : ArrayStands msg at code w
  unfolding array align_of
  array-stands =
      let c = contents_at code at in
      let n = length (w c) in
      let whole : Stands msg at (put_word Array n ▹ pad code ▹ w) = record { bytes = a.bytes; within = a.within; short = a.short } in
      let p = at + length (put_word Array n at) in
      let first = stands-first msg at (put_word Array n) (pad code ▹ w) whole in
      let rest = stands-next msg at (put_word Array n) (pad code ▹ w) whole in
      let e : p ≡ at + length (pad Array at) + 4 = omega (arith, length-word Array n at) in
      let f : p + length (pad code p) ≡ c = omega (arith, contents-at code at, length-pad code p, ap (gap (align_of code)) e) in
      let lt : n < 2 ^ 32 = omega (arith, a.short, length-array code w at, after-start code at) in
      let elements = stands-next msg p (pad code) w rest in
      record {
        start = p;
        counts = word-reads Array n refl lt msg at first;
        pads = pad-read code msg p (stands-first msg p (pad code) w rest) ∙ ap Ok f;
        holds = rw f at elements;
        ends = sym (length-array code w at);
      }

pub every-reads-back : EveryReadsBack
every-reads-back =
    record {
      u32 = u32-reads;
      bool = bool-reads;
      string = string-reads;
      path = path-reads;
      signature = signature-reads;
      padding = pad-read;
      arrays = array-stands;
      in_front = stands-first;
      behind = stands-next;
    }

-- what a call has just written
pub wrote-stands : (was is : Bytes) (from end : ℕ) (w : Part) → Wrote was from is end w → Stands is from w
wrote-stands was is from end w a =
    record {
      bytes = ap (λ l. part (length (w from)) l from) a.bytes ∙ ap (take (length (w from))) (drop-written was from (w from) (omega (arith, a.ends, a.fits))) ∙ take_at (w from) _ (length (w from)) refl;
      within = omega (arith, a.ends, a.fits, wrote-size was is from end w a);
      short = omega (arith, a.ends, a.fits);
    }

pub reads-back : {A E : Type 0} (read : Reader A) (x : A) (was is : Bytes) (from : ℕ) (r : Result ℕ E) (w : Part) → Reads read w x → Poured was from is r w → ReadsBack read is from r x
reads-back read x was is from (Ok end) w reads a = reads is from (wrote-stands was is from end w a.by) ∙ ap (λ n. Ok (x, n)) (sym a.by.ends)
reads-back read x was is from (Err e) w reads a = tt
