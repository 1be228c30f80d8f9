-- How long parts can be at most, wherever they stand.
use Rattle.std.proofs.Common.{ℕ, ◌+◌, ◌*◌, ◌≤◌, List, [], ◌∷◌, length, mul-suc, arith}
use Rattle.std.specs.List.{AllByRecursion as All}
use Rattle.signature.specs.declared.codes.Code.{Code}
use Rattle.signature.specs.declared.codes.Code.TheVariants.{Array}
use Rattle.outbox.specs.Marshal.{Bytes, Part, ◌▹◌, array, contents_at, many, pad, put_signature, put_text, put_word}
use Rattle.outbox.proofs.Arrays.{contents-at}
use Rattle.outbox.proofs.Lengths.{length-▹, length-array, length-pad, length-signature, length-text, length-word, pad-short}

abbrev pub AtMost : ℕ → Part → Type 0
AtMost n w = (off : ℕ) → length (w off) ≤ n

pub most-more : (m n : ℕ) (w : Part) → m ≤ n → AtMost m w → AtMost n w
most-more m n w le a off = omega (arith, a off)

pub ▹-most : (m n : ℕ) (v w : Part) → AtMost m v → AtMost n w → AtMost (m + n) (v ▹ w)
▹-most m n v w a b off = omega (arith, length-▹ v w off, a off, b (off + length (v off)))

pub pad-most : (code : Code) → AtMost 7 (pad code)
pad-most code off = omega (arith, pad-short code off)

pub word-most : (code : Code) (n : ℕ) → AtMost 11 (put_word code n)
word-most code n off = omega (arith, length-word code n off, pad-short code off)

pub text-most : (code : Code) (s : Bytes) (n : ℕ) → length s ≤ n → AtMost (12 + n) (put_text code s)
text-most code s n h off = omega (arith, length-text code s off, pad-short code off)

pub signature-most : (s : Bytes) (n : ℕ) → length s ≤ n → AtMost (2 + n) (put_signature s)
signature-most s n h off = omega (arith, length-signature s off)

pub many-most : {X : Type 0} (n : ℕ) (f : X → Part) (P : X → Type 0) → ((x : X) → P x → AtMost n (f x)) → (xs : List X) → All P xs → AtMost (n * length xs) (many f xs)
unfolding many
many-most n f P each [] a off = omega arith
many-most n f P each (x ∷ xs) a off =
    let k = many-most n f P each xs a.1 (off + length (f x off)) in
    omega (arith, length-▹ (f x) (many f xs) off, each x a.0 off, mul-suc n (length xs))

pub array-most : (code : Code) (w : Part) (n : ℕ) → AtMost n w → AtMost (18 + n) (array code w)
array-most code w n a off =
    omega (arith, length-array code w off, contents-at code off, pad-short Array off, length-pad code (off + length (pad Array off) + 4), pad-short code (off + length (pad Array off) + 4), a (contents_at code off))
