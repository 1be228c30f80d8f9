-- How long the parts are.
use Rattle.std.proofs.Common.{◌≡◌, ℕ, ◌+◌, ◌<◌, [], ◌∷◌, length, refl, ap, ◌∙◌, mod-lt, arith, length-append}
use lib.ListN.{length-replicate}
use Rattle.signature.specs.declared.codes.Code.{Code}
use Rattle.signature.specs.declared.codes.Code.TheVariants.{Array}
use Rattle.signature.specs.Codes.{align_of}
use Rattle.wire.specs.Reading.{gap}
use Rattle.signature.proofs.Table.{align-small}
use Rattle.outbox.specs.Marshal.{Bytes, Part, ◌▹◌, array, contents_at, ended, le32, open_array, pad, put_signature, put_text, put_word, raw}

pub length-▹ : (v w : Part) (off : ℕ) → length ((v ▹ w) off) ≡ length (v off) + length (w (off + length (v off)))
unfolding ◌▹◌
length-▹ v w off = length-append (v off) (w (off + length (v off)))

pub gap-lt : (align off : ℕ) → 0 < align → gap align off < align
unfolding gap
gap-lt align off h = mod-lt _ h

pub length-pad : (code : Code) (off : ℕ) → length (pad code off) ≡ gap (align_of code) off
unfolding pad
length-pad code off = length-replicate (gap (align_of code) off) 0

pub pad-short : (code : Code) (off : ℕ) → length (pad code off) < 8
pad-short code off = omega (arith, length-pad code off, gap-lt (align_of code) off (align-small code).0, (align-small code).1)

pub length-le32 : (n : ℕ) → length (le32 n) ≡ 4
unfolding le32
length-le32 n = refl

pub length-word : (code : Code) (n off : ℕ) → length (put_word code n off) ≡ length (pad code off) + 4
unfolding put_word
length-word code n off = length-▹ (pad code) (raw (le32 n)) off ∙ ap (λ m. length (pad code off) + m) (length-le32 n)

pub length-ended : (s : Bytes) (off : ℕ) → length (ended s off) ≡ length s + 1
unfolding ended
length-ended s off = length-▹ (raw s) (raw (0 ∷ [])) off

pub length-text : (code : Code) (s : Bytes) (off : ℕ) → length (put_text code s off) ≡ length (pad code off) + length s + 5
unfolding put_text
length-text code s off = omega (arith, length-▹ (put_word code (length s)) (ended s) off, length-word code (length s) off, length-ended s (off + length (put_word code (length s) off)))

pub length-signature : (s : Bytes) (off : ℕ) → length (put_signature s off) ≡ length s + 2
unfolding put_signature
length-signature s off = omega (arith, length-▹ (raw (length s ∷ [])) (ended s) off, length-ended s (off + 1))

pub length-array : (code : Code) (w : Part) (off : ℕ) → off + length (array code w off) ≡ contents_at code off + length (w (contents_at code off))
unfolding array contents_at open_array
length-array code w off =
    let n = put_word Array (length (w (contents_at code off))) in
    let k = length-word Array (length (w (contents_at code off))) off in
    let z = length-word Array 0 off in
    let p : off + length (n off) ≡ off + length (put_word Array 0 off) = omega arith in
    let q : length (pad code (off + length (n off))) ≡ length (pad code (off + length (put_word Array 0 off))) = ap (λ m. length (pad code m)) p in
    let l = length-▹ n (pad code ▹ w) off in
    let m = length-▹ (pad code) w (off + length (n off)) in
    let o = length-▹ (put_word Array 0) (pad code) off in
    let at : off + length (n off) + length (pad code (off + length (n off))) ≡ contents_at code off = omega arith in
    omega (arith, ap (λ m. length (w m)) at)
