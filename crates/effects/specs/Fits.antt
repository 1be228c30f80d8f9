-- Values within their ranges.
use Rattle.std.specs.Prelude.{◌≡◌, ℕ, ◌^◌, ◌≤◌, nat_lt, ◌-◌, Bool, true, false, ◌++◌, length, replicate, ℤ, pos, negsuc, ◌≤ℤ◌, refl}
use Rattle.std.proofs.Common.{arith, length-take, length-take-le, take-append-drop, sym, ap, ap₂, ◌∙◌}
use Rattle.std.proofs.lemmas.Int.{ints}
use Rattle.std.proofs.lemmas.Bool.{le-leb, and_from}
use Rattle.effects.specs.declared.text.Text.{Text}
use Rattle.effects.specs.Values.{truth, whole, count, letters, text_of, in_range, representable}
use Rattle.effects.specs.Makes.{fault_of}

pub truth-fits : (b : Bool) → in_range (pos 0) (pos 1) (truth b) ≡ true
truth-fits true = refl
truth-fits false = refl

pub whole-fits : (low high z : ℤ) → low ≤ℤ z → z ≤ℤ high → in_range low high (whole z) ≡ true
whole-fits low high z h k = grind (arith, ints)

pub whole-held : (z : ℤ) → negsuc 2147483647 ≤ℤ z → z ≤ℤ pos 2147483647 → representable (whole z) ≡ true
whole-held z h k = whole-fits (negsuc 2147483647) (pos 2147483647) z h k

pub count_fits : (low high n : ℕ) → low ≤ n → n ≤ high → in_range (pos low) (pos high) (count n) ≡ true
count_fits low high n h k = and_from _ _ (le-leb low n h) (le-leb n high k)

pub fault-fits : (unplugged : Bool) → nat_lt (fault_of unplugged) (2 ^ 32) ≡ true
fault-fits true = refl
fault-fits false = refl

text-short : (t : Text) → length (text_of t) ≤ 64
text-short t = let h = t.short in simp length-take (omega arith)

pub text-fits : (t : Text) → in_range (pos 0) (pos 64) (letters (text_of t)) ≡ true
text-fits t = and_from _ _ (le-leb 0 (length (text_of t)) (omega arith)) (le-leb (length (text_of t)) 64 (text-short t))

pub text-valid : (t : Text) → representable (letters (text_of t)) ≡ true
text-valid t = and_from _ _ (le-leb (length (text_of t)) 64 (text-short t)) t.shown

-- Two texts of the same bytes agree in every field, so that `==` compares texts.
text-len : (t : Text) → length t.bytes ≡ 64 → length (text_of t) ≡ t.len
text-len t n = let h = t.short in length-take-le t.len t.bytes (omega arith)

text-bytes : (t : Text) → text_of t ++ replicate (64 - t.len) 0 ≡ t.bytes
text-bytes t = ap (λ r. text_of t ++ r) (sym t.cleared) ∙ take-append-drop t.len t.bytes

pub same-text : (s t : Text) → length s.bytes ≡ 64 → length t.bytes ≡ 64 → text_of s ≡ text_of t → (s.len ≡ t.len) × (s.bytes ≡ t.bytes)
same-text s t m n e =
    let l = sym (text-len s m) ∙ ap length e ∙ text-len t n in
    (l, sym (text-bytes s) ∙ ap₂ (λ a k. a ++ replicate (64 - k) 0) e l ∙ text-bytes t)
