-- The lengths of a header that meet.
use Rattle.std.proofs.Common.{◌≡◌, ℕ, ◌+◌, ◌≤◌, true, leb, List, length, sym, arith}
use Rattle.std.proofs.lemmas.Bool.{and_parts, eqb-true, leb-true}
use Rattle.message.specs.Fixed.{lengths_meet}

-- then the fields lie inside the message
pub fields_inside : (msg : List ℕ) (fields body : ℕ) → true ≡ lengths_meet msg fields body → (16 + fields ≤ length msg) × (fields ≤ 67108864)
unfolding lengths_meet
fields_inside msg fields body e =
    let p = and_parts _ _ (sym e) in
    let q = and_parts (leb fields 67108864) (leb (length msg) 134217728) p.0 in
    (omega (arith, eqb-true _ _ p.1), leb-true _ _ q.0)
