-- What a text is that was read: valid for its type.
use Rattle.std.proofs.Common.{◌≡◌, ℕ, true, cond, List, Ok, Err, Result, sym, ◌∙◌, subst, ⊎_elim, arith}
use Rattle.std.proofs.lemmas.Bool.{cases_Bool, cond-false, cond-true}
use Rattle.names.specs.Names.{valid_path}
use Rattle.signature.specs.Signatures.{valid_signature}
use Rattle.wire.specs.declared.reading.ByteOrder.{ByteOrder}
use Rattle.wire.specs.declared.reading.Fault.{Fault}
use Rattle.wire.specs.declared.reading.StringLike.{StringLike}
use Rattle.wire.specs.declared.reading.StringLike.TheVariants.{String, ObjectPath, Signature}
use Rattle.wire.specs.Reading.{and_then, byte_at, ended_at, fault_for, path_at, signature_at, string_at, text_at, u32_at, valid_for}
use Rattle.wire.specs.Text.{valid_text}

checked : (kind : StringLike) (at : ℕ) (r : Result (List ℕ × ℕ) Fault) (t : List ℕ × ℕ) → and_then r (λ u. cond (valid_for kind u.0) (Ok u) (Err (fault_for kind at))) ≡ Ok t → valid_for kind t.0 ≡ true
checked kind at (Ok u) t e =
    ⊎_elim (λ v. let k : ◌≡◌ {A = Result (List ℕ × ℕ) Fault} (Ok u) (Ok t) = sym (cond-true _ _ _ v) ∙ e in let same : u ≡ t = cc in subst (λ (x : List ℕ × ℕ). valid_for kind x.0 ≡ true) same v)
    (λ v. let k : ◌≡◌ {A = Result (List ℕ × ℕ) Fault} (Err (fault_for kind at)) (Ok t) = sym (cond-false _ _ _ v) ∙ e in let z : ◌≡◌ {A = ℕ} 0 1 = cc in absurd (omega arith))
    (cases_Bool (valid_for kind u.0))
checked kind at (Err f) t e = let z : ◌≡◌ {A = ℕ} 0 1 = cc in absurd (omega arith)

valid : (kind : StringLike) (msg : List ℕ) (r : Result (ℕ × ℕ) Fault) (t : List ℕ × ℕ) → and_then r (text_at kind msg) ≡ Ok t → valid_for kind t.0 ≡ true
unfolding text_at
valid kind msg (Ok x) t e = checked kind x.1 (ended_at x.0 msg x.1) t e
valid kind msg (Err f) t e = let z : ◌≡◌ {A = ℕ} 0 1 = cc in absurd (omega arith)

module _ (order : ByteOrder) (msg : List ℕ) (at : ℕ) (t : List ℕ × ℕ) where
  pub string-valid : string_at order msg at ≡ Ok t → valid_text t.0 ≡ true
  unfolding string_at
  string-valid e = valid String msg (u32_at order msg at) t e

  pub path-valid : path_at order msg at ≡ Ok t → valid_path t.0 ≡ true
  unfolding path_at
  path-valid e = valid ObjectPath msg (u32_at order msg at) t e

pub signature-valid : (msg : List ℕ) (at : ℕ) (t : List ℕ × ℕ) → signature_at msg at ≡ Ok t → valid_signature t.0 ≡ true
unfolding signature_at
signature-valid msg at t e = valid Signature msg (byte_at msg at) t e
