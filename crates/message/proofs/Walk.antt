-- Field after field, as the definition goes.
use Rattle.std.proofs.Common.{◌≡◌, ℕ, zero, suc, ◌-◌, ◌<◌, ◌≤◌, List, length, None, Ok, Option, sym, ap, ◌∙◌, arith}
use Rattle.std.proofs.lemmas.Bool.{cond-true, lt-ltb}
use Rattle.wire.specs.declared.reading.ByteOrder.{ByteOrder}
use Rattle.message.specs.Fields.{Entry}
use Rattle.message.specs.Fixed.{raised}
use Rattle.message.specs.Headers.{Found, field_at, fields_from, fields_of, noted, onward}

module _ (order : ByteOrder) (area : List ℕ) where
  -- what is found and the place say the same of the whole as the start does
  pub record Walks (found : Found) (at : ℕ) : Type 0 where
    pub fuel : ℕ
    pub enough : length area - at ≤ fuel
    pub same : fields_of order area ≡ fields_from order area fuel found at

  pub begun : (found : Found) → ((k : ℕ) → found k ≡ None) → Walks found 16
  unfolding fields_of
  begun found e = record {
    fuel = length area;
    enough = omega arith;
    same = ap (λ s. fields_from order area (length area) s 16) (λ x. λ k. sym (e k) x);
  }

  step : (found : Found) (at n : ℕ) → at < length area → fields_from order area (suc n) found at ≡ onward (raised at) found (fields_from order area n) (field_at order area found at)
  step found at n h = cond-true _ _ _ (lt-ltb at (length area) h)

  go : (found later : Found) (at end n : ℕ) (f : Option Entry) → length area - at ≤ n → fields_of order area ≡ fields_from order area n found at → at < length area → Ok (f, end) ≡ field_at order area found at → at < end → ((k : ℕ) → later k ≡ noted f found k) → Walks later end
  go found later at end zero f enough same h e less is = absurd (omega arith)
  go found later at end (suc n) f enough same h e less is = record {
    fuel = n;
    enough = omega arith;
    same = same ∙ step found at n h ∙ ap (onward (raised at) found (fields_from order area n)) (sym e) ∙ ap (λ s. fields_from order area n s end) (λ x. λ k. sym (is k) x);
  }

  pub next : {found : Found} {at : ℕ} (later : Found) (end : ℕ) (f : Option Entry) → Walks found at → at < length area → Ok (f, end) ≡ field_at order area found at → at < end → ((k : ℕ) → later k ≡ noted f found k) → Walks later end
  next {found} {at} later end f w h e less is = go found later at end w.fuel f w.enough w.same h e less is
