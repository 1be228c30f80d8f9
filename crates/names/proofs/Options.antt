-- What an `Err` of `ok_or` tells.
use Rattle.std.proofs.Common.{◌≡◌, ℕ, Option, Some, None, Err, refl}
use Rattle.std.specs.Option.{ok_or}

pub none-ok_or : {A : Type 0} (o : Option A) (e d : ℕ) → ok_or o e ≡ Err d → (o ≡ None) × (d ≡ e)
none-ok_or None e d h = (refl, cc)
none-ok_or (Some x) e d h = cc
