use Rattle.std.specs.Prelude.{◌≡◌, Bool, true, false, cond, codes, refl}
use Rattle.names.specs.Names.{valid}
use Rattle.effects.specs.Model.{valid_reply, failed, succeeded}

pub checks : (hot : Bool) → valid_reply (cond hot (failed (codes "com.example.Pedal.Error.TooHot")) succeeded) ≡ true
unfolding valid
checks true = refl
checks false = refl
