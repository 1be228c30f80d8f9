-- One look at each byte: whether an element begins next, or the byte may not stand there.
use Rattle.std.specs.Prelude.{ℕ, Bool, true, false, cond, Some, None, Option}
use Rattle.names.specs.declared.grammar.Alphabet.{Alphabet}
use Rattle.names.specs.Faults.{separates, opens, goes_on}

-- `fresh`: an element begins at this byte
abbrev pub step : Alphabet → Bool → ℕ → Option Bool
step a fresh b =
    cond (separates a b) (cond fresh None (Some true))
    (cond (cond fresh (opens a b) (goes_on a b)) (Some false) None)
