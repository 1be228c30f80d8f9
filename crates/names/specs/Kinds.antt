-- What reading bytes as a name gives.
use Rattle.std.specs.Prelude.{◌≡◌, Bool, is_ok, Result, IfOk, IfErr}
use Rattle.names.specs.declared.grammar.Alphabet.{Alphabet}
use Rattle.names.specs.declared.grammar.Invalid.{Invalid}
use Rattle.names.specs.Names.{Bytes}
use Rattle.names.specs.Faults.{Refusal}

-- Where the bytes are valid, a name that has them; else what is wrong with them, by their alphabet.
pub record Judged {N : Type 0} (valid : Bytes → Bool) (bytes_of : N → Bytes) (a : Alphabet) (s : Bytes) (r : Result N Invalid) : Type 0 where
  pub answer : is_ok r ≡ valid s
  pub value : IfOk r (λ n. bytes_of n ≡ s)
  pub fault : IfErr r (λ e. Refusal a s e)
