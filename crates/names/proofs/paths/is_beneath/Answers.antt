use Rattle.std.proofs.Common.{◌≡◌, false, Some, ap, ◌∙◌, rules, MatchOption}
use Rattle.names.specs.Paths.{is_beneath, deeper, following}
use Rattle.names.proofs.Spelled.{beneath-elements}
use Rattle.names.proofs.Walks.{stripped, deeper-told}
use Rattle.names.proofs.paths.is_beneath.Goals as goal

pub returns : goal.returns
returns c =
    let p = c.args.above.now in
    let q = c.args.path.now in
    let o = c.strip_prefix.result in
    let r = c.is_some_and.result in
    let k : MatchOption o (r ≡ false) (λ x. r ≡ deeper (Some x.now)) = search rules in
    let e : r ≡ is_beneath p q = deeper-told o r k ∙ ap deeper (stripped c.stem.result.now q o c.strip_prefix.ensures.cases) ∙ ap (λ u. deeper (following u q)) c.stem.ensures in
    record { bytes = e; elements = λ h k. e ∙ beneath-elements p q h k }
