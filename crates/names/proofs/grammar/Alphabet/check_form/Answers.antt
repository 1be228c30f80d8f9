use Rattle.std.proofs.Common.{◌≡◌, sym, MatchResult, Ok, IsErrAnd, ◌+◌, rules}
use Rattle.std.proofs.lemmas.Option.{MatchOption-at_none, MatchOption-at_some}
use Rattle.std.proofs.lemmas.Result.{err_from_is_err_and}
use Rattle.names.proofs.Options.{none-ok_or}
use Rattle.names.proofs.Leads.{checked-led, split-first, led-by, some-after, breaks-first}
use Rattle.names.proofs.grammar.Alphabet.check_form.Goals as goal

pub returns-in_err-rest : goal.returns-in_err-rest
returns-in_err-rest c =
    let p = err_from_is_err_and c.from_residual.result c.from_residual.ensures.1 in
    let n = none-ok_or c.strip_prefix.result 0 c.in_err-rest.field-0.0 (sym c.in_err-rest.ensures.value) in
    let other = MatchOption-at_none _ _ n.0 c.strip_prefix.ensures.cases in
    let x = some-after c.args.self c.in-Some.first c.in-Some.ensures in
    rw (p.1, p.2, n.1) (breaks-first (led-by c.args.self c.in-Some.first c.in-Some.ensures) c.args.s.now other x.0 x.1)

pub returns : goal.returns
returns c =
    let same = MatchOption-at_some _ _ c.in_ok-rest.rest c.in_ok-rest.ensures.ok_part c.strip_prefix.ensures.cases in
    let r = c.check_after_lead-2.result in
    let m = c.map_err.result in
    let k : MatchResult r (λ u. m ≡ Ok u) (λ at. IsErrAnd m (λ n. n ≡ at + 1)) = search rules in
    checked-led (led-by c.args.self c.in-Some.first c.in-Some.ensures) c.args.s.now c.in_ok-rest.rest.now r m
    (split-first c.in-Some.first c.args.s.now c.in_ok-rest.rest.now same.0 same.1) c.check_after_lead-2.ensures k
