use Rattle.std.proofs.Common.{◌∙◌}
use Rattle.std.proofs.lemmas.Result.{err_from_is_err_and}
use Rattle.outbox.proofs.Chains.{poured-stops, poured-then}
use Rattle.signals.specs.Bodies.{added_part}
use Rattle.signals.proofs.Loops.{array-stops, array-unopened, poured-err, poured-ok}
use Rattle.signals.proofs.bodies.put_readable.Goals as goal

pub returns-in_err-start : goal.returns-in_err-start
unfolding added_part
returns-in_err-start g c =
    let p = err_from_is_err_and c.from_residual.result c.from_residual.ensures.1 in
    record { wrote = rw p.1 (poured-stops _ _ _ _ _ _ _ c.in_err-start.ensures.wrote); full = rw p.1 p.2 }

pub returns-in_err-at : goal.returns-in_err-at
unfolding added_part
returns-in_err-at g c =
    let p = err_from_is_err_and c.from_residual-in_err-at.result c.from_residual-in_err-at.ensures.1 in
    record { wrote = rw p.1 (poured-then _ _ _ _ _ _ _ _ c.in_ok-start.ensures.wrote (array-unopened _ _ _ _ _ _ _ c.in_err-at.ensures)); full = rw p.1 p.2 }

pub returns-in_err-at-2 : goal.returns-in_err-at-2
unfolding added_part
returns-in_err-at-2 g c =
    let p = err_from_is_err_and c.from_residual-in_err-at-2.result c.from_residual-in_err-at-2.ensures.1 in
    record {
      wrote = rw p.1 (poured-then _ _ _ _ _ _ _ _ c.in_ok-start.ensures.wrote (array-stops _ _ _ _ _ _ _ (poured-then _ _ _ _ _ _ _ _ c.in_ok-at.ensures c.in_err-at-2.ensures.wrote)));
      full = rw p.1 (p.2 ∙ c.in_err-at-2.ensures.full);
    }

pub returns-in_err-close_array : goal.returns-in_err-close_array
unfolding added_part
returns-in_err-close_array g c =
    let p = err_from_is_err_and c.from_residual-in_err-close_array.result c.from_residual-in_err-close_array.ensures.1 in
    let closed = c.in_err-close_array.ensures.closes _ _ (poured-then _ _ _ _ _ _ _ _ c.in_ok-at.ensures (poured-ok _ _ _ _ _ c.in_ok-at-2.ensures.wrote)) in
    record { wrote = rw p.1 (poured-then _ _ _ _ _ _ _ _ c.in_ok-start.ensures.wrote (poured-err _ _ _ _ _ _ closed)); full = rw p.1 p.2 }

pub returns : goal.returns
unfolding added_part
returns g c =
    let closed = c.in_ok-close_array.ensures.closes _ _ (poured-then _ _ _ _ _ _ _ _ c.in_ok-at.ensures (poured-ok _ _ _ _ _ c.in_ok-at-2.ensures.wrote)) in
    record { wrote = poured-then _ _ _ _ _ _ _ _ c.in_ok-start.ensures.wrote (poured-ok _ _ _ _ _ closed); full = tt }
