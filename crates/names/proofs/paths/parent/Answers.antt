use Rattle.std.proofs.Common.{◌≡◌, true, false, [], ◌∷◌, arith, rules}
use Rattle.std.specs.Str.{bytes_eq}
use Rattle.names.proofs.Slashes.{parent-root, parent-none, parent-top, parent-some}
use Rattle.names.proofs.paths.parent.Goals as goal

pub returns-then-eq : goal.returns-then-eq
returns-then-eq c =
    let root : true ≡ bytes_eq c.args.path.now (47 ∷ []) = search rules in
    let t = parent-root c.args.path.now root in
    record { bytes = t.bytes; elements = t.elements }

pub returns-in_err-at : goal.returns-in_err-at
returns-in_err-at c =
    let other : false ≡ bytes_eq c.args.path.now (47 ∷ []) = search rules in
    let t = parent-none c.args.path.now other c.in_err-at.ensures in
    rw c.from_residual.ensures (record { bytes = t.bytes; elements = t.elements })

pub returns-in-0 : goal.returns-in-0
returns-in-0 c =
    let other : false ≡ bytes_eq c.args.path.now (47 ∷ []) = search rules in
    let t = parent-top c.args.path.now c.in_ok-at.at other c.in_ok-at.ensures c.in-0.is in
    record { bytes = t.bytes; elements = t.elements }

pub returns-in_default : goal.returns-in_default
returns-in_default c =
    let other : false ≡ bytes_eq c.args.path.now (47 ∷ []) = search rules in
    let t = parent-some c.args.path.now c.in_ok-at.at other c.in_ok-at.ensures (omega arith) in
    record { bytes = t.bytes; elements = t.elements }
