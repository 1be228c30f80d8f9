use Rattle.std.proofs.Common.{◌≡◌, true, false, [], ◌∷◌, ◌+◌, ◌-◌, length, take, drop, Some, arith, rules}
use Rattle.std.proofs.lemmas.Slice.{between_to_end}
use Rattle.std.specs.Str.{bytes_eq}
use Rattle.names.proofs.Slashes.{LastTold, last-root, last_none, last_some}
use Rattle.names.proofs.paths.last_element.Goals as goal

pub returns-then-eq : goal.returns-then-eq
returns-then-eq c =
    let root : true ≡ bytes_eq c.args.path.now (47 ∷ []) = search rules in
    let t = last-root c.args.path.now root in
    record { bytes = t.bytes; elements = t.elements }

pub returns-in_err-at : goal.returns-in_err-at
returns-in_err-at c =
    let other : false ≡ bytes_eq c.args.path.now (47 ∷ []) = search rules in
    let t = last_none c.args.path.now other c.in_err-at.ensures in
    rw c.from_residual.ensures (record { bytes = t.bytes; elements = t.elements })

pub returns : goal.returns
returns c =
    let p = c.args.path.now in
    let at = c.in_ok-at.at in
    let other : false ≡ bytes_eq p (47 ∷ []) = search rules in
    let whole = between_to_end p (at + 1) (length p) (omega arith) in
    let t : LastTold p (Some (take (length p - (at + 1)) (drop (at + 1) p))) = rw whole (last_some p at other c.in_ok-at.ensures) in
    record { bytes = t.bytes; elements = t.elements }
