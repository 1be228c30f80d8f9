use Rattle.std.proofs.Common.{◌≡◌, Some, None, option_map, sym, ap, ◌∙◌, rules, tests}
use Rattle.std.specs.List.{find, zip}
use Rattle.std.proofs.lemmas.Iterator.{YieldsList-from_slice, YieldsList-from_zip}
use Rattle.std.proofs.lemmas.Iterator.Search.{find_from_yields_List}
use Rattle.names.proofs.Order.{differs, before-told, pair-now}
use Rattle.names.proofs.paths.bytes_before.Goals as goal

pub returns-in-Some : goal.returns-in-Some
returns-in-Some c =
    let e : option_map pair-now c.find.result ≡ find differs (zip c.args.a.now c.args.b.now) =
    find_from_yields_List differs c.find.new.self _ c.find.result c.find.ensures.ran
    (YieldsList-from_zip (YieldsList-from_slice c.args.a.now (cc)) (YieldsList-from_slice c.args.b.now c.zip.ensures.second.0))
    (λ x b q k. search (rules, tests)) in
    before-told c.args.a.now c.args.b.now (Some (pair-now (c.in-Some.x, c.in-Some.y))) (ap (option_map pair-now) (sym c.in-Some.is) ∙ e)

pub returns-in-None : goal.returns-in-None
returns-in-None c =
    let e : option_map pair-now c.find.result ≡ find differs (zip c.args.a.now c.args.b.now) =
    find_from_yields_List differs c.find.new.self _ c.find.result c.find.ensures.ran
    (YieldsList-from_zip (YieldsList-from_slice c.args.a.now (cc)) (YieldsList-from_slice c.args.b.now c.zip.ensures.second.0))
    (λ x b q k. search (rules, tests)) in
    before-told c.args.a.now c.args.b.now None (ap (option_map pair-now) (sym c.in-None.is) ∙ e)
