use Rattle.std.proofs.Common.{ℕ, ◌&&◌, ltb, leb, length, ◌∙◌, rules, tests}
use Rattle.std.proofs.lemmas.Iterator.Consumers.{YieldsList-at, YieldsList-from_enumerate}
use Rattle.std.proofs.lemmas.Iterator.Search.{all_from_yields_List}
use Rattle.std.proofs.lemmas.Iterator.Splits.{YieldsList-from_slice_split}
use Rattle.names.specs.Names.{Bytes, slash}
use Rattle.names.proofs.Limits.{numbered-fit}
use Rattle.names.proofs.paths.elements_fit.Goals as goal

pub returns : goal.returns
returns c =
    let s = c.args.s.now in
    let e = c.split.ensures in
    all_from_yields_List (λ (p : ℕ × Bytes). ltb p.0 16 && leb (length p.1) 63) _ _ c.all.result c.all.ensures.ran
    (YieldsList-from_enumerate
    (YieldsList-at c.enumerate.ensures.source (YieldsList-from_slice_split _ slash s e.rest e.done e.closure (λ x b q k. search (rules, tests))))
    c.enumerate.ensures.count)
    (λ x b q k. search (rules, tests))
    ∙ numbered-fit s
