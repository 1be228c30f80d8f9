use Rattle.std.proofs.Common.{◌∙◌, rules, tests}
use Rattle.std.proofs.lemmas.Iterator.{YieldsList-from_slice}
use Rattle.std.proofs.lemmas.Iterator.Search.{all_from_yields_List}
use Rattle.wire.specs.Text.{zero?}
use Rattle.wire.proofs.Bytes.{all_is}
use Rattle.wire.proofs.text.all_zero.Goals as goal

pub returns : goal.returns
returns c =
    all_from_yields_List zero? _ _ _ c.all.ensures.ran (YieldsList-from_slice c.args.bytes.now cc) (λ x b q k. search (rules, tests)) ∙ all_is zero? c.args.bytes.now
