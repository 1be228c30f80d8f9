use Rattle.std.proofs.Common.{◌∙◌, rules, tests}
use Rattle.std.proofs.lemmas.Iterator.{YieldsList-from_slice}
use Rattle.std.proofs.lemmas.Iterator.Search.{all_from_yields_List}
use Rattle.wire.specs.Text.{nonzero}
use Rattle.wire.proofs.Bytes.{all_is, nonzero-is}
use Rattle.wire.proofs.text.no_zero.Goals as goal

pub returns : goal.returns
returns c =
    all_from_yields_List nonzero _ _ _ c.all.ensures.ran (YieldsList-from_slice c.args.bytes.now cc) (λ x b q k. search (rules, tests, nonzero-is)) ∙ all_is nonzero c.args.bytes.now
