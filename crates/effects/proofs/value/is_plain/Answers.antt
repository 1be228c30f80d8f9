use Rattle.std.proofs.Common.{rules, tests, ◌∙◌, sym}
use Rattle.std.proofs.lemmas.Iterator.{YieldsList-from_slice}
use Rattle.std.proofs.lemmas.Iterator.Search.{all_from_yields_List}
use Rattle.effects.specs.Texts.{printable}
use Rattle.effects.proofs.Alls.{all-list}
use Rattle.effects.proofs.value.is_plain.Goals as goal

pub returns : goal.returns
returns c = all_from_yields_List printable _ _ c.all.result c.all.ensures.ran (YieldsList-from_slice c.args.bytes.now cc) (λ x b q k. search (rules, tests)) ∙ sym (all-list printable c.args.bytes.now)
