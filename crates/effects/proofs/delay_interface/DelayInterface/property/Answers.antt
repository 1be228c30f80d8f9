use Rattle.std.proofs.Common.{option_map, ap, ◌∙◌}
use Rattle.effects.specs.Calls.{seen_info, info_of}
use Rattle.effects.specs.Makes.{delay_model}
use Rattle.effects.proofs.Tables.{told_at}
use Rattle.effects.proofs.delay_interface.DelayInterface.property.Goals as goal

pub returns : goal.returns
returns c = ap (option_map seen_info) c.copied.ensures ∙ told_at seen_info info_of c.properties.result.now (delay_model c.args.self.now).properties c.args.i c.get.result c.properties.ensures c.get.ensures.lookup
