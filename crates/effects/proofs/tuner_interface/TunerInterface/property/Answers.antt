use Rattle.std.proofs.Common.{option_map, ap, ◌∙◌}
use Rattle.effects.specs.Calls.{seen_info, info_of}
use Rattle.effects.specs.Makes.{tuner_model}
use Rattle.effects.proofs.Tables.{told_at}
use Rattle.effects.proofs.tuner_interface.TunerInterface.property.Goals as goal

pub returns : goal.returns
returns c = ap (option_map seen_info) c.copied.ensures ∙ told_at seen_info info_of c.properties.result.now (tuner_model c.args.self.now).properties c.args.i c.get.result c.properties.ensures c.get.ensures.lookup
