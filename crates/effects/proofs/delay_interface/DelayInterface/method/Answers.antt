use Rattle.std.proofs.Common.{option_map, ap, ◌∙◌}
use Rattle.std.specs.Borrow.{Bor}
use Rattle.names.specs.Names.{Bytes}
use Rattle.effects.specs.Model.{MethodModel}
use Rattle.effects.specs.Makes.{delay_model}
use Rattle.effects.proofs.Tables.{told_at}
use Rattle.effects.proofs.delay_interface.DelayInterface.method.Goals as goal

pub returns : goal.returns
returns c = ap (option_map (λ (x : Bor Bytes). x.now)) c.copied.ensures ∙ told_at (λ (x : Bor Bytes). x.now) (λ (k : MethodModel). k.name) c.methods.result.now (delay_model c.args.self.now).methods c.args.i c.get.result c.methods.ensures c.get.ensures.lookup
