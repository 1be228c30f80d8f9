use Rattle.std.proofs.Common.{length, ap, ◌∙◌}
use Rattle.std.proofs.lemmas.List.{drop_at, drop-replicate}
use Rattle.effects.proofs.value.padded.Goals as goal

pub returns-clause-rest : goal.returns-clause-rest
returns-clause-rest c = drop_at c.copy_from_slice.new.self _ _ (ap length c.copy_from_slice.ensures.after) ∙ drop-replicate (length c.args.from.now) 64 0
