use Rattle.std.proofs.Common.{◌≡◌, codes, rules, arith}
use Rattle.std.proofs.lemmas.Slice.Eq.{text_from_reads}
use Rattle.effects.proofs.tuner_interface.TunerInterface.get.Goals as goal

pub returns-in-Locked : goal.returns-in-Locked
returns-in-Locked c =
    let e : c.args.name.now ≡ codes "Locked" = text_from_reads _ _ (omega arith) (search rules) in
    rw e (search rules)
