use Rattle.std.proofs.Common.{◌≡◌, codes, rules, arith}
use Rattle.std.proofs.lemmas.Slice.Eq.{text_from_reads}
use Rattle.effects.proofs.tuner_interface.TunerInterface.call_mut.Goals as goal

pub returns-in-Hold-clause-after : goal.returns-in-Hold-clause-after
returns-in-Hold-clause-after c =
    let e : c.args.name.now ≡ codes "Hold" = text_from_reads _ _ (omega arith) (search rules) in
    rw e (search rules)
