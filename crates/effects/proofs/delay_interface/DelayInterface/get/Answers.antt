use Rattle.std.proofs.Common.{◌≡◌, codes, rules, arith}
use Rattle.std.proofs.lemmas.Slice.Eq.{text_from_reads}
use Rattle.effects.proofs.delay_interface.DelayInterface.get.Goals as goal

pub returns-in-Bypassed : goal.returns-in-Bypassed
returns-in-Bypassed c =
    let e : c.args.name.now ≡ codes "Bypassed" = text_from_reads _ _ (omega arith) (search rules) in
    rw e (search rules)

pub returns-in-Feedback : goal.returns-in-Feedback
returns-in-Feedback c =
    let e : c.args.name.now ≡ codes "Feedback" = text_from_reads _ _ (omega arith) (search rules) in
    rw e (search rules)
