use Rattle.std.proofs.Common.{◌≡◌, codes, rules, arith}
use Rattle.std.proofs.lemmas.Slice.Eq.{text_from_reads}
use Rattle.effects.proofs.delay_interface.DelayInterface.set_mut.Goals as goal

pub returns-in-Bypassed-clause-answer : goal.returns-in-Bypassed-clause-answer
returns-in-Bypassed-clause-answer c =
    let e : c.args.name.now ≡ codes "Bypassed" = text_from_reads _ _ (omega arith) (search rules) in
    rw e (search rules)

pub returns-in-Feedback : goal.returns-in-Feedback
returns-in-Feedback c =
    let e : c.args.name.now ≡ codes "Feedback" = text_from_reads _ _ (omega arith) (search rules) in
    rw e (search rules)

pub returns-in-Label-clause-after : goal.returns-in-Label-clause-after
returns-in-Label-clause-after c =
    let e : c.args.name.now ≡ codes "Label" = text_from_reads _ _ (omega arith) (search rules) in
    rw e (search rules)
