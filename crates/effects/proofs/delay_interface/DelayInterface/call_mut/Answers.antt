use Rattle.std.proofs.Common.{◌≡◌, codes, rules, arith}
use Rattle.std.proofs.lemmas.Slice.Eq.{text_from_reads}
use Rattle.effects.proofs.delay_interface.DelayInterface.call_mut.Goals as goal

pub returns-in-Bypass : goal.returns-in-Bypass
returns-in-Bypass c =
    let e : c.args.name.now ≡ codes "Bypass" = text_from_reads _ _ (omega arith) (search rules) in
    rw e (search rules)
