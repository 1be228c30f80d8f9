use Rattle.std.proofs.Common.{length, arith}
use Rattle.signature.proofs.Runs.{begun}
use Rattle.signature.proofs.+entry_end_fields_end_type_end.Goals as goal

pub fields_end-loop-levels-init : goal.fields_end-loop-levels-init
fields_end-loop-levels-init t c =
    let within = c.in_ok-i.ensures.inside in
    (within.0, within.1, begun _ _ (length c.args.signature.now) c.in_ok-i.i (omega arith))
