use Rattle.std.proofs.Common.{◌∙◌}
use Rattle.names.proofs.Order.{order-elements, pre-order}
use Rattle.names.proofs.paths.path_before.Goals as goal

pub returns : goal.returns
returns c =
    record {
      bytes = c.bytes_before.ensures;
      elements = λ h k. c.bytes_before.ensures ∙ order-elements c.args.a.now c.args.b.now h k;
      order = pre-order;
    }
