use Rattle.std.proofs.Common.{rules}
use Rattle.names.proofs.Slashes.{Rightmost, rightmost-last}
use Rattle.names.proofs.paths.last_slash.Goals as goal

pub returns : goal.returns
returns c =
    let k : Rightmost c.args.path.now c.rposition.result = search rules in
    rightmost-last c.args.path.now c.rposition.result k
