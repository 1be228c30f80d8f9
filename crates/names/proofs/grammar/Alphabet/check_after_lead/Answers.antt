use Rattle.std.proofs.Common.{◌<◌, length, rules}
use Rattle.names.proofs.Leads.{checked-same, path-after, member-after, several-after}
use Rattle.names.proofs.grammar.Alphabet.check_after_lead.Goals as goal

pub returns-in-Path-2 : goal.returns-in-Path-2
returns-in-Path-2 c =
    let some : 0 < length c.args.s.now = search rules in
    path-after c.args.self c.args.s.now c.check_elements.result c.in-Path.is some c.check_elements.ensures

pub returns-in-Member : goal.returns-in-Member
returns-in-Member c = checked-same _ _ (member-after c.args.self c.in-Member.is) c.check_elements-in-Member.ensures

pub returns-in-Name : goal.returns-in-Name
returns-in-Name c = checked-same _ _ (several-after c.args.self c.in-Name.is) c.check_several.ensures
