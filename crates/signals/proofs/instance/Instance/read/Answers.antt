use Rattle.std.proofs.Common.{◌≡◌, map, Ok, rules}
use Rattle.std.specs.List.{slice_get}
use Rattle.effects.specs.Calls.{all_answer}
use Rattle.effects.specs.Values.{seen}
use Rattle.banks.specs.Rows.{asked}
use Rattle.signals.proofs.Readings.{values-read}
use Rattle.signals.proofs.instance.Instance.read.Goals as goal

pub invariant_of-result : goal.invariant_of-result
invariant_of-result g c =
    let models = g.B.Bank.models c.args.bank.now in
    let is : Ok (Ok c.in_ok-count.count) ≡ asked all_answer (slice_get models c.args.number) = search rules in
    record { read = values-read (slice_get models c.args.number) c.in_ok-count.count c.get_all.new.into (map seen c.args.into.now) is c.get_all.ensures.values }
