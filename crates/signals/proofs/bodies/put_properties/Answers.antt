use Rattle.std.proofs.Common.{◌≡◌, ◌≤◌, Some, option_map, sym, ap, ◌∙◌, arith}
use Rattle.std.specs.Borrow.{Bor}
use Rattle.std.specs.List.{slice_get}
use Rattle.outbox.specs.Marshal.{Bytes}
use Rattle.outbox.specs.Pours.{room}
use Rattle.signals.specs.Bodies.{put_property}
use Rattle.signals.specs.Readable.{announced}
use Rattle.signals.proofs.Loops.{poured-none}
use Rattle.signals.proofs.Pieces.{name-there, property-more, property-stuck, poured-fails}
use Rattle.signals.proofs.bodies.put_properties.Goals as goal

pub unwrap-name-requires : goal.unwrap-name-requires
unwrap-name-requires g c =
    let it = c.args.instance.now in
    name-there _ it.values.now _ _ it.read (omega arith) c.property_name.ensures

pub loop-k-init : goal.loop-k-init
loop-k-init g c = let le : c.args.from ≤ room c.args.bytes.now = omega arith in poured-none put_property _ _ le

pub returns-in_err-at : goal.returns-in_err-at
returns-in_err-at g c =
    let it = c.args.instance.now in
    let here : Some c.unwrap-name.result.now ≡ option_map (λ p. p.name) (slice_get (announced (g.B.Bank.models it.bank.now) it.number).properties c.loop-k.k) = ap (option_map (λ (x : Bor Bytes). x.now)) (sym c.unwrap-name.ensures) ∙ c.property_name.ensures in
    poured-fails _ _ _ _ _ c.from_residual.ensures.0 (λ e. property-stuck _ _ _ _ _ _ it.values.now c.loop-k.k _ _ c.value-item.result it.read c.value-item.is here c.loop-k.invariant _ c.in_err-at.ensures _)

pub loop-k-preserved : goal.loop-k-preserved
loop-k-preserved g c =
    let it = c.args.instance.now in
    let here : Some c.unwrap-name.result.now ≡ option_map (λ p. p.name) (slice_get (announced (g.B.Bank.models it.bank.now) it.number).properties c.loop-k.k) = ap (option_map (λ (x : Bor Bytes). x.now)) (sym c.unwrap-name.ensures) ∙ c.property_name.ensures in
    property-more _ _ _ _ _ _ it.values.now c.loop-k.k _ _ c.value-item.result it.read c.value-item.is here c.loop-k.invariant _ c.in_ok-at.ensures
