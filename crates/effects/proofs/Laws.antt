-- What the law of an interface says of its parts.
use Rattle.std.proofs.Common.{◌≡◌, ◌^◌, ◌<◌, ◌≤◌, true, false, map, length}
use Rattle.std.proofs.lemmas.Bool.{and_parts, leb-true, ltb-true, not-true}
use Rattle.names.specs.Names.{all, valid_interface}
use Rattle.names.specs.Standard.{is_standard}
use Rattle.effects.specs.Model.{InterfaceModel, ascending, well_property, well_method, well_formed}

pub record Lawful (m : InterfaceModel) : Type 0 where
  pub named : valid_interface m.name ≡ true
  pub own : is_standard m.name ≡ false
  pub few_properties : length m.properties ≤ 16
  pub property_order : ascending (map (λ p. p.name) m.properties) ≡ true
  pub good_properties : all well_property m.properties ≡ true
  pub few_methods : length m.methods ≤ 16
  pub method_order : ascending (map (λ k. k.name) m.methods) ≡ true
  pub good_methods : all (well_method m.properties m.fault) m.methods ≡ true
  pub fault_fits : m.fault < 2 ^ 32

pub lawful : (m : InterfaceModel) → well_formed m ≡ true → Lawful m
unfolding well_formed
lawful m h =
    let a = and_parts _ _ h in
    let b = and_parts _ _ a.1 in
    let c = and_parts _ _ b.1 in
    let n = and_parts _ _ a.0 in
    let p = and_parts _ _ b.0 in
    let q = and_parts _ _ p.1 in
    let k = and_parts _ _ c.0 in
    let l = and_parts _ _ k.1 in
    record {
      named = n.0;
      own = not-true _ n.1;
      few_properties = leb-true _ _ p.0;
      property_order = q.0;
      good_properties = q.1;
      few_methods = leb-true _ _ k.0;
      method_order = l.0;
      good_methods = l.1;
      fault_fits = ltb-true _ _ c.1;
    }
