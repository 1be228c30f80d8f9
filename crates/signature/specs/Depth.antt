-- How deep containers may nest: the D-Bus Specification, "Valid Signatures" ("32 array type codes and 32 open parentheses")
-- and "Marshalling containers" ("a total message depth .. [not] larger than 64").
use Rattle.std.specs.Prelude.{ℕ, ◌-◌, cond, ◌||◌, Some, None, Option, ◌==◌}
use Rattle.signature.specs.declared.levels.Levels.{Levels}

abbrev pub left : ℕ → ℕ → ℕ → Levels
left a s d = record { arrays = a; structures = s; all = d }

unfoldable pub full : Levels
full = left 32 32 64

-- what is left inside an array, a structure, a variant: each takes a level, and one of its own kind
abbrev pub in_array : Levels → Option Levels
in_array l = cond (l.all == 0 || l.arrays == 0) None (Some (left (l.arrays - 1) l.structures (l.all - 1)))

abbrev pub in_structure : Levels → Option Levels
in_structure l = cond (l.all == 0 || l.structures == 0) None (Some (left l.arrays (l.structures - 1) (l.all - 1)))

abbrev pub in_variant : Levels → Option Levels
in_variant l = cond (l.all == 0) None (Some (left l.arrays l.structures (l.all - 1)))
