-- Which line of a chain plan can be placed by its names, and what a refusal tells.
use Rattle.std.specs.Prelude.{◌≡◌, ℕ, ◌+◌, ◌<◌, Bool, true, false, cond, ◌&&◌, ◌||◌, length, take, codes, Option, ◌==◌, nat_le, slice_index}
use Rattle.std.specs.Str.{bytes_eq}
use Rattle.std.specs.declared.option.Option.TheVariants as O
use Rattle.names.specs.Names.{Bytes, valid_path, valid_interface}
use Rattle.names.specs.Paths.{makeable}
use Rattle.names.specs.Standard.{standard_of}
use Rattle.names.specs.Faults.{Refusal}
use Rattle.names.specs.declared.grammar.Alphabet.TheVariants.{Path, Name}
use Rattle.names.specs.declared.standard.Standard.{Standard}
use Rattle.plan.specs.declared.What.{What}
use Rattle.plan.specs.declared.What.TheVariants as W
use Rattle.plan.specs.declared.Limit.{Limit}
use Rattle.plan.specs.declared.Limit.TheVariants as L
use Rattle.plan.specs.declared.Fault.{Fault}
use Rattle.plan.specs.declared.Fault.TheVariants as F

abbrev pub of_standard : Option Standard → What
of_standard O.None = W.Own
of_standard (O.Some k) = W.Standard k

-- What the second word of a line stands for: the word of a make, or an interface's name.
abbrev pub what_of : Bytes → What
what_of w = cond (bytes_eq w (codes "delay")) W.Delay (cond (bytes_eq w (codes "tuner")) W.Tuner (of_standard (standard_of w)))

abbrev pub is_make : Bytes → Bool
is_make w = bytes_eq w (codes "delay") || bytes_eq w (codes "tuner")

-- A node can be at the path, and something of that name on it.
abbrev pub placeable : Bytes → Bytes → Bool
placeable path w = valid_path path && (makeable path && (is_make w || valid_interface w))

-- The bytes before the place keep the limits of a made path, and with the one there they break them.
pub record Unmakeable (path : Bytes) (at : ℕ) : Type 0 where
  pub within : at < length path
  pub kept : makeable (take at path) ≡ true
  pub broken : makeable (take (at + 1) path) ≡ false

-- Which limit a path breaks at a place, by the byte that stands there.
abbrev pub limit_at : Bytes → ℕ → Limit
limit_at path at = cond (nat_le 255 at) L.Bytes (cond (slice_index path at == 47) L.Elements L.Element)

pub record TooLarge (path : Bytes) (at : ℕ) (limit : Limit) : Type 0 where
  pub valid : valid_path path ≡ true
  pub place : Unmakeable path at
  pub which : limit ≡ limit_at path at

-- A refusal tells the first that is wrong: the path, its limits, the interface's name.
abbrev pub Told : Bytes → Bytes → Fault → Type 0
Told path w (F.Path e) = Refusal Path path e
Told path w (F.Limit at limit) = TooLarge path at limit
Told path w (F.Interface e) = Refusal Name w e
