use Rattle.std.proofs.Common.{rules, IsUtf8}
use Rattle.std.proofs.lemmas.Str.{IsUtf8-from_ascii}
use Rattle.effects.specs.Values.{text_of}
use Rattle.effects.proofs.Alls.{plain-ascii}
use Rattle.effects.proofs.text.Text.as_str.Goals as goal

pub unwrap-requires : goal.unwrap-requires
unwrap-requires c =
    let ascii : IsUtf8 (text_of c.args.self.now) = IsUtf8-from_ascii _ (plain-ascii _ c.args.self.now.shown) in
    search rules
