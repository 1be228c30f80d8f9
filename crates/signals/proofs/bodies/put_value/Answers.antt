use Rattle.std.proofs.Common.{sym, ap, ◌∙◌, rules}
use Rattle.effects.specs.Values.{code_of, seen}
use Rattle.outbox.specs.Marshal.{put_i32, put_string}
use Rattle.outbox.specs.Pours.{Poured}
use Rattle.signals.proofs.Pieces.{plain_value, value-put, value-stops, poured-fails}
use Rattle.signals.proofs.bodies.put_value.Goals as goal

pub returns-in_err-at : goal.returns-in_err-at
returns-in_err-at c =
    poured-fails _ _ _ _ _ c.from_residual.ensures.0 (λ e. value-stops _ _ _ _ _ (c.code.ensures ∙ ap code_of c.value_signature.ensures) _ _ c.in_err-at.ensures.wrote)

pub returns-in-Bool : goal.returns-in-Bool
returns-in-Bool c =
    value-put _ _ _ _ _ _ (c.code.ensures ∙ ap code_of c.value_signature.ensures) _ _ _ (ap (λ v. plain_value (seen v)) (sym c.in-Bool.is)) c.in_ok-at.ensures.wrote c.put_bool.ensures.wrote

pub returns-in-I32 : goal.returns-in-I32
returns-in-I32 c =
    let wrote : Poured c.open_variant.new.bytes c.in_ok-at.at c.put_i32.new.bytes c.put_i32.result (put_i32 c.in-I32.n) = search rules in
    value-put _ _ _ _ _ _ (c.code.ensures ∙ ap code_of c.value_signature.ensures) _ _ _ (ap (λ v. plain_value (seen v)) (sym c.in-I32.is)) c.in_ok-at.ensures.wrote wrote

pub returns-in-U32 : goal.returns-in-U32
returns-in-U32 c =
    value-put _ _ _ _ _ _ (c.code.ensures ∙ ap code_of c.value_signature.ensures) _ _ _ (ap (λ v. plain_value (seen v)) (sym c.in-U32.is)) c.in_ok-at.ensures.wrote c.put_u32.ensures.wrote

pub returns-in-Str : goal.returns-in-Str
returns-in-Str c =
    value-put _ _ _ _ _ _ (c.code.ensures ∙ ap code_of c.value_signature.ensures) _ _ _ (ap put_string c.as_bytes.ensures ∙ ap (λ v. plain_value (seen v)) (sym c.in-Str.is)) c.in_ok-at.ensures.wrote c.put_string.ensures.wrote
