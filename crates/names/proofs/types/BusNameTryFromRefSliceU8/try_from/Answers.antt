use Rattle.std.proofs.Common.{◌≡◌, true, false, sym}
use Rattle.std.proofs.lemmas.Result.{err_from_is_err_and}
use Rattle.names.specs.Buses.{colon_first}
use Rattle.names.proofs.Leads.{no-colon, colon-known, refused_as}
use Rattle.names.proofs.types.BusNameTryFromRefSliceU8.try_from.Goals as goal

pub returns-in_err-try_from : goal.returns-in_err-try_from
returns-in_err-try_from c =
    let s = c.args.bytes.now in
    let colon : colon_first s ≡ true = sym c.if-colon_first.ensures in
    let p = err_from_is_err_and c.from_residual.result c.from_residual.ensures.1 in
    rw (p.1, p.2) (
      record {
        answer = rw (sym c.in_err-try_from.ensures.answer, colon-known s colon);
        value = tt;
        fault = refused_as s _ true colon c.in_err-try_from.ensures.fault;
      },
      tt,
    )

pub returns-in_err-try_from-2 : goal.returns-in_err-try_from-2
returns-in_err-try_from-2 c =
    let s = c.args.bytes.now in
    let colon : colon_first s ≡ false = sym c.if-colon_first.ensures in
    let p = err_from_is_err_and c.from_residual-in_err-try_from-2.result c.from_residual-in_err-try_from-2.ensures.1 in
    rw (p.1, p.2) (
      record {
        answer = rw (sym c.in_err-try_from-2.ensures.answer, no-colon s colon);
        value = tt;
        fault = refused_as s _ false colon c.in_err-try_from-2.ensures.fault;
      },
      tt,
    )
