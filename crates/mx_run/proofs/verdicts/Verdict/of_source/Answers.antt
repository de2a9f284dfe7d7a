use Rattle.mx_audit.proofs.AccountLaws.{grown_none}
use Rattle.mx_io.specs.declared.reading.ReadError.TheVariants as reading
use Rattle.std.proofs.Common.{◌≡◌, Err, ap, refl}
use Rattle.mx_run.proofs.VerdictLaws.{fault_unread, of_read_ok, unread_fault, unread_right}
use Rattle.mx_run.proofs.verdicts.Verdict.of_source.Goals as goal

pub returns-in-Err-clause-right : goal.returns-in-Err-clause-right
returns-in-Err-clause-right g c =
    unread_right _ _ _ c.in-Err.error c.unread.result c.unread.ensures (λ is. c.in-Err.ensures.too_long (ap Err is))

pub returns-in-Err-clause-grown : goal.returns-in-Err-clause-grown
returns-in-Err-clause-grown g c = grown_none _

pub returns-in-Err-clause-cause : goal.returns-in-Err-clause-cause
returns-in-Err-clause-cause g c = λ failed.
    c.in-Err.ensures.cause (ap Err (unread_fault c.in-Err.error c.unread.result c.unread.ensures failed))

pub returns-in-Err-clause-only : goal.returns-in-Err-clause-only
returns-in-Err-clause-only g c = λ sound.
    c.in-Err.ensures.only (λ is.
    let same : c.in-Err.error ≡ reading.Fault = cc in
    sound (fault_unread c.in-Err.error c.unread.result c.unread.ensures same))

pub returns-in-Ok-clause-right : goal.returns-in-Ok-clause-right
returns-in-Ok-clause-right g c =
    of_read_ok _ _ _ c.in-Ok.bytes.items _ _ c.of_bytes.result refl c.in-Ok.ensures.all c.in-Ok.ensures.within
    c.of_bytes.ensures.right
