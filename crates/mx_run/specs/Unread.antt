-- Helpers that only private contracts cite: what comes of a source that was not read to its end, and of bytes of which no session was read.
use Rattle.std.specs.Prelude.{Result, Ok, Err}
use Rattle.mx_io.specs.declared.reading.ReadError.{ReadError}
use Rattle.mx_io.specs.declared.reading.ReadError.TheVariants as reading
use Rattle.mx_script.specs.declared.reading.SessionError.{SessionError}
use Rattle.mx_script.specs.declared.reading.SessionError.TheVariants as session
use Rattle.mx_run.specs.declared.verdicts.Unreached.{Unreached}
use Rattle.mx_run.specs.declared.verdicts.Unreached.TheVariants.{Fault, Memory}
use Rattle.mx_run.specs.declared.verdicts.Verdict.{Verdict}
use Rattle.mx_run.specs.declared.verdicts.Verdict.TheVariants.{BadLine, TooLong}

abbrev pub unread : ReadError → Result Verdict Unreached
unread reading.Fault = Err Fault
unread reading.TooLong = Ok TooLong
unread reading.Memory = Err Memory

abbrev pub no_session : SessionError → Result Verdict Unreached
no_session (session.BadLine number) = Ok (BadLine number)
no_session session.Memory = Err Memory
