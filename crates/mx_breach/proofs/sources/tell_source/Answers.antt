use Rattle.std.proofs.Common.{Err, ap, inl}
use Rattle.mx_breach.proofs.SourceLaws.{told_at, bad_at, due_at, due_beyond}
use Rattle.mx_breach.proofs.sources.tell_source.Goals as goal

pub returns-in-Ok-tell_bytes-clause-told : goal.returns-in-Ok-tell_bytes-clause-told
returns-in-Ok-tell_bytes-clause-told g c = λ zero.
    told_at _ _ _ _ _ _ (rw c.deref.ensures.value c.in-Ok.ensures.all) (rw c.deref.ensures.value c.in-Ok.ensures.within)
    c.in-Ok-tell_bytes.ensures.told zero

pub returns-in-Ok-tell_bytes-clause-bad_line : goal.returns-in-Ok-tell_bytes-clause-bad_line
returns-in-Ok-tell_bytes-clause-bad_line g c = λ five.
    bad_at _ _ _ _ _ _ (rw c.deref.ensures.value c.in-Ok.ensures.all) (rw c.deref.ensures.value c.in-Ok.ensures.within)
    c.in-Ok-tell_bytes.ensures.told five

pub returns-in-Ok-tell_bytes-clause-due : goal.returns-in-Ok-tell_bytes-clause-due
returns-in-Ok-tell_bytes-clause-due g c = λ spelled is.
    due_at spelled c.deref.result.now (g.S.Source.left c.args.source.now) (g.S.Source.left c.read_all.new.source)
    (g.K.Sink.out c.args.sink.now) (g.K.Sink.out c.tell_bytes.new.sink) c.in-Ok-tell_bytes.status
    (rw c.deref.ensures.value c.in-Ok.ensures.all) (rw c.deref.ensures.value c.in-Ok.ensures.within) c.in-Ok-tell_bytes.ensures.told is

pub returns-in-Err-TooLong-clause-front : goal.returns-in-Err-TooLong-clause-front
returns-in-Err-TooLong-clause-front g c = λ four.
    inl (c.in-Err-TooLong.ensures.too_long (ap Err c.in-Err-TooLong.field-0-is), c.tell_too_long.ensures.part four)

pub returns-in-Err-TooLong-clause-due : goal.returns-in-Err-TooLong-clause-due
returns-in-Err-TooLong-clause-due g c = λ spelled is.
    due_beyond spelled _ _ _ (c.in-Err-TooLong.ensures.too_long (ap Err c.in-Err-TooLong.field-0-is)) c.tell_too_long.ensures.told is
