use Rattle.std.proofs.Common.{Err, ap, inl, inr}
use Rattle.mx_explain.proofs.StatusLaws.{done_at, refused_at, text_of_reading, reading_of, due_bad, front_of_text, due_of_text, due_too_long, due_of_source, drill_front, reading_or_breach}
use Rattle.mx_explain.proofs.commands.show.Goals as goal

pub returns-in-Ok-tell-clause-done : goal.returns-in-Ok-tell-clause-done
returns-in-Ok-tell-clause-done g c = λ zero.
    done_at c.in-Read.reading _ _ _ _ _ _ _ c.in-Read.ensures (rw c.deref.ensures.value c.in-Ok.ensures.all)
    (rw c.deref.ensures.value c.in-Ok.ensures.within) c.in-Ok-tell.ensures.told zero

pub returns-in-Ok-tell-clause-due : goal.returns-in-Ok-tell-clause-due
returns-in-Ok-tell-clause-due g c = λ spelled is.
    due_of_text c.in-Read.reading _ spelled c.deref.result.now (g.S.Source.left c.args.source.now) (g.S.Source.left c.read_all.new.source)
    (g.K.Sink.out c.args.sink.now) (g.K.Sink.out c.tell.new.sink) c.in-Ok-tell.status c.in-Read.ensures (rw c.deref.ensures.value c.in-Ok.ensures.all)
    (rw c.deref.ensures.value c.in-Ok.ensures.within) c.in-Ok-tell.ensures.told is

pub returns-in-Err-Fault-tell-clause-front : goal.returns-in-Err-Fault-tell-clause-front
returns-in-Err-Fault-tell-clause-front g c = λ four.
    front_of_text c.in-Read.reading _ _ _ _ _ _ c.in-Read.ensures (rw c.deref.ensures.value c.in-Ok.ensures.all)
    (rw c.deref.ensures.value c.in-Ok.ensures.within) (c.in-Err-Fault-tell.ensures.front (ap Err c.in-Err-Fault-tell.field-0-is))

pub returns-in-Err-TooLong-clause-due : goal.returns-in-Err-TooLong-clause-due
returns-in-Err-TooLong-clause-due g c = λ spelled is.
    due_too_long c.in-Read.reading _ spelled _ _ _ c.in-Read.ensures (c.in-Err-TooLong.ensures.too_long (ap Err c.in-Err-TooLong.field-0-is))
    c.told.ensures.told is

pub returns-in-Err-TooLong-clause-run_too_long : goal.returns-in-Err-TooLong-clause-run_too_long
returns-in-Err-TooLong-clause-run_too_long g c = λ six asked. absurd (reading_or_breach c.in-Read.reading _ c.in-Read.ensures asked)

pub returns-in-Breach-clause-front : goal.returns-in-Breach-clause-front
returns-in-Breach-clause-front g c = λ four. inr (inl (c.in-Breach.ensures, c.tell_source.ensures.front four))

pub returns-in-Breach-clause-due : goal.returns-in-Breach-clause-due
returns-in-Breach-clause-due g c = λ spelled is.
    due_of_source _ spelled c.tell_source.result c.in-Breach.ensures (c.tell_source.ensures.due spelled is)

pub returns-in-Ok-drill_text-clause-front : goal.returns-in-Ok-drill_text-clause-front
returns-in-Ok-drill_text-clause-front g c = λ four.
    drill_front _ c.in-Drill.number _ _ _ _ _ _ c.in-Drill.ensures c.items.ensures c.in-Ok-drill_text.ensures (c.told-in-Ok-drill_text.ensures.part four)

pub returns-in-Ok-tell-clause-bad_line : goal.returns-in-Ok-tell-clause-bad_line
returns-in-Ok-tell-clause-bad_line g c = λ five.
    refused_at c.in-Read.reading _ _ _ _ _ _ _ c.in-Read.ensures (rw c.deref.ensures.value c.in-Ok.ensures.all)
    (rw c.deref.ensures.value c.in-Ok.ensures.within) c.in-Ok-tell.ensures.told five

pub returns-in-Ok-tell-clause-refused : goal.returns-in-Ok-tell-clause-refused
returns-in-Ok-tell-clause-refused g c = λ other. absurd (other (inl (reading_of c.in-Read.reading _ c.in-Read.ensures)))

pub returns-in-Ok-clause-refused : goal.returns-in-Ok-clause-refused
returns-in-Ok-clause-refused g c = λ other. absurd (other (inl (reading_of c.in-Read.reading _ c.in-Read.ensures)))

pub returns-in-Err-TooLong-clause-refused : goal.returns-in-Err-TooLong-clause-refused
returns-in-Err-TooLong-clause-refused g c = λ other. absurd (other (inl (reading_of c.in-Read.reading _ c.in-Read.ensures)))

pub returns-in-Err-Fault-clause-refused : goal.returns-in-Err-Fault-clause-refused
returns-in-Err-Fault-clause-refused g c = λ other. absurd (other (inl (reading_of c.in-Read.reading _ c.in-Read.ensures)))

pub returns-in-Read-clause-refused : goal.returns-in-Read-clause-refused
returns-in-Read-clause-refused g c = λ other. absurd (other (inl (reading_of c.in-Read.reading _ c.in-Read.ensures)))

pub returns-in-Ok-tell-clause-unread : goal.returns-in-Ok-tell-clause-unread
returns-in-Ok-tell-clause-unread g c = λ other. absurd (other (reading_of c.in-Read.reading _ c.in-Read.ensures))

pub returns-in-Err-Fault-tell-clause-unread : goal.returns-in-Err-Fault-tell-clause-unread
returns-in-Err-Fault-tell-clause-unread g c = λ other. absurd (other (reading_of c.in-Read.reading _ c.in-Read.ensures))

pub returns-in-Ok-clause-unread : goal.returns-in-Ok-clause-unread
returns-in-Ok-clause-unread g c = λ other. absurd (other (reading_of c.in-Read.reading _ c.in-Read.ensures))

pub returns-in-Err-TooLong-clause-unread : goal.returns-in-Err-TooLong-clause-unread
returns-in-Err-TooLong-clause-unread g c = λ other. absurd (other (reading_of c.in-Read.reading _ c.in-Read.ensures))

pub returns-in-Err-Fault-clause-unread : goal.returns-in-Err-Fault-clause-unread
returns-in-Err-Fault-clause-unread g c = λ other. absurd (other (reading_of c.in-Read.reading _ c.in-Read.ensures))

pub returns-in-Read-clause-unread : goal.returns-in-Read-clause-unread
returns-in-Read-clause-unread g c = λ other. absurd (other (reading_of c.in-Read.reading _ c.in-Read.ensures))

pub returns-in-Err-TooLong-clause-front : goal.returns-in-Err-TooLong-clause-front
returns-in-Err-TooLong-clause-front g c = λ four.
    inl (
      text_of_reading c.in-Read.reading _ c.in-Read.ensures,
      inl (c.in-Err-TooLong.ensures.too_long (ap Err c.in-Err-TooLong.field-0-is), c.told.ensures.part four),
    )

pub returns-clause-due : goal.returns-clause-due
returns-clause-due g c = λ spelled is. due_bad _ spelled _ c.in-Other.ensures c.told-in-Other.ensures.told
