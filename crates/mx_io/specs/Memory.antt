-- The source and the sink in memory: what they hold, what a call answers, and what they hold after it.
use Rattle.std.specs.Prelude.{ℕ, ◌-◌, ◌==◌, min, Bool, if◌then◌else◌, ◌||◌, List, ◌++◌, length, take, drop}
use Rattle.std.specs.List.{list_any}
use Rattle.mx_io.specs.Faults.{one_more}
use Rattle.mx_io.specs.declared.source.Got.{Got}
use Rattle.mx_io.specs.declared.source.Got.TheVariants as got
use Rattle.mx_io.specs.declared.sink.Put.{Put}
use Rattle.mx_io.specs.declared.sink.Put.TheVariants as put

-- the calls: the numbers, from 0, of those that are to fault, how many were made, and how many faulted
pub record CallLog : Type 0 where
  pub fails : List ℕ
  pub made : ℕ
  pub faults : ℕ

-- the next call is to fault
abbrev pub is_failing : CallLog → Bool
is_failing calls = list_any (λ number. number == calls.made) calls.fails

-- one call more
abbrev pub called : CallLog → CallLog
called calls = record calls { made = one_more calls.made }

-- one call more, which faulted
abbrev pub faulted : CallLog → CallLog
faulted calls = record calls { made = one_more calls.made; faults = one_more calls.faults }

-- a source: the bytes still to come, the most that a call gives, and its calls
pub record SourceState : Type 0 where
  pub left : List ℕ
  pub piece : ℕ
  pub calls : CallLog

abbrev pub read_answer : SourceState → ℕ → Got
read_answer source room =
    if is_failing source.calls then got.Fault
    else if length source.left == 0 then got.End
    else got.Bytes (min (min source.piece room) (length source.left))

abbrev pub after_read : SourceState → Got → SourceState
after_read source (got.Bytes count) = record source { left = drop count source.left; calls = called source.calls }
after_read source got.End = record source { calls = called source.calls }
after_read source got.Fault = record source { calls = faulted source.calls }

-- a sink: the bytes taken, the room that is left, the most bytes that a call takes, and its calls
pub record SinkState : Type 0 where
  pub out : List ℕ
  pub room : ℕ
  pub piece : ℕ
  pub calls : CallLog

abbrev pub write_answer : SinkState → ℕ → Put
write_answer sink offered =
    if is_failing sink.calls || sink.room == 0 then put.Fault
    else put.Bytes (min (min sink.piece sink.room) offered)

abbrev pub after_write : SinkState → List ℕ → Put → SinkState
after_write sink bytes (put.Bytes count) =
    record sink { out = sink.out ++ take count bytes; room = sink.room - count; calls = called sink.calls }
after_write sink bytes put.Fault = record sink { calls = faulted sink.calls }
