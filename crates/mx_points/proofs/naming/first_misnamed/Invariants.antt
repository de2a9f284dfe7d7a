use Rattle.std.proofs.Common.{◌≡◌, ◌++◌, take}
use Rattle.mx_transcript.specs.Transcripts.{entries_named, events_of, numbers_of}
use Rattle.mx_points.specs.Own.{own_from}
use Rattle.mx_points.proofs.naming.first_misnamed.Given as goal

-- the lines before name the first of the process's entries, and the rest are from here on
abbrev pub invariant-loop-place : goal.invariant-loop-place
invariant-loop-place l = numbers_of l.p l.journal ≡ entries_named (events_of (take l.place l.lines)) ++ own_from l.p l.journal l.from
