-- The denials: their numbers, their names, and the order in which they are tried.
use Rattle.std.specs.Prelude.{ℕ, List, [], ◌∷◌, codes}
use Rattle.mx_sdw.specs.declared.denials.Denial.{Denial}
use Rattle.mx_sdw.specs.declared.denials.Denial.TheVariants.{UnknownSegment, NoSegment, OutOfBounds, AimRead, AimWrite, NotReadable, ReadBracket, NotWritable, WriteBracket, NotExecutable, ExecuteBracket, CallBracket, UpwardCall, Gate, RaisedRing, BadReturn, NotPointer, IndirectLimit}

-- the denials of the judging rule, in the order in which they are tried
abbrev pub judging_order : List Denial
judging_order =
    UnknownSegment ∷ NoSegment ∷ OutOfBounds
    ∷ AimRead ∷ AimWrite
    ∷ NotReadable ∷ ReadBracket
    ∷ NotWritable ∷ WriteBracket
    ∷ NotExecutable ∷ ExecuteBracket
    ∷ CallBracket ∷ UpwardCall ∷ Gate ∷ RaisedRing
    ∷ BadReturn ∷ []

abbrev pub denial_number : Denial → ℕ
denial_number UnknownSegment = 1
denial_number NoSegment = 2
denial_number OutOfBounds = 3
denial_number NotReadable = 4
denial_number ReadBracket = 5
denial_number NotWritable = 6
denial_number WriteBracket = 7
denial_number NotExecutable = 8
denial_number ExecuteBracket = 9
denial_number CallBracket = 10
denial_number UpwardCall = 11
denial_number Gate = 12
denial_number RaisedRing = 13
denial_number BadReturn = 14
denial_number NotPointer = 15
denial_number IndirectLimit = 16
denial_number AimRead = 17
denial_number AimWrite = 18

abbrev pub denial_text : Denial → List ℕ
denial_text UnknownSegment = codes "unknown_segment"
denial_text NoSegment = codes "no_segment"
denial_text OutOfBounds = codes "out_of_bounds"
denial_text NotReadable = codes "not_readable"
denial_text ReadBracket = codes "read_bracket"
denial_text NotWritable = codes "not_writable"
denial_text WriteBracket = codes "write_bracket"
denial_text NotExecutable = codes "not_executable"
denial_text ExecuteBracket = codes "execute_bracket"
denial_text CallBracket = codes "call_bracket"
denial_text UpwardCall = codes "upward_call"
denial_text Gate = codes "gate"
denial_text RaisedRing = codes "raised_ring"
denial_text BadReturn = codes "bad_return"
denial_text NotPointer = codes "not_pointer"
denial_text IndirectLimit = codes "indirect_limit"
denial_text AimRead = codes "aim_read"
denial_text AimWrite = codes "aim_write"
