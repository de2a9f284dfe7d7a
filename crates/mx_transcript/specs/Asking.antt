-- What a line asks for next: the one function that says how lines go.
use Rattle.std.specs.Prelude.{List, [], Option, Some, None}
use Rattle.mx_upcall.specs.Control.{Control, with_registers}
use Rattle.mx_request.specs.declared.replies.Reply.{Reply}
use Rattle.mx_request.specs.declared.replies.Reply.TheVariants as reply
use Rattle.mx_request.specs.declared.requests.Request.{Request}
use Rattle.mx_request.specs.declared.requests.Request.TheVariants.{Block, Resume}
use Rattle.mx_script.specs.declared.lines.Line.{Line}
use Rattle.mx_script.specs.declared.lines.Line.TheVariants.{Ask, Set, Epp, Lda, Sta, Spri, Fetch, Call, Return}
use Rattle.mx_transcript.specs.declared.transcripts.Result2.{Result2}
use Rattle.mx_transcript.specs.declared.transcripts.Result2.TheVariants as result
use Rattle.mx_transcript.specs.Attempts.{attempt}
use Rattle.mx_transcript.specs.Courses.{Course, Attempt, Answer, Judged}
use Rattle.mx_transcript.specs.Filling.{due}
use Rattle.mx_transcript.specs.Next.{Next, Reference, Fills, Calls, Ends, Nowhere}

-- a request is a call in the current ring; `set` needs nothing; the other lines refer to memory
abbrev pub attempts : Control → Line → List Judged → Next
attempts control (Ask request) seen = Calls control.registers.ring request
attempts control (Set word) seen = Ends result.Done (with_registers control (record control.registers { a = word }))
attempts control line seen = attempt control line seen

-- a line ends as refused exactly where its last reply is a refusal; after `linked` and `waiting` no line ends
abbrev pub result_of : Reply → Result2
result_of (reply.Refused why) = result.Refused
result_of reply.Done = result.Done
result_of (reply.Status status) = result.Done
result_of (reply.Names names) = result.Done
result_of (reply.Segno known) = result.Done
result_of (reply.Linked segno word fresh linkage) = result.Done
result_of reply.Sent = result.Done
result_of (reply.Message sender word) = result.Done
result_of reply.Nobody = result.Done
result_of reply.Waiting = result.Done

-- a process that was told to wait after its `block` resumes; nobody else is told so
abbrev pub awaits : Control → Request → Next
awaits control Block = Calls control.registers.ring Resume
awaits control _ = Nowhere

-- a request's line ends with the reply to its last call, but does not end where that is `waiting`; no line of a session
-- asks to have a link snapped
abbrev pub replied : Control → Request → Reply → Next
replied control request reply.Waiting = awaits control request
replied control request (reply.Linked segno word fresh linkage) = Nowhere
replied control request given = Ends (result_of given) control

-- A memory line calls to have a link snapped: where that is refused it ends so, and where the link was snapped it begins
-- anew; no other reply comes.
abbrev pub linked : Control → Line → Reply → Next
linked control line (reply.Refused why) = Ends result.Refused control
linked control line (reply.Linked segno word fresh linkage) = attempts control line []
linked control line reply.Done = Nowhere
linked control line (reply.Status status) = Nowhere
linked control line (reply.Names names) = Nowhere
linked control line (reply.Segno known) = Nowhere
linked control line reply.Sent = Nowhere
linked control line (reply.Message sender word) = Nowhere
linked control line reply.Nobody = Nowhere
linked control line reply.Waiting = Nowhere

-- after the reply to this call
abbrev pub answered : Control → Line → Request → Reply → Next
answered control (Ask asked) request given = replied control request given
answered control (Set word) request given = Nowhere
answered control (Epp number operand) request given = linked control (Epp number operand) given
answered control (Lda operand) request given = linked control (Lda operand) given
answered control (Sta operand) request given = linked control (Sta operand) given
answered control (Spri number operand) request given = linked control (Spri number operand) given
answered control Fetch request given = linked control Fetch given
answered control (Call operand) request given = linked control (Call operand) given
answered control (Return operand) request given = linked control (Return operand) given

-- the writes that a reply asks for come first
abbrev pub first_due : Option Reference → Next → Next
first_due (Some reference) onward = Fills reference
first_due None onward = onward

-- what a line asks for, after what it has done so far
abbrev pub next : Control → Line → Course → Next
next control line (Attempt seen) = attempts control line seen
next control line (Answer entry filled) = first_due (due entry filled) (answered control line entry.request entry.reply)
