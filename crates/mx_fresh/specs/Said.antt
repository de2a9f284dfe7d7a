-- Helpers: what is answered where a request on the hierarchy was done, or refused.
use Rattle.std.specs.Prelude.{◌≡◌, Option, Some, None, Result, Ok, Err, IsErr}
use Rattle.std.specs.declared.alloc.AllocError.{AllocError}
use Rattle.mx_hier.specs.declared.refusals.HierError.{HierError}
use Rattle.mx_hier.specs.declared.refusals.HierError.TheVariants as given
use Rattle.mx_pages.specs.declared.pages.PageRun.{PageRun}
use Rattle.mx_request.specs.declared.replies.Reply.{Reply}
use Rattle.mx_request.specs.declared.replies.Reply.TheVariants.{Done, Refused}
use Rattle.mx_fresh.specs.declared.answered.Answered.{Answered}
use Rattle.mx_fresh.specs.declared.answered.Runs.{Runs}

-- a reply, and the run that was given out; none was freed
abbrev pub giving : Reply → Option PageRun → Answered
giving reply given = record { reply = reply; given = given; freed = None }

-- a reply, and the run that was freed; none was given out
abbrev pub freeing : Reply → Option PageRun → Answered
freeing reply freed = record { reply = reply; given = None; freed = freed }

-- a reply, and the runs that were given out and freed
abbrev pub moving : Reply → Runs → Answered
moving reply runs = record { reply = reply; given = runs.given; freed = runs.freed }

abbrev pub no_runs : Runs
no_runs = record { given = None; freed = None }

abbrev pub runs_given : PageRun → Runs
runs_given run = record { given = Some run; freed = None }

abbrev pub runs_freed : Option PageRun → Runs
runs_freed run = record { given = None; freed = run }

-- a reply alone
abbrev pub alone : Reply → Answered
alone reply = giving reply None

-- the same where memory may have been wanting
abbrev pub said : Result Reply AllocError → Result Answered AllocError
said (Ok reply) = Ok (alone reply)
said (Err error) = Err error

-- done, where these runs were given out and freed, or refused; want of memory is no answer
abbrev pub SaysDone : Result Runs HierError → Result Answered AllocError → Type 0
SaysDone (Ok runs) result = result ≡ Ok (moving Done runs)
SaysDone (Err (given.Refused why)) result = result ≡ Ok (alone (Refused why))
SaysDone (Err given.Memory) result = IsErr result

-- what gives out no page, and frees none
abbrev pub with_no_runs : Result (Unit {0}) HierError → Result Runs HierError
with_no_runs (Ok done) = Ok no_runs
with_no_runs (Err error) = Err error

-- what frees a run, or none
abbrev pub with_freed : Result (Option PageRun) HierError → Result Runs HierError
with_freed (Ok run) = Ok (runs_freed run)
with_freed (Err error) = Err error
