-- The lines that wait are right, by computation, and each wrong one is refused.
use Rattle.std.proofs.Common.{◌≡◌, ℕ, true, false, List, [], ◌∷◌, refl, Some, arith}
use Rattle.mx_upcall.specs.Control.{Control, ungated}
use Rattle.mx_request.specs.declared.requests.Request.TheVariants.{Block, Resume}
use Rattle.mx_state.specs.declared.journal.Entry as journaled
use Rattle.mx_transcript.specs.declared.transcripts.Event2.{Event2}
use Rattle.mx_transcript.specs.declared.transcripts.Event2.TheVariants.{Entry}
use Rattle.mx_transcript.specs.declared.transcripts.Result2.{Result2}
use Rattle.mx_transcript.specs.declared.transcripts.Result2.TheVariants as result
use Rattle.mx_transcript.specs.Asking.{next}
use Rattle.mx_transcript.specs.Courses.{Course, Attempt, Answer}
use Rattle.mx_transcript.specs.Lines.{Goes, IsEnd}
use Rattle.mx_transcript.specs.Next.{Calls, Ends, Nowhere}
use Rattle.mx_transcript.specs.Settings.{Setting, entry_at}
use Rattle.mx_transcript.specs.Scripts.{lines_of}
use Rattle.mx_transcript.proofs.EventByEvent as event
use Rattle.mx_transcript.proofs.PartLines.{all_done}
use Rattle.mx_transcript.specs.WaitingLines.{blocked, resumed, waits_on, alone, other, setting, g, block, limited, RightWaits, WrongWaits, LimitLines}

abbrev s : Setting
s = setting false

abbrev start : Control
start = ungated g

-- the call that comes next, and the rest of the line
peel : (before : Course) (number : ℕ) (entry : journaled.Entry) (events : List Event2) (course : Course)
    → entry_at s.journal number ≡ Some entry → Goes s start block before (Entry number ∷ events) course
    → (next start block before ≡ Calls entry.ring entry.request) × (entry.process ≡ 1)
    × Goes s start block (Answer entry []) events course
peel before number entry events course there goes =
    event.peel_call s start block before number entry events course there goes

-- the end of a line that has no further event
at_end : (after : Control) (before course : Course) (ends : Result2) → Goes s start block before [] course
    → IsEnd s start (next start block course) ends after → IsEnd s start (next start block before) ends after
at_end after before course ends goes end = event.at_end s start block after before course ends goes end

-- a call by an entry, that the line asks for
called : (t : Setting) (before : Course) (number : ℕ) (entry : journaled.Entry) (events : List Event2) (course : Course)
    → entry_at t.journal number ≡ Some entry → entry.process ≡ t.process
    → next start block before ≡ Calls entry.ring entry.request → Goes t start block (Answer entry []) events course
    → Goes t start block before (Entry number ∷ events) course
called t before number entry events course there maker asks goes =
    event.called t start block before number entry events course there maker asks goes

pub right_waits : RightWaits
right_waits = record {
  waited = record {
    course = Answer resumed [];
    so_far = called s (Attempt []) 1 blocked (Entry 2 ∷ []) (Answer resumed []) refl refl refl
        (called s (Answer blocked []) 2 resumed [] (Answer resumed []) refl refl refl refl);
    end = (refl, refl);
  };
  waited_full = record {
    course = Answer blocked [];
    so_far = called (setting true) (Attempt []) 1 blocked [] (Answer blocked []) refl refl refl refl;
    end = (refl, refl, refl);
  };
  told = record {
    course = Answer alone [];
    so_far = called s (Attempt []) 4 alone [] (Answer alone []) refl refl refl refl;
    end = (refl, refl);
  };
  full = record { course = Attempt []; so_far = refl; end = (refl, refl, refl) };
}

pub wrong_waits : WrongWaits
wrong_waits = record {
  unresumed = λ after is.
      let rest = (peel (Attempt []) 1 blocked [] is.course refl is.so_far).2 in
      let end : IsEnd s start (Calls 4 Resume) result.Done after =
      at_end after (Answer blocked []) is.course result.Done rest is.end in
      let w : false ≡ true = end.0 in cc;
  below_limit = λ after is.
      let rest = (peel (Attempt []) 1 blocked [] is.course refl is.so_far).2 in
      let end : IsEnd s start (Calls 4 Resume) result.HistoryFull after =
      at_end after (Answer blocked []) is.course result.HistoryFull rest is.end in
      let w : false ≡ true = end.0 in cc;
  not_told_to_wait = λ after is.
      let rest = (peel (Attempt []) 4 alone (Entry 2 ∷ []) is.course refl is.so_far).2 in
      let w : Ends result.Done start ≡ Calls 4 Resume = (peel (Answer alone []) 2 resumed [] is.course refl rest).0 in cc;
  not_blocked = λ after is.
      let w : Calls 4 Block ≡ Calls 4 Resume = (peel (Attempt []) 2 resumed [] is.course refl is.so_far).0 in cc;
  still_waiting = λ after is.
      let rest = (peel (Attempt []) 1 blocked (Entry 3 ∷ []) is.course refl is.so_far).2 in
      let last = (peel (Answer blocked []) 3 waits_on [] is.course refl rest).2 in
      at_end after (Answer waits_on []) is.course result.Done last is.end;
  twice = λ after is.
      let rest = (peel (Attempt []) 1 blocked (Entry 3 ∷ Entry 2 ∷ []) is.course refl is.so_far).2 in
      let last = (peel (Answer blocked []) 3 waits_on (Entry 2 ∷ []) is.course refl rest).2 in
      let w : Nowhere ≡ Calls 4 Resume = (peel (Answer waits_on []) 2 resumed [] is.course refl last).0 in cc;
  others_entry = λ after is.
      let rest = (peel (Attempt []) 1 blocked (Entry 5 ∷ []) is.course refl is.so_far).2 in
      let w : 2 ≡ 1 = (peel (Answer blocked []) 5 other [] is.course refl rest).1 in omega arith;
  blocked_twice = λ after is.
      let rest = (peel (Attempt []) 1 blocked (Entry 1 ∷ []) is.course refl is.so_far).2 in
      let w : Calls 4 Resume ≡ Calls 4 Block = (peel (Answer blocked []) 1 blocked [] is.course refl rest).0 in cc;
}

pub limit_lines : LimitLines
limit_lines = record {
  session = refl;
  first = refl;
  second = refl;
  not_moved = λ after are.
      let done = all_done (setting true) start after (lines_of limited 1)
      ((3, [], result.HistoryFull) ∷ (4, [], result.HistoryFull) ∷ []) refl are in
      let w : 3 ≡ 4 = done.0 in omega arith;
}
