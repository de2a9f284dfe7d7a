-- The line of a request whose reply ends it has one entry, or found the journal full.
use Rattle.std.proofs.Common.{◌≡◌, ◌⊎◌, inl, inr, ℕ, List, [], ◌∷◌, Some, refl, subst}
use Rattle.mx_upcall.specs.Control.{Control}
use Rattle.mx_core.specs.declared.elements.Event.TheVariants.{Seen, Missing}
use Rattle.mx_request.specs.declared.requests.Request.{Request}
use Rattle.mx_state.specs.declared.journal.Entry as journaled
use Rattle.mx_script.specs.declared.lines.Line.TheVariants.{Ask}
use Rattle.mx_transcript.specs.declared.transcripts.Event2.{Event2}
use Rattle.mx_transcript.specs.declared.transcripts.Event2.TheVariants.{Core, Entry}
use Rattle.mx_transcript.specs.declared.transcripts.Result2.{Result2}
use Rattle.mx_transcript.specs.declared.transcripts.Result2.TheVariants as result
use Rattle.mx_transcript.specs.Asking.{next}
use Rattle.mx_transcript.specs.Courses.{Course, Attempt, Answer}
use Rattle.mx_transcript.specs.Events.{IsEvent}
use Rattle.mx_transcript.specs.Lines.{IsEnd, IsLine}
use Rattle.mx_transcript.specs.Next.{Next, Ends}
use Rattle.mx_transcript.specs.Settings.{Setting, entry_at}
use Rattle.mx_transcript.proofs.FinalReplies.{IsFinal, final_ends}

pub record HasEntry (events : List Event2) : Type 0 where
  pub number : ℕ
  pub event : events ≡ Entry number ∷ []

pub record IsFullLine (events : List Event2) (ends : Result2) : Type 0 where
  pub event : events ≡ []
  pub ended : ends ≡ result.HistoryFull

-- after its end a line has no event
no_event : (s : Setting) (asks : Next) (before : Course) (event : Event2) (after : Course) (ends : Result2)
    (left : Control) → asks ≡ Ends ends left → IsEvent s asks before event after → ⊥
no_event s asks before (Core (Seen e)) after ends left ended is = elim is [
  | inl made ↦ let n = made.next in cc
  | inr made ↦ let n = made.next in cc
]
no_event s asks before (Core (Missing segno by)) after ends left ended is = let n = is.next in cc
no_event s asks before (Entry number) after ends left ended is = let n = is.next in cc

-- the replies to the process end its lines
abbrev pub AreFinal : Setting → Type 0
AreFinal s = (number : ℕ) (entry : journaled.Entry) → entry_at s.journal number ≡ Some entry → entry.process ≡ s.process
    → IsFinal entry.reply

pub ask_line : (s : Setting) (g : Control) (request : Request) (events : List Event2) (ends : Result2)
    (after : Control) → AreFinal s
    → IsLine s g (Ask request) events ends after → HasEntry events ⊎ IsFullLine events ends
ask_line s g request [] ends after final is =
    let end : IsEnd s g (next g (Ask request) (Attempt [])) ends after =
    subst (λ (c : Course). IsEnd s g (next g (Ask request) c) ends after) is.so_far is.end in
    inr (record { event = refl; ended = end.1 })
ask_line s g request (Core (Seen e) ∷ events) ends after final is = elim is.so_far.1 [
  | inl made ↦ let n = made.next in absurd cc
  | inr made ↦ let n = made.next in absurd cc
]
ask_line s g request (Core (Missing segno by) ∷ events) ends after final is = let n = is.so_far.1.next in absurd cc
ask_line s g request (Entry number ∷ []) ends after final is = inl (record { number = number; event = refl })
ask_line s g request (Entry number ∷ event ∷ events) ends after final is =
    let call = is.so_far.1 in
    absurd (no_event s (next g (Ask request) (Answer call.entry [])) (Answer call.entry []) event is.so_far.2.0 _ _
    (final_ends g request call.entry (final number call.entry call.there call.maker))
    (subst (λ (c : Course). IsEvent s (next g (Ask request) c) c event is.so_far.2.0) call.leads is.so_far.2.1))
