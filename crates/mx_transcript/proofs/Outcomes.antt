-- A line's events and result leave one course and one outcome.
use Rattle.std.proofs.Common.{◌≡◌, inl, inr, List, [], ◌∷◌, sym, subst, ◌∙◌}
use Rattle.mx_upcall.specs.Control.{Control}
use Rattle.mx_script.specs.declared.lines.Line.{Line}
use Rattle.mx_core.specs.declared.elements.Event.TheVariants.{Seen, Missing}
use Rattle.mx_transcript.specs.declared.transcripts.Event2.{Event2}
use Rattle.mx_transcript.specs.declared.transcripts.Event2.TheVariants.{Core, Entry}
use Rattle.mx_transcript.specs.declared.transcripts.Result2.{Result2}
use Rattle.mx_transcript.specs.Asking.{next}
use Rattle.mx_transcript.specs.Courses.{Course, Attempt}
use Rattle.mx_transcript.specs.Events.{IsEvent}
use Rattle.mx_transcript.specs.Lines.{Goes, IsEnd}
use Rattle.mx_transcript.specs.Next.{Next, Asks, Fills, Calls, Ends, Nowhere}
use Rattle.mx_transcript.specs.Settings.{Setting}
use Rattle.mx_transcript.specs.SoFar.{OneOutcomeLaw}

pub one_course : (s : Setting) (asks : Next) (before : Course) (event : Event2) (after after' : Course)
    → IsEvent s asks before event after → IsEvent s asks before event after' → after ≡ after'
one_course s asks before (Core (Seen e)) after after' is is' = elim is [
  | inl a ↦ elim is' [
    | inl b ↦ a.leads ∙ sym b.leads
    | inr b ↦ let n = a.next in let m = b.next in absurd cc
  ]
  | inr a ↦ elim is' [
    | inl b ↦ let n = a.next in let m = b.next in absurd cc
    | inr b ↦ let n = a.since in let m = b.since in let p = a.leads in let q = b.leads in cc
  ]
]
one_course s asks before (Core (Missing segno by)) after after' is is' = is.leads ∙ sym is'.leads
one_course s asks before (Entry number) after after' is is' =
    let n = is.there in let m = is'.there in let p = is.leads in let q = is'.leads in cc

one_way : (s : Setting) (g : Control) (line : Line) (before : Course) (events : List Event2) (after after' : Course)
    → Goes s g line before events after → Goes s g line before events after' → after ≡ after'
one_way s g line before [] after after' goes goes' = goes ∙ sym goes'
one_way s g line before (event ∷ events) after after' goes goes' =
    one_way s g line goes'.0 events after after'
    (subst (λ (c : Course). Goes s g line c events after)
    (one_course s (next g line before) before event goes.0 goes'.0 goes.1 goes'.1) goes.2)
    goes'.2

one_end : (s : Setting) (g : Control) (asks : Next) (ends : Result2) (after after' : Control)
    → IsEnd s g asks ends after → IsEnd s g asks ends after' → after ≡ after'
one_end s g (Asks reference) ends after after' is is' = absurd is
one_end s g (Fills reference) ends after after' is is' = absurd is
one_end s g (Calls ring request) ends after after' is is' = is.2 ∙ sym is'.2
one_end s g (Ends result left) ends after after' is is' = is.1 ∙ sym is'.1
one_end s g Nowhere ends after after' is is' = absurd is

pub one_outcome_law : OneOutcomeLaw
one_outcome_law s g after after' line events ends is is' =
    one_end s g (next g line is'.course) ends after after'
    (subst (λ (c : Course). IsEnd s g (next g line c) ends after)
    (one_way s g line (Attempt []) events is.course is'.course is.so_far is'.so_far) is.end)
    is'.end
