-- What is right in one setting is right in another that knows all that it does.
use Rattle.std.proofs.Common.{◌≡◌, inl, inr, ℕ, zero, suc, List, [], ◌∷◌, ◌++◌, refl, sym, ap, subst, ◌∙◌, true, Some}
use Rattle.std.specs.List.{slice_get}
use Rattle.mx_sdw.specs.Descriptors.{Descriptor}
use Rattle.mx_upcall.specs.Control.{Control}
use Rattle.mx_script.specs.declared.lines.Line.{Line}
use Rattle.mx_core.specs.declared.elements.Element.{Element}
use Rattle.mx_core.specs.declared.elements.Event.TheVariants.{Seen, Missing}
use Rattle.mx_transcript.specs.declared.transcripts.Event2.{Event2}
use Rattle.mx_transcript.specs.declared.transcripts.Event2.TheVariants.{Core, Entry}
use Rattle.mx_transcript.specs.declared.transcripts.Result2.{Result2}
use Rattle.mx_transcript.specs.Asking.{next}
use Rattle.mx_transcript.specs.Courses.{Course, Attempt, Answer, seen_in}
use Rattle.mx_transcript.specs.Elements.{IsJudged}
use Rattle.mx_transcript.specs.Events.{IsReference, IsFill, IsEvent}
use Rattle.mx_transcript.specs.Lines.{Goes, IsEnd, IsLine}
use Rattle.mx_transcript.specs.Next.{Next, Asks, Fills, Calls, Ends, Nowhere}
use Rattle.mx_transcript.specs.Parts.{AreDone}
use Rattle.mx_transcript.specs.Settings.{Setting}
use Rattle.mx_transcript.specs.SoFar.{Extends, ExtendsLaw}
use Rattle.mx_transcript.specs.Transcripts.{Step, events_of}

-- what is known of some events is known of the first of them, and of the rest
extends_front : (old new : Setting) (events more : List Event2) → Extends old new (events ++ more)
    → Extends old new events
extends_front old new events more x = record {
  process = x.process;
  entries = x.entries;
  full = x.full;
  descriptors = λ place e at. x.descriptors place e (front_place events place e at);
} where
  front_place : (events : List Event2) (place : ℕ) (e : Element) → slice_get events place ≡ Some (Core (Seen e))
      → slice_get (events ++ more) place ≡ Some (Core (Seen e))
  front_place [] zero e at = cc
  front_place [] (suc place) e at = cc
  front_place (event ∷ events) zero e at = at
  front_place (event ∷ events) (suc place) e at = front_place events place e at

extends_rest : (old new : Setting) (events more : List Event2) → Extends old new (events ++ more) → Extends old new more
extends_rest old new [] more x = x
extends_rest old new (event ∷ events) more x = extends_rest old new events more (record {
  process = x.process;
  entries = x.entries;
  full = x.full;
  descriptors = λ place e at. x.descriptors (suc place) e at;
})

-- an event that is right for one descriptor of its element is right for an equal one
reference_kept : (old new : Setting) (asks : Next) (before : Course) (e : Element) (after : Course)
    → new.descriptor e ≡ old.descriptor e → IsReference old asks before e after → IsReference new asks before e after
reference_kept old new asks before e after same is = record {
  asked = is.asked;
  next = is.next;
  right = subst (λ (d : Descriptor). IsJudged is.asked d e) (sym same) is.right;
  leads = is.leads ∙ ap (λ (d : Descriptor). Attempt (seen_in before ++ record { element = e; desc = d } ∷ []))
      (sym same);
}

fill_kept : (old new : Setting) (asks : Next) (before : Course) (e : Element) (after : Course)
    → new.descriptor e ≡ old.descriptor e → IsFill old asks before e after → IsFill new asks before e after
fill_kept old new asks before e after same is = record {
  asked = is.asked;
  next = is.next;
  right = subst (λ (d : Descriptor). IsJudged is.asked d e) (sym same) is.right;
  value = is.value;
  granted = is.granted;
  entry = is.entry;
  filled = is.filled;
  since = is.since;
  leads = is.leads
      ∙ ap (λ (d : Descriptor). Answer is.entry (is.filled ++ record { element = e; desc = d } ∷ [])) (sym same);
}

event_kept : (old new : Setting) (asks : Next) (before : Course) (event : Event2) (events : List Event2)
    (after : Course)
    → Extends old new (event ∷ events) → IsEvent old asks before event after → IsEvent new asks before event after
event_kept old new asks before (Core (Seen e)) events after x is = elim is [
  | inl made ↦ inl (reference_kept old new asks before e after (x.descriptors 0 e refl) made)
  | inr made ↦ inr (fill_kept old new asks before e after (x.descriptors 0 e refl) made)
]
event_kept old new asks before (Core (Missing segno by)) events after x is = is
event_kept old new asks before (Entry number) events after x is = record {
  entry = is.entry;
  there = x.entries number is.entry is.there;
  maker = is.maker ∙ sym x.process;
  next = is.next;
  leads = is.leads;
}

goes_kept : (old new : Setting) (g : Control) (line : Line) (before : Course) (events : List Event2) (after : Course)
    → Extends old new events → Goes old g line before events after → Goes new g line before events after
goes_kept old new g line before [] after x goes = goes
goes_kept old new g line before (event ∷ events) after x goes = (
  goes.0,
  event_kept old new (next g line before) before event events goes.0 x goes.1,
  goes_kept old new g line goes.0 events after (extends_rest old new (event ∷ []) events x) goes.2,
)

end_kept : (old new : Setting) (g : Control) (asks : Next) (ends : Result2) (after : Control)
    → (old.full ≡ true → new.full ≡ true)
    → IsEnd old g asks ends after → IsEnd new g asks ends after
end_kept old new g (Asks reference) ends after full is = is
end_kept old new g (Fills reference) ends after full is = is
end_kept old new g (Calls ring request) ends after full is = (full is.0, is.1, is.2)
end_kept old new g (Ends result after') ends after full is = is
end_kept old new g Nowhere ends after full is = is

pub line_kept : (old new : Setting) (g : Control) (line : Line) (events : List Event2) (ends : Result2)
    (after : Control)
    → Extends old new events → IsLine old g line events ends after → IsLine new g line events ends after
line_kept old new g line events ends after x is = record {
  course = is.course;
  so_far = goes_kept old new g line (Attempt []) events is.course x is.so_far;
  end = end_kept old new g (next g line is.course) ends after x.full is.end;
}

pub lines_kept : (old new : Setting) (start : Control) (lines : List (ℕ × Line)) (steps : List Step)
    (left : List (ℕ × Line)) (now : Control)
    → Extends old new (events_of steps) → AreDone old start lines steps left now
    → AreDone new start lines steps left now
lines_kept old new start lines [] left now x are = are
lines_kept old new start [] (step ∷ steps) left now x are = are
lines_kept old new start (line ∷ lines) (step ∷ steps) left now x are = (
  are.0,
  are.1,
  line_kept old new start line.1 step.1 step.2 are.1 (extends_front old new step.1 (events_of steps) x) are.2,
  lines_kept old new are.1 lines steps left now (extends_rest old new step.1 (events_of steps) x) are.3,
)

pub extends_law : ExtendsLaw
extends_law old new start now lines left steps number line events course x part = record {
  done = lines_kept old new start lines steps ((number, line) ∷ left) now
      (extends_front old new (events_of steps) events x) part.done;
  at_work = goes_kept old new now line (Attempt []) events course
      (extends_rest old new (events_of steps) events x) part.at_work;
}
