-- Each request that a line of a session enters is of its grammar, or asks to have a link snapped, whatever the line saw.
use Rattle.std.proofs.Common.{◌≡◌, ℕ, true, List, [], ◌∷◌, Option, Some, None, refl, subst, slice_get}
use Rattle.std.specs.List.{All}
use Rattle.std.proofs.lemmas.List.Elements.{All-nil, All-cons, All-head, All-tail, All-append}
use Rattle.mx_effring.specs.Chains as chains
use Rattle.mx_effring.specs.Chains.{read_on}
use Rattle.mx_effring.specs.Walks.{refuses, wanted}
use Rattle.mx_effring.specs.declared.walks.Stuck.{Stuck}
use Rattle.mx_effring.specs.declared.walks.Stuck.TheVariants as stuck
use Rattle.mx_effring.specs.declared.walks.Want.{Want}
use Rattle.mx_effring.specs.declared.walks.Want.TheVariants.{Done, Word}
use Rattle.mx_core.specs.declared.elements.Event.TheVariants.{Missing, Seen}
use Rattle.mx_core.specs.declared.elements.Outcome.{Outcome}
use Rattle.mx_core.specs.declared.elements.Outcome.TheVariants as outcome
use Rattle.mx_ptr.specs.Pointers.{PointerParts, parts_of}
use Rattle.mx_request.specs.RequestTexts.{fits_request}
use Rattle.mx_request.specs.declared.replies.Reply.{Reply}
use Rattle.mx_request.specs.declared.replies.Reply.TheVariants as reply
use Rattle.mx_request.specs.declared.requests.Request.{Request}
use Rattle.mx_request.specs.declared.requests.Request.TheVariants as ask
use Rattle.mx_script.specs.SessionTexts.{fits_line}
use Rattle.mx_script.specs.declared.lines.Line.{Line}
use Rattle.mx_script.specs.declared.lines.Line.TheVariants.{Ask, Call, Epp, Fetch, Lda, Return, Set, Spri, Sta}
use Rattle.mx_sdw.specs.Descriptors.{Descriptor}
use Rattle.mx_state.specs.declared.journal.Entry as journaled
use Rattle.mx_transcript.specs.Asking.{answered, attempts, awaits, first_due, linked, next, replied}
use Rattle.mx_transcript.specs.Attempts.{after_seen, after_word, along, attempting, taken, wants}
use Rattle.mx_transcript.specs.Courses.{Answer, Attempt, Course, Judged}
use Rattle.mx_transcript.specs.Events.{IsEvent}
use Rattle.mx_transcript.specs.Filling.{due}
use Rattle.mx_transcript.specs.Lines.{Goes}
use Rattle.mx_transcript.specs.Next.{Calls, Next, Reference}
use Rattle.mx_transcript.specs.Operands.{walk_of}
use Rattle.mx_transcript.specs.Parts.{AreDone}
use Rattle.mx_transcript.specs.Settings.{Setting, entry_at}
use Rattle.mx_transcript.specs.Targets.{after_target, at_target, spri_at}
use Rattle.mx_transcript.specs.Transcripts.{Step, events_of}
use Rattle.mx_transcript.specs.declared.transcripts.Event2.{Event2}
use Rattle.mx_transcript.specs.declared.transcripts.Event2.TheVariants.{Core, Entry}
use Rattle.mx_upcall.specs.Control.{Control}
use Rattle.mx_spelling.proofs.LineBounds.{IsLowLine}
use Rattle.mx_spelling.proofs.RequestBounds.{IsFitting}

-- a call that is asked for is fitting
abbrev pub IsCallFitting : Next → Type 0
IsCallFitting (Calls ring request) = IsFitting request
IsCallFitting other = Unit {0}

pub grammar_fits : (request : Request) → fits_request request ≡ true → IsFitting request
grammar_fits (ask.Link segno word) e = tt
grammar_fits request e = e

spri_calls : (target : PointerParts) (p : Option PointerParts) → IsCallFitting (spri_at target p)
spri_calls target None = tt
spri_calls target (Some p) = tt

target_calls : (g : Control) (line : Line) (target : PointerParts) → IsCallFitting (at_target g line target)
target_calls g (Ask request) target = tt
target_calls g (Set word) target = tt
target_calls g (Epp n o) target = tt
target_calls g (Lda o) target = tt
target_calls g (Sta o) target = tt
target_calls g (Spri n o) target = spri_calls target (slice_get g.registers.pr n)
target_calls g Fetch target = tt
target_calls g (Call o) target = tt
target_calls g (Return o) target = tt

after_calls : (g : Control) (line : Line) (target : PointerParts) (d : Descriptor) (came : Outcome) → IsCallFitting (after_target g line target d came)
after_calls g line target d (outcome.Denied denial) = tt
after_calls g (Lda o) target d (outcome.Read value writer stamp) = tt
after_calls g (Sta o) target d (outcome.Written value) = tt
after_calls g (Spri n o) target d (outcome.Written value) = tt
after_calls g Fetch target d (outcome.Read value writer stamp) = tt
after_calls g (Call o) target d (outcome.Entered ring) = tt
after_calls g (Return o) target d (outcome.Entered ring) = tt
after_calls _ _ _ _ _ = tt

wants_calls : (g : Control) (line : Line) (w : Want) → IsCallFitting (wants g line w)
wants_calls g line (Word segno word ring) = tt
wants_calls g line (Done target) = target_calls g line target

taken_calls : (g : Control) (segno word ring : ℕ) (why : Option Stuck) (onward : Next) → IsCallFitting onward
    → IsCallFitting (taken g segno word ring why onward)
taken_calls g segno word ring None onward on = on
taken_calls g segno word ring (Some stuck.Link) onward on = tt
taken_calls g segno word ring (Some stuck.NotPointer) onward on = tt
taken_calls g segno word ring (Some stuck.Limit) onward on = tt

word_calls : (g : Control) (walk : chains.Operand) (segno word ring : ℕ) (came : Outcome) (onward : ℕ → Next)
    → ((value : ℕ) → IsCallFitting (onward value)) → IsCallFitting (after_word g walk segno word ring came onward)
word_calls g walk segno word ring (outcome.Read value writer stamp) onward on =
    taken_calls g segno word ring (refuses walk value) (onward value) (on value)
word_calls g walk segno word ring (outcome.Denied denial) onward on = tt
word_calls g walk segno word ring (outcome.Written value) onward on = tt
word_calls g walk segno word ring (outcome.Entered entered) onward on = tt

seen_calls : (g : Control) (line : Line) (walk : chains.Operand) (j : Judged) (w : Want) (onward : ℕ → Next)
    → ((value : ℕ) → IsCallFitting (onward value)) → IsCallFitting (after_seen g line walk j w onward)
seen_calls g line walk j (Word segno word ring) onward on = word_calls g walk segno word ring j.element.outcome onward on
seen_calls g line walk j (Done target) onward on = after_calls g line target j.desc j.element.outcome

along_calls : (g : Control) (line : Line) (walk : chains.Operand) (seen : List Judged) → IsCallFitting (along g line walk seen)
along_calls g line walk [] = wants_calls g line (wanted walk)
along_calls g line walk (j ∷ seen) =
    seen_calls g line walk j (wanted walk) (λ value. along g line (read_on walk (parts_of value) j.desc.brackets.r1) seen)
    (λ value. along_calls g line (read_on walk (parts_of value) j.desc.brackets.r1) seen)

attempting_calls : (g : Control) (line : Line) (seen : List Judged) (walk : Option chains.Operand) → IsCallFitting (attempting g line seen walk)
attempting_calls g line seen None = tt
attempting_calls g line seen (Some walk) = along_calls g line walk seen

attempts_calls : (g : Control) (line : Line) (seen : List Judged) → fits_line line ≡ true → IsCallFitting (attempts g line seen)
attempts_calls g (Ask request) seen fits = grammar_fits request fits
attempts_calls g (Set word) seen fits = tt
attempts_calls g (Epp n o) seen fits = attempting_calls g (Epp n o) seen (walk_of g.registers (Epp n o))
attempts_calls g (Lda o) seen fits = attempting_calls g (Lda o) seen (walk_of g.registers (Lda o))
attempts_calls g (Sta o) seen fits = attempting_calls g (Sta o) seen (walk_of g.registers (Sta o))
attempts_calls g (Spri n o) seen fits = attempting_calls g (Spri n o) seen (walk_of g.registers (Spri n o))
attempts_calls g Fetch seen fits = attempting_calls g Fetch seen (walk_of g.registers Fetch)
attempts_calls g (Call o) seen fits = attempting_calls g (Call o) seen (walk_of g.registers (Call o))
attempts_calls g (Return o) seen fits = attempting_calls g (Return o) seen (walk_of g.registers (Return o))

-- after a reply
awaits_calls : (g : Control) (request : Request) → IsCallFitting (awaits g request)
awaits_calls g ask.Block = refl
awaits_calls g _ = tt

replied_calls : (g : Control) (request : Request) (given : Reply) → IsCallFitting (replied g request given)
replied_calls g request reply.Waiting = awaits_calls g request
replied_calls g request (reply.Linked segno word fresh linkage) = tt
replied_calls g request (reply.Refused why) = tt
replied_calls g request reply.Done = tt
replied_calls g request (reply.Status status) = tt
replied_calls g request (reply.Names names) = tt
replied_calls g request (reply.Segno known) = tt
replied_calls g request reply.Sent = tt
replied_calls g request (reply.Message sender word) = tt
replied_calls g request reply.Nobody = tt

linked_calls : (g : Control) (line : Line) (given : Reply) → IsCallFitting (attempts g line []) → IsCallFitting (linked g line given)
linked_calls g line (reply.Refused why) again = tt
linked_calls g line (reply.Linked segno word fresh linkage) again = again
linked_calls g line reply.Done again = tt
linked_calls g line (reply.Status status) again = tt
linked_calls g line (reply.Names names) again = tt
linked_calls g line (reply.Segno known) again = tt
linked_calls g line reply.Sent again = tt
linked_calls g line (reply.Message sender word) again = tt
linked_calls g line reply.Nobody again = tt
linked_calls g line reply.Waiting again = tt

answered_calls : (g : Control) (line : Line) (request : Request) (given : Reply) → IsCallFitting (attempts g line [])
    → IsCallFitting (answered g line request given)
answered_calls g (Ask asked) request given again = replied_calls g request given
answered_calls g (Set word) request given again = tt
answered_calls g (Epp n o) request given again = linked_calls g (Epp n o) given again
answered_calls g (Lda o) request given again = linked_calls g (Lda o) given again
answered_calls g (Sta o) request given again = linked_calls g (Sta o) given again
answered_calls g (Spri n o) request given again = linked_calls g (Spri n o) given again
answered_calls g Fetch request given again = linked_calls g Fetch given again
answered_calls g (Call o) request given again = linked_calls g (Call o) given again
answered_calls g (Return o) request given again = linked_calls g (Return o) given again

first_calls : (r : Option Reference) (onward : Next) → IsCallFitting onward → IsCallFitting (first_due r onward)
first_calls None onward on = on
first_calls (Some r) onward on = tt

next_calls : (g : Control) (line : Line) (course : Course) → fits_line line ≡ true → IsCallFitting (next g line course)
next_calls g line (Attempt seen) fits = attempts_calls g line seen fits
next_calls g line (Answer entry filled) fits =
    first_calls (due entry filled) (answered g line entry.request entry.reply)
    (answered_calls g line entry.request entry.reply (attempts_calls g line [] fits))

-- the entry that an event names has a fitting request
pub record IsFittingEntry (s : Setting) (number : ℕ) : Type 0 where
  pub entry : journaled.Entry
  pub there : entry_at s.journal number ≡ Some entry
  pub fits : IsFitting entry.request

abbrev pub IsFittingEvent : Setting → Event2 → Type 0
IsFittingEvent s (Core (Seen e)) = Unit {0}
IsFittingEvent s (Core (Missing segno by)) = Unit {0}
IsFittingEvent s (Entry number) = IsFittingEntry s number

event_fitting : (s : Setting) (asks : Next) (before : Course) (event : Event2) (after : Course) → IsCallFitting asks
    → IsEvent s asks before event after → IsFittingEvent s event
event_fitting s asks before (Core (Seen e)) after calls is = tt
event_fitting s asks before (Core (Missing segno by)) after calls is = tt
event_fitting s asks before (Entry number) after calls is =
    record { entry = is.entry; there = is.there; fits = subst IsCallFitting is.next calls }

goes_fitting : (s : Setting) (g : Control) (line : Line) (before : Course) (events : List Event2) (after : Course) → fits_line line ≡ true
    → Goes s g line before events after → All (IsFittingEvent s) events
goes_fitting s g line before [] after fits goes = All-nil (IsFittingEvent s)
goes_fitting s g line before (event ∷ events) after fits goes =
    All-cons (IsFittingEvent s) event events
    (event_fitting s (next g line before) before event goes.0 (next_calls g line before fits) goes.1)
    (goes_fitting s g line goes.0 events after fits goes.2)

pub done_fitting : (s : Setting) (g : Control) (lines : List (ℕ × Line)) (steps : List Step) (left : List (ℕ × Line)) (now : Control)
    → All IsLowLine lines → AreDone s g lines steps left now → All (IsFittingEvent s) (events_of steps)
done_fitting s g lines [] left now all done = All-nil (IsFittingEvent s)
done_fitting s g [] (step ∷ steps) left now all done = absurd done
done_fitting s g (line ∷ lines) (step ∷ steps) left now all done =
    All-append (IsFittingEvent s) step.1 (events_of steps)
    (goes_fitting s g line.1 (Attempt []) step.1 done.2.course (All-head IsLowLine line lines all).1 done.2.so_far)
    (done_fitting s done.1 lines steps left now (All-tail IsLowLine line lines all) done.3)
