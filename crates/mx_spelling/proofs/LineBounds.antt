-- The events and the result of a line are within the bounds, where the registers and gates before it are; so are those of all lines.
use Rattle.std.proofs.Common.{◌≡◌, inl, inr, ℕ, ◌<◌, ◌≤◌, ◌^◌, min, nat_lt, Bool, true, false, if◌then◌else◌, List, [], ◌∷◌, ◌++◌, Option, Some, None, IfSome, Result, Ok, Err, refl, sym, subst, arith}
use Rattle.std.specs.List.{All}
use Rattle.std.proofs.lemmas.List.Elements.{All-nil, All-cons, All-head, All-tail, All-append}
use Rattle.mx_sdw.specs.Descriptors.{Descriptor}
use Rattle.mx_sdw.specs.Judging.{judgement, ring_after}
use Rattle.mx_sdw.specs.declared.denials.Denial.{Denial}
use Rattle.mx_sdw.specs.declared.descriptors.Cell.{Cell}
use Rattle.mx_sdw.specs.declared.operations.Op.{Op}
use Rattle.mx_sdw.specs.declared.operations.Op.TheVariants as op
use Rattle.mx_upcall.specs.Control.{Control}
use Rattle.mx_core.specs.declared.elements.Element.{Element}
use Rattle.mx_core.specs.declared.elements.Event.TheVariants.{Seen, Missing}
use Rattle.mx_core.specs.declared.elements.Outcome.{Outcome}
use Rattle.mx_core.specs.declared.elements.Outcome.TheVariants as outcome
use Rattle.mx_request.specs.RequestTexts.{fits_request}
use Rattle.mx_script.specs.SessionTexts.{fits_line}
use Rattle.mx_script.specs.declared.lines.Line.{Line}
use Rattle.mx_state.specs.declared.journal.Entry as journaled
use Rattle.mx_transcript.specs.Asking.{next}
use Rattle.mx_transcript.specs.Courses.{Course, Attempt, Answer, Judged, seen_in}
use Rattle.mx_transcript.specs.Elements.{Agrees, Gives, IsJudged}
use Rattle.mx_transcript.specs.Events.{IsEvent}
use Rattle.mx_transcript.specs.Lines.{Goes, IsEnd, IsLine}
use Rattle.mx_transcript.specs.Next.{Next, Reference, Asks, Fills, Calls, Ends, Nowhere}
use Rattle.mx_transcript.specs.Parts.{AreDone}
use Rattle.mx_transcript.specs.Settings.{Setting, entry_at, judged}
use Rattle.mx_transcript.specs.Transcripts.{Step, events_of}
use Rattle.mx_transcript.specs.declared.transcripts.Event2.{Event2}
use Rattle.mx_transcript.specs.declared.transcripts.Event2.TheVariants.{Core, Entry}
use Rattle.mx_transcript.specs.declared.transcripts.Result2.{Result2}
use Rattle.mx_spelling.specs.Spelling.{bounds_reply, fits_result}
use Rattle.mx_spelling.proofs.NextBounds.{IsGood, IsGoodCourse, IsGoodEntry, IsFine, IsLow, IsLowOutcome, IsSeen, IsWithin, next_fine}

-- what a line is held against is within the bounds
pub record IsLowSetting (s : Setting) : Type 0 where
  pub replies : (number : ℕ) (entry : journaled.Entry) → entry_at s.journal number ≡ Some entry → bounds_reply entry.reply ≡ true
  pub descriptors : (e : Element) → IsLow (s.descriptor e)

-- an element within the bounds, but for its point, and the writer and the stamp of a word read
pub record IsLowElement (e : Element) : Type 0 where
  pub ring : e.ring ≤ 7
  pub segno : e.segno ≤ 4095
  pub word : e.word ≤ 16383
  pub came : IsLowOutcome e.outcome

-- the entry of a number, made by the process, and its ring and request are within the bounds
pub record IsLowCall (s : Setting) (number : ℕ) : Type 0 where
  pub entry : journaled.Entry
  pub there : entry_at s.journal number ≡ Some entry
  pub good : IsGoodEntry entry

abbrev pub IsLowEvent : Setting → Event2 → Type 0
IsLowEvent s (Core (Seen e)) = IsLowElement e
IsLowEvent s (Core (Missing segno by)) = Unit {0}
IsLowEvent s (Entry number) = IsLowCall s number

-- what was granted
low_after : (d : Descriptor) (o : Op) (ring : ℕ) → IsLow d → ring ≤ 7 → ring_after d o ring ≤ 7
low_after d (op.Call current same upward) ring low h = by_test (nat_lt ring d.brackets.r1)
  where
    by_test : (below : Bool) → (if below then d.brackets.r1 else min ring d.brackets.r2) ≤ 7
    by_test true = low.ring
    by_test false = omega (arith, h)
low_after d op.Read ring low h = h
low_after d op.Indirect ring low h = h
low_after d op.Write ring low h = h
low_after d op.Fetch ring low h = h
low_after d op.Return ring low h = h

stored_low : (stores : Option ℕ) (value : ℕ) → stores ≡ Some value → IfSome stores (λ v. v < 2 ^ 36) → value < 2 ^ 36
stored_low None value e small = absurd cc
stored_low (Some v) value e small =
    let same : v ≡ value = cc in subst (λ (n : ℕ). n < 2 ^ 36) same small

gives_low : (o : Op) (stores : Option ℕ) (entered : ℕ) (came : Outcome) → Gives o stores entered came → entered ≤ 7
    → IfSome stores (λ v. v < 2 ^ 36) → IsLowOutcome came
gives_low op.Read stores entered (outcome.Read value writer stamp) g low small = g
gives_low op.Indirect stores entered (outcome.Read value writer stamp) g low small = g
gives_low op.Fetch stores entered (outcome.Read value writer stamp) g low small = g
gives_low op.Write stores entered (outcome.Written value) g low small = stored_low stores value g small
gives_low (op.Call current same upward) stores entered (outcome.Entered ring) g low small = subst (λ (r : ℕ). r ≤ 7) (sym g) low
gives_low op.Return stores entered (outcome.Entered ring) g low small = subst (λ (r : ℕ). r ≤ 7) (sym g) low
gives_low _ _ _ _ g low small = absurd g

agrees_low : (r : Reference) (entered : ℕ) (ruled : Result Cell Denial) (came : Outcome) → Agrees r entered ruled came → entered ≤ 7 → IsWithin r
    → IsLowOutcome came
agrees_low r entered (Ok cell) came a low within = gives_low r.op r.stores entered came a low within.stores
agrees_low r entered (Err denial) came a low within = subst IsLowOutcome (sym a) tt

judged_low : (r : Reference) (d : Descriptor) (e : Element) → IsJudged r d e → IsWithin r → IsLow d → IsLowElement e
judged_low r d e is within low = record {
  ring = subst (λ (n : ℕ). n ≤ 7) (sym is.ring) within.ring;
  segno = subst (λ (n : ℕ). n ≤ 4095) (sym is.segno) within.segno;
  word = subst (λ (n : ℕ). n ≤ 16383) (sym is.word) within.word;
  came = agrees_low r (ring_after d r.op r.ring) (judgement d r.op r.ring r.word) e.outcome is.outcome (low_after d r.op r.ring low within.ring) within;
}

seen_good : (course : Course) → IsGoodCourse course → All IsSeen (seen_in course)
seen_good (Attempt seen) is = is
seen_good (Answer entry filled) is = All-nil IsSeen

filled_good : (entry : journaled.Entry) (filled : List Judged) (course : Course) → course ≡ Answer entry filled → IsGoodCourse course
    → IsGoodEntry entry × All IsSeen filled
filled_good entry filled course e is = subst IsGoodCourse e is

one_more : (seen : List Judged) (j : Judged) → All IsSeen seen → IsSeen j → All IsSeen (seen ++ j ∷ [])
one_more seen j all is = All-append IsSeen seen (j ∷ []) all (All-cons IsSeen j [] is (All-nil IsSeen))

event_low : (s : Setting) (asks : Next) (before : Course) (event : Event2) (after : Course) → IsLowSetting s → IsFine asks
    → IsGoodCourse before → IsEvent s asks before event after → IsLowEvent s event × IsGoodCourse after
event_low s asks before (Core (Missing segno by)) after low fine good is = (tt, subst IsGoodCourse (sym is.leads) (All-nil IsSeen))
event_low s asks before (Entry number) after low fine good is =
    let asked : (is.entry.ring ≤ 7) × (fits_request is.entry.request ≡ true) = subst IsFine is.next fine in
    let entry : IsGoodEntry is.entry = record { ring = asked.0; request = asked.1; reply = low.replies number is.entry is.there } in
    (record { entry = is.entry; there = is.there; good = entry }, subst IsGoodCourse (sym is.leads) (entry, All-nil IsSeen))
event_low s asks before (Core (Seen e)) after low fine good is = elim is [
  | inl made ↦
      let right : IsLowElement e = judged_low made.asked (s.descriptor e) e made.right (subst IsFine made.next fine) (low.descriptors e) in (
        right,
        subst IsGoodCourse (sym made.leads)
            (one_more (seen_in before) (judged s e) (seen_good before good) (record { came = right.came; low = low.descriptors e })),
      )
  | inr made ↦
      let right : IsLowElement e = judged_low made.asked (s.descriptor e) e made.right (subst IsFine made.next fine) (low.descriptors e) in
      let since = filled_good made.entry made.filled before made.since good in (
        right,
        subst IsGoodCourse (sym made.leads)
            (since.0, one_more made.filled (judged s e) since.1 (record { came = right.came; low = low.descriptors e })),
      )
]

-- all events of a line
abbrev pub AreLow : Setting → List Event2 → Type 0
AreLow s events = All (IsLowEvent s) events

goes_low : (s : Setting) (g : Control) (line : Line) (before : Course) (events : List Event2) (after : Course) → IsLowSetting s → IsGood g
    → fits_line line ≡ true → IsGoodCourse before → Goes s g line before events after → AreLow s events × IsGoodCourse after
goes_low s g line before [] after low is fits good goes = (All-nil (IsLowEvent s), subst IsGoodCourse (sym goes) good)
goes_low s g line before (event ∷ events) after low is fits good goes =
    let here = event_low s (next g line before) before event goes.0 low (next_fine g line before is fits good) good goes.1 in
    let rest = goes_low s g line goes.0 events after low is fits here.1 goes.2 in
    (All-cons (IsLowEvent s) event events here.0 rest.0, rest.1)

end_low : (s : Setting) (g : Control) (asks : Next) (ends : Result2) (after : Control) → IsGood g → IsFine asks → IsEnd s g asks ends after
    → (fits_result ends ≡ true) × IsGood after
end_low s g (Ends given left) ends after is fine end =
    (subst (λ (r : Result2). fits_result r ≡ true) (sym end.0) fine.0, subst IsGood (sym end.1) fine.1)
end_low s g (Calls ring request) ends after is fine end =
    (subst (λ (r : Result2). fits_result r ≡ true) (sym end.1) refl, subst IsGood (sym end.2) is)
end_low s g (Asks r) ends after is fine end = absurd end
end_low s g (Fills r) ends after is fine end = absurd end
end_low s g Nowhere ends after is fine end = absurd end

line_low : (s : Setting) (g : Control) (line : Line) (events : List Event2) (ends : Result2) (after : Control) → IsLowSetting s → IsGood g
    → fits_line line ≡ true → IsLine s g line events ends after → AreLow s events × (fits_result ends ≡ true) × IsGood after
line_low s g line events ends after low is fits line' =
    let goes = goes_low s g line (Attempt []) events line'.course low is fits (All-nil IsSeen) line'.so_far in
    let end = end_low s g (next g line line'.course) ends after is (next_fine g line line'.course is fits goes.1) line'.end in
    (goes.0, end.0, end.1)

-- all lines that are done
abbrev pub IsLowLine : ℕ × Line → Type 0
IsLowLine line = (line.0 < 2 ^ 32) × (fits_line line.1 ≡ true)

pub record IsLowStep (step : Step) : Type 0 where
  pub number : step.0 < 2 ^ 32
  pub ends : fits_result step.2 ≡ true

pub done_low : (s : Setting) (g : Control) (lines : List (ℕ × Line)) (steps : List Step) (left : List (ℕ × Line)) (now : Control)
    → IsLowSetting s → IsGood g → All IsLowLine lines → AreDone s g lines steps left now → AreLow s (events_of steps) × All IsLowStep steps
done_low s g lines [] left now low is all done = (All-nil (IsLowEvent s), All-nil IsLowStep)
done_low s g [] (step ∷ steps) left now low is all done = absurd done
done_low s g (line ∷ lines) (step ∷ steps) left now low is all done =
    let own : IsLowLine line = All-head IsLowLine line lines all in
    let here = line_low s g line.1 step.1 step.2 done.1 low is own.1 done.2 in
    let rest = done_low s done.1 lines steps left now low here.2 (All-tail IsLowLine line lines all) done.3 in (
      All-append (IsLowEvent s) step.1 (events_of steps) here.0 rest.0,
      All-cons IsLowStep step steps
          (record { number = subst (λ (n : ℕ). n < 2 ^ 32) (sym done.0) own.0; ends = here.1 }) rest.1,
    )
