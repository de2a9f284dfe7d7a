-- A line event by event: what its next event is, and the rest of the line; and the same the other way round, for lines that
-- are right.
use Rattle.std.proofs.Common.{◌≡◌, inl, inr, ℕ, List, [], ◌∷◌, ◌++◌, refl, subst, Some}
use Rattle.mx_upcall.specs.Control.{Control}
use Rattle.mx_core.specs.declared.elements.Element.{Element}
use Rattle.mx_core.specs.declared.elements.Event.TheVariants.{Seen}
use Rattle.mx_core.specs.declared.elements.Outcome.TheVariants.{Written}
use Rattle.mx_state.specs.declared.journal.Entry as journaled
use Rattle.mx_script.specs.declared.lines.Line.{Line}
use Rattle.mx_transcript.specs.declared.transcripts.Event2.{Event2}
use Rattle.mx_transcript.specs.declared.transcripts.Event2.TheVariants.{Core, Entry}
use Rattle.mx_transcript.specs.declared.transcripts.Result2.{Result2}
use Rattle.mx_transcript.specs.Asking.{next}
use Rattle.mx_transcript.specs.Courses.{Course, Attempt, Answer, Judged, seen_in}
use Rattle.mx_transcript.specs.Elements.{IsJudged}
use Rattle.mx_transcript.specs.Lines.{Goes, IsEnd, IsLine}
use Rattle.mx_transcript.specs.Next.{Reference, Asks, Fills, Calls}
use Rattle.mx_transcript.specs.Settings.{Setting, entry_at, judged}

module _ (s : Setting) (g : Control) (l : Line) where
  -- the reference that is asked for, and the rest of the line
  pub peel : (before : Course) (r : Reference) (e : Element) (events : List Event2) (course : Course)
      → next g l before ≡ Asks r → Goes s g l before (Core (Seen e) ∷ events) course
      → IsJudged r (s.descriptor e) e × Goes s g l (Attempt (seen_in before ++ judged s e ∷ [])) events course
  peel before r e events course asks goes = elim goes.1 [
    | inl made ↦
        let same : made.asked ≡ r = let n = made.next in cc in (
          subst (λ (a : Reference). IsJudged a (s.descriptor e) e) same made.right,
          subst (λ (c : Course). Goes s g l c events course) made.leads goes.2,
        )
    | inr made ↦ let n = made.next in absurd cc
  ]

  -- the write that is asked for, which was granted
  pub peel_fill : (entry : journaled.Entry) (filled : List Judged) (r : Reference) (e : Element) (events : List Event2)
      (course : Course) → next g l (Answer entry filled) ≡ Fills r
      → Goes s g l (Answer entry filled) (Core (Seen e) ∷ events) course
      → IsJudged r (s.descriptor e) e × ((value : ℕ) × e.outcome ≡ Written value)
      × Goes s g l (Answer entry (filled ++ judged s e ∷ [])) events course
  peel_fill entry filled r e events course asks goes = elim goes.1 [
    | inl made ↦ let n = made.next in absurd cc
    | inr made ↦
        let same : made.asked ≡ r = let n = made.next in cc in
        let course_is : goes.0 ≡ Answer entry (filled ++ judged s e ∷ []) =
        let since = made.since in let leads = made.leads in cc in (
          subst (λ (a : Reference). IsJudged a (s.descriptor e) e) same made.right,
          (made.value, made.granted),
          subst (λ (c : Course). Goes s g l c events course) course_is goes.2,
        )
  ]

  -- the call that is asked for
  pub peel_call : (before : Course) (number : ℕ) (entry : journaled.Entry) (events : List Event2) (course : Course)
      → entry_at s.journal number ≡ Some entry → Goes s g l before (Entry number ∷ events) course
      → (next g l before ≡ Calls entry.ring entry.request) × (entry.process ≡ s.process)
      × Goes s g l (Answer entry []) events course
  peel_call before number entry events course there goes =
      let made = goes.1 in
      let t = made.there in
      let same : made.entry ≡ entry = cc in (
        subst (λ (k : journaled.Entry). next g l before ≡ Calls k.ring k.request) same made.next,
        subst (λ (k : journaled.Entry). k.process ≡ s.process) same made.maker,
        subst (λ (k : journaled.Entry). Goes s g l (Answer k []) events course) same
            (subst (λ (c : Course). Goes s g l c events course) made.leads goes.2),
      )

  -- the end of a line that has no further event
  pub at_end : (after : Control) (before course : Course) (ends : Result2) → Goes s g l before [] course
      → IsEnd s g (next g l course) ends after → IsEnd s g (next g l before) ends after
  at_end after before course ends goes end = subst (λ (c : Course). IsEnd s g (next g l c) ends after) goes end

  -- a reference comes only where one, or a write, is asked for
  pub none_asked : (before : Course) (e : Element) (events : List Event2) (course : Course)
      → ((r : Reference) → next g l before ≡ Asks r → ⊥) → ((r : Reference) → next g l before ≡ Fills r → ⊥)
      → Goes s g l before (Core (Seen e) ∷ events) course → ⊥
  none_asked before e events course no_reference no_write goes = elim goes.1 [
    | inl made ↦ no_reference made.asked made.next
    | inr made ↦ no_write made.asked made.next
  ]

  -- a reference that is asked for; a write; a call
  pub made : (before : Course) (r : Reference) (e : Element) (events : List Event2) (course : Course)
      → next g l before ≡ Asks r → IsJudged r (s.descriptor e) e
      → Goes s g l (Attempt (seen_in before ++ judged s e ∷ [])) events course
      → Goes s g l before (Core (Seen e) ∷ events) course
  made before r e events course asks right goes =
      (_, inl (record { asked = r; next = asks; right = right; leads = refl }), goes)

  pub filled_in : (entry : journaled.Entry) (filled : List Judged) (r : Reference) (e : Element) (value : ℕ)
      (events : List Event2) (course : Course) → next g l (Answer entry filled) ≡ Fills r
      → IsJudged r (s.descriptor e) e → e.outcome ≡ Written value
      → Goes s g l (Answer entry (filled ++ judged s e ∷ [])) events course
      → Goes s g l (Answer entry filled) (Core (Seen e) ∷ events) course
  filled_in entry filled r e value events course asks right granted goes = (
    _,
    inr (record {
      asked = r;
      next = asks;
      right = right;
      value = value;
      granted = granted;
      entry = entry;
      filled = filled;
      since = refl;
      leads = refl;
    }),
    goes,
  )

  pub called : (before : Course) (number : ℕ) (entry : journaled.Entry) (events : List Event2) (course : Course)
      → entry_at s.journal number ≡ Some entry → entry.process ≡ s.process
      → next g l before ≡ Calls entry.ring entry.request → Goes s g l (Answer entry []) events course
      → Goes s g l before (Entry number ∷ events) course
  called before number entry events course there maker asks goes =
      (Answer entry [], record { entry = entry; there = there; maker = maker; next = asks; leads = refl }, goes)

  -- a line of one reference, which is the one asked for; it ends as it does after that
  pub one : (r : Reference) (e : Element) (ends : Result2) (after : Control) → next g l (Attempt []) ≡ Asks r
      → IsJudged r (s.descriptor e) e → IsEnd s g (next g l (Attempt (judged s e ∷ []))) ends after
      → IsLine s g l (Core (Seen e) ∷ []) ends after
  one r e ends after asks right end = record {
    course = Attempt (judged s e ∷ []);
    so_far = made (Attempt []) r e [] _ asks right refl;
    end = end;
  }

  pub peel_one : (r : Reference) (e : Element) (ends : Result2) (after : Control) → next g l (Attempt []) ≡ Asks r
      → IsLine s g l (Core (Seen e) ∷ []) ends after
      → IsJudged r (s.descriptor e) e × IsEnd s g (next g l (Attempt (judged s e ∷ []))) ends after
  peel_one r e ends after asks is =
      let made = peel (Attempt []) r e [] is.course asks is.so_far in
      (made.0, at_end after (Attempt (judged s e ∷ [])) is.course ends made.1 is.end)
