-- What follows from the rules for a whole legal run.
use Rattle.std.proofs.Common.{◌≡◌, ◌⊎◌, inl, inr, ℕ, zero, suc, ◌≤◌, List, [], ◌∷◌, ◌++◌, length, refl, sym, subst, Some, arith, rules}
use Rattle.std.proofs.lemmas.Bool.{cases_lt}
use Rattle.std.specs.List.{slice_get}
use Rattle.std.proofs.lemmas.List.Elements.{All-nil}
use Rattle.mx_script.specs.Sessions.{Outline}
use Rattle.mx_state.specs.declared.journal.Entry as journaled
use Rattle.mx_call.specs.Registers.{IsSound}
use Rattle.mx_upcall.specs.Control.{Control}
use Rattle.mx_upcall.specs.Soundness.{IsSoundGate}
use Rattle.mx_script.specs.declared.lines.Line.{Line}
use Rattle.mx_core.specs.declared.elements.Element.{Element}
use Rattle.mx_core.specs.declared.elements.Event.TheVariants.{Seen, Missing}
use Rattle.mx_transcript.specs.declared.transcripts.Event2.{Event2}
use Rattle.mx_transcript.specs.declared.transcripts.Event2.TheVariants.{Core, Entry}
use Rattle.mx_transcript.specs.Courses.{Course, Attempt}
use Rattle.mx_transcript.specs.Elements.{IsJudged}
use Rattle.mx_transcript.specs.Falls.{AreGated, AreSound}
use Rattle.mx_transcript.specs.Legal.{setting_of, IsLegal, HoldsOfPart}
use Rattle.mx_transcript.specs.Lines.{Goes}
use Rattle.mx_transcript.specs.Next.{Reference}
use Rattle.mx_transcript.specs.Printed.{EachReferenceLaw}
use Rattle.mx_transcript.specs.Rings.{IsSoundControl, LegalRingsLaw}
use Rattle.mx_transcript.specs.Parts.{AreDone}
use Rattle.mx_transcript.specs.Openings.{opening_registers, opening_control}
use Rattle.mx_transcript.specs.Scripts.{lines_of}
use Rattle.mx_transcript.specs.Settings.{Setting}
use Rattle.mx_transcript.specs.Transcripts.{Step, part, events_of}
use Rattle.mx_transcript.proofs.RingLaws.{rings_law, sound_done}

record IsAsked (s : Setting) (e : Element) : Type 0 where
  asked : Reference
  right : IsJudged asked (s.descriptor e) e

goes_asked : (s : Setting) (g : Control) (line : Line) (before : Course) (events : List Event2) (after : Course)
    (place : ℕ) (e : Element)
    → Goes s g line before events after → slice_get events place ≡ Some (Core (Seen e)) → IsAsked s e
goes_asked s g line before [] after place e goes at = absurd cc
goes_asked s g line before (Core (Seen o) ∷ events) after zero e goes at =
    let same : o ≡ e = cc in
    subst (λ (a : Element). IsAsked s a) same (elim goes.1 [
      | inl made ↦ record { asked = made.asked; right = made.right }
      | inr made ↦ record { asked = made.asked; right = made.right }
    ])
goes_asked s g line before (Core (Missing segno by) ∷ events) after zero e goes at = absurd cc
goes_asked s g line before (Entry number ∷ events) after zero e goes at = absurd cc
goes_asked s g line before (event ∷ events) after
    (suc place) e goes at = goes_asked s g line goes.0 events after place e goes.2 at

-- a place of two lists is one of the first or of the second
either : (xs ys : List Event2) (place : ℕ) (e : Event2) → slice_get (xs ++ ys) place ≡ Some e
    → ((i : ℕ) × slice_get xs i ≡ Some e) ⊎ ((i : ℕ) × slice_get ys i ≡ Some e)
either [] ys place e at = inr (place, at)
either (x ∷ xs) ys zero e at = inl (zero, at)
either (x ∷ xs) ys (suc place) e at = elim (either xs ys place e at) [
  | inl found ↦ inl (suc found.0, found.1)
  | inr found ↦ inr found
]

done_asked : (s : Setting) (g : Control) (lines : List (ℕ × Line)) (steps : List Step) (left : List (ℕ × Line))
    (now : Control) (place : ℕ)
    (e : Element) → AreDone s g lines steps left now → slice_get (events_of steps) place ≡ Some (Core (Seen e))
    → IsAsked s e
done_asked s g lines [] left now place e are at = absurd cc
done_asked s g [] (step ∷ steps) left now place e are at = absurd are
done_asked s g (line ∷ lines) (step ∷ steps) left now place e are at = elim
    (either step.1 (events_of steps) place (Core (Seen e)) at) [
      | inl found ↦ goes_asked s g line.1 (Attempt []) step.1 are.2.course found.0 e are.2.so_far found.1
      | inr found ↦ done_asked s are.1 lines steps left now found.0 e are.3 found.1
    ]

pub each_reference_law : EachReferenceLaw
each_reference_law x journal transcripts legal p place e there at =
    let lines = legal.lines p there in
    let is = done_asked (setting_of x journal p) (opening_control x p) lines.1.ran
    (part transcripts p) [] lines.0 place e lines.1.done at in
    record { asked = is.asked; right = is.right }

-- a process starts with sound registers and no gate
sound_registers : (p : ℕ) → IsSound (opening_registers p)
sound_registers zero = record {
  eight = refl;
  above = search rules;
  plain = search rules;
  procedure = refl;
}
sound_registers (suc p) = record {
  eight = refl;
  above = search rules;
  plain = search rules;
  procedure = refl;
}

starts_sound : (x : Outline) (p : ℕ) → IsSoundControl (opening_control x p)
starts_sound x p = record { registers = sound_registers p; gates = All-nil IsSoundGate }

no_part : (parts : List (List Step)) (p : ℕ) → length parts ≤ p → part parts p ≡ []
no_part [] p h = refl
no_part (steps ∷ parts) zero h = absurd (omega arith)
no_part (steps ∷ parts) (suc p) h = no_part parts p (omega arith)

-- nothing was done
none_done : (s : Setting) (start : Control) (lines : List (ℕ × Line)) (steps : List Step) → [] ≡ steps
    → AreDone s start lines steps lines start
none_done s start lines steps none =
    subst (λ (all : List Step). AreDone s start lines all lines start) none (refl, refl)

-- both hold of the lines of a part
abbrev HasRings : Outline → List journaled.Entry → ℕ → List Step → List (ℕ × Line) → Type 0
HasRings x journal p steps ran =
    AreGated (setting_of x journal p) (opening_control x p) ran steps
    × AreSound (setting_of x journal p) (opening_control x p) ran steps

-- the rings of a part that was done
done_rings : (x : Outline) (journal : List journaled.Entry) (p : ℕ) (ran : List (ℕ × Line)) (steps : List Step)
    (left : List (ℕ × Line)) (now : Control)
    → AreDone (setting_of x journal p) (opening_control x p) ran steps left now → HasRings x journal p steps ran
done_rings x journal p ran steps left now are =
    rings_law (setting_of x journal p) (opening_control x p) now ran left steps (starts_sound x p) are

-- each process has a part, or did nothing
each_rings : (x : Outline) (journal : List journaled.Entry) (transcripts : List (List Step))
    → IsLegal x journal transcripts → (p : ℕ)
    → HoldsOfPart x p (part transcripts p) (HasRings x journal p (part transcripts p))
each_rings x journal transcripts legal p = elim (cases_lt p (length transcripts)) [
  | inl there ↦
      let lines = legal.lines p there in
      record {
        ran = lines.1.ran;
        are = lines.1.are;
        holds = done_rings x journal p lines.1.ran (part transcripts p) [] lines.0 lines.1.done;
      }
  | inr beyond ↦ record {
    ran = lines_of x p;
    are = inl refl;
    holds = done_rings x journal p (lines_of x p) (part transcripts p) (lines_of x p) (opening_control x p)
        (none_done (setting_of x journal p) (opening_control x p) (lines_of x p) (part transcripts p)
        (sym (no_part transcripts p beyond)));
  }
]

pub legal_rings_law : LegalRingsLaw
legal_rings_law x journal transcripts legal = (
  record {
    each = λ p. let is = each_rings x journal transcripts legal p in
        record { ran = is.ran; are = is.are; holds = is.holds.0 };
  },
  record {
    each = λ p ran are done later left now is so_far.
        (sound_done (setting_of x journal p) (opening_control x p) now ran left done (starts_sound x p) so_far).registers;
  },
)
