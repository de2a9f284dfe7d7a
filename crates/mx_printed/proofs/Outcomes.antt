-- Each reference of a legal run came to what a line can say of its kind.
use Rattle.std.proofs.Common.{◌≡◌, ℕ, suc, ◌<◌, Bool, true, List, [], ◌∷◌, length, Option, Some, Result, Ok, Err, refl, sym, subst, ◌∙◌, slice_get, arith}
use Rattle.std.specs.List.{list_all}
use Rattle.std.proofs.lemmas.List.Folds.{list_all-append}
use Rattle.mx_core.specs.declared.elements.Element.{Element}
use Rattle.mx_core.specs.declared.elements.Event.TheVariants.{Seen, Missing}
use Rattle.mx_core.specs.declared.elements.Kind.{Kind}
use Rattle.mx_core.specs.declared.elements.Kind.TheVariants as kind
use Rattle.mx_core.specs.declared.elements.Outcome.{Outcome}
use Rattle.mx_core.specs.declared.elements.Outcome.TheVariants as outcome
use Rattle.mx_reader.specs.RunTexts.{comes_to, tells_outcome}
use Rattle.mx_request.proofs.StepLaws.{both, both_hold}
use Rattle.mx_script.specs.Sessions.{Outline}
use Rattle.mx_sdw.specs.Descriptors.{Descriptor}
use Rattle.mx_sdw.specs.Judging.{judgement, ring_after}
use Rattle.mx_sdw.specs.declared.denials.Denial.{Denial}
use Rattle.mx_sdw.specs.declared.descriptors.Cell.{Cell}
use Rattle.mx_sdw.specs.declared.operations.Op.{Op}
use Rattle.mx_sdw.specs.declared.operations.Op.TheVariants as op
use Rattle.mx_state.specs.declared.journal.Entry as journaled
use Rattle.mx_transcript.proofs.LegalLaws.{each_reference_law}
use Rattle.mx_transcript.specs.Access.{descriptor_of}
use Rattle.mx_transcript.specs.Elements.{Agrees, Gives, IsJudged, kind_of}
use Rattle.mx_transcript.specs.Legal.{IsLegal}
use Rattle.mx_transcript.specs.Next.{Reference}
use Rattle.mx_transcript.specs.Transcripts.{Step, events_of, part}
use Rattle.mx_transcript.specs.declared.transcripts.Event2.{Event2}
use Rattle.mx_transcript.specs.declared.transcripts.Event2.TheVariants.{Core, Entry}

-- a denial is one of each kind
denied : (which : Kind) (denial : Denial) → comes_to which (outcome.Denied denial) ≡ true
denied kind.Read denial = refl
denied kind.Ind denial = refl
denied kind.Write denial = refl
denied kind.Fetch denial = refl
denied kind.Call denial = refl
denied kind.Return denial = refl

-- what a granted operation gives is of its kind
granted : (o : Op) (stores : Option ℕ) (entered : ℕ) (came : Outcome) → Gives o stores entered came → comes_to (kind_of o) came ≡ true
granted op.Read stores entered (outcome.Read value writer stamp) g = refl
granted op.Indirect stores entered (outcome.Read value writer stamp) g = refl
granted op.Fetch stores entered (outcome.Read value writer stamp) g = refl
granted op.Write stores entered (outcome.Written value) g = refl
granted (op.Call current same upward) stores entered (outcome.Entered ring) g = refl
granted op.Return stores entered (outcome.Entered ring) g = refl
granted _ _ _ _ g = absurd g

agreed : (asked : Reference) (entered : ℕ) (ruled : Result Cell Denial) (came : Outcome) → Agrees asked entered ruled came
    → comes_to (kind_of asked.op) came ≡ true
agreed asked entered (Ok cell) came a = granted asked.op asked.stores entered came a
agreed asked entered (Err denial) came a =
    subst (λ (o : Outcome). comes_to (kind_of asked.op) o ≡ true) (sym a) (denied (kind_of asked.op) denial)

judged : (asked : Reference) (d : Descriptor) (e : Element) → IsJudged asked d e → comes_to e.kind e.outcome ≡ true
judged asked d e is =
    subst (λ (which : Kind). comes_to which e.outcome ≡ true) (sym is.kind)
    (agreed asked (ring_after d asked.op asked.ring) (judgement d asked.op asked.ring asked.word) e.outcome is.outcome)

-- lists
by_places : {X : Type 0} (test : X → Bool) (xs : List X) → ((n : ℕ) (x : X) → slice_get xs n ≡ Some x → test x ≡ true) → list_all test xs ≡ true
by_places test [] each = refl
by_places test (x ∷ xs) each = both_hold (test x) (list_all test xs) (each 0 x refl) (by_places test xs (λ n y e. each (suc n) y e))

by_parts : (test : List Step → Bool) (transcripts : List (List Step)) → ((p : ℕ) → p < length transcripts → test (part transcripts p) ≡ true)
    → list_all test transcripts ≡ true
by_parts test [] each = refl
by_parts test (steps ∷ parts) each =
    both_hold (test steps) (list_all test parts) (each 0 (omega arith)) (by_parts test parts (λ p h. each (suc p) (omega (arith, h))))

by_steps : (steps : List Step) → list_all tells_outcome (events_of steps) ≡ true
    → list_all (λ (step : Step). list_all tells_outcome step.1) steps ≡ true
by_steps [] e = refl
by_steps (step ∷ steps) e =
    let f = both (list_all tells_outcome step.1) (list_all tells_outcome (events_of steps))
    (sym (list_all-append tells_outcome step.1 (events_of steps)) ∙ e) in
    both_hold (list_all tells_outcome step.1) (list_all (λ (step : Step). list_all tells_outcome step.1) steps) f.0 (by_steps steps f.1)

module _ (x : Outline) (journal : List journaled.Entry) (transcripts : List (List Step)) (legal : IsLegal x journal transcripts) where
  event_told : (p place : ℕ) (event : Event2) → p < length transcripts → slice_get (events_of (part transcripts p)) place ≡ Some event
      → tells_outcome event ≡ true
  event_told p place (Core (Seen e)) there at =
      let asked = each_reference_law x journal transcripts legal p place e there at in
      judged asked.asked (descriptor_of x journal p e) e asked.right
  event_told p place (Core (Missing segno by)) there at = refl
  event_told p place (Entry number) there at = refl

  pub each_event_told : list_all (list_all (λ (step : Step). list_all tells_outcome step.1)) transcripts ≡ true
  each_event_told =
      by_parts (list_all (λ (step : Step). list_all tells_outcome step.1)) transcripts
      (λ p there. by_steps (part transcripts p)
      (by_places tells_outcome (events_of (part transcripts p)) (λ place event at. event_told p place event there at)))
