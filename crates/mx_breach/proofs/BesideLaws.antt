-- The descriptors beside the events of a part.
use Rattle.std.proofs.Common.{◌≡◌, ℕ, zero, suc, ◌<◌, List, [], ◌∷◌, length, map, Some, ap, sym, subst, arith, slice_get}
use Rattle.std.proofs.lemmas.List.{length-map}
use Rattle.std.proofs.lemmas.List.Elements.{All-head, All-tail}
use Rattle.std.specs.List.{All}
use Rattle.std.specs.Prelude.{get_or}
use Rattle.mx_access.specs.Answers.{judged_on}
use Rattle.mx_core.specs.declared.elements.Element.{Element}
use Rattle.mx_core.specs.declared.elements.Event.TheVariants.{Seen}
use Rattle.mx_parts.specs.FirstBad.{AreBeside}
use Rattle.mx_sdw.specs.Admissible.{IsAdmissible}
use Rattle.mx_sdw.specs.Descriptors.{Descriptor}
use Rattle.mx_transcript.specs.Transcripts.{Step, events_of, part}
use Rattle.mx_transcript.specs.declared.transcripts.Event2.{Event2}
use Rattle.mx_transcript.specs.declared.transcripts.Event2.TheVariants.{Core}

some_same : {A : Type 0} {a b : A} → Some a ≡ Some b → a ≡ b
some_same e = cc

-- parts by their places
part_is : (parts : List (List Step)) (p : ℕ) (steps : List Step) → p < length parts → steps ≡ get_or parts p steps → steps ≡ part parts p
part_is [] p steps l is = absurd (omega (arith, l))
part_is (first ∷ parts) zero steps l is = is
part_is (first ∷ parts) (suc p) steps l is = part_is parts p steps (omega (arith, l)) is

pub found_part : (transcripts parts : List (List Step)) (p : ℕ) (steps : List Step) → parts ≡ transcripts → p < length parts
    → steps ≡ get_or parts p steps → steps ≡ part transcripts p
found_part transcripts parts p steps same l is =
    subst (λ (t : List (List Step)). steps ≡ part t p) same (part_is parts p steps l is)

-- the descriptors beside the events of a part
module _ (access : Element → Descriptor) where
  beside_on : (events : List Event2) (place : ℕ) (e : Element) → slice_get events place ≡ Some (Core (Seen e))
      → slice_get (map (judged_on access) events) place ≡ Some (access e)
  beside_on [] place e at = absurd cc
  beside_on (event ∷ events) zero e at = ap (λ (v : Event2). Some (judged_on access v)) (some_same at)
  beside_on (event ∷ events) (suc place) e at = beside_on events place e at

  beside_admissible : (events : List Event2) (place : ℕ) (e : Element) → All IsAdmissible (map (judged_on access) events)
      → slice_get events place ≡ Some (Core (Seen e)) → IsAdmissible (access e)
  beside_admissible [] place e all at = absurd cc
  beside_admissible (event ∷ events) zero e all at =
      subst (λ (v : Event2). IsAdmissible (judged_on access v)) (some_same at)
      (All-head IsAdmissible (judged_on access event) (map (judged_on access) events) all)
  beside_admissible (event ∷ events) (suc place) e all at =
      beside_admissible events place e (All-tail IsAdmissible (judged_on access event) (map (judged_on access) events) all) at

pub are_beside : (access : Element → Descriptor) (transcripts : List (List Step)) (p : ℕ) (steps : List Step) (row : List Descriptor)
    → steps ≡ part transcripts p → row ≡ map (judged_on access) (events_of (part transcripts p)) → All IsAdmissible row
    → AreBeside access (events_of steps) row
are_beside access transcripts p steps row same row_is admissible =
    subst (λ (s : List Step). AreBeside access (events_of s) row) (sym same)
    (subst (AreBeside access (events_of (part transcripts p))) (sym row_is) (record {
      each = length-map (events_of (part transcripts p)) (judged_on access);
      on = beside_on access (events_of (part transcripts p));
      admissible = λ place e at. beside_admissible access (events_of (part transcripts p)) place e
          (subst (λ (r : List Descriptor). All IsAdmissible r) row_is admissible) at;
    }))
