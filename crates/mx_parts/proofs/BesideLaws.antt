-- A list with the descriptor of each event has beside each element the one on which it was judged.
use Rattle.std.proofs.Common.{◌≡◌, ℕ, List, length, map, Some, ◌∙◌, ap, subst}
use Rattle.std.proofs.lemmas.List.{length-map}
use Rattle.std.proofs.lemmas.Option.{get_or_from_slice_get, slice_get-map, slice_get_within}
use Rattle.std.specs.List.{All, slice_get}
use Rattle.std.specs.Option.{option_map}
use Rattle.mx_core.specs.declared.elements.Element.{Element}
use Rattle.mx_core.specs.declared.elements.Event.TheVariants.{Seen}
use Rattle.mx_parts.specs.FirstBad.{AreBeside}
use Rattle.mx_sdw.specs.Admissible.{IsAdmissible}
use Rattle.mx_sdw.specs.Descriptors.{Descriptor}
use Rattle.mx_transcript.specs.declared.transcripts.Event2.{Event2}
use Rattle.mx_transcript.specs.declared.transcripts.Event2.TheVariants.{Core}

pub beside_all : (access : Element → Descriptor) (judged_on : Event2 → Descriptor) (events : List Event2) (descriptors : List Descriptor)
    → ((e : Element) → judged_on (Core (Seen e)) ≡ access e) → descriptors ≡ map judged_on events → All IsAdmissible descriptors
    → AreBeside access events descriptors
beside_all access judged_on events descriptors same is all = record {
  each = ap length is ∙ length-map events judged_on;
  on = on;
  admissible = λ place e at.
      subst IsAdmissible (get_or_from_slice_get descriptors place (access e) (access e) (on place e at))
      (all place (access e) (slice_get_within descriptors place (access e) (on place e at)));
}
  where
    on : (place : ℕ) (e : Element) → slice_get events place ≡ Some (Core (Seen e)) → slice_get descriptors place ≡ Some (access e)
    on place e at =
        ap (λ (ds : List Descriptor). slice_get ds place) is ∙ slice_get-map judged_on events place
        ∙ ap (option_map judged_on) at ∙ ap Some (same e)
