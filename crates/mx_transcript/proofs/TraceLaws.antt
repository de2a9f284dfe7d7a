-- A process knows its line at work over its own trace.
use Rattle.std.proofs.Common.{◌≡◌, ℕ, zero, suc, List, [], ◌∷◌, ◌++◌, refl, sym, subst, Some}
use Rattle.std.specs.List.{slice_get}
use Rattle.mx_sdw.specs.Descriptors.{Descriptor}
use Rattle.mx_core.specs.declared.elements.Element.{Element}
use Rattle.mx_core.specs.declared.elements.Event.TheVariants.{Seen}
use Rattle.mx_transcript.specs.declared.transcripts.Event2.TheVariants.{Core}
use Rattle.mx_transcript.specs.Courses.{Attempt, Answer, Judged, seen_in}
use Rattle.mx_transcript.specs.Elements.{IsJudged}
use Rattle.mx_transcript.specs.Lines.{IsSoFar}
use Rattle.mx_transcript.specs.Standing.{AgreesWith, TraceLaw, FillTraceLaw}
use Rattle.mx_transcript.proofs.GoingOn.{reference_law, fill_law}

-- a trace that is longer has its last element, and all of the shorter one
last_of : (d : Element → Descriptor) (trace : List Judged) (j : Judged) → AgreesWith d (trace ++ j ∷ [])
    → d j.element ≡ j.desc
last_of d [] j agrees = agrees 0 j refl
last_of d (first ∷ trace) j agrees = last_of d trace j (λ place k at. agrees (suc place) k at)

front_of : (trace : List Judged) (j k : Judged) (place : ℕ) → slice_get trace place ≡ Some k
    → slice_get (trace ++ j ∷ []) place ≡ Some k
front_of [] j k place at = absurd cc
front_of (first ∷ trace) j k zero at = at
front_of (first ∷ trace) j k (suc place) at = front_of trace j k place at

pub trace_law : TraceLaw
trace_law s trace g line events course asked j known asks right d agrees =
    let same = last_of d trace j agrees in
    let so_far = known d (λ place k at. agrees place k (front_of trace j k place at)) in
    subst (λ (desc : Descriptor). IsSoFar (record s { descriptor = d }) g line (events ++ Core (Seen j.element) ∷ [])
    (Attempt (seen_in course ++ record { element = j.element; desc = desc } ∷ []))) same
    (reference_law (record s { descriptor = d }) g line events course asked j.element so_far asks
    (subst (λ (desc : Descriptor). IsJudged asked desc j.element) (sym same) right))

pub fill_trace_law : FillTraceLaw
fill_trace_law s trace g line events entry filled asked j value known asks right granted d agrees =
    let same = last_of d trace j agrees in
    let so_far = known d (λ place k at. agrees place k (front_of trace j k place at)) in
    subst (λ (desc : Descriptor). IsSoFar (record s { descriptor = d }) g line (events ++ Core (Seen j.element) ∷ [])
    (Answer entry (filled ++ record { element = j.element; desc = desc } ∷ []))) same
    (fill_law (record s { descriptor = d }) g line events entry filled asked j.element value so_far asks
    (subst (λ (desc : Descriptor). IsJudged asked desc j.element) (sym same) right) granted)
