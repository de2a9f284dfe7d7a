-- Laws on what is counted of a run.
use Rattle.std.proofs.Common.{◌≡◌, ℕ, ◌+◌, ◌<◌, List, [], ◌∷◌, ◌++◌, take, length, get_or, refl, ap, sym, subst, ◌∙◌, arith, append-nil, append_assoc}
use Rattle.std.specs.List.{count_by, sum_by, flat_map}
use Rattle.std.proofs.lemmas.List.Sums.{sum_by-append}
use Rattle.std.proofs.lemmas.List.{take_more}
use Rattle.std.proofs.lemmas.List.Concat.{flat_map-cons}
use Rattle.std.proofs.lemmas.Grind.{flat_map-append}
use Rattle.mx_core.specs.declared.elements.Element.{Element}
use Rattle.mx_core.specs.declared.elements.Event.TheVariants.{Seen, Missing}
use Rattle.mx_transcript.specs.declared.transcripts.Event2.{Event2}
use Rattle.mx_transcript.specs.declared.transcripts.Event2.TheVariants.{Core, Entry}
use Rattle.mx_transcript.specs.Transcripts.{Step, events_of}
use Rattle.mx_drill.specs.Counting.{Counted, HasCounted}
use Rattle.mx_drill.specs.Summaries.{is_granted, is_denied, value_written, references_among}
use Rattle.mx_drill.specs.declared.summaries.Counts.{Counts}

pub counted_none : (a : Counts) → Counted a [] a
counted_none a = record { granted = omega arith; denied = omega arith; written = omega arith }

pub counted_then : (a b c : Counts) (xs ys : List Element) → Counted a xs b → Counted b ys c → Counted a (xs ++ ys) c
counted_then a b c xs ys first second = record {
  granted = let e : count_by is_granted (xs ++ ys) ≡ count_by is_granted xs + count_by is_granted ys = sum_by-append _ xs ys in omega (arith, e, first.granted, second.granted);
  denied = let e : count_by is_denied (xs ++ ys) ≡ count_by is_denied xs + count_by is_denied ys = sum_by-append _ xs ys in omega (arith, e, first.denied, second.denied);
  written = let e : sum_by value_written (xs ++ ys) ≡ sum_by value_written xs + sum_by value_written ys = sum_by-append _ xs ys in omega (arith, e, first.written, second.written);
}

-- the references among events, some and then others
pub among_append : (xs ys : List Event2) → references_among (xs ++ ys) ≡ references_among xs ++ references_among ys
among_append [] ys = refl
among_append (Core (Seen e) ∷ xs) ys = ap (λ es. e ∷ es) (among_append xs ys)
among_append (Core (Missing segno by) ∷ xs) ys = among_append xs ys
among_append (Entry number ∷ xs) ys = among_append xs ys

pub events_append : (xs ys : List Step) → events_of (xs ++ ys) ≡ events_of xs ++ events_of ys
events_append [] ys = refl
events_append (step ∷ xs) ys =
    ap (λ es. step.1 ++ es) (events_append xs ys) ∙ sym (append_assoc step.1 (events_of xs) (events_of ys))

-- a list's items up to one more
module _ {X : Type 0} (f : X → List Element) where
  pub pieces_more : (a b c : Counts) (xs : List X) (i : ℕ) (x : X) → i < length xs → x ≡ get_or xs i x
      → Counted a (flat_map f (take i xs)) b → Counted b (f x) c → Counted a (flat_map f (take (i + 1) xs)) c
  pieces_more a b c xs i x within is first second =
      let e : flat_map f (take (i + 1) xs) ≡ flat_map f (take i xs) ++ f x =
      ap (λ ys. flat_map f ys) (take_more xs i x within ∙ ap (λ y. take i xs ++ y ∷ []) (sym is))
      ∙ (flat_map-append f (take i xs) (x ∷ []) ∙ ap (λ ys. flat_map f (take i xs) ++ ys) (flat_map-cons f x [] ∙ append-nil (f x))) in
      subst (λ ys. Counted a ys c) (sym e) (counted_then a b c (flat_map f (take i xs)) (f x) first second)

-- the references of events, one by one
pub among_pieces : (events : List Event2) → references_among events ≡ flat_map (λ event. references_among (event ∷ [])) events
among_pieces [] = refl
among_pieces (event ∷ events) =
    among_append (event ∷ []) events ∙ (ap (λ es. references_among (event ∷ []) ++ es) (among_pieces events)
    ∙ sym (flat_map-cons (λ e. references_among (e ∷ [])) event events))

-- one event more
pub event_more : (a b c : Counts) (events : List Event2) (i : ℕ) (event : Event2) → i < length events → event ≡ get_or events i event
    → Counted a (references_among (take i events)) b → Counted b (references_among (event ∷ [])) c → Counted a (references_among (take (i + 1) events)) c
event_more a b c events i event within is first second =
    subst (λ es. Counted a es c) (sym (among_pieces (take (i + 1) events)))
    (pieces_more (λ e. references_among (e ∷ [])) a b c events i event within is
    (subst (λ es. Counted a es b) (among_pieces (take i events)) first) second)

-- one line more
pub step_more : (a b c : Counts) (whole rest left : List Step) (step : Step) → HasCounted a whole rest b → rest ≡ step ∷ left
    → Counted b (references_among step.1) c → HasCounted a whole left c
step_more a b c whole rest left step first next second = record {
  done = first.done ++ step ∷ [];
  parts = append_assoc first.done (step ∷ []) left ∙ (ap (λ ys. first.done ++ ys) (sym next) ∙ first.parts);
  counted =
      let e : references_among (events_of (first.done ++ step ∷ [])) ≡ references_among (events_of first.done) ++ references_among step.1 =
      ap references_among (events_append first.done (step ∷ []) ∙ ap (λ es. events_of first.done ++ es) (append-nil step.1))
      ∙ among_append (events_of first.done) step.1 in
      subst (λ es. Counted a es c) (sym e) (counted_then a b c (references_among (events_of first.done)) (references_among step.1) first.counted second);
}

pub steps_begin : (a : Counts) (whole : List Step) → HasCounted a whole whole a
steps_begin a whole = record { done = []; parts = refl; counted = counted_none a }

pub steps_end : (a b : Counts) (whole : List Step) → HasCounted a whole [] b → Counted a (references_among (events_of whole)) b
steps_end a b whole h =
    subst (λ steps. Counted a (references_among (events_of steps)) b) (sym (append-nil h.done) ∙ h.parts) h.counted
