-- The references of a process, among those that were sorted by their points, have kept its order: their points never fall.
use Rattle.std.proofs.Common.{◌≡◌, ℕ, zero, suc, ◌+◌, ◌<◌, ◌≤◌, List, [], ◌∷◌, ◌++◌, map, filter, refl, ap, sym, ◌∙◌, arith, append-nil, eq-eqb, ne_eqb, Some, None, Option, slice_get}
use Rattle.std.proofs.lemmas.List.Elements.{filter-append}
use Rattle.mx_core.specs.declared.elements.Element.{Element}
use Rattle.mx_core.specs.declared.elements.Outcome.{Outcome}
use Rattle.mx_core.specs.declared.elements.Outcome.TheVariants as outcome
use Rattle.mx_core.specs.declared.elements.Event.TheVariants.{Seen, Missing}
use Rattle.mx_reads.specs.Deeds.{CellUse, Deed, point_of}
use Rattle.mx_transcript.specs.References.{deed_by, reference}
use Rattle.mx_transcript.specs.Transcripts.{Step, events_of, part}
use Rattle.mx_transcript.specs.declared.transcripts.Event2.{Event2}
use Rattle.mx_transcript.specs.declared.transcripts.Event2.TheVariants.{Core, Entry}
use Rattle.mx_judging.specs.References.{is_of, own_references, references_among, references_from, references_in}
use Rattle.std.specs.List.Sorted.{IsNonDecreasingBy, IsStableByKey}
use Rattle.std.specs.Ordering.{nat_cmp}
use Rattle.mx_script.specs.Sessions.{Outline}
use Rattle.mx_state.specs.declared.journal.Entry as journaled
use Rattle.mx_transcript.specs.Access.{descriptor_of}
use Rattle.mx_transcript.specs.Legal.{IsLegal, deeds}
use Rattle.mx_transcript.specs.References.{cell_of}
use Rattle.mx_transcript.specs.Uses.{use_of}
use Rattle.mx_judging.proofs.SortLaws.{IsFrom, at, filter_yes, filter_no, filters_swap, from_filter, from_sorted, one_list, same_at}

-- the point of a reference
abbrev pub point : ℕ × Element → ℕ
point r = r.1.point

-- Of all references those of one process.
own_kept : (p : ℕ) (es : List Element) → filter (is_of p) (map (λ (e : Element). (p, e)) es) ≡ map (λ (e : Element). (p, e)) es
own_kept p [] = refl
own_kept p (e ∷ es) =
    filter_yes (is_of p) (p, e) (map (λ (e' : Element). (p, e')) es) (eq-eqb p p refl) ∙ ap (λ l. (p, e) ∷ l) (own_kept p es)

others_gone : (p q : ℕ) (es : List Element) → (q ≡ p → ⊥) → filter (is_of p) (map (λ (e : Element). (q, e)) es) ≡ []
others_gone p q [] ne = refl
others_gone p q (e ∷ es) ne =
    filter_no (is_of p) (q, e) (map (λ (e' : Element). (q, e')) es) (ne_eqb q p ne) ∙ others_gone p q es ne

none_behind : (p q : ℕ) (parts : List (List Step)) → p < q → filter (is_of p) (references_from q parts) ≡ []
none_behind p q [] less = refl
none_behind p q (steps ∷ parts) less =
    filter-append (is_of p) (own_references q (events_of steps)) (references_from (q + 1) parts)
    ∙ ap (λ l. l ++ filter (is_of p) (references_from (q + 1) parts)) (others_gone p q (references_among (events_of steps)) (λ e. omega (arith, e, less)))
    ∙ none_behind p (q + 1) parts (omega (arith, less))

add_none : (q : ℕ) → q ≡ q + 0
add_none q = omega arith

add_next : (q k : ℕ) → q + suc k ≡ (q + 1) + k
add_next q k = omega arith

add_first : (k : ℕ) → suc k ≡ 1 + k
add_first k = omega arith

own_from : (q k : ℕ) (parts : List (List Step))
    → filter (is_of (q + k)) (references_from q parts) ≡ own_references (q + k) (events_of (part parts k))
own_from q k [] = refl
own_from q zero (steps ∷ parts) =
    filter-append (is_of (q + 0)) (own_references q (events_of steps)) (references_from (q + 1) parts)
    ∙ ap (λ l. filter (is_of (q + 0)) (own_references q (events_of steps)) ++ l) (none_behind (q + 0) (q + 1) parts (omega arith))
    ∙ append-nil (filter (is_of (q + 0)) (own_references q (events_of steps)))
    ∙ ap (λ r. filter (is_of (q + 0)) (own_references r (events_of steps))) (add_none q)
    ∙ own_kept (q + 0) (references_among (events_of steps))
own_from q (suc k) (steps ∷ parts) =
    filter-append (is_of (q + suc k)) (own_references q (events_of steps)) (references_from (q + 1) parts)
    ∙ ap (λ l. l ++ filter (is_of (q + suc k)) (references_from (q + 1) parts))
    (others_gone (q + suc k) q (references_among (events_of steps)) (λ e. omega (arith, e)))
    ∙ ap (λ r. filter (is_of r) (references_from (q + 1) parts)) (add_next q k) ∙ own_from (q + 1) k parts
    ∙ ap (λ r. own_references r (events_of (part parts k))) (sym (add_next q k))

pub own_in : (p : ℕ) (transcripts : List (List Step)) → 1 ≤ p
    → filter (is_of p) (references_in transcripts) ≡ own_references p (events_of (part transcripts p))
own_in zero transcripts some = absurd (omega (arith, some))
own_in (suc k) [] some = refl
own_in (suc k) (setup ∷ parts) some =
    ap (λ r. filter (is_of r) (references_from 1 parts)) (add_first k) ∙ own_from 1 k parts
    ∙ ap (λ r. own_references r (events_of (part parts k))) (sym (add_first k))

-- The points of a process never fall.
point_is : (cell : Option CellUse) (o : Outcome) (q : ℕ) → point_of (reference cell o q) ≡ Some q
point_is (Some cell) (outcome.Read value writer stamp) q = refl
point_is (Some cell) (outcome.Written value) q = refl
point_is (Some cell) (outcome.Entered ring) q = refl
point_is (Some cell) (outcome.Denied denial) q = refl
point_is None (outcome.Read value writer stamp) q = refl
point_is None (outcome.Written value) q = refl
point_is None (outcome.Entered ring) q = refl
point_is None (outcome.Denied denial) q = refl

-- the deeds have no point below this one, and none below that of one before
record Rise (done : List Deed) (low : ℕ) : Type 0 where
  least : (place : ℕ) (deed : Deed) (q : ℕ) → slice_get done place ≡ Some deed → point_of deed ≡ Some q → low ≤ q
  rising : (before place : ℕ) (deed deed' : Deed) (q q' : ℕ) → before < place → slice_get done before ≡ Some deed
      → slice_get done place ≡ Some deed' → point_of deed ≡ Some q → point_of deed' ≡ Some q' → q ≤ q'

rest_rises : (deed : Deed) (done : List Deed) (low : ℕ) → Rise (deed ∷ done) low → Rise done low
rest_rises deed done low rise = record {
  least = λ place d q found is. rise.least (suc place) d q found is;
  rising = λ before place d d' q q' less one two is is'. rise.rising (suc before) (suc place) d d' q q' (omega (arith, less)) one two is is';
}

rest_above : (deed : Deed) (done : List Deed) (low q : ℕ) → point_of deed ≡ Some q → Rise (deed ∷ done) low → Rise done q
rest_above deed done low q is rise = record {
  least = λ place d q' found is'. rise.rising 0 (suc place) deed d q q' (omega arith) refl found is is';
  rising = λ before place d d' q q' less one two is is'. rise.rising (suc before) (suc place) d d' q q' (omega (arith, less)) one two is is';
}

rises_from : (cell : Element → Option CellUse) (p : ℕ) (events : List Event2) (low : ℕ) → Rise (map (deed_by cell) events) low
    → IsFrom point low (own_references p events)
rises_from cell p [] low rise = tt
rises_from cell p (Core (Seen e) ∷ events) low rise =
    let is = point_is (cell e) e.outcome e.point in (
      rise.least 0 (deed_by cell (Core (Seen e))) e.point refl is,
      rises_from cell p events e.point (rest_above (deed_by cell (Core (Seen e))) (map (deed_by cell) events) low e.point is rise),
    )
rises_from cell p (Core (Missing segno by) ∷ events) low rise =
    rises_from cell p events low (rest_rises (deed_by cell (Core (Missing segno by))) (map (deed_by cell) events) low rise)
rises_from cell p (Entry number ∷ events) low rise =
    rises_from cell p events low (rest_rises (deed_by cell (Entry number)) (map (deed_by cell) events) low rise)

legal_rises : (x : Outline) (journal : List journaled.Entry) (transcripts : List (List Step)) → IsLegal x journal transcripts
    → (p : ℕ) → Rise (deeds x journal transcripts p) 0
legal_rises x journal transcripts legal p = record {
  least = λ place deed q found is. omega arith;
  rising = λ before place deed deed' q q' less one two is is'.
      (legal.points p place deed' q' two is').rising before deed q less one is;
}

-- Sorted by their points, and in the order that they had where these are the same, those of a process are in its order.
pub kept_order : (x : Outline) (journal : List journaled.Entry) (transcripts : List (List Step)) → IsLegal x journal transcripts
    → (found : List (ℕ × Element)) → IsNonDecreasingBy point found → IsStableByKey point nat_cmp (references_in transcripts) found
    → (p : ℕ) → 1 ≤ p → filter (is_of p) found ≡ own_references p (events_of (part transcripts p))
kept_order x journal transcripts legal found sorted stable p some =
    let all : List (ℕ × Element) = references_in transcripts in
    let own : List (ℕ × Element) = own_references p (events_of (part transcripts p)) in
    one_list point 0 0 (filter (is_of p) found) own
    (from_filter point (is_of p) 0 found (from_sorted point 0 found (λ i d h. omega arith) sorted))
    (rises_from (cell_of (use_of x journal) (descriptor_of x journal p)) p (events_of (part transcripts p)) 0
    (legal_rises x journal transcripts legal p))
    (λ z. filters_swap (at point z) (is_of p) found ∙ ap (filter (is_of p)) (same_at point all found stable z)
    ∙ sym (filters_swap (at point z) (is_of p) all) ∙ ap (filter (at point z)) (own_in p transcripts some))
