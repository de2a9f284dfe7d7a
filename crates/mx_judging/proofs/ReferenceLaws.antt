-- The references of a run: found event by event and line by line, each of one of the processes, and then judged one by one, in the
-- order of their points.
use Rattle.std.proofs.Common.{◌≡◌, ℕ, ◌+◌, ◌<◌, ◌≤◌, List, [], ◌∷◌, ◌++◌, map, drop, get_or, length, refl, ap, sym, ◌∙◌, arith, subst, append_assoc, add-one, drop-cons, filter, IsPermutation, All, Result, Ok, Err, OnOk, is_ok, if◌then◌else◌}
use Rattle.std.proofs.lemmas.List.{map-append, length-drop}
use Rattle.std.proofs.lemmas.List.Elements.{All-nil, All-cons, All-append}
use Rattle.std.proofs.lemmas.List.Sorted.{All-permutation}
use Rattle.std.specs.List.Sorted.{IsNonDecreasingBy, IsStableByKey}
use Rattle.std.specs.Ordering.{nat_cmp}
use Rattle.mx_core.specs.declared.elements.Element.{Element}
use Rattle.mx_core.specs.declared.elements.Event.TheVariants.{Seen, Missing}
use Rattle.mx_script.specs.Sessions.{Outline}
use Rattle.mx_state.specs.declared.journal.Entry as journaled
use Rattle.mx_transcript.specs.Legal.{IsLegal}
use Rattle.mx_transcript.specs.Transcripts.{Step, events_of}
use Rattle.mx_transcript.specs.declared.transcripts.Event2.{Event2}
use Rattle.mx_transcript.specs.declared.transcripts.Event2.TheVariants.{Core, Entry}
use Rattle.mx_judging.specs.References.{AreReferences, IsOfProcess, is_of, own_references, reference_of, references_among, references_from, references_in}
use Rattle.mx_judging.specs.declared.replays.Judged.{Judged}
use Rattle.mx_judging.proofs.OrderLaws.{kept_order, point}

pub drop_next : {X : Type 0} (i : ℕ) (xs : List X) (x : X) → i < length xs → x ≡ get_or xs i x → drop i xs ≡ x ∷ drop (i + 1) xs
drop_next i xs x h e = rw (add-one i, drop-cons xs i x, ← e) refl

-- What was found so far, and behind it what is left: a piece more.
piece_more : {X : Type 0} (found new all piece left rest : List X) → found ++ left ≡ all → left ≡ piece ++ rest → new ≡ found ++ piece
    → new ++ rest ≡ all
piece_more found new all piece left rest so_far split more =
    ap (λ xs. xs ++ rest) more ∙ append_assoc found piece rest ∙ ap (λ xs. found ++ xs) (sym split) ∙ so_far

among_append : (xs ys : List Event2) → references_among (xs ++ ys) ≡ references_among xs ++ references_among ys
among_append [] ys = refl
among_append (Core (Seen e) ∷ xs) ys = ap (λ es. e ∷ es) (among_append xs ys)
among_append (Core (Missing segno by) ∷ xs) ys = among_append xs ys
among_append (Entry number ∷ xs) ys = among_append xs ys

own_append : (p : ℕ) (xs ys : List Event2) → own_references p (xs ++ ys) ≡ own_references p xs ++ own_references p ys
own_append p xs ys =
    ap (map (λ (e : Element). (p, e))) (among_append xs ys)
    ∙ map-append (λ (e : Element). (p, e)) (references_among xs) (references_among ys)

-- one event more, of those that are left
pub event_more : (p : ℕ) (event : Event2) (left rest : List Event2) (found new all : List (ℕ × Element))
    → found ++ own_references p left ≡ all → left ≡ event ∷ rest → new ≡ found ++ own_references p (event ∷ [])
    → new ++ own_references p rest ≡ all
event_more p event left rest found new all so_far split more =
    piece_more found new all (own_references p (event ∷ [])) (own_references p left) (own_references p rest) so_far
    (ap (own_references p) split ∙ own_append p (event ∷ []) rest) more

-- one line more
pub step_more : (p : ℕ) (step : Step) (left rest : List Step) (found new all : List (ℕ × Element))
    → found ++ own_references p (events_of left) ≡ all → left ≡ step ∷ rest → new ≡ found ++ own_references p step.1
    → new ++ own_references p (events_of rest) ≡ all
step_more p step left rest found new all so_far split more =
    piece_more found new all (own_references p step.1) (own_references p (events_of left)) (own_references p (events_of rest)) so_far
    (ap (λ steps. own_references p (events_of steps)) split ∙ own_append p step.1 (events_of rest)) more

-- Each is of one of the processes.
own_of : (n p : ℕ) (es : List Element) → 1 ≤ p → p ≤ n → All (IsOfProcess n) (map (λ (e : Element). (p, e)) es)
own_of n p [] some most = All-nil (IsOfProcess n)
own_of n p (e ∷ es) some most =
    All-cons (IsOfProcess n) (p, e) (map (λ (e' : Element). (p, e')) es) (record { some = some; most = most }) (own_of n p es some most)

from_of : (n p : ℕ) (parts : List (List Step)) → 1 ≤ p → p + length parts ≤ n + 1 → All (IsOfProcess n) (references_from p parts)
from_of n p [] some most = All-nil (IsOfProcess n)
from_of n p (steps ∷ parts) some most =
    All-append (IsOfProcess n) (own_references p (events_of steps)) (references_from (p + 1) parts)
    (own_of n p (references_among (events_of steps)) some (omega (arith, most)))
    (from_of n (p + 1) parts (omega arith) (omega (arith, most)))

pub all_of : (n : ℕ) (transcripts : List (List Step)) (found : List (ℕ × Element)) → length transcripts ≡ 1 + n
    → IsPermutation (references_in transcripts) found → All (IsOfProcess n) found
all_of n transcripts found parts same =
    let long : length (drop 1 transcripts) ≡ n = omega (arith, length-drop 1 transcripts, parts) in
    All-permutation (IsOfProcess n) (references_in transcripts) found same
    (from_of n 1 (drop 1 transcripts) (omega arith) (omega (arith, long)))

-- One more was judged.
pub judged_one : {T E : Type 0} (r : Result T E) (old new : List Judged) (j : Judged) (reference : ℕ × Element)
    → j.process ≡ reference.0 → j.element ≡ reference.1 → new ≡ (if is_ok r then old ++ j ∷ [] else old)
    → OnOk r (map reference_of new ≡ map reference_of old ++ reference ∷ [])
judged_one (Ok u) old new j reference process element e =
    ap (map reference_of) e ∙ map-append reference_of old (j ∷ [])
    ∙ ap (λ (r : ℕ × Element). map reference_of old ++ r ∷ []) (λ i. (process i, element i))
judged_one (Err e') old new j reference process element e = tt

-- All were judged, in the order in which they were sorted.
pub judged_all : (x : Outline) (journal : List journaled.Entry) (transcripts : List (List Step)) → IsLegal x journal transcripts
    → (found : List (ℕ × Element)) (none judged : List Judged) → IsPermutation (references_in transcripts) found
    → IsNonDecreasingBy point found → IsStableByKey point nat_cmp (references_in transcripts) found
    → none ≡ [] → map reference_of judged ≡ map reference_of none ++ found → AreReferences transcripts judged
judged_all x journal transcripts legal found none judged all sorted stable empty e =
    let same : map reference_of judged ≡ found = e ∙ ap (λ (js : List Judged). map reference_of js ++ found) empty in
    record {
      each_once = subst (IsPermutation (references_in transcripts)) (sym same) all;
      in_order = λ p some. ap (filter (is_of p)) same ∙ kept_order x journal transcripts legal found sorted stable p some;
    }
