-- Writes that a reply asks for, while events, history and trace grow: those that were made stay made, one that failed
-- has failed.
use Rattle.std.proofs.Common.{◌≡◌, inl, inr, ℕ, suc, ◌+◌, List, [], ◌∷◌, ◌++◌, length, take, refl, ap, sym, ◌∙◌, subst, Some, arith}
use Rattle.std.specs.List.{slice_get}
use Rattle.std.proofs.lemmas.List.{length-append, take-append-le}
use Rattle.std.proofs.lemmas.Option.{slice_get_within}
use Rattle.mx_state.specs.declared.journal.Entry as journaled
use Rattle.mx_core.specs.declared.elements.Event.TheVariants.{Seen}
use Rattle.mx_transcript.specs.declared.transcripts.Event2.{Event2}
use Rattle.mx_transcript.specs.declared.transcripts.Event2.TheVariants.{Core, Entry}
use Rattle.mx_transcript.specs.Courses.{Course, Attempt, Answer, Judged}
use Rattle.mx_transcript.specs.Filling.{due}
use Rattle.mx_transcript.specs.Next.{Reference}
use Rattle.mx_ties.specs.Spoilt.{IsFilled, HasFilled, HasFailed, IsSpoilt, HasAnswered, IsAnswering}
use Rattle.mx_ties.specs.Views.{Kept, Referred, Marked, event_of}
use Rattle.mx_ties.proofs.Places.{place_kept, place_found, place_last}

-- a list that has all that another has, where it has it
abbrev pub Grows : {A : Type 0} → List A → List A → Type 0
Grows {A} xs ys = (i : ℕ) (a : A) → slice_get xs i ≡ Some a → slice_get ys i ≡ Some a

pub grows_by : {A : Type 0} (xs ys : List A) → Grows xs (xs ++ ys)
grows_by xs ys i a h = place_kept xs ys i a h

pub grows_not : {A : Type 0} (xs : List A) → Grows xs xs
grows_not xs i a h = h

take_all : {A : Type 0} (xs : List A) → take (length xs) xs ≡ xs
take_all [] = refl
take_all (x ∷ xs) = ap (λ (l : List _). x ∷ l) (take_all xs)

module _ (start p : ℕ) (events events' : List Event2) (history history' : List Marked) (trace trace' : List Kept)
    (more_events : Grows events events') (more_history : Grows history history') (more_trace : Grows trace trace') where
  abbrev pub filled_more : (entry : journaled.Entry) (filled : List Judged)
      → HasFilled start p events history trace entry filled → HasFilled start p events' history' trace' entry filled
  filled_more entry filled f = record {
    place = f.place;
    mark = f.mark;
    at = more_history f.place _ f.at;
    own = f.own;
    named = f.named;
    entered = more_events f.named _ f.entered;
    event = λ i j h. more_events (suc (f.named + i)) _ (f.event i j h);
    kept = λ i j h. more_trace (f.mark + i) _ (f.kept i j h);
    made = f.made;
  }

  pub spoilt_more : IsSpoilt start p events history trace → IsSpoilt start p events' history' trace'
  spoilt_more s = record {
    entry = s.entry;
    filled = s.filled;
    before = filled_more s.entry s.filled s.before;
    asked = s.asked;
    next = s.next;
    came = s.came;
    event = more_events (suc (s.before.named + length s.filled)) _ s.event;
    kept = more_trace (s.before.mark + length s.filled) _ s.kept;
    failed = s.failed;
  }

-- more of the history alone
pub answering_more : (start p : ℕ) (events : List Event2) (history history' : List Marked) (trace : List Kept)
    (course : Course) → Grows history history' → IsAnswering start p events history trace course
    → IsAnswering start p events history' trace course
answering_more start p events history history' trace (Attempt seen) more a = tt
answering_more start p events history history' trace (Answer entry filled) more a = record {
  so_far = filled_more start p events events history history' trace trace (grows_not events) more (grows_not trace)
      entry filled a.so_far;
  last = a.last;
  all = a.all;
}

-- an entry, of which nothing was made yet
pub entered_first : (start p : ℕ) (events : List Event2) (history : List Marked) (trace : List Kept)
    (marked : Marked) (place : ℕ) → slice_get history place ≡ Some marked → marked.entry.process ≡ p
    → marked.mark ≡ length trace
    → HasAnswered start p (events ++ Entry (start + suc place) ∷ []) history trace marked.entry []
entered_first start p events history trace marked place at own mark = record {
  so_far = record {
    place = place;
    mark = marked.mark;
    at = at;
    own = own;
    named = length events;
    entered = place_last events (Entry (start + suc place));
    event = λ i j h. absurd (nothing i j h);
    kept = λ i j h. absurd (nothing i j h);
    made = λ i j h. absurd (nothing i j h);
  };
  last = let l = length-append events (Entry (start + suc place) ∷ []) in omega arith;
  all = omega arith;
}
  where
    nothing : (i : ℕ) (j : Judged) → slice_get [] i ≡ Some j → ⊥
    nothing i j h = cc

module _ (start p : ℕ) (events : List Event2) (history : List Marked) (trace : List Kept) (entry : journaled.Entry)
    (filled : List Judged) (a : HasAnswered start p events history trace entry filled) where
  -- the event and the element that come next stand where the next write does
  event_here : (event : Event2) → slice_get (events ++ event ∷ []) (suc (a.so_far.named + length filled)) ≡ Some event
  event_here event = subst (λ (n : ℕ). slice_get (events ++ event ∷ []) n ≡ Some event) a.last (place_last events event)

  kept_here : (kept : Kept) → slice_get (trace ++ kept ∷ []) (a.so_far.mark + length filled) ≡ Some kept
  kept_here kept = subst (λ (n : ℕ). slice_get (trace ++ kept ∷ []) n ≡ Some kept) a.all (place_last trace kept)

  -- a write that was made
  pub filled_one : (j : Judged) → IsFilled entry filled j
      → HasAnswered start p (events ++ Core (Seen j.element) ∷ []) history (trace ++ Referred j ∷ []) entry
      (filled ++ j ∷ [])
  filled_one j is =
      let old = filled_more start p events (events ++ Core (Seen j.element) ∷ []) history history trace
      (trace ++ Referred j ∷ []) (grows_by events _) (grows_not history) (grows_by trace _) entry filled a.so_far in
      record {
        so_far = record {
          place = old.place;
          mark = old.mark;
          at = old.at;
          own = old.own;
          named = old.named;
          entered = old.entered;
          event = λ i k h. elim (place_found filled j k i h) [
            | inl before ↦ old.event i k before
            | inr new ↦
                subst (λ (n : ℕ). slice_get (events ++ Core (Seen j.element) ∷ []) (suc (a.so_far.named + n))
                ≡ Some (Core (Seen k.element))) (sym new.0)
                (event_here (Core (Seen j.element)) ∙ ap (λ (q : Judged). Some (Core (Seen q.element))) (sym new.1))
          ];
          kept = λ i k h. elim (place_found filled j k i h) [
            | inl before ↦ old.kept i k before
            | inr new ↦
                subst (λ (n : ℕ). slice_get (trace ++ Referred j ∷ []) (a.so_far.mark + n) ≡ Some (Referred k))
                (sym new.0) (kept_here (Referred j) ∙ ap (λ (q : Judged). Some (Referred q)) (sym new.1))
          ];
          made = λ i k h. elim (place_found filled j k i h) [
            | inl before ↦
                let low = slice_get_within filled i k before in
                subst (λ (l : List Judged). IsFilled entry l k)
                (sym (take-append-le i filled (j ∷ []) (omega arith))) (old.made i k before)
            | inr new ↦
                let at = new.0 in
                subst (λ (l : List Judged). IsFilled entry l k)
                (sym (take-append-le i filled (j ∷ []) (omega arith)
                ∙ ap (λ (n : ℕ). take n filled) new.0 ∙ take_all filled))
                (subst (λ (q : Judged). IsFilled entry filled q) (sym new.1) is)
          ];
        };
        last = (let l = length-append events (Core (Seen j.element) ∷ []) in
            let m = length-append filled (j ∷ []) in
            let n = a.last in omega arith);
        all = (let l = length-append trace (Referred j ∷ []) in
            let m = length-append filled (j ∷ []) in
            let n = a.all in omega arith);
      }

  -- one that failed
  pub spoilt_now : (history' : List Marked) → Grows history history' → (asked : Reference) (came : Kept)
      → due entry filled ≡ Some asked → HasFailed came asked
      → IsSpoilt start p (events ++ Core (event_of came) ∷ []) history' (trace ++ came ∷ [])
  spoilt_now history' more asked came next failed = record {
    entry = entry;
    filled = filled;
    before = filled_more start p events (events ++ Core (event_of came) ∷ []) history history' trace
        (trace ++ came ∷ []) (grows_by events _) more (grows_by trace _) entry filled a.so_far;
    asked = asked;
    next = next;
    came = came;
    event = event_here (Core (event_of came));
    kept = kept_here came;
    failed = failed;
  }
