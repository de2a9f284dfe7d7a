-- A process with a line at work keeps its ties, step by step, and has run when its last line ends.
use Rattle.std.proofs.Common.{nat_le, true, ◌≡◌, inl, inr, ℕ, suc, ◌+◌, ◌<◌, ◌≤◌, List, [], ◌∷◌, ◌++◌, map, length, refl, ap, sym, ◌∙◌, subst, Some, arith, append_assoc}
use Rattle.std.specs.List.{slice_get}
use Rattle.std.proofs.lemmas.List.{append-nil}
use Rattle.std.proofs.lemmas.Option.{slice_get_within}
use Rattle.mx_sdw.specs.Descriptors.{Descriptor}
use Rattle.mx_upcall.specs.Control.{Control}
use Rattle.mx_state.specs.declared.journal.Entry as journaled
use Rattle.mx_script.specs.Sessions.{Outline, limit_of}
use Rattle.mx_script.specs.declared.lines.Line.{Line}
use Rattle.mx_core.specs.declared.elements.Element.{Element}
use Rattle.mx_core.specs.declared.elements.Event.{Event}
use Rattle.mx_core.specs.declared.elements.Event.TheVariants.{Seen, Missing}
use Rattle.mx_core.specs.declared.elements.Outcome.TheVariants.{Read, Written}
use Rattle.mx_transcript.specs.declared.transcripts.Event2.{Event2}
use Rattle.mx_transcript.specs.declared.transcripts.Event2.TheVariants.{Core, Entry}
use Rattle.mx_transcript.specs.declared.transcripts.Result2.{Result2}
use Rattle.mx_transcript.specs.declared.transcripts.Result2.TheVariants.{HistoryFull}
use Rattle.mx_transcript.specs.Access.{descriptor_of}
use Rattle.mx_transcript.specs.Asking.{next}
use Rattle.mx_transcript.specs.Courses.{Course, Attempt, Answer, Judged, seen_in}
use Rattle.mx_reads.specs.Deeds.{Enters, Misses}
use Rattle.mx_transcript.specs.Legal.{setup_entries}
use Rattle.mx_transcript.specs.Lines.{IsSoFar, IsEnd}
use Rattle.mx_transcript.specs.Openings.{opening_control}
use Rattle.mx_transcript.specs.Scripts.{lines_of}
use Rattle.mx_transcript.specs.Settings.{entry_at}
use Rattle.mx_transcript.specs.SoFar.{Extends}
use Rattle.mx_transcript.specs.Standing.{AgreesWith, own_setting}
use Rattle.mx_transcript.specs.Transcripts.{Step, events_of, entries_named}
use Rattle.mx_transcript.proofs.Extending.{extends_law}
use Rattle.mx_transcript.proofs.GoingOn.{miss_law, call_law, line_law}
use Rattle.mx_transcript.proofs.Growing.{entry_still}
use Rattle.mx_transcript.proofs.PartLines.{whole_part}
use Rattle.mx_transcript.proofs.RingLaws.{full_end}
use Rattle.mx_transcript.proofs.TraceLaws.{trace_law, fill_trace_law}
use Rattle.mx_ties.specs.Closed.{followed, entry_in}
use Rattle.mx_ties.specs.SoFar.{AreTied, IsFullKept, PromisesPart, HasRunSoFar}
use Rattle.mx_ties.specs.Steps.{SeenStepLaw, FillStepLaw, FirstLineLaw, NoLineLaw, MissStepLaw, EntryStepLaw, LineStepLaw, LastLineLaw}
use Rattle.mx_ties.specs.Views.{Referred, Missed, Marked, View, judged_in}
use Rattle.mx_ties.proofs.EventsMore.{events_more, named_more, named_same, judged_more, judged_same}
use Rattle.mx_ties.proofs.JournalLists.{followed_more}
use Rattle.mx_ties.proofs.Places.{map_at, place_kept, place_found}
use Rattle.mx_ties.proofs.TiedLaws.{seen_tied, miss_tied, entry_tied}

le_of : (a b : ℕ) → nat_le a b ≡ true → a ≤ b
le_of a b h = grind arith

le_to : (a b c : ℕ) → nat_le a b ≡ true → b ≤ c → nat_le a c ≡ true
le_to a b c h l = grind arith

-- agreeing with a trace is agreeing with its beginning
agrees_less : (d : Element → Descriptor) (trace more : List Judged) → AgreesWith d (trace ++ more) → AgreesWith d trace
agrees_less d trace more agrees place j h = agrees place j (place_kept trace more place j h)

pub longer_front : (x : Outline) (setup : List journaled.Entry) (history more : List Marked) (floor floor' p : ℕ)
    (d : Element → Descriptor) (events : List Event2)
    → floor ≤ floor' → Extends (own_setting x (followed setup history) floor p d)
    (own_setting x (followed setup (history ++ more)) floor' p d) events
longer_front x setup history more floor floor' p d events l = record {
  process = refl;
  entries = λ number entry h. subst (λ (j : List journaled.Entry). entry_at j number ≡ Some entry)
      (sym (followed_more setup (history ++ more) history more refl))
      (entry_still (followed setup history) (map entry_in more) number entry h);
  full = λ full. le_to (limit_of x) floor floor' full l;
  descriptors = λ place e at. refl;
}

pub full_more : (limit floor floor' : ℕ) (steps : List Step) (events : List Event2) (event : Event) → floor ≤ floor'
    → IsFullKept limit floor steps events → IsFullKept limit floor' steps (events ++ Core event ∷ [])
full_more limit floor floor' steps events event l f = record {
  reached = λ place full h e. let r = f.reached place full h e in omega arith;
  done = f.done;
  at_work = λ place full i number h e n. f.at_work place full i number h e
      (subst (λ (k : List ℕ). slice_get k i ≡ Some number) (named_same events event) n);
}

-- what a process knows of its line at work, it knows with a higher floor
known_higher : (x : Outline) (front : List journaled.Entry) (floor floor' p : ℕ) (trace : List Judged)
    (ran : List (ℕ × Line)) (steps : List Step) (number : ℕ) (line : Line) (left : List (ℕ × Line)) (now : Control) (events : List Event2)
    (course : Course) → floor ≤ floor'
    → PromisesPart x front floor trace p ran steps number line left now events course
    → PromisesPart x front floor' trace p ran steps number line left now events course
known_higher x front floor floor' p trace ran steps number line left now events course rise known d agrees =
    extends_law (own_setting x front floor p d) (own_setting x front floor' p d)
    (opening_control x p) now ran left steps number line events course (record {
      process = refl;
      entries = λ n entry h. h;
      full = λ full. le_to (limit_of x) floor floor' full rise;
      descriptors = λ place e at. refl;
    }) (known d agrees)

-- one element more, by whichever law of the line at work
element_step : (x : Outline) (setup : List journaled.Entry) (p : ℕ) (ran : List (ℕ × Line)) (steps : List Step) (number : ℕ) (line : Line)
    (left : List (ℕ × Line)) (now : Control) (events : List Event2) (course after : Course) (v : View)
    (told : ℕ → ℕ) (j : Judged) (floor : ℕ)
    → v.floor ≤ j.element.point → j.element.point ≤ floor
    → ((value writer stamp : ℕ) → j.element.outcome ≡ Read value writer stamp → stamp ≤ floor)
    → (((d : Element → Descriptor) → AgreesWith d (judged_in v.trace)
    → IsSoFar (own_setting x (followed setup v.history) floor p d) now line events course)
    → (d : Element → Descriptor) → AgreesWith d (judged_in v.trace ++ j ∷ [])
    → IsSoFar (own_setting x (followed setup v.history) floor p d) now line (events ++ Core (Seen j.element) ∷ []) after)
    → HasRunSoFar x setup p ran steps number line left now events course v told
    → HasRunSoFar x setup p ran steps number line left now (events ++ Core (Seen j.element) ∷ []) after
    (record v { trace = v.trace ++ Referred j ∷ []; floor = floor }) told
element_step x setup p ran steps number line left now events course after v told j floor low high stamps more r =
    let known = known_higher x (followed setup v.history) v.floor floor p (judged_in v.trace) ran steps number line left now
    events course (omega arith) r.lines in record {
      lines = λ d agrees.
          let agrees' = subst (AgreesWith d) (judged_more v.trace j) agrees in
          let less = agrees_less d (judged_in v.trace) (j ∷ []) agrees' in record {
            done = (known d less).done;
            at_work = more (λ d' a. (known d' a).at_work) d agrees';
          };
      tied = subst
          (λ (l : List Event2). AreTied x setup p l
          (record v { trace = v.trace ++ Referred j ∷ []; floor = floor }) told)
          (append_assoc (events_of steps) events (Core (Seen j.element) ∷ []))
          (seen_tied x setup p (events_of steps ++ events) v told r.tied j floor low high stamps);
      full = full_more (limit_of x) v.floor floor steps events (Seen j.element) (omega arith) r.full;
    }

pub seen_step_law : SeenStepLaw
seen_step_law x setup p ran steps number line left now events course v told asked j floor asks right low high stamps r =
    element_step x setup p ran steps number line left now events course (Attempt (seen_in course ++ j ∷ [])) v told j floor
    low high stamps
    (λ known. trace_law (own_setting x (followed setup v.history) floor p (descriptor_of x [] p))
    (judged_in v.trace) now line events course asked j known asks right) r

pub fill_step_law : FillStepLaw
fill_step_law x setup p ran steps number line left now events entry filled v told asked j value floor asks right granted low
    high r =
    element_step x setup p ran steps number line left now events (Answer entry filled) (Answer entry (filled ++ j ∷ [])) v
    told j floor low high (λ value' writer stamp came. absurd (written value' writer stamp (sym granted ∙ came)))
    (λ known. fill_trace_law (own_setting x (followed setup v.history) floor p (descriptor_of x [] p))
    (judged_in v.trace) now line events entry filled asked j value known asks right granted) r
  where
    written : (value' writer stamp : ℕ) → Written value ≡ Read value' writer stamp → ⊥
    written value' writer stamp e = cc

pub miss_step_law : MissStepLaw
miss_step_law x setup p ran steps number line left now events course v told told' asked segno by floor more asks above
    under rise told_by told_more r = record {
      lines = λ d agrees.
          let less = subst (AgreesWith d) (judged_same v.trace segno by) agrees in
          let part = extends_law (own_setting x (followed setup v.history) v.floor p d)
          (own_setting x (followed setup (v.history ++ more)) floor p d)
          (opening_control x p) now ran left steps number line events course
          (longer_front x setup v.history more v.floor floor p d (events_of steps ++ events) rise)
          (r.lines d less) in record {
            done = part.done;
            at_work = miss_law
                (own_setting x
                (followed setup (v.history ++ more)) floor p d) now line events course asked segno by part.at_work asks;
          };
      tied = subst
          (λ (l : List Event2). AreTied x setup p l
          (record v { trace = v.trace ++ Missed segno by ∷ []; history = v.history ++ more; floor = floor }) told')
          (append_assoc (events_of steps) events (Core (Missing segno by) ∷ []))
          (miss_tied x setup p
          (events_of steps ++ events) v told r.tied told' segno by floor more above under rise told_by told_more);
      full = full_more (limit_of x) v.floor floor steps events (Missing segno by) rise r.full;
    }

pub entry_there : (setup : List journaled.Entry) (history : List Marked) (place : ℕ) (marked : Marked)
    → slice_get history place ≡ Some marked
    → entry_at (followed setup history) (length setup + suc place) ≡ Some marked.entry
entry_there setup history place marked h =
    subst (λ (n : ℕ). entry_at (followed setup history) n ≡ Some marked.entry) (number_is (length setup)) (behind setup)
  where
    number_is : (n : ℕ) → suc (n + place) ≡ n + suc place
    number_is n = omega arith

    here : place ≡ 0 + place
    here = omega arith

    later : (n : ℕ) → suc (n + place) ≡ suc n + place
    later n = omega arith

    behind : (front : List journaled.Entry) → slice_get (front ++ map entry_in history)
        (length front + place) ≡ Some marked.entry
    behind [] = subst (λ (n : ℕ). slice_get (map entry_in history) n ≡ Some marked.entry) here
        (map_at entry_in history place marked h)
    behind (first ∷ front) =
        subst (λ (n : ℕ). slice_get (first ∷ (front ++ map entry_in history)) n ≡ Some marked.entry)
        (later (length front)) (behind front)

-- an entry above the floor
pub full_entered : (limit floor floor' entered : ℕ) (steps : List Step) (events : List Event2) → floor < entered
    → entered ≤ floor' → IsFullKept limit floor steps events
    → IsFullKept limit floor' steps (events ++ Entry entered ∷ [])
full_entered limit floor floor' entered steps events above under f = record {
  reached = λ i full h e. let l = f.reached i full h e in omega arith;
  done = f.done;
  at_work = λ i full k n h e g.
      elim (place_found (entries_named events) entered n k
      (subst (λ (l : List ℕ). slice_get l k ≡ Some n) (named_more events (Entry entered ∷ [])) g)) [
        | inl old ↦ f.at_work i full k n h e old
        | inr new ↦ let same = new.1 in let l = f.reached i full h e in omega arith
      ];
}

pub entry_step_law : EntryStepLaw
entry_step_law x setup p ran steps number line left now events course v told told' more marked place floor asks at own
    mark above under told_more told_here r =
    let entered = length setup + suc place in record {
      lines = λ d agrees.
          let part = extends_law (own_setting x (followed setup v.history) v.floor p d)
          (own_setting x (followed setup (v.history ++ more)) floor p d)
          (opening_control x p) now ran left steps number line events course
          (longer_front x setup v.history more v.floor floor p d (events_of steps ++ events) (omega arith))
          (r.lines d agrees) in record {
            done = part.done;
            at_work = call_law
                (own_setting x
                (followed setup
                (v.history ++ more)) floor p d) now line events course marked.entry entered part.at_work asks own
                (entry_there setup (v.history ++ more) place marked at);
          };
      tied = subst
          (λ (l : List Event2). AreTied x setup p l
          (record v { history = v.history ++ more; floor = floor; amount = suc v.amount }) told')
          (append_assoc (events_of steps) events (Entry entered ∷ []))
          (entry_tied x setup p (events_of steps ++ events) v told r.tied told' more marked place floor at own mark
          above under told_more told_here);
      full = full_entered (limit_of x) v.floor floor entered steps events above under r.full;
    }

-- a line that found the journal full found the floor at the limit
full_reached : (x : Outline) (p : ℕ) (front : List journaled.Entry) (floor : ℕ) (line : Line) (now after : Control)
    (course : Course) (ends : Result2)
    → ((d : Element → Descriptor) → IsEnd (own_setting x front floor p d) now (next now line course) ends after)
    → ends ≡ HistoryFull → limit_of x ≤ floor
full_reached x p front floor line now after course ends end is =
    let d = descriptor_of x front p in
    le_of (limit_of x) floor
    (full_end (own_setting x front floor p d) now line course (next now line course) after refl
    (subst (λ (r : Result2). IsEnd (own_setting x front floor p d) now (next now line course) r after) is (end d)))

-- a line that is done
pub full_done : (limit floor : ℕ) (steps : List Step) (number : ℕ) (events : List Event2) (ends : Result2)
    → (ends ≡ HistoryFull → limit ≤ floor)
    → IsFullKept limit floor steps events → IsFullKept limit floor (steps ++ (number, events, ends) ∷ []) []
full_done limit floor steps number events ends reached f =
    let step : Step = (number, events, ends) in record {
      reached = λ place full h e. elim (place_found steps step full place h) [
        | inl old ↦ f.reached place full old e
        | inr new ↦ reached (sym (ap (λ (s : Step). s.2) new.1) ∙ e)
      ];
      done = λ place later full s i n h e l g k. elim (place_found steps step s later g) [
        | inl old ↦
            let low = slice_get_within steps later s old in
            elim (place_found steps step full place h) [
              | inl old' ↦ f.done place later full s i n old' e l old k
              | inr new ↦ let is = new.0 in absurd (omega arith)
            ]
        | inr new ↦ elim (place_found steps step full place h) [
          | inl old' ↦ f.at_work place full i n old' e
              (subst (λ (t : Step). slice_get (entries_named t.1) i ≡ Some n) new.1 k)
          | inr new' ↦ let is = new.0 in let is' = new'.0 in absurd (omega arith)
        ]
      ];
      at_work = λ place full i n h e k. cc;
    }

pub line_step_law : LineStepLaw
line_step_law x setup p ran steps number number' line line' left now after events course ends v told end r = record {
  lines = λ d agrees. record {
    done = line_law (own_setting x (followed setup v.history) v.floor p d) (opening_control x p) now after
        ran ((number', line') ∷ left) steps number line
        events course ends (r.lines d agrees) (end d);
    at_work = refl;
  };
  tied = subst (λ (l : List Event2). AreTied x setup p l v told)
      (sym (append-nil (events_of (steps ++ (number, events, ends) ∷ []))
      ∙ events_more steps (number, events, ends))) r.tied;
  full = full_done (limit_of x) v.floor steps number events ends
      (full_reached x p (followed setup v.history) v.floor line now after course ends end) r.full;
}

pub last_line_law : LastLineLaw
last_line_law x setup p ran steps number line now after events course ends v told end are r =
    let step : Step = (number, events, ends) in
    let tied = subst (λ (l : List Event2). AreTied x setup p l v told) (sym (events_more steps step)) r.tied in
    let full = full_done (limit_of x) v.floor steps number events ends
    (full_reached x p (followed setup v.history) v.floor line now after course ends end) r.full in record {
      after = after;
      lines = λ d agrees.
          let setting = own_setting x (followed setup v.history) v.floor p d in record {
            ran = ran;
            are = are;
            done = line_law setting (opening_control x p) now after ran [] steps number line events course ends
                (r.lines d agrees) (end d);
          };
      traced = tied.traced;
      own = tied.own;
      rising = tied.rising;
      amount = tied.amount;
      points = λ cell. (tied.going cell).points;
      misses = λ cell. (tied.going cell).misses;
      full = full.done;
    }

nothing_at : {A : Type 0} (i : ℕ) (a : A) → slice_get [] i ≡ Some a → ⊥
nothing_at i a h = cc

-- no events, and an empty pass
pub nothing_tied : (x : Outline) (setup : List journaled.Entry) (p floor : ℕ) (told : ℕ → ℕ) → setup_entries x ≤ floor
    → AreTied x setup p [] (record { trace = []; history = []; floor = floor; amount = 0 }) told
nothing_tied x setup p floor told begun = record {
  traced = refl;
  own = λ place other h. absurd (nothing_at place (Entry other) h);
  rising = tt;
  amount = refl;
  going = λ cell. record {
    begun = begun;
    points = λ place d q h e. absurd (nothing_at place d h);
    misses = record {
      rising = λ place segno by before earlier h l g. absurd (nothing_at place (Misses segno by) h);
      before_next = λ place segno by other h n. absurd (nothing_at place (Misses segno by) h);
      others = λ place segno by other h g c. absurd (nothing_at place (Misses segno by) h);
      above = λ place segno by other n h l g c. absurd (nothing_at place (Misses segno by) h);
    };
    low = λ place d h. absurd (nothing_at place d h);
    within = λ place other h. absurd (nothing_at place (Enters other) h);
    told_own = λ place other segno h c. absurd (nothing_at place (Enters other) h);
    told_misses = λ place segno by h. absurd (nothing_at place (Misses segno by) h);
  };
}

pub nothing_full : (limit floor : ℕ) → IsFullKept limit floor [] []
nothing_full limit floor = record {
  reached = λ place full h e. absurd (nothing_at place full h);
  done = λ place later full s i n h e l g k. absurd (nothing_at place full h);
  at_work = λ place full i n h e k. absurd (nothing_at place full h);
}

pub first_line_law : FirstLineLaw
first_line_law x setup p number line left floor told is begun = record {
  lines = λ d agrees. record { done = (sym is, refl); at_work = refl };
  tied = nothing_tied x setup p floor told begun;
  full = nothing_full (limit_of x) floor;
}

pub no_line_law : NoLineLaw
no_line_law x setup p floor is = record {
  after = opening_control x p;
  lines = λ d agrees. whole_part (own_setting x (followed setup []) floor p d) (opening_control x p) (opening_control x p)
      (lines_of x p) [] (sym is, refl);
  traced = refl;
  own = λ place other h. absurd (nothing_at place (Entry other) h);
  rising = tt;
  amount = refl;
  points = λ cell place d q h e. absurd (nothing_at place d h);
  misses = λ cell. record {
    rising = λ place segno by before earlier h l g. absurd (nothing_at place (Misses segno by) h);
    before_next = λ place segno by other h n. absurd (nothing_at place (Misses segno by) h);
    others = λ place segno by other h g c. absurd (nothing_at place (Misses segno by) h);
    above = λ place segno by other n h l g c. absurd (nothing_at place (Misses segno by) h);
  };
  full = λ place later full s i n h e l g k. absurd (nothing_at place full h);
}
