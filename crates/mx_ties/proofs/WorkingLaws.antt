-- A process whose lines are right unless a write failed: by the laws of one whose lines are right, as they stand.
use Rattle.std.proofs.Common.{◌≡◌, ℕ, suc, ◌+◌, ◌≤◌, List, [], ◌∷◌, ◌++◌, take, length, refl, sym, ◌∙◌, subst, arith, append_assoc}
use Rattle.std.proofs.lemmas.List.{append-nil}
use Rattle.mx_sdw.specs.Descriptors.{Descriptor}
use Rattle.mx_upcall.specs.Control.{Control}
use Rattle.mx_state.specs.declared.journal.Entry as journaled
use Rattle.mx_script.specs.Sessions.{Outline, limit_of}
use Rattle.mx_script.specs.declared.lines.Line.{Line}
use Rattle.mx_core.specs.declared.elements.Element.{Element}
use Rattle.mx_core.specs.declared.elements.Event.TheVariants.{Seen, Missing}
use Rattle.mx_core.specs.declared.elements.Outcome.TheVariants.{Read, Denied}
use Rattle.mx_transcript.specs.declared.transcripts.Event2.{Event2}
use Rattle.mx_transcript.specs.declared.transcripts.Event2.TheVariants.{Core, Entry}
use Rattle.mx_transcript.specs.declared.transcripts.Result2.{Result2}
use Rattle.mx_transcript.specs.Courses.{Course, Attempt, Answer, seen_in}
use Rattle.mx_transcript.specs.Openings.{opening_control}
use Rattle.mx_transcript.specs.Scripts.{lines_of}
use Rattle.mx_transcript.specs.Lines.{IsSoFar}
use Rattle.mx_transcript.specs.Parts.{AreDone, last_line}
use Rattle.mx_transcript.specs.Settings.{Setting}
use Rattle.mx_transcript.specs.SoFar.{IsPartSoFar}
use Rattle.mx_transcript.specs.Standing.{AgreesWith, own_setting}
use Rattle.mx_transcript.specs.Transcripts.{Step, part, events_of}
use Rattle.mx_transcript.proofs.Extending.{extends_law}
use Rattle.mx_transcript.proofs.GoingOn.{line_law}
use Rattle.mx_transcript.proofs.PartLines.{whole_part}
use Rattle.mx_ties.specs.AtWork.{AtWork, all_events, since, gone_on, done_with}
use Rattle.mx_ties.specs.Closed.{followed}
use Rattle.mx_ties.specs.SoFar.{AreTied, IsFullKept, HasRunSoFar}
use Rattle.mx_ties.specs.Spoilt.{IsSpoilt, IsAnswering}
use Rattle.mx_ties.specs.Views.{Kept, Referred, Missed, Marked, View, event_of, judged_in}
use Rattle.mx_ties.specs.Working.{IsUnspoilt, IsWorking, HasWorked, IsEnding, WorkedLaw, BeginWorkLaw, SeenWorkLaw, FilledWorkLaw, DeniedFillLaw, MissedFillLaw, MissedWorkLaw, EnteredWorkLaw, ToldWorkLaw, EndedWorkLaw, CutWorkLaw, LastWorkLaw, IdleWorkLaw, UnspoiltLaw, WorkedRunLaw}
use Rattle.mx_ties.proofs.EventsMore.{events_more}
use Rattle.mx_ties.proofs.Finishes.{finished_law}
use Rattle.mx_ties.proofs.Naming.{HasKept}
use Rattle.mx_ties.proofs.Refuting.{unspoilt}
use Rattle.mx_ties.proofs.SoFarLaws.{full_more, full_done, full_entered, longer_front, nothing_tied, nothing_full, first_line_law, seen_step_law, fill_step_law, miss_step_law, entry_step_law}
use Rattle.mx_ties.proofs.SpoiltLaws.{Grows, grows_by, grows_not, spoilt_more, answering_more, entered_first, filled_one, spoilt_now}
use Rattle.mx_ties.proofs.TiedLaws.{seen_tied, miss_tied, entry_tied, told_tied}

-- where no write failed, its lines are right
so_far : (x : Outline) (setup : List journaled.Entry) (p : ℕ) (w : AtWork) (v : View) (told : ℕ → ℕ)
    → IsWorking x setup p w v told → IsUnspoilt setup p w v
    → HasRunSoFar x setup p w.ran w.steps w.number w.line w.left w.now w.events w.course v told
so_far x setup p w v told r unspoilt = record { lines = r.lines unspoilt; tied = r.tied; full = r.full }

-- all events, with one more
all_more : (w : AtWork) (event : Event2) (course : Course)
    → all_events w ++ event ∷ [] ≡ all_events (gone_on w event course)
all_more w event course = append_assoc (events_of w.steps) w.events (event ∷ [])

all_grow : (w : AtWork) (event : Event2) (course : Course) → Grows (all_events w) (all_events (gone_on w event course))
all_grow w event course = subst (Grows (all_events w)) (all_more w event course) (grows_by (all_events w) (event ∷ []))

-- nothing had failed before
still : (setup : List journaled.Entry) (p : ℕ) (w w' : AtWork) (v v' : View) → Grows (all_events w) (all_events w')
    → Grows v.history v'.history → Grows v.trace v'.trace → IsUnspoilt setup p w' v' → IsUnspoilt setup p w v
still setup p w w' v v' events history trace unspoilt s =
    unspoilt (spoilt_more (length setup) p (all_events w) (all_events w') v.history v'.history v.trace v'.trace events
    history trace s)

full_higher : (limit floor floor' : ℕ) (steps : List Step) (events : List Event2) → floor ≤ floor'
    → IsFullKept limit floor steps events → IsFullKept limit floor' steps events
full_higher limit floor floor' steps events rise f = record {
  reached = λ place full h e. let r = f.reached place full h e in omega arith;
  done = f.done;
  at_work = f.at_work;
}

pub begin_law : BeginWorkLaw
begin_law x setup p number line left floor told is begun =
    let r = first_line_law x setup p number line left floor told is begun in
    record { lines = λ u. r.lines; answering = λ u. tt; tied = r.tied; full = r.full }

pub see_law : SeenWorkLaw
see_law x setup p w v told asked j floor right low high stamps r =
    let course : Course = Attempt (seen_in w.course ++ j ∷ []) in
    let event : Event2 = Core (Seen j.element) in
    let v' : View = record v { trace = v.trace ++ Referred j ∷ []; floor = floor } in
    let back = still setup p w (gone_on w event course) v v' (all_grow w event course) (grows_not v.history)
    (grows_by v.trace (Referred j ∷ [])) in
    record {
      lines = λ u. let before = back u in let is = right before in
          (seen_step_law x setup p w.ran w.steps w.number w.line w.left w.now w.events w.course v told asked j floor is.0 is.1
          low high stamps (so_far x setup p w v told r before)).lines;
      answering = λ u. tt;
      tied = subst (λ (l : List Event2). AreTied x setup p l v' told) (all_more w event course)
          (seen_tied x setup p (all_events w) v told r.tied j floor low high stamps);
      full = full_more (limit_of x) v.floor floor w.steps w.events (Seen j.element) (omega arith) r.full;
    }

pub fill_law : FilledWorkLaw
fill_law x setup p w entry filled v told asked j floor right low high stamps r =
    let old = since w entry filled in
    let course : Course = Answer entry (filled ++ j ∷ []) in
    let event : Event2 = Core (Seen j.element) in
    let v' : View = record v { trace = v.trace ++ Referred j ∷ []; floor = floor } in
    let back = still setup p old (gone_on w event course) v v' (all_grow w event course) (grows_not v.history)
    (grows_by v.trace (Referred j ∷ [])) in
    record {
      lines = λ u. let before = back u in let is = right before in
          (fill_step_law x setup p w.ran w.steps w.number w.line w.left w.now w.events entry filled v told asked j is.2.value
          floor is.0 is.2.right is.2.granted low high (so_far x setup p old v told r before)).lines;
      answering = λ u. let before = back u in let is = right before in
          subst (λ (l : List Event2). IsAnswering (length setup) p l v.history (v.trace ++ Referred j ∷ []) course)
          (all_more w event course)
          (filled_one (length setup) p (all_events w) v.history v.trace entry filled (r.answering before) j
          (record { asked = asked; next = is.1; is = is.2 }));
      tied = subst (λ (l : List Event2). AreTied x setup p l v' told) (all_more w event course)
          (seen_tied x setup p (all_events w) v told r.tied j floor low high stamps);
      full = full_more (limit_of x) v.floor floor w.steps w.events (Seen j.element) (omega arith) r.full;
    }

-- where a write has just failed, nothing is promised
failed_now : (setup : List journaled.Entry) (p : ℕ) (w : AtWork) (came : Kept) (after : Course) (history : List Marked)
    (trace : List Kept) → IsSpoilt (length setup) p (all_events w ++ Core (event_of came) ∷ []) history (trace ++ came ∷ [])
    → (IsSpoilt (length setup) p (all_events (gone_on w (Core (event_of came)) after)) history (trace ++ came ∷ []) → ⊥) → ⊥
failed_now setup p w came after history trace s unspoilt = unspoilt
    (subst (λ (l : List Event2). IsSpoilt (length setup) p l history (trace ++ came ∷ []))
    (all_more w (Core (event_of came)) after) s)

pub denied_law : DeniedFillLaw
denied_law x setup p w entry filled v told asked j denial floor after right came low high r =
    let old = since w entry filled in
    let event : Event2 = Core (Seen j.element) in
    let v' : View = record v { trace = v.trace ++ Referred j ∷ []; floor = floor } in
    let back = still setup p old (gone_on w event after) v v' (all_grow w event after) (grows_not v.history)
    (grows_by v.trace (Referred j ∷ [])) in
    let never = λ (u : IsUnspoilt setup p (gone_on w event after) v'). let before = back u in let is = right before in
    failed_now setup p w (Referred j) after v.history v.trace
    (spoilt_now (length setup) p (all_events w) v.history v.trace entry filled (r.answering before) v.history
    (grows_not v.history) asked (Referred j) is.0 (is.1, denial, came)) u in
    record {
      lines = λ u. absurd (never u);
      answering = λ u. absurd (never u);
      tied = subst (λ (l : List Event2). AreTied x setup p l v' told) (all_more w event after)
          (seen_tied x setup p (all_events w) v told r.tied j floor low high
          (λ value writer stamp e. absurd (unread value writer stamp (sym came ∙ e))));
      full = full_more (limit_of x) v.floor floor w.steps w.events (Seen j.element) (omega arith) r.full;
    }
  where
    unread : (value writer stamp : ℕ) → Denied denial ≡ Read value writer stamp → ⊥
    unread value writer stamp e = cc

pub missed_fill_law : MissedFillLaw
missed_fill_law x setup p w entry filled v told told' asked by floor more after right above under rise told_by
    told_more r =
    let old = since w entry filled in
    let event : Event2 = Core (Missing asked.segno by) in
    let kept : Kept = Missed asked.segno by in
    let v' : View = record v { trace = v.trace ++ kept ∷ []; history = v.history ++ more; floor = floor } in
    let back = still setup p old (gone_on w event after) v v' (all_grow w event after) (grows_by v.history more)
    (grows_by v.trace (kept ∷ [])) in
    let never = λ (u : IsUnspoilt setup p (gone_on w event after) v'). let before = back u in
    failed_now setup p w kept after (v.history ++ more) v.trace
    (spoilt_now (length setup) p (all_events w) v.history v.trace entry filled (r.answering before) (v.history ++ more)
    (grows_by v.history more) asked kept (right before) refl) u in
    record {
      lines = λ u. absurd (never u);
      answering = λ u. absurd (never u);
      tied = subst (λ (l : List Event2). AreTied x setup p l v' told') (all_more w event after)
          (miss_tied x setup p (all_events w) v told r.tied told' asked.segno by floor more above under rise told_by
          told_more);
      full = full_more (limit_of x) v.floor floor w.steps w.events (Missing asked.segno by) rise r.full;
    }

pub miss_law : MissedWorkLaw
miss_law x setup p w v told told' asked segno by floor more right above under rise told_by told_more r =
    let event : Event2 = Core (Missing segno by) in
    let v' : View =
    record v { trace = v.trace ++ Missed segno by ∷ []; history = v.history ++ more; floor = floor } in
    let back = still setup p w (gone_on w event (Attempt [])) v v' (all_grow w event (Attempt []))
    (grows_by v.history more) (grows_by v.trace (Missed segno by ∷ [])) in
    record {
      lines = λ u. let before = back u in
          (miss_step_law x setup p w.ran w.steps w.number w.line w.left w.now w.events w.course v told told' asked segno by
          floor more (right before) above under rise told_by told_more (so_far x setup p w v told r before)).lines;
      answering = λ u. tt;
      tied = subst (λ (l : List Event2). AreTied x setup p l v' told') (all_more w event (Attempt []))
          (miss_tied x setup p (all_events w) v told r.tied told' segno by floor more above under rise told_by told_more);
      full = full_more (limit_of x) v.floor floor w.steps w.events (Missing segno by) rise r.full;
    }

pub told_law : ToldWorkLaw
told_law x setup p w v told told' more floor rise told_more r =
    let v' : View = record v { history = v.history ++ more; floor = floor } in
    let back = still setup p w w v v' (grows_not (all_events w)) (grows_by v.history more) (grows_not v.trace) in
    record {
      lines = λ u d agrees.
          extends_law (own_setting x (followed setup v.history) v.floor p d)
          (own_setting x (followed setup (v.history ++ more)) floor p d)
          (opening_control x p) w.now w.ran w.left w.steps w.number w.line w.events w.course
          (longer_front x setup v.history more v.floor floor p d (all_events w) rise) (r.lines (back u) d agrees);
      answering = λ u. answering_more (length setup) p (all_events w) v.history (v.history ++ more) v.trace w.course
          (grows_by v.history more) (r.answering (back u));
      tied = told_tied x setup p (all_events w) v told r.tied told' floor more rise told_more;
      full = full_higher (limit_of x) v.floor floor w.steps w.events rise r.full;
    }

pub enter_law : EnteredWorkLaw
enter_law x setup p w v told told' more marked place floor right at own mark above under told_more told_here r =
    let event : Event2 = Entry (length setup + suc place) in
    let course : Course = Answer marked.entry [] in
    let v' : View = record v { history = v.history ++ more; floor = floor; amount = suc v.amount } in
    let back = still setup p w (gone_on w event course) v v' (all_grow w event course) (grows_by v.history more)
    (grows_not v.trace) in
    record {
      lines = λ u. let before = back u in
          (entry_step_law x setup p w.ran w.steps w.number w.line w.left w.now w.events w.course v told told' more marked place
          floor (right before) at own mark above under told_more told_here (so_far x setup p w v told r before)).lines;
      answering = λ u.
          subst (λ (l : List Event2). IsAnswering (length setup) p l (v.history ++ more) v.trace course)
          (all_more w event course)
          (entered_first (length setup) p (all_events w) (v.history ++ more) v.trace marked place at own mark);
      tied = subst (λ (l : List Event2). AreTied x setup p l v' told') (all_more w event course)
          (entry_tied x setup p (all_events w) v told r.tied told' more marked place floor at own mark above under
          told_more told_here);
      full = full_entered (limit_of x) v.floor floor (length setup + suc place) w.steps w.events above under r.full;
    }

-- when the line has ended, all its events are among those of the lines that are done
all_done : (w : AtWork) (ends : Result2) → all_events w ≡ events_of (done_with w ends)
all_done w ends = sym (events_more w.steps (w.number, w.events, ends))

module _ (x : Outline) (setup : List journaled.Entry) (p : ℕ) (w : AtWork) (left : List (ℕ × Line)) (v : View)
    (told : ℕ → ℕ) (ends : Result2) (after : Control) (is : w.left ≡ left)
    (e : IsEnding x setup p w v ends after) (r : IsWorking x setup p w v told) where
  still_done : (IsSpoilt (length setup) p (events_of (done_with w ends)) v.history v.trace → ⊥) → IsUnspoilt setup p w v
  still_done u = subst (λ (l : List Event2). IsSpoilt (length setup) p l v.history v.trace → ⊥) (sym (all_done w ends)) u

  lines_done : (IsSpoilt (length setup) p (events_of (done_with w ends)) v.history v.trace → ⊥)
      → (d : Element → Descriptor) → AgreesWith d (judged_in v.trace)
      → AreDone (own_setting x (followed setup v.history) v.floor p d) (opening_control x p) w.ran
      (done_with w ends) left after
  lines_done u d agrees =
      let before = still_done u in
      let setting = own_setting x (followed setup v.history) v.floor p d in
      line_law setting (opening_control x p) w.now after w.ran left w.steps w.number w.line w.events w.course
      ends (subst (λ (l : List (ℕ × Line)). IsPartSoFar setting (opening_control x p) w.ran w.steps w.number
      w.line l w.now w.events w.course) is (r.lines before d agrees)) (e.end before d)

  tied_done : AreTied x setup p (events_of (done_with w ends)) v told
  tied_done = subst (λ (l : List Event2). AreTied x setup p l v told) (all_done w ends) r.tied

  full_then : IsFullKept (limit_of x) v.floor (done_with w ends) []
  full_then = full_done (limit_of x) v.floor w.steps w.number w.events ends e.reached r.full

pub end_law : EndedWorkLaw
end_law x setup p w number line left v told ends after is e r =
    let none = append-nil (events_of (done_with w ends)) in
    record {
      lines = λ u d agrees. record {
        done = lines_done x setup p w ((number, line) ∷ left) v told ends after is e r
            (subst (λ (l : List Event2). IsSpoilt (length setup) p l v.history v.trace → ⊥) none u) d agrees;
        at_work = refl;
      };
      answering = λ u. tt;
      tied = subst (λ (l : List Event2). AreTied x setup p l v told) (sym none)
          (tied_done x setup p w ((number, line) ∷ left) v told ends after is e r);
      full = full_then x setup p w ((number, line) ∷ left) v told ends after is e r;
    }

-- the lines that are done are right before whichever lines go on behind them
goes_elsewhere : (s : Setting) (before now : Control) (lines left : List (ℕ × Line)) (steps : List Step)
    (rest : List (ℕ × Line)) → AreDone s before lines steps left now
    → AreDone s before (take (length steps) lines ++ rest) steps rest now
goes_elsewhere s before now lines left [] rest done = (refl, done.1)
goes_elsewhere s before now [] left (step ∷ steps) rest done = absurd done
goes_elsewhere s before now (line ∷ lines) left (step ∷ steps) rest done =
    (done.0, done.1, done.2, goes_elsewhere s done.1 now lines left steps rest done.3)

pub cut_law : CutWorkLaw
cut_law x setup p w number line v told whole none fresh last r = record {
  lines = λ u d agrees.
      let setting = own_setting x (followed setup v.history) v.floor p d in
      let part = r.lines u d agrees in
      let rest = last_line (lines_of x p) in
      let ran = take (length w.steps) (lines_of x p) ++ rest in
      let done = goes_elsewhere setting (opening_control x p) w.now (lines_of x p) ((w.number, w.line) ∷ w.left) w.steps rest
      (subst (λ (lines : List (ℕ × Line)). AreDone setting (opening_control x p) lines w.steps ((w.number, w.line) ∷ w.left)
      w.now) whole part.done) in record {
        done = subst (λ (left : List (ℕ × Line)). AreDone setting (opening_control x p) ran w.steps left w.now) last done;
        at_work = subst (λ (events : List Event2). IsSoFar setting w.now line events w.course) (sym none)
            (subst (λ (course : Course). IsSoFar setting w.now line [] course) (sym fresh) refl);
      };
  answering = r.answering;
  tied = r.tied;
  full = r.full;
}

pub last_law : LastWorkLaw
last_law x setup p w v told ends after is are e r = record {
  lines = λ u. (
    after,
    λ d agrees. record {
      ran = w.ran;
      are = are;
      done = lines_done x setup p w [] v told ends after is e r u d agrees;
    },
  );
  told = told;
  tied = tied_done x setup p w [] v told ends after is e r;
  full = full_then x setup p w [] v told ends after is e r;
}

pub idle_law : IdleWorkLaw
idle_law x setup p floor is begun = record {
  lines = λ u. (
    opening_control x p,
    λ d agrees. whole_part (own_setting x (followed setup []) floor p d) (opening_control x p) (opening_control x p)
        (lines_of x p) [] (sym is, refl),
  );
  told = λ n. 0;
  tied = nothing_tied x setup p floor (λ n. 0) begun;
  full = nothing_full (limit_of x) floor;
}

pub worked_law : WorkedLaw
worked_law x setup p steps v unspoilt r = let l = r.lines unspoilt in record {
  after = l.0;
  lines = l.1;
  traced = r.tied.traced;
  own = r.tied.own;
  rising = r.tied.rising;
  amount = r.tied.amount;
  points = λ cell. (r.tied.going cell).points;
  misses = λ cell. (r.tied.going cell).misses;
  full = r.full.done;
}

kept_worked : (x : Outline) (setup : List journaled.Entry) (p : ℕ) (steps : List Step) (v : View)
    → HasWorked x setup p steps v → HasKept x setup p steps v
kept_worked x setup p steps v r = record {
  traced = r.tied.traced;
  own = r.tied.own;
  rising = r.tied.rising;
  amount = r.tied.amount;
  points = λ cell. (r.tied.going cell).points;
  misses = λ cell. (r.tied.going cell).misses;
}

pub unspoilt_law : UnspoiltLaw
unspoilt_law x setup history transcripts views parts closed set_up worked =
    unspoilt x setup history transcripts views parts closed set_up
    (λ p some most. kept_worked x setup p (part transcripts p) (views p) (worked p some most))

pub worked_run_law : WorkedRunLaw
worked_run_law x setup history transcripts views parts closed set_up worked =
    finished_law x setup history transcripts views parts closed set_up
    (λ p some most. worked_law x setup p (part transcripts p) (views p)
    (unspoilt_law x setup history transcripts views parts closed set_up worked p some most) (worked p some most))
