-- A write that a reply asks for: its line goes on by it, or ends.
use Rattle.std.proofs.Common.{◌≡◌, ℕ, ◌+◌, ◌<◌, ◌≤◌, ◌==◌, nat_lt, max, Bool, true, false, if◌then◌else◌, inr, List, [], ◌∷◌, ◌++◌, length, append_assoc, Some, None, refl, sym, ◌∙◌, ap, subst, arith}
use Rattle.mx_core.specs.AssociativeMemory.{recalled}
use Rattle.mx_core.specs.Judging.{stamp_read}
use Rattle.mx_core.specs.declared.elements.Element.{Element}
use Rattle.mx_core.specs.declared.elements.Event.TheVariants.{Seen}
use Rattle.mx_core.specs.declared.elements.Outcome.{Outcome}
use Rattle.mx_core.specs.declared.elements.Outcome.TheVariants as outcome
use Rattle.mx_desc.specs.Passes.{PassValue}
use Rattle.mx_desc.specs.Referring.{HasMissed}
use Rattle.mx_line.proofs.FillLaws.{asks_fill, due_fill}
use Rattle.mx_line.proofs.TakenLaws.{filling_taken}
use Rattle.mx_line.specs.AtWork.{IsCome, IsTaken, StandsAt, after_writing, beside, ended, end_of, reference_in}
use Rattle.mx_line.specs.Fills.{Follows, IsFilling, after_fill, after_words, counted, write_of}
use Rattle.mx_line.specs.Operands.{IsGoodProgress}
use Rattle.mx_line.specs.declared.asking.End.{End}
use Rattle.mx_line.specs.declared.asking.Reference as asked
use Rattle.mx_line.specs.declared.at_work.LineAtWork.{LineAtWork}
use Rattle.mx_line.specs.declared.at_work.LineAtWork.TheVariants as works
use Rattle.mx_line.specs.declared.fills.Behind.{Behind}
use Rattle.mx_line.specs.declared.fills.Behind.TheVariants as behinds
use Rattle.mx_line.specs.declared.fills.Fill.{Fill}
use Rattle.mx_line.specs.declared.fills.Fill.TheVariants.{Words, Pointer}
use Rattle.mx_line.specs.declared.fills.Filled.TheVariants as filled_to
use Rattle.mx_line.specs.declared.fills.LinkWords.{LinkWords}
use Rattle.mx_line.specs.declared.fills.Snap.{Snap}
use Rattle.mx_line.specs.declared.operands.Progress.TheVariants.{Before, Walking, AtLink, Waiting, Filling}
use Rattle.mx_line.specs.declared.processes.Process.{Process as LineState}
use Rattle.mx_request.specs.Sections.{section_in}
use Rattle.mx_request.specs.declared.replies.Reply.{Reply}
use Rattle.mx_request.specs.declared.replies.Reply.TheVariants as reply
use Rattle.mx_rule.specs.Entering.{connected_view, entered_view, left_view}
use Rattle.mx_rule.specs.Shown.{all_told}
use Rattle.mx_rule.specs.declared.views.PassView.{PassView}
use Rattle.mx_script.specs.Sessions.{Outline}
use Rattle.mx_script.specs.declared.lines.Line.{Line}
use Rattle.mx_sdw.specs.Descriptors.{Descriptor}
use Rattle.mx_sdw.specs.declared.denials.Denial.{Denial}
use Rattle.mx_state.specs.declared.journal.Entry as journaled
use Rattle.mx_ties.proofs.SpoiltLaws.{grows_by, grows_not, spoilt_more, spoilt_now}
use Rattle.mx_ties.proofs.WorkingLaws.{denied_law, fill_law}
use Rattle.mx_ties.specs.AtWork.{AtWork, gone_on}
use Rattle.mx_ties.specs.Spoilt.{IsSpoilt}
use Rattle.mx_ties.specs.Views.{Referred}
use Rattle.mx_ties.specs.Working.{IsEnding, IsUnspoilt, IsWorking}
use Rattle.mx_transcript.specs.Asking.{answered, next}
use Rattle.mx_transcript.specs.Courses.{Course, Attempt, Answer, Judged}
use Rattle.mx_transcript.specs.Elements.{IsJudged}
use Rattle.mx_transcript.specs.Events.{IsEvent}
use Rattle.mx_transcript.specs.Filling.{fill}
use Rattle.mx_transcript.specs.Next.{Next, Reference, Fills, Ends as AsksToEnd, Nowhere}
use Rattle.mx_transcript.specs.Settings.{Setting}
use Rattle.mx_transcript.specs.Transcripts.{events_of}
use Rattle.mx_transcript.specs.declared.transcripts.Event2.{Event2}
use Rattle.mx_transcript.specs.declared.transcripts.Event2.TheVariants.{Core}
use Rattle.mx_transcript.specs.declared.transcripts.Result2.{Result2}
use Rattle.mx_transcript.specs.declared.transcripts.Result2.TheVariants as result
use Rattle.mx_upcall.specs.Changes.{changed}
use Rattle.mx_upcall.specs.Control.{Control}
use Rattle.mx_upcall.specs.Soundness.{IsPackableControl}
use Rattle.mx_process.proofs.JudgedLaws.{WasJudged, asked_by, at_floor}
use Rattle.mx_process.proofs.KnownLaws.{known_missed, known_seen, seen_known}
use Rattle.mx_process.proofs.TurnLaws.{same_line}
use Rattle.mx_process.proofs.WorkLaws.{come_on, line_ended, line_over}
use Rattle.mx_process.specs.Filling.{HasStored, HasWrote, IsOnwardAt, IsSince, IsWriting, Leads, MissesWrite, StandsIn}
use Rattle.mx_process.specs.Plans.{left_of}
use Rattle.mx_process.specs.Processes.{Known, AsksFor, IsAtWork, IsBefore, IsFitting, at_work, known_of}
use Rattle.mx_process.specs.Turns.{Comes, Ends, HasEnd, inside}
use Rattle.mx_process.specs.declared.turns.Turn.{Turn}
use Rattle.mx_process.specs.declared.turns.Turn.TheVariants as turn

-- a write that was made leads from each answer after which it was due
module _ (g : Control) (l : Line) (it : Fill) (e : Element) (d : Descriptor) (right : IsJudged (write_of it) d e) where
  abbrev its_setting : Setting
  its_setting = record { process = 0; journal = []; full = false; descriptor = λ other. d }

  fill_event : (value : ℕ) → e.outcome ≡ outcome.Written value → (entry : journaled.Entry) (filled : List Judged)
      → IsFilling g l entry filled it → IsEvent its_setting (next g l (Answer entry filled)) (Answer entry filled) (Core (Seen e))
      (Answer entry (filled ++ beside e d ∷ []))
  fill_event value written entry filled filling = inr (record {
    asked = write_of it;
    next = asks_fill g l entry filled it filling;
    right = right;
    value = value;
    granted = written;
    entry = entry;
    filled = filled;
    since = refl;
    leads = refl;
  })

  pub made_leads : (after : LineAtWork) → (value : ℕ) × (e.outcome ≡ outcome.Written value)
      → ((setting : Setting) → setting.descriptor e ≡ d → IsTaken g l setting (Core (Seen e)) (works.At (Filling it)) after)
      → Leads g l it e d e.outcome after
  made_leads after w taken =
      subst (λ (o : Outcome). Leads g l it e d o after) (sym w.1)
      (λ entry filled filling. taken its_setting refl (Answer entry filled) (Answer entry (filled ++ beside e d ∷ [])) filling
      (fill_event w.0 w.1 entry filled filling))

  -- and stands so
  after_made : (value : ℕ) → e.outcome ≡ outcome.Written value → (entry : journaled.Entry) (filled : List Judged)
      → IsFilling g l entry filled it
      → StandsAt g l (Answer entry (filled ++ beside e d ∷ [])) (after_writing g (after_fill (counted it d.bound)))
  after_made value written entry filled filling =
      filling_taken g l it e d (after_writing g (after_fill (counted it d.bound))) (λ v w. refl) its_setting refl
      (Answer entry filled) (Answer entry (filled ++ beside e d ∷ [])) filling (fill_event value written entry filled filling)

pub pointer_leads : (g : Control) (l : Line) (it : Fill) (snap : Snap) (e : Element) (d : Descriptor) → it ≡ Pointer snap
    → IsJudged (write_of it) d e → (value : ℕ) × (e.outcome ≡ outcome.Written value)
    → Leads g l it e d e.outcome (works.At Before)
pointer_leads g l it snap e d is right w =
    subst (λ (f : Fill). Leads g l f e d e.outcome (works.At Before)) (sym is)
    (made_leads g l (Pointer snap) e d (subst (λ (f : Fill). IsJudged (write_of f) d e) is right) (works.At Before) w
    (filling_taken g l (Pointer snap) e d (works.At Before) (λ v w. refl)))

-- a line that asks for something
some_next : (asks : Next) (r : Reference) → asks ≡ Fills r → asks ≡ Nowhere → ⊥
some_next asks r a b = apart (sym a ∙ b)
  where
    apart : Fills r ≡ Nowhere → ⊥
    apart e = cc

ends_not : (asks : Next) (ends : Result2) (after : Control) → asks ≡ AsksToEnd ends after → asks ≡ Nowhere → ⊥
ends_not asks ends after a b = apart (sym a ∙ b)
  where
    apart : AsksToEnd ends after ≡ Nowhere → ⊥
    apart e = cc

-- after a link word of a section the line goes on
module _ (g : Control) (l : Line) (words : LinkWords) (fitting : words.behind ≡ behinds.Nowhere → ⊥) where
  somewhere_behind : (entry : journaled.Entry) (filled : List Judged) (after : Behind) → words.behind ≡ after
      → StandsAt g l (Answer entry filled) (after_writing g (after_words after)) → next g l (Answer entry filled) ≡ Nowhere → ⊥
  somewhere_behind entry filled (behinds.Pointer snap) is stands none =
      some_next (next g l (Answer entry filled)) (write_of (Pointer snap)) (asks_fill g l entry filled (Pointer snap) stands) none
  somewhere_behind entry filled behinds.Done is stands none =
      ends_not (next g l (Answer entry filled)) result.Done (changed g (end_of result.Done g).after) stands none
  somewhere_behind entry filled behinds.Nowhere is stands none = fitting is

  somewhere : (entry : journaled.Entry) (filled : List Judged) (w : LinkWords) → w.behind ≡ words.behind
      → StandsAt g l (Answer entry filled) (after_writing g (after_fill (Words w))) → next g l (Answer entry filled) ≡ Nowhere → ⊥
  somewhere entry filled w same = by_test (nat_lt (w.next + 1) w.words)
    where
      by_test : (test : Bool)
          → StandsAt g l (Answer entry filled) (after_writing g (if test then filled_to.More (Words (record w { next = w.next + 1 })) else after_words w.behind))
          → next g l (Answer entry filled) ≡ Nowhere → ⊥
      by_test true stands none =
          some_next (next g l (Answer entry filled)) (write_of (Words (record w { next = w.next + 1 })))
          (asks_fill g l entry filled (Words (record w { next = w.next + 1 })) stands) none
      by_test false stands none = somewhere_behind entry filled w.behind (sym same) stands none

  counted_somewhere : (entry : journaled.Entry) (filled : List Judged) (bound : ℕ)
      → StandsAt g l (Answer entry filled) (after_writing g (after_fill (counted (Words words) bound)))
      → next g l (Answer entry filled) ≡ Nowhere → ⊥
  counted_somewhere entry filled bound = by_test (words.next == 0)
    where
      by_test : (test : Bool)
          → StandsAt g l (Answer entry filled) (after_writing g (after_fill (if test then Words (record words { words = bound }) else Words words)))
          → next g l (Answer entry filled) ≡ Nowhere → ⊥
      by_test true = somewhere entry filled (record words { words = bound }) refl
      by_test false = somewhere entry filled words refl

  -- nothing that is known follows nothing
  still_fitting : (entry : journaled.Entry) (after other : Behind) → words.behind ≡ after → Follows g l entry after
      → other ≡ behinds.Nowhere → Follows g l entry other → ⊥
  still_fitting entry (behinds.Pointer snap) other is follows nothing others =
      let f = subst (Follows g l entry) nothing others in apart (sym follows.0 ∙ f.0)
    where
      apart : fill snap.segno snap.word snap.value ∷ [] ≡ [] → ⊥
      apart e = cc
  still_fitting entry behinds.Done other is follows nothing others =
      let f = subst (Follows g l entry) nothing others in
      ends_not (answered g l entry.request entry.reply) result.Done g follows.1 f.1
  still_fitting entry behinds.Nowhere other is follows nothing others = fitting is

  waits_not : (given : Reply) (section : ℕ) → section_in given ≡ Some section → given ≡ reply.Waiting → ⊥
  waits_not given section is waiting = apart (sym is ∙ ap section_in waiting)
    where
      apart : Some section ≡ None → ⊥
      apart e = cc

  pub onward_at : (e : Element) (d : Descriptor) (work : LineAtWork) → IsJudged (write_of (Words words)) d e
      → (value : ℕ) × (e.outcome ≡ outcome.Written value) → IsSince g l (Words words) → Leads g l (Words words) e d e.outcome work
      → IsOnwardAt work
  onward_at e d work right w since leads =
      by_work work (subst (λ (o : Outcome). Leads g l (Words words) e d o work) w.1 leads since.entry since.filled since.filling)
    where
      by_work : (work : LineAtWork) → StandsAt g l (Answer since.entry (since.filled ++ beside e d ∷ [])) work → IsOnwardAt work
      by_work (works.At Before) stands = tt
      by_work (works.At (Filling (Pointer snap))) stands = tt
      by_work (works.At (Filling (Words others))) stands = λ nothing.
          still_fitting since.entry words.behind others.behind refl since.filling.1 nothing stands.1
      by_work (works.At (Walking walk)) stands = absurd stands
      by_work (works.At (AtLink place)) stands = absurd stands
      by_work (works.At Waiting) stands =
          absurd (waits_not since.entry.reply words.section since.filling.0.section stands.0)
      by_work (works.Ended end) stands = tt
      by_work works.Nowhere stands =
          counted_somewhere since.entry (since.filled ++ beside e d ∷ []) d.bound
          (after_made g l (Words words) e d right w.0 w.1 since.entry since.filled since.filling) stands

-- the writes since the reply
module _ (x : Outline) (setup : List journaled.Entry) (old : LineState) (line : Line) (k : Known) (it : Fill) where
  record IsSinceReply : Type 0 where
    pub entry : journaled.Entry
    pub filled : List Judged
    pub filling : IsFilling old.control line entry filled it
    pub working : IsWorking x setup k.process (at_work x k.process old line (Answer entry filled)) k.view k.told

  since_reply : IsAtWork x setup old line k → old.progress ≡ Filling it → IsSinceReply
  since_reply work is = by_course work.course work.working (subst (IsCome old.control line work.course) is work.come)
    where
      by_course : (course : Course) → IsWorking x setup k.process (at_work x k.process old line course) k.view k.told
          → IsCome old.control line course (Filling it) → IsSinceReply
      by_course (Attempt seen) working come = absurd come.0
      by_course (Answer entry filled) working come =
          record { entry = entry; filled = filled; filling = come; working = working }

  pub is_since : IsAtWork x setup old line k → old.progress ≡ Filling it → IsSince old.control line it
  is_since work is =
      let s = since_reply work is in record { entry = s.entry; filled = s.filled; filling = s.filling }

-- the write that is due, judged on this descriptor from the floor on
module _ (x : Outline) (setup : List journaled.Entry) (old new : LineState) (line : Line) (k : Known) (it : Fill) (e : Element)
    (d : Descriptor) (floor : ℕ) (right : IsJudged (write_of it) d e) (s : IsSinceReply x setup old line k it)
    (point : e.point ≡ k.view.floor) (higher : k.view.floor ≤ floor) where
  abbrev now_at : AtWork
  now_at = at_work x k.process old line (Answer s.entry s.filled)

  abbrev written_after : Course
  written_after = Answer s.entry (s.filled ++ beside e d ∷ [])

  low : k.view.floor ≤ e.point
  low = omega (arith, point)

  high : e.point ≤ floor
  high = omega (arith, point, higher)

  written_working : (value : ℕ) → e.outcome ≡ outcome.Written value
      → IsWorking x setup k.process (gone_on now_at (Core (Seen e)) written_after) (seen_known k (beside e d) floor).view k.told
  written_working value written =
      fill_law x setup k.process now_at s.entry s.filled k.view k.told (write_of it) (beside e d) floor
      (λ unspoilt. (
        asks_fill old.control line s.entry s.filled it s.filling,
        due_fill old.control line s.entry s.filled it s.filling,
        record { right = right; value = value; granted = written },
      )) low high (λ v writer stamp read. absurd (unread v writer stamp (sym written ∙ read))) s.working
    where
      unread : (v writer stamp : ℕ) → outcome.Written value ≡ outcome.Read v writer stamp → ⊥
      unread v writer stamp e = cc

  -- one that was denied, after which nothing is promised of lines
  module _ (denial : Denial) (came : e.outcome ≡ outcome.Denied denial) where
    denied_working : IsWorking x setup k.process (gone_on now_at (Core (Seen e)) (Answer s.entry s.filled))
        (seen_known k (beside e d) floor).view k.told
    denied_working =
        denied_law x setup k.process now_at s.entry s.filled k.view k.told (write_of it) (beside e d) denial floor
        (Answer s.entry s.filled) (λ unspoilt. (due_fill old.control line s.entry s.filled it s.filling, right)) came low high s.working

    events_are : (events_of old.recording.steps ++ old.recording.events) ++ Core (Seen e) ∷ []
        ≡ events_of old.recording.steps ++ (old.recording.events ++ Core (Seen e) ∷ [])
    events_are = append_assoc (events_of old.recording.steps) old.recording.events (Core (Seen e) ∷ [])

    spoilt : IsUnspoilt setup k.process (gone_on now_at (Core (Seen e)) (Answer s.entry s.filled)) (seen_known k (beside e d) floor).view → ⊥
    spoilt unspoilt =
        let all = events_of old.recording.steps ++ old.recording.events in
        let before : IsUnspoilt setup k.process now_at k.view
        = λ already. unspoilt (subst (λ (events : List Event2). IsSpoilt (length setup) k.process events k.view.history (k.view.trace ++ Referred (beside e d) ∷ []))
        events_are (spoilt_more (length setup) k.process all (all ++ Core (Seen e) ∷ []) k.view.history k.view.history
        k.view.trace (k.view.trace ++ Referred (beside e d) ∷ []) (grows_by all (Core (Seen e) ∷ [])) (grows_not k.view.history)
        (grows_by k.view.trace (Referred (beside e d) ∷ [])) already)) in
        unspoilt (subst (λ (events : List Event2). IsSpoilt (length setup) k.process events k.view.history (k.view.trace ++ Referred (beside e d) ∷ []))
        events_are (spoilt_now (length setup) k.process all k.view.history k.view.trace s.entry s.filled (s.working.answering before)
        k.view.history (grows_not k.view.history) (write_of it) (Referred (beside e d))
        (due_fill old.control line s.entry s.filled it s.filling) (right, denial, came)))

    denied_ending : (ends : Result2) (after : Control) → (ends ≡ result.HistoryFull → ⊥)
        → IsEnding x setup k.process (gone_on now_at (Core (Seen e)) (Answer s.entry s.filled)) (seen_known k (beside e d) floor).view ends after
    denied_ending ends after never = record {
      end = λ unspoilt d. absurd (spoilt unspoilt);
      reached = λ full. absurd (never full);
    }

-- A write was judged, and the line took it.
module _ (x : Outline) (setup : List journaled.Entry) (line : Line) (old new : LineState) (o o' : PassValue journaled.Entry)
    (r : asked.Reference) (value : ℕ) (e : Element) where
  rises : (floor stamp : ℕ) → floor ≤ max floor stamp
  rises floor stamp = omega arith

  pub stored_so : (went : Turn) (d : Descriptor) → IsWriting x setup old line (known_of o)
      → (j : WasJudged r.segno (asked_by r) value o.view e o'.view) → d ≡ j.on.desc → o'.amount ≡ o.amount
      → HasStored old line e d new went → IsGoodProgress new.control.registers new.progress → IsPackableControl new.control
      → HasWrote x setup line old went (inside new o')
  stored_so went d a j on amount taken good packable =
      by_outcome e.outcome refl
    where
      t : HasStored old line e j.on.desc new went
      t = subst (λ (c : Descriptor). HasStored old line e c new went) on taken

      floor : ℕ
      floor = max o.view.floor (stamp_read e.outcome)

      known : known_of o' ≡ seen_known (known_of o) (beside e j.on.desc) floor
      known = known_seen r.segno (asked_by r) value o o' e j amount

      s : IsSinceReply x setup old line (known_of o) t.fill
      s = since_reply x setup old line (known_of o) t.fill a.work t.due

      point : e.point ≡ o.view.floor
      point = at_floor r value o.view o'.view e j

      higher : o.view.floor ≤ floor
      higher = rises o.view.floor (stamp_read e.outcome)

      ends_so : (end : End) → HasEnd old (old.recording.events ++ Core (Seen e) ∷ []) end new
          → IsBefore x setup new (left_of x o.view.process new) (seen_known (known_of o) (beside e j.on.desc) floor)
          → Ends x setup old (inside new o')
      ends_so end ended before = record {
        more = Core (Seen e) ∷ [];
        ends = end.ends;
        steps = ended.steps;
        idle = ended.idle;
        fresh = ended.progress;
        first = ended.first;
        packable = packable;
        before = subst (λ (k : Known). IsBefore x setup new (left_of x k.process new) k) (sym known) before;
      }

      stored_at : (work : LineAtWork) → Leads old.control line t.fill e j.on.desc e.outcome work → IsOnwardAt work
          → (to : Turn) → Comes old (Core (Seen e)) work to new → HasStored old line e j.on.desc new to
      stored_at work leads onward to comes = record {
        fill = t.fill;
        due = t.due;
        right = t.right;
        work = work;
        leads = leads;
        onward = onward;
        comes = comes;
      }

      by_written : (stored : ℕ) → e.outcome ≡ outcome.Written stored → (work : LineAtWork)
          → Leads old.control line t.fill e j.on.desc e.outcome work
          → StandsAt old.control line (Answer s.entry (s.filled ++ beside e j.on.desc ∷ [])) work
          → IsOnwardAt work → Comes old (Core (Seen e)) work went new → HasWrote x setup line old went (inside new o')
      by_written stored is works.Nowhere leads stands onward comes = absurd comes
      by_written stored is (works.At progress) leads stands onward comes =
          subst (λ (to : Turn). HasWrote x setup line old to (inside new o')) (sym comes.0) (record {
            element = e;
            desc = j.on.desc;
            stored = stored_at (works.At progress) leads onward turn.More (refl, comes.1);
            stands = (
              subst (IsAtWork x setup new line) (sym known)
                  (come_on x setup line old new (seen_known (known_of o) (beside e j.on.desc) floor) (Answer s.entry s.filled)
                  (Answer s.entry (s.filled ++ beside e j.on.desc ∷ [])) (Core (Seen e)) progress
                  (written_working x setup old new line (known_of o) t.fill e j.on.desc floor t.right s point higher stored is)
                  stands (λ other due. a.work.filled t.fill t.due) comes.1),
              good,
            );
          })
      by_written stored is (works.Ended end) leads stands onward comes =
          subst (λ (to : Turn). HasWrote x setup line old to (inside new o')) (sym comes.0) (record {
            element = e;
            desc = j.on.desc;
            stored = stored_at (works.Ended end) leads onward turn.Ended (refl, comes.1);
            stands = ends_so end comes.1
                (line_ended x setup line old new (seen_known (known_of o) (beside e j.on.desc) floor)
                (Answer s.entry (s.filled ++ beside e j.on.desc ∷ [])) (old.recording.events ++ Core (Seen e) ∷ []) end a.some a.planned
                (written_working x setup old new line (known_of o) t.fill e j.on.desc floor t.right s point higher stored is)
                stands comes.1);
          })

      by_denied : (denial : Denial) → e.outcome ≡ outcome.Denied denial
          → Leads old.control line t.fill e j.on.desc e.outcome (ended (result.Denied denial) old.control)
          → Comes old (Core (Seen e)) (ended (result.Denied denial) old.control) went new
          → HasWrote x setup line old went (inside new o')
      by_denied denial is leads comes =
          subst (λ (to : Turn). HasWrote x setup line old to (inside new o')) (sym comes.0) (record {
            element = e;
            desc = j.on.desc;
            stored = stored_at (ended (result.Denied denial) old.control) leads tt turn.Ended (refl, comes.1);
            stands = ends_so (end_of (result.Denied denial) old.control) comes.1
                (line_over x setup line old new (seen_known (known_of o) (beside e j.on.desc) floor)
                (Answer s.entry s.filled) (old.recording.events ++ Core (Seen e) ∷ []) (end_of (result.Denied denial) old.control) a.some a.planned
                (denied_working x setup old new line (known_of o) t.fill e j.on.desc floor t.right s point higher denial is)
                (denied_ending x setup old new line (known_of o) t.fill e j.on.desc floor t.right s point higher denial is
                (result.Denied denial) (changed old.control (end_of (result.Denied denial) old.control).after) never) comes.1);
          })
        where
          never : result.Denied denial ≡ result.HistoryFull → ⊥
          never full = cc

      by_outcome : (came : Outcome) → e.outcome ≡ came → HasWrote x setup line old went (inside new o')
      by_outcome (outcome.Written stored) is =
          by_written stored is t.work t.leads
          (subst (λ (came : Outcome). Leads old.control line t.fill e j.on.desc came t.work) is t.leads s.entry s.filled s.filling)
          t.onward t.comes
      by_outcome (outcome.Denied denial) is =
          let ends : t.work ≡ ended (result.Denied denial) old.control
          = subst (λ (came : Outcome). Leads old.control line t.fill e j.on.desc came t.work) is t.leads in
          by_denied denial is (subst (λ (work : LineAtWork). Leads old.control line t.fill e j.on.desc e.outcome work) ends t.leads)
          (subst (λ (work : LineAtWork). Comes old (Core (Seen e)) work went new) ends t.comes)
      by_outcome (outcome.Read v writer stamp) is =
          absurd (subst (λ (came : Outcome). Leads old.control line t.fill e j.on.desc came t.work) is t.leads)
      by_outcome (outcome.Entered ring) is =
          absurd (subst (λ (came : Outcome). Leads old.control line t.fill e j.on.desc came t.work) is t.leads)

-- It missed.
module _ (x : Outline) (setup : List journaled.Entry) (line : Line) (old : LineState) (o o' : PassValue journaled.Entry)
    (r : asked.Reference) (by : ℕ) (it : Fill) where
  pub missed_so : IsWriting x setup old line (known_of o) → old.progress ≡ Filling it → reference_in r ≡ write_of it
      → HasMissed r.segno by o.view o'.view → recalled r.segno o.view.memory ≡ None → o'.amount ≡ o.amount
      → MissesWrite x setup line old (record { segno = r.segno; by = by }) (inside old o')
  missed_so a is same m none amount = record {
    misses = record {
      same = same_line old;
      good = a.good;
      fitting = λ fill due. subst IsFitting (same_fill a.due.fill fill (sym a.due.is ∙ due)) a.due.fitting;
      missing = record {
        front = o.view.trace;
        last = ap (λ (v : PassView journaled.Entry). v.trace) m.after;
        news = subst (λ n. n < by) (ap (λ (v : PassView journaled.Entry). all_told v.start v.told v.process r.segno) (sym m.after)) m.news;
        unknown = ap (λ (v : PassView journaled.Entry). recalled r.segno v.memory) m.after ∙ none;
        asks = subst (AsksFor r.segno old.control line) (sym is) (ap (λ (w : Reference). w.segno) (sym same));
        before = subst (IsAtWork x setup old line) (sym (known_missed r.segno by o o' m amount)) a.work;
      };
    };
    due = refl;
  }
    where
      same_fill : (a b : Fill) → Filling a ≡ Filling b → a ≡ b
      same_fill a b e = cc

-- going in and out changes nothing of it
pub writing_entered : (x : Outline) (setup : List journaled.Entry) (state : LineState) (line : Line) (cleared : ℕ)
    (o o' : PassValue journaled.Entry) → o' ≡ record o { view = connected_view cleared (entered_view o.view) }
    → IsWriting x setup state line (known_of o) → IsWriting x setup state line (known_of o')
writing_entered x setup state line cleared o o' e a = subst (IsWriting x setup state line) (sym (ap known_of e)) a

module _ (x : Outline) (setup : List journaled.Entry) (line : Line) (old state : LineState) (o : PassValue journaled.Entry) where
  abbrev out : PassValue journaled.Entry
  out = record o { view = left_view o.view }

  stands_out : (work : LineAtWork) → StandsIn x setup line old work (inside state o) → StandsIn x setup line old work (inside state out)
  stands_out (works.At progress) s = s
  stands_out (works.Ended end) s = record {
    more = s.more;
    ends = s.ends;
    steps = s.steps;
    idle = s.idle;
    fresh = s.fresh;
    first = s.first;
    packable = s.packable;
    before = s.before;
  }
  stands_out works.Nowhere s = s

  wrote_out : (went : Turn) → HasWrote x setup line old went (inside state o) → HasWrote x setup line old went (inside state out)
  wrote_out turn.More s =
      record { element = s.element; desc = s.desc; stored = s.stored; stands = stands_out s.stored.work s.stands }
  wrote_out turn.Ended s =
      record { element = s.element; desc = s.desc; stored = s.stored; stands = stands_out s.stored.work s.stands }
  wrote_out (turn.Missing m) s = record {
    misses = record {
      same = s.misses.same;
      good = s.misses.good;
      fitting = s.misses.fitting;
      missing = record {
        front = s.misses.missing.front;
        last = s.misses.missing.last;
        news = s.misses.missing.news;
        unknown = s.misses.missing.unknown;
        asks = s.misses.missing.asks;
        before = s.misses.missing.before;
      };
    };
    due = s.due;
  }
  wrote_out (turn.AtLink place) s = s

  pub write_left : (went : Turn) (o' : PassValue journaled.Entry) → o' ≡ record o { view = left_view o.view }
      → HasWrote x setup line old went (inside state o) → HasWrote x setup line old went (inside state o')
  write_left went o' e s =
      subst (λ (z : PassValue journaled.Entry). HasWrote x setup line old went (inside state z)) (sym e) (wrote_out went s)
