-- What a turn of an attempt comes to, and one turn after another.
use Rattle.std.proofs.Common.{◌≡◌, ℕ, ◌+◌, ◌<◌, ◌≤◌, ◌^◌, max, List, [], ◌∷◌, ◌++◌, length, append_assoc, append-nil, Some, None, refl, sym, ◌∙◌, ap, subst, arith}
use Rattle.mx_core.specs.AssociativeMemory.{recalled}
use Rattle.mx_core.specs.Judging.{stamp_read}
use Rattle.mx_core.specs.declared.elements.Element.{Element}
use Rattle.mx_core.specs.declared.elements.Event.TheVariants.{Seen}
use Rattle.mx_core.specs.declared.elements.Outcome.{Outcome}
use Rattle.mx_core.specs.declared.elements.Outcome.TheVariants as outcome
use Rattle.mx_desc.specs.Passes.{PassValue}
use Rattle.mx_desc.specs.Referring.{HasMissed}
use Rattle.mx_line.specs.AtWork.{IsCome, IsFree, IsMet, beside, left, moved_on, reference_in}
use Rattle.mx_effring.specs.Walks.{Reached}
use Rattle.mx_line.specs.Looking.{IsLooking, LeadsOn}
use Rattle.mx_line.specs.Operands.{IsGoodProgress, steps_in}
use Rattle.mx_sdw.specs.declared.operations.Op.TheVariants as op
use Rattle.mx_line.specs.Processes.{HasPlainEnd, HasPlainMove, IsReferring as AsksToRefer, Takes, gone}
use Rattle.mx_line.specs.declared.asking.End.{End}
use Rattle.mx_line.specs.declared.asking.Reference as asked
use Rattle.mx_line.specs.declared.at_work.LineAtWork.{LineAtWork}
use Rattle.mx_line.specs.declared.at_work.LineAtWork.TheVariants as works
use Rattle.mx_line.specs.declared.moves.Going.{Going}
use Rattle.mx_line.specs.declared.operands.Progress.{Progress}
use Rattle.mx_line.specs.declared.operands.Progress.TheVariants.{Before, Walking, AtLink, Waiting, Filling}
use Rattle.mx_line.specs.declared.processes.Process.{Process as LineState}
use Rattle.mx_rule.specs.Shown.{all_told}
use Rattle.mx_rule.specs.declared.views.PassView.{PassView}
use Rattle.mx_script.specs.Sessions.{Outline}
use Rattle.mx_script.specs.declared.lines.Line.{Line}
use Rattle.mx_sdw.specs.Descriptors.{Descriptor}
use Rattle.mx_state.specs.declared.journal.Entry as journaled
use Rattle.mx_transcript.specs.Asking.{next}
use Rattle.mx_transcript.specs.Courses.{Course, Attempt, Answer}
use Rattle.mx_transcript.specs.Next.{Ends as AsksToEnd}
use Rattle.mx_transcript.specs.declared.transcripts.Event2.{Event2}
use Rattle.mx_transcript.specs.declared.transcripts.Event2.TheVariants.{Core}
use Rattle.mx_transcript.specs.declared.transcripts.Result2.{Result2}
use Rattle.mx_transcript.specs.declared.transcripts.Result2.TheVariants.{Moved}
use Rattle.mx_upcall.specs.Changes.{changed}
use Rattle.mx_upcall.specs.Control.{Control}
use Rattle.mx_upcall.specs.Soundness.{IsPackableControl}
use Rattle.mx_process.proofs.JudgedLaws.{WasJudged, asked_by, at_floor, is_judged}
use Rattle.mx_process.proofs.KnownLaws.{seen_known, known_seen, known_missed}
use Rattle.mx_process.proofs.PlanLaws.{planned_same}
use Rattle.mx_process.proofs.WorkLaws.{IsNext, line_ended, line_ends, line_goes_on, never_fills}
use Rattle.mx_process.specs.Attempts.{HasAttempted}
use Rattle.mx_process.specs.Plans.{left_of, number_in}
use Rattle.mx_process.specs.Processes.{Known, AsksFor, AsksIn, IsReferringIn, IsAtWork, IsBefore, known_of}
use Rattle.mx_process.specs.Turns.{Ends, GoesOn, Links, HasEnd, HasEvent, HasTaken, HasTurned, Comes, Inside, IsAttempting, IsReferring, IsSameLine, Misses, inside}
use Rattle.mx_line.specs.declared.operands.Place.{Place}
use Rattle.mx_process.specs.declared.misses.Miss.{Miss}
use Rattle.mx_process.specs.declared.misses.Fast.{Fast}
use Rattle.mx_process.specs.declared.misses.Fast.TheVariants as fast
use Rattle.mx_process.specs.declared.turns.Turn.{Turn}
use Rattle.mx_process.specs.declared.turns.Turn.TheVariants as turn

-- a line that is at work and has not ended has a step before it
pub some_steps : (x : Outline) (setup : List journaled.Entry) (state : LineState) (line : Line) (k : Known)
    → IsAttempting x setup state line k → 1 ≤ steps_in state.progress
some_steps x setup state line k a = by_progress state.progress refl a.good a.free a.work.course a.work.come
  where
    by_progress : (progress : Progress) → state.progress ≡ progress → IsGoodProgress state.control.registers progress → IsFree progress
        → (course : Course) → IsCome state.control line course progress → 1 ≤ steps_in progress
    by_progress Before is good free course come = omega arith
    by_progress (Walking walk) is good free course come = let short = good.bounded.short in omega (arith, short)
    by_progress (AtLink place) is good free course come = omega arith
    by_progress (Filling fill) is good free course come = absurd (free fill refl)
    by_progress Waiting is good free (Attempt seen) come = absurd come.0
    by_progress Waiting is good free (Answer entry filled) come = absurd (a.other _ come.2)

-- and no more than ten
pub few_steps : (x : Outline) (setup : List journaled.Entry) (state : LineState) (line : Line) (k : Known)
    → IsAttempting x setup state line k → steps_in state.progress ≤ 10
few_steps x setup state line k a = by_progress state.progress a.free
  where
    by_progress : (progress : Progress) → IsFree progress → steps_in progress ≤ 10
    by_progress Before free = omega arith
    by_progress (Walking walk) free = omega arith
    by_progress (AtLink place) free = omega arith
    by_progress Waiting free = omega arith
    by_progress (Filling fill) free = absurd (free fill refl)

-- the reference for which a line at work asks
pub refers_so : (x : Outline) (setup : List journaled.Entry) (state : LineState) (line : Line) (k : Known) (r : asked.Reference)
    → IsAttempting x setup state line k → AsksToRefer state line r → IsReferring state line r
refers_so x setup state line k r a refers = record {
  memory = refers.memory a.work.course a.work.come;
  asks = λ course come. refers.says.is course come;
  storable = refers.says.storable;
}

-- and the indirect word for which it looks
abbrev pub reading : Place → asked.Reference
reading place = record { op = op.Indirect; segno = place.segno; word = place.word; ring = place.ring; stores = None }

pub looks_so : (x : Outline) (setup : List journaled.Entry) (state : LineState) (line : Line) (k : Known) (walk : Reached) (place : Place)
    → IsAttempting x setup state line k → IsLooking state.control line state.progress walk place → IsReferring state line (reading place)
looks_so x setup state line k walk place a looking = record {
  memory = looking.memory a.work.course a.work.come;
  asks = looking.asks;
  storable = λ is. absurd cc;
}

-- a line that is led on by the word for which it looks
pub led_on : (old new : LineState) (line : Line) (e : Element) (d : Descriptor) (walk onward : Reached) (place : Place)
    → IsLooking old.control line old.progress walk place → LeadsOn old.control line walk e d onward
    → HasEvent old (Core (Seen e)) (Walking onward) new → HasTaken old line e d new turn.More
led_on old new line e d walk onward place looking leads has = record {
  work = works.At (Walking onward);
  takes = looking.takes e d onward leads;
  comes = (refl, has);
}

-- a line that ends plainly by an element
pub taken_plainly : (old new : LineState) (line : Line) (e : Element) (d : Descriptor) (ends : Result2) → HasPlainEnd old line e ends
    → Comes old (Core (Seen e)) (left old.control (Some ends)) turn.Ended new → HasTaken old line e d new turn.Ended
taken_plainly old new line e d ends plain comes = record {
  work = left old.control (Some ends);
  takes = record { taken = plain.taken d; good = plain.good; nearer = tt };
  comes = comes;
}

-- a line that ends by a granted call or return
pub taken_moved : (old new : LineState) (line : Line) (e : Element) (d : Descriptor) (going : Going)
    → HasPlainMove old.control line old.progress e d going → new.first ≡ old.first → new.control ≡ gone old.control going d
    → new.recording.steps ≡ old.recording.steps
    ++ (number_in old, old.recording.events ++ Core (Seen e) ∷ [], Moved new.control.registers.ring new.control.registers.procedure) ∷ []
    → new.recording.events ≡ [] → new.progress ≡ Before → HasTaken old line e d new turn.Ended
taken_moved old new line e d going m first done steps idle fresh =
    let control : new.control ≡ changed old.control m.after = done ∙ sym m.is in record {
      work = moved_on m.after;
      takes = record { taken = m.taken; good = m.good; nearer = tt };
      comes = (
        refl,
        record {
          first = first;
          control = control;
          steps = steps
              ∙ ap (λ (g : Control). old.recording.steps
              ++ (number_in old, old.recording.events ++ Core (Seen e) ∷ [], Moved g.registers.ring g.registers.procedure) ∷ []) control;
          idle = idle;
          progress = fresh;
        },
      );
    }

pub same_line : (state : LineState) → IsSameLine state state
same_line state = record {
  first = refl;
  control = refl;
  steps = refl;
  more = [];
  events = sym (append-nil state.recording.events);
  room = refl;
}

same_line_on : (old between new : LineState) → IsSameLine old between → IsSameLine between new → IsSameLine old new
same_line_on old between new a b = record {
  first = b.first ∙ a.first;
  control = b.control ∙ a.control;
  steps = b.steps ∙ a.steps;
  more = a.more ++ b.more;
  events = b.events ∙ ap (λ (l : List Event2). l ++ b.more) a.events ∙ append_assoc old.recording.events a.more b.more;
  room = b.room ∙ a.room;
}

-- a turn, and then others
module _ (x : Outline) (setup : List journaled.Entry) (line : Line) (old : LineState) (between new : Inside) where
  then_ends : GoesOn x setup line old between → Ends x setup between.state new → Ends x setup old new
  then_ends g e = record {
    more = g.same.more ++ e.more;
    ends = e.ends;
    steps = e.steps
        ∙ (λ i. g.same.steps i ++ (g.same.first i + length (g.same.steps i), g.same.events i ++ e.more, e.ends) ∷ [])
        ∙ ap (λ (l : List Event2). old.recording.steps ++ (number_in old, l, e.ends) ∷ []) (append_assoc old.recording.events g.same.more e.more);
    idle = e.idle;
    fresh = e.fresh;
    first = e.first ∙ g.same.first;
    packable = e.packable;
    before = e.before;
  }

  then_misses : (miss : Miss) → GoesOn x setup line old between → Misses x setup line between.state miss new → Misses x setup line old miss new
  then_misses miss g m = record {
    same = same_line_on old between.state new.state g.same m.same;
    good = m.good;
    fitting = m.fitting;
    missing = m.missing;
  }

  then_links : (place : Place) → GoesOn x setup line old between → Links x setup line between.state place new → Links x setup line old place new
  then_links place g l = record {
    same = same_line_on old between.state new.state g.same l.same;
    attempting = l.attempting;
    linking = l.linking;
  }

  then_goes : GoesOn x setup line old between → GoesOn x setup line between.state new → GoesOn x setup line old new
  then_goes g h = record {
    same = same_line_on old between.state new.state g.same h.same;
    attempting = h.attempting;
    nearer = let a = g.nearer in let b = h.nearer in omega (arith, a, b);
  }

  pub goes_then : (came : Fast) → GoesOn x setup line old between → HasAttempted x setup line between.state came new
      → HasAttempted x setup line old came new
  goes_then fast.Done g e = then_ends g e
  goes_then (fast.Missing segno by) g m = then_misses (record { segno = segno; by = by }) g m
  goes_then (fast.Link segno word ring) g l = then_links (record { segno = segno; word = word; ring = ring }) g l
  goes_then fast.Journal g e = e

  pub goes_turned : (went : Turn) → GoesOn x setup line old between → HasTurned x setup line between.state went new
      → HasTurned x setup line old went new
  goes_turned turn.More g h = then_goes g h
  goes_turned turn.Ended g e = then_ends g e
  goes_turned (turn.Missing miss) g m = then_misses miss g m
  goes_turned (turn.AtLink place) g l = then_links place g l

-- a turn behind which the line goes on
pub turned_more : (x : Outline) (setup : List journaled.Entry) (line : Line) (old : LineState) (new : Inside) (went : Turn)
    → went ≡ turn.More → HasTurned x setup line old went new → GoesOn x setup line old new
turned_more x setup line old new went is = subst (λ (t : Turn). HasTurned x setup line old t new) is

-- A reference was judged, and the line took it.
module _ (x : Outline) (setup : List journaled.Entry) (line : Line) (old new : LineState) (o o' : PassValue journaled.Entry)
    (r : asked.Reference) (value : ℕ) (e : Element) where
  higher : (floor stamp : ℕ) → floor ≤ max floor stamp
  higher floor stamp = omega arith

  stamp_low : (floor : ℕ) (came : Outcome) (word writer stamp : ℕ) → came ≡ outcome.Read word writer stamp
      → stamp ≤ max floor (stamp_read came)
  stamp_low floor came word writer stamp is =
      let read : stamp_read came ≡ stamp = ap stamp_read is in
      let low : stamp ≤ max floor stamp = omega arith in
      subst (λ s. stamp ≤ max floor s) (sym read) low

  is_next : IsAttempting x setup old line (known_of o) → IsReferring old line r
      → (j : WasJudged r.segno (asked_by r) value o.view e o'.view)
      → ((w : ℕ) → r.stores ≡ Some w → value ≡ w)
      → ((word writer stamp : ℕ) → e.outcome ≡ outcome.Read word writer stamp → word < 2 ^ 36)
      → IsNext x setup line old (known_of o) (reference_in r) e j.on.desc (max o.view.floor (stamp_read e.outcome))
  is_next a asks j stored short = record {
    work = a.work;
    asks = asks.asks;
    right = is_judged r value o.view o'.view e j asks.storable stored short;
    point = at_floor r value o.view o'.view e j;
    higher = higher o.view.floor (stamp_read e.outcome);
    stamp = λ word writer stamp is. stamp_low o.view.floor e.outcome word writer stamp is;
  }

  pub meets : IsAttempting x setup old line (known_of o) → IsReferring old line r
      → (j : WasJudged r.segno (asked_by r) value o.view e o'.view)
      → ((w : ℕ) → r.stores ≡ Some w → value ≡ w)
      → ((word writer stamp : ℕ) → e.outcome ≡ outcome.Read word writer stamp → word < 2 ^ 36)
      → IsMet old.control line (works.At old.progress) e j.on.desc
  meets a asks j stored short = record {
    course = a.work.course;
    stands = a.work.come;
    asked = reference_in r;
    asks = asks.asks a.work.course a.work.come;
    right = is_judged r value o.view o'.view e j asks.storable stored short;
  }

  pub turned : (went : Turn) (d : Descriptor) → IsAttempting x setup old line (known_of o) → IsReferring old line r
      → (j : WasJudged r.segno (asked_by r) value o.view e o'.view) → d ≡ j.on.desc → o'.amount ≡ o.amount
      → ((w : ℕ) → r.stores ≡ Some w → value ≡ w)
      → ((word writer stamp : ℕ) → e.outcome ≡ outcome.Read word writer stamp → word < 2 ^ 36)
      → HasTaken old line e d new went → HasTurned x setup line old went (inside new o')
  turned went d a asks j on amount stored short taken =
      by_work taken.work (subst (λ (c : Descriptor). Takes old.control line old.progress e c taken.work) on taken.takes) taken.comes
    where
      floor : ℕ
      floor = max o.view.floor (stamp_read e.outcome)

      next_is : IsNext x setup line old (known_of o) (reference_in r) e j.on.desc floor
      next_is = is_next a asks j stored short

      known : known_of o' ≡ seen_known (known_of o) (beside e j.on.desc) floor
      known = known_seen r.segno (asked_by r) value o o' e j amount

      by_work : (work : LineAtWork) → Takes old.control line old.progress e j.on.desc work → Comes old (Core (Seen e)) work went new
          → HasTurned x setup line old went (inside new o')
      by_work works.Nowhere takes comes = absurd comes
      by_work (works.At progress) takes comes =
          let has = comes.1 in
          let is : steps_in progress < steps_in old.progress = takes.nearer in
          let good : IsGoodProgress new.control.registers new.progress
          = subst (λ (g : Control). IsGoodProgress g.registers new.progress) (sym has.control)
          (subst (λ (p : Progress). IsGoodProgress old.control.registers p) (sym has.progress) takes.good) in
          subst (λ (t : Turn). HasTurned x setup line old t (inside new o')) (sym comes.0) (record {
            same = record {
              first = has.first;
              control = has.control;
              steps = has.steps;
              more = Core (Seen e) ∷ [];
              events = has.events;
              room = has.room;
            };
            attempting = record {
              sayable = a.sayable;
              other = a.other;
              free = subst IsFree (sym has.progress) (free_after progress takes);
              packable = subst IsPackableControl (sym has.control) a.packable;
              good = good;
              some = subst (λ (k : Known). 1 ≤ k.process) (sym known) a.some;
              planned = planned_same x o.view.process o'.view.process old new has.first has.steps
                  (ap (λ (k : Known). k.process) (sym known)) a.planned;
              countable = subst (λ n. n < 2 ^ 32) (λ i. sym has.first i + length (sym has.steps i)) a.countable;
              work = subst (IsAtWork x setup new line) (sym known)
                  (line_goes_on x setup line old (known_of o) (reference_in r) e j.on.desc floor new progress next_is takes has);
            };
            nearer = subst (λ (p : Progress). steps_in p < steps_in old.progress) (sym has.progress) is;
          })
        where
          free_after : (progress : Progress) → Takes old.control line old.progress e j.on.desc (works.At progress) → IsFree progress
          free_after progress takes fill is =
              never_fills x setup line old (known_of o) (reference_in r) e j.on.desc floor next_is fill
              (subst (λ (p : Progress). Takes old.control line old.progress e j.on.desc (works.At p)) is takes)
      by_work (works.Ended end) takes comes =
          let ended = comes.1 in
          subst (λ (t : Turn). HasTurned x setup line old t (inside new o')) (sym comes.0) (record {
            more = Core (Seen e) ∷ [];
            ends = end.ends;
            steps = ended.steps;
            idle = ended.idle;
            fresh = ended.progress;
            first = ended.first;
            packable = subst IsPackableControl (sym ended.control) takes.good.packable;
            before = subst (λ (k : Known). IsBefore x setup new (left_of x k.process new) k) (sym known)
                (line_ends x setup line old (known_of o) (reference_in r) e j.on.desc floor new end next_is a.some a.planned takes ended);
          })

-- A reference missed.
module _ (x : Outline) (setup : List journaled.Entry) (line : Line) (old : LineState) (o o' : PassValue journaled.Entry)
    (r : asked.Reference) (by : ℕ) where
  pub turned_missing : IsAttempting x setup old line (known_of o) → IsReferring old line r → HasMissed r.segno by o.view o'.view
      → recalled r.segno o.view.memory ≡ None → o'.amount ≡ o.amount
      → Misses x setup line old (record { segno = r.segno; by = by }) (inside old o')
  turned_missing a asks m none amount = record {
    same = same_line old;
    good = a.good;
    fitting = λ fill due. absurd (a.free fill due);
    missing = record {
      front = o.view.trace;
      last = ap (λ (v : PassView journaled.Entry). v.trace) m.after;
      news = subst (λ n. n < by) (ap (λ (v : PassView journaled.Entry). all_told v.start v.told v.process r.segno) (sym m.after)) m.news;
      unknown = ap (λ (v : PassView journaled.Entry). recalled r.segno v.memory) m.after ∙ none;
      asks = asks_for old.progress refl (λ course come. subst (AsksIn r.segno) (sym (asks.asks course come)) refl);
      before = subst (IsAtWork x setup old line) (sym (known_missed r.segno by o o' m amount)) a.work;
    };
  }
    where
      asks_for : (progress : Progress) → old.progress ≡ progress → IsReferringIn r.segno old.control line progress
          → AsksFor r.segno old.control line progress
      asks_for Before is in_it = in_it
      asks_for (Walking walk) is in_it = in_it
      asks_for (AtLink place) is in_it = in_it
      asks_for Waiting is in_it = in_it
      asks_for (Filling fill) is in_it = absurd (a.free fill is)

-- The line asks for its end.
module _ (x : Outline) (setup : List journaled.Entry) (line : Line) (old new : LineState) (o : PassValue journaled.Entry)
    (end : End) where
  pub turned_ended : IsAttempting x setup old line (known_of o)
      → ((course : Course) → IsCome old.control line course old.progress
      → next old.control line course ≡ AsksToEnd end.ends (changed old.control end.after))
      → IsPackableControl (changed old.control end.after) → HasEnd old old.recording.events end new
      → Ends x setup old (inside new o)
  turned_ended a asks packable ended = record {
    more = [];
    ends = end.ends;
    steps = ended.steps
        ∙ ap (λ (l : List Event2). old.recording.steps ++ (number_in old, l, end.ends) ∷ []) (sym (append-nil old.recording.events));
    idle = ended.idle;
    fresh = ended.progress;
    first = ended.first;
    packable = subst IsPackableControl (sym ended.control) packable;
    before = line_ended x setup line old new (known_of o) a.work.course old.recording.events end a.some a.planned a.work.working
        (asks a.work.course a.work.come) ended;
  }
