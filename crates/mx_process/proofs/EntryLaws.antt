-- A call of a line was entered, or found the journal full: the line goes on by the answer, or ends.
use Rattle.std.proofs.Common.{◌≡◌, ◌⊎◌, inl, inr, ℕ, suc, ◌+◌, ◌<◌, ◌≤◌, ◌^◌, nat_le, true, map, List, [], ◌∷◌, ◌++◌, length, append_assoc, append-nil, Some, Result, Ok, refl, sym, ◌∙◌, ap, subst, arith}
use Rattle.std.proofs.lemmas.Bool.Decides.{nat_tests}
use Rattle.std.proofs.lemmas.List.{length-map}
use Rattle.std.specs.List.{slice_get}
use Rattle.std.specs.Prelude.{IfOk}
use Rattle.mx_closing.specs.Views.{kept_in, marked_in, view_in}
use Rattle.mx_core.specs.declared.elements.Element.{Element}
use Rattle.mx_desc.specs.Passes.{PassValue}
use Rattle.mx_line.proofs.StandingLaws.{waiting_calls}
use Rattle.mx_line.specs.AtWork.{IsCome, StandsAt, IsTaken}
use Rattle.mx_line.specs.Operands.{IsGoodProgress}
use Rattle.mx_line.specs.declared.asking.End.{End}
use Rattle.mx_line.specs.declared.at_work.LineAtWork.{LineAtWork}
use Rattle.mx_line.specs.declared.at_work.LineAtWork.TheVariants as works
use Rattle.mx_line.specs.declared.operands.Progress.{Progress}
use Rattle.mx_line.specs.declared.fills.Fill.{Fill}
use Rattle.mx_line.specs.declared.operands.Progress.TheVariants.{Waiting, Filling}
use Rattle.mx_line.specs.declared.processes.Process.{Process as LineState}
use Rattle.mx_office.specs.Blocking.{HasBlocked}
use Rattle.mx_office.specs.Replies.{IsReplyFor}
use Rattle.mx_office.specs.Serving.{HasEntered, HasGrown, HasMetLimit, answer_of, told_to}
use Rattle.mx_office.specs.declared.answers.Answer.{Answer}
use Rattle.mx_office.specs.declared.answers.Answer.TheVariants as answer
use Rattle.mx_office.specs.declared.answers.BlockError.{BlockError}
use Rattle.mx_office.specs.declared.answers.Blocked.{Blocked}
use Rattle.mx_office.specs.declared.answers.Served.{Served}
use Rattle.mx_request.specs.declared.replies.Reply.{Reply}
use Rattle.mx_request.specs.declared.requests.Request.{Request}
use Rattle.mx_request.specs.declared.requests.Request.TheVariants.{Block, Link, Logout, Resume}
use Rattle.mx_script.specs.Sessions.{Outline, limit_of}
use Rattle.mx_script.specs.declared.lines.Line.{Line}
use Rattle.mx_script.specs.declared.lines.Line.TheVariants.{Ask}
use Rattle.mx_sdw.specs.Descriptors.{Descriptor, unknown_desc}
use Rattle.mx_sdw.specs.declared.denials.Denial.{Denial}
use Rattle.mx_state.specs.declared.journal.Entry as journaled
use Rattle.mx_ties.proofs.WorkingLaws.{enter_law, told_law}
use Rattle.mx_ties.specs.AtWork.{gone_on}
use Rattle.mx_ties.specs.Closed.{followed}
use Rattle.mx_ties.specs.Views.{Marked, View}
use Rattle.mx_ties.specs.Working.{IsEnding, IsWorking}
use Rattle.mx_transcript.specs.Asking.{next}
use Rattle.mx_transcript.specs.Courses.{Course, Answer as Answering}
use Rattle.mx_transcript.specs.Lines.{IsEnd}
use Rattle.mx_transcript.specs.Misses.{IsChanged}
use Rattle.mx_transcript.specs.Next.{Next, Calls}
use Rattle.mx_transcript.specs.Settings.{Setting, entry_at}
use Rattle.mx_transcript.specs.Standing.{own_setting}
use Rattle.mx_transcript.specs.declared.transcripts.Event2.{Event2}
use Rattle.mx_transcript.specs.declared.transcripts.Event2.TheVariants.{Entry}
use Rattle.mx_transcript.specs.declared.transcripts.Result2.{Result2}
use Rattle.mx_transcript.specs.declared.transcripts.Result2.TheVariants as result
use Rattle.mx_upcall.specs.Changes.{changed}
use Rattle.mx_upcall.specs.Control.{Control}
use Rattle.mx_upcall.specs.Soundness.{IsPackableControl}
use Rattle.mx_process.proofs.AnswerLaws.{IsLinker, IsOwnLine, blocks, callers, left_at, logout_asks, logout_fills, message_ends, stands_alike, told_waiting, with_reply}
use Rattle.mx_process.proofs.PlanLaws.{planned_same}
use Rattle.mx_process.proofs.TurnLaws.{same_line}
use Rattle.mx_process.proofs.WorkLaws.{come_on, line_ended, line_over}
use Rattle.mx_process.specs.Entries.{EndsBy, GoesBy, HasAnswered, HasCalled, HasFilled, HasLastReply, HasReply, IsAtCall, IsLeft, IsLeftAt, IsReplied, StaysAt, plainest}
use Rattle.mx_process.specs.Plans.{IsPlanned, number_in}
use Rattle.mx_process.specs.Processes.{IsFitting, IsFittingAt, IsAtWork, at_work, known_of}
use Rattle.mx_process.specs.Turns.{HasEnd, HasEvent, inside}
use Rattle.mx_process.specs.declared.entries.Answered.{Answered}
use Rattle.mx_process.specs.declared.entries.Answered.TheVariants as came

next_of : (n : ℕ) → n + 1 ≡ suc n
next_of n = omega arith

-- a view with one entry more, when more was told
abbrev entered_view : View → List Marked → ℕ → View
entered_view v more floor = record v { history = v.history ++ more; floor = floor; amount = suc v.amount }

-- where a process waits no write is due
waiting_free : (progress : Progress) → progress ≡ Waiting → (fill : Fill) → progress ≡ Filling fill → ⊥
waiting_free progress is fill due = apart (sym is ∙ due)
  where
    apart : Waiting ≡ Filling fill → ⊥
    apart e = cc

-- what follows the link words of a section is known where a reply leaves a line that goes on
waiting_fits : (progress : Progress) → progress ≡ Waiting → IsFittingAt progress
waiting_fits progress is fill due = absurd (waiting_free progress is fill due)

same_fill : (fill other : Fill) → Filling fill ≡ Filling other → fill ≡ other
same_fill fill other e = cc

fits_left : (progress : Progress) → IsLeft progress → IsFittingAt progress
fits_left progress (inl due) fill is = subst IsFitting (same_fill due.fill fill (sym due.is ∙ is)) due.fitting
fits_left progress (inr waiting) fill is = waiting_fits progress waiting fill is

-- A call of a line was entered.
module _ (x : Outline) (setup : List journaled.Entry) (line : Line) (old : LineState) (o o' : PassValue journaled.Entry)
    (ring : ℕ) (request : Request) (served : Served) (h : HasEntered x setup ring request served o o') where
  viewed : view_in o' ≡ entered_view (view_in o) h.grown.more o'.view.floor
  viewed = λ i. record {
    trace = map kept_in (h.grown.trace i);
    history = h.grown.history i;
    floor = o'.view.floor;
    amount = (h.amount ∙ next_of o.amount) i;
  }

  -- which is a call of this process
  its_call : Calls h.marked.entry.ring h.marked.entry.request ≡ Calls ring request
  its_call = ap (λ (e : journaled.Entry). Calls e.ring e.request) h.entry

  its_request : h.marked.entry.request ≡ request
  its_request = ap (λ (e : journaled.Entry). e.request) h.entry

  place_is : length setup + suc h.place ≡ served.number
  place_is = sym h.is

  module _ (course : Course) (asks : next old.control line course ≡ Calls ring request)
      (working : IsWorking x setup o.view.process (at_work x o.view.process old line course) (view_in o) (told_to o)) where
    entered_at : IsWorking x setup o.view.process
        (gone_on (at_work x o.view.process old line course) (Entry (length setup + suc h.place)) (Answering h.marked.entry []))
        (entered_view (view_in o) h.grown.more o'.view.floor) (told_to o')
    entered_at =
        let is = h.is in
        let reached = h.reached in
        enter_law x setup o.view.process (at_work x o.view.process old line course) (view_in o) (told_to o) (told_to o')
        h.grown.more h.marked h.place o'.view.floor
        (λ unspoilt. asks ∙ sym its_call)
        (ap (λ (l : List Marked). slice_get l h.place) (sym h.grown.history) ∙ h.at)
        (ap (λ (e : journaled.Entry). e.process) h.entry)
        (h.mark ∙ sym (length-map o.view.trace kept_in))
        (subst (λ n. o.view.floor < n) h.is h.above) (omega (arith, reached, is)) h.grown.told
        (λ segno changed. subst (λ n. n ≤ told_to o' segno) h.is (h.own segno
        (subst (λ n. IsChanged x (followed setup (marked_in o'.view.history)) o.view.process segno n) (sym h.is)
        (subst (λ (l : List Marked). IsChanged x (followed setup l) o.view.process segno (length setup + suc h.place)) (sym h.grown.history) changed))))
        working

    entered_working : IsWorking x setup o'.view.process
        (gone_on (at_work x o'.view.process old line course) (Entry served.number) (Answering h.marked.entry [])) (view_in o') (told_to o')
    entered_working =
        subst (λ p. IsWorking x setup p (gone_on (at_work x p old line course) (Entry served.number) (Answering h.marked.entry [])) (view_in o') (told_to o'))
        (sym h.grown.process)
        (subst (λ (v : View). IsWorking x setup o.view.process
        (gone_on (at_work x o.view.process old line course) (Entry served.number) (Answering h.marked.entry [])) v (told_to o')) (sym viewed)
        (subst (λ n. IsWorking x setup o.view.process
        (gone_on (at_work x o.view.process old line course) (Entry n) (Answering h.marked.entry []))
        (entered_view (view_in o) h.grown.more o'.view.floor) (told_to o')) place_is entered_at))

  -- the line waits for a message
  pub waits_so : (new : LineState) → IsAtCall x setup old line ring request (known_of o) → request ≡ Block
      → served.answer ≡ answer.Waiting → HasEvent old (Entry served.number) Waiting new → IsAtWork x setup new line (known_of o')
  waits_so new a block waiting has =
      come_on x setup line old new (known_of o') a.work.course (Answering h.marked.entry []) (Entry served.number) Waiting
      (entered_working a.work.course (a.calls a.work.course a.work.come) a.work.working) (
        told_waiting h.marked.entry.reply (sym h.answered ∙ waiting),
        its_request ∙ block,
        blocks old.control line a.work.course ring Block old.progress a.work.come
            (a.calls a.work.course a.work.come ∙ ap (Calls ring) block),
      ) (λ fill due. absurd (waiting_free Waiting refl fill due)) has

  -- what the line is told
  pub has_reply : IsAtCall x setup old line ring request (known_of o) → (request ≡ Resume → served.answer ≡ answer.Waiting → ⊥)
      → HasReply old line served.answer
  has_reply a awake = record {
    course = a.work.course;
    come = a.work.come;
    entry = h.marked.entry;
    calls = a.calls a.work.course a.work.come ∙ sym its_call;
    told = h.answered;
    linked = h.linked;
    fits = subst (λ (q : Request). IsReplyFor q h.marked.entry.reply) (sym its_request) h.fits;
    awake = λ waiting resume. awake (sym its_request ∙ resume) (h.answered ∙ ap answer_of waiting);
  }

  -- the line goes on by the answer, or ends
  pub called_so : (new : LineState) (to : Answered) → IsAtCall x setup old line ring request (known_of o)
      → HasAnswered old line served.number served.answer to new → IsGoodProgress new.control.registers new.progress
      → IsPackableControl new.control → HasCalled x setup line old to (inside new o')
  called_so new to a s good packable =
      by_work to s.work (s.stands a.work.course h.marked.entry a.work.come (a.calls a.work.course a.work.come ∙ sym its_call) h.answered)
      s.left s.goes
    where
      working : IsWorking x setup o'.view.process
          (gone_on (at_work x o'.view.process old line a.work.course) (Entry served.number) (Answering h.marked.entry [])) (view_in o') (told_to o')
      working = entered_working a.work.course (a.calls a.work.course a.work.come) a.work.working

      -- a line that logs out is told of nothing that is to be written
      unfilled_by : (progress : Progress) → StandsAt old.control line (Answering h.marked.entry []) (works.At progress)
          → (fill : Fill) → progress ≡ Filling fill → line ≡ Ask Logout → ⊥
      unfilled_by progress stands fill due out =
          logout_fills old.control line h.marked.entry out
          (logout_asks old.control line a.work.course h.marked.entry.ring h.marked.entry.request old.progress a.work.come
          (a.calls a.work.course a.work.come ∙ sym its_call) out)
          (subst (λ (q : Request). IsReplyFor q h.marked.entry.reply) (sym its_request) h.fits) fill
          (subst (λ (r : Progress). StandsAt old.control line (Answering h.marked.entry []) (works.At r)) due stands)

      by_work : (to : Answered) (work : LineAtWork) → StandsAt old.control line (Answering h.marked.entry []) work → IsLeftAt work
          → GoesBy old (Entry served.number) work to new → HasCalled x setup line old to (inside new o')
      by_work came.More (works.At progress) stands left has = record {
        stays = record {
          same = record {
            first = has.first;
            control = has.control;
            steps = has.steps;
            more = Entry served.number ∷ [];
            events = has.events;
            room = has.room;
          };
          work = come_on x setup line old new (known_of o') a.work.course (Answering h.marked.entry []) (Entry served.number) progress
              working stands (unfilled_by progress stands) has;
          good = good;
          fitting = fits_left new.progress (subst IsLeft (sym has.progress) left);
        };
        left = subst IsLeft (sym has.progress) left;
      }
      by_work came.Done (works.Ended end) stands left ended = record {
        ended = record {
          more = Entry served.number ∷ [];
          ends = end.ends;
          steps = ended.steps;
          idle = ended.idle;
          fresh = ended.progress;
          first = ended.first;
          packable = packable;
          before = line_ended x setup line old new (known_of o') (Answering h.marked.entry [])
              (old.recording.events ++ Entry served.number ∷ []) end (subst (λ p. 1 ≤ p) (sym h.grown.process) a.some)
              (subst (λ p. IsPlanned x p old) (sym h.grown.process) a.planned) working stands ended;
        };
        undenied = undenied end.ends left;
      }
        where
          undenied : (ends : Result2) → IsReplied ends → (denial : Denial) → ends ≡ result.Denied denial → ⊥
          undenied ends plain denial e = elim plain [
            | inl done ↦ at_done (sym done ∙ e)
            | inr refused ↦ at_refused (sym refused ∙ e)
          ]
            where
              at_done : result.Done ≡ result.Denied denial → ⊥
              at_done k = cc

              at_refused : result.Refused ≡ result.Denied denial → ⊥
              at_refused k = cc
      by_work came.More (works.Ended end) stands left goes = absurd goes
      by_work came.Done (works.At progress) stands left goes = absurd goes
      by_work came.More works.Nowhere stands left goes = absurd goes
      by_work came.Done works.Nowhere stands left goes = absurd goes

-- The journal was full.
module _ (x : Outline) (setup : List journaled.Entry) (line : Line) (old new : LineState) (o o' : PassValue journaled.Entry)
    (ring limit : ℕ) (request : Request) (h : HasMetLimit x limit o o') where
  told_view : view_in o' ≡ record (view_in o) { history = (view_in o).history ++ h.grown.more; floor = o'.view.floor }
  told_view = λ i. record {
    trace = map kept_in (h.grown.trace i);
    history = h.grown.history i;
    floor = o'.view.floor;
    amount = h.amount i;
  }

  told_working : (course : Course)
      → IsWorking x setup o.view.process (at_work x o.view.process old line course) (view_in o) (told_to o)
      → IsWorking x setup o'.view.process (at_work x o'.view.process old line course) (view_in o') (told_to o')
  told_working course working =
      subst (λ p. IsWorking x setup p (at_work x p old line course) (view_in o') (told_to o')) (sym h.grown.process)
      (subst (λ (v : View). IsWorking x setup o.view.process (at_work x o.view.process old line course) v (told_to o')) (sym told_view)
      (told_law x setup o.view.process (at_work x o.view.process old line course) (view_in o) (told_to o) (told_to o') h.grown.more
      o'.view.floor h.grown.floor h.grown.told working))

  reached : limit_of x ≤ o'.view.floor
  reached = let at = h.limit in let floor = h.floor in omega (arith, at, floor)

  at_limit : (m n : ℕ) → m ≤ n → nat_le m n ≡ true
  at_limit m n below = grind (arith, nat_tests, below)

  pub full_so : IsAtCall x setup old line ring request (known_of o) → IsPackableControl new.control → HasFilled old new
      → HasCalled x setup line old came.Done (inside new o')
  full_so a packable f = record {
    ended = record {
      more = [];
      ends = f.end.ends;
      steps = f.ended.steps
          ∙ ap (λ (l : List Event2). old.recording.steps ++ (number_in old, l, f.end.ends) ∷ []) (sym (append-nil old.recording.events));
      idle = f.ended.idle;
      fresh = f.ended.progress;
      first = f.ended.first;
      packable = packable;
      before = line_over x setup line old new (known_of o') a.work.course old.recording.events f.end
          (subst (λ p. 1 ≤ p) (sym h.grown.process) a.some) (subst (λ p. IsPlanned x p old) (sym h.grown.process) a.planned)
          (told_working a.work.course a.work.working) ending f.ended;
    };
    undenied = λ denial e. apart denial (sym f.full ∙ e);
  }
    where
      apart : (denial : Denial) → result.HistoryFull ≡ result.Denied denial → ⊥
      apart denial e = cc

      same_end : (asks : Next) → asks ≡ Calls ring request → (d : Element → Descriptor)
          → IsEnd (own_setting x (followed setup (view_in o').history) o'.view.floor o'.view.process d) old.control asks f.end.ends
          (changed old.control f.end.after)
      same_end asks e d =
          subst (λ (q : Next). IsEnd (own_setting x (followed setup (view_in o').history) o'.view.floor o'.view.process d) old.control q
          f.end.ends (changed old.control f.end.after)) (sym e) (at_limit (limit_of x) o'.view.floor reached, f.full, f.same)

      ending : IsEnding x setup o'.view.process (at_work x o'.view.process old line a.work.course) (view_in o') f.end.ends
          (changed old.control f.end.after)
      ending = record {
        end = λ unspoilt d. same_end (next old.control line a.work.course) (a.calls a.work.course a.work.come) d;
        reached = λ full. reached;
      }

-- a line that came so far goes on so by the entry of its call
abbrev pub IsToldSo : Control → Line → Reply → LineAtWork → Progress → Type 0
IsToldSo g line told work progress = (setting : Setting) (number : ℕ) (entry : journaled.Entry)
    → entry_at setting.journal number ≡ Some entry → entry.reply ≡ told
    → IsTaken g line setting (Entry number) (works.At progress) work

-- The reply as it was answered: the line takes it.
module _ (old : LineState) (line : Line) (given : Answer) (told : Reply) (work : LineAtWork) (is : told ≡ plainest given)
    (taken : IsToldSo old.control line told work old.progress) where
  pub stands_so : (course : Course) (entry : journaled.Entry) → IsCome old.control line course old.progress
      → next old.control line course ≡ Calls entry.ring entry.request → given ≡ answer_of entry.reply
      → StandsAt old.control line (Answering entry []) work
  stands_so course entry come calls same =
      let alike : journaled.Entry = with_reply entry (plainest given) in
      let setting : Setting = record { process = entry.process; journal = alike ∷ []; full = true; descriptor = λ e. unknown_desc } in
      stands_alike old.control line entry given work same
      (taken setting 1 alike refl (sym is) course (Answering alike []) come
      (record { entry = alike; there = refl; maker = refl; next = calls; leads = refl }))

  pub left_so : HasReply old line given → IsLeftAt work
  left_so h =
      left_at old.control line h.entry
      (callers old.control line h.course h.entry.ring h.entry.request old.progress h.come h.calls) h.fits h.awake work
      (stands_so h.course h.entry h.come h.calls h.told)

-- a line that is given its message does not go on
module _ (old new : LineState) (line : Line) (given : Answer) (number : ℕ) (h : HasLastReply old line given) where
  linker_not : IsLinker line h.has.entry.request → ⊥
  linker_not linker = elim h.asks [
    | inl block ↦ from_block (sym block ∙ linker.link)
    | inr resume ↦ from_resume (sym resume ∙ linker.link)
  ]
    where
      from_block : Block ≡ Link linker.segno linker.word → ⊥
      from_block e = cc

      from_resume : Resume ≡ Link linker.segno linker.word → ⊥
      from_resume e = cc

  own_not : IsOwnLine line → (progress : Progress)
      → StandsAt old.control line (Answering h.has.entry []) (works.At progress) → ⊥
  own_not own progress stands =
      message_ends old.control line h.has.entry own.own own.is h.asks h.has.fits
      (λ waiting. h.other (h.has.told ∙ ap answer_of waiting)) progress stands

  pub never_more : HasAnswered old line number given came.More new → ⊥
  never_more s =
      by_work s.work (s.stands h.has.course h.has.entry h.has.come h.has.calls h.has.told) s.goes
    where
      by_work : (work : LineAtWork) → StandsAt old.control line (Answering h.has.entry []) work
          → GoesBy old (Entry number) work came.More new → ⊥
      by_work (works.At progress) stands goes =
          elim (callers old.control line h.has.course h.has.entry.ring h.has.entry.request old.progress h.has.come h.has.calls) [
            | inl own ↦ own_not own progress stands
            | inr linker ↦ linker_not linker
          ]
      by_work (works.Ended end) stands goes = goes
      by_work works.Nowhere stands goes = goes

-- The process is told of more, and then of more again.
pub grown_on : (o between o' : PassValue journaled.Entry) → HasGrown o between → HasGrown between o' → HasGrown o o'
grown_on o between o' a b = record {
  more = a.more ++ b.more;
  history = b.history ∙ ap (λ (l : List Marked). l ++ b.more) a.history ∙ append_assoc (marked_in o.view.history) a.more b.more;
  floor = (let low = a.floor in let high = b.floor in omega (arith, low, high));
  told = λ n. (let low = a.told n in let high = b.told n in omega (arith, low, high));
  trace = b.trace ∙ a.trace;
  memory = b.memory ∙ a.memory;
  stage = b.stage ∙ a.stage;
  process = b.process ∙ a.process;
  start = b.start ∙ a.start;
  spare = b.spare ∙ a.spare;
}

pub grown_none : (o o' : PassValue journaled.Entry) → o' ≡ o → HasGrown o o'
grown_none o o' e = subst (HasGrown o) (sym e) (record {
  more = [];
  history = sym (append-nil (marked_in o.view.history));
  floor = omega arith;
  told = λ n. omega arith;
  trace = refl;
  memory = refl;
  stage = refl;
  process = refl;
  start = refl;
  spare = refl;
})

-- the same line is at work, and did nothing
pub stays_same : (x : Outline) (setup : List journaled.Entry) (line : Line) (old new : LineState) (o o' : PassValue journaled.Entry)
    (ring : ℕ) (request : Request) → IsAtCall x setup old line ring request (known_of o) → new ≡ old → o' ≡ o
    → StaysAt x setup line old (inside new o')
stays_same x setup line old new o o' ring request a same still =
    subst (λ (z : LineState). StaysAt x setup line old (inside z o')) (sym same)
    (subst (λ (z : PassValue journaled.Entry). StaysAt x setup line old (inside old z)) (sym still)
    (record { same = same_line old; work = a.work; good = a.good; fitting = a.fitting }))

-- A line that blocks was told to wait.
module _ (x : Outline) (setup : List journaled.Entry) (line : Line) (old mid : LineState) (o between : PassValue journaled.Entry)
    (ring entry : ℕ) (a : IsAtCall x setup old line ring Block (known_of o))
    (h : HasEntered x setup ring Block (record { number = entry; answer = answer.Waiting }) o between)
    (has : HasEvent old (Entry entry) Waiting mid) where
  waiting_work : IsAtWork x setup mid line (known_of between)
  waiting_work = waits_so x setup line old o between ring Block (record { number = entry; answer = answer.Waiting }) h mid a refl refl has

  pub waiting_good : IsGoodProgress mid.control.registers mid.progress
  waiting_good = subst (IsGoodProgress mid.control.registers) (sym has.progress) tt

  pub waiting_stays : StaysAt x setup line old (inside mid between)
  waiting_stays = record {
    same = record {
      first = has.first;
      control = has.control;
      steps = has.steps;
      more = Entry entry ∷ [];
      events = has.events;
      room = has.room;
    };
    work = waiting_work;
    good = waiting_good;
    fitting = waiting_fits mid.progress has.progress;
  }

  -- and resumes
  pub resuming : ring ≡ old.control.registers.ring → IsAtCall x setup mid line ring Resume (known_of between)
  resuming own = record {
    sayable = a.sayable;
    packable = subst IsPackableControl (sym has.control) a.packable;
    good = waiting_good;
    fitting = waiting_fits mid.progress has.progress;
    some = subst (λ p. 1 ≤ p) (sym h.grown.process) a.some;
    planned = planned_same x o.view.process between.view.process old mid has.first has.steps (sym h.grown.process) a.planned;
    countable = subst (λ n. n < 2 ^ 32) (λ i. sym has.first i + length (sym has.steps i)) a.countable;
    work = waiting_work;
    calls = λ course come. waiting_calls mid.control line course (subst (IsCome mid.control line course) has.progress come)
        ∙ ap (λ (g : Control). Calls g.registers.ring Resume) has.control ∙ ap (λ n. Calls n Resume) (sym own);
  }

  pub ends_on : (new : LineState) (o' : PassValue journaled.Entry) → EndsBy x setup mid (inside new o')
      → EndsBy x setup old (inside new o')
  ends_on new o' e = record {
    ended = record {
      more = Entry entry ∷ e.ended.more;
      ends = e.ended.ends;
      steps = e.ended.steps ∙ (λ i. has.steps i
          ++ (has.first i + length (has.steps i), joined i, e.ended.ends) ∷ []);
      idle = e.ended.idle;
      fresh = e.ended.fresh;
      first = e.ended.first ∙ has.first;
      packable = e.ended.packable;
      before = e.ended.before;
    };
    undenied = e.undenied;
  }
    where
      joined : mid.recording.events ++ e.ended.more ≡ old.recording.events ++ (Entry entry ∷ e.ended.more)
      joined = ap (λ (l : List Event2). l ++ e.ended.more) has.events
          ∙ append_assoc old.recording.events (Entry entry ∷ []) e.ended.more

-- What a line that asks for a message is told last.
module _ (x : Outline) (setup : List journaled.Entry) (line : Line) (old : LineState) (o o' : PassValue journaled.Entry) (ring : ℕ)
    (request : Request) (served : Served) (a : IsAtCall x setup old line ring request (known_of o))
    (h : HasEntered x setup ring request served o o') (asks : (request ≡ Block) ⊎ (request ≡ Resume))
    (other : served.answer ≡ answer.Waiting → ⊥) where
  asked_so : (request ≡ Block) ⊎ (request ≡ Resume) → (h.marked.entry.request ≡ Block) ⊎ (h.marked.entry.request ≡ Resume)
  asked_so (inl block) = inl (its_request x setup line old o o' ring request served h ∙ block)
  asked_so (inr resume) = inr (its_request x setup line old o o' ring request served h ∙ resume)

  pub last_reply : HasLastReply old line served.answer
  unfolding has_reply
  last_reply = record {
    has = has_reply x setup line old o o' ring request served h a (λ resume waiting. other waiting);
    asks = asked_so asks;
    other = other;
  }

-- a line that found the journal full ends so
abbrev pub EndsFull : Control → End → Type 0
EndsFull g end = (setting : Setting) (ring : ℕ) (request : Request) → setting.full ≡ true
    → IsEnd setting g (Calls ring request) end.ends (changed g end.after)

pub filled_so : (old new : LineState) (end : End) → EndsFull old.control end → HasEnd old old.recording.events end new
    → HasFilled old new
filled_so old new end full ended =
    let setting : Setting = record { process = 0; journal = []; full = true; descriptor = λ e. unknown_desc } in
    let is = full setting 0 Resume refl in
    record { end = end; full = is.1; same = is.2; ended = ended }

-- what a `block` came to, where this is known
pub blocked_as : (x : Outline) (setup : List journaled.Entry) (ring : ℕ) (o o' : PassValue journaled.Entry)
    (r : Result Blocked BlockError) (to : Blocked) → r ≡ Ok to
    → IfOk r (λ (blocked : Blocked). HasBlocked x setup ring blocked o o') → HasBlocked x setup ring to o o'
blocked_as x setup ring o o' r to is h =
    subst (λ (z : Result Blocked BlockError). IfOk z (λ (blocked : Blocked). HasBlocked x setup ring blocked o o')) is h
