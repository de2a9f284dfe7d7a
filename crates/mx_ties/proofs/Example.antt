-- A process stores into its stack and logs out, step by step.
use Rattle.std.proofs.Common.{false, ◌≡◌, inl, ℕ, zero, suc, ◌<◌, ◌≤◌, List, [], ◌∷◌, refl, ap, sym, ◌∙◌, subst, Some, None, arith}
use Rattle.std.specs.Prelude.{codes}
use Rattle.std.specs.List.{slice_get}
use Rattle.mx_sdw.specs.Judging.{judgement}
use Rattle.mx_sdw.specs.declared.operations.Op.TheVariants as op
use Rattle.mx_upcall.specs.Control.{Control}
use Rattle.mx_request.specs.declared.requests.Request.TheVariants as ask
use Rattle.mx_request.specs.declared.replies.Reply.TheVariants as reply
use Rattle.mx_aim.specs.Classes.{lowest}
use Rattle.mx_script.specs.Sessions.{Outline, entrant}
use Rattle.mx_script.specs.declared.lines.Base.TheVariants.{Segment}
use Rattle.mx_script.specs.declared.lines.Line.{Line}
use Rattle.mx_script.specs.declared.lines.Line.TheVariants as line
use Rattle.mx_state.specs.declared.journal.Entry as journaled
use Rattle.mx_core.specs.declared.elements.Element.{Element}
use Rattle.mx_core.specs.declared.elements.Event.TheVariants.{Seen}
use Rattle.mx_core.specs.declared.elements.Kind.TheVariants as kind
use Rattle.mx_core.specs.declared.elements.Outcome.TheVariants as outcome
use Rattle.mx_transcript.specs.declared.transcripts.Event2.TheVariants.{Core, Entry}
use Rattle.mx_transcript.specs.declared.transcripts.Result2.TheVariants as result
use Rattle.mx_transcript.specs.Access.{descriptor_of}
use Rattle.mx_transcript.specs.Courses.{Judged, Attempt, Answer}
use Rattle.mx_transcript.specs.Elements.{IsJudged}
use Rattle.mx_transcript.specs.Next.{Reference}
use Rattle.mx_transcript.specs.Openings.{opening_control}
use Rattle.mx_transcript.specs.Scripts.{lines_of}
use Rattle.mx_transcript.specs.Standing.{own_setting}
use Rattle.mx_transcript.specs.Transcripts.{Step, part}
use Rattle.mx_transcript.specs.Uses.{use_of}
use Rattle.mx_transcript.proofs.PartLines.{whole_part}
use Rattle.mx_reads.specs.Deeds.{CellUse, Stores, Loads}
use Rattle.mx_ties.specs.Closed.{IsClosed, IsRetired, traces}
use Rattle.mx_ties.specs.Ran.{HasRun, IsSetUp}
use Rattle.mx_ties.specs.Sample.{Sample}
use Rattle.mx_ties.specs.SoFar.{HasRunSoFar}
use Rattle.mx_ties.specs.Views.{Referred, Missed, Marked, View, deed_kept}
use Rattle.mx_ties.proofs.Finishes.{finished_law}
use Rattle.mx_ties.proofs.SoFarLaws.{first_line_law, seen_step_law, entry_step_law, line_step_law, last_line_law}

abbrev sta : Line
sta = line.Sta (record { base = Segment 4; word = 7; indirect = false })

abbrev logout : Line
logout = line.Ask ask.Logout

abbrev x : Outline
x = record {
  version = 1;
  history = None;
  setup = [];
  principals = entrant (record { person = codes "Jones"; project = codes "Faculty"; tag = codes "a" }) lowest ∷ [];
  scripts = (sta ∷ logout ∷ []) ∷ [];
}

abbrev e : Element
e = record { kind = kind.Write; segno = 4; word = 7; ring = 4; point = 0; outcome = outcome.Written 0 }

abbrev j : Judged
j = record { element = e; desc = descriptor_of x [] 1 e }

abbrev logged_out : journaled.Entry
logged_out = record { process = 1; ring = 4; request = ask.Logout; reply = reply.Done }

abbrev marked : Marked
marked = record { entry = logged_out; mark = 1 }

abbrev view_opened : View
view_opened = record { trace = []; history = []; floor = 0; amount = 0 }

abbrev view_stored : View
view_stored = record { trace = Referred j ∷ []; history = []; floor = 0; amount = 0 }

abbrev view_out : View
view_out = record { trace = Referred j ∷ []; history = marked ∷ []; floor = 1; amount = 1 }

abbrev views : ℕ → View
views zero = view_opened
views (suc zero) = view_out
views (suc (suc p)) = view_opened

idle : (p : ℕ) → 1 < p → (views p).trace ≡ []
idle zero beyond = absurd (omega arith)
idle (suc zero) beyond = absurd (omega arith)
idle (suc (suc p)) beyond = refl

-- its one element stands on the table of the start
stands : (i : ℕ) (other : Judged) → slice_get (Referred j ∷ []) i ≡ Some (Referred other)
    → other.desc ≡ descriptor_of x (marked.entry ∷ []) 1 other.element
stands zero other at =
    let same : j ≡ other = cc in
    subst (λ (o : Judged). o.desc ≡ descriptor_of x (marked.entry ∷ []) 1 o.element) same refl
stands (suc i) other at = absurd cc

no_miss : (i segno by : ℕ) → slice_get (Referred j ∷ []) i ≡ Some (Missed segno by) → ⊥
no_miss zero segno by at = cc
no_miss (suc i) segno by at = cc

retired : (p : ℕ) → 1 ≤ p → p ≤ 1 → IsRetired x [] (marked ∷ []) p (views p)
retired zero some most = absurd (omega arith)
retired (suc zero) some most = record {
  later = [];
  told = refl;
  floor = omega arith;
  elements = stands;
  misses = λ i segno by at. absurd (no_miss i segno by at);
}
retired (suc (suc p)) some most = absurd (omega arith)

-- it stores, and nobody reads
deed : (named : ℕ → ℕ → CellUse) → deed_kept named (Referred j) ≡ Stores (named 263 0) 0 0
unfolding judgement
deed named = refl

no_read : (named : ℕ → ℕ → CellUse) (p place : ℕ) (cell : CellUse) (value writer stamp point : ℕ)
    → slice_get (traces named views p) place ≡ Some (Loads cell value writer stamp point) → ⊥
no_read named zero place cell value writer stamp point at = cc
no_read named (suc zero) zero cell value writer stamp point at = stores
    (sym (ap Some (deed named)) ∙ at)
  where
    stores : Some (Stores (named 263 0) 0 0) ≡ Some (Loads cell value writer stamp point) → ⊥
    stores h = cc
no_read named (suc zero) (suc place) cell value writer stamp point at = cc
no_read named (suc (suc p)) place cell value writer stamp point at = cc

closed : IsClosed x [] (marked ∷ []) views
closed = record {
  within_limit = omega arith;
  right = (record { maker = (omega arith, λ z. absurd (omega arith)); reply = refl }, tt);
  setup_first = refl;
  setup_length = refl;
  setup_makers = λ i entry h. cc;
  makers = (omega arith, omega arith, tt);
  quiet = refl;
  beyond = idle;
  retired = retired;
  reads = record {
    source = λ p i. 0;
    right = λ read at. absurd (no_read (use_of x (marked.entry ∷ [])) read.process read.place read.cell read.value
        read.writer read.stamp read.point at);
  };
  counted = refl;
}

abbrev g : Control
g = opening_control x 1

abbrev asked : Reference
asked = record { op = op.Write; segno = 4; word = 7; ring = 4; stores = Some 0 }

right : IsJudged asked j.desc e
unfolding judgement
right = record { kind = refl; segno = refl; word = refl; ring = refl; outcome = refl }

abbrev told : ℕ → ℕ
told n = 1

first : HasRunSoFar x [] 1 (lines_of x 1) [] 3 sta ((4, logout) ∷ []) g [] (Attempt []) view_opened told
first = first_line_law x [] 1 3 sta ((4, logout) ∷ []) 0 told refl (omega arith)

second : HasRunSoFar x [] 1 (lines_of x 1) [] 3 sta ((4, logout) ∷ []) g (Core (Seen e) ∷ []) (Attempt (j ∷ [])) view_stored told
second = seen_step_law x [] 1 (lines_of x 1) [] 3 sta ((4, logout) ∷ []) g [] (Attempt []) view_opened told asked j 0 refl right
    (omega arith) (omega arith)
    (λ value writer stamp h. cc) first

third : HasRunSoFar x [] 1 (lines_of x 1) ((3, Core (Seen e) ∷ [], result.Done) ∷ []) 4 logout [] g [] (Attempt []) view_stored told
third = line_step_law x [] 1 (lines_of x 1) [] 3 4 sta logout [] g g (Core (Seen e) ∷ [])
    (Attempt (j ∷ [])) result.Done view_stored told (λ d. (refl, refl)) second

fourth : HasRunSoFar x [] 1 (lines_of x 1) ((3, Core (Seen e) ∷ [], result.Done) ∷ []) 4 logout [] g (Entry 1 ∷ [])
    (Answer logged_out []) view_out told
fourth = entry_step_law x [] 1 (lines_of x 1) ((3, Core (Seen e) ∷ [], result.Done) ∷ []) 4 logout [] g []
    (Attempt []) view_stored told told (marked ∷ []) marked 0 1
    refl refl refl refl (omega arith) (omega arith) (λ n. omega arith) (λ segno c. omega arith) third

abbrev steps : List Step
steps = (3, Core (Seen e) ∷ [], result.Done) ∷ (4, Entry 1 ∷ [], result.Done) ∷ []

ran : HasRun x [] 1 steps view_out
ran = last_line_law x [] 1 (lines_of x 1) ((3, Core (Seen e) ∷ [], result.Done) ∷ []) 4 logout g g (Entry 1 ∷ [])
    (Answer logged_out []) result.Done view_out told
    (λ d. (refl, refl)) (inl refl) fourth

set_up : IsSetUp x [] []
set_up = record {
  after = opening_control x 0;
  lines = λ d agrees. whole_part (own_setting x [] 0 0 d) (opening_control x 0) (opening_control x 0) (lines_of x 0) [] (refl, refl);
  full = record { each = λ place step low h. absurd cc };
  none_after_full = record { none = λ place later full step h f l k. absurd cc };
  calls = refl;
  quiet = refl;
}

all_ran : (p : ℕ) → 1 ≤ p → p ≤ 1 → HasRun x [] p (part ([] ∷ steps ∷ []) p) (views p)
all_ran zero some most = absurd (omega arith)
all_ran (suc zero) some most = ran
all_ran (suc (suc p)) some most = absurd (omega arith)

pub sample : Sample
sample = record {
  x = x;
  setup = [];
  history = marked ∷ [];
  transcripts = [] ∷ steps ∷ [];
  views = views;
  parts = refl;
  closed = closed;
  set_up = set_up;
  ran = all_ran;
  legal = finished_law x [] (marked ∷ []) ([] ∷ steps ∷ [])
      views refl closed set_up all_ran;
}
