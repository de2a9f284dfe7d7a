-- A run is legal exactly where its entries and its parts are good and each entry is named.
use Rattle.std.proofs.Common.{◌≡◌, ◌⊎◌, inl, inr, ℕ, zero, suc, ◌+◌, ◌<◌, ◌≤◌, ◌&&◌, true, List, [], ◌∷◌, ◌++◌, length, take, Some, refl, ap, sym, ◌∙◌, subst, arith, slice_get}
use Rattle.std.specs.Prelude.{map, min, max}
use Rattle.std.specs.List.{list_all}
use Rattle.std.proofs.lemmas.Bool.{cases_lt}
use Rattle.std.proofs.lemmas.List.{append-nil, length-map, take_all}
use Rattle.std.proofs.lemmas.Option.{slice_get-get_or, slice_get_within}
use Rattle.mx_parts.specs.FirstBad.{AreKept}
use Rattle.mx_reads.specs.Deeds.{Deed, Deeds, Misses, point_of}
use Rattle.mx_reads.specs.ReadRule.{AreRightReads}
use Rattle.mx_request.proofs.StepLaws.{both}
use Rattle.mx_request.specs.declared.requests.Request.{Request}
use Rattle.mx_script.specs.Sessions.{IsSession, Outline, ends, is_script, is_script_line, limit_of}
use Rattle.mx_script.specs.declared.lines.Line.{Line}
use Rattle.mx_script.specs.declared.lines.Line.TheVariants.{Ask}
use Rattle.mx_state.specs.Plain.{Plain}
use Rattle.mx_state.specs.Requests.{plain}
use Rattle.mx_state.specs.declared.journal.Entry as journaled
use Rattle.mx_stores.specs.Deciding.{RightReadsLaw, RightToLaw}
use Rattle.mx_stores.specs.Known as decided
use Rattle.mx_stores.specs.StoreLaws.{AreBelow}
use Rattle.mx_transcript.specs.FullJournal.{AreFullFrom, HasNoneAfterFull}
use Rattle.mx_transcript.specs.Legal.{Call, IsLegal, call_of, deeds, setting_of, setup_call, setup_entries}
use Rattle.mx_transcript.specs.Lines.{IsLine}
use Rattle.mx_transcript.specs.Misses.{AreRightMisses, IsChanged}
use Rattle.mx_transcript.specs.Openings.{opening_control}
use Rattle.mx_transcript.specs.Opened.{opening_of}
use Rattle.mx_transcript.specs.Parts.{AreDone, AreLines}
use Rattle.mx_transcript.specs.Points.{ArePoints}
use Rattle.mx_transcript.specs.Reads.{IsKnown}
use Rattle.mx_transcript.specs.Scripts.{first_line, lines_of, numbered, script_at}
use Rattle.mx_transcript.specs.Settings.{Setting, entry_at}
use Rattle.mx_transcript.specs.SetupLines.{SetupLinesLaw}
use Rattle.mx_transcript.specs.Transcripts.{Step, entries_named, events_of, numbers_of, part}
use Rattle.mx_transcript.specs.declared.transcripts.Event2.{Event2}
use Rattle.mx_transcript.specs.declared.transcripts.Event2.TheVariants.{Entry}
use Rattle.mx_transcript.specs.declared.transcripts.Result2.TheVariants.{HistoryFull}
use Rattle.mx_transcript.proofs.FinalReplies.{IsFinal, path_final}
use Rattle.mx_upcall.specs.Control.{Control}
use Rattle.mx_legal.specs.Breach.{parts_in}
use Rattle.mx_legal.specs.BreachLaws.{IsGoodRun, LegalLaw, ReadsToLaw}
use Rattle.mx_legal.specs.Entries.{AreGoodTo, GoodEntriesLaw, IsInPlace}
use Rattle.mx_legal.specs.Fronts.{AreRightReadsTo, IsGoodPart, IsGoodTo, events_to}
use Rattle.mx_legal.proofs.EntryLaws.{right_at}
use Rattle.mx_legal.proofs.LineNumbers.{numbered_count}
use Rattle.mx_legal.proofs.ReadLaws.{as_decided, as_in_run, right_so}
use Rattle.mx_legal.proofs.SetupSteps.{AreFinal, HasOneEntry, IsCallOf, IsEntered, IsFull, first_calls, named_at, named_entry, named_in_ring, no_full_reply, number_is, own_first, setup_steps, setup_whole}

-- there is no part beyond the last
pub no_part : (parts : List (List Step)) (p : ℕ) → length parts ≤ p → part parts p ≡ []
no_part [] p l = refl
no_part (steps ∷ parts) zero l = absurd (omega (arith, l))
no_part (steps ∷ parts) (suc p) l = no_part parts p (omega (arith, l))

-- the lines that are done and those that are left
pub done_count : (s : Setting) (start : Control) (lines : List (ℕ × Line)) (steps : List Step) (left : List (ℕ × Line)) (now : Control)
    → AreDone s start lines steps left now → length lines ≡ length steps + length left
done_count s start lines [] left now are =
    let same = ap (λ (l : List (ℕ × Line)). length l) are.0 in omega (arith, same)
done_count s start [] (step ∷ steps) left now are = absurd are
done_count s start (line ∷ lines) (step ∷ steps) left now are =
    let rest = done_count s are.1 lines steps left now are.3 in omega (arith, rest)

-- a part with no step has no line
pub none_of_none : (s : Setting) (start : Control) (lines : List (ℕ × Line)) (after : Control) → AreLines s start lines [] after → lines ≡ []
none_of_none s start lines after are = elim are.are [
  | inl whole ↦ sym whole ∙ sym are.done.0
  | inr cut ↦ let at = cut.at in absurd cc
]

-- each script has a line
some_line : (version : ℕ) (scripts : List (List Line)) (p : ℕ) → list_all (is_script version) scripts ≡ true → p < length scripts
    → 1 ≤ length (script_at scripts p)
some_line version [] p all l = absurd (omega (arith, l))
some_line version ([] ∷ scripts) zero all l =
    let none = both (list_all (is_script_line version) []) (ends [])
    (both (is_script version []) (list_all (is_script version) scripts) all).0 in let e = none.1 in absurd cc
some_line version ((line ∷ lines) ∷ scripts) zero all l = omega arith
some_line version (script ∷ scripts) (suc p) all l =
    some_line version scripts p (both (is_script version script) (list_all (is_script version) scripts) all).1 (omega (arith, l))

script_line : (session : Outline) → IsSession session → (p : ℕ) → p < length session.scripts → 1 ≤ length (lines_of session (suc p))
script_line session is p l =
    let long = numbered_count (first_line session (suc p)) (script_at session.scripts p) in
    let some = some_line session.version session.scripts p is.each l in
    omega (arith, long, some)

all_events : (steps : List Step) → events_to steps (length steps) ≡ length (events_of steps)
all_events steps = ap (λ (s : List Step). length (events_of s)) (take_all (length steps) steps (omega arith))

some_same : {A : Type 0} {a b : A} → Some a ≡ Some b → a ≡ b
some_same e = cc

some_at : {A : Type 0} (xs : List A) (i : ℕ) → i < length xs → (x : A) × (slice_get xs i ≡ Some x)
some_at [] i l = absurd (omega (arith, l))
some_at (x ∷ xs) zero l = (x, refl)
some_at (x ∷ xs) (suc i) l = some_at xs i (omega (arith, l))

abbrev call : ℕ → ℕ → Request → Call
call p ring request = record { process = p; ring = ring; request = request }

same_call : (entry : journaled.Entry) (request : Request) → entry.process ≡ 0 → entry.ring ≡ 0 → entry.request ≡ request
    → call_of entry ≡ setup_call request
same_call entry request maker ring asks =
    ap (λ (p : ℕ). call p entry.ring entry.request) maker
    ∙ ap (λ (v : ℕ). call 0 v entry.request) ring
    ∙ ap (λ (r : Request). call 0 0 r) asks

no_more : (events : List Event2) (number : ℕ) → events ≡ Entry number ∷ [] → events ≡ [] → ⊥
no_more events number e f = cc

module _ (session : Outline) (journal : List journaled.Entry) (transcripts : List (List Step)) where
  abbrev steps_of : ℕ → List Step
  steps_of p = part transcripts p

  abbrev done : Deeds
  done = deeds session journal transcripts

  deed_count : (p : ℕ) → length (done p) ≡ length (events_of (steps_of p))
  deed_count p = length-map (events_of (steps_of p)) _

  all_deeds : (p : ℕ) → events_to (steps_of p) (length (steps_of p)) ≡ length (done p)
  all_deeds p = all_events (steps_of p) ∙ sym (deed_count p)

  none_past : (p : ℕ) → length transcripts ≤ p → length (done p) ≡ 0
  none_past p l = deed_count p ∙ ap (λ (s : List Step). length (events_of s)) (no_part transcripts p l)

  -- the initializer asks on paths alone in good entries, and no reply to that asks for more
  final_replies : AreGoodTo session journal (length journal) → AreFinal (setting_of session journal 0)
  final_replies good zero entry there maker = absurd cc
  final_replies good (suc place) entry there maker =
      let right = (good.each place entry (slice_get_within journal place entry there) there).right in
      subst IsFinal right.reply (path_final _ entry.process entry.ring entry.request (right.maker.1 maker))

  module _ (good : IsGoodRun session journal transcripts) (is : IsSession session) where
    at_most : length transcripts ≤ 1 + length session.principals
    at_most = elim (cases_lt (1 + length session.principals) (length transcripts)) [
      | inr l ↦ l
      | inl l ↦
          let process = (good.parts (1 + length session.principals) (omega (arith, l))).process in absurd (omega (arith, process))
    ]

    at_least : 1 + length session.principals ≤ length transcripts
    at_least = elim (cases_lt (length transcripts) (1 + length session.principals)) [
      | inr l ↦ l
      | inl l ↦ absurd (missing (length session.principals) refl l)
    ]
      where
        missing : (p : ℕ) → length session.principals ≡ p → length transcripts < 1 + length session.principals → ⊥
        missing zero same l = let some = is.some in omega (arith, some, same)
        missing (suc p) same l =
            let count = is.scripts in
            let lines = script_line session is p (omega (arith, count, same)) in
            let whole = (good.parts (suc p) (omega (arith, same))).whole in
            let none = none_of_none (setting_of session journal (suc p)) (opening_control session (suc p)) (lines_of session (suc p)) whole.0
            (subst (λ (s : List Step). AreLines (setting_of session journal (suc p)) (opening_control session (suc p)) (lines_of session (suc p)) s whole.0)
            (no_part transcripts (suc p) (omega (arith, same, l))) whole.1) in
            let no_line = ap (λ (ls : List (ℕ × Line)). length ls) none in
            omega (arith, lines, no_line)

    -- each part
    good_part : (p : ℕ) → p < length transcripts → IsGoodPart session journal transcripts p
    good_part p l = good.parts p (omega (arith, l))

    all_lines : (p : ℕ) → p < length transcripts
        → (after : Control) × AreLines (setting_of session journal p) (opening_control session p) (lines_of session p) (steps_of p) after
    all_lines p l = (good_part p l).whole

    all_last : (p : ℕ) → HasNoneAfterFull (steps_of p)
    all_last p = record {
      none = λ place later full step at ended after there.
          let within = slice_get_within (steps_of p) place full at in
          (good_part p (part_there p place (within))).good.no_early_full place later full step within at ended after there;
    }
      where
        part_there : (p place : ℕ) → place < length (steps_of p) → p < length transcripts
        part_there p place l = elim (cases_lt p (length transcripts)) [
          | inl there ↦ there
          | inr past ↦ let none = ap (λ (s : List Step). length s) (no_part transcripts p past) in absurd (omega (arith, l, none))
        ]

    deed_there : (p place : ℕ) → place < length (done p) → p < length transcripts
    deed_there p place l = elim (cases_lt p (length transcripts)) [
      | inl there ↦ there
      | inr past ↦ let none = none_past p past in absurd (omega (arith, l, none))
    ]

    all_misses : (p : ℕ) → AreRightMisses journal (IsChanged session journal p) p (done p)
    all_misses p = λ place segno by at.
        let within = slice_get_within (done p) place (Misses segno by) at in
        let count = all_deeds p in
        (good_part p (deed_there p place within)).good.misses place segno by (omega (arith, within, count)) at

    all_points : (p : ℕ) → ArePoints (setup_entries session) (length journal) (done p)
    all_points p = λ place deed q at point.
        let within = slice_get_within (done p) place deed at in
        let count = all_deeds p in
        (good_part p (deed_there p place within)).good.points place deed q (omega (arith, within, count)) at point

    all_reads : ReadsToLaw → RightToLaw → RightReadsLaw → AreRightReads done (IsKnown done)
    all_reads reads_to right_to right_reads =
        let below : AreBelow (length transcripts) done = none_past in
        let are = (right_reads (length transcripts) done below).1 (λ p l.
        (right_to (length transcripts) done below p (length (done p))).0
        ((reads_to done p (length (done p))).0
        (subst (AreRightReadsTo done (IsKnown done) p) (all_deeds p) (good_part p l).good.reads))) in
        record {
          source = are.source;
          right = λ read has.
              right_so done (decided.IsKnown done) (IsKnown done) (as_in_run done) (as_decided done) are.source read (are.right read has);
        }

    -- the setup's first entries
    setup_done : AreDone (setting_of session journal 0) (opening_control session 0) (lines_of session 0) (steps_of 0) []
        (all_lines 0 (omega (arith, at_least))).0
    setup_done =
        setup_whole (setting_of session journal 0) (opening_control session 0) (first_line session 0) session.setup (steps_of 0)
        (all_lines 0 (omega (arith, at_least))).0 (final_replies good.entries) refl (all_lines 0 (omega (arith, at_least))).1

    setup_count : length session.setup ≡ length (steps_of 0)
    setup_count =
        let done_all = done_count (setting_of session journal 0) (opening_control session 0) (lines_of session 0) (steps_of 0) []
        (all_lines 0 (omega (arith, at_least))).0 setup_done in
        let long = numbered_count (first_line session 0) (map Ask session.setup) in
        let count = length-map session.setup Ask in
        omega (arith, done_all, long, count)

    abbrev count : ℕ
    count = setup_entries session

    setup_step : (place : ℕ) (step : Step) (request : Request) → place < count → slice_get (steps_of 0) place ≡ Some step
        → slice_get session.setup place ≡ Some request → IsEntered (setting_of session journal 0) request step.1 step.2
    setup_step place step request below at asked = elim
        (setup_steps (setting_of session journal 0) (opening_control session 0) (first_line session 0) session.setup (steps_of 0) []
        (all_lines 0 (omega (arith, at_least))).0 (final_replies good.entries) refl setup_done place step request at asked) [
          | inl entered ↦ entered
          | inr full ↦
              let beyond = ((good_part 0 (omega (arith, at_least))).good.setup refl place step
              (slice_get_within (steps_of 0) place step at) at).1 full.ended in
              absurd (omega (arith, below, beyond))
        ]

    -- a line of the setup and its request
    record IsAsked (place : ℕ) : Type 0 where
      step : Step
      request : Request
      at : slice_get (steps_of 0) place ≡ Some step
      asked : slice_get session.setup place ≡ Some request
      entered : IsEntered (setting_of session journal 0) request step.1 step.2

    is_asked : (place : ℕ) → place < count → IsAsked place
    is_asked place below =
        let lines = setup_count in
        let there = some_at (steps_of 0) place (omega (arith, below, lines)) in
        let wanted = some_at session.setup place (omega (arith, below)) in
        record {
          step = there.0;
          request = wanted.0;
          at = there.1;
          asked = wanted.1;
          entered = setup_step place there.0 wanted.0 below there.1 wanted.1;
        }

    one_entry : (j : ℕ) (earlier : Step) → j < count → slice_get (steps_of 0) j ≡ Some earlier → HasOneEntry earlier
    one_entry j earlier below at =
        let asked = is_asked j below in
        let same : asked.step ≡ earlier = some_same (sym asked.at ∙ at) in
        subst HasOneEntry same (record { number = asked.entered.number; event = asked.entered.event })

    is_call : (place : ℕ) → place < count → IsCallOf journal session.setup place
    is_call place below =
        let asked = is_asked place below in
        let entered = asked.entered in
        let named : slice_get (numbers_of 0 journal) place ≡ Some entered.number =
        ap (λ (l : List ℕ). slice_get l place) (sym (good.named 0))
        ∙ named_at (steps_of 0) place entered.number asked.step
        (λ j earlier less at. one_entry j earlier (omega (arith, less, below)) at) asked.at entered.event in
        let number : entered.number ≡ 1 + place = number_is count 1 place entered.number journal
        (λ j entry less at. (good.entries.each j entry (slice_get_within journal j entry at) at).in_place.setup_first less)
        below named in
        let number' : entered.number ≡ suc place = omega (arith, number) in
        record {
          entry = entered.entry;
          request = asked.request;
          at = ap (entry_at journal) (sym number') ∙ entered.there;
          asked = asked.asked;
          same = same_call entered.entry asked.request entered.maker entered.ring entered.asked;
        }

    is_legal : GoodEntriesLaw → ReadsToLaw → RightToLaw → RightReadsLaw → IsLegal session journal transcripts
    is_legal good_entries reads_to right_to right_reads =
        let entries = (good_entries session journal).0 good.entries in
        record {
          within_limit = entries.within_limit;
          right = entries.right;
          setup_first = first_calls count journal session.setup is_call;
          setup_full = record {
            each = λ place step l at.
                ((good_part 0 (omega (arith, at_least))).good.setup refl place step (slice_get_within (steps_of 0) place step at) at).0 l;
          };
          parts = omega (arith, at_most, at_least);
          each_call_once = good.named;
          lines = all_lines;
          none_after_full = all_last;
          misses = all_misses;
          points = all_points;
          reads = all_reads reads_to right_to right_reads;
        }

  module _ (legal : IsLegal session journal transcripts) where
    legal_final : AreFinal (setting_of session journal 0)
    legal_final zero entry there maker = absurd cc
    legal_final (suc place) entry there maker =
        let right = right_at (opening_of session) journal legal.right place entry there in
        subst IsFinal right.reply (path_final _ entry.process entry.ring entry.request (right.maker.1 maker))

    setup_lines : (after : Control) × AreLines (setting_of session journal 0) (opening_control session 0) (lines_of session 0) (steps_of 0) after
    setup_lines = let parts = legal.parts in legal.lines 0 (omega (arith, parts))

    setup_all : AreDone (setting_of session journal 0) (opening_control session 0) (lines_of session 0) (steps_of 0) [] setup_lines.0
    setup_all =
        setup_whole (setting_of session journal 0) (opening_control session 0) (first_line session 0) session.setup (steps_of 0)
        setup_lines.0 legal_final refl setup_lines.1

    legal_entries : GoodEntriesLaw → AreGoodTo session journal (length journal)
    legal_entries good_entries = (good_entries session journal).1 (record {
      within_limit = legal.within_limit;
      right = legal.right;
      in_place = λ place entry at. record {
        within_limit =
            let within = slice_get_within journal place entry at in
            let limit = legal.within_limit in
            omega (arith, within, limit);
        setup_first = λ below. own_first (setup_entries session) place journal session.setup entry legal.setup_first below at;
        ring = λ own. named_entry (setting_of session journal 0) (entries_named (events_of (steps_of 0)))
            (named_in_ring (setting_of session journal 0) (opening_control session 0) (first_line session 0) session.setup (steps_of 0) []
            setup_lines.0 legal_final refl setup_all)
            (legal.each_call_once 0) place entry at own;
      };
    })

    -- a line of the setup within the limit did not find the journal full
    not_full : SetupLinesLaw → (place : ℕ) (step : Step) → place < setup_entries session → slice_get (steps_of 0) place ≡ Some step
        → step.2 ≡ HistoryFull → ⊥
    not_full lines_law place step below at full =
        let event = lines_law session journal transcripts legal place step below at in
        let count = done_count (setting_of session journal 0) (opening_control session 0) (lines_of session 0) (steps_of 0) [] setup_lines.0
        setup_all in
        let asked = some_at session.setup place (omega (arith, below)) in
        elim (setup_steps (setting_of session journal 0) (opening_control session 0) (first_line session 0) session.setup (steps_of 0) []
        setup_lines.0 legal_final refl setup_all place step asked.0 at asked.1) [
          | inl entered ↦ no_full_reply entered.entry.reply (sym entered.ended ∙ full)
          | inr none ↦ no_more step.1 (place + 1) event none.event
        ]

    legal_part : SetupLinesLaw → (p : ℕ) → p < parts_in session transcripts → IsGoodPart session journal transcripts p
    legal_part lines_law p l =
        let parts = legal.parts in
        let lines = legal.lines p (omega (arith, l, parts)) in
        let all : take (length (steps_of p)) (steps_of p) ≡ steps_of p = take_all (length (steps_of p)) (steps_of p) (omega arith) in
        record {
          process = omega (arith, l, parts);
          good = record {
            lines = subst (AreKept (setting_of session journal p) (opening_control session p) (lines_of session p)) (sym all)
                (record { ran = lines.1.ran; are = lines.1.are; left = []; now = lines.0; done = lines.1.done });
            named = record {
              later = [];
              named = sym (legal.each_call_once p) ∙ ap (λ (s : List Step). entries_named (events_of s)) (sym all)
                  ∙ sym (append-nil (entries_named (events_of (take (length (steps_of p)) (steps_of p)))));
            };
            setup = λ first place step h at. (
              λ beyond. legal.setup_full.each place step beyond at,
              λ full. beyond lines_law place step at full,
            );
            no_early_full = λ place later full step h at ended after there.
                (legal.none_after_full p).none place later full step at ended after there;
            misses = λ place segno by h at. legal.misses p place segno by at;
            points = λ place deed q h at point. legal.points p place deed q at point;
            reads = record { source = legal.reads.source; right = λ read has own h. legal.reads.right read has };
          };
          whole = lines;
        }
      where
        beyond : SetupLinesLaw → (place : ℕ) (step : Step) → slice_get (steps_of 0) place ≡ Some step → step.2 ≡ HistoryFull
            → setup_entries session ≤ place
        beyond lines_law place step at full = elim (cases_lt place (setup_entries session)) [
          | inr there ↦ there
          | inl below ↦ absurd (not_full lines_law place step below at full)
        ]

    is_good_run : GoodEntriesLaw → SetupLinesLaw → IsGoodRun session journal transcripts
    is_good_run good_entries lines_law = record {
      entries = legal_entries good_entries;
      parts = legal_part lines_law;
      named = legal.each_call_once;
    }

pub legal_law : GoodEntriesLaw → ReadsToLaw → RightToLaw → RightReadsLaw → SetupLinesLaw → LegalLaw
legal_law good_entries reads_to right_to right_reads lines_law session journal transcripts is = (
  λ legal. is_good_run session journal transcripts legal good_entries lines_law,
  λ good. is_legal session journal transcripts good is good_entries reads_to right_to right_reads,
)
