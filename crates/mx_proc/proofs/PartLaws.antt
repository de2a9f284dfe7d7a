-- Which lines the parts of a legal run have, by what processes tell that have no line left: those of their scripts, or those up
-- to a denial and then the last. The initializer's part has all lines of the setup.
use Rattle.std.proofs.Common.{◌≡◌, inl, inr, ℕ, suc, ◌+◌, ◌-◌, ◌<◌, ◌≤◌, List, [], ◌∷◌, ◌++◌, Option, Some, None, map, take, drop, length, length-append, length-drop, length-take, take-append-drop, refl, ap, sym, ◌∙◌, subst, arith}
use Rattle.std.specs.List.{All, cons_option}
use Rattle.std.proofs.lemmas.List.Elements.{All-nil, All-cons, All-head, All-tail}
use Rattle.mx_audit.specs.Accounts.{Told}
use Rattle.mx_audit.specs.Verdicts.{denial_in}
use Rattle.mx_audit.specs.declared.auditors.Verdict.{Verdict}
use Rattle.mx_audit.specs.declared.auditors.Verdict.TheVariants.{GoOn, Logout}
use Rattle.mx_line.specs.declared.processes.Process.{Process as LineState}
use Rattle.mx_process.specs.Audited as audited
use Rattle.mx_process.specs.Plans.{IsUncut, left_of, place_in}
use Rattle.mx_process.specs.Plans as plans
use Rattle.mx_request.specs.declared.replies.Reply.{Reply}
use Rattle.mx_request.specs.declared.replies.Reply.TheVariants as reply
use Rattle.mx_request.specs.declared.requests.Request.{Request}
use Rattle.mx_script.specs.Sessions.{Outline}
use Rattle.mx_script.specs.declared.lines.Line.{Line}
use Rattle.mx_script.specs.declared.lines.Line.TheVariants.{Ask}
use Rattle.mx_sdw.specs.declared.denials.Denial.{Denial}
use Rattle.mx_state.specs.declared.journal.Entry as journaled
use Rattle.mx_transcript.proofs.AwaitLaws.{awaits_no_end}
use Rattle.mx_transcript.proofs.PartLines.{all_of_part, all_ran}
use Rattle.mx_transcript.specs.Asking.{awaits, first_due, next, replied}
use Rattle.mx_transcript.specs.Courses.{Course, Attempt, Answer}
use Rattle.mx_transcript.specs.Denials.{denials, denied_with}
use Rattle.mx_transcript.specs.Filling.{due}
use Rattle.mx_transcript.specs.Legal.{IsLegal, setting_of}
use Rattle.mx_transcript.specs.Lines.{IsEnd, IsLine}
use Rattle.mx_transcript.specs.Next.{Next, Reference, Asks, Fills, Calls, Ends, Nowhere}
use Rattle.mx_transcript.specs.Openings.{opening_control}
use Rattle.mx_transcript.specs.Parts.{AreDone, AreLines, AreLinesOf, last_line}
use Rattle.mx_transcript.specs.Scripts.{first_line, lines_of, numbered}
use Rattle.mx_transcript.specs.Settings.{Setting}
use Rattle.mx_transcript.specs.Transcripts.{Step, part}
use Rattle.mx_transcript.specs.declared.transcripts.Result2.{Result2}
use Rattle.mx_upcall.specs.Control.{Control}
use Rattle.mx_proc.proofs.PlaceLaws.{map_length}
use Rattle.mx_proc.specs.Auditors.{HasLines, IsHeeded, IsHeededLast, number_in, number_of}

-- lines that came to steps have their numbers, and are as many
same_numbers : (s : Setting) (before after : Control) (lines : List (ℕ × Line)) (steps : List Step)
    → AreDone s before lines steps [] after → HasLines steps lines
same_numbers s before after [] [] done = refl
same_numbers s before after (line ∷ lines) [] done = absurd (none done.0)
  where
    none : [] ≡ line ∷ lines → ⊥
    none e = cc
same_numbers s before after [] (step ∷ steps) done = absurd done
same_numbers s before after (line ∷ lines) (step ∷ steps) done =
    ap (λ n. n ∷ map number_of steps) done.0
    ∙ ap (λ (l : List ℕ). line.0 ∷ l) (same_numbers s done.1 after lines steps done.3)

as_many : (steps : List Step) (lines : List (ℕ × Line)) → HasLines steps lines → length steps ≡ length lines
as_many steps lines has = sym (map_length number_of steps) ∙ ap length has ∙ map_length number_in lines

-- a part of all lines but the last, and then the last, is one of all lines
up_to_last : (n : ℕ) (lines : List (ℕ × Line)) → length lines ≡ suc n → take n lines ++ last_line lines ≡ lines
up_to_last n lines many =
    let last : length lines - 1 ≡ n = omega (arith, many) in
    ap (λ m. take n lines ++ drop m lines) last ∙ take-append-drop n lines

-- a part that is cut has one line more than those up to its denial
cut_length : (place : ℕ) (lines : List (ℕ × Line)) → suc place < length lines
    → length (take (suc place) lines ++ last_line lines) ≡ suc (suc place)
cut_length place lines more =
    let both = length-append (take (suc place) lines) (last_line lines) in
    let first = length-take (suc place) lines in
    let last = length-drop (length lines - 1) lines in
    omega (arith, both, first, last, more)

-- a part with as many lines as its script has all of them
whole_ran : (lines ran : List (ℕ × Line)) (steps : List Step) → AreLinesOf lines steps ran → length ran ≡ length lines
    → ran ≡ lines
whole_ran lines ran steps are many = elim are [
  | inl whole ↦ whole
  | inr cut ↦
      let made = ap length cut.is ∙ cut_length cut.place lines cut.more in
      cut.is ∙ up_to_last (suc cut.place) lines (omega (arith, many, made))
]

-- and the number of its lines says where it is cut
cut_ran : (place : ℕ) (lines ran : List (ℕ × Line)) (steps : List Step) → AreLinesOf lines steps ran
    → suc place < length lines → length ran ≡ suc (suc place) → ran ≡ take (suc place) lines ++ last_line lines
cut_ran place lines ran steps are more many = elim are [
  | inl whole ↦
      let all = ap length whole in
      whole ∙ sym (up_to_last (suc place) lines (omega (arith, all, many)))
  | inr cut ↦
      let made = ap length cut.is ∙ cut_length cut.place lines cut.more in
      let here : cut.place ≡ place = omega (arith, made, many) in
      cut.is ∙ ap (λ n. take (suc n) lines ++ last_line lines) here
]

whole_lines : (s : Setting) (before after : Control) (lines : List (ℕ × Line)) (steps : List Step)
    → AreLines s before lines steps after → length steps ≡ length lines → HasLines steps lines
whole_lines s before after lines steps are many =
    let has = same_numbers s before after are.ran steps are.done in
    subst (HasLines steps) (whole_ran lines are.ran steps are.are (sym (as_many steps are.ran has) ∙ many)) has

cut_lines : (s : Setting) (before after : Control) (lines : List (ℕ × Line)) (steps : List Step) (place : ℕ)
    → AreLines s before lines steps after → suc place < length lines → length steps ≡ suc (suc place)
    → HasLines steps (take (suc place) lines ++ last_line lines)
cut_lines s before after lines steps place are more many =
    let has = same_numbers s before after are.ran steps are.done in
    subst (HasLines steps) (cut_ran place lines are.ran steps are.are more (sym (as_many steps are.ran has) ∙ many)) has

-- how many lines a process has done that has none left
all_dropped : {X : Type 0} (n : ℕ) (xs : List X) → drop n xs ≡ [] → length xs ≤ n
all_dropped n xs none = let few = sym (length-drop n xs) ∙ ap length none in omega (arith, few)

uncut_count : (first start done lines : ℕ) → first ≡ start → lines ≤ first - start + done → first - start + done ≤ lines
    → done ≡ lines
uncut_count first start done lines same least most = omega (arith, same, least, most)

cut_count : (first start done lines place : ℕ) → suc place < lines → first ≡ start + (lines - suc (suc place))
    → lines ≤ first - start + done → first - start + done ≤ lines → done ≡ suc (suc place)
cut_count first start done lines place more out least most = omega (arith, more, out, least, most)

-- what a process tells that has no line left: its lines were right, and no more of them were left out than there are
pub record HasCome (x : Outline) (p : ℕ) (state : LineState) : Type 0 where
  pub setting : Setting
  pub before : Control
  pub after : Control
  pub are : AreLines setting before (lines_of x p) state.recording.steps after
  pub none : left_of x p state ≡ []
  pub within : place_in x p state ≤ length (lines_of x p)

-- where none were left out, its part is whole
pub uncut_part : (x : Outline) (p : ℕ) (state : LineState) → HasCome x p state → IsUncut x p state
    → HasLines state.recording.steps (lines_of x p)
uncut_part x p state come uncut =
    whole_lines come.setting come.before come.after (lines_of x p) state.recording.steps come.are
    (uncut_count state.first (first_line x p) (length state.recording.steps) (length (lines_of x p)) uncut
    (all_dropped (place_in x p state) (lines_of x p) come.none) come.within)

-- and where all between a denial and the last were, it is cut there
cut_part : (x : Outline) (p : ℕ) (state : LineState) (denial : ℕ × Denial) → HasCome x p state
    → (cut : plans.IsCutBehind x p state denial)
    → HasLines state.recording.steps (take (suc cut.place) (lines_of x p) ++ last_line (lines_of x p))
cut_part x p state denial come cut =
    cut_lines come.setting come.before come.after (lines_of x p) state.recording.steps cut.place come.are cut.more
    (cut_count state.first (first_line x p) (length state.recording.steps) (length (lines_of x p)) cut.place cut.more cut.left_out
    (all_dropped (place_in x p state) (lines_of x p) come.none) come.within)

heeded : (x : Outline) (p : ℕ) (state : LineState) (denial : ℕ × Denial) (verdict : Verdict) → HasCome x p state
    → audited.IsHeeded x p state denial verdict → IsHeeded (lines_of x p) state.recording.steps denial verdict
heeded x p state denial GoOn come uncut = uncut_part x p state come uncut
heeded x p state denial Logout come cut = record {
  place = cut.place;
  step = cut.step;
  at = cut.at;
  denied = cut.denied;
  cut = cut_part x p state denial come cut;
}

pub heeded_last : (x : Outline) (p : ℕ) (state : LineState) (last : Option Told) → HasCome x p state
    → audited.IsHeededLast x p state last → IsHeededLast (lines_of x p) state.recording.steps last
heeded_last x p state None come uncut = uncut_part x p state come uncut
heeded_last x p state (Some told) come is = heeded x p state (denial_in told) told.2 come is

-- No line of a request ends denied: it ends with its reply, or found the journal full.
awaited : (s : Setting) (g : Control) (asked : Request) (ends : Result2) (after : Control) (number : ℕ) (asks : Next)
    → awaits g asked ≡ asks → IsEnd s g asks ends after → denied_with number ends ≡ None
awaited s g asked ends after number (Asks reference) is end = absurd end
awaited s g asked ends after number (Fills reference) is end = absurd end
awaited s g asked ends after number (Calls ring request) is end = ap (denied_with number) end.1
awaited s g asked ends after number (Ends result last) is end = absurd (awaits_no_end g asked result last is)
awaited s g asked ends after number Nowhere is end = absurd end

replied_so : (s : Setting) (g : Control) (asked : Request) (given : Reply) (ends : Result2) (after : Control) (number : ℕ)
    → IsEnd s g (replied g asked given) ends after → denied_with number ends ≡ None
replied_so s g asked reply.Waiting ends after number end = awaited s g asked ends after number (awaits g asked) refl end
replied_so s g asked (reply.Linked segno word fresh linkage) ends after number end = absurd end
replied_so s g asked (reply.Refused why) ends after number end = ap (denied_with number) end.0
replied_so s g asked reply.Done ends after number end = ap (denied_with number) end.0
replied_so s g asked (reply.Status status) ends after number end = ap (denied_with number) end.0
replied_so s g asked (reply.Names names) ends after number end = ap (denied_with number) end.0
replied_so s g asked (reply.Segno known) ends after number end = ap (denied_with number) end.0
replied_so s g asked reply.Sent ends after number end = ap (denied_with number) end.0
replied_so s g asked (reply.Message sender word) ends after number end = ap (denied_with number) end.0
replied_so s g asked reply.Nobody ends after number end = ap (denied_with number) end.0

undue : (s : Setting) (g : Control) (first : Option Reference) (asked : Request) (given : Reply) (ends : Result2)
    (after : Control) (number : ℕ) → IsEnd s g (first_due first (replied g asked given)) ends after → denied_with number ends ≡ None
undue s g (Some reference) asked given ends after number end = absurd end
undue s g None asked given ends after number end = replied_so s g asked given ends after number end

not_denied : (s : Setting) (g : Control) (request : Request) (course : Course) (ends : Result2) (after : Control) (number : ℕ)
    → IsEnd s g (next g (Ask request) course) ends after → denied_with number ends ≡ None
not_denied s g request (Attempt seen) ends after number end = ap (denied_with number) end.1
not_denied s g request (Answer entry filled) ends after number end =
    undue s g (due entry filled) entry.request entry.reply ends after number end

-- the lines of a setup are requests
record IsAsk (line : ℕ × Line) : Type 0 where
  request : Request
  is : line.1 ≡ Ask request

all_ask : (first : ℕ) (requests : List Request) → All IsAsk (numbered first (map Ask requests))
all_ask first [] = All-nil IsAsk
all_ask first (request ∷ requests) =
    All-cons IsAsk (first, Ask request) (numbered (suc first) (map Ask requests))
    (record { request = request; is = refl }) (all_ask (suc first) requests)

none_denied : (s : Setting) (before after : Control) (lines : List (ℕ × Line)) (steps : List Step) → All IsAsk lines
    → AreDone s before lines steps [] after → denials steps ≡ []
none_denied s before after lines [] ask done = refl
none_denied s before after [] (step ∷ steps) ask done = absurd done
none_denied s before after (line ∷ lines) (step ∷ steps) ask done =
    let own = All-head IsAsk line lines ask in
    let is = subst (λ (l : Line). IsLine s before l step.1 step.2 done.1) own.is done.2 in
    ap (λ (first : Option (ℕ × Denial)). cons_option first (denials steps))
    (not_denied s before own.request is.course step.2 done.1 step.0 is.end)
    ∙ none_denied s done.1 after lines steps (All-tail IsAsk line lines ask) done.3

-- so the initializer's part is whole
pub setup_whole : (x : Outline) (journal : List journaled.Entry) (transcripts : List (List Step)) → IsLegal x journal transcripts
    → HasLines (part transcripts 0) (lines_of x 0)
setup_whole x journal transcripts legal =
    let some = legal.parts in
    let lines = legal.lines 0 (omega (arith, some)) in
    let steps = part transcripts 0 in
    let setting = setting_of x journal 0 in
    let control = opening_control x 0 in
    let ask = all_of_part IsAsk (lines_of x 0) lines.1.ran steps lines.1.are (all_ask (first_line x 0) x.setup) in
    let none = none_denied setting control lines.0 lines.1.ran steps ask lines.1.done in
    subst (HasLines steps) (all_ran (lines_of x 0) lines.1.ran steps none lines.1.are)
    (same_numbers setting control lines.0 lines.1.ran steps lines.1.done)
