-- The setup's lines within the limit enter the first entries of the journal.
use Rattle.std.proofs.Common.{◌≡◌, ◌⊎◌, ℕ, zero, suc, ◌+◌, ◌<◌, ◌≤◌, inl, inr, List, [], ◌∷◌, ◌++◌, length, refl, ap, sym, ◌∙◌, subst, Some, arith}
use Rattle.std.specs.Prelude.{◌==◌, if◌then◌else◌, min, take, map}
use Rattle.std.specs.List.{All, slice_get}
use Rattle.std.proofs.lemmas.Bool.{cases_eq}
use Rattle.std.proofs.lemmas.List.Elements.{All-nil, All-cons, All-head, All-tail}
use Rattle.std.proofs.lemmas.Option.{slice_get_within}
use Rattle.mx_upcall.specs.Control.{Control}
use Rattle.mx_request.specs.Classes.{class_of}
use Rattle.mx_request.specs.declared.classes.RequestClass.TheVariants.{OfPath}
use Rattle.mx_request.specs.declared.requests.Request.{Request}
use Rattle.mx_transcript.specs.Opened.{opening_of}
use Rattle.mx_state.specs.History.{IsRight}
use Rattle.mx_state.specs.Plain.{Plain}
use Rattle.mx_state.specs.Requests.{plain}
use Rattle.mx_state.specs.declared.journal.Entry as journaled
use Rattle.mx_script.specs.Sessions.{limit_of}
use Rattle.mx_script.specs.declared.lines.Line.{Line}
use Rattle.mx_script.specs.declared.lines.Line.TheVariants.{Ask}
use Rattle.mx_transcript.specs.declared.transcripts.Event2.{Event2}
use Rattle.mx_transcript.specs.declared.transcripts.Event2.TheVariants.{Entry}
use Rattle.mx_transcript.specs.Legal.{Call, call_of, setup_call, setup_entries, setting_of}
use Rattle.mx_transcript.specs.Lines.{IsLine}
use Rattle.mx_transcript.specs.Openings.{opening_control}
use Rattle.mx_transcript.specs.Parts.{AreDone}
use Rattle.mx_transcript.specs.Scripts.{numbered, first_line, lines_of}
use Rattle.mx_transcript.specs.Settings.{Setting}
use Rattle.mx_transcript.specs.SetupLines.{SetupLinesLaw}
use Rattle.mx_transcript.specs.Transcripts.{Step, part, events_of, entries_named, numbers_from}
use Rattle.mx_transcript.proofs.AskLines.{HasEntry, IsFullLine, AreFinal, ask_line}
use Rattle.mx_transcript.proofs.FinalReplies.{IsFinal, path_final}
use Rattle.mx_transcript.proofs.Named.{named_append}
use Rattle.mx_transcript.proofs.PartLines.{all_of_part}

abbrev Enters : Step → Type 0
Enters step = HasEntry step.1

abbrev IsFullStep : Step → Type 0
IsFullStep step = IsFullLine step.1 step.2

-- the lines of a setup are requests
record IsAsk (line : ℕ × Line) : Type 0 where
  request : Request
  is : line.1 ≡ Ask request

all_ask : (first : ℕ) (requests : List Request) → All IsAsk (numbered first (map Ask requests))
all_ask first [] = All-nil IsAsk
all_ask first (request ∷ requests) =
    All-cons IsAsk (first, Ask request) (numbered (suc first) (map Ask requests))
    (record { request = request; is = refl }) (all_ask (suc first) requests)

-- each line of a setup is one of these
asked : (s : Setting) (start after : Control) (lines : List (ℕ × Line)) (steps : List Step)
    → AreFinal s → All IsAsk lines → AreDone s start lines steps [] after → (place : ℕ) (step : Step)
    → slice_get steps place ≡ Some step → Enters step ⊎ IsFullStep step
asked s start after lines [] final ask are place step at = absurd cc
asked s start after [] (made ∷ steps) final ask are place step at = absurd are
asked s start after (line ∷ lines) (made ∷ steps) final ask are zero step at =
    let own = All-head IsAsk line lines ask in
    subst (λ (t : Step). Enters t ⊎ IsFullStep t) (same at)
    (ask_line s start own.request made.1 made.2 are.1 final
    (subst (λ (l : Line). IsLine s start l made.1 made.2 are.1) own.is are.2))
  where
    same : Some made ≡ Some step → made ≡ step
    same h = cc
asked s start after (line ∷ lines) (made ∷ steps) final ask are (suc place) step at =
    asked s are.1 after lines steps final (All-tail IsAsk line lines ask) are.3 place step at

-- the initializer asks on paths alone, in a right journal, and no reply to that asks for more
final_replies : (s : Plain) (journal : List journaled.Entry) (place : ℕ) (entry : journaled.Entry) → IsRight s journal
    → slice_get journal place ≡ Some entry → entry.process ≡ 0 → IsFinal entry.reply
final_replies s [] place entry right at own = absurd cc
final_replies s (first ∷ journal) zero entry right at own =
    let same : first ≡ entry = cc in
    let asks : first.process ≡ 0 → class_of first.request ≡ OfPath = right.0.maker.1 in
    subst (λ (e : journaled.Entry). IsFinal e.reply) same
    (subst IsFinal right.0.reply (path_final s first.process first.ring first.request
    (asks (ap (λ (e : journaled.Entry). e.process) same ∙ own))))
final_replies s (first ∷ journal) (suc place) entry right at own =
    final_replies (plain s first.process first.ring first.request).state journal place entry right.1 at own

-- where the lines up to this place have an entry each, it names the entry of its place
named_at : (steps : List Step) (place number : ℕ) (step : Step)
    → ((before : ℕ) (earlier : Step) → before < place → slice_get steps before ≡ Some earlier → Enters earlier)
    → slice_get steps place ≡ Some step → step.1 ≡ Entry number ∷ []
    → slice_get (entries_named (events_of steps)) place ≡ Some number
named_at [] place number step before at event = cc
named_at (s ∷ steps) zero number step before at event =
    ap (λ (l : List Event2). slice_get (entries_named (l ++ events_of steps)) 0)
    (ap (λ (t : Step). t.1) (same at) ∙ event)
  where
    same : Some s ≡ Some step → s ≡ step
    same h = cc
named_at (s ∷ steps) (suc place) number step before at event =
    let first : Enters s = before 0 s (omega arith) refl in
    ap (λ (l : List Event2). slice_get (entries_named (l ++ events_of steps)) (suc place)) first.event
    ∙ named_at steps place number step (λ j earlier less found. before (suc j) earlier (omega arith) found) at event

-- where no line from this place on has an entry, at most so many are named
few_named : (steps : List Step) (place : ℕ)
    → ((j : ℕ) (step : Step) → slice_get steps j ≡ Some step → Enters step ⊎ IsFullStep step)
    → ((j : ℕ) (step : Step) → place ≤ j → slice_get steps j ≡ Some step → entries_named step.1 ≡ [])
    → length (entries_named (events_of steps)) ≤ place
few_named [] place each none = omega arith
few_named (s ∷ steps) zero each none =
    let rest = few_named steps zero (λ j step at. each (suc j) step at)
    (λ j step le at. none (suc j) step (omega arith) at) in
    let here : length (entries_named (s.1 ++ events_of steps)) ≡ length (entries_named (events_of steps)) =
    ap length (named_append s.1 (events_of steps))
    ∙ ap (λ (l : List ℕ). length (l ++ entries_named (events_of steps))) (none 0 s (omega arith) refl) in
    omega arith
few_named (s ∷ steps) (suc place) each none =
    let rest = few_named steps place (λ j step at. each (suc j) step at)
    (λ j step le at. none (suc j) step (omega arith) at) in
    elim (each 0 s refl) [
      | inl enters ↦
          let here : length (entries_named (s.1 ++ events_of steps)) ≡ suc (length (entries_named (events_of steps))) =
          ap (λ (l : List Event2). length (entries_named (l ++ events_of steps))) enters.event in
          omega arith
      | inr full ↦
          let here : length (entries_named (s.1 ++ events_of steps)) ≡ length (entries_named (events_of steps)) =
          ap (λ (l : List Event2). length (entries_named (l ++ events_of steps))) full.event in
          omega arith
    ]

first_same : {A : Type 0} {a b : A} {xs ys : List A} → a ∷ xs ≡ b ∷ ys → a ≡ b
first_same e = cc

rest_same : {A : Type 0} {a b : A} {xs ys : List A} → a ∷ xs ≡ b ∷ ys → xs ≡ ys
rest_same e = cc

-- where the first entries are the initializer's, its number at a place among them is that of the place
number_at : (count first place : ℕ) (journal : List journaled.Entry) (calls : List Request)
    → place < count → place < length calls → take count (map call_of journal) ≡ take count (map setup_call calls)
    → slice_get (numbers_from first 0 journal) place ≡ Some (first + place)
number_at zero first place journal calls below within same = absurd (omega arith)
number_at (suc count) first place journal [] below within same = absurd (omega arith)
number_at (suc count) first place [] (call ∷ calls) below within same = absurd (none same)
  where
    none : [] ≡ setup_call call ∷ take count (map setup_call calls) → ⊥
    none e = cc
number_at (suc count) first zero (entry ∷ journal) (call ∷ calls) below within same =
    ap (λ (own : ℕ). slice_get
    (if own == 0 then first ∷ numbers_from (first + 1) 0 journal else numbers_from (first + 1) 0 journal) 0)
    (ap (λ (c : Call). c.process) (first_same same)) ∙ ap Some (plus_zero first)
  where
    plus_zero : (n : ℕ) → n ≡ n + 0
    plus_zero n = omega arith
number_at (suc count) first (suc place) (entry ∷ journal) (call ∷ calls) below within same =
    ap (λ (own : ℕ). slice_get
    (if own == 0 then first ∷ numbers_from (first + 1) 0 journal else numbers_from (first + 1) 0 journal)
    (suc place))
    (ap (λ (c : Call). c.process) (first_same same))
    ∙ number_at count (first + 1) place journal calls (omega arith) (omega arith) (rest_same same)
    ∙ ap Some (moved first place)
  where
    moved : (n i : ℕ) → n + 1 + i ≡ n + suc i
    moved n i = omega arith

below_min : (place a b : ℕ) → place < min a b → place < a
below_min place a b h = omega arith

no_entry_named : (number : ℕ) (events : List Event2) → events ≡ Entry number ∷ [] → entries_named events ≡ [] → ⊥
no_entry_named number events is none = clash (sym none ∙ ap entries_named is)
  where
    clash : [] ≡ number ∷ [] → ⊥
    clash e = cc

pub setup_lines_law : SetupLinesLaw
setup_lines_law x journal transcripts legal place step within at = elim (each place step at) [
  | inl enters ↦ enters.event ∙ ap (λ (n : ℕ). Entry n ∷ []) (number_is enters.number
      (sym (named_at steps place enters.number step (before enters) at enters.event) ∙ named))
  | inr full ↦
      let few = few_named steps place each (none full) in
      let many = slice_get_within (entries_named (events_of steps)) place (1 + place) named in
      absurd (omega arith)
]
  where
    steps : List Step
    steps = part transcripts 0

    final : AreFinal (setting_of x journal 0)
    final zero entry there maker = absurd cc
    final (suc i) entry there maker = final_replies (opening_of x) journal i entry legal.right there maker

    each : (j : ℕ) (other : Step) → slice_get steps j ≡ Some other → Enters other ⊎ IsFullStep other
    each j other found =
        let count = legal.parts in
        let lines = legal.lines 0 (omega arith) in
        asked (setting_of x journal 0) (opening_control x 0) lines.0 lines.1.ran steps final
        (all_of_part IsAsk (lines_of x 0) lines.1.ran steps lines.1.are (all_ask (first_line x 0) x.setup))
        lines.1.done j other found

    named : slice_get (entries_named (events_of steps)) place ≡ Some (1 + place)
    named = ap (λ (l : List ℕ). slice_get l place) (legal.each_call_once 0)
        ∙ number_at (setup_entries x) 1 place journal x.setup within
        (below_min place (length x.setup) (limit_of x) within) legal.setup_first

    number_is : (number : ℕ) → Some number ≡ Some (1 + place) → number ≡ place + 1
    number_is number e = let same : number ≡ 1 + place = cc in omega arith

    before : Enters step → (j : ℕ) (earlier : Step) → j < place → slice_get steps j ≡ Some earlier → Enters earlier
    before enters j earlier less found = elim (each j earlier found) [
      | inl is ↦ is
      | inr full ↦ absurd (no_entry_named enters.number step.1 enters.event
          ((legal.none_after_full 0).none j place earlier step found full.ended less at))
    ]

    none : IsFullStep step → (j : ℕ) (later : Step) → place ≤ j → slice_get steps j ≡ Some later
        → entries_named later.1 ≡ []
    none full j later le found = elim (cases_eq j place) [
      | inl here ↦ ap (λ (t : Step). entries_named t.1) (some_same (sym found ∙ ap (slice_get steps) here ∙ at))
          ∙ ap entries_named full.event
      | inr other ↦ (legal.none_after_full 0).none place j step later at full.ended (omega arith) found
    ]
      where
        some_same : Some later ≡ Some step → later ≡ step
        some_same e = cc
