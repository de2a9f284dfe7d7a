-- What the lines of a setup came to: each entered its request in ring 0, or found the journal full.
use Rattle.std.proofs.Common.{◌≡◌, ◌⊎◌, inl, inr, ℕ, zero, suc, ◌+◌, ◌<◌, ◌==◌, Bool, true, false, if◌then◌else◌, List, [], ◌∷◌, ◌++◌, Option, Some, None, refl, ap, sym, ◌∙◌, subst, arith, slice_get}
use Rattle.std.specs.Prelude.{map, take}
use Rattle.std.specs.List.{All, cons_option}
use Rattle.std.proofs.lemmas.List.Elements.{All-cons, All-head, All-nil, All-tail}
use Rattle.mx_core.specs.declared.elements.Event.TheVariants.{Seen, Missing}
use Rattle.mx_request.specs.declared.replies.Reply.{Reply}
use Rattle.mx_request.specs.declared.replies.Reply.TheVariants as reply
use Rattle.mx_request.specs.declared.requests.Request.{Request}
use Rattle.mx_script.specs.declared.lines.Line.{Line}
use Rattle.mx_script.specs.declared.lines.Line.TheVariants.{Ask}
use Rattle.mx_sdw.specs.declared.denials.Denial.{Denial}
use Rattle.mx_state.specs.declared.journal.Entry as journaled
use Rattle.mx_transcript.specs.Asking.{next, result_of}
use Rattle.mx_transcript.specs.Courses.{Course, Attempt, Answer}
use Rattle.mx_transcript.specs.Events.{IsEvent}
use Rattle.mx_transcript.specs.Legal.{Call, call_of, setup_call}
use Rattle.mx_transcript.specs.Lines.{IsEnd, IsLine}
use Rattle.mx_transcript.specs.Next.{Next, Calls, Ends}
use Rattle.mx_transcript.specs.Denials.{denial_of, denials, denied_with}
use Rattle.mx_transcript.specs.Parts.{AreDone, AreLines}
use Rattle.mx_transcript.specs.Scripts.{numbered}
use Rattle.mx_transcript.specs.Settings.{Setting, entry_at}
use Rattle.mx_transcript.specs.Transcripts.{Step, entries_named, events_of, numbers_from}
use Rattle.mx_transcript.specs.declared.transcripts.Event2.{Event2}
use Rattle.mx_transcript.specs.declared.transcripts.Event2.TheVariants.{Core, Entry}
use Rattle.mx_transcript.specs.declared.transcripts.Result2.{Result2}
use Rattle.mx_transcript.specs.declared.transcripts.Result2.TheVariants as result
use Rattle.mx_transcript.proofs.FinalReplies.{IsFinal, final_ends}
use Rattle.mx_transcript.proofs.PartLines.{all_done, all_of_part}
use Rattle.mx_upcall.specs.Control.{Control}

-- the replies to the process end its lines
abbrev pub AreFinal : Setting → Type 0
AreFinal s = (number : ℕ) (entry : journaled.Entry) → entry_at s.journal number ≡ Some entry → entry.process ≡ s.process
    → IsFinal entry.reply

-- the line's one event is the entry of the request, made in ring 0
pub record IsEntered (s : Setting) (request : Request) (events : List Event2) (ends : Result2) : Type 0 where
  pub number : ℕ
  pub event : events ≡ Entry number ∷ []
  pub entry : journaled.Entry
  pub there : entry_at s.journal number ≡ Some entry
  pub maker : entry.process ≡ s.process
  pub ring : entry.ring ≡ 0
  pub asked : entry.request ≡ request
  pub ended : ends ≡ result_of entry.reply

-- it has none, and found the journal full
pub record IsFull (events : List Event2) (ends : Result2) : Type 0 where
  pub event : events ≡ []
  pub ended : ends ≡ result.HistoryFull

pub record IsSetupLine (s : Setting) (g : Control) (request : Request) (events : List Event2) (ends : Result2) (after : Control)
    : Type 0 where
  pub came : IsEntered s request events ends ⊎ IsFull events ends
  pub same : after ≡ g

-- after its end a line has no event
no_event : (s : Setting) (asks : Next) (before : Course) (event : Event2) (after : Course) (ends : Result2) (left : Control)
    → asks ≡ Ends ends left → IsEvent s asks before event after → ⊥
no_event s asks before (Core (Seen e)) after ends left ended is = elim is [
  | inl made ↦ let n = made.next in cc
  | inr made ↦ let n = made.next in cc
]
no_event s asks before (Core (Missing segno by)) after ends left ended is = let n = is.next in cc
no_event s asks before (Entry number) after ends left ended is = let n = is.next in cc

same_ring : {a b : ℕ} {one other : Request} → Calls a one ≡ Calls b other → b ≡ a
same_ring e = cc

same_request : {a b : ℕ} {one other : Request} → Calls a one ≡ Calls b other → other ≡ one
same_request e = cc

pub setup_line : (s : Setting) (g : Control) (request : Request) (events : List Event2) (ends : Result2) (after : Control)
    → AreFinal s → g.registers.ring ≡ 0 → IsLine s g (Ask request) events ends after → IsSetupLine s g request events ends after
setup_line s g request [] ends after final ring is =
    let end : IsEnd s g (next g (Ask request) (Attempt [])) ends after =
    subst (λ (c : Course). IsEnd s g (next g (Ask request) c) ends after) is.so_far is.end in
    record { came = inr (record { event = refl; ended = end.1 }); same = end.2 }
setup_line s g request (Core (Seen e) ∷ events) ends after final ring is = elim is.so_far.1 [
  | inl made ↦ let n = made.next in absurd cc
  | inr made ↦ let n = made.next in absurd cc
]
setup_line s g request (Core (Missing segno by) ∷ events) ends after final ring is =
    let n = is.so_far.1.next in absurd cc
setup_line s g request (Entry number ∷ []) ends after final ring is =
    let call = is.so_far.1 in
    let asks : Calls g.registers.ring request ≡ Calls call.entry.ring call.entry.request = call.next in
    let end : IsEnd s g (Ends (result_of call.entry.reply) g) ends after =
    subst (λ (n : Next). IsEnd s g n ends after)
    (final_ends g request call.entry (final number call.entry call.there call.maker))
    (subst (λ (c : Course). IsEnd s g (next g (Ask request) c) ends after) (is.so_far.2 ∙ call.leads) is.end) in
    record {
      came = inl (record {
        number = number;
        event = refl;
        entry = call.entry;
        there = call.there;
        maker = call.maker;
        ring = same_ring asks ∙ ring;
        asked = same_request asks;
        ended = end.0;
      });
      same = end.1;
    }
setup_line s g request (Entry number ∷ event ∷ events) ends after final ring is =
    let call = is.so_far.1 in
    absurd (no_event s (next g (Ask request) (Answer call.entry [])) (Answer call.entry []) event is.so_far.2.0 _ _
    (final_ends g request call.entry (final number call.entry call.there call.maker))
    (subst (λ (c : Course). IsEvent s (next g (Ask request) c) c event is.so_far.2.0) call.leads is.so_far.2.1))

next_ring : (g after : Control) → after ≡ g → g.registers.ring ≡ 0 → after.registers.ring ≡ 0
next_ring g after same ring = ap (λ (c : Control). c.registers.ring) same ∙ ring

some_same : {A : Type 0} {a b : A} → Some a ≡ Some b → a ≡ b
some_same e = cc

-- each line of a setup
pub setup_steps : (s : Setting) (g : Control) (first : ℕ) (requests : List Request) (steps : List Step) (left : List (ℕ × Line))
    (now : Control) → AreFinal s → g.registers.ring ≡ 0 → AreDone s g (numbered first (map Ask requests)) steps left now
    → (place : ℕ) (step : Step) (request : Request) → slice_get steps place ≡ Some step → slice_get requests place ≡ Some request
    → IsEntered s request step.1 step.2 ⊎ IsFull step.1 step.2
setup_steps s g first [] steps left now final ring are place step request at asked = absurd cc
setup_steps s g first (own ∷ requests) [] left now final ring are place step request at asked = absurd cc
setup_steps s g first (own ∷ requests) (made ∷ steps) left now final ring are zero step request at asked =
    subst (λ (t : Step). IsEntered s request t.1 t.2 ⊎ IsFull t.1 t.2) (some_same at)
    (subst (λ (r : Request). IsEntered s r made.1 made.2 ⊎ IsFull made.1 made.2) (some_same asked)
    (setup_line s g own made.1 made.2 are.1 final ring are.2).came)
setup_steps s g first (own ∷ requests) (made ∷ steps) left now final ring are (suc place) step request at asked =
    setup_steps s are.1 (suc first) requests steps left now final
    (next_ring g are.1 (setup_line s g own made.1 made.2 are.1 final ring are.2).same ring) are.3 place step request at asked

-- the lines of a setup are requests
record IsAsk (line : ℕ × Line) : Type 0 where
  request : Request
  is : line.1 ≡ Ask request

all_ask : (first : ℕ) (requests : List Request) → All IsAsk (numbered first (map Ask requests))
all_ask first [] = All-nil IsAsk
all_ask first (request ∷ requests) =
    All-cons IsAsk (first, Ask request) (numbered (suc first) (map Ask requests))
    (record { request = request; is = refl }) (all_ask (suc first) requests)

-- none of them is denied
no_denial : (number : ℕ) (given : Reply) → denied_with number (result_of given) ≡ None
no_denial number (reply.Refused why) = refl
no_denial number reply.Done = refl
no_denial number (reply.Status status) = refl
no_denial number (reply.Names names) = refl
no_denial number (reply.Segno known) = refl
no_denial number (reply.Linked segno word fresh linkage) = refl
no_denial number reply.Sent = refl
no_denial number (reply.Message sender word) = refl
no_denial number reply.Nobody = refl
no_denial number reply.Waiting = refl

not_denied : (s : Setting) (request : Request) (step : Step) → IsEntered s request step.1 step.2 ⊎ IsFull step.1 step.2
    → denial_of step ≡ None
not_denied s request step came = elim came [
  | inl entered ↦ ap (denied_with step.0) entered.ended ∙ no_denial step.0 entered.entry.reply
  | inr full ↦ ap (denied_with step.0) full.ended
]

no_denials : (s : Setting) (g : Control) (lines : List (ℕ × Line)) (steps : List Step) (left : List (ℕ × Line)) (now : Control)
    → AreFinal s → g.registers.ring ≡ 0 → All IsAsk lines → AreDone s g lines steps left now → denials steps ≡ []
no_denials s g lines [] left now final ring ask are = refl
no_denials s g [] (made ∷ steps) left now final ring ask are = absurd are
no_denials s g (line ∷ lines) (made ∷ steps) left now final ring ask are =
    let own = All-head IsAsk line lines ask in
    let came = setup_line s g own.request made.1 made.2 are.1 final ring
    (subst (λ (l : Line). IsLine s g l made.1 made.2 are.1) own.is are.2) in
    ap (λ (first : Option (ℕ × Denial)). cons_option first (denials steps)) (not_denied s own.request made came.came)
    ∙ no_denials s are.1 lines steps left now final (next_ring g are.1 came.same ring) (All-tail IsAsk line lines ask) are.3

-- so the part of a setup has all its lines
pub setup_whole : (s : Setting) (g : Control) (first : ℕ) (requests : List Request) (steps : List Step) (after : Control)
    → AreFinal s → g.registers.ring ≡ 0 → AreLines s g (numbered first (map Ask requests)) steps after
    → AreDone s g (numbered first (map Ask requests)) steps [] after
setup_whole s g first requests steps after final ring are =
    let lines = numbered first (map Ask requests) in
    all_done s g after lines steps
    (no_denials s g are.ran steps [] after final ring
    (all_of_part IsAsk lines are.ran steps are.are (all_ask first requests)) are.done)
    are

-- an entry that was made in ring 0
pub record IsInRingZero (s : Setting) (number : ℕ) : Type 0 where
  pub entry : journaled.Entry
  pub there : entry_at s.journal number ≡ Some entry
  pub ring : entry.ring ≡ 0

record IsAt (numbers : List ℕ) (number : ℕ) : Type 0 where
  place : ℕ
  at : slice_get numbers place ≡ Some number

first_or_later : (n number place : ℕ) (numbers : List ℕ) → slice_get (n ∷ numbers) place ≡ Some number → (n ≡ number) ⊎ IsAt numbers number
first_or_later n number zero numbers at = inl (some_same at)
first_or_later n number (suc place) numbers at = inr (record { place = place; at = at })

-- what the lines of a setup name was made in ring 0
pub named_in_ring : (s : Setting) (g : Control) (first : ℕ) (requests : List Request) (steps : List Step) (left : List (ℕ × Line))
    (now : Control) → AreFinal s → g.registers.ring ≡ 0 → AreDone s g (numbered first (map Ask requests)) steps left now
    → (place number : ℕ) → slice_get (entries_named (events_of steps)) place ≡ Some number → IsInRingZero s number
named_in_ring s g first requests [] left now final ring are place number at = absurd cc
named_in_ring s g first [] (made ∷ steps) left now final ring are place number at = absurd are
named_in_ring s g first (own ∷ requests) (made ∷ steps) left now final ring are place number at =
    let line = setup_line s g own made.1 made.2 are.1 final ring are.2 in
    let ring' : are.1.registers.ring ≡ 0 = next_ring g are.1 line.same ring in
    elim line.came [
      | inl entered ↦
          let there : slice_get (entered.number ∷ entries_named (events_of steps)) place ≡ Some number =
          sym (ap (λ (events : List Event2). slice_get (entries_named (events ++ events_of steps)) place) entered.event) ∙ at in
          elim (first_or_later entered.number number place (entries_named (events_of steps)) there) [
            | inl same ↦ subst (IsInRingZero s) same (record { entry = entered.entry; there = entered.there; ring = entered.ring })
            | inr later ↦ named_in_ring s are.1 (suc first) requests steps left now final ring' are.3 later.place number later.at
          ]
      | inr full ↦ named_in_ring s are.1 (suc first) requests steps left now final ring' are.3 place number
          (sym (ap (λ (events : List Event2). slice_get (entries_named (events ++ events_of steps)) place) full.event) ∙ at)
    ]

-- where the lines up to this place have an entry each, it names the entry of its place
pub record HasOneEntry (step : Step) : Type 0 where
  pub number : ℕ
  pub event : step.1 ≡ Entry number ∷ []

pub named_at : (steps : List Step) (place number : ℕ) (step : Step)
    → ((before : ℕ) (earlier : Step) → before < place → slice_get steps before ≡ Some earlier → HasOneEntry earlier)
    → slice_get steps place ≡ Some step → step.1 ≡ Entry number ∷ []
    → slice_get (entries_named (events_of steps)) place ≡ Some number
named_at [] place number step before at event = absurd cc
named_at (made ∷ steps) zero number step before at event =
    ap (λ (events : List Event2). slice_get (entries_named (events ++ events_of steps)) 0)
    (ap (λ (t : Step). t.1) (some_same at) ∙ event)
named_at (made ∷ steps) (suc place) number step before at event =
    let first : HasOneEntry made = before 0 made (omega arith) refl in
    ap (λ (events : List Event2). slice_get (entries_named (events ++ events_of steps)) (suc place)) first.event
    ∙ named_at steps place number step (λ j earlier less found. before (suc j) earlier (omega (arith, less)) found) at event

-- no reply ends a line as one that found the journal full
pub no_full_reply : (given : Reply) → result_of given ≡ result.HistoryFull → ⊥
no_full_reply (reply.Refused why) e = cc
no_full_reply reply.Done e = cc
no_full_reply (reply.Status status) e = cc
no_full_reply (reply.Names names) e = cc
no_full_reply (reply.Segno known) e = cc
no_full_reply (reply.Linked segno word fresh linkage) e = cc
no_full_reply reply.Sent e = cc
no_full_reply (reply.Message sender word) e = cc
no_full_reply reply.Nobody e = cc
no_full_reply reply.Waiting e = cc

kept : (own : Bool) (first number : ℕ) (numbers : List ℕ) → IsAt numbers number → IsAt (if own then first ∷ numbers else numbers) number
kept true first number numbers is = record { place = suc is.place; at = is.at }
kept false first number numbers is = is

-- the number of an entry of the initializer is among its numbers
own_number : (first place : ℕ) (journal : List journaled.Entry) (entry : journaled.Entry) → slice_get journal place ≡ Some entry
    → entry.process ≡ 0 → IsAt (numbers_from first 0 journal) (first + place)
own_number first place [] entry at own = absurd cc
own_number first zero (other ∷ journal) entry at own =
    let same : other.process ≡ 0 = ap (λ (e : journaled.Entry). e.process) (some_same at) ∙ own in
    record {
      place = 0;
      at = ap (λ (p : ℕ). slice_get (if p == 0 then first ∷ numbers_from (first + 1) 0 journal else numbers_from (first + 1) 0 journal) 0) same
          ∙ ap Some (no_more first);
    }
  where
    no_more : (n : ℕ) → n ≡ n + 0
    no_more n = omega arith
own_number first (suc place) (other ∷ journal) entry at own =
    kept (other.process == 0) first (first + suc place) (numbers_from (first + 1) 0 journal)
    (subst (IsAt (numbers_from (first + 1) 0 journal)) (moved first place) (own_number (first + 1) place journal entry at own))
  where
    moved : (n i : ℕ) → n + 1 + i ≡ n + suc i
    moved n i = omega arith

pub named_entry : (s : Setting) (numbers : List ℕ) → ((place number : ℕ) → slice_get numbers place ≡ Some number → IsInRingZero s number)
    → numbers ≡ numbers_from 1 0 s.journal → (place : ℕ) (entry : journaled.Entry) → slice_get s.journal place ≡ Some entry
    → entry.process ≡ 0 → entry.ring ≡ 0
named_entry s numbers each same place entry at own =
    let number = own_number 1 place s.journal entry at own in
    let found : slice_get numbers number.place ≡ Some (suc place) = ap (λ (l : List ℕ). slice_get l number.place) same ∙ number.at ∙ ap Some (next place) in
    let zero' = each number.place (suc place) found in
    ap (λ (e : journaled.Entry). e.ring) (some_same (sym at ∙ zero'.there)) ∙ zero'.ring
  where
    next : (n : ℕ) → 1 + n ≡ suc n
    next n = omega arith

-- where the first entries are the initializer's, its number at a place among them is that of the place
pub number_is : (count first place number : ℕ) (journal : List journaled.Entry)
    → ((j : ℕ) (entry : journaled.Entry) → j < count → slice_get journal j ≡ Some entry → entry.process ≡ 0)
    → place < count → slice_get (numbers_from first 0 journal) place ≡ Some number → number ≡ first + place
number_is zero first place number journal each below at = absurd (omega (arith, below))
number_is (suc count) first place number [] each below at = absurd cc
number_is (suc count) first zero number (entry ∷ journal) each below at =
    let own : entry.process ≡ 0 = each 0 entry (omega arith) refl in
    let same : first ≡ number = some_same
    (sym (ap (λ (p : ℕ). slice_get (if p == 0 then first ∷ numbers_from (first + 1) 0 journal else numbers_from (first + 1) 0 journal) 0) own)
    ∙ at) in
    omega (arith, same)
number_is (suc count) first (suc place) number (entry ∷ journal) each below at =
    let own : entry.process ≡ 0 = each 0 entry (omega arith) refl in
    let rest : number ≡ first + 1 + place = number_is count (first + 1) place number journal
    (λ j other less found. each (suc j) other (omega (arith, less)) found) (omega (arith, below))
    (sym (ap (λ (p : ℕ). slice_get (if p == 0 then first ∷ numbers_from (first + 1) 0 journal else numbers_from (first + 1) 0 journal)
    (suc place)) own) ∙ at) in
    omega (arith, rest)

-- an entry and the request of the setup that it was made of
pub record IsCallOf (journal : List journaled.Entry) (requests : List Request) (place : ℕ) : Type 0 where
  pub entry : journaled.Entry
  pub request : Request
  pub at : slice_get journal place ≡ Some entry
  pub asked : slice_get requests place ≡ Some request
  pub same : call_of entry ≡ setup_call request

pub first_calls : (count : ℕ) (journal : List journaled.Entry) (requests : List Request)
    → ((place : ℕ) → place < count → IsCallOf journal requests place)
    → take count (map call_of journal) ≡ take count (map setup_call requests)
first_calls zero journal requests each = refl
first_calls (suc count) [] requests each = let first = each 0 (omega arith) in let at = first.at in absurd cc
first_calls (suc count) (entry ∷ journal) [] each = let first = each 0 (omega arith) in let asked = first.asked in absurd cc
first_calls (suc count) (entry ∷ journal) (request ∷ requests) each =
    let first = each 0 (omega arith) in
    let same : call_of entry ≡ setup_call request =
    ap call_of (some_same first.at) ∙ first.same ∙ sym (ap setup_call (some_same first.asked)) in
    ap (λ (call : Call). call ∷ take count (map call_of journal)) same
    ∙ ap (λ (calls : List Call). setup_call request ∷ calls)
    (first_calls count journal requests (λ place below.
    let later = each (suc place) (omega (arith, below)) in
    record { entry = later.entry; request = later.request; at = later.at; asked = later.asked; same = later.same }))

first_same : {A : Type 0} {a b : A} {xs ys : List A} → a ∷ xs ≡ b ∷ ys → a ≡ b
first_same e = cc

rest_same : {A : Type 0} {a b : A} {xs ys : List A} → a ∷ xs ≡ b ∷ ys → xs ≡ ys
rest_same e = cc

-- the first entries are the initializer's, where they are those of the setup
pub own_first : (count place : ℕ) (journal : List journaled.Entry) (requests : List Request) (entry : journaled.Entry)
    → take count (map call_of journal) ≡ take count (map setup_call requests) → place < count → slice_get journal place ≡ Some entry
    → entry.process ≡ 0
own_first zero place journal requests entry same below at = absurd (omega (arith, below))
own_first (suc count) place [] requests entry same below at = absurd cc
own_first (suc count) place (other ∷ journal) [] entry same below at = absurd (some same)
  where
    some : call_of other ∷ take count (map call_of journal) ≡ [] → ⊥
    some e = cc
own_first (suc count) zero (other ∷ journal) (request ∷ requests) entry same below at =
    ap (λ (e : journaled.Entry). e.process) (sym (some_same at)) ∙ ap (λ (call : Call). call.process) (first_same same)
own_first (suc count) (suc place) (other ∷ journal) (request ∷ requests) entry same below at =
    own_first count place journal requests entry (rest_same same) (omega (arith, below)) at
