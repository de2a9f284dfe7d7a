-- The initializer's part that the setup's entries determine is right.
use Rattle.std.proofs.Common.{◌≡◌, ℕ, zero, suc, ◌<◌, ◌≤◌, ◌+◌, nat_le, Bool, true, List, [], ◌∷◌, ◌++◌, map, take, drop, length, Option, Some, None, refl, sym, ◌∙◌, ap, subst, arith, append_assoc, length-append}
use Rattle.std.proofs.lemmas.Bool.Decides.{nat_tests}
use Rattle.std.proofs.lemmas.List.{drop_all}
use Rattle.std.specs.List.{slice_get}
use Rattle.mx_upcall.specs.Control.{Control}
use Rattle.mx_transcript.specs.Asking.{next, result_of}
use Rattle.mx_transcript.specs.Courses.{Attempt, Answer}
use Rattle.mx_transcript.specs.Legal.{Call, call_of, setup_call, setup_entries}
use Rattle.mx_transcript.specs.Lines.{IsEnd}
use Rattle.mx_transcript.specs.Next.{Next, Calls, Ends}
use Rattle.mx_transcript.specs.Openings.{opening_control}
use Rattle.mx_transcript.specs.Parts.{AreDone}
use Rattle.mx_transcript.specs.Scripts.{numbered, first_line, lines_of}
use Rattle.mx_transcript.specs.Settings.{Setting, entry_at}
use Rattle.mx_transcript.specs.Standing.{own_setting}
use Rattle.mx_transcript.specs.Transcripts.{Step, events_of, entries_named, numbers_from}
use Rattle.mx_transcript.specs.declared.transcripts.Event2.{Event2}
use Rattle.mx_transcript.specs.declared.transcripts.Event2.TheVariants.{Entry}
use Rattle.mx_transcript.specs.declared.transcripts.Result2.TheVariants.{HistoryFull}
use Rattle.mx_request.specs.declared.replies.Reply.{Reply}
use Rattle.mx_request.specs.declared.replies.Reply.TheVariants as reply
use Rattle.mx_request.specs.declared.requests.Request.{Request}
use Rattle.mx_script.specs.Sessions.{Outline, limit_of}
use Rattle.mx_script.specs.declared.lines.Line.TheVariants.{Ask}
use Rattle.mx_state.specs.declared.journal.Entry as journaled
use Rattle.mx_transcript.specs.Opened.{opening_of}
use Rattle.mx_state.specs.History.{IsRight}
use Rattle.mx_state.specs.Plain.{Plain}
use Rattle.mx_state.specs.Requests.{plain}
use Rattle.mx_sup.specs.Setups.{setup_step, setup_steps, setup_part}
use Rattle.mx_transcript.proofs.FinalReplies.{IsFinal, final_ends, path_final}
use Rattle.mx_transcript.proofs.PartLines.{whole_part}
use Rattle.mx_ties.specs.Ran.{IsSetUp}
use Rattle.mx_ties.specs.Views.{cores}

-- the calls of these entries are those of the first requests
abbrev AreCalls : List journaled.Entry → List Request → Type 0
AreCalls [] requests = Unit {0}
AreCalls (entry ∷ entries) [] = ⊥
AreCalls (entry ∷ entries) (request ∷ requests) = (call_of entry ≡ setup_call request) × AreCalls entries requests

-- the entries stand in a journal from this number on
abbrev StandFrom : List journaled.Entry → ℕ → List journaled.Entry → Type 0
StandFrom journal first [] = Unit {0}
StandFrom journal first (entry ∷ entries) = (entry_at journal first ≡ Some entry) × StandFrom journal (suc first) entries

-- a journal is full where a request has no entry
abbrev IsFullWhere : Bool → List journaled.Entry → List Request → Type 0
IsFullWhere full entries [] = Unit {0}
IsFullWhere full [] (request ∷ requests) = full ≡ true
IsFullWhere full (entry ∷ entries) (request ∷ requests) = IsFullWhere full entries requests

same_full : (full : Bool) (requests : List Request) → full ≡ true → IsFullWhere full [] requests
same_full full [] e = tt
same_full full (request ∷ requests) e = e

-- a line ends with each of their replies
abbrev AreLast : Control → List journaled.Entry → Type 0
AreLast g [] = Unit {0}
AreLast g (entry ∷ entries) =
    (next g (Ask entry.request) (Answer entry []) ≡ Ends (result_of entry.reply) g) × AreLast g entries

lines_done : (s : Setting) (g : Control) (number first : ℕ) (entries : List journaled.Entry) (requests : List Request)
    → s.process ≡ 0 → g.registers.ring ≡ 0 → AreLast g entries → AreCalls entries requests → StandFrom s.journal first entries → IsFullWhere s.full entries requests
    → AreDone s g (numbered number (map Ask requests)) (setup_steps number first entries requests) [] g
lines_done s g number first entries [] p r last calls stand full = (refl, refl)
lines_done s g number first [] (request ∷ requests) p r last calls stand full = (
  refl,
  g,
  record { course = Attempt []; so_far = refl; end = (full, refl, refl) },
  lines_done s g (suc number) first [] requests p r tt tt tt (same_full s.full requests full),
)
lines_done s g number first (entry ∷ entries) (request ∷ requests) p r last calls stand full = (
  refl,
  g,
  record {
    course = Answer entry [];
    so_far = (
      Answer entry [],
      record {
        entry = entry;
        there = stand.0;
        maker = ap (λ (c : Call). c.process) calls.0 ∙ sym p;
        next = same_call entry request g.registers.ring r calls.0;
        leads = refl;
      },
      refl,
    );
    end = subst (λ (n : Next). IsEnd s g n (result_of entry.reply) g) (sym last.0) (refl, refl);
  },
  lines_done s g (suc number) (suc first) entries requests p r last.1 calls.1 stand.1 full,
)
  where
    same_call : (entry : journaled.Entry) (request : Request) (ring : ℕ) → ring ≡ 0 → call_of entry ≡ setup_call request
        → Calls ring request ≡ Calls entry.ring entry.request
    same_call entry request ring e c =
        let a : entry.ring ≡ 0 = ap (λ (x : Call). x.ring) c in
        let b : entry.request ≡ request = ap (λ (x : Call). x.request) c in
        rw (e, a, b) refl

-- which lines found the journal full
not_full : (given : Reply) → result_of given ≡ HistoryFull → ⊥
not_full (reply.Refused why) e = cc
not_full reply.Done e = cc
not_full (reply.Status status) e = cc
not_full (reply.Names names) e = cc
not_full (reply.Segno known) e = cc
not_full (reply.Linked segno word fresh linkage) e = cc
not_full reply.Sent e = cc
not_full (reply.Message sender word) e = cc
not_full reply.Nobody e = cc
not_full reply.Waiting e = cc

full_past : (number first : ℕ) (entries : List journaled.Entry) (requests : List Request) (place : ℕ) (step : Step)
    → length entries ≤ place → slice_get (setup_steps number first entries requests) place ≡ Some step
    → (step.2 ≡ HistoryFull) × (step.1 ≡ [])
full_past number first entries [] place step h e = absurd (cc)
full_past number first [] (request ∷ requests) zero step h e = (cc, cc)
full_past number first [] (request ∷ requests) (suc place) step h e = full_past (suc number) first [] requests place step (omega arith) e
full_past number first (entry ∷ entries) (request ∷ requests) zero step h e = absurd (omega arith)
full_past number first (entry ∷ entries) (request ∷ requests) (suc place) step h e =
    full_past (suc number) (suc first) entries requests place step (omega arith) e

full_only : (number first : ℕ) (entries : List journaled.Entry) (requests : List Request) (place : ℕ) (step : Step)
    → slice_get (setup_steps number first entries requests) place ≡ Some step → step.2 ≡ HistoryFull → length entries ≤ place
full_only number first entries [] place step e f = absurd (cc)
full_only number first [] (request ∷ requests) place step e f = omega arith
full_only number first (entry ∷ entries) (request ∷ requests) zero step e f = absurd (not_full entry.reply (ended number first entry step e ∙ f))
  where
    ended : (number first : ℕ) (entry : journaled.Entry) (step : Step) → Some (number, Entry first ∷ [], result_of entry.reply) ≡ Some step
        → result_of entry.reply ≡ step.2
    ended number first entry step e = cc
full_only number first (entry ∷ entries) (request ∷ requests) (suc place) step e f =
    omega (arith, full_only (suc number) (suc first) entries requests place step e f)

-- the entries that are named
named : (number first : ℕ) (entries : List journaled.Entry) (requests : List Request) → AreCalls entries requests
    → entries_named (events_of (setup_steps number first entries requests)) ≡ numbers_from first 0 entries
named number first [] [] calls = refl
named number first (entry ∷ entries) [] calls = absurd calls
named number first [] (request ∷ requests) calls = named (suc number) first [] requests tt
named number first (entry ∷ entries) (request ∷ requests) calls =
    let maker : entry.process ≡ 0 = ap (λ (c : Call). c.process) calls.0 in
    rw (maker, named (suc number) (suc first) entries requests calls.1) (ap (λ n. first ∷ numbers_from n 0 entries) (next first))
  where
    next : (n : ℕ) → suc n ≡ n + 1
    next n = omega arith

quiet : (number first : ℕ) (entries : List journaled.Entry) (requests : List Request)
    → cores (events_of (setup_steps number first entries requests)) ≡ []
quiet number first entries [] = refl
quiet number first [] (request ∷ requests) = quiet (suc number) first [] requests
quiet number first (entry ∷ entries) (request ∷ requests) = quiet (suc number) (suc first) entries requests

-- what is known of the whole setup
are_calls : (entries : List journaled.Entry) (requests : List Request) (count : ℕ) → length entries ≡ count
    → map call_of entries ≡ take count (map setup_call requests) → AreCalls entries requests
are_calls [] requests count n e = tt
are_calls (entry ∷ entries) [] zero n e = absurd (cc)
are_calls (entry ∷ entries) [] (suc count) n e = absurd (cc)
are_calls (entry ∷ entries) (request ∷ requests) zero n e = absurd (cc)
are_calls (entry ∷ entries) (request ∷ requests) (suc count) n e =
    let f = heads (call_of entry) (setup_call request) (map call_of entries) (take count (map setup_call requests)) e in
    (f.0, are_calls entries requests count (omega (arith, n)) f.1)
  where
    heads : (a b : Call) (more others : List Call) → a ∷ more ≡ b ∷ others → (a ≡ b) × (more ≡ others)
    heads a b more others e = (cc, cc)

one_more : (n : ℕ) → n + 1 ≡ suc n
one_more n = omega arith

stand : (before entries : List journaled.Entry) → StandFrom (before ++ entries) (suc (length before)) entries
stand before entries = from before entries (before ++ entries) refl
  where
    at : (before : List journaled.Entry) (entry : journaled.Entry) (entries : List journaled.Entry)
        → slice_get (before ++ entry ∷ entries) (length before) ≡ Some entry
    at [] entry entries = refl
    at (b ∷ before) entry entries = at before entry entries

    from : (before entries journal : List journaled.Entry) → journal ≡ before ++ entries → StandFrom journal (suc (length before)) entries
    from before [] journal e = tt
    from before (entry ∷ entries) journal e = (
      ap (λ j. slice_get j (length before)) e ∙ at before entry entries,
      subst (λ n. StandFrom journal (suc n) entries) (length-append before (entry ∷ []) ∙ one_more (length before))
          (from (before ++ entry ∷ []) entries journal (e ∙ sym (append_assoc before (entry ∷ []) entries))),
    )

full_where : (limit : ℕ) (entries : List journaled.Entry) (requests : List Request) (most : ℕ)
    → (length entries < length requests → limit ≤ most) → IsFullWhere (nat_le limit most) entries requests
full_where limit entries [] most h = tt
full_where limit [] (request ∷ requests) most h = let e : limit ≤ most = h (omega arith) in grind (arith, nat_tests)
full_where limit (entry ∷ entries) (request ∷ requests) most h = full_where limit entries requests most (λ l. h (omega (arith, l)))

-- the initializer's lines end with the replies to its requests on paths
are_last : (g : Control) (s : Plain) (entries : List journaled.Entry) (requests : List Request) → IsRight s entries
    → AreCalls entries requests → AreLast g entries
are_last g s [] requests right calls = tt
are_last g s (entry ∷ entries) [] right calls = absurd calls
are_last g s (entry ∷ entries) (request ∷ requests) right calls = (
  final_ends g entry.request entry (subst IsFinal right.0.reply (path_final s entry.process entry.ring entry.request
      (right.0.maker.1 (ap (λ (c : Call). c.process) calls.0)))),
  are_last g (plain s entry.process entry.ring entry.request).state entries requests right.1 calls.1,
)

pub part_is_set_up : (x : Outline) (journal : List journaled.Entry) → length journal ≡ setup_entries x
    → map call_of journal ≡ take (setup_entries x) (map setup_call x.setup) → IsRight (opening_of x) journal
    → IsSetUp x journal (setup_part x journal)
part_is_set_up x journal n c right =
    let first = first_line x 0 in
    let calls = are_calls journal x.setup (setup_entries x) n c in
    let last = are_last (opening_control x 0) (opening_of x) journal x.setup right calls in
    record {
      after = opening_control x 0;
      lines = λ d agrees.
          let setting = own_setting x journal (length journal) 0 d in
          whole_part setting (opening_control x 0) (opening_control x 0) (lines_of x 0) (setup_part x journal)
          (lines_done setting (opening_control x 0) first 1 journal x.setup refl refl last calls (stand [] journal)
          (full_where (limit_of x) journal x.setup (length journal) (λ l. omega (arith, n, l))));
      full = record { each = λ place step h e. (full_past first 1 journal x.setup place step (omega (arith, n, h)) e).0 };
      none_after_full = record {
        none = λ place later full step e f l g.
            ap entries_named (full_past first 1 journal x.setup later step (omega (arith, l, full_only first 1 journal x.setup place full e f)) g).1;
      };
      calls = named first 1 journal x.setup calls;
      quiet = quiet first 1 journal x.setup;
    }

-- the part line by line
at_place : {A : Type 0} (xs : List A) (i : ℕ) (x : A) → slice_get xs i ≡ Some x → drop i xs ≡ x ∷ drop (suc i) xs
at_place [] i x e = absurd (cc)
at_place (y ∷ xs) zero x e = cc
at_place (y ∷ xs) (suc i) x e = at_place xs i x e

next_entry : (first : ℕ) (journal : List journaled.Entry) (requests : List Request) (steps steps' : List Step) (i : ℕ) (entry : journaled.Entry) (request : Request)
    → setup_steps first 1 journal requests ≡ steps ++ setup_steps (first + i) (1 + i) (drop i journal) (drop i requests)
    → slice_get journal i ≡ Some entry → slice_get requests i ≡ Some request
    → steps' ≡ steps ++ (first + i, Entry (i + 1) ∷ [], result_of entry.reply) ∷ []
    → setup_steps first 1 journal requests ≡ steps' ++ setup_steps (first + (i + 1)) (1 + (i + 1)) (drop (i + 1) journal) (drop (i + 1) requests)
next_entry first journal requests steps steps' i entry request whole at asked more =
    let here : setup_steps (first + i) (1 + i) (drop i journal) (drop i requests)
    ≡ (first + i, Entry (1 + i) ∷ [], result_of entry.reply) ∷ setup_steps (suc (first + i)) (suc (1 + i)) (drop (suc i) journal) (drop (suc i) requests)
    = rw (at_place journal i entry at, at_place requests i request asked) refl in
    let a : suc (first + i) ≡ first + (i + 1) = omega arith in
    let b : suc (1 + i) ≡ 1 + (i + 1) = omega arith in
    let d : suc i ≡ i + 1 = omega arith in
    let f : 1 + i ≡ i + 1 = omega arith in
    whole ∙ ap (λ (rest : List Step). steps ++ rest) here
    ∙ rw (a, b, d, f, more) (sym (append_assoc steps ((first + i, Entry (i + 1) ∷ [], result_of entry.reply) ∷ []) _))

next_full : (first : ℕ) (journal : List journaled.Entry) (requests : List Request) (steps steps' : List Step) (i : ℕ) (request : Request)
    → setup_steps first 1 journal requests ≡ steps ++ setup_steps (first + i) (1 + i) (drop i journal) (drop i requests)
    → length journal ≤ i → slice_get requests i ≡ Some request
    → steps' ≡ steps ++ (first + i, [], HistoryFull) ∷ []
    → setup_steps first 1 journal requests ≡ steps' ++ setup_steps (first + (i + 1)) (1 + (i + 1)) (drop (i + 1) journal) (drop (i + 1) requests)
next_full first journal requests steps steps' i request whole past asked more =
    let none : drop i journal ≡ [] = drop_all i journal past in
    let none_more : drop (i + 1) journal ≡ [] = drop_all (i + 1) journal (omega (arith, past)) in
    let here : setup_steps (first + i) (1 + i) (drop i journal) (drop i requests)
    ≡ (first + i, [], HistoryFull) ∷ setup_steps (suc (first + i)) (1 + i) [] (drop (suc i) requests)
    = rw (none, at_place requests i request asked) refl in
    let a : suc (first + i) ≡ first + (i + 1) = omega arith in
    let d : suc i ≡ i + 1 = omega arith in
    whole ∙ ap (λ (rest : List Step). steps ++ rest) here
    ∙ rw (a, d, none_more, more, none_left (first + (i + 1)) (1 + i) (1 + (i + 1)) (drop (i + 1) requests))
    (sym (append_assoc steps ((first + i, [], HistoryFull) ∷ []) _))
  where
    none_left : (number one other : ℕ) (requests : List Request) → setup_steps number one [] requests ≡ setup_steps number other [] requests
    none_left number one other [] = refl
    none_left number one other (request ∷ requests) = ap (λ (rest : List Step). (number, [], HistoryFull) ∷ rest) (none_left (suc number) one other requests)

past_end : (journal : List journaled.Entry) (i : ℕ) → slice_get journal i ≡ None → length journal ≤ i
past_end [] i e = omega arith
past_end (entry ∷ journal) zero e = absurd (cc)
past_end (entry ∷ journal) (suc i) e = omega (arith, past_end journal i e)

next_line : (first : ℕ) (journal : List journaled.Entry) (requests : List Request) (steps events_steps : List Step) (events : List Event2) (i : ℕ)
    (at : Option journaled.Entry) (request : Request)
    → setup_steps first 1 journal requests ≡ steps ++ setup_steps (first + i) (1 + i) (drop i journal) (drop i requests) → events ≡ []
    → at ≡ slice_get journal i → slice_get requests i ≡ Some request
    → events_steps ≡ steps ++ setup_step first i events at ∷ []
    → setup_steps first 1 journal requests ≡ events_steps ++ setup_steps (first + (i + 1)) (1 + (i + 1)) (drop (i + 1) journal) (drop (i + 1) requests)
next_line first journal requests steps steps' events i None request whole none at asked more =
    next_full first journal requests steps steps' i request whole (past_end journal i (sym at)) asked
    (more ∙ ap (λ (e : List Event2). steps ++ (first + i, e, HistoryFull) ∷ []) none)
next_line first journal requests steps steps' events i (Some entry) request whole none at asked more =
    next_entry first journal requests steps steps' i entry request whole (sym at) asked
    (more ∙ ap (λ (e : List Event2). steps ++ (first + i, e ++ Entry (i + 1) ∷ [], result_of entry.reply) ∷ []) none)

request_at : (requests : List Request) (i : ℕ) → i < length requests → (request : Request) × (slice_get requests i ≡ Some request)
request_at [] i h = absurd (omega (arith, h))
request_at (request ∷ requests) zero h = (request, refl)
request_at (request ∷ requests) (suc i) h = request_at requests i (omega (arith, h))

pub next_recorded : (first : ℕ) (journal : List journaled.Entry) (requests : List Request) (steps still steps' : List Step) (before events : List Event2) (i : ℕ)
    (at : Option journaled.Entry)
    → setup_steps first 1 journal requests ≡ steps ++ setup_steps (first + i) (1 + i) (drop i journal) (drop i requests)
    → still ≡ steps → events ≡ before → before ≡ [] → at ≡ slice_get journal i → i < length requests
    → steps' ≡ still ++ setup_step first i events at ∷ []
    → setup_steps first 1 journal requests ≡ steps' ++ setup_steps (first + (i + 1)) (1 + (i + 1)) (drop (i + 1) journal) (drop (i + 1) requests)
next_recorded first journal requests steps still steps' before events i at whole same kept none there within more =
    let asked = request_at requests i within in
    next_line first journal requests steps steps' events i at asked.0 whole (kept ∙ none) there asked.1
    (more ∙ ap (λ (s : List Step). s ++ setup_step first i events at ∷ []) same)
