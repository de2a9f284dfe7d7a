-- Each wrong line is refused.
use Rattle.std.proofs.Common.{◌≡◌, ◌⊎◌, inl, inr, ℕ, true, false, List, [], ◌∷◌, refl, subst, None, Some, arith}
use Rattle.mx_sdw.specs.Judging.{judgement}
use Rattle.mx_sdw.specs.declared.denials.Denial.TheVariants as denial
use Rattle.mx_sdw.specs.declared.operations.Op.TheVariants as op
use Rattle.mx_upcall.specs.Control.{Control, ungated}
use Rattle.mx_core.specs.declared.elements.Element.{Element}
use Rattle.mx_core.specs.declared.elements.Event.TheVariants.{Seen}
use Rattle.mx_core.specs.declared.elements.Kind.TheVariants as kind
use Rattle.mx_core.specs.declared.elements.Outcome.TheVariants as outcome
use Rattle.mx_request.specs.declared.requests.Request.TheVariants.{Logout, Initiate}
use Rattle.mx_state.specs.declared.journal.Entry as journaled
use Rattle.mx_script.specs.declared.lines.Line.{Line}
use Rattle.mx_script.specs.declared.lines.Line.TheVariants as line
use Rattle.mx_transcript.specs.declared.transcripts.Event2.{Event2}
use Rattle.mx_transcript.specs.declared.transcripts.Event2.TheVariants.{Core, Entry}
use Rattle.mx_transcript.specs.declared.transcripts.Result2.{Result2}
use Rattle.mx_transcript.specs.declared.transcripts.Result2.TheVariants as result
use Rattle.mx_transcript.specs.Asking.{next}
use Rattle.mx_transcript.specs.Courses.{Course, Attempt, Answer}
use Rattle.mx_transcript.specs.Denials.{denials}
use Rattle.mx_transcript.specs.Elements.{IsJudged}
use Rattle.mx_transcript.specs.Lines.{Goes, IsEnd, IsLine}
use Rattle.mx_transcript.specs.Next.{Reference, Asks, Calls, Ends}
use Rattle.mx_transcript.specs.Parts.{AreDone, AreLines}
use Rattle.mx_transcript.specs.Settings.{entry_at, judged}
use Rattle.mx_transcript.specs.Transcripts.{Step}
use Rattle.mx_transcript.proofs.EventByEvent as event
use Rattle.mx_transcript.proofs.PartLines.{all_done, cut_at_first}
use Rattle.mx_transcript.specs.WrongLines.{setting, g, lda, sta, read, written, outside, out, refused, two_sets, four_lines, denied_first, done_under, logged_out, WrongReferences, WrongCalls, WrongScripts}

abbrev start : Control
start = ungated g

-- the reference that a line asks for first, and the rest of the line
peel : (l : Line) (r : Reference) (e : Element) (events : List Event2) (course : Course)
    → next start l (Attempt []) ≡ Asks r
    → Goes setting start l (Attempt []) (Core (Seen e) ∷ events) course
    → IsJudged r (setting.descriptor e) e × Goes setting start l (Attempt (judged setting e ∷ [])) events course
peel l r e events course asks goes = event.peel setting start l (Attempt []) r e events course asks goes

-- the call that a line asks for first, and the rest of the line
peel_call : (l : Line) (number : ℕ) (entry : journaled.Entry) (events : List Event2) (course : Course)
    → entry_at setting.journal number ≡ Some entry → Goes setting start l (Attempt []) (Entry number ∷ events) course
    → (next start l (Attempt []) ≡ Calls entry.ring entry.request) × (entry.process ≡ 1)
    × Goes setting start l (Answer entry []) events course
peel_call l number entry events course there goes =
    event.peel_call setting start l (Attempt []) number entry events course there goes

-- the end of a line that has no further event
at_end : (after : Control) (l : Line) (before course : Course) (ends : Result2) → Goes setting start l before [] course
    → IsEnd setting start (next start l course) ends after → IsEnd setting start (next start l before) ends after
at_end after l before course ends goes end = event.at_end setting start l after before course ends goes end

-- a line that has ended has no reference
no_more : (l : Line) (before : Course) (ends : Result2) (left : Control) (e : Element) (events : List Event2)
    (course : Course)
    → next start l before ≡ Ends ends left → Goes setting start l before (Core (Seen e) ∷ events) course → ⊥
no_more l before ends left e events course asks goes =
    event.none_asked setting start l before e events course (λ r n. cc) (λ r n. cc) goes

abbrev reads : ℕ → Reference
reads word = record { op = op.Read; segno = 8; word = word; ring = 4; stores = None }

abbrev writes : Reference
writes = record { op = op.Write; segno = 8; word = 0; ring = 4; stores = Some 7 }

same_some : (a b : ℕ) → Some a ≡ Some b → a ≡ b
same_some a b h = cc

same_a : (a b : ℕ) → result.A a ≡ result.A b → a ≡ b
same_a a b h = cc

-- the right ones
judged_so : (l : Line) (r : Reference) (e : Element) (ends : Result2) (after : Control)
    → next start l (Attempt []) ≡ Asks r
    → IsJudged r (setting.descriptor e) e → IsEnd setting start (next start l (Attempt (judged setting e ∷ []))) ends after
    → IsLine setting start l (Core (Seen e) ∷ []) ends after
judged_so l r e ends after asks right end = event.one setting start l r e ends after asks right end

loaded : IsLine setting start (lda 0) (Core (Seen read) ∷ []) (result.A 5) (ungated (record g { a = 5 }))
unfolding judgement
loaded = judged_so (lda 0) (reads 0) read (result.A 5) (ungated (record g { a = 5 })) refl
    (record { kind = refl; segno = refl; word = refl; ring = refl; outcome = omega arith }) (refl, refl)

stored : IsLine setting start sta (Core (Seen written) ∷ []) result.Done start
unfolding judgement
stored = judged_so sta writes written result.Done start refl
    (record { kind = refl; segno = refl; word = refl; ring = refl; outcome = refl }) (refl, refl)

denied : IsLine setting start (lda 64) (Core (Seen outside) ∷ []) (result.Denied denial.OutOfBounds) start
unfolding judgement
denied = judged_so (lda 64) (reads 64) outside (result.Denied denial.OutOfBounds) start refl
    (record { kind = refl; segno = refl; word = refl; ring = refl; outcome = refl }) (refl, refl)

pub wrong_references : WrongReferences
unfolding judgement
wrong_references = record {
  right_load = loaded;
  right_store = stored;
  right_denial = denied;
  other_value = λ after is.
      let w : Some 7 ≡ Some 1 = (peel sta writes _ [] is.course refl is.so_far).0.outcome in
      let z : 7 ≡ 1 = same_some 7 1 w in omega arith;
  other_result = λ after is.
      let rest = (peel (lda 0) (reads 0) read [] is.course refl is.so_far).1 in
      let end : IsEnd setting start (next start (lda 0) (Attempt (judged setting read ∷ []))) (result.A 6) after =
      at_end after (lda 0) _ is.course (result.A 6) rest is.end in
      let w : result.A 6 ≡ result.A 5 = end.0 in
      let z : 6 ≡ 5 = same_a 6 5 w in omega arith;
  none = λ after is. at_end after (lda 0) (Attempt []) is.course result.Done is.so_far is.end;
  second = λ after is.
      no_more (lda 0) (Attempt (judged setting read ∷ [])) (result.A 5) (ungated (record g { a = 5 })) read [] is.course refl
      (peel (lda 0) (reads 0) read (Core (Seen read) ∷ []) is.course refl is.so_far).1;
  other_kind = λ after is. let w : kind.Read ≡ kind.Write =
      (peel sta writes _ [] is.course refl is.so_far).0.kind in cc;
  other_ring = λ after is. let w : 3 ≡ 4 = (peel (lda 0) (reads 0) _ [] is.course refl is.so_far).0.ring in omega arith;
  granted = λ after is.
      let w : outcome.Read 5 2 1 ≡ outcome.Denied denial.OutOfBounds =
      (peel (lda 64) (reads 64) _ [] is.course refl is.so_far).0.outcome in cc;
  other_denial = λ after is.
      let w : outcome.Denied denial.ReadBracket ≡ outcome.Denied denial.OutOfBounds =
      (peel (lda 64) (reads 64) _ [] is.course refl is.so_far).0.outcome in cc;
}

pub wrong_calls : WrongCalls
wrong_calls = record {
  right_call = record {
    course = Answer out [];
    so_far = event.called setting start (line.Ask Logout) (Attempt []) 1 out [] _ refl refl refl refl;
    end = (refl, refl);
  };
  other_request = λ path after is.
      let w : Calls 4 (Initiate path None) ≡ Calls 4 Logout =
      (peel_call (line.Ask (Initiate path None)) 1 out [] is.course refl is.so_far).0 in cc;
  others_entry = λ after is.
      let w : 2 ≡ 1 =
      (peel_call (line.Ask Logout) 2 (record out { process = 2 }) [] is.course refl is.so_far).1 in omega arith;
  other_ring = λ after is.
      let w : Calls 4 Logout ≡ Calls 5 Logout =
      (peel_call (line.Ask Logout) 3 (record out { ring = 5 }) [] is.course refl is.so_far).0 in
      let z : 4 ≡ 5 = same_ring 4 5 w in omega arith;
  not_refused = λ after is.
      let rest = (peel_call (line.Ask Logout) 4 refused [] is.course refl is.so_far).2 in
      let end : IsEnd setting start (Ends result.Refused start) result.Done after =
      at_end after (line.Ask Logout) (Answer refused []) is.course result.Done rest is.end in
      let w : result.Done ≡ result.Refused = end.0 in cc;
  below_limit = λ after is.
      let end : IsEnd setting start (Calls 4 Logout) result.HistoryFull after =
      at_end after (line.Ask Logout) (Attempt []) is.course result.HistoryFull is.so_far is.end in
      let w : false ≡ true = end.0 in cc;
} where
  same_ring : (a b : ℕ) → Calls a Logout ≡ Calls b Logout → a ≡ b
  same_ring a b h = cc

-- the last line, whatever A is
last_done : (a : ℕ) → IsLine setting (ungated (record g { a = a })) (line.Ask Logout) (Entry 1 ∷ []) result.Done
    (ungated (record g { a = a }))
last_done a = record {
  course = Answer out [];
  so_far = event.called setting (ungated (record g { a = a })) (line.Ask Logout) (Attempt []) 1 out [] _ refl refl refl refl;
  end = (refl, refl);
}

set_done : (a word : ℕ) → IsLine setting (ungated (record g { a = a })) (line.Set word) [] result.Done
    (ungated (record g { a = word }))
set_done a word = record { course = Attempt []; so_far = refl; end = (refl, refl) }

-- a part whose first line alone may be denied has all four lines, or the first and the last
all_or_two : (first : Line) (step : Step) (steps : List Step) (after : Control) → denials steps ≡ []
    → AreLines setting start (four_lines first) (step ∷ steps) after
    → AreDone setting start (four_lines first) (step ∷ steps) [] after
    ⊎ AreDone setting start ((5, first) ∷ (8, line.Ask Logout) ∷ []) (step ∷ steps) [] after
all_or_two first step steps after none are = elim (cut_at_first (four_lines first) are.ran step steps none are.are) [
  | inl whole ↦
      inl (subst (λ (ran : List (ℕ × Line)). AreDone setting start ran (step ∷ steps) [] after) whole are.done)
  | inr cut ↦ inr (subst (λ (ran : List (ℕ × Line)). AreDone setting start ran (step ∷ steps) [] after) cut are.done)
]

pub wrong_scripts : WrongScripts
wrong_scripts = record {
  left_out = λ after are.
      let done = all_done setting start after two_sets (done_under 5 ∷ []) refl are in
      let w : [] ≡ (6, line.Set 2) ∷ [] = done.3.0 in cc;
  other_number = λ after are.
      let done = all_done setting start after two_sets (done_under 5 ∷ done_under 7 ∷ []) refl are in
      let w : 7 ≡ 6 = done.3.0 in omega arith;
  too_many = λ after are.
      let done = all_done setting start after two_sets (done_under 5 ∷ done_under 6 ∷ done_under 7 ∷ []) refl are in
      done.3.3;
  right_whole = record {
    ran = four_lines (lda 64);
    are = inl refl;
    done = (
      refl,
      start,
      denied,
      (
        refl,
        ungated (record g { a = 1 }),
        set_done 7 1,
        (
          refl,
          ungated (record g { a = 2 }),
          set_done 1 2,
          (refl, ungated (record g { a = 2 }), last_done 2, (refl, refl)),
        ),
      ),
    );
  };
  right_cut = record {
    ran = (5, lda 64) ∷ (8, line.Ask Logout) ∷ [];
    are = inr (record {
      place = 0;
      step = denied_first;
      at = refl;
      denied = refl;
      more = omega arith;
      is = refl;
    });
    done = (refl, start, denied, (refl, start, last_done 7, (refl, refl)));
  };
  not_denied = λ after are.
      let done = all_done setting start after (four_lines (line.Set 3)) (done_under 5 ∷ logged_out ∷ []) refl are in
      let w : 8 ≡ 6 = done.3.0 in omega arith;
  denied_before = λ after are.
      elim (all_or_two (lda 64) denied_first (done_under 6 ∷ logged_out ∷ []) after refl are) [
        | inl done ↦ let w : 8 ≡ 7 = done.3.3.0 in omega arith
        | inr done ↦ let w : 6 ≡ 8 = done.3.0 in omega arith
      ];
  goes_on = λ after are.
      elim (all_or_two (lda 64) denied_first (logged_out ∷ done_under 6 ∷ []) after refl are) [
        | inl done ↦ let w : 8 ≡ 6 = done.3.0 in omega arith
        | inr done ↦ done.3.3
      ];
  other_line = λ after are.
      elim (all_or_two (lda 64) denied_first (done_under 7 ∷ logged_out ∷ []) after refl are) [
        | inl done ↦ let w : 7 ≡ 6 = done.3.0 in omega arith
        | inr done ↦ let w : 7 ≡ 8 = done.3.0 in omega arith
      ];
  no_last = λ after are. elim (all_or_two (lda 64) denied_first [] after refl are) [
    | inl done ↦ absurd (more (6, line.Set 1) ((7, line.Set 2) ∷ (8, line.Ask Logout) ∷ []) done.3.0)
    | inr done ↦ absurd (more (8, line.Ask Logout) [] done.3.0)
  ];
} where
  more : (first : ℕ × Line) (lines : List (ℕ × Line)) → [] ≡ first ∷ lines → ⊥
  more first lines none = cc
