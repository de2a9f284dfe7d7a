-- The plain supervisor goes through a right journal entry by entry, and what it says on the way is so.
use Rattle.std.proofs.Common.{◌≡◌, ◌⊎◌, ℕ, zero, suc, ◌+◌, ◌-◌, ◌<◌, ◌≤◌, nat_le, min, Bool, true, false, cond, ◌&&◌, List, [], ◌∷◌, length, replicate, take, Option, Some, refl, ap, sym, subst, ◌∙◌, arith, inl, inr}
use Rattle.std.proofs.lemmas.Bool.{cases_lt, le-leb}
use Rattle.std.proofs.lemmas.List.{get_or-replicate, length-map, length-replicate, length-set}
use Rattle.std.proofs.lemmas.Option.{none-some, same_Some, slice_get-get_or, slice_get_past, slice_get_within, get_or_from_slice_get}
use Rattle.std.specs.List.{slice_get, slice_index_or, slice_set}
use Rattle.std.specs.List.Sorted.{IsNonDecreasingBy}
use Rattle.mx_access.specs.Passing.{AreNoted, AreNotBefore, AreTold, AreToldTo, AreUses, IsAt, IsToldAt, IsToldIn, told_by}
use Rattle.mx_access.specs.Questions.{AreTurns, AreWithin, IsTurn, IsWithin, point_in, turn}
use Rattle.std.proofs.lemmas.List.Elements.{Contains-get_or}
use Rattle.mx_access.specs.declared.questions.Question.{Question}
use Rattle.mx_access.specs.declared.questions.Told.{Told}
use Rattle.mx_access.specs.declared.questions.Turn.{Turn}
use Rattle.mx_core.specs.Pages.{use_at}
use Rattle.mx_core.specs.Put.{pick}
use Rattle.mx_pages.specs.Runs.{page_count}
use Rattle.mx_pages.specs.declared.pages.PageRun.{PageRun}
use Rattle.mx_request.specs.declared.replies.Reply.{Reply}
use Rattle.mx_script.specs.Sessions.{Outline}
use Rattle.mx_sdw.specs.Descriptors.{unknown_desc}
use Rattle.mx_state.proofs.Descriptors.{process_at_place}
use Rattle.mx_state.specs.Given.{AreGiven, gives, is_page_of}
use Rattle.mx_state.specs.History.{IsRight, IsRightEntry, MayAsk, fresh, replay}
use Rattle.mx_state.specs.Plain.{Plain, answer}
use Rattle.mx_state.specs.Requests.{plain}
use Rattle.mx_state.specs.Table.{descriptor, process_desc}
use Rattle.mx_state.specs.declared.journal.Entry as journaled
use Rattle.mx_state.specs.declared.states.ProcessState.{ProcessState}
use Rattle.mx_transcript.specs.Opened.{opening_of}
use Rattle.mx_transcript.specs.Uses.{given_by}

right_at : (s : Plain) (journal : List journaled.Entry) (n : ℕ) (entry : journaled.Entry) → IsRight s journal
    → slice_get journal n ≡ Some entry → IsRightEntry (replay s (take n journal)) entry
right_at s [] n entry right found = absurd (none-some entry found)
right_at s (first ∷ journal) zero entry right found = subst (IsRightEntry s) (same_Some first entry found) right.0
right_at s (first ∷ journal) (suc n) entry right found =
    right_at (plain s first.process first.ring first.request).state journal n entry right.1 found

replay_next : (s : Plain) (journal : List journaled.Entry) (n : ℕ) (entry : journaled.Entry) → slice_get journal n ≡ Some entry
    → replay s (take (suc n) journal) ≡ (plain (replay s (take n journal)) entry.process entry.ring entry.request).state
replay_next s [] n entry found = absurd (none-some entry found)
replay_next s (first ∷ journal) zero entry found =
    ap (λ (e : journaled.Entry). (plain s e.process e.ring e.request).state) (same_Some first entry found)
replay_next s (first ∷ journal) (suc n) entry found =
    replay_next (plain s first.process first.ring first.request).state journal n entry found

-- the maker of the next entry may make it
pub may_ask : (session : Outline) (journal : List journaled.Entry) (at : ℕ) (now : Plain) (held : List ℕ) (entry : journaled.Entry)
    → IsRight (opening_of session) journal → IsAt session journal at now held → slice_get journal at ≡ Some entry
    → MayAsk now entry.process entry.request
may_ask session journal at now held entry right is found =
    subst (λ (s : Plain). MayAsk s entry.process entry.request) (sym is.state)
    (right_at (opening_of session) journal at entry right found).maker

-- the use of each page after one entry more
uses_next : (session : Outline) (journal : List journaled.Entry) (at : ℕ) (now next : Plain) (held new : List ℕ) (given : Option PageRun)
    → now ≡ replay (opening_of session) (take at journal) → next ≡ replay (opening_of session) (take (suc at) journal)
    → AreUses session journal at held → AreGiven now next given → AreNoted held given (at + 1) new
    → AreUses session journal (suc at) new
uses_next session journal at now next held new given was is uses gave noted = record {
  long = noted.long ∙ uses.long;
  each = λ page below.
      let told : is_page_of given page ≡ given_by session journal (suc at) page
      = gave.each page below ∙ ap (λ (s : Plain). gives s next page) was
      ∙ ap (λ (s : Plain). gives (replay (opening_of session) (take at journal)) s page) is in
      let number : at + 1 ≡ suc at = omega arith in
      noted.each page below
      ∙ ap (λ (b : Bool). cond b (at + 1) (slice_index_or held page 0)) told
      ∙ ap (λ (n : ℕ). cond (given_by session journal (suc at) page) n (slice_index_or held page 0)) number
      ∙ ap (cond (given_by session journal (suc at) page) (suc at)) (uses.each page below)
      ∙ picked (given_by session journal (suc at) page) (suc at) (use_at 0 (given_by session journal) page at);
}
  where
    picked : (b : Bool) (n m : ℕ) → cond b n m ≡ pick (nat_le 0 at && b) n m
    picked true n m = ap (λ (z : Bool). pick (z && true) n m) (sym (le-leb 0 at (omega arith)))
    picked false n m = ap (λ (z : Bool). pick (z && false) n m) (sym (le-leb 0 at (omega arith)))

pub next_entry : (session : Outline) (journal : List journaled.Entry) (at : ℕ) (now next : Plain) (held new : List ℕ) (entry : journaled.Entry)
    (reply : Reply) (given : Option PageRun) → IsAt session journal at now held → slice_get journal at ≡ Some entry
    → plain now entry.process entry.ring entry.request ≡ answer reply next → length next.processes ≡ length now.processes
    → AreGiven now next given → AreNoted held given (at + 1) new → IsAt session journal (at + 1) next new
next_entry session journal at now next held new entry reply given is found told same gave noted =
    subst (λ (n : ℕ). IsAt session journal n next new) number (record {
      within = omega (arith, below);
      state = state;
      processes = same ∙ is.processes;
      uses = uses_next session journal at now next held new given is.state state is.uses gave noted;
    })
  where
    number : suc at ≡ at + 1
    number = omega arith

    below : at < length journal
    below = slice_get_within journal at entry found

    state : next ≡ replay (opening_of session) (take (suc at) journal)
    state =
        sym (ap (λ a. a.state) told)
        ∙ ap (λ (s : Plain). (plain s entry.process entry.ring entry.request).state) is.state
        ∙ sym (replay_next (opening_of session) journal at entry found)

-- before any entry no page was given out
pub at_first : (session : Outline) (journal : List journaled.Entry) (now : Plain) (held : List ℕ) → now ≡ opening_of session
    → held ≡ replicate page_count 0 → IsAt session journal 0 now held
at_first session journal now held is zeros = record {
  within = omega arith;
  state = is;
  processes = ap (λ (s : Plain). length s.processes) is ∙ length-map session.principals (fresh session.version);
  uses = record {
    long = ap length zeros ∙ length-replicate {A = ℕ} page_count 0;
    each = λ page below. ap (λ (l : List ℕ). slice_index_or l page 0) zeros ∙ get_or-replicate page_count page 0 0 below;
  };
}

-- a process beyond those that there are has no number known
unknown_beyond : (s : Plain) (p segno : ℕ) → length s.processes < p → descriptor s p segno ≡ unknown_desc
unknown_beyond s p segno beyond =
    ap (λ (o : Option ProcessState). process_desc s.hierarchy p o segno)
    (process_at_place s.processes p (omega (arith, beyond)) ∙ slice_get_past s.processes (p - 1) (omega (arith, beyond)))

numbered : (s : Plain) (p segno : ℕ) → length s.processes ≤ 65534 → descriptor s (min p 65535) segno ≡ descriptor s p segno
numbered s p segno few = elim (cases_lt p 65535) [
  | inl lower ↦
      let same : min p 65535 ≡ p = omega (arith, lower) in
      ap (λ (n : ℕ). descriptor s n segno) same
  | inr higher ↦
      let last : min p 65535 ≡ 65535 = omega (arith, higher) in
      ap (λ (n : ℕ). descriptor s n segno) last
      ∙ unknown_beyond s 65535 segno (omega (arith, few))
      ∙ sym (unknown_beyond s p segno (omega (arith, few, higher)))
]

module _ (session : Outline) (journal : List journaled.Entry) (few : length session.principals ≤ 65534) where
  -- what is told at a question's point
  told_now : (at : ℕ) (question : Question) (is_before : Bool) (now : Plain) (held : List ℕ)
      (answer : Told) → IsAt session journal (point_in question is_before) now held
      → IsToldIn session journal question is_before (told_by now held (turn at question is_before) is_before answer)
  told_now at question true now held answer is = record {
    desc =
        numbered now question.process question.segno (omega (arith, is.processes, few))
        ∙ ap (λ (s : Plain). descriptor s question.process question.segno) is.state;
  }
  told_now at question false now held answer is = record {
    desc =
        numbered now question.process question.segno (omega (arith, is.processes, few))
        ∙ ap (λ (s : Plain). descriptor s question.process question.segno) is.state;
    since = λ below. is.uses.each _ below;
  }

  -- and what was told before stays
  told_keeps : (at : ℕ) (question : Question) (one other : Bool) (now : Plain) (held : List ℕ)
      (answer : Told) → IsAt session journal (point_in question other) now held → IsToldIn session journal question one answer
      → IsToldIn session journal question one (told_by now held (turn at question other) other answer)
  told_keeps at question true true now held answer is was = told_now at question true now held answer is
  told_keeps at question true false now held answer is was = record { desc = was.desc }
  told_keeps at question false true now held answer is was = record { desc = was.desc; since = was.since }
  told_keeps at question false false now held answer is was = told_now at question false now held answer is

get_set : {X : Type 0} (xs : List X) (i j : ℕ) (x y : X) → slice_get (slice_set xs i x) j ≡ Some y
    → ((i ≡ j) × (x ≡ y)) ⊎ ((i ≡ j → ⊥) × (slice_get xs j ≡ Some y))
get_set [] i j x y e = absurd (none-some y e)
get_set (z ∷ xs) zero zero x y e = inl (refl, same_Some x y e)
get_set (z ∷ xs) zero (suc j) x y e = inr (λ same. absurd (omega (arith, same)), e)
get_set (z ∷ xs) (suc i) zero x y e = inr (λ same. absurd (omega (arith, same)), e)
get_set (z ∷ xs) (suc i) (suc j) x y e = elim (get_set xs i j x y e) [
  | inl same ↦ inl (ap suc same.0, same.1)
  | inr other ↦ inr (λ same. other.0 (omega (arith, same)), other.1)
]

-- one turn more was answered
pub told_more : (session : Outline) (journal : List journaled.Entry) (questions : List Question) (turns : List Turn) (k : ℕ) (t : Turn)
    (now : Plain) (held : List ℕ) (old new : List Told) → length session.principals ≤ 65534 → slice_get turns k ≡ Some t
    → IsTurn questions t → IsAt session journal t.point now held → IsToldAt now held t old new
    → AreToldTo session journal questions turns k old → AreToldTo session journal questions turns (k + 1) new
told_more session journal questions turns k t now held old new few is_turn due is told was = record {
  long = ap length told.told ∙ length-set old t.at _ ∙ was.long;
  each = each;
}
  where
    question : Question
    question = due.question

    at_point : IsAt session journal (point_in question t.is_before) now held
    at_point = subst (λ (n : ℕ). IsAt session journal n now held) (ap (λ (u : Turn). u.point) due.whole) is

    saying : Question → Told
    saying q = told_by now held (turn t.at q t.is_before) t.is_before told.answer

    said : Told
    said = saying question

    set : new ≡ slice_set old t.at said
    set =
        told.told
        ∙ ap (λ (u : Turn). slice_set old t.at (told_by now held u t.is_before told.answer)) due.whole

    each : (j : ℕ) (u : Turn) (q : Question) (a : Told) → j < k + 1 → slice_get turns j ≡ Some u
        → slice_get questions u.at ≡ Some q → slice_get new u.at ≡ Some a → IsToldIn session journal q u.is_before a
    each j u q a under found asked answered =
        elim (get_set old t.at u.at said a (ap (λ (l : List Told). slice_get l u.at) (sym set) ∙ answered)) [
          | inl here ↦
              let same : question ≡ q = same_Some question q (sym due.is ∙ ap (slice_get questions) here.0 ∙ asked) in
              elim (cases_lt j k) [
                | inl lower ↦
                    let before : IsToldIn session journal q u.is_before told.answer
                    = was.each j u q told.answer lower found asked (ap (slice_get old) (sym here.0) ∙ told.was) in
                    subst (IsToldIn session journal q u.is_before) here.1
                    (subst (λ (x : Question). IsToldIn session journal q u.is_before (saying x)) (sym same)
                    (told_keeps session journal few t.at q u.is_before t.is_before now held told.answer
                    (subst (λ (x : Question). IsAt session journal (point_in x t.is_before) now held) same at_point) before))
                | inr higher ↦
                    let place : j ≡ k = omega (arith, under, higher) in
                    let turned : t ≡ u = same_Some t u (sym is_turn ∙ ap (slice_get turns) (sym place) ∙ found) in
                    subst (IsToldIn session journal q u.is_before) here.1
                    (subst (λ (x : Question). IsToldIn session journal x u.is_before said) same
                    (subst (λ (b : Turn). IsToldIn session journal question b.is_before said) turned
                    (told_now session journal few t.at question t.is_before now held told.answer at_point)))
              ]
          | inr other ↦ elim (cases_lt j k) [
            | inl lower ↦ was.each j u q a lower found asked other.1
            | inr higher ↦
                let place : j ≡ k = omega (arith, under, higher) in
                let turned : t ≡ u = same_Some t u (sym is_turn ∙ ap (slice_get turns) (sym place) ∙ found) in
                absurd (other.0 (ap (λ (b : Turn). b.at) turned))
          ]
        ]

-- the turn after this one is not before its point
pub not_before_next : (turns : List Turn) (k : ℕ) (t : Turn) → IsNonDecreasingBy (λ (u : Turn). u.point) turns → slice_get turns k ≡ Some t
    → AreNotBefore turns (k + 1) t.point
not_before_next turns k t ordered is j u after found =
    omega (
      arith,
      ap (λ (x : Turn). x.point) (get_or_from_slice_get turns k t t is),
      ap (λ (x : Turn). x.point) (get_or_from_slice_get turns j u t found),
      ordered k j t (omega (arith, after)) (slice_get_within turns j u found),
    )

-- all turns were answered
pub all_told : (session : Outline) (journal : List journaled.Entry) (questions : List Question) (turns : List Turn) (count : ℕ)
    (told : List Told) → length turns ≤ count → AreTurns questions (length questions) turns
    → AreToldTo session journal questions turns count told → AreTold session journal questions told
all_told session journal questions turns count told enough due was = record {
  long = was.long;
  each = λ at question answer asked answered. record {
    now =
        let there = due.now at question (slice_get_within questions at question asked) asked in
        let t : Turn = turn at question false in
        was.each there.0 t question answer (omega (arith, enough, there.1)) (slice_get-get_or turns there.0 t there.1 ∙ ap Some there.2) asked answered;
    before = λ less.
        let there = due.before at question (slice_get_within questions at question asked) asked less in
        let t : Turn = turn at question true in
        was.each there.0 t question answer (omega (arith, enough, there.1)) (slice_get-get_or turns there.0 t there.1 ∙ ap Some there.2) asked answered;
  };
}

-- the turn at a place
pub turn_there : (questions : List Question) (count : ℕ) (turns : List Turn) (k : ℕ) (d : Turn) → AreTurns questions count turns
    → k < length turns → IsTurn questions (slice_index_or turns k d)
turn_there questions count turns k d due below = due.each (slice_index_or turns k d) (Contains-get_or turns k d below)

pub turn_within : (entries : ℕ) (questions : List Question) (t : Turn) → IsTurn questions t → AreWithin entries questions → t.point ≤ entries
turn_within entries questions t due within =
    omega (arith, ap (λ (u : Turn). u.point) due.whole, by_flag t.is_before (within t.at due.question due.is))
  where
    by_flag : (b : Bool) → IsWithin entries due.question → point_in due.question b ≤ entries
    by_flag true w = w.before
    by_flag false w = w.point

pub turn_asked : (questions : List Question) (t : Turn) → IsTurn questions t → t.at < length questions
turn_asked questions t due = slice_get_within questions t.at due.question due.is

-- no turn was answered yet
pub none_told : (session : Outline) (journal : List journaled.Entry) (questions : List Question) (turns : List Turn) (told : List Told)
    → length told ≡ length questions → AreToldTo session journal questions turns 0 told
none_told session journal questions turns told long = record {
  long = long;
  each = λ k t question answer under. absurd (omega (arith, under));
}
