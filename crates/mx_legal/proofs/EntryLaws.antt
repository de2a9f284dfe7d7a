-- Entries of a journal at their places, and the whole journal.
use Rattle.std.proofs.Common.{◌≡◌, ◌↔◌, inl, inr, ℕ, zero, suc, ◌+◌, ◌<◌, ◌≤◌, Bool, true, false, IsTrue, ◌&&◌, Result, Ok, IfOk, List, [], ◌∷◌, length, take, Some, refl, ap, sym, subst, ◌∙◌, arith, slice_get}
use Rattle.std.specs.List.{list_all}
use Rattle.std.proofs.lemmas.Bool.{cases_lt}
use Rattle.std.proofs.lemmas.Option.{slice_get_within}
use Rattle.std.proofs.lemmas.Result.{IfOk-weaker}
use Rattle.mx_legal.specs.Entries.{AreGoodTo, AreOfProcessesTo, GoodEntriesLaw, HasAnswered, HasText, IsFirstBad, IsGoodAt, IsGoodEntry, IsInPlace, state_at}
use Rattle.mx_request.proofs.StepLaws.{both, both_hold}
use Rattle.mx_request.specs.ReplyTexts.{fits_reply}
use Rattle.mx_request.specs.RequestTexts.{fits_request, is_ring}
use Rattle.mx_request.specs.declared.replies.Reply.{Reply}
use Rattle.mx_script.specs.SessionTexts.{fits, rows_of}
use Rattle.mx_script.specs.Sessions.{IsSession, Outline, limit_of}
use Rattle.mx_spelling.proofs.SaidReplies.{reply_fits}
use Rattle.mx_spelling.specs.Laws.{ReplyLaw}
use Rattle.mx_spelling.specs.Spelling.{bounds_reply, fits_entry, is_process}
use Rattle.mx_state.specs.History.{IsRight, IsRightEntry, MayAsk, replay}
use Rattle.mx_state.specs.Plain.{Answer, Plain, answer}
use Rattle.mx_state.specs.Requests.{plain}
use Rattle.mx_state.specs.declared.journal.Entry as journaled
use Rattle.mx_transcript.specs.Opened.{opening_of}

-- the state after one more entry
pub one_more : (s : Plain) (journal : List journaled.Entry) (place : ℕ) (entry : journaled.Entry) → slice_get journal place ≡ Some entry
    → (plain (replay s (take place journal)) entry.process entry.ring entry.request).state ≡ replay s (take (suc place) journal)
one_more s [] place entry at = absurd cc
one_more s (first ∷ journal) zero entry at =
    let same : entry ≡ first = cc in
    ap (λ (e : journaled.Entry). (plain s e.process e.ring e.request).state) same
one_more s (first ∷ journal) (suc place) entry at =
    one_more (plain s first.process first.ring first.request).state journal place entry at

-- each entry at its place is right, where the journal is; and the other way round
pub right_at : (s : Plain) (journal : List journaled.Entry) → IsRight s journal → (place : ℕ) (entry : journaled.Entry)
    → slice_get journal place ≡ Some entry → IsRightEntry (replay s (take place journal)) entry
right_at s [] right place entry at = absurd cc
right_at s (first ∷ journal) right zero entry at =
    let same : first ≡ entry = cc in
    subst (IsRightEntry s) same right.0
right_at s (first ∷ journal) right (suc place) entry at =
    right_at (plain s first.process first.ring first.request).state journal right.1 place entry at

all_right : (s : Plain) (journal : List journaled.Entry)
    → ((place : ℕ) (entry : journaled.Entry) → slice_get journal place ≡ Some entry → IsRightEntry (replay s (take place journal)) entry)
    → IsRight s journal
all_right s [] each = tt
all_right s (first ∷ journal) each = (
  each 0 first refl,
  all_right (plain s first.process first.ring first.request).state journal (λ place entry at. each (suc place) entry at),
)

-- the last place of a journal is within the limit, where each place is
within : (session : Outline) (journal : List journaled.Entry) (n : ℕ) → length journal ≡ n
    → ((place : ℕ) (entry : journaled.Entry) → slice_get journal place ≡ Some entry → place < limit_of session)
    → n ≤ limit_of session
within session journal zero e each = omega arith
within session journal (suc n) e each =
    let last = there journal n (omega (arith, e)) in
    each n last.0 last.1
  where
    there : (journal : List journaled.Entry) (n : ℕ) → n < length journal → (entry : journaled.Entry) × (slice_get journal n ≡ Some entry)
    there [] n h = absurd (omega (arith, h))
    there (first ∷ journal) zero h = (first, refl)
    there (first ∷ journal) (suc n) h = there journal n (omega (arith, h))

pub good_entries : GoodEntriesLaw
good_entries session journal = (
  λ good. record {
    within_limit = within session journal (length journal) refl
        (λ place entry at. (good.each place entry (below place entry at) at).in_place.within_limit);
    right = all_right (opening_of session) journal (λ place entry at. (good.each place entry (below place entry at) at).right);
    in_place = λ place entry at. (good.each place entry (below place entry at) at).in_place;
  },
  λ good. record {
    each = λ place entry h at. record {
      in_place = good.in_place place entry at;
      right = right_at (opening_of session) journal good.right place entry at;
    };
  },
)
  where
    below : (place : ℕ) (entry : journaled.Entry) → slice_get journal place ≡ Some entry → place < length journal
    below place entry at = slice_get_within journal place entry at

-- of good entries those before one of them are good, and it is not the first bad one
pub good_before : (session : Outline) (journal entries : List journaled.Entry) (count place : ℕ) → entries ≡ journal → place < count
    → AreGoodTo session journal count → AreGoodTo session entries place
good_before session journal entries count place same l good =
    subst (λ (es : List journaled.Entry). AreGoodTo session es place) (sym same)
    (record { each = λ other entry h at. good.each other entry (omega (arith, h, l)) at })

pub not_first_bad : (session : Outline) (journal entries : List journaled.Entry) (count place : ℕ) → entries ≡ journal → place < count
    → AreGoodTo session journal count → IsFirstBad session entries place → ⊥
not_first_bad session journal entries count place same l good first =
    let first' : IsFirstBad session journal place = subst (λ (es : List journaled.Entry). IsFirstBad session es place) same first in
    first'.bad (good.each place first'.entry l first'.at)

-- one good entry more
pub good_more : (session : Outline) (journal : List journaled.Entry) (place : ℕ) (entry : journaled.Entry) → slice_get journal place ≡ Some entry
    → AreGoodTo session journal place → IsGoodAt session journal place entry → AreGoodTo session journal (place + 1)
good_more session journal place entry at before here = record { each = each }
  where
    one_at : {a b : journaled.Entry} → Some a ≡ Some b → a ≡ b
    one_at e = cc

    each : (other : ℕ) (found : journaled.Entry) → other < place + 1 → slice_get journal other ≡ Some found → IsGoodAt session journal other found
    each other found h there = elim (cases_lt other place) [
      | inl lower ↦ before.each other found lower there
      | inr higher ↦
          let here' : place ≡ other = omega (arith, h, higher) in
          let same : entry ≡ found = one_at (sym at ∙ ap (slice_get journal) here' ∙ there) in
          subst (λ (n : ℕ). IsGoodAt session journal n found) here'
          (subst (IsGoodAt session journal place) same here)
    ]

-- one entry of a process of the session more
pub makers_more : (session : Outline) (journal : List journaled.Entry) (place : ℕ) (entry : journaled.Entry) (s : Plain)
    → slice_get journal place ≡ Some entry → length s.processes ≡ length session.principals
    → AreOfProcessesTo session journal place → IsGoodEntry session s place entry → AreOfProcessesTo session journal (place + 1)
makers_more session journal place entry s at count before here = λ other found below there. elim (cases_lt other place) [
  | inl lower ↦ before other found lower there
  | inr higher ↦
      let here' : place ≡ other = omega (arith, below, higher) in
      let same : entry ≡ found = one_at (sym at ∙ ap (slice_get journal) here' ∙ there) in
      let maker = here.right.maker.0 in
      subst (λ (e : journaled.Entry). e.process ≤ length session.principals) same (omega (arith, maker, count))
]
  where
    one_at : {a b : journaled.Entry} → Some a ≡ Some b → a ≡ b
    one_at e = cc

-- what is said of all entries is said of those up to a place, and of the one there
pub fit_to : (test : journaled.Entry → Bool) (journal : List journaled.Entry) (place : ℕ) → list_all test journal ≡ true → list_all test (take place journal) ≡ true
fit_to test [] zero e = refl
fit_to test [] (suc place) e = refl
fit_to test (first ∷ journal) zero e = refl
fit_to test (first ∷ journal) (suc place) e =
    let f = both (test first) (list_all test journal) e in
    both_hold (test first) (list_all test (take place journal)) f.0 (fit_to test journal place f.1)

pub fit_at : (test : journaled.Entry → Bool) (journal : List journaled.Entry) (place : ℕ) (entry : journaled.Entry) → list_all test journal ≡ true
    → slice_get journal place ≡ Some entry → test entry ≡ true
fit_at test [] place entry e at = absurd cc
fit_at test (first ∷ journal) zero entry e at =
    let same : first ≡ entry = cc in
    subst (λ (x : journaled.Entry). test x ≡ true) same (both (test first) (list_all test journal) e).0
fit_at test (first ∷ journal) (suc place) entry e at =
    fit_at test journal place entry (both (test first) (list_all test journal) e).1 at

-- the parts of an entry that can be spelled
entry_parts : (entry : journaled.Entry) → fits_entry entry ≡ true → (fits_request entry.request ≡ true) × (bounds_reply entry.reply ≡ true)
entry_parts entry e =
    let replied : Bool = bounds_reply entry.reply in
    let f = both (is_process entry.process) (is_ring entry.ring && (fits_request entry.request && replied)) e in
    let g = both (is_ring entry.ring) (fits_request entry.request && replied) f.1 in
    both (fits_request entry.request) replied g.1

pub request_at : (journal : List journaled.Entry) (place : ℕ) (entry : journaled.Entry) → list_all fits_entry journal ≡ true
    → slice_get journal place ≡ Some entry → fits_request entry.request ≡ true
request_at journal place entry e at = (entry_parts entry (fit_at fits_entry journal place entry e at)).0

pub reply_at : (journal : List journaled.Entry) (place : ℕ) (entry : journaled.Entry) → list_all fits_entry journal ≡ true
    → slice_get journal place ≡ Some entry → fits_reply entry.reply ≡ true
reply_at journal place entry e at = reply_fits entry.reply (entry_parts entry (fit_at fits_entry journal place entry e at)).1

-- an entry that is in its place, and is asked by who may, is good where it has the supervisor's reply
pub judged : {Y : Type 0} (session : Outline) (s : Plain) (place : ℕ) (entry : journaled.Entry) (told : Reply) (after : Plain)
    (r : Result Bool Y) → IsInPlace session place entry → MayAsk s entry.process entry.request
    → plain s entry.process entry.ring entry.request ≡ answer told after → IfOk r (λ same. IsTrue same ↔ (told ≡ entry.reply))
    → IfOk r (λ good. IsTrue good ↔ IsGoodEntry session s place entry)
judged session s place entry told after r placed may answered is =
    IfOk-weaker r (λ same. IsTrue same ↔ (told ≡ entry.reply)) (λ good. IsTrue good ↔ IsGoodEntry session s place entry)
    (λ same told_is. (
      λ t. record { in_place = placed; right = record { maker = may; reply = told_so ∙ told_is.0 t } },
      λ good. told_is.1 (sym told_so ∙ good.right.reply),
    )) is
  where
    told_so : (plain s entry.process entry.ring entry.request).reply ≡ told
    told_so = ap (λ (a : Answer). a.reply) answered

-- what is told of a test
pub told_good : {Y : Type 0} (P : Type 0) (r : Result Bool Y) → r ≡ Ok true → IfOk r (λ good. IsTrue good ↔ P) → P
told_good {Y} P r e is = (subst (λ (r : Result Bool Y). IfOk r (λ good. IsTrue good ↔ P)) e is).0 refl

pub told_bad : {Y : Type 0} (P : Type 0) (r : Result Bool Y) → r ≡ Ok false → IfOk r (λ good. IsTrue good ↔ P) → P → ⊥
told_bad {Y} P r e is p =
    let no : IsTrue false = (subst (λ (r : Result Bool Y). IfOk r (λ good. IsTrue good ↔ P)) e is).1 p in absurd cc

pub first_bad : (session : Outline) (journal : List journaled.Entry) (place : ℕ) (entry : journaled.Entry) (s : Plain)
    → slice_get journal place ≡ Some entry → AreGoodTo session journal place → s ≡ state_at session journal place
    → (IsGoodEntry session s place entry → ⊥) → IsFirstBad session journal place
first_bad session journal place entry s at before same bad = record {
  entry = entry;
  at = at;
  before = before;
  bad = subst (λ (s : Plain). IsGoodEntry session s place entry → ⊥) same bad;
}

pub one_more_from : (session : Outline) (journal : List journaled.Entry) (place : ℕ) (entry : journaled.Entry) (s after : Plain)
    → slice_get journal place ≡ Some entry → s ≡ state_at session journal place
    → HasAnswered s entry after → after ≡ state_at session journal (place + 1)
one_more_from session journal place entry s after at same answered =
    answered.is ∙ ap (λ (s : Plain). (plain s entry.process entry.ring entry.request).state) same
    ∙ one_more (opening_of session) journal place entry at
    ∙ ap (state_at session journal) next
  where
    next : suc place ≡ place + 1
    next = omega arith

-- what the supervisor answered
pub told_fits : (s : Plain) (entry : journaled.Entry) (told : Reply) (after : Plain) → HasText s entry
    → plain s entry.process entry.ring entry.request ≡ answer told after → fits_reply told ≡ true
told_fits s entry told after text answered =
    subst (λ (r : Reply). fits_reply r ≡ true) (ap (λ (a : Answer). a.reply) answered) text.fits

pub has_answered : (s : Plain) (entry : journaled.Entry) (told : Reply) (after : Plain)
    → plain s entry.process entry.ring entry.request ≡ answer told after → HasAnswered s entry after
has_answered s entry told after answered = record { is = sym (ap (λ (a : Answer). a.state) answered) }

-- after good entries that can be spelled each reply of the supervisor can be
pub has_text : (law : ReplyLaw) (session : Outline) (journal : List journaled.Entry) (place : ℕ) (entry : journaled.Entry) (s : Plain)
    → s ≡ state_at session journal place → IsSession session → list_all fits (rows_of session) ≡ true
    → list_all fits_entry journal ≡ true → slice_get journal place ≡ Some entry → HasText s entry
has_text law session journal place entry s same is text fit at =
    subst (λ (s : Plain). HasText s entry) (sym same) (record {
      fits = law session (take place journal) entry.process entry.ring entry.request is text (fit_to fits_entry journal place fit)
          (request_at journal place entry fit at);
    })
