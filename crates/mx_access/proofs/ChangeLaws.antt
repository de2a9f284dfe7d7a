-- Points beyond the journal are its end; and the test whether an entry changed a descriptor.
use Rattle.std.proofs.Common.{◌≡◌, ℕ, zero, suc, ◌+◌, ◌-◌, ◌≤◌, nat_le, min, not, Bool, true, false, ◌&&◌, IsTrue, List, length, take, refl, ap, sym, subst, ◌∙◌, arith, inl, inr}
use Rattle.std.proofs.lemmas.Bool.{cases_lt}
use Rattle.std.proofs.lemmas.List.{take_min, take_all}
use Rattle.mx_access.specs.Answers.{ChangedLaw, is_changed}
use Rattle.mx_core.specs.Pages.{use_at}
use Rattle.mx_core.specs.Put.{pick}
use Rattle.mx_pages.specs.Runs.{is_free}
use Rattle.mx_script.specs.Sessions.{Outline}
use Rattle.mx_sdw.proofs.SameLaws.{descs_apart, descs_are}
use Rattle.mx_sdw.specs.Descriptors.{Descriptor}
use Rattle.mx_sdw.specs.Same.{same_desc}
use Rattle.mx_state.specs.Given.{gives}
use Rattle.mx_state.specs.History.{replay}
use Rattle.mx_state.specs.Plain.{Plain}
use Rattle.mx_state.specs.Table.{descriptor}
use Rattle.mx_state.specs.declared.journal.Entry as journaled
use Rattle.mx_transcript.specs.Access.{descriptor_at}
use Rattle.mx_transcript.specs.Misses.{IsChanged}
use Rattle.mx_transcript.specs.Opened.{opening_of}
use Rattle.mx_transcript.specs.Uses.{given_by}

-- the descriptor at a point beyond the journal is that at its end
pub descriptor_within : (session : Outline) (journal : List journaled.Entry) (point p segno : ℕ)
    → descriptor_at session journal (min point (length journal)) p segno ≡ descriptor_at session journal point p segno
descriptor_within session journal point p segno =
    ap (λ (entries : List journaled.Entry). descriptor (replay (opening_of session) entries) p segno) (take_min point journal)

-- the same state gives no page
gives_none : (s : Plain) (page : ℕ) → gives s s page ≡ false
gives_none s page = by_test (is_free s.hierarchy.pages page)
  where
    by_test : (b : Bool) → (b && not b) ≡ false
    by_test true = refl
    by_test false = refl

-- an entry beyond the journal gave out no page
given_none : (session : Outline) (journal : List journaled.Entry) (n page : ℕ) → length journal ≤ n → given_by session journal (suc n) page ≡ false
given_none session journal n page beyond =
    let one : take n journal ≡ journal = take_all n journal beyond in
    let other : take (suc n) journal ≡ journal = take_all (suc n) journal (omega (arith, beyond)) in
    ap (λ (entries : List journaled.Entry). gives (replay (opening_of session) entries) (replay (opening_of session) (take (suc n) journal)) page) one
    ∙ ap (λ (entries : List journaled.Entry). gives (replay (opening_of session) journal) (replay (opening_of session) entries) page) other
    ∙ gives_none (replay (opening_of session) journal) page

-- so the use of a page stays
use_stays : (session : Outline) (journal : List journaled.Entry) (page more : ℕ)
    → use_at 0 (given_by session journal) page (more + length journal) ≡ use_at 0 (given_by session journal) page (length journal)
use_stays session journal page zero = ap (use_at 0 (given_by session journal) page) same
  where
    same : zero + length journal ≡ length journal
    same = omega arith
use_stays session journal page (suc more) =
    ap (use_at 0 (given_by session journal) page) next
    ∙ ap (λ (b : Bool). pick (nat_le 0 (more + length journal) && b) (suc (more + length journal))
    (use_at 0 (given_by session journal) page (more + length journal)))
    (given_none session journal (more + length journal) page (omega arith))
    ∙ dropped (nat_le 0 (more + length journal)) (suc (more + length journal)) (use_at 0 (given_by session journal) page (more + length journal))
    ∙ use_stays session journal page more
  where
    next : suc more + length journal ≡ suc (more + length journal)
    next = omega arith

    dropped : (b : Bool) (n m : ℕ) → pick (b && false) n m ≡ m
    dropped true n m = refl
    dropped false n m = refl

pub use_within : (session : Outline) (journal : List journaled.Entry) (page point : ℕ)
    → use_at 0 (given_by session journal) page (min point (length journal)) ≡ use_at 0 (given_by session journal) page point
use_within session journal page point = elim (cases_lt point (length journal)) [
  | inl lower ↦
      let same : min point (length journal) ≡ point = omega (arith, lower) in
      ap (use_at 0 (given_by session journal) page) same
  | inr beyond ↦
      let same : min point (length journal) ≡ length journal = omega (arith, beyond) in
      let rest : (point - length journal) + length journal ≡ point = omega (arith, beyond) in
      ap (use_at 0 (given_by session journal) page) same
      ∙ sym (use_stays session journal page (point - length journal))
      ∙ ap (use_at 0 (given_by session journal) page) rest
]

same_self : (d : Descriptor) → same_desc d d ≡ true
same_self d = by_test (same_desc d d) refl
  where
    by_test : (b : Bool) → same_desc d d ≡ b → b ≡ true
    by_test true e = refl
    by_test false e = absurd (descs_apart d d e refl)

-- where the two points are one in the journal, nothing changed
pub unchanged_within : (session : Outline) (journal : List journaled.Entry) (p segno by : ℕ)
    → min by (length journal) ≤ min (by - 1) (length journal) → is_changed session journal p segno by ≡ false
unchanged_within session journal p segno by beyond =
    let same : min (by - 1) (length journal) ≡ min by (length journal) = omega (arith, beyond) in
    let alike : descriptor_at session journal (by - 1) p segno ≡ descriptor_at session journal by p segno
    = sym (descriptor_within session journal (by - 1) p segno)
    ∙ ap (λ (n : ℕ). descriptor_at session journal n p segno) same ∙ descriptor_within session journal by p segno in
    ap (λ (d : Descriptor). not (same_desc d (descriptor_at session journal by p segno))) alike
    ∙ ap not (same_self (descriptor_at session journal by p segno))

pub changed : ChangedLaw
changed session journal p segno zero = (
  λ t.
      let none : is_changed session journal p segno zero ≡ false = unchanged_within session journal p segno zero (omega arith) in
      let no : IsTrue false = subst IsTrue none t in absurd cc,
  λ c. absurd (omega (arith, c.next)),
)
changed session journal p segno (suc before) = (
  λ t. record {
    before = before;
    next = refl;
    differs = λ same.
        let equal : same_desc (descriptor_at session journal (suc before - 1) p segno) (descriptor_at session journal (suc before) p segno) ≡ true
        = ap (λ (n : ℕ). same_desc (descriptor_at session journal n p segno) (descriptor_at session journal (suc before) p segno)) less
        ∙ ap (same_desc (descriptor_at session journal before p segno)) same ∙ same_self (descriptor_at session journal before p segno) in
        let no : IsTrue false = subst IsTrue (ap not equal) t in absurd cc;
  },
  λ c. by_test _ refl c,
)
  where
    less : suc before - 1 ≡ before
    less = omega arith

    by_test : (b : Bool) → same_desc (descriptor_at session journal (suc before - 1) p segno) (descriptor_at session journal (suc before) p segno) ≡ b
        → IsChanged session journal p segno (suc before) → is_changed session journal p segno (suc before) ≡ true
    by_test false e c = ap not e
    by_test true e c =
        let place : c.before ≡ suc before - 1 = omega (arith, c.next) in
        absurd (c.differs (sym (descs_are _ _ e) ∙ ap (λ (n : ℕ). descriptor_at session journal n p segno) (sym place)))
