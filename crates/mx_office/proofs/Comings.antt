-- What is told of an entry, as the shared words want it: the changes are exactly the pairs that differ, each once, and the
-- table with them is the new one.
use Rattle.std.proofs.Common.{◌≡◌, ◌≢◌, ◌⊎◌, inl, inr, ℕ, zero, suc, ◌+◌, ◌*◌, ◌<◌, ◌≤◌, Bool, true, false, not, List, [], ◌∷◌, ◌++◌, length, take, Option, Some, None, IfSome, slice_get, get_or, refl, sym, ap, ◌∙◌, subst, arith, nat_le, nat_lt}
use Rattle.std.proofs.lemmas.Bool.{cases_lt}
use Rattle.std.proofs.lemmas.Bool.Decides.{nat_tests}
use Rattle.std.proofs.lemmas.Option.{get_or_from_slice_get, slice_get-get_or, slice_get_within}
use Rattle.std.specs.List.{All, AllPairs, Contains}
use Rattle.std.specs.Prelude.{IsTrue, ◌&&◌, ◌||◌}
use Rattle.mx_core.proofs.Descriptors.{same_descriptor}
use Rattle.mx_core.specs.Append.{with_changes}
use Rattle.mx_core.specs.Pages.{covered_anew, covers, gives}
use Rattle.mx_core.specs.declared.changes.Change.{Change}
use Rattle.mx_pages.specs.Runs.{IsPageRun, is_in_run, page_count}
use Rattle.mx_pages.specs.declared.pages.PageRun.{PageRun}
use Rattle.mx_sdw.specs.Admissible.{IsAdmissible}
use Rattle.mx_sdw.specs.Descriptors.{Descriptor}
use Rattle.mx_state.specs.Changes.{AreChanges, IsBefore, IsBounded, change}
use Rattle.mx_state.specs.Given.{is_page_of}
use Rattle.mx_state.specs.Plain.{Plain}
use Rattle.mx_state.specs.Table.{descriptor}
use Rattle.mx_office.specs.Revoking.{IsListed}
use Rattle.mx_office.specs.Settling.{ArePairsOnce}
use Rattle.mx_office.specs.Serving.{runs_of}
use Rattle.mx_office.proofs.Announces.{IsUnlisted, listed_is, listed_or_not, unlisted_stays}

is_true : IsTrue true
is_true = search Rattle.std.proofs.Common.rules

pub not_true : IsTrue false → ⊥
not_true h = cc

pub to_true : (b : Bool) → b ≡ true → IsTrue b
to_true b e = subst IsTrue (sym e) is_true

pub from_true : (b : Bool) → IsTrue b → b ≡ true
from_true true h = refl
from_true false h = absurd (not_true h)

pub both_true : (a b : Bool) → (a && b) ≡ true → (a ≡ true) × (b ≡ true)
both_true true true h = (refl, refl)
both_true true false h = cc
both_true false b h = cc

pub or_true : (a b : Bool) → (a || b) ≡ true → (a ≡ true) ⊎ (b ≡ true)
or_true true b h = inl refl
or_true false b h = inr h

pub or_left : (a b : Bool) → a ≡ true → IsTrue (a || b)
or_left true b e = is_true
or_left false b e = cc

pub or_right : (a b : Bool) → b ≡ true → IsTrue (a || b)
or_right true b e = is_true
or_right false true e = is_true
or_right false false e = cc

or_none : (a : Bool) → (a || false) ≡ a
or_none true = refl
or_none false = refl

pub all_at : {X : Type 0} (P : X → Type 0) (xs : List X) (i : ℕ) (x : X) → All P xs → slice_get xs i ≡ Some x → P x
all_at P xs i x all at = subst P (get_or_from_slice_get xs i x x at) (all i x (slice_get_within xs i x at))

pub contains_at : {X : Type 0} (xs : List X) (i : ℕ) (x : X) → slice_get xs i ≡ Some x → Contains xs x
contains_at xs i x at = (i, slice_get_within xs i x at, get_or_from_slice_get xs i x x at)

pub listed_at : (xs : List Change) (p n : ℕ) (d : Descriptor) → Contains xs (change p n d) → IsListed xs p n
listed_at xs p n d c = record {
  place = c.0;
  change = change p n d;
  at = slice_get-get_or xs c.0 (change p n d) c.1 ∙ ap Some c.2;
  process = refl;
  segno = refl;
}

not_before : (a b : Change) → IsBefore a b → a.process ≡ b.process → a.segno ≡ b.segno → ⊥
not_before a b (inl less) e f = absurd (omega arith)
not_before a b (inr less) e f = let z = less.1 in absurd (omega arith)

pub once_of : (changes : List Change) → AllPairs IsBefore changes → ArePairsOnce changes
once_of changes ordered i j a b at at' e f = elim (cases_lt i j) [
  | inl below ↦ absurd (not_before a b (before i j a b at at' below) e f)
  | inr more ↦ elim (cases_lt j i) [
    | inl above ↦ absurd (not_before b a (before j i b a at' at above) (sym e) (sym f))
    | inr less ↦ omega arith
  ]
]
  where
    before : (i j : ℕ) (a b : Change) → slice_get changes i ≡ Some a → slice_get changes j ≡ Some b → i < j → IsBefore a b
    before i j a b at at' below = subst (λ (z : Change × Change). IsBefore z.0 z.1)
        (λ k. (get_or_from_slice_get changes i a a at k, get_or_from_slice_get changes j b a at' k))
        (ordered i j a below (slice_get_within changes j b at'))

-- one of the descriptors that are put in covers the page
pub covered_by : (changes : List Change) (page : ℕ) → covered_anew changes page ≡ true
    → (i : ℕ) × ((c : Change) × ((slice_get changes i ≡ Some c) × IsTrue (covers c.desc page)))
covered_by [] page h = cc
covered_by (c ∷ cs) page h = elim (or_true (covers c.desc page) (covered_anew cs page) h) [
  | inl here ↦ (0, (c, (refl, to_true (covers c.desc page) here)))
  | inr later ↦ let found = covered_by cs page later in (suc found.0, (found.1.0, found.1.1))
]

-- a run of pages
pub runs_give : (run : Option PageRun) (page : ℕ) → gives (runs_of run) page ≡ is_page_of run page
runs_give None page = refl
runs_give (Some run) page = or_none (is_in_run run.count run.first page)

pub run_within : (run : Option PageRun) (page : ℕ) → IfSome run IsPageRun → is_page_of run page ≡ true → page < page_count
run_within None page is has = cc
run_within (Some run) page is has =
    let high = (both_true (nat_le run.first page) (nat_lt page (run.first + run.count)) has).1 in
    let low = is.within in
    let below : page < run.first + run.count = grind (arith, nat_tests) in omega arith

module _ (s t : Plain) (changes : List Change) (are : AreChanges s t changes) where
  pub each_new : (i : ℕ) (c : Change) → slice_get changes i ≡ Some c
      → (descriptor t c.process c.segno ≡ c.desc) × (descriptor s c.process c.segno ≢ c.desc)
  each_new i c at = are.each c.process c.segno c.desc (contains_at changes i c at)

  pub listed_new : (p n : ℕ) → descriptor s p n ≢ descriptor t p n → IsListed changes p n
  listed_new p n differ = listed_at changes p n (descriptor t p n) (are.all p n differ)

  pub pairs_once : ArePairsOnce changes
  pairs_once = once_of changes are.ordered

  pub unlisted_same : (p n : ℕ) → IsUnlisted changes p n → descriptor s p n ≡ descriptor t p n
  unlisted_same p n none = elim (same_descriptor (descriptor s p n) (descriptor t p n)) [
    | inl same ↦ same
    | inr differ ↦ let l = listed_new p n differ in absurd (none l.place l.change l.at l.process l.segno)
  ]

  -- the table with the changes is the new one
  pub table_new : (table : ℕ → ℕ → Descriptor) → ((p n : ℕ) → table p n ≡ descriptor s p n) → (p n : ℕ)
      → with_changes changes table p n ≡ descriptor t p n
  table_new table old p n = elim (listed_or_not changes p n) [
    | inl l ↦ subst (λ (z : ℕ × ℕ). with_changes changes table z.0 z.1 ≡ descriptor t z.0 z.1)
        (λ i. (l.process i, l.segno i))
        (listed_is changes table l.place l.change pairs_once l.at ∙ sym (each_new l.place l.change l.at).0)
    | inr none ↦ unlisted_stays changes table p n none ∙ old p n ∙ unlisted_same p n none
  ]

  pub admissible_new : (last : ℕ) → All (IsBounded last) changes → ((p n : ℕ) → IsAdmissible (descriptor s p n))
      → (p n : ℕ) → IsAdmissible (descriptor t p n)
  admissible_new last bounded old p n = elim (listed_or_not changes p n) [
    | inl l ↦ subst (λ (z : ℕ × ℕ). IsAdmissible (descriptor t z.0 z.1)) (λ i. (l.process i, l.segno i))
        (subst IsAdmissible (sym (each_new l.place l.change l.at).0)
        (all_at (IsBounded last) changes l.place l.change bounded l.at).admissible)
    | inr none ↦ subst IsAdmissible (unlisted_same p n none) (old p n)
  ]
