-- The verdict on a run, from those on its entries, reads and parts.
use Rattle.std.proofs.Common.{◌≡◌, ◌↔◌, inl, inr, ℕ, suc, ◌+◌, ◌<◌, ◌≤◌, ◌==◌, Bool, true, false, if◌then◌else◌, IsTrue, List, [], ◌∷◌, length, Option, Some, None, IsSome, Result, Ok, Err, IfOk, refl, ap, sym, ◌∙◌, subst, arith, slice_get, slice_index_or}
use Rattle.std.specs.Prelude.{MatchOption, get_or}
use Rattle.std.proofs.Math.Path.{fun_ext}
use Rattle.std.proofs.lemmas.Bool.{cases_eq, cases_lt}
use Rattle.std.proofs.lemmas.List.{length-map}
use Rattle.std.proofs.lemmas.Option.{slice_get-get_or, slice_get_read, slice_get_within}
use Rattle.std.specs.declared.alloc.AllocError.{AllocError}
use Rattle.mx_points.specs.Fronts as front
use Rattle.mx_reads.specs.Deeds.{Deed, Deeds}
use Rattle.mx_reads.specs.ReadRule.{AreRightReads}
use Rattle.mx_script.specs.Sessions.{IsSession, Outline}
use Rattle.mx_state.specs.declared.journal.Entry as journaled
use Rattle.mx_stores.specs.Breach as wrong
use Rattle.mx_stores.proofs.WholeRuns.{parts_below}
use Rattle.mx_stores.specs.Deciding.{IsWrong, RightToLaw, choices}
use Rattle.mx_stores.specs.Known as decided
use Rattle.mx_stores.specs.Parts.{deeds_of}
use Rattle.mx_stores.specs.declared.deciding.Breach.{Breach}
use Rattle.mx_transcript.specs.Legal.{IsLegal, deeds}
use Rattle.mx_transcript.specs.Reads.{IsKnown}
use Rattle.mx_transcript.specs.Scripts.{lines_of}
use Rattle.mx_transcript.specs.Transcripts.{Step, entries_named, events_of, numbers_from, part}
use Rattle.mx_legal.specs.Breach.{HasNamed, IsBadLine, IsBreach, blamed, parts_in}
use Rattle.mx_legal.specs.BreachLaws.{LegalLaw, ReadsToLaw}
use Rattle.mx_legal.specs.Deciding.{AreGoodParts, AreOwnReadsTo, IsUnnamedTo, or_unnamed, place_of}
use Rattle.mx_legal.specs.Judging.{AreJudged, AreUndone, IsJudged}
use Rattle.mx_legal.specs.Entries.{AreGoodTo, AreOfProcessesTo, IsFirstBad, IsFirstBadEntry}
use Rattle.mx_legal.specs.Fronts.{AreDoneTo, AreRightReadsTo, IsGoodPart, events_to}
use Rattle.mx_legal.specs.declared.judging.Judged.{Judged}
use Rattle.mx_legal.proofs.FirstLaws.{all_events}
use Rattle.mx_legal.proofs.LegalLaws.{no_part}

eq_true : (a b : ℕ) → a ≡ b → a == b ≡ true
eq_true a b e = grind arith

eq_false : (a b : ℕ) → (a ≡ b → ⊥) → a == b ≡ false
eq_false a b e = grind arith

-- a process is not behind that of the first wrong read, if there is one
abbrev IsUpTo : ℕ → Option Breach → Type 0
IsUpTo p None = Unit {0}
IsUpTo p (Some b) = p ≤ b.process

-- the place of the first wrong read of a process
module _ (law : ReadsToLaw) (session : Outline) (journal : List journaled.Entry) (transcripts : List (List Step)) where
  abbrev done : Deeds
  done = deeds session journal transcripts

  deed_count : (p : ℕ) → events_to (part transcripts p) (length (part transcripts p)) ≡ length (done p)
  deed_count p = sym (all_events (part transcripts p)) ∙ sym (length-map (events_of (part transcripts p)) _)

  abbrev Found : Option Breach → Type 0
  Found found = MatchOption found (AreRightReads done (decided.IsKnown done)) (λ b. wrong.IsBreach done b.process b.place)

  -- of a process that is not behind that of the first wrong read
  read_up_to : (p : ℕ) (found : Option Breach) → Found found → IsUpTo p found
      → front.IsFirstBad (AreOwnReadsTo session journal transcripts p) (length (done p)) (place_of found p)
  read_up_to p None right up =
      (law done p (length (done p))).1 (record { source = right.source; right = λ read has own below. right.right read has })
  read_up_to p (Some b) breach up = elim (cases_eq b.process p) [
    | inl same ↦
        let here : wrong.IsBreach done p b.place = subst (λ (q : ℕ). wrong.IsBreach done q b.place) same breach in
        subst (λ (t : Bool). front.IsFirstBad (AreOwnReadsTo session journal transcripts p) (length (done p)) (if t then Some b.place else None))
        (sym (eq_true b.process p same))
        (record {
          within = here.within;
          good = (law done p b.place).1 here.below;
          bad = λ are. here.breaks ((law done p (suc b.place)).0 are);
        })
    | inr other ↦
        subst (λ (t : Bool). front.IsFirstBad (AreOwnReadsTo session journal transcripts p) (length (done p)) (if t then Some b.place else None))
        (sym (eq_false b.process p other)) ((law done p (length (done p))).1 (breach.before p (apart b.process p other up)))
  ]
    where
      apart : (a b : ℕ) → (a ≡ b → ⊥) → b ≤ a → b < a
      apart a b other l = elim (cases_lt b a) [
        | inl less ↦ less
        | inr more ↦ absurd (other (omega (arith, l, more)))
      ]

  -- and of one before which all parts are good
  read_at : (p : ℕ) (found : Option Breach) → Found found → AreGoodParts session journal transcripts p
      → front.IsFirstBad (AreOwnReadsTo session journal transcripts p) (length (done p)) (place_of found p)
  read_at p None right before = read_up_to p None right tt
  read_at p (Some b) breach before = elim (cases_lt b.process p) [
    | inl l ↦
        let good = (before b.process l).good.reads in
        let within = breach.within in
        let count = deed_count b.process in
        absurd (breach.breaks ((law done b.process (suc b.place)).0 (record {
          source = good.source;
          right = λ read has own below. good.right read has own (omega (arith, below, within, count));
        })))
    | inr l ↦ read_up_to p (Some b) breach l
  ]

pub read_found : (law : ReadsToLaw) (session : Outline) (journal : List journaled.Entry) (transcripts : List (List Step)) (p : ℕ)
    (rows parts : List (List Deed)) (wrong_read : Option Breach) (place : Option ℕ) → rows ≡ parts
    → ((q : ℕ) → deeds_of parts q ≡ deeds session journal transcripts q)
    → MatchOption wrong_read (AreRightReads (deeds_of rows) (decided.IsKnown (deeds_of rows)))
    (λ b. wrong.IsBreach (deeds_of rows) b.process b.place)
    → place ≡ place_of wrong_read p → AreGoodParts session journal transcripts p
    → front.IsFirstBad (AreOwnReadsTo session journal transcripts p) (length (deeds session journal transcripts p)) place
read_found law session journal transcripts p rows parts wrong_read place same_rows same found is before =
    subst (front.IsFirstBad (AreOwnReadsTo session journal transcripts p) (length (deeds session journal transcripts p))) (sym is)
    (read_at law session journal transcripts p wrong_read
    (subst (λ (d : Deeds). MatchOption wrong_read (AreRightReads d (decided.IsKnown d)) (λ b. wrong.IsBreach d b.process b.place))
    (ap deeds_of same_rows ∙ fun_ext same) found) before)

-- the first wrong read of a process, decided apart from those of the others
pub own_read : (reads_to : ReadsToLaw) (right_to : RightToLaw) (session : Outline) (journal : List journaled.Entry)
    (transcripts : List (List Step)) (p : ℕ) (rows parts : List (List Deed)) (found : Option ℕ) → rows ≡ parts
    → ((q : ℕ) → deeds_of parts q ≡ deeds session journal transcripts q)
    → MatchOption found (IsSome (choices (deeds_of rows) (length rows) p (length (deeds_of rows p)))) (IsWrong (deeds_of rows) (length rows) p)
    → front.IsFirstBad (AreOwnReadsTo session journal transcripts p) (length (deeds session journal transcripts p)) found
own_read reads_to right_to session journal transcripts p rows parts found same_rows same is =
    subst (λ (d : Deeds). front.IsFirstBad (AreRightReadsTo d (IsKnown d) p) (length (d p)) found)
    (ap deeds_of same_rows ∙ fun_ext same) (own found is)
  where
    done : Deeds
    done = deeds_of rows

    none_some : {A : Type 0} (x : Option A) → x ≡ None → IsSome x → ⊥
    none_some None e there = cc
    none_some (Some a) e there = cc

    own : (found : Option ℕ) → MatchOption found (IsSome (choices done (length rows) p (length (done p)))) (IsWrong done (length rows) p)
        → front.IsFirstBad (AreRightReadsTo done (IsKnown done) p) (length (done p)) found
    own None are =
        (reads_to done p (length (done p))).1 ((right_to (length rows) done (parts_below rows) p (length (done p))).1 are)
    own (Some place) wrong = record {
      within = wrong.within;
      good = (reads_to done p place).1 ((right_to (length rows) done (parts_below rows) p place).1 wrong.chosen);
      bad = λ are. none_some (choices done (length rows) p (suc place)) wrong.wrong
          ((right_to (length rows) done (parts_below rows) p (suc place)).0 ((reads_to done p (suc place)).0 are));
    }

-- each of so many parts is judged right, and so is the list of judgements
pub all_judged : {V E : Type 0} (session : Outline) (journal : List journaled.Entry) (transcripts : List (List Step))
    (items : V → List (Result Judged AllocError)) (count : ℕ) (result : Result V E) → IfOk result (λ v. length (items v) ≡ count)
    → IfOk result (λ v. (p : ℕ) (d : Result Judged AllocError) → p < count
    → IfOk (slice_index_or (items v) p d) (λ judged. IsJudged session journal transcripts p judged.bad judged.is_named))
    → IfOk result (λ v. AreJudged session journal transcripts (items v))
all_judged session journal transcripts items count (Ok v) len each = λ p judged at.
    let within : p < length (items v) = slice_get_within (items v) p (Ok judged) at in
    let read : slice_index_or (items v) p (Ok judged) ≡ Ok judged =
    some_same (sym (slice_get-get_or (items v) p (Ok judged) within) ∙ at) in
    subst (λ (r : Result Judged AllocError). IfOk r (λ judged. IsJudged session journal transcripts p judged.bad judged.is_named)) read
    (each p (Ok judged) (omega (arith, within, len)))
  where
    some_same : {a b : Result Judged AllocError} → Some a ≡ Some b → a ≡ b
    some_same e = cc
all_judged session journal transcripts items count (Err e) len each = tt

-- the same of the first lines that depart from the line rule
pub all_undone : {V E : Type 0} (session : Outline) (journal : List journaled.Entry) (transcripts : List (List Step))
    (items : V → List (Result (Option ℕ) AllocError)) (count : ℕ) (result : Result V E) → IfOk result (λ v. length (items v) ≡ count)
    → IfOk result (λ v. (p : ℕ) (d : Result (Option ℕ) AllocError) → p < count
    → IfOk (slice_index_or (items v) p d) (front.IsFirstBad (AreDoneTo session journal p (part transcripts p)) (length (part transcripts p))))
    → IfOk result (λ v. AreUndone session journal transcripts (items v))
all_undone session journal transcripts items count (Ok v) len each = λ p found at.
    let within : p < length (items v) = slice_get_within (items v) p (Ok found) at in
    let read : slice_index_or (items v) p (Ok found) ≡ Ok found =
    some_same (sym (slice_get-get_or (items v) p (Ok found) within) ∙ at) in
    subst (λ (r : Result (Option ℕ) AllocError). IfOk r (front.IsFirstBad (AreDoneTo session journal p (part transcripts p))
    (length (part transcripts p)))) read (each p (Ok found) (omega (arith, within, len)))
  where
    some_same : {a b : Result (Option ℕ) AllocError} → Some a ≡ Some b → a ≡ b
    some_same e = cc
all_undone session journal transcripts items count (Err e) len each = tt

-- one part more
pub parts_more : (session : Outline) (journal : List journaled.Entry) (transcripts : List (List Step)) (p : ℕ)
    → AreGoodParts session journal transcripts p → IsGoodPart session journal transcripts p
    → AreGoodParts session journal transcripts (p + 1)
parts_more session journal transcripts p before here = λ earlier l. elim (cases_lt earlier p) [
  | inl less ↦ before earlier less
  | inr more ↦
      let same : p ≡ earlier = omega (arith, l, more) in subst (IsGoodPart session journal transcripts) same here
]

pub unnamed_more : (journal : List journaled.Entry) (transcripts : List (List Step)) (p : ℕ) (unnamed next : Option ℕ) (named : Bool)
    → next ≡ or_unnamed unnamed p named → IsUnnamedTo journal transcripts p unnamed → (IsTrue named ↔ HasNamed journal transcripts p)
    → IsUnnamedTo journal transcripts (p + 1) next
unnamed_more journal transcripts p unnamed next named is before here =
    subst (IsUnnamedTo journal transcripts (p + 1)) (sym is) (more unnamed named before here)
  where
    more : (unnamed : Option ℕ) (named : Bool) → IsUnnamedTo journal transcripts p unnamed → (IsTrue named ↔ HasNamed journal transcripts p)
        → IsUnnamedTo journal transcripts (p + 1) (or_unnamed unnamed p named)
    more (Some q) named before here =
        let within = before.within in
        record { within = omega (arith, within); before = before.before; unnamed = before.unnamed }
    more None true before here = λ earlier l. elim (cases_lt earlier p) [
      | inl less ↦ before earlier less
      | inr more' ↦ let same : p ≡ earlier = omega (arith, l, more') in subst (HasNamed journal transcripts) same (here.0 refl)
    ]
    more None false before here =
        record { within = omega arith; before = before; unnamed = λ h. let t : IsTrue false = here.1 h in absurd cc }

-- no entry is of a process that the session has not
none_numbered : (first p most : ℕ) (journal : List journaled.Entry)
    → ((place : ℕ) (entry : journaled.Entry) → place < length journal → slice_get journal place ≡ Some entry → entry.process ≤ most)
    → most < p → numbers_from first p journal ≡ []
none_numbered first p most [] each l = refl
none_numbered first p most (entry ∷ journal) each l =
    let own = each 0 entry (omega arith) refl in
    ap (λ (t : Bool). if t then first ∷ numbers_from (first + 1) p journal else numbers_from (first + 1) p journal)
    (eq_false entry.process p (λ e. omega (arith, own, l, e)))
    ∙ none_numbered (first + 1) p most journal (λ place other below at. each (suc place) other (omega (arith, below)) at) l

all_named : (session : Outline) (journal : List journaled.Entry) (transcripts : List (List Step)) (parts : ℕ) → parts ≡ parts_in session transcripts
    → AreOfProcessesTo session journal (length journal) → ((p : ℕ) → p < parts → HasNamed journal transcripts p)
    → (p : ℕ) → HasNamed journal transcripts p
all_named session journal transcripts parts is makers named p = elim (cases_lt p parts) [
  | inl l ↦ named p l
  | inr l ↦
      ap (λ (s : List Step). entries_named (events_of s)) (no_part transcripts p (omega (arith, l, is)))
      ∙ sym (none_numbered 1 p (length session.principals) journal makers (omega (arith, l, is)))
]

pub is_legal : (law : LegalLaw) (session : Outline) (journal : List journaled.Entry) (transcripts : List (List Step)) (end parts : ℕ)
    → IsSession session → parts ≡ parts_in session transcripts → parts ≤ end → AreGoodTo session journal (length journal)
    → AreOfProcessesTo session journal (length journal) → AreGoodParts session journal transcripts end
    → IsUnnamedTo journal transcripts end None → IsLegal session journal transcripts
is_legal law session journal transcripts end parts is parts_are l entries makers good named = (law session journal transcripts is).1 (record {
  entries = entries;
  parts = λ p below. good p (omega (arith, below, l, parts_are));
  named = all_named session journal transcripts parts parts_are makers (λ p below. named p (omega (arith, below, l)));
})

pub unnamed_breach : (session : Outline) (journal : List journaled.Entry) (transcripts : List (List Step)) (end parts process : ℕ)
    → parts ≡ parts_in session transcripts → parts ≤ end → AreGoodTo session journal (length journal)
    → AreGoodParts session journal transcripts end → IsUnnamedTo journal transcripts end (Some process)
    → IsBreach session journal transcripts process 0
unnamed_breach session journal transcripts end parts process parts_are l entries good unnamed = inr (inr (record {
  entries = entries;
  parts = λ p below. good p (omega (arith, below, l, parts_are));
  before = unnamed.before;
  unnamed = unnamed.unnamed;
  no_line = refl;
}))

pub line_breach : (session : Outline) (journal : List journaled.Entry) (transcripts : List (List Step)) (p place line parts : ℕ)
    → parts ≡ parts_in session transcripts → p < parts → AreGoodTo session journal (length journal)
    → AreGoodParts session journal transcripts p → IsBadLine session journal transcripts p place
    → line ≡ blamed (lines_of session p) (part transcripts p) place → IsBreach session journal transcripts p line
line_breach session journal transcripts p place line parts parts_are l entries before bad number = inr (inl (record {
  entries = entries;
  there = omega (arith, l, parts_are);
  before = before;
  place = place;
  bad = bad;
  number = number;
}))

pub entry_breach : (session : Outline) (journal : List journaled.Entry) (transcripts : List (List Step)) (items : List journaled.Entry)
    (found : Option ℕ) (place process : ℕ) (entry : journaled.Entry) → items ≡ journal → IsFirstBadEntry session journal found
    → found ≡ Some place → entry ≡ get_or items place entry → process ≡ entry.process → IsBreach session journal transcripts process 0
entry_breach session journal transcripts items found place process entry same first found_is is process_is =
    let bad : IsFirstBad session journal place = subst (IsFirstBadEntry session journal) found_is first in
    let at = slice_get_read journal (length journal) place entry refl (slice_get_within journal place bad.entry bad.at)
    (is ∙ ap (λ (l : List journaled.Entry). get_or l place entry) same) in
    inl (record {
      place = place;
      first = bad;
      whose = process_is ∙ ap (λ (e : journaled.Entry). e.process) (some_same (sym at ∙ bad.at));
      no_line = refl;
    })
  where
    some_same : {a b : journaled.Entry} → Some a ≡ Some b → a ≡ b
    some_same e = cc
