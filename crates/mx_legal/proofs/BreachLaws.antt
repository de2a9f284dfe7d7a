-- A run that is all good has no breach, and no run has two.
use Rattle.std.proofs.Common.{◌≡◌, ◌⊎◌, inl, inr, ℕ, suc, ◌<◌, ◌≤◌, List, length, Some, refl, ap, sym, subst, ◌∙◌, arith, slice_get}
use Rattle.std.proofs.lemmas.Bool.{cases_lt}
use Rattle.std.proofs.lemmas.Option.{slice_get_within}
use Rattle.mx_script.specs.Sessions.{Outline}
use Rattle.mx_state.specs.declared.journal.Entry as journaled
use Rattle.mx_transcript.specs.Scripts.{lines_of}
use Rattle.mx_transcript.specs.Transcripts.{Step, part}
use Rattle.mx_legal.specs.Breach.{IsBadLine, IsBreach, IsEntryBreach, IsLineBreach, IsUnnamedBreach, blamed}
use Rattle.mx_legal.specs.BreachLaws.{FrontLaw, IsGoodRun, OneBreachLaw}
use Rattle.mx_legal.specs.Entries.{AreGoodTo, IsFirstBad, IsGoodAt}

-- of two numbers that are not apart
same_number : (a b : ℕ) → (a < b → ⊥) → (b < a → ⊥) → a ≡ b
same_number a b below above = elim (cases_lt a b) [
  | inl l ↦ absurd (below l)
  | inr l ↦ elim (cases_lt b a) [
    | inl less ↦ absurd (above less)
    | inr le ↦ omega (arith, l, le)
  ]
]

module _ (session : Outline) (journal : List journaled.Entry) where
  -- a bad entry is not good
  not_all : (place : ℕ) → IsFirstBad session journal place → AreGoodTo session journal (length journal) → ⊥
  not_all place first good =
      first.bad (good.each place first.entry (slice_get_within journal place first.entry first.at) first.at)

  not_before : (place other : ℕ) → IsFirstBad session journal place → IsFirstBad session journal other → place < other → ⊥
  not_before place other first second l = first.bad (second.before.each place first.entry l first.at)

  one_at : {a b : journaled.Entry} → Some a ≡ Some b → a ≡ b
  one_at e = cc

  one_entry : (p line q other : ℕ) → IsEntryBreach session journal p line → IsEntryBreach session journal q other → (p ≡ q) × (line ≡ other)
  one_entry p line q other b c =
      let same = same_number b.place c.place (not_before b.place c.place b.first c.first) (not_before c.place b.place c.first b.first) in
      let entry : b.first.entry ≡ c.first.entry = one_at (sym b.first.at ∙ ap (slice_get journal) same ∙ c.first.at) in (
        b.whose ∙ ap (λ (e : journaled.Entry). e.process) entry ∙ sym c.whose,
        b.no_line ∙ sym c.no_line,
      )

  module _ (transcripts : List (List Step)) where
    no_breach : (process line : ℕ) → IsGoodRun session journal transcripts → IsBreach session journal transcripts process line → ⊥
    no_breach process line good breach = elim breach [
      | inl entry ↦ not_all entry.place entry.first good.entries
      | inr later ↦ elim later [
        | inl bad ↦ bad.bad.bad (good.parts process bad.there)
        | inr unnamed ↦ unnamed.unnamed (good.named process)
      ]
    ]

    not_earlier : (p line q other : ℕ) → IsLineBreach session journal transcripts p line
        → IsLineBreach session journal transcripts q other → p < q → ⊥
    not_earlier p line q other b c l = b.bad.bad (c.before p l)

    not_shorter : FrontLaw → (p j k : ℕ) → IsBadLine session journal transcripts p j → IsBadLine session journal transcripts p k
        → j < k → ⊥
    not_shorter front p j k b c l =
        let within = c.within in
        b.next (omega (arith, l, within)) (front session journal transcripts p (suc j) k (omega (arith, l)) c.good)

    one_line : FrontLaw → (p line q other : ℕ) → IsLineBreach session journal transcripts p line
        → IsLineBreach session journal transcripts q other → (p ≡ q) × (line ≡ other)
    one_line front p line q other b c =
        let same : p ≡ q = same_number p q (not_earlier p line q other b c) (not_earlier q other p line c b) in
        let there : IsBadLine session journal transcripts q b.place =
        subst (λ (u : ℕ). IsBadLine session journal transcripts u b.place) same b.bad in
        let place : b.place ≡ c.place =
        same_number b.place c.place (not_shorter front q b.place c.place there c.bad) (not_shorter front q c.place b.place c.bad there) in (
          same,
          b.number ∙ ap (λ (u : ℕ). blamed (lines_of session u) (part transcripts u) b.place) same
              ∙ ap (blamed (lines_of session q) (part transcripts q)) place ∙ sym c.number,
        )

    one_unnamed : (p line q other : ℕ) → IsUnnamedBreach session journal transcripts p line
        → IsUnnamedBreach session journal transcripts q other → (p ≡ q) × (line ≡ other)
    one_unnamed p line q other b c = (
      same_number p q (λ l. b.unnamed (c.before p l)) (λ l. c.unnamed (b.before q l)),
      b.no_line ∙ sym c.no_line,
    )

    one_breach : FrontLaw → (p line q other : ℕ) → IsBreach session journal transcripts p line
        → IsBreach session journal transcripts q other → (p ≡ q) × (line ≡ other)
    one_breach front p line q other b c = elim b [
      | inl entry ↦ elim c [
        | inl entry' ↦ one_entry p line q other entry entry'
        | inr later ↦ elim later [
          | inl bad' ↦ absurd (not_all entry.place entry.first bad'.entries)
          | inr unnamed' ↦ absurd (not_all entry.place entry.first unnamed'.entries)
        ]
      ]
      | inr later ↦ elim later [
        | inl bad ↦ elim c [
          | inl entry' ↦ absurd (not_all entry'.place entry'.first bad.entries)
          | inr later' ↦ elim later' [
            | inl bad' ↦ one_line front p line q other bad bad'
            | inr unnamed' ↦ absurd (bad.bad.bad (unnamed'.parts p bad.there))
          ]
        ]
        | inr unnamed ↦ elim c [
          | inl entry' ↦ absurd (not_all entry'.place entry'.first unnamed.entries)
          | inr later' ↦ elim later' [
            | inl bad' ↦ absurd (bad'.bad.bad (unnamed.parts q bad'.there))
            | inr unnamed' ↦ one_unnamed p line q other unnamed unnamed'
          ]
        ]
      ]
    ]

pub good_has_none : (session : Outline) (journal : List journaled.Entry) (transcripts : List (List Step)) (process line : ℕ)
    → IsGoodRun session journal transcripts → IsBreach session journal transcripts process line → ⊥
good_has_none session journal transcripts process line good breach = no_breach session journal transcripts process line good breach

pub one_breach_law : FrontLaw → OneBreachLaw
one_breach_law front session journal transcripts p line q other b c = one_breach session journal transcripts front p line q other b c
