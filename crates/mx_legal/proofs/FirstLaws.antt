-- The first place at which several rules fail: the least of those at which each does.
use Rattle.std.proofs.Common.{◌≡◌, ◌↔◌, inl, inr, ℕ, zero, suc, ◌<◌, ◌≤◌, List, length, take, Option, Some, None, refl, ap, sym, ◌∙◌, subst, arith}
use Rattle.std.proofs.lemmas.Bool.{cases_lt}
use Rattle.std.proofs.lemmas.List.{take_all}
use Rattle.std.specs.Prelude.{min}
use Rattle.mx_script.specs.Sessions.{Outline}
use Rattle.mx_state.specs.declared.journal.Entry as journaled
use Rattle.mx_stores.specs.Least.{least}
use Rattle.mx_transcript.specs.Legal.{setting_of}
use Rattle.mx_transcript.specs.Openings.{opening_control}
use Rattle.mx_transcript.specs.Parts.{AreLines}
use Rattle.mx_transcript.specs.Scripts.{lines_of}
use Rattle.mx_transcript.specs.Transcripts.{Step, events_of, part}
use Rattle.mx_upcall.specs.Control.{Control}
use Rattle.mx_legal.specs.Breach.{IsBadLine}
use Rattle.mx_legal.specs.BreachLaws.{FrontLaw}
use Rattle.mx_legal.specs.Deciding.{IsLineOfEvent}
use Rattle.mx_legal.specs.Fronts.{IsGoodPart, IsGoodTo, events_to}
use Rattle.mx_points.specs.Fronts.{IsBadAt, IsFirstBad, IsLineOf}
use Rattle.mx_legal.proofs.FrontLaws.{fewer_events}

-- what holds of more holds of fewer
abbrev pub IsInherited : (ℕ → Type 0) → Type 0
IsInherited holds = (j k : ℕ) → j ≤ k → holds k → holds j

abbrev pub Both : (ℕ → Type 0) → (ℕ → Type 0) → ℕ → Type 0
Both one other n = one n × other n

pub both_inherited : (one other : ℕ → Type 0) → IsInherited one → IsInherited other → IsInherited (Both one other)
both_inherited one other first second j k l both = (first j k l both.0, second j k l both.1)

least_is : (a b : ℕ) → a ≤ b → a ≡ min a b
least_is a b l = omega (arith, l)

other_is : (a b : ℕ) → b ≤ a → b ≡ min a b
other_is a b l = omega (arith, l)

-- two rules
pub both_first : (one other : ℕ → Type 0) (count : ℕ) → IsInherited one → IsInherited other → (a b : Option ℕ)
    → IsFirstBad one count a → IsFirstBad other count b → IsFirstBad (Both one other) count (least a b)
both_first one other count first second None None p q = (p, q)
both_first one other count first second None (Some b) p q =
    let within = q.within in
    record { within = q.within; good = (first b count (omega (arith, within)) p, q.good); bad = λ both. q.bad both.1 }
both_first one other count first second (Some a) None p q =
    let within = p.within in
    record { within = p.within; good = (p.good, second a count (omega (arith, within)) q); bad = λ both. p.bad both.0 }
both_first one other count first second (Some a) (Some b) p q = elim (cases_lt a b) [
  | inl l ↦ subst (IsBadAt (Both one other) count) (least_is a b (omega (arith, l)))
      (record { within = p.within; good = (p.good, second a b (omega (arith, l)) q.good); bad = λ both. p.bad both.0 })
  | inr l ↦ subst (IsBadAt (Both one other) count) (other_is a b l)
      (record { within = q.within; good = (first b a l p.good, q.good); bad = λ both. q.bad both.1 })
]

-- said in other words
pub in_other_words : (one other : ℕ → Type 0) (count : ℕ) → ((n : ℕ) → one n → other n) → ((n : ℕ) → other n → one n) → (a : Option ℕ)
    → IsFirstBad one count a → IsFirstBad other count a
in_other_words one other count so back None p = so count p
in_other_words one other count so back (Some a) p =
    record { within = p.within; good = so a p.good; bad = λ q. p.bad (back (suc a) q) }

pub all_events : (steps : List Step) → length (events_of steps) ≡ events_to steps (length steps)
all_events steps = ap (λ (s : List Step). length (events_of s)) (sym (take_all (length steps) steps (omega arith)))

-- a rule of events, said of lines
pub by_lines : (holds : ℕ → Type 0) (steps : List Step) → IsInherited holds → (place line : Option ℕ)
    → IsLineOfEvent steps place line → IsFirstBad holds (length (events_of steps)) place
    → IsFirstBad (λ k. holds (events_to steps k)) (length steps) line
by_lines holds steps inherited None None of p = subst holds (all_events steps) p
by_lines holds steps inherited None (Some line) of p = absurd (none of)
  where
    none : Some line ≡ None → ⊥
    none e = cc
by_lines holds steps inherited (Some place) None of p = absurd of
by_lines holds steps inherited (Some place) (Some line) of p =
    let within = p.within in
    let before = of.before in
    elim (cases_lt line (length steps)) [
      | inl l ↦
          let in_line = of.in_line l in
          record {
            within = l;
            good = inherited (events_to steps line) place before p.good;
            bad = λ q. p.bad (inherited (suc place) (events_to steps (suc line)) (omega (arith, in_line)) q);
          }
      | inr l ↦
          let all = all_events steps in
          let more = fewer_events steps (length steps) line l in
          absurd (omega (arith, within, before, all, more))
    ]

-- the first bad line of a part, where one is, and where none is and one may be missing
pub bad_line : FrontLaw → (session : Outline) (journal : List journaled.Entry) (transcripts : List (List Step)) (p k : ℕ)
    → IsBadAt (IsGoodTo session journal transcripts p) (length (part transcripts p)) k → IsBadLine session journal transcripts p k
bad_line front session journal transcripts p k first =
    let within = first.within in
    record {
      within = omega (arith, within);
      good = first.good;
      next = λ l good. first.bad good;
      bad = λ whole. first.bad (front session journal transcripts p (suc k) (length (part transcripts p)) within whole.good);
    }

pub missing_line : (session : Outline) (journal : List journaled.Entry) (transcripts : List (List Step)) (p : ℕ)
    → IsGoodTo session journal transcripts p (length (part transcripts p))
    → (p ≤ length session.principals → (after : Control) → AreLines (setting_of session journal p) (opening_control session p)
    (lines_of session p) (part transcripts p) after → ⊥)
    → IsBadLine session journal transcripts p (length (part transcripts p))
missing_line session journal transcripts p good missing = record {
  within = omega arith;
  good = good;
  next = λ l good'. absurd (omega (arith, l));
  bad = λ whole. missing whole.process whole.whole.0 whole.whole.1;
}
