use Rattle.std.proofs.Common.{◌≡◌, ◌<◌, ◌≤◌, Bool, true, false, Option, ℕ, List, length, subst, sym, ◌∙◌, arith, rules}
use Rattle.mx_legal.specs.Fronts.{IsGoodTo}
use Rattle.mx_legal.proofs.FirstLaws.{bad_line}
use Rattle.mx_legal.proofs.OverLaws.{good_part, missing}
use Rattle.mx_points.specs.Fronts.{IsBadAt, IsFirstBad}
use Rattle.mx_transcript.specs.Transcripts.{Step}
use Rattle.mx_legal.proofs.fronts.or_missing.Goals as goal

pub returns-in-Some : goal.returns-in-Some
returns-in-Some c =
    bad_line c.front_law.ensures c.args.session.now c.args.journal.now c.args.transcripts.now c.args.p c.in-Some.place
    (subst (λ (steps : List Step). IsBadAt (IsGoodTo c.args.session.now c.args.journal.now c.args.transcripts.now c.args.p) (length steps) c.in-Some.place)
    c.requires.lines
    (subst (λ (bad : Option ℕ). IsFirstBad (IsGoodTo c.args.session.now c.args.journal.now c.args.transcripts.now c.args.p) (length c.args.lines.now) bad)
    c.in-Some.is c.requires.bad))

pub returns-then-is_over : goal.returns-then-is_over
returns-then-is_over c =
    let process : c.args.p ≤ length c.args.session.now.principals = search rules in
    good_part c.args.session.now c.args.journal.now c.args.transcripts.now c.args.p c.args.lines.now c.requires.lines process
    (subst (λ (bad : Option ℕ). IsFirstBad (IsGoodTo c.args.session.now c.args.journal.now c.args.transcripts.now c.args.p) (length c.args.lines.now) bad)
    c.in-None.is c.requires.bad)
    (sym c.is_over.ensures ∙ c.if-is_over.true)

pub returns-then-p-processes : goal.returns-then-p-processes
returns-then-p-processes c =
    let other : length c.args.session.now.principals < c.args.p = search rules in
    missing c.args.session.now c.args.journal.now c.args.transcripts.now c.args.p c.args.lines.now c.requires.lines
    (subst (λ (bad : Option ℕ). IsFirstBad (IsGoodTo c.args.session.now c.args.journal.now c.args.transcripts.now c.args.p) (length c.args.lines.now) bad)
    c.in-None.is c.requires.bad)
    (λ process over. absurd (omega (arith, other, process)))

pub returns-else-is_over : goal.returns-else-is_over
returns-else-is_over c =
    missing c.args.session.now c.args.journal.now c.args.transcripts.now c.args.p c.args.lines.now c.requires.lines
    (subst (λ (bad : Option ℕ). IsFirstBad (IsGoodTo c.args.session.now c.args.journal.now c.args.transcripts.now c.args.p) (length c.args.lines.now) bad)
    c.in-None.is c.requires.bad)
    (λ process over. not_both c.is_over.result c.if-is_over.false (c.is_over.ensures ∙ over))
  where
    not_both : (told : Bool) → told ≡ false → told ≡ true → ⊥
    not_both told one other = cc
