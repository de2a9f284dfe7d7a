use Rattle.std.proofs.Common.{ℕ, Option, subst, sym}
use Rattle.std.specs.Prelude.{MatchOption}
use Rattle.mx_legal.specs.Breach.{IsBadLine}
use Rattle.mx_legal.specs.Deciding.{IsUnnamedTo}
use Rattle.mx_legal.specs.Fronts.{IsGoodPart}
use Rattle.mx_legal.specs.Judging.{AreJudged}
use Rattle.mx_legal.proofs.VerdictLaws.{is_legal, parts_more, unnamed_breach, unnamed_more}
use Rattle.mx_legal.proofs.checking.legal_lines.Goals as goal

pub judged_at-requires-clause-beside : goal.judged_at-requires-clause-beside
judged_at-requires-clause-beside g c =
    subst (AreJudged c.args.session.now c.args.journal.now c.args.transcripts.now) (sym c.as_slice-beside.ensures.value)
    c.in_ok-all.ensures

pub loop-p-preserved : goal.loop-p-preserved
loop-p-preserved g c = record {
  entries = c.loop-p.invariant.entries;
  parts = parts_more c.args.session.now c.args.journal.now c.args.transcripts.now c.loop-p.p c.loop-p.invariant.parts
      (subst (λ (bad : Option ℕ). MatchOption bad
      (IsGoodPart c.args.session.now c.args.journal.now c.args.transcripts.now c.loop-p.p)
      (IsBadLine c.args.session.now c.args.journal.now c.args.transcripts.now c.loop-p.p)) c.in_default.is c.in_ok-judged.ensures.bad);
  named = unnamed_more c.args.journal.now c.args.transcripts.now c.loop-p.p c.loop-p.unnamed c.or_unnamed-unnamed.result
      c.in_ok-judged.judged.is_named c.or_unnamed-unnamed.ensures c.loop-p.invariant.named c.in_ok-judged.ensures.named;
}

pub returns-in-None : goal.returns-in-None
returns-in-None g c =
    is_legal c.legal_law.ensures c.args.session.now c.args.journal.now c.args.transcripts.now c.loop-p.p c.parts_in-p-end.result
    c.scripts-scripts.ensures.session c.parts_in-p-end.ensures c.loop-p-test.false c.requires.entries c.requires.makers
    c.loop-p.invariant.parts (subst (IsUnnamedTo c.args.journal.now c.args.transcripts.now c.loop-p.p) c.in-None.is c.loop-p.invariant.named)

pub returns : goal.returns
returns g c =
    unnamed_breach c.args.session.now c.args.journal.now c.args.transcripts.now c.loop-p.p c.parts_in-p-end.result
    c.in-Some-unnamed.process c.parts_in-p-end.ensures c.loop-p-test.false c.requires.entries c.loop-p.invariant.parts
    (subst (IsUnnamedTo c.args.journal.now c.args.transcripts.now c.loop-p.p) c.in-Some-unnamed.is c.loop-p.invariant.named)
