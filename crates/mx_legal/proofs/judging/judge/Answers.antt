use Rattle.std.proofs.Common.{sym, subst, ◌∙◌, ◌↔◌, Bool, IsTrue}
use Rattle.mx_legal.specs.Breach.{HasNamed}
use Rattle.mx_legal.proofs.DeciderLaws.{is_named}
use Rattle.mx_legal.proofs.VerdictLaws.{own_read}
use Rattle.mx_legal.proofs.judging.judge.Goals as goal

pub returns : goal.returns
returns c = record {
  bad = c.in_ok-bad.ensures;
  named = subst (λ (named : Bool). IsTrue named ↔ HasNamed c.args.journal.now c.args.transcripts.now c.args.p) (sym c.is_whole.ensures)
      (is_named c.args.journal.now c.args.transcripts.now c.args.p c.deref.result.now c.first_misnamed-naming.result
      (c.deref.ensures.value ∙ c.in_ok-lines.ensures) c.first_misnamed-naming.ensures);
}

pub bad_line-requires-clause-reads : goal.bad_line-requires-clause-reads
bad_line-requires-clause-reads c =
    own_read c.reads_to_law.ensures c.right_to_law.ensures c.args.session.now c.args.journal.now c.args.transcripts.now c.args.p
    c.args.stores.now c.args.access.now.deeds.items c.in_ok-wrong_read.wrong_read c.requires.stores c.requires.access.deeds
    c.in_ok-wrong_read.ensures
