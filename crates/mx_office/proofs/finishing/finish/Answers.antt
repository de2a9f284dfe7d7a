use Rattle.std.proofs.Common.{ℕ, ◌∙◌, sym, subst, arith}
use Rattle.mx_closing.specs.Closing.{AreOfAll}
use Rattle.mx_closing.specs.Views.{marked_in}
use Rattle.mx_office.proofs.Keeps.{keeps_journal}
use Rattle.mx_office.proofs.finishing.finish.Goals as goal

pub finish-requires-clause-all : goal.finish-requires-clause-all
finish-requires-clause-all g c =
    subst (λ (n : ℕ). AreOfAll n c.args.passes)
    (sym (c.layout-layout.ensures.processes ∙ c.requires.locked.laid.processes)) c.requires.all

pub returns-clause-finished : goal.returns-clause-finished
returns-clause-finished g c =
    let x = g.B.Sitting.session in
    let setup = g.B.Sitting.setup in
    let l = c.requires.locked in
    let of_length = c.length-length.ensures in
    record {
      history = marked_in c.args.chief.history;
      journal = c.into_journal.ensures.value ∙ l.journal;
      closed = c.finish.ensures x setup
          (keeps_journal x setup g.B.Naming.layout c.args.supervisor c.args.chief c.args.book.total l
          (let a = of_length.counted in let b = of_length.begun in omega arith) of_length.answered
          c.layout-layout.ensures.processes);
    }
