use Rattle.std.proofs.Common.{◌∙◌, [], ◌∷◌, ◌++◌, List, ap, arith, length, length-append, subst, sym}
use Rattle.mx_closing.proofs.Returns.{taken}
use Rattle.mx_desc.specs.Passes.{PassValue}
use Rattle.mx_process.specs.Processes.{ProcessValue}
use Rattle.mx_state.specs.declared.journal.Entry as journaled
use Rattle.mx_proc.proofs.SeatLaws.{new_pass, one_more_first}
use Rattle.mx_proc.specs.Rows.{AreFirst}
use Rattle.mx_proc.proofs.seating.row_of.Goals as goal

pub new-requires-clause-fresh : goal.new-requires-clause-fresh
new-requires-clause-fresh g c =
    let so_far = c.loop-pass.invariant in
    new_pass g.B.Sitting.session c.args.passes c.loop-pass.yielded c.next.new.self.rest.items c.in-Some.pass
    (so_far.all ∙ ap (λ (l : List (PassValue journaled.Entry)). c.loop-pass.yielded ++ l) c.in-Some.ensures.steps.0)
    c.requires.fresh c.requires.all

pub loop-pass-preserved : goal.loop-pass-preserved
loop-pass-preserved g c =
    let so_far = c.loop-pass.invariant in
    let yielded = c.loop-pass.yielded in
    let rest = c.next.new.self.rest.items in
    let pass = c.in-Some.pass in
    let row = c.loop-pass.row.items in
    let process = c.in_ok-process.process in
    let next = c.in-Some.ensures.steps.0 in
    let put = c.in_ok-push.ensures.items in
    let many = length-append yielded (pass ∷ []) in
    let grown = ap (λ (l : List ProcessValue). length l) put ∙ length-append row (process ∷ []) in
    let before = so_far.many in record {
      all = taken c.args.passes yielded c.loop-pass.pass-iterator.rest.items rest pass so_far.all next;
      many = omega (arith, many, grown, before);
      first = subst (λ (l : List ProcessValue). AreFirst l) (sym put)
          (one_more_first g.B.Sitting.session c.args.passes yielded rest pass row process
          (so_far.all ∙ ap (λ (l : List (PassValue journaled.Entry)). yielded ++ l) next) c.requires.all before c.in_ok-process.ensures
          so_far.first);
    }
