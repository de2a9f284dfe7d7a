use Rattle.std.proofs.Common.{◌++◌, ◌∙◌, List, ap}
use Rattle.mx_desc.specs.Passes.{PassValue}
use Rattle.mx_proc.proofs.SeatLaws.{new_pass}
use Rattle.mx_state.specs.declared.journal.Entry as journaled
use Rattle.office_tests.proofs.tests.beside.seated.Goals as goal

pub outside-requires : goal.outside-requires
outside-requires g c =
    let so_far = c.loop-pass.invariant in
    new_pass g.B.Sitting.session c.args.passes c.loop-pass.yielded c.next.new.self.rest.items c.in-Some.pass
    (so_far.all ∙ ap (λ (l : List (PassValue journaled.Entry)). c.loop-pass.yielded ++ l) c.in-Some.ensures.steps.0)
    c.requires.fresh c.requires.all

pub outside-requires-in_default : goal.outside-requires-in_default
outside-requires-in_default g c =
    let so_far = c.loop-pass.invariant in
    new_pass g.B.Sitting.session c.args.passes c.loop-pass.yielded c.next.new.self.rest.items c.in-Some.pass
    (so_far.all ∙ ap (λ (l : List (PassValue journaled.Entry)). c.loop-pass.yielded ++ l) c.in-Some.ensures.steps.0)
    c.requires.fresh c.requires.all

pub new-requires-clause-fresh : goal.new-requires-clause-fresh
new-requires-clause-fresh g c =
    let so_far = c.loop-pass.invariant in
    new_pass g.B.Sitting.session c.args.passes c.loop-pass.yielded c.next.new.self.rest.items c.in-Some.pass
    (so_far.all ∙ ap (λ (l : List (PassValue journaled.Entry)). c.loop-pass.yielded ++ l) c.in-Some.ensures.steps.0)
    c.requires.fresh c.requires.all
