use Rattle.mx_fresh.proofs.HeldLaws.{held_after, segments_taken}
use Rattle.mx_fresh.proofs.fresh.Fresh.apply.Goals as goal

pub apply-requires-clause-taken : goal.apply-requires-clause-taken
apply-requires-clause-taken c = segments_taken c.self.inside.state c.self.invariant

pub invariant_of-self : goal.invariant_of-self
invariant_of-self c =
    held_after c.self.inside.state c.apply.new.self c.args.p c.args.ring c.args.request.now c.apply.result
    c.apply.ensures.answer c.apply.ensures.err c.self.invariant
