use Rattle.std.proofs.Common.{max, sym, ◌∙◌, ap}
use Rattle.mx_ptr.specs.Pointers.{PointerParts}
use Rattle.mx_effring.proofs.ChainLaws.{read_further}
use Rattle.mx_effring.proofs.walks.Walk.feed.Goals as goal

pub returns-clause-ok : goal.returns-clause-ok
returns-clause-ok c = λ operand is.
    read_further operand _ c.in-Some.pointer c.args.word c.args.r1 c.ring_past-self-inside.result (is ∙ sym c.self.view_is) c.in-Some.ensures.value
    (c.ring_past-self-inside.ensures ∙ ap (λ (p : PointerParts). max (max c.self.inside.ring p.ring) c.args.r1) c.pointer-2.view_is)
