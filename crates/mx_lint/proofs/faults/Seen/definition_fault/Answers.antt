use Rattle.std.proofs.Common.{sym, ◌∙◌, List, ℕ, inl, arith}
use Rattle.mx_lint.specs.Fields.{is}
use Rattle.mx_lint.proofs.ItemLaws.{any_borrowed, defined_too}
use Rattle.mx_lint.proofs.faults.Seen.definition_fault.Goals as goal

pub returns-then-contains : goal.returns-then-contains
returns-then-contains c = (
  c.symbol_of-symbol.ensures,
  c.requires,
  omega (arith, c.if-self-gt0.false),
  sym (any_borrowed (λ (s : List ℕ). is s c.symbol_of-symbol.result.now) c.args.self.now.symbols.items)
      ∙ rw (sym c.deref.ensures.value) (sym c.contains.ensures.value ∙ c.if-contains.true),
)

pub returns : goal.returns
returns c =
    inl (defined_too _ _ _ _ _ c.requires c.if-self-gt0.false
    (sym (any_borrowed (λ (s : List ℕ). is s c.symbol_of-symbol.result.now) c.args.self.now.symbols.items)
    ∙ rw (sym c.deref.ensures.value) (sym c.contains.ensures.value ∙ c.if-contains.false))
    (omega (arith, c.if-len-ge-MOST.false, c.len.ensures)) c.symbol_of-symbol.ensures c.in_ok-push.ensures.items)
