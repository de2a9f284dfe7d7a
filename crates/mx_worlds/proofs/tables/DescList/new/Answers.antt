use Rattle.std.proofs.Common.{ℕ, ◌+◌, List, ap, sym, ◌∙◌, subst, rules}
use Rattle.mx_sdw.specs.Descriptors.{Descriptor}
use Rattle.mx_worlds.proofs.TableLaws.{AreUnknown, unknown_added, unknown_table}
use Rattle.mx_worlds.proofs.tables.DescList.new.Goals as goal

pub invariant_of-result : goal.invariant_of-result
invariant_of-result c = record {
  rows_of_each = search rules;
  numbers_of_each = λ i row at.
      (c.loop.invariant.1 i row at).0;
}

pub returns-clause-unknown : goal.returns-clause-unknown
returns-clause-unknown c p n = unknown_table c.loop.rows.items c.args.numbers c.loop.invariant.1 p n

pub loop-preserved : goal.loop-preserved
loop-preserved c = (
  c.in_ok-push.ensures.len ∙ ap (λ (k : ℕ). k + 1) c.loop.invariant.0,
  subst (λ (l : List (List Descriptor)). AreUnknown l c.args.numbers) (sym c.in_ok-push.ensures.items)
      (unknown_added c.loop.rows.items c.args.numbers c.in_ok-unknown.field-0 c.loop.invariant.1
      c.in_ok-unknown.ensures.0 c.in_ok-unknown.ensures.1),
)
