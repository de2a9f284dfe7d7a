use Rattle.std.proofs.Common.{sym, ap, ◌∙◌}
use Rattle.std.specs.Option.{is_some}
use Rattle.mx_hier.proofs.OrderLaws.{kept_sorted, kept_there, removed_kept}
use Rattle.mx_hier.proofs.kept.Kept.remove.Goals as goal

pub displace-requires-clause-sorted : goal.displace-requires-clause-sorted
displace-requires-clause-sorted c = kept_sorted c.self.inside.uids.entries c.self.inside.sorted.items c.self.invariant.order

pub displace-requires-clause-there : goal.displace-requires-clause-there
displace-requires-clause-there c =
    kept_there c.args.name.now c.self.inside.uids.entries c.self.inside.sorted.items c.self.invariant.order
    (ap is_some (sym c.shift_remove.ensures.value) ∙ sym c.is_some.ensures ∙ c.if-is_some.true)

pub invariant_of-self : goal.invariant_of-self
invariant_of-self c = record {
  order =
      removed_kept c.args.name.now c.self.inside.uids.entries c.shift_remove.new.self.entries c.self.inside.sorted.items c.displace.new.names.items c.self.invariant.order
      (ap is_some (sym c.shift_remove.ensures.value) ∙ sym c.is_some.ensures ∙ c.if-is_some.true) c.shift_remove.ensures.entries
      c.displace.ensures.sorted c.displace.ensures.all;
  given = tt;
}
