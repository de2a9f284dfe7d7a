use Rattle.std.proofs.Common.{ℕ, List, [], ◌∷◌, ◌++◌, ◌==◌, ap, ◌∙◌}
use Rattle.std.specs.Cmp.Lexicographic.{pointwise}
use Rattle.std.specs.Map.{lookup}
use Rattle.mx_hier.proofs.NameLaws.{pushed}
use Rattle.mx_hier.proofs.OrderLaws.{kept_sorted, put_kept}
use Rattle.mx_hier.proofs.kept.Kept.add.Goals as goal

pub place-requires-clause-sorted : goal.place-requires-clause-sorted
place-requires-clause-sorted c =
    kept_sorted c.self.inside.uids.entries c.reserve.new.self.items (c.reserve.ensures.items ∙ c.self.invariant.order)

pub invariant_of-self-2 : goal.invariant_of-self-2
invariant_of-self-2 c = record {
  order =
      put_kept c.args.name c.args.uid c.self.inside.uids.entries c.insert.new.self.entries c.reserve.new.self.items c.place.new.names.items
      (c.reserve.ensures.items ∙ c.self.invariant.order)
      (c.in_ok-insert.ensures.entries
      ∙ pushed c.self.inside.uids c.args.name c.args.uid (ap (lookup (pointwise ◌==◌ c.args.name)) c.self.view_is ∙ c.requires))
      c.place.ensures.sorted c.place.ensures.all;
  given = tt;
}

pub returns-clause-ok : goal.returns-clause-ok
returns-clause-ok c =
    c.in_ok-insert.ensures.entries
    ∙ pushed c.self.inside.uids c.args.name c.args.uid (ap (lookup (pointwise ◌==◌ c.args.name)) c.self.view_is ∙ c.requires)
    ∙ ap (λ (pairs : List (List ℕ × ℕ)). pairs ++ (c.args.name, c.args.uid) ∷ []) c.self.view_is
