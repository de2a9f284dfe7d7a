use Rattle.std.proofs.Common.{ℕ, List, [], ◌∷◌, ◌++◌, ◌==◌, ap, sym, ◌∙◌}
use Rattle.std.specs.Cmp.Lexicographic.{pointwise}
use Rattle.std.specs.Map.{keys_of, lookup}
use Rattle.std.specs.Option.{is_some}
use Rattle.indexmap.specs.IndexMap.{swap_remove_entry}
use Rattle.mx_hier.specs.List.{in_byte_order}
use Rattle.mx_hier.proofs.NameLaws.{pushed}
use Rattle.mx_hier.proofs.OrderLaws.{kept_sorted, kept_there, renamed_kept}
use Rattle.mx_hier.proofs.KeyLaws.{swapped, renamed_none}
use Rattle.mx_hier.proofs.kept.Kept.rename.Goals as goal

pub returns-in-None-clause-ok : goal.returns-in-None-clause-ok
returns-in-None-clause-ok c = sym (renamed_none c.args.old.now c.args.new c.args.self.now (sym c.uid.ensures ∙ c.in-None.is))

pub displace-requires-clause-sorted : goal.displace-requires-clause-sorted
displace-requires-clause-sorted c = kept_sorted c.self.inside.uids.entries c.self.inside.sorted.items c.self.invariant.order

pub displace-requires-clause-there : goal.displace-requires-clause-there
displace-requires-clause-there c =
    kept_there c.args.old.now c.self.inside.uids.entries c.self.inside.sorted.items c.self.invariant.order
    (ap (λ (pairs : List (List ℕ × ℕ)). is_some (lookup (pointwise ◌==◌ c.args.old.now) pairs)) c.self.view_is
    ∙ ap is_some (sym c.uid.ensures ∙ c.in-Some.is))

pub returns-in_ok-insert-in-Some-clause-ok : goal.returns-in_ok-insert-in-Some-clause-ok
returns-in_ok-insert-in-Some-clause-ok c =
    c.swap_remove.ensures.entries
    ∙ ap (swap_remove_entry (pointwise ◌==◌ c.args.old.now))
    (c.in_ok-insert-in-Some.ensures.entries
    ∙ pushed c.self.inside.uids c.args.new c.in-Some.uid (ap (lookup (pointwise ◌==◌ c.args.new)) c.self.view_is ∙ c.requires)
    ∙ ap (λ (pairs : List (List ℕ × ℕ)). pairs ++ (c.args.new, c.in-Some.uid) ∷ []) c.self.view_is)
    ∙ swapped c.args.old.now c.args.new c.in-Some.uid c.args.self.now (sym c.uid.ensures ∙ c.in-Some.is)

pub invariant_of-self-in-Some : goal.invariant_of-self-in-Some
invariant_of-self-in-Some c = record {
  order =
      renamed_kept c.args.old.now c.args.new c.in-Some.uid c.args.self.now c.swap_remove.new.self.entries c.self.inside.sorted.items c.displace.new.names.items
      c.place.new.names.items
      (c.self.invariant.order ∙ ap (λ (pairs : List (List ℕ × ℕ)). in_byte_order (keys_of pairs)) c.self.view_is)
      (sym c.uid.ensures ∙ c.in-Some.is)
      (c.swap_remove.ensures.entries
      ∙ ap (swap_remove_entry (pointwise ◌==◌ c.args.old.now))
      (c.in_ok-insert-in-Some.ensures.entries
      ∙ pushed c.self.inside.uids c.args.new c.in-Some.uid (ap (lookup (pointwise ◌==◌ c.args.new)) c.self.view_is ∙ c.requires)
      ∙ ap (λ (pairs : List (List ℕ × ℕ)). pairs ++ (c.args.new, c.in-Some.uid) ∷ []) c.self.view_is)
      ∙ swapped c.args.old.now c.args.new c.in-Some.uid c.args.self.now (sym c.uid.ensures ∙ c.in-Some.is))
      c.place.ensures.sorted c.displace.ensures.all c.place.ensures.all;
  given = tt;
}
