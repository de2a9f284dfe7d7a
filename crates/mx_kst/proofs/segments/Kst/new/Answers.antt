use Rattle.std.proofs.Common.{◌≡◌, ◌⊎◌, ◌==◌, ◌<◌, ◌≤◌, ℕ, List, [], length, map, inl, inr, ap, sym, subst, arith}
use Rattle.std.specs.List.{All}
use Rattle.std.specs.Map.{lookup}
use Rattle.std.proofs.lemmas.List.Elements.{All-nil, All-replicate}
use Rattle.indexmap.specs.IndexMap.{get, spare}
use Rattle.mx_kst.specs.declared.lots.Lot.{Lot}
use Rattle.mx_kst.specs.Lots.{numbers_left}
use Rattle.mx_kst.specs.Names.{RingNames}
use Rattle.mx_kst.specs.Stored.{standing, AreGiven}
use Rattle.mx_kst.proofs.IndexLaws.{indexed_first}
use Rattle.mx_kst.proofs.SoundLaws.{sound_first}
use Rattle.mx_kst.proofs.segments.Kst.new.Goals as goal

pub invariant_of-result : goal.invariant_of-result
invariant_of-result c = (
  sound_first c.args.last _ _ (some c.requires) (most c.requires) c.in_ok-lots.ensures.lots (ap (map (standing c.in_ok-lots.lots.items)) c.in_ok-names.ensures),
  subst (λ (stored : List RingNames). All (AreGiven c.in_ok-lots.lots.items) stored) (sym c.in_ok-names.ensures)
      (All-replicate (AreGiven c.in_ok-lots.lots.items) 8 [] (All-nil (λ (entry : List ℕ × ℕ). entry.1 < length c.in_ok-lots.lots.items))),
  c.in_ok-lots.ensures.room,
  indexed_first (get ◌==◌ c.in_ok-numbers.numbers) _ (λ q. ap (lookup (◌==◌ q)) c.in_ok-numbers.ensures.empty) c.in_ok-lots.ensures.lots,
  subst (λ (xs : List Lot). numbers_left c.args.last xs ≤ spare c.in_ok-numbers.numbers) (sym c.in_ok-lots.ensures.lots)
      (omega (arith, c.in_ok-numbers.ensures.spare)),
)
  where
    some : (c.args.last ≡ 127) ⊎ (c.args.last ≡ 255) → 7 ≤ c.args.last
    some (inl few) = omega arith
    some (inr many) = omega arith

    most : (c.args.last ≡ 127) ⊎ (c.args.last ≡ 255) → c.args.last ≤ 255
    most (inl few) = omega arith
    most (inr many) = omega arith
