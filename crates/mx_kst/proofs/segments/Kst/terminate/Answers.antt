use Rattle.std.proofs.Common.{◌≡◌, ◌==◌, List, map, arith, ap, sym, subst, ◌∙◌}
use Rattle.std.specs.List.{All}
use Rattle.std.specs.Vec.{with_items}
use Rattle.std.proofs.lemmas.List.{with_items_is}
use Rattle.indexmap.specs.IndexMap.{get, spare}
use Rattle.mx_kst.specs.declared.lots.Lot.{Lot}
use Rattle.mx_kst.specs.declared.lots.Lot.TheVariants.{Branch}
use Rattle.mx_kst.specs.Lots.{lot_of, is_branch}
use Rattle.mx_kst.specs.Stored.{standing, AreGiven}
use Rattle.mx_kst.specs.Terminating.{lots_without, names_without, terminate}
use Rattle.mx_kst.specs.KnownSegments.{KnownSegments}
use Rattle.mx_kst.proofs.IndexLaws.{terminated_index, room_left}
use Rattle.mx_kst.proofs.StoredLaws.{all_standing_without, given_without}
use Rattle.mx_kst.proofs.TerminateLaws.{terminate_is, sound_after}
use Rattle.mx_kst.proofs.segments.Kst.terminate.Goals as goal

abbrev before : goal.After-take_number → KnownSegments
before c = record { last = c.self.inside.last; lots = c.self.inside.lots.items; names = map (standing c.self.inside.lots.items) c.self.inside.names.items }

own : (c : goal.After-take_number) → lot_of c.self.inside.lots.items c.args.segno ≡ Branch c.in-Branch.uid
own c = cc (c.in-Branch.is, c.lot_of.ensures, c.deref.ensures.value)

lots : (c : goal.After-take_number) → (with_items c.self.inside.lots c.free.new.lots).items ≡ lots_without c.args.segno c.self.inside.lots.items
lots c = with_items_is c.self.inside.lots c.free.new.lots (omega arith) ∙ c.free.ensures ∙ ap (lots_without c.args.segno) c.deref_mut.ensures.value

names : (c : goal.After-take_number) → map (standing (with_items c.self.inside.lots c.free.new.lots).items) c.self.inside.names.items
    ≡ map (names_without c.args.segno) (map (standing c.self.inside.lots.items) c.self.inside.names.items)
names c =
    ap (λ (xs : List Lot). map (standing xs) c.self.inside.names.items) (lots c)
    ∙ all_standing_without c.self.inside.lots.items c.args.segno c.self.inside.names.items

pub invariant_of-self : goal.invariant_of-self
invariant_of-self c = (
  sound_after (before c) c.args.segno _ _ c.self.invariant.0 (ap is_branch (own c)) (lots c) (names c),
  subst (λ (xs : List Lot). All (AreGiven xs) c.self.inside.names.items) (sym (lots c))
      (given_without c.self.inside.lots.items c.args.segno c.self.inside.names.items c.self.invariant.1),
  omega arith,
  terminated_index (get ◌==◌ c.self.inside.numbers) _ c.self.inside.lots.items _ c.args.segno c.in-Branch.uid c.self.invariant.3 (own c) (lots c) c.take_number.ensures.numbers,
  room_left c.self.inside.last c.self.inside.lots.items _ c.args.segno (spare c.self.inside.numbers) _ (lots c) c.self.invariant.4 c.take_number.ensures.room,
)

pub returns-clause-ok : goal.returns-clause-ok
returns-clause-ok c =
    ap (λ (k : KnownSegments). terminate k c.args.segno) (sym c.self.view_is)
    ∙ terminate_is (before c) c.args.segno _ _ (ap is_branch (own c)) (lots c) (names c)
