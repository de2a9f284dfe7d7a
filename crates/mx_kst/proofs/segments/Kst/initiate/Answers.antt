use Rattle.std.proofs.Common.{◌≡◌, ◌≤◌, ◌==◌, subst, true, inl, List, map, is_some, None, rules, arith, ap, sym, ◌∙◌}
use Rattle.std.specs.Option.{option_copied}
use Rattle.std.specs.Vec.{with_items}
use Rattle.std.proofs.lemmas.List.{with_items_is}
use Rattle.indexmap.specs.IndexMap.{get, spare}
use Rattle.mx_kst.specs.declared.lots.Lot.{Lot}
use Rattle.mx_kst.specs.declared.segments.Known.{Known}
use Rattle.mx_kst.specs.Names.{RingNames}
use Rattle.mx_kst.specs.Stored.{standing, HoldAll}
use Rattle.mx_kst.specs.Initiating.{refusal, known_as, lots_with, with_name, initiate}
use Rattle.mx_kst.specs.KnownSegments.{KnownSegments}
use Rattle.mx_kst.specs.Lots.{numbers_left}
use Rattle.mx_kst.proofs.IndexLaws.{initiated_index, room_after}
use Rattle.mx_kst.proofs.StoredLaws.{held_after}
use Rattle.mx_kst.proofs.InitiateLaws.{not_full, sound_after, initiate_is}
use Rattle.mx_kst.proofs.segments.Kst.initiate.Goals as goal

abbrev before : goal.After-add_number → KnownSegments
before c = record { last = c.self.inside.last; lots = c.self.inside.lots.items; names = map (standing c.self.inside.lots.items) c.self.inside.names.items }

granted : (c : goal.After-add_number) → refusal (before c) c.args.uid c.args.ring (option_copied c.args.name) (is_some c.args.section) ≡ None
granted c =
    let none : c.refusal.result ≡ None = search rules in
    ap (λ (k : KnownSegments). refusal k c.args.uid c.args.ring (option_copied c.args.name) (is_some c.args.section)) c.self.view_is
    ∙ ap (refusal c.args.self.now c.args.uid c.args.ring (option_copied c.args.name)) (sym c.is_some.ensures)
    ∙ sym c.refusal.ensures ∙ none

known : (c : goal.After-add_number) → c.known_as-known.result ≡ known_as c.self.inside.lots.items c.args.uid c.args.section
known c = c.known_as-known.ensures ∙ ap (λ (k : KnownSegments). known_as k.lots c.args.uid c.args.section) (sym c.self.view_is)

lots : (c : goal.After-add_number) → c.add_lots.new.lots.items
    ≡ lots_with c.self.inside.lots.items (known_as c.self.inside.lots.items c.args.uid c.args.section) c.args.uid c.args.section
lots c = c.add_lots.ensures.lots ∙ ap (λ (x : Known). lots_with c.self.inside.lots.items x c.args.uid c.args.section) (known c)

stored : (c : goal.After-add_number) → (with_items c.self.inside.names c.add_name.new.names).items ≡ c.add_name.new.names
stored c = with_items_is c.self.inside.names c.add_name.new.names (omega arith)

held : (c : goal.After-add_number) → HoldAll c.add_lots.new.lots.items (with_items c.self.inside.names c.add_name.new.names).items
    (with_name (before c).names c.args.ring (option_copied c.args.name) (known_as c.self.inside.lots.items c.args.uid c.args.section).segno)
held c =
    let names : List RingNames = with_name (before c).names c.args.ring (option_copied c.args.name) (known_as c.self.inside.lots.items c.args.uid c.args.section).segno in
    subst (λ (xs : List Lot). HoldAll xs (with_items c.self.inside.names c.add_name.new.names).items names) (sym (lots c))
    (subst (λ (xs : List RingNames). HoldAll (lots_with c.self.inside.lots.items (known_as c.self.inside.lots.items c.args.uid c.args.section) c.args.uid c.args.section) xs names) (sym (stored c))
    (held_after c.self.inside.lots.items c.deref.result.now c.self.inside.names.items c.deref_mut.result.now c.add_name.new.names c.args.uid c.args.ring
    (option_copied c.args.name) c.args.section c.known_as-known.result c.deref.ensures.value c.deref_mut.ensures.value (known c) c.in_ok-add_name.ensures.ok))

pub invariant_of-self-2 : goal.invariant_of-self-2
invariant_of-self-2 c =
    let room = not_full (before c) c.args.uid c.args.ring (option_copied c.args.name) (is_some c.args.section) (granted c) in
    let fits = λ (t : (known_as c.self.inside.lots.items c.args.uid c.args.section).fresh ≡ true). c.add_lots.ensures.section (ap (λ (x : Known). x.fresh) (known c) ∙ t) in (
      sound_after (before c) c.args.uid c.args.ring (option_copied c.args.name) c.args.section _ _ c.self.invariant.0 room fits (lots c) (held c).standing,
      (held c).given,
      omega (arith, c.add_lots.ensures.room),
      initiated_index (get ◌==◌ c.self.inside.numbers) _ c.self.inside.lots.items _ c.args.uid c.args.section c.known_as-known.result c.self.invariant.3 (known c) (lots c) c.add_number.ensures.numbers,
      subst (λ (xs : List Lot). numbers_left c.self.inside.last xs ≤ spare c.add_number.new.numbers) (sym c.add_lots.ensures.lots)
          (room_after c.self.inside.last c.self.inside.lots.items c.known_as-known.result c.args.uid c.args.section (spare c.self.inside.numbers) _ c.self.invariant.4 c.add_number.ensures.room),
    )

pub returns-clause-answer : goal.returns-clause-answer
returns-clause-answer c =
    inl (sym (ap (λ (k : KnownSegments). initiate k c.args.uid c.args.ring (option_copied c.args.name) c.args.section) (sym c.self.view_is)
    ∙ initiate_is (before c) c.args.uid c.args.ring (option_copied c.args.name) c.args.section c.known_as-known.result _ _ (granted c) (known c) (lots c) (held c).standing))
