use Rattle.std.proofs.Common.{◌≡◌, ◌-◌, ◌∙◌, ◌<◌, ◌≤◌, Some, [], ◌∷◌, ap, arith, length, length-append, map, refl, rules, subst, sym, slice_set, vec_len, vec_capacity}
use Rattle.std.specs.List.{slice_get}
use Rattle.mx_closing.proofs.Returns.{taken}
use Rattle.mx_proc.proofs.PlaceLaws.{drop_all, map_length}
use Rattle.mx_proc.proofs.SeatLaws.{attended_more, beyond_more, get_of, has_room, next_none, next_own, none_attended, unattended_more, within_still}
use Rattle.mx_proc.specs.Seating.{IsAttended}
use Rattle.mx_proc.proofs.seating.attend.Goals as goal
use Rattle.mx_proc.proofs.seating.attend.Goals.{then-place-len, else-place-len}

pub loop-auditor-init : goal.loop-auditor-init
loop-auditor-init g c =
    let into = c.into_iter-auditor-iterator.ensures.into_iter_gives in
    let few = c.requires.space in
    let none = ap length c.requires.none in
    let given = ap length into.0 in
    let first = c.args.auditors.ok.0 in
    let second = c.args.beyond.now.ok.0 in record {
      all = sym into.0;
      place = refl;
      each = none_attended c.args.row.now.items c.requires.first;
      len = refl;
      beyond = ap (map g.A.Auditor.account) c.requires.none ∙ sym (drop_all (vec_len c.args.row.now) [] (omega arith));
      space = omega (arith, few, none, given, first, second);
    }

pub attend-requires-clause-none : goal.attend-requires-clause-none
attend-requires-clause-none g c =
    let was = c.loop-auditor.invariant in
    let yielded = c.loop-auditor.yielded in
    let accounts = map g.A.Auditor.account yielded in
    let here : c.loop-auditor.place ≡ length accounts = was.place ∙ sym (map_length g.A.Auditor.account yielded) in
    let v = c.index_mut.result.now in
    let less : c.loop-auditor.place < length c.loop-auditor.row.items = search rules in
    let at = get_of c.loop-auditor.row.items c.loop-auditor.place v less ∙ ap Some (sym c.index_mut.ensures.value) in
    next_none accounts v (subst (λ n. IsAttended accounts n v) here (was.each c.loop-auditor.place v at))

pub attend-requires-clause-begun : goal.attend-requires-clause-begun
attend-requires-clause-begun g c =
    let v = c.index_mut.result.now in
    let less : c.loop-auditor.place < length c.loop-auditor.row.items = search rules in
    let at = get_of c.loop-auditor.row.items c.loop-auditor.place v less ∙ ap Some (sym c.index_mut.ensures.value) in
    (c.loop-auditor.invariant.each c.loop-auditor.place v at).begun

pub attend-requires-clause-own : goal.attend-requires-clause-own
attend-requires-clause-own g c =
    let was = c.loop-auditor.invariant in
    let yielded = c.loop-auditor.yielded in
    let v = c.index_mut.result.now in
    let less : c.loop-auditor.place < length c.loop-auditor.row.items = search rules in
    let at = get_of c.loop-auditor.row.items c.loop-auditor.place v less ∙ ap Some (sym c.index_mut.ensures.value) in
    let own = (was.each c.loop-auditor.place v at).process in
    let many = map_length g.A.Auditor.account yielded in
    let place = was.place in
    let here : length (map g.A.Auditor.account yielded) ≡ v.pass.view.process - 1 = omega (arith, own, many, place) in
    subst (λ n. slice_get g.B.Attending.accounts n ≡ Some (g.A.Auditor.account c.in-Some.auditor)) here
    (next_own g.A.Auditor.account c.args.auditors.items yielded c.loop-auditor.auditor-iterator.rest.items c.next.new.self.rest.items
    c.in-Some.auditor g.B.Attending.accounts was.all c.in-Some.ensures.steps.0 c.requires.accounts)

pub attend-requires-clause-room : goal.attend-requires-clause-room
attend-requires-clause-room g c =
    let was = c.loop-auditor.invariant in
    let yielded = c.loop-auditor.yielded in
    let v = c.index_mut.result.now in
    let less : c.loop-auditor.place < length c.loop-auditor.row.items = search rules in
    let at = get_of c.loop-auditor.row.items c.loop-auditor.place v less ∙ ap Some (sym c.index_mut.ensures.value) in
    let own = (was.each c.loop-auditor.place v at).process in
    let here : length (map g.A.Auditor.account yielded) ≡ c.loop-auditor.place = map_length g.A.Auditor.account yielded ∙ sym was.place in
    has_room g.B.Sitting.session g.B.Attending.accounts c.loop-auditor.place (g.A.Auditor.account c.in-Some.auditor) v c.requires.room
    (subst (λ n. slice_get g.B.Attending.accounts n ≡ Some (g.A.Auditor.account c.in-Some.auditor)) here
    (next_own g.A.Auditor.account c.args.auditors.items yielded c.loop-auditor.auditor-iterator.rest.items c.next.new.self.rest.items
    c.in-Some.auditor g.B.Attending.accounts was.all c.in-Some.ensures.steps.0 c.requires.accounts)) own

pub loop-auditor-preserved : goal.loop-auditor-preserved
loop-auditor-preserved g c =
    let was = c.loop-auditor.invariant in
    let f = g.A.Auditor.account in
    let yielded = c.loop-auditor.yielded in
    let auditor = c.in-Some.auditor in
    let row = c.loop-auditor.row.items in
    let so_far = was.place in
    let same_row = was.len in
    let many = length-append yielded (auditor ∷ []) in
    let shorter = ap length c.in-Some.ensures.steps.0 in
    let room = was.space in
    let taken_one = taken c.args.auditors.items yielded c.loop-auditor.auditor-iterator.rest.items c.next.new.self.rest.items
    auditor was.all c.in-Some.ensures.steps.0 in
    elim c.if-place-len.branch [
      | then-place-len w ↦
          let v = w.index_mut.result.now in
          let here : c.loop-auditor.place < vec_len c.loop-auditor.row = search rules in
          let within : c.loop-auditor.place < length row = search rules in
          let at = get_of row c.loop-auditor.place v within ∙ ap Some (sym w.index_mut.ensures.value) in
          let beyond_len : vec_len c.if-place-len.beyond ≡ vec_len c.loop-auditor.beyond = λ i. vec_len (w.beyond-is i) in
          let beyond_room : vec_capacity c.if-place-len.beyond ≡ vec_capacity c.loop-auditor.beyond = λ i. vec_capacity (w.beyond-is i) in
          record {
            all = taken_one;
            place = omega (arith, so_far, many);
            each = attended_more f yielded auditor c.loop-auditor.place row c.if-place-len.row.items v so_far at
                ((λ i. (w.row-is i).items) ∙ ap (slice_set row c.loop-auditor.place) w.attend.ensures) was.each;
            len = (λ i. vec_len (w.row-is i)) ∙ same_row;
            beyond = (λ i. map f (w.beyond-is i).items)
                ∙ within_still f (vec_len c.args.row.now) yielded auditor (map f c.loop-auditor.beyond.items)
                (omega (arith, here, same_row, so_far)) was.beyond;
            space = omega (arith, beyond_len, beyond_room, room, shorter);
          }
      | else-place-len w ↦
          let here : vec_len c.loop-auditor.row ≤ c.loop-auditor.place = search rules in
          let most : length row ≤ c.loop-auditor.place = search rules in
          let put_len = w.put.ensures.len in
          let put_room = w.put.ensures.capacity in
          let beyond_len : vec_len c.if-place-len.beyond ≡ vec_len w.put.new.list = λ i. vec_len (w.beyond-is i) in
          let beyond_room : vec_capacity c.if-place-len.beyond ≡ vec_capacity w.put.new.list = λ i. vec_capacity (w.beyond-is i) in
          record {
            all = taken_one;
            place = omega (arith, so_far, many);
            each = λ i v at. unattended_more f yielded auditor row (omega (arith, most, so_far)) was.each i v
                (sym (λ j. slice_get (w.row-is j).items i) ∙ at);
            len = (λ i. vec_len (w.row-is i)) ∙ same_row;
            beyond = (λ i. map f (w.beyond-is i).items)
                ∙ beyond_more f (vec_len c.args.row.now) yielded c.loop-auditor.beyond.items w.put.new.list.items auditor
                (omega (arith, here, same_row, so_far)) w.put.ensures.items was.beyond;
            space = omega (arith, beyond_len, beyond_room, put_len, put_room, room, shorter);
          }
    ]
