use Rattle.std.proofs.Common.{ℕ, ◌+◌, ◌∷◌, [], List, length, length-append, sym, ap, ◌∙◌, subst, arith}
use Rattle.mx_rule.specs.Dealing.{dealing_view}
use Rattle.mx_rule.specs.Dealt.{AreDealt, IsFresh}
use Rattle.mx_rule.specs.Seats.{super_of}
use Rattle.mx_rule.specs.Shown.{fresh_view}
use Rattle.mx_rule.specs.declared.passes.PassSeat.{PassSeat}
use Rattle.mx_rule.proofs.Dealt.{one_more_dealt}
use Rattle.mx_rule.proofs.opening.deal_all.Goals as goal

pub loop-dealt-preserved : goal.loop-dealt-preserved
loop-dealt-preserved g c =
    let v = super_of c.args.chief.now.seat.me.0 in
    let table = c.args.chief.now.seat.table_id in
    let y = c.args.chief.now.layout in
    let dealt = c.loop-dealt.dealt in
    let was = c.loop-dealt.invariant in
    let seat = c.deal-seat.result in
    let fresh : IsFresh table y v.start (dealt + 1) seat = record {
      view = c.deal-seat.ensures.pass ∙ (λ i. fresh_view (was.0 i).start (was.0 i).next);
      place = c.deal-seat.ensures.pass_place ∙ was.3;
      layout = c.deal-seat.ensures.pass_layout ∙ was.4;
    } in (
      c.deal-seat.ensures.view ∙ ap dealing_view was.0,
      subst (AreDealt table y v.start 1) (sym c.in_ok-push.ensures.ok)
          (one_more_dealt table y v.start 1 (dealt + 1) c.loop-dealt.seats seat was.1
          (let a = was.2 in omega arith) fresh),
      ap (λ (l : List (PassSeat g.row.E.Denot)). length l) c.in_ok-push.ensures.ok
          ∙ length-append c.loop-dealt.seats (seat ∷ []) ∙ ap (λ (k : ℕ). k + 1) was.2,
      c.deal-seat.ensures.place ∙ was.3,
      c.deal-seat.ensures.layout ∙ was.4,
    )
