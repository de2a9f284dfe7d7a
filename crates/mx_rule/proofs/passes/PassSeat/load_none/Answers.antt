use Rattle.std.proofs.Common.{◌≡◌, ℕ, [], ap, sym, ◌∙◌, subst, arith}
use Rattle.mx_sdw.specs.Descriptors.{unknown_desc}
use Rattle.mx_core.specs.declared.words.DescriptorWord.{DescriptorWord}
use Rattle.mx_core.specs.declared.words.DescriptorWord.TheVariants.{Valid}
use Rattle.mx_rule.specs.Allowing.{PassReads}
use Rattle.mx_rule.specs.Holding.{held_at, cell_on}
use Rattle.mx_rule.specs.Layout.{Layout}
use Rattle.mx_rule.specs.Loading.{loaded_view}
use Rattle.mx_rule.specs.Parts.{Flag, number_in}
use Rattle.mx_rule.specs.Seats.{pass_of}
use Rattle.mx_rule.specs.Shown.{Pass, PassView}
use Rattle.mx_rule.proofs.Carries.{same_count, pass_reads}
use Rattle.mx_rule.proofs.Holdings.{loaded_holds, loaded_unmoved}
use Rattle.mx_rule.proofs.LoadDescs.{load_unknown_allowed}
use Rattle.mx_rule.proofs.PartLaws.{part_within}
use Rattle.mx_rule.proofs.passes.PassSeat.load_none.Goals as goal

pub load-requires : goal.load-requires
load-requires g c =
    let seat = c.args.self.now in
    let y = c.args.shared.now.key.layout in
    let v = pass_of seat.seat.me.0 in
    let n = g.J.Asking.on.segno in
    let a = g.J.Asking.asked in
    let is = c.requires.asking in
    let segno = is.1 in
    let past = c.requires.past in
    let same = ap (λ (z : Layout). z.numbers) c.requires.layout in
    let inside = part_within seat.layout (Flag seat.process) (seat.low, seat.high) in
    let wide = seat.wide in
    let words = same_count _ _ c.requires.fits in
    let place = c.flag-word.ensures in (
      c.requires.fits,
      omega arith,
      pass_reads g.row.E.Denot y v (λ m. loaded_view g.J.Asking.numbers n a (Valid v.start unknown_desc) v)
          (Flag v.process) _ _
          (subst (λ (k : ℕ). PassReads g.row.E.Denot y v (Flag v.process)
          (λ m. loaded_view k n a (Valid v.start unknown_desc) v)) (same ∙ sym is.0)
          (load_unknown_allowed g.row.E.Denot y v n a c.requires.ready (omega arith)))
          seat.posed
          ((λ i. number_in (c.requires.layout i) (Flag (seat.process_is i))) ∙ sym place) _ _,
    )

pub invariant_of-self : goal.invariant_of-self
invariant_of-self g c =
    let seat = c.args.self.now in
    let v = pass_of seat.seat.me.0 in
    let word : DescriptorWord = Valid v.start unknown_desc in
    let x = loaded_view g.J.Asking.numbers g.J.Asking.on.segno g.J.Asking.asked word v in
    let is = c.load.ensures.2 in
    let me : pass_of c.load.new.seat.me.0 ≡ x = ap (λ m. pass_of m.0) is in
    let u = loaded_unmoved g.J.Asking.numbers g.J.Asking.on.segno g.J.Asking.asked word v in record {
      posed = is ∙ sym (ap (λ (z : PassView g.row.E.Denot). (Pass z, [])) me);
      process_is = ap (λ (z : PassView g.row.E.Denot). z.process) me ∙ u.process ∙ seat.process_is;
      turn_is = ap (λ (z : PassView g.row.E.Denot). z.turn) me ∙ u.turn ∙ seat.turn_is;
      cleared_is = ap (λ (z : PassView g.row.E.Denot). z.cleared) me ∙ u.cleared ∙ seat.cleared_is;
      start_is = ap (λ (z : PassView g.row.E.Denot). z.start) me ∙ u.start ∙ seat.start_is;
      floor_is = ap (λ (z : PassView g.row.E.Denot). z.floor) me ∙ u.floor ∙ seat.floor_is;
      cell_is = ap (λ (z : PassView g.row.E.Denot). held_at z.basis z.hold) me
          ∙ loaded_holds g.J.Asking.numbers g.J.Asking.on.segno g.J.Asking.asked word v
          ∙ (λ i. cell_on (ap (λ (k : ℕ). Valid k unknown_desc) seat.start_is i) (seat.floor_is i)
          (c.requires.asking.2 i))
          ∙ sym c.found_cell-self.ensures;
      wide = (let wide = seat.wide in let words = same_count _ _ c.load.ensures.0 in omega arith);
      low = seat.low;
      high = seat.high;
      few = seat.few;
      begun = seat.begun;
      limit = seat.limit;
    }
