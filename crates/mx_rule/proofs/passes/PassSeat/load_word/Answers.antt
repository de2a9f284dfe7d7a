use Rattle.std.proofs.Common.{◌≡◌, ℕ, [], ap, sym, ◌∙◌, subst, arith}
use Rattle.mx_core.specs.declared.words.DescriptorWord.{DescriptorWord}
use Rattle.mx_rule.specs.Allowing.{PassTells}
use Rattle.mx_rule.specs.Codes.{IsWordCode, word_said}
use Rattle.mx_rule.specs.Holding.{held_at, cell_on}
use Rattle.mx_rule.specs.Layout.{Layout}
use Rattle.mx_rule.specs.Loading.{IsNews, loaded_view}
use Rattle.mx_rule.specs.Parts.{DescriptorAt, number_in}
use Rattle.mx_rule.specs.Seats.{pass_of}
use Rattle.mx_rule.specs.Shown.{Pass, PassView}
use Rattle.mx_rule.proofs.Carries.{same_count, pass_tells}
use Rattle.mx_rule.proofs.Holdings.{loaded_holds, loaded_unmoved}
use Rattle.mx_rule.proofs.LoadDescs.{load_desc_allowed}
use Rattle.mx_rule.proofs.PartLaws.{part_within}
use Rattle.mx_rule.proofs.passes.PassSeat.load_word.Goals as goal

pub load-found-requires : goal.load-found-requires
load-found-requires g c =
    let seat = c.args.self.now in
    let y = c.args.shared.now.key.layout in
    let v = pass_of seat.seat.me.0 in
    let n = g.J.Asking.on.segno in
    let a = g.J.Asking.asked in
    let is = c.requires.asking in
    let segno = is.1 in
    let small = c.requires.number in
    let same = ap (λ (z : Layout). z.numbers) c.requires.layout in
    let inside = part_within seat.layout (DescriptorAt seat.process c.args.segno) (seat.low, seat.high, small) in
    let wide = seat.wide in
    let words = same_count _ _ c.requires.fits in
    let place = c.descriptor-word.ensures in (
      c.requires.fits,
      omega arith,
      pass_tells g.row.E.Denot y v (λ m. loaded_view g.J.Asking.numbers n a (word_said m) v)
          (λ m. IsWordCode m × IsNews v n (word_said m))
          (DescriptorAt v.process n) _ _
          (subst (λ (k : ℕ). PassTells g.row.E.Denot y v (DescriptorAt v.process n)
          (λ m. loaded_view k n a (word_said m) v) (λ m. IsWordCode m × IsNews v n (word_said m))) (same ∙ sym is.0)
          (load_desc_allowed g.row.E.Denot y v n a c.requires.ready (omega arith)))
          seat.posed
          ((λ i. number_in (c.requires.layout i) (DescriptorAt (seat.process_is i) (segno i))) ∙ sym place) _ _,
    )

pub invariant_of-self : goal.invariant_of-self
invariant_of-self g c =
    let seat = c.args.self.now in
    let v = pass_of seat.seat.me.0 in
    let word : DescriptorWord = word_said c.load-found.result in
    let x = loaded_view g.J.Asking.numbers g.J.Asking.on.segno g.J.Asking.asked word v in
    let is = c.load-found.ensures.2.0 in
    let me : pass_of c.load-found.new.seat.me.0 ≡ x = ap (λ m. pass_of m.0) is in
    let u = loaded_unmoved g.J.Asking.numbers g.J.Asking.on.segno g.J.Asking.asked word v in record {
      posed = is ∙ sym (ap (λ (z : PassView g.row.E.Denot). (Pass z, [])) me);
      process_is = ap (λ (z : PassView g.row.E.Denot). z.process) me ∙ u.process ∙ seat.process_is;
      turn_is = ap (λ (z : PassView g.row.E.Denot). z.turn) me ∙ u.turn ∙ seat.turn_is;
      cleared_is = ap (λ (z : PassView g.row.E.Denot). z.cleared) me ∙ u.cleared ∙ seat.cleared_is;
      start_is = ap (λ (z : PassView g.row.E.Denot). z.start) me ∙ u.start ∙ seat.start_is;
      floor_is = ap (λ (z : PassView g.row.E.Denot). z.floor) me ∙ u.floor ∙ seat.floor_is;
      cell_is = ap (λ (z : PassView g.row.E.Denot). held_at z.basis z.hold) me
          ∙ loaded_holds g.J.Asking.numbers g.J.Asking.on.segno g.J.Asking.asked word v
          ∙ (λ i. cell_on (sym c.said-view.ensures.word i) (seat.floor_is i) (c.requires.asking.2 i))
          ∙ sym c.found_cell-self.ensures;
      wide = (let wide = seat.wide in let words = same_count _ _ c.load-found.ensures.0 in omega arith);
      low = seat.low;
      high = seat.high;
      few = seat.few;
      begun = seat.begun;
      limit = seat.limit;
    }
