use Rattle.std.proofs.Common.{◌∙◌, ℕ, ap, subst}
use Rattle.mx_rule.specs.Dealing.{opening_view}
use Rattle.mx_rule.specs.Openings.{ArePlaced, MayOpen}
use Rattle.mx_rule.specs.Seats.{super_of}
use Rattle.mx_rule.specs.declared.layout.Layout.{Layout}
use Rattle.mx_closing.proofs.Openings.{begins, listed, still_keeps}
use Rattle.mx_closing.proofs.preparing.prepare.Goals as goal

pub returns : goal.returns
returns c =
    let x = c.args.session.now in
    let opened = c.in_ok-supervisor.ensures in
    let journal = c.in_ok-supervisor.supervisor.journal in
    let key = c.in_ok-key.key in
    let of_key = c.in_ok-key.ensures in
    let of_words = c.in_ok-words.ensures in
    let v = super_of c.in_ok-words.seat.seat.me.0 in record {
      opened = opened;
      slots = of_words.slots;
      layout = ap (λ k. k.layout) of_words.key ∙ of_key.layout;
      place = of_words.place;
      laid = of_words.layout ∙ of_key.layout;
      opening = begins key.layout.processes key.layout.numbers key.start _ key.base v of_words.view of_key.start;
      view = of_words.view ∙ (λ i. opening_view (of_key.layout i).processes (of_key.layout i).numbers (of_key.start i) key.base);
      listed = listed key.layout.processes key.layout.numbers key.start key.base v of_words.view;
      placed = subst (λ (y : Layout). ArePlaced y key.base) of_key.layout of_key.may.each;
      may = subst (λ (z : Layout × ℕ). MayOpen z.0 z.1 key.base) (λ i. (of_key.layout i, of_key.start i)) of_key.may;
      keeps = λ next. still_keeps x journal key.layout.processes key.layout.numbers key.start key.base v of_words.view
          next (of_key.keeps opened.only next);
    }
