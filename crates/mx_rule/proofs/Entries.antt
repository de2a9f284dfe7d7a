-- Enter, LoadConnect and Leave keep the rule.
use Rattle.std.proofs.Common.{◌≡◌, ℕ, refl, sym, ap, ◌∙◌, subst, slice_index, arith}
use Rattle.atomic_table.specs.Table.{keeps}
use Rattle.mx_core.specs.Entering.{next_turn, entered, after_enter, connect_loaded, after_load_connect, left, after_leave}
use Rattle.mx_core.specs.World.{Process}
use Rattle.mx_core.proofs.ProcessLaws.{enter_law, load_connect_law, leave_law}
use Rattle.mx_core.proofs.Puts.{put_here}
use Rattle.mx_rule.specs.Entering.{entered_view, EnterAllowed, connected_view, LoadConnectAllowed, left_view, LeaveAllowed}
use Rattle.mx_rule.specs.Layout.{content}
use Rattle.mx_rule.specs.Parts.{ConnectWord, Flag, number_in}
use Rattle.mx_rule.specs.Rule.{IsPassOf}
use Rattle.mx_rule.specs.Shown.{PassView, Pass}
use Rattle.mx_rule.proofs.Words.{set_words, load_words, but_flag, all_words}
use Rattle.mx_rule.proofs.Moves.{plain_step, pass_moves}

pub enter_allowed : (S : Type 0) → EnterAllowed S
enter_allowed S y v outside slots id s r len at lt =
    let w = r.world in
    let p = v.process in
    let k = r.views id (Pass v) at in
    let o' = entered (w.process p) (next_turn (w.process p).turn) in (
      Pass (entered_view v),
      keeps,
      tt,
      pass_moves y s r id v (entered_view v) (after_enter w p) _ at (refl, refl, refl, refl)
          (plain_step w p o' (record { connect = refl; look = refl; acknowledged = refl; floor = omega arith }))
          (enter_law w p r.good (record { range = k.1; outside = ap (λ (x : PassView S). x.stage) k.2.rest ∙ outside }))
          (subst (λ (o : Process). IsPassOf o (w.trace p) (entered_view v)) (sym (put_here w.process p o'))
          (record { told = k.2.told; rest = ap entered_view k.2.rest }))
          r.plain
          (set_words y w.processes w.numbers (content w) (content (after_enter w p)) s.words (Flag p)
          (next_turn v.turn) r.layout (k.1.low, k.1.high) r.words
          (ap (λ (x : PassView S). next_turn x.turn) (sym k.2.rest)
          ∙ sym (ap (λ (o : Process). o.flag) (put_here w.process p o'))) (but_flag y w p o' refl)),
      refl,
    )

pub leave_allowed : (S : Type 0) → LeaveAllowed S
leave_allowed S y v inside slots id s r len at lt =
    let w = r.world in
    let p = v.process in
    let k = r.views id (Pass v) at in
    let o' = left (w.process p) in (
      Pass (left_view v),
      keeps,
      tt,
      pass_moves y s r id v (left_view v) (after_leave w p) _ at (refl, refl, refl, refl)
          (plain_step w p o' (record { connect = refl; look = refl; acknowledged = refl; floor = omega arith }))
          (leave_law w p r.good (record {
            range = k.1;
            inside = λ e. inside
                (sym (ap (λ (x : PassView S). x.stage) k.2.rest) ∙ e);
          }))
          (subst (λ (o : Process). IsPassOf o (w.trace p) (left_view v)) (sym (put_here w.process p o'))
          (record { told = k.2.told; rest = ap left_view k.2.rest }))
          r.plain
          (set_words y w.processes w.numbers (content w) (content (after_leave w p)) s.words (Flag p) 0 r.layout
          (k.1.low, k.1.high) r.words
          (sym (ap (λ (o : Process). o.flag) (put_here w.process p o'))) (but_flag y w p o' refl)),
      refl,
    )

pub load_connect_allowed : (S : Type 0) → LoadConnectAllowed S
load_connect_allowed S y v entering slots id s r len at lt =
    let w = r.world in
    let p = v.process in
    let k = r.views id (Pass v) at in
    let n = slice_index s.words (number_in y (ConnectWord p)) in
    let is : n ≡ (w.process p).connect = r.words.each (ConnectWord p) (k.1.low, k.1.high) in
    let o' = connect_loaded (w.process p) in (
      Pass (connected_view n v),
      keeps,
      tt,
      pass_moves y s r id v (connected_view n v) (after_load_connect w p) _ at (refl, refl, refl, refl)
          (plain_step w p o' (record { connect = refl; look = refl; acknowledged = refl; floor = omega arith }))
          (load_connect_law w p r.good (record {
            range = k.1;
            entering = ap (λ (x : PassView S). x.stage) k.2.rest
                ∙ entering;
          }))
          (subst (λ (o : Process). IsPassOf o (w.trace p) (connected_view n v)) (sym (put_here w.process p o'))
          (record {
            told = k.2.told;
            rest = ap (connected_view (w.process p).connect) k.2.rest
                ∙ ap (λ (m : ℕ). connected_view m v) (sym is);
          }))
          r.plain
          (load_words y w.processes w.numbers (content w) (content (after_load_connect w p)) s.words
          (number_in y (ConnectWord p)) r.words
          (all_words y w p o' refl refl)),
      refl,
    )
