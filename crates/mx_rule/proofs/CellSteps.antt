-- StoreCell and LoadCell keep the rule.
use Rattle.std.proofs.Common.{◌≡◌, ◌≢◌, ℕ, ◌^◌, ◌<◌, max, true, List, refl, sym, ap, ◌∙◌, subst, slice_index, Option, Some, None, arith}
use Rattle.atomic_table.specs.Table.{keeps}
use Rattle.mx_sdw.specs.Operations.{writes}
use Rattle.mx_reads.specs.Held.{Held}
use Rattle.mx_core.specs.Cells.{cell_read, cell_loaded, cell_written, cell_stored}
use Rattle.mx_core.specs.Invariant.{Good}
use Rattle.mx_core.specs.Judging.{loads}
use Rattle.mx_core.specs.Loading.{element_of}
use Rattle.mx_core.specs.Notions.{IsProcess}
use Rattle.mx_core.specs.Pages.{cell_at}
use Rattle.mx_core.specs.Put.{put}
use Rattle.mx_core.specs.World.{Process, World}
use Rattle.mx_core.specs.declared.elements.Kept.{Kept}
use Rattle.mx_core.specs.declared.elements.Kept.TheVariants.{Judged}
use Rattle.mx_core.specs.declared.elements.Outcome.TheVariants as outcome
use Rattle.mx_core.specs.declared.words.Asked.{Asked}
use Rattle.mx_core.specs.declared.words.Triple.{Triple}
use Rattle.mx_core.proofs.CellLaws.{load_cell_law, store_cell_law}
use Rattle.mx_core.proofs.Puts.{put_here, put_else, put_all}
use Rattle.mx_rule.specs.CellSteps.{stored_view, StoreCellAllowed, read_view, LoadCellAllowed}
use Rattle.mx_rule.specs.Codes.{IsPlain, cell_code, cell_said}
use Rattle.mx_rule.specs.Layout.{Layout, content}
use Rattle.mx_rule.specs.Parts.{Answered, CellAt, ConnectWord, Count, DescriptorAt, Flag, Part, number_in}
use Rattle.mx_rule.proofs.CodeLaws.{cell_back}
use Rattle.mx_rule.specs.Shown.{PassView, Pass}
use Rattle.mx_rule.proofs.Words.{set_words, load_words, all_words}
use Rattle.mx_rule.proofs.Moves.{event_step, pass_moves, own_here}

but_cell : (y : Layout) (w : World) (p : ℕ) (o : Process) (trace : ℕ → List Kept) (c : ℕ) (held : Held) → o.connect
    ≡ (w.process p).connect → o.flag ≡ (w.process p).flag
    → (z : Part) → z ≢ CellAt c
    → content (record w { process = put w.process p o; trace = trace; cell = put w.cell c held }) z ≡ content w z
but_cell y w p o trace c held same flag Count n = refl
but_cell y w p o trace c held same flag Answered n = refl
but_cell y w p o trace c held same flag (Flag q) n = all_words y w p o same flag (Flag q)
but_cell y w p o trace c held same flag (ConnectWord q) n = all_words y w p o same flag (ConnectWord q)
but_cell y w p o trace c held same flag (DescriptorAt q m) n = refl
but_cell y w p o trace c held same flag (CellAt d) n = ap cell_code (put_else w.cell c held d (λ e. n (ap CellAt e)))

stored_good : (w : World) (p value : ℕ) (u : Triple) (a : Asked) → Good w → IsProcess w p → value < 2 ^ 36
    → (w.process p).basis ≡ Some u → (w.process p).hold ≡ Some a → writes a.op ≡ true
    → Good (cell_written w p u a value)
stored_good w p value u a g is small basis hold op =
    subst (λ (x : Option Triple × Option Asked). Good (cell_stored w p value x.0 x.1)) (λ i. (basis i, hold i))
    (store_cell_law w p value g (record {
      range = is;
      word = small;
      hold = record { on = u; asked = a; basis = basis; hold = hold; operation = op };
    }))

read_good : (w : World) (p : ℕ) (u : Triple) (a : Asked) → Good w → IsProcess w p → (w.process p).basis ≡ Some u
    → (w.process p).hold ≡ Some a → loads a.op ≡ true
    → Good (cell_read w p u a (w.cell (cell_at u.desc a.word)))
read_good w p u a g is basis hold op =
    subst (λ (x : Option Triple × Option Asked). Good (cell_loaded w p x.0 x.1)) (λ i. (basis i, hold i))
    (load_cell_law w p g (record {
      range = is;
      hold = record { on = u; asked = a; basis = basis; hold = hold; operation = op };
    }))

pub store_cell_allowed : (S : Type 0) → StoreCellAllowed S
store_cell_allowed S y v u a value basis hold op small near slots id s r len at lt =
    let w = r.world in
    let p = v.process in
    let k = r.views id (Pass v) at in
    let o' : Process = record (w.process p) { hold = None } in
    let c = cell_at u.desc a.word in
    let event : Kept = Judged (element_of u.segno a (w.process p).floor (outcome.Written value)) a.op u.desc in
    let held : Held = record { value = value; writer = p; stamp = (w.process p).floor } in
    let w' = cell_written w p u a value in
    let step = event_step w p o' event
    (record { connect = refl; look = refl; acknowledged = refl; floor = omega arith }) in
    let floor : (w.process p).floor ≡ v.floor = ap (λ (x : PassView S). x.floor) k.2.rest in (
      Pass (stored_view u a value v),
      keeps,
      tt,
      pass_moves y s r id v (stored_view u a value v) w' _ at (refl, refl, refl, refl)
          (record {
            office = step.office;
            process = step.process;
            trace = step.trace;
            note = step.note;
            longer = step.longer;
            higher = step.higher;
          })
          (stored_good w p value u a r.good k.1 small (ap (λ (x : PassView S). x.basis) k.2.rest ∙ basis)
          (ap (λ (x : PassView S). x.hold) k.2.rest ∙ hold) op)
          (own_here w p o' event (stored_view u a value v)
          (record { told = k.2.told; rest = ap (stored_view u a value) k.2.rest }))
          (λ d. put_all (λ j (x : Held). IsPlain x) w.cell c held
          (record {
            value = small;
            writer = (let a1 = k.1.high in let a2 = r.layout.few in omega arith);
            stamp = (let a1 = (r.good.access.processes p).floor_high in let a2 = r.good.access.answered_low in
                let a3 = r.good.shape.limit in omega arith);
          }) (λ j n. r.plain j) d)
          (set_words y w.processes w.numbers (content w) (content w') s.words (CellAt c) _ r.layout near r.words
          (ap (λ (f : ℕ). cell_code (record { value = value; writer = p; stamp = f })) (sym floor)
          ∙ sym (ap cell_code (put_here w.cell c held)))
          (but_cell y w p o' w'.trace c held refl refl)),
      refl,
    )

pub load_cell_allowed : (S : Type 0) → LoadCellAllowed S
load_cell_allowed S y v u a basis hold op near slots id s r len at lt =
    let w = r.world in
    let p = v.process in
    let k = r.views id (Pass v) at in
    let c = cell_at u.desc a.word in
    let n = slice_index s.words (number_in y (CellAt c)) in
    let held = w.cell c in
    let is : cell_said n ≡ held = ap cell_said (r.words.each (CellAt c) near) ∙ cell_back held (r.plain c) in
    let o' : Process = record (w.process p) { floor = max (w.process p).floor held.stamp; hold = None } in
    let event : Kept = Judged (element_of u.segno a (w.process p).floor
    (outcome.Read held.value held.writer held.stamp)) a.op u.desc in
    let w' = cell_read w p u a held in
    let v' = read_view u a (cell_said n) v in (
      Pass v',
      keeps,
      tt,
      pass_moves y s r id v v' w' _ at (refl, refl, refl, refl)
          (event_step w p o' event (record { connect = refl; look = refl; acknowledged = refl; floor = omega arith }))
          (read_good w p u a r.good k.1 (ap (λ (x : PassView S). x.basis) k.2.rest ∙ basis)
          (ap (λ (x : PassView S). x.hold) k.2.rest ∙ hold) op)
          (own_here w p o' event v'
          (record {
            told = k.2.told;
            rest = ap (read_view u a held) k.2.rest
                ∙ ap (λ (h : Held). read_view u a h v) (sym is);
          }))
          r.plain
          (load_words y w.processes w.numbers (content w) (content w') s.words (number_in y (CellAt c)) r.words
          (all_words y w p o' refl refl)),
      (refl, record { held = held; plain = r.plain c; is = r.words.each (CellAt c) near }),
    )
