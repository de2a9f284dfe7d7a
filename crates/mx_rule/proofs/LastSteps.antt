-- Settle, Clear and Recall keep the rule.
use Rattle.std.proofs.Common.{[], ◌≡◌, ◌≢◌, inr, ℕ, true, false, set, refl, sym, ap, ◌∙◌, subst, slice_index, Option, Some, arith}
use Rattle.atomic_table.specs.Table.{keeps}
use Rattle.mx_reads.specs.Held.{Held}
use Rattle.mx_core.specs.AssociativeMemory.{recalled}
use Rattle.mx_core.specs.Clearing.{after_clear}
use Rattle.mx_core.specs.Invariant.{Good}
use Rattle.mx_core.specs.Judging.{at_once}
use Rattle.mx_core.specs.Loading.{judged, recalling}
use Rattle.mx_core.specs.Pages.{page_of}
use Rattle.mx_core.specs.Put.{put}
use Rattle.mx_core.specs.Striking.{settled}
use Rattle.mx_core.specs.Words.{zero_cell, number_of}
use Rattle.mx_core.specs.World.{World}
use Rattle.mx_core.specs.declared.words.DescriptorWord.{DescriptorWord}
use Rattle.mx_core.specs.declared.words.DescriptorWord.TheVariants.{Valid, Fault}
use Rattle.mx_core.specs.declared.words.Stage.TheVariants.{Ready}
use Rattle.mx_core.specs.declared.words.Triple.{Triple}
use Rattle.mx_sdw.specs.Admissible.{IsAdmissible}
use Rattle.mx_core.proofs.CellLaws.{clear_law}
use Rattle.mx_core.proofs.HistoryLaws.{settle_law}
use Rattle.mx_core.proofs.JudgingLaws.{recall_law}
use Rattle.mx_core.proofs.Memories.{recalled_in}
use Rattle.mx_core.proofs.Parts.{is_ready}
use Rattle.mx_core.proofs.Puts.{put_all, put_here, put_else}
use Rattle.mx_rule.specs.Loading.{judged_view, RecallAllowed}
use Rattle.mx_rule.specs.Striking.{MaySettle, settled_view, SettleAllowed}
use Rattle.mx_rule.specs.Clearing.{MayClear, cleared_view, ClearAllowed}
use Rattle.mx_rule.specs.Codes.{IsPlain, cell_code, word_code}
use Rattle.mx_rule.specs.Layout.{Layout, ShowsWords, content}
use Rattle.mx_rule.specs.Parts.{Answered, CellAt, ConnectWord, Count, DescriptorAt, Flag, Part, number_in}
use Rattle.mx_rule.specs.Shown.{Super, Pass, PassView, Office, office}
use Rattle.mx_rule.proofs.LoadDescs.{IsReading, judged_reading, judged_same}
use Rattle.mx_rule.proofs.Moves.{pass_moves}
use Rattle.mx_rule.proofs.Fronts.{no_marks}
use Rattle.mx_rule.proofs.OfficeSteps.{pair_rises, office_moves}
use Rattle.mx_rule.proofs.Words.{set_words, load_words, put_pair}

abbrev pub settling : ℕ → ℕ → ℕ → Office → Office
settling p n by x = record x {
  word = put x.word p (put (x.word p) n (Valid by (x.table x.length p n)));
  told = put x.told p (put (x.told p) n by);
}

but_settled : (y : Layout) (w : World) (p n by : ℕ) (z : Part) → z ≢ DescriptorAt p n
    → content (settled w p n (Fault by)) z ≡ content w z
but_settled y w p n by Count ne = refl
but_settled y w p n by Answered ne = refl
but_settled y w p n by (Flag q) ne = refl
but_settled y w p n by (ConnectWord q) ne = refl
but_settled y w p n by (DescriptorAt q m) ne = ap word_code
    (put_pair w.word p n _ q m (λ e e'. ne (λ i. DescriptorAt (e i) (e' i))))
but_settled y w p n by (CellAt c) ne = refl

pub settle_allowed : (S : Type 0) → SettleAllowed S
settle_allowed S y v p n by may slots id s r len at lt =
    let w = r.world in
    let k = r.views id (Super v) at in
    let m : MaySettle (office w) p n by = subst (λ (x : Office). MaySettle x p n by) (sym k.1) may in
    let d : DescriptorWord = Valid by (w.table w.length p n) in
    let w' = settled w p n (Fault by) in (
      Super (settled_view p n by v),
      keeps,
      tt,
      office_moves y s r id v (settled_view p n by v) w' [] _ at
          (record {
            processes = refl;
            start = refl;
            passes = λ q u h. h;
            longer = λ q. omega arith;
            higher = λ q. omega arith;
            note = refl;
            rising = pair_rises w.word p n d (let a = ap number_of m.fault in omega arith);
          })
          (refl, refl, refl, refl, refl, refl)
          (no_marks {S = S} w)
          (subst (λ (z : DescriptorWord). Good (settled w p n z)) m.fault
          (settle_law w p n r.good
          (record {
            range = record { process = record { low = m.low; high = m.high }; number = m.number };
            rest = m.rest;
            fault = record { by = by; at = m.fault };
          })))
          (ap (settling p n by) k.1)
          r.plain
          (set_words y w.processes w.numbers (content w) (content w') s.words (DescriptorAt p n) _ r.layout
          (m.low, m.high, m.number) r.words
          (ap (λ (x : Office). word_code (Valid by (x.table x.length p n))) (sym k.1)
          ∙ sym (ap word_code (ap (λ (f : ℕ → _). f n) (put_here w.word p (put (w.word p) n d))
          ∙ put_here (w.word p) n d)))
          (but_settled y w p n by)),
      refl,
    )

abbrev pub clearing : ℕ → Office → Office
clearing c x = record x { clean = put x.clean c true; ready = put x.ready (page_of c) false }

but_cleared : (y : Layout) (w : World) (c : ℕ) (z : Part) → z ≢ CellAt c → content (after_clear w c) z ≡ content w z
but_cleared y w c Count ne = refl
but_cleared y w c Answered ne = refl
but_cleared y w c (Flag q) ne = refl
but_cleared y w c (ConnectWord q) ne = refl
but_cleared y w c (DescriptorAt q m) ne = refl
but_cleared y w c (CellAt d) ne = ap cell_code (put_else w.cell c zero_cell d (λ e. ne (ap CellAt e)))

pub clear_allowed : (S : Type 0) → ClearAllowed S
clear_allowed S y v c may slots id s r len at lt =
    let w = r.world in
    let k = r.views id (Super v) at in
    let m : MayClear (office w) c = subst (λ (x : Office). MayClear x c) (sym k.1) may in (
      Super (cleared_view c v),
      keeps,
      tt,
      office_moves y s r id v (cleared_view c v) (after_clear w c) [] _ at
          (record {
            processes = refl;
            start = refl;
            passes = λ q u h. h;
            longer = λ q. omega arith;
            higher = λ q. omega arith;
            note = refl;
            rising = λ q n. omega arith;
          })
          (refl, refl, refl, refl, refl, refl)
          (no_marks {S = S} w)
          (clear_law w c r.good (record { range = m.range; rest = m.rest; bare = m.bare }))
          (ap (clearing c) k.1)
          (λ d. put_all (λ j (x : Held). IsPlain x) w.cell c zero_cell
          (record { value = omega arith; writer = omega arith; stamp = omega arith }) (λ j n. r.plain j) d)
          (set_words y w.processes w.numbers (content w) (content (after_clear w c)) s.words
          (CellAt c) _ r.layout m.range r.words
          (sym (ap cell_code (put_here w.cell c zero_cell))) (but_cleared y w c)),
      refl,
    )

-- what the memory of a ready process has is a descriptor of the table
recalled_admissible : (w : World) (p n : ℕ) (u : Triple) → Good w → (w.process p).stage ≡ Ready
    → recalled n (w.process p).memory ≡ Some u → IsAdmissible u.desc
recalled_admissible w p n u g ready has =
    let o = w.process p in
    let t = (g.access.processes p).triples (inr (is_ready o.stage ready)) u (inr (recalled_in n o.memory u has)) in
    subst IsAdmissible (t.stands o.floor t.high (g.access.processes p).floor_high)
    (g.shape.admissible o.floor p u.segno)

pub recall_allowed : (S : Type 0) → RecallAllowed S
recall_allowed S y v n a u ready has slots id s r len at lt =
    let w = r.world in
    let p = v.process in
    let k = r.views id (Pass v) at in
    let has' : recalled n (w.process p).memory ≡ Some u = ap (λ (z : PassView S). recalled n z.memory) k.2.rest ∙ has in
    let w' = judged w p (w.process p) u a in
    let v' = judged_view (at_once u.desc a) u a v in
    let reading : IsReading y w w' p v' = judged_reading y w p (λ m. m) u a (at_once u.desc a) v k.2 in (
      Pass v',
      keeps,
      tt,
      pass_moves y s r id v v' w' _ at (judged_same (at_once u.desc a) u a v) reading.step
          (subst (λ (z : Option Triple). Good (recalling w p a z)) has' (recall_law w p n a r.good (record {
            range = k.1;
            ready = ap (λ (z : PassView S). z.stage) k.2.rest ∙ ready;
            recall = record { triple = u; at = has' };
          })))
          reading.own
          (subst (λ (f : ℕ → _). (c : ℕ) → IsPlain (f c)) (sym reading.cells) r.plain)
          (subst (λ (z : Office). ShowsWords y z.processes z.numbers (content w')
          (set s.words (number_in y (Flag p)) (slice_index s.words (number_in y (Flag p)))))
          (sym reading.step.office)
          (load_words y w.processes w.numbers (content w) (content w') s.words
          (number_in y (Flag p)) r.words reading.words)),
      (refl, recalled_admissible w p n u r.good (ap (λ (z : PassView S). z.stage) k.2.rest ∙ ready) has'),
    )
