-- Acknowledge, Look and Append keep the rule.
use Rattle.std.proofs.Common.{◌≡◌, ◌≢◌, ◌⊎◌, inl, inr, ℕ, ◌+◌, Bool, true, false, not, ◌&&◌, ◌||◌, List, [], ◌∷◌, length, zero, suc, ◌≤◌, slice_get, Some, set, refl, sym, ap, ◌∙◌, subst, slice_index, arith, ne_eqb, eq-eqb}
use Rattle.std.specs.Prelude.{◌==◌}
use prog.Atomic.{either}
use mathlib.Core.Logic.{dite}
use native.Mathlib.Decide.{ℕ_discrete}
use mathlib.Core.Option.{some}
use lib.ListN.{get_elem?}
use Rattle.atomic_table.specs.Table.{State, keeps}
use Rattle.mx_core.specs.Acknowledging.{HasLeft, after_look, after_acknowledge}
use Rattle.mx_core.specs.Append.{with_changes, after_append}
use Rattle.mx_core.specs.Notions.{with_process}
use Rattle.mx_core.specs.Pages.{page_of, gives, covered_anew}
use Rattle.mx_core.specs.Put.{put}
use Rattle.mx_core.specs.World.{Process, World}
use Rattle.mx_core.specs.declared.changes.Change.{Change}
use Rattle.mx_core.specs.declared.changes.Run.{Run}
use Rattle.mx_core.proofs.AppendLaw.{append_law}
use Rattle.mx_core.proofs.ProcessLaws.{look_law, acknowledge_law}
use Rattle.mx_core.proofs.Puts.{put_all, pick_all}
use Rattle.mx_rule.specs.Acknowledging.{MayAcknowledge, has_left, acknowledged_view, looked_view, noticed_view, AcknowledgeAllowed}
use Rattle.mx_rule.specs.Appending.{MayAppend, appended_view, AppendAllowed}
use Rattle.mx_rule.specs.Layout.{Layout, content}
use Rattle.mx_rule.specs.Parts.{Answered, CellAt, ConnectWord, Count, DescriptorAt, Flag, Part, number_in}
use Rattle.mx_rule.specs.Rule.{AreMarked, Holds}
use Rattle.mx_rule.specs.Shown.{View, Super, SuperView, EntryView, Office, office, office_of, numbers_of, reported_of}
use Rattle.mx_rule.proofs.Words.{set_words, load_words, all_words}
use Rattle.mx_rule.proofs.Moves.{put_map}
use Rattle.mx_rule.proofs.Fronts.{no_marks}
use Rattle.mx_rule.proofs.OfficeSteps.{office_step, office_moves}

same_put : {A : Type 0} (f : ℕ → A) (p : ℕ) → put f p (f p) ≡ f
same_put f p = λ i q. put_all (λ j x. x ≡ f j) f p (f p) refl (λ j n. refl) q i

-- the supervisor's part of a process is replaced
part_put : (w : World) (p : ℕ) (o : Process) → office (with_process w p o) ≡ (record (office w) {
  connect = put (λ q. (w.process q).connect) p o.connect;
  look = put (λ q. (w.process q).look) p o.look;
  acknowledged = put (λ q. (w.process q).acknowledged) p o.acknowledged;
})
part_put w p o =
    let a = put_map (λ (x : Process). x.connect) w.process p o in
    let b = put_map (λ (x : Process). x.look) w.process p o in
    let c = put_map (λ (x : Process). x.acknowledged) w.process p o in
    λ i. record (office w) { connect = a i; look = b i; acknowledged = c i }

left_is : (n look : ℕ) → has_left n look ≡ true → (n ≡ 0) ⊎ ((look ≢ 0) × (n ≢ look))
left_is n look e = dite (ℕ_discrete n 0) (λ z. inl z) (λ nz. dite (ℕ_discrete look 0)
    (λ z. absurd (no (n == 0) (look == 0) (n == look) (ne_eqb n 0 nz) (eq-eqb look 0 z) e))
    (λ nl. dite (ℕ_discrete n look) (λ s. absurd (no' (n == 0) (look == 0) (n == look) (ne_eqb n 0 nz)
    (eq-eqb n look s) e)) (λ d. inr (nl, d))))
  where
    no : (a b c : Bool) → a ≡ false → b ≡ true → (a || (not b && not c)) ≡ true → ⊥
    no true b c h k e = cc
    no false true c h k e = cc
    no false false c h k e = cc

    no' : (a b c : Bool) → a ≡ false → c ≡ true → (a || (not b && not c)) ≡ true → ⊥
    no' true b c h k e = cc
    no' false true c h k e = cc
    no' false false true h k e = cc
    no' false false false h k e = cc

here_is : (n look : ℕ) → has_left n look ≡ false → n ≢ 0
here_is n look e z = no (n == 0) _ (eq-eqb n 0 z) e
  where
    no : (a b : Bool) → a ≡ true → (a || b) ≡ false → ⊥
    no true b h e = cc
    no false b h e = cc

acknowledging : ℕ → Office → Office
acknowledging p x = record x { acknowledged = put x.acknowledged p true }

looking : ℕ → ℕ → Office → Office
looking p n x = record x { look = put x.look p n }

module _ {S : Type 0} (y : Layout) (s : State S (View S)) (r : Holds y s) (id : ℕ) (v : SuperView S) (p : ℕ)
    (at : get_elem? s.views id ≡ some (Super v)) (m : MayAcknowledge (office r.world) p) where
  abbrev n : ℕ
  n = slice_index s.words (number_in y (Flag p))

  abbrev After : SuperView S → Type 0
  After v' = Holds y (record {
    words = set s.words (number_in y (Flag p)) n;
    homes = s.homes;
    views = set s.views id
        (Super v');
  })

  flag_is : n ≡ (r.world.process p).flag
  flag_is = r.words.each (Flag p) (m.low, m.high)

  tie : office r.world ≡ office_of v
  tie = (r.views id (Super v) at).1

  acknowledges : HasLeft (r.world.process p) → After (acknowledged_view p v)
  unfolding acknowledging
  acknowledges left =
      let w = r.world in
      let o' : Process = record (w.process p) { acknowledged = true } in
      office_moves y s r id v (acknowledged_view p v) (after_acknowledge w p) [] _ at
      (office_step w p o' refl (λ u h. record { told = h.told; rest = h.rest }))
      (refl, refl, refl, refl, refl, refl)
      (no_marks {S = S} w)
      (acknowledge_law w p r.good
      (record {
        range = record { low = m.low; high = m.high };
        pending = m.pending;
        connected = m.connected;
        left = left;
      }))
      (part_put w p o' ∙ (λ i. record (office w) {
        connect = same_put (λ q.
            (w.process q).connect) p i;
        look = same_put (λ q. (w.process q).look) p i;
        acknowledged = put
            (λ q. (w.process q).acknowledged) p true;
      })
      ∙ ap (acknowledging p) tie)
      r.plain
      (load_words y w.processes w.numbers (content w) (content (after_acknowledge w p)) s.words
      (number_in y (Flag p)) r.words (all_words y w p o' refl refl))

  looks : (r.world.process p).flag ≢ 0 → After (looked_view p n v)
  unfolding looking
  looks inside =
      let w = r.world in
      let o' : Process = record (w.process p) { look = (w.process p).flag } in
      office_moves y s r id v (looked_view p n v) (after_look w p) [] _ at
      (office_step w p o' refl (λ u h. record { told = h.told; rest = h.rest }))
      (refl, refl, refl, refl, refl, refl)
      (no_marks {S = S} w)
      (look_law w p r.good (record {
        range = record { low = m.low; high = m.high };
        pending = m.pending;
        connected = m.connected;
        inside = inside;
      }))
      (part_put w p o' ∙ (λ i. record (office w) {
        connect = same_put (λ q. (w.process q).connect) p i;
        look = put
            (λ q. (w.process q).look) p (sym flag_is i);
        acknowledged = same_put (λ q. (w.process q).acknowledged) p i;
      })
      ∙ ap (looking p n) tie)
      r.plain
      (load_words y w.processes w.numbers (content w) (content (after_look w p)) s.words
      (number_in y (Flag p)) r.words (all_words y w p o' refl refl))

  notices : After (noticed_view p n v)
  notices =
      let look_is : (r.world.process p).look ≡ numbers_of 0 v.looks p = ap (λ (x : Office). x.look p) tie in
      pick_all After (has_left n (numbers_of 0 v.looks p)) (acknowledged_view p v) (looked_view p n v)
      (λ e. acknowledges (subst (λ (z : ℕ × ℕ). (z.0 ≡ 0) ⊎ ((z.1 ≢ 0) × (z.0 ≢ z.1)))
      (λ i. (flag_is i, sym look_is i)) (left_is n (numbers_of 0 v.looks p) e)))
      (λ e. looks (λ z. here_is n (numbers_of 0 v.looks p) e (flag_is ∙ z)))

pub acknowledge_allowed : (S : Type 0) → AcknowledgeAllowed S
acknowledge_allowed S y v p may slots id s r len at lt =
    let k = r.views id (Super v) at in
    let n = slice_index s.words (number_in y (Flag p)) in (
      Super (noticed_view p n v),
      keeps,
      tt,
      notices y s r id v p at (subst (λ (x : Office). MayAcknowledge x p) (sym k.1) may),
      refl,
    )

but_count : (y : Layout) (w : World) (p : ℕ) (changes : List Change) (given : List Run) (z : Part) → z ≢ Count
    → content (after_append w p changes given) z ≡ content w z
but_count y w p changes given Count ne = absurd (ne refl)
but_count y w p changes given Answered ne = refl
but_count y w p changes given (Flag q) ne = refl
but_count y w p changes given (ConnectWord q) ne = refl
but_count y w p changes given (DescriptorAt q m) ne = refl
but_count y w p changes given (CellAt c) ne = refl

abbrev pub appended : ℕ → List Change → List Run → Office → Office
appended p changes given x = record x {
  length = x.length + 1;
  table = put x.table (x.length + 1) (with_changes changes (x.table x.length));
  entry = put x.entry (x.length + 1) (record { process = p; mark = x.reported p });
  given = put x.given (x.length + 1) (gives given);
  ready = λ page. gives given page || x.ready page;
  clean = λ cell. x.clean cell && not (covered_anew changes (page_of cell));
}

-- what was expected is found, and replaced
exchanged : (n old new : ℕ) → n ≡ old → either (n == old) new n ≡ new
exchanged n old new e = ap (λ (b : Bool). either b new n) (eq-eqb n old e)

one_mark : {S : Type 0} (w : World) (new : EntryView S) → new.mark ≤ length (w.trace new.process)
    → AreMarked w (new ∷ [])
one_mark {S = S} w new le zero e at = subst (λ (x : EntryView S). x.mark ≤ length (w.trace x.process)) (is new e at) le
  where
    is : (a b : EntryView S) → Some a ≡ Some b → a ≡ b
    is a b e = cc
one_mark {S = S} w new le (suc i) e at = absurd (none i e at)
  where
    none : (i : ℕ) (e : EntryView S) → slice_get {X = EntryView S} [] i ≡ Some e → ⊥
    none i e at = cc

pub append_allowed : (S : Type 0) → AppendAllowed S
append_allowed S y v p changes given entry may slots id s r len at lt =
    let w = r.world in
    let k = r.views id (Super v) at in
    let m : MayAppend (office w) p changes given =
    subst (λ (x : Office). MayAppend x p changes given) (sym k.1) may in
    let found : slice_index s.words (number_in y Count) ≡ v.length =
    r.words.each Count tt ∙ ap (λ (x : Office). x.length) k.1 in
    let new : EntryView S = record {
      before = v.length;
      process = p;
      mark = reported_of v.reported p;
      changes = changes;
      given = given;
      entry = entry;
    } in
    let marks : AreMarked w (new ∷ []) = one_mark w new (subst (λ (x : Office). x.reported p ≤ length (w.trace p)) k.1
    (r.good.shape.reported p)) in (
      Super (appended_view p changes given entry v),
      keeps,
      tt,
      office_moves y s r id v (appended_view p changes given entry v) (after_append w p changes given) (new ∷ []) _ at
          (record {
            processes = refl;
            start = refl;
            passes = λ q u h. h;
            longer = λ q. omega arith;
            higher = λ q. omega arith;
            note = refl;
            rising = λ q n. omega arith;
          })
          (refl, refl, refl, refl, refl, refl)
          marks
          (append_law w p changes given r.good (record {
            range = record {
              process = record { low = m.low; high = m.high };
              each = λ i a e. let g =
                  m.each i a e in record {
                    pair = record { process = record { low = g.0; high = g.1 }; number = g.2 };
                    desc = g.3;
                  };
              pair_once = m.pair_once;
              pages = m.pages;
              page_once = m.page_once;
            };
            limit = m.limit;
            rest = m.rest;
            clear = m.clear;
            covered = m.covered;
          }))
          (ap (appended p changes given) k.1)
          r.plain
          (set_words y w.processes w.numbers (content w)
          (content (after_append w p changes given)) s.words Count _ r.layout tt r.words
          (exchanged _ v.length (v.length + 1) found ∙ ap (λ (x : Office). x.length + 1) (sym k.1))
          (but_count y w p changes given)),
      (found, refl),
    )
