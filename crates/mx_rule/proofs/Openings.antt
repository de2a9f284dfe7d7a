-- The opening, and the dealing of the processes' seats.
use Rattle.std.proofs.Common.{◌≡◌, ◌≢◌, ⊎_elim, ℕ, ◌≤◌, List, [], ◌∷◌, length, set, length-set, refl, sym, ap, ◌∙◌, subst, arith, lt_of_not-le, slice_get, Some, zero, suc, ◌<◌}
use mathlib.Core.Option.{some}
use lib.ListN.{get_elem?}
use Rattle.mx_core.specs.Opening.{opening}
use Rattle.mx_core.specs.Put.{put}
use Rattle.mx_core.specs.World.{World}
use Rattle.mx_core.proofs.OpeningLaw.{opening_law}
use Rattle.mx_core.proofs.Puts.{put_here, put_else, put_all}
use Rattle.mx_rule.specs.Dealing.{opening_view, OpeningAllowed, dealing_view, DealAllowed, retired_view, RetireAllowed}
use Rattle.atomic_table.proofs.Lists.{set_else}
use Rattle.mx_rule.specs.Rule.{Seats, IsPassOf, AreRetired, Knows}
use Rattle.mx_rule.specs.Shown.{View, Super, Pass, Noted, Report, Spent, PassView, ReportView, Office, base_of, fresh_view}
use Rattle.mx_rule.specs.Fronts.{IsFront}
use Rattle.mx_rule.proofs.Fronts.{no_marks, front_none, front_same}
use Rattle.mx_rule.proofs.Moves.{view_set}
use Rattle.mx_rule.proofs.NoteSteps.{at_snoc_index}

pub opening_allowed : (S : Type 0) → OpeningAllowed S
opening_allowed S y processes numbers start base words can layout shows =
    let w = opening processes numbers start (base_of base) in
    let seats : Seats S = record { history = []; chief = 0; owner = λ q. 0; noter = λ i. 0 } in
    let v = opening_view processes numbers start base in record {
      world = w;
      seats = seats;
      layout = layout;
      good = opening_law processes numbers start (base_of base) can;
      marks = no_marks {S = S} w;
      plain = λ c. record { value = omega arith; writer = omega arith; stamp = omega arith };
      words = shows;
      views = λ j u e. ⊎_elim (λ t. absurd (none j u t))
          (λ (t : (Super v ≡ u) × (j ≡ 0)). subst (λ (z : ℕ × View S). Knows w seats z.0 z.1)
          (λ i. (sym t.1 i, t.0 i)) (
            refl,
            refl,
            λ q a b. (refl, record { told = refl; rest = refl }),
            λ i x e. absurd (empty i x e),
            λ i x e. absurd (unreported i x e),
            refl,
          ))
          (at_snoc_index [] (Super v) u j e);
    }
  where
    none : (j : ℕ) (u : View S) → get_elem? {A = View S} [] j ≡ some u → ⊥
    none j u e = cc

    unreported : (i : ℕ) (x : ReportView) → slice_get {X = ReportView} [] i ≡ Some x → ⊥
    unreported i x e = cc

    empty : (i : ℕ) (x : PassView S) → slice_get {X = PassView S} [] i ≡ Some x → ⊥
    empty i x e = cc

pub deal_allowed : (S : Type 0) → DealAllowed S
deal_allowed S y v id low high s r at =
    let w = r.world in
    let k = r.views id (Super v) at in
    let seats' : Seats S = record r.seats { owner = put r.seats.owner v.next (length s.views) } in
    let within : v.next ≤ w.processes = subst (λ (x : Office). v.next ≤ x.processes) (sym k.1) high in
    let u = k.2 v.next (omega arith) within in record {
      world = w;
      seats = seats';
      layout = r.layout;
      good = r.good;
      marks = r.marks;
      plain = r.plain;
      words = r.words;
      views = λ j x e. ⊎_elim
          (λ (t : get_elem? (set s.views id (Super (dealing_view v))) j ≡ some x).
          view_set (Knows w seats') s.views id (Super (dealing_view v)) (
            k.0,
            k.1,
            λ q a b. let z = k.2 q (omega arith) b in (
              put_else r.seats.owner v.next (length s.views) q
                  (λ e. omega arith) ∙ z.0,
              z.1,
            ),
            λ i x e. let z = k.3 i x e in (
              put_else r.seats.owner v.next (length s.views) x.process (λ e. let a = z.1 in omega arith)
                  ∙ z.0,
              (let a = z.1 in omega arith),
              z.2,
              z.3,
            ),
            k.4,
            k.5,
          )
          (λ j x n e. still w r.seats v.next (length s.views) (u.0 ∙ k.0) j x (λ c. n (c ∙ sym k.0))
          (r.views j x e)) j x t)
          (λ (t : (Pass (fresh_view v.start v.next) ≡ x)
          × (j ≡ length (set s.views id (Super (dealing_view v))))). subst (Knows w seats' j) t.0 (
            put_here r.seats.owner v.next (length s.views)
                ∙ sym (t.1 ∙ length-set s.views id (Super (dealing_view v))),
            record { low = low; high = within },
            u.1,
            sym (ap (λ (x : Office). x.start) k.1),
            front_none r.seats.history,
            front_same [],
          ))
          (at_snoc_index (set s.views id (Super (dealing_view v))) (Pass (fresh_view v.start v.next)) x j e);
    }
  where
    still : (w : World) (seats : Seats S) (p seat : ℕ) → seats.owner p ≡ seats.chief → (j : ℕ) (x : View S)
        → j ≢ seats.chief
        → Knows w seats j x → Knows w (record seats { owner = put seats.owner p seat }) j x
    still w seats p seat mine j (Super x) n k = absurd (n k.0)
    still w seats p seat mine j (Pass x) n k = (
      put_else seats.owner p seat x.process (λ e. n (sym k.0 ∙ ap seats.owner e ∙ mine)) ∙ k.0,
      k.1,
      k.2,
      k.3,
      k.4,
      k.5,
    )
    still w seats p seat mine j (Noted x) n k = k
    still w seats p seat mine j (Report x) n k = k
    still w seats p seat mine j Spent n k = k

pub retire_allowed : (S : Type 0) → RetireAllowed S
retire_allowed S y v u id other s r at apart at' =
    let w = r.world in
    let k = r.views id (Super v) at in
    let p = u.process in
    let there : get_elem? s.views other ≡ some (Pass u) =
    sym (set_else s.views id other (Super (retired_view u v)) apart) ∙ at' in
    let l = r.views other (Pass u) there in
    let seats' : Seats S = record r.seats { owner = put r.seats.owner p id } in
    let mine : (q : ℕ) → r.seats.owner q ≡ id → put r.seats.owner p id q ≡ id =
    λ q. put_all (λ j (x : ℕ). r.seats.owner j ≡ id → x ≡ id) r.seats.owner p id (λ h. refl) (λ j n h. h) q in
    let dealt : p < v.next = not_le_lt p v.next (λ h. apart (sym l.0 ∙ (k.2 p h l.1.high).0)) in record {
      world = w;
      seats = seats';
      layout = r.layout;
      good = r.good;
      marks = r.marks;
      plain = r.plain;
      words = r.words;
      views = view_set (Knows w seats') (set s.views id (Super (retired_view u v))) other Spent tt
          (λ j x n e. view_set (λ i a. i ≢ other → Knows w seats' i a) s.views id (Super (retired_view u v))
          (λ ne. (
            k.0,
            k.1,
            λ q a b. let z = k.2 q a b in (mine q z.0, z.1),
            λ i x e. more w seats' id v.next u v.retired i x (put_here r.seats.owner p id, dealt, l.2, l.4)
                (λ i x e. let z = k.3 i x e in (mine x.process z.0, z.1, z.2, z.3)) e,
            k.4,
            k.5,
          ))
          (λ i a m e' ne. still' w r.seats p id other l.0 i a (λ c. m (c ∙ sym k.0)) ne (r.views i a e'))
          j x e n);
    }
  where
    not_le_lt : (a b : ℕ) → (b ≤ a → ⊥) → a < b
    not_le_lt a b n = lt_of_not-le n

    some_is : (a b : PassView S) → Some a ≡ Some b → a ≡ b
    some_is a b e = cc

    more : (w : World) (seats : Seats S) (j next : ℕ) (u : PassView S) (us : List (PassView S)) (i : ℕ) (x : PassView S)
        → (seats.owner u.process ≡ j) × (u.process < next) × IsPassOf (w.process u.process) (w.trace u.process) u
        × IsFront u.history seats.history
        → AreRetired w seats j next us → slice_get (u ∷ us) i ≡ Some x → (seats.owner x.process ≡ j)
        × (x.process < next) × IsPassOf (w.process x.process) (w.trace x.process) x × IsFront x.history seats.history
    more w seats j next u us zero x h rest e = subst (λ (z : PassView S). (seats.owner z.process ≡ j)
        × (z.process < next) × IsPassOf (w.process z.process) (w.trace z.process) z
        × IsFront z.history seats.history) (some_is u x e) h
    more w seats j next u us (suc i) x h rest e = rest i x e

    still' : (w : World) (seats : Seats S) (p seat other : ℕ) → seats.owner p ≡ other → (j : ℕ) (x : View S)
        → j ≢ seats.chief → j ≢ other
        → Knows w seats j x → Knows w (record seats { owner = put seats.owner p seat }) j x
    still' w seats p seat other its j (Super x) n n' k = absurd (n k.0)
    still' w seats p seat other its j (Pass x) n n' k = (
      put_else seats.owner p seat x.process (λ e. n' (sym k.0 ∙ ap seats.owner e ∙ its)) ∙ k.0,
      k.1,
      k.2,
      k.3,
      k.4,
      k.5,
    )
    still' w seats p seat other its j (Noted x) n n' k = k
    still' w seats p seat other its j (Report x) n n' k = k
    still' w seats p seat other its j Spent n n' k = k
