-- How views follow a step of a pass or of the supervisor.
use Rattle.std.proofs.Common.{◌≡◌, ◌≢◌, ℕ, ◌≤◌, List, [], ◌∷◌, ◌++◌, length, set, sym, refl, ap, ◌∙◌, subst, ⊎_elim, length-append, arith}
use mathlib.Core.Option.{some}
use lib.ListN.{get_elem?}
use Rattle.atomic_table.specs.Table.{State}
use Rattle.atomic_table.proofs.Lists.{at_set}
use Rattle.mx_core.specs.Invariant.{Good}
use Rattle.mx_core.specs.Loading.{with_event}
use Rattle.mx_core.specs.Notions.{IsProcess, with_process}
use Rattle.mx_core.specs.Put.{put}
use Rattle.mx_core.specs.Words.{number_of}
use Rattle.mx_core.specs.World.{Process, World}
use Rattle.mx_core.specs.declared.elements.Kept.{Kept}
use Rattle.mx_core.proofs.Puts.{put_all, put_here, put_else}
use Rattle.mx_rule.specs.Codes.{IsPlain}
use Rattle.mx_rule.specs.Fronts.{IsFront}
use Rattle.mx_rule.specs.Layout.{IsLayout, Layout, ShowsWords, content}
use Rattle.mx_rule.specs.Rule.{Seats, IsPassOf, IsReported, Knows, Holds}
use Rattle.mx_rule.specs.Shown.{View, Super, Pass, Noted, Report, Spent, PassView, EntryView, ReportView, Office, office, fresh_view}

-- what a step of process p leaves
pub record IsPassStep (w w' : World) (p : ℕ) : Type 0 where
  pub office : office w' ≡ office w
  pub process : (q : ℕ) → q ≢ p → w'.process q ≡ w.process q
  pub trace : (q : ℕ) → q ≢ p → w'.trace q ≡ w.trace q
  pub note : w'.note ≡ w.note
  pub longer : (q : ℕ) → length (w.trace q) ≤ length (w'.trace q)
  pub higher : (q : ℕ) → (w.process q).floor ≤ (w'.process q).floor

-- what the supervisor has of a process stays
pub record IsOwn (o o' : Process) : Type 0 where
  pub connect : o'.connect ≡ o.connect
  pub look : o'.look ≡ o.look
  pub acknowledged : o'.acknowledged ≡ o.acknowledged
  pub floor : o.floor ≤ o'.floor

put_field : {A B : Type 0} (f : A → B) (g : ℕ → A) (p : ℕ) (a : A) → f a ≡ f (g p)
    → ◌≡◌ {A = ℕ → B} (λ q. f (put g p a q)) (λ q. f (g q))
put_field f g p a same = λ i q. put_all (λ j x. f x ≡ f (g j)) g p a same (λ j n. refl) q i

office_stays : (w : World) (p : ℕ) (o : Process) → IsOwn (w.process p) o → office (with_process w p o) ≡ office w
office_stays w p o own =
    let a = put_field (λ (x : Process). x.connect) w.process p o own.connect in
    let b = put_field (λ (x : Process). x.look) w.process p o own.look in
    let c = put_field (λ (x : Process). x.acknowledged) w.process p o own.acknowledged in
    λ i. record (office w) { connect = a i; look = b i; acknowledged = c i }

pub plain_step : (w : World) (p : ℕ) (o : Process) → IsOwn (w.process p) o → IsPassStep w (with_process w p o) p
plain_step w p o own = record {
  office = office_stays w p o own;
  process = λ q n. put_else w.process p o q n;
  trace = λ q n. refl;
  note = refl;
  longer = λ q. omega arith;
  higher = λ q. put_all (λ j (x : Process). (w.process j).floor ≤ x.floor) w.process p o own.floor
      (λ j n. omega arith) q;
}

pub event_step : (w : World) (p : ℕ) (o : Process) (e : Kept) → IsOwn (w.process p) o
    → IsPassStep w (with_event (with_process w p o) p e) p
event_step w p o e own = record {
  office = office_stays w p o own;
  process = λ q n. put_else w.process p o q n;
  trace = λ q n. put_else w.trace p (w.trace p ++ e ∷ []) q n;
  note = refl;
  longer = λ q. put_all (λ j (x : List Kept). length (w.trace j) ≤ length x) w.trace p (w.trace p ++ e ∷ [])
      (omega (arith, length-append (w.trace p) (e ∷ []))) (λ j n. omega arith) q;
  higher = λ q. put_all (λ j (x : Process). (w.process j).floor ≤ x.floor) w.process p o own.floor
      (λ j n. omega arith) q;
}

-- what was reported stays so
pub reported_under : (w w' : World) (p : ℕ) (u : ReportView) → IsPassStep w w' p → IsReported w u → IsReported w' u
reported_under w w' p u s k = (
  record { low = k.0.low; high = subst (λ (x : Office). u.process ≤ x.processes) (sym s.office) k.0.high },
  (let a = s.longer u.process in let b = k.1 in omega arith),
  (let a = s.higher u.process in let b = k.2 in omega arith),
  subst (λ (x : Office). u.by ≤ number_of (x.word u.process u.segno)) (sym s.office) k.3,
)

-- what another seat knows stays true
pub under_pass : {S : Type 0} (w w' : World) (seats : Seats S) (p me j : ℕ) (v : View S) → IsPassStep w w' p
    → seats.owner p ≡ me
    → j ≢ me → Knows w seats j v → Knows w' seats j v
under_pass {S = S} w w' seats p me j (Super v) s mine n k = (
  k.0,
  s.office ∙ k.1,
  λ q a b.
      let u = k.2 q a (subst (λ (x : Office). q ≤ x.processes) s.office b) in
      let other : q ≢ p = λ e. n (sym u.0 ∙ ap seats.owner e ∙ mine) in (
        u.0,
        subst (λ (x : Process × List Kept). IsPassOf x.0 x.1 (fresh_view {E = S} v.start q))
            (λ i. (sym (s.process q other) i, sym (s.trace q other) i)) u.1,
      ),
  λ i x e. let u = k.3 i x e in let other : x.process ≢ p = λ e'. n (sym u.0 ∙ ap seats.owner e' ∙ mine) in (
    u.0,
    u.1,
    subst (λ (z : Process × List Kept). IsPassOf z.0 z.1 x)
        (λ i. (sym (s.process x.process other) i, sym (s.trace x.process other) i)) u.2,
    u.3,
  ),
  λ i x e. reported_under w w' p x s (k.4 i x e),
  k.5,
)
under_pass {S = S} w w' seats p me j (Pass v) s mine n k =
    let other : v.process ≢ p = λ e. n (sym k.0 ∙ ap seats.owner e ∙ mine) in (
      k.0,
      record { low = k.1.low; high = subst (λ (x : Office). v.process ≤ x.processes) (sym s.office) k.1.high },
      subst (λ (x : Process × List Kept). IsPassOf x.0 x.1 v)
          (λ i. (sym (s.process v.process other) i, sym (s.trace v.process other) i)) k.2,
      k.3 ∙ sym (ap (λ (x : Office). x.start) s.office),
      k.4,
      k.5,
    )
under_pass {S = S} w w' seats p me j (Noted v) s mine n k = (k.0, ap (λ (f : ℕ → _). f v.number) s.note ∙ k.1, k.2)
under_pass {S = S} w w' seats p me j (Report v) s mine n k = reported_under w w' p v s k
under_pass {S = S} w w' seats p me j Spent s mine n k = k

-- views where one is replaced
pub view_set : {S : Type 0} (K : ℕ → View S → Type 0) (views : List (View S)) (id : ℕ) (v : View S) → K id v
    → ((j : ℕ) (u : View S) → j ≢ id → get_elem? views j ≡ some u → K j u) → (j : ℕ) (u : View S)
    → get_elem? (set views id v) j ≡ some u → K j u
view_set {S = S} K views id v mine others j u e = ⊎_elim
    (λ (t : (j ≡ id) × (v ≡ u)). subst (λ (x : ℕ × View S). K x.0 x.1) (λ i. (sym t.0 i, t.1 i)) mine)
    (λ (t : (j ≢ id) × (get_elem? views j ≡ some u)). others j u t.0 t.1)
    (at_set views id j v u e)

pub knows : {S : Type 0} (y : Layout) (s : State S (View S)) (r : Holds y s) (id : ℕ) (v : View S)
    → get_elem? s.views id
    ≡ some v → Knows r.world r.seats id v
knows y s r id v at = r.views id v at

-- a pass stays that of its process
abbrev pub IsSamePass : {S : Type 0} → PassView S → PassView S → Type 0
IsSamePass v v' = (v'.process ≡ v.process) × (v'.start ≡ v.start) × (v'.history ≡ v.history) × (v'.earlier ≡ v.earlier)

-- a step of a pass keeps the rule
pub pass_moves : {S : Type 0} (y : Layout) (s : State S (View S)) (r : Holds y s) (id : ℕ) (v v' : PassView S)
    (w' : World)
    (words : List ℕ)
    → get_elem? s.views id ≡ some (Pass v) → IsSamePass v v' → IsPassStep r.world w' v.process → Good w'
    → IsPassOf (w'.process v.process) (w'.trace v.process) v' → ((c : ℕ) → IsPlain (w'.cell c))
    → ShowsWords y w'.processes w'.numbers (content w') words
    → Holds y (record { words = words; homes = s.homes; views = set s.views id (Pass v') })
pass_moves {S = S} y s r id v v' w' words at same step good own plain shows =
    let k = r.views id (Pass v) at in record {
      world = w';
      seats = r.seats;
      layout = subst (λ (x : Office). IsLayout y x.processes x.numbers) (sym step.office) r.layout;
      good = good;
      marks = λ i e at'. let a = r.marks i e at' in let b = step.longer e.process in omega arith;
      plain = plain;
      words = shows;
      views = view_set (Knows w' r.seats) s.views id (Pass v') (
        ap r.seats.owner same.0 ∙ k.0,
        subst (IsProcess w') (sym same.0) (record {
          low = k.1.low;
          high = subst
              (λ (x : Office). v.process ≤ x.processes) (sym step.office) k.1.high;
        }),
        subst (λ (p : ℕ). IsPassOf (w'.process p) (w'.trace p) v') (sym same.0) own,
        same.1 ∙ k.3 ∙ sym (ap (λ (x : Office). x.start) step.office),
        subst (λ (h : List (EntryView S)). IsFront h r.seats.history) (sym same.2) k.4,
        subst (λ (z : List (EntryView S) × List (EntryView S)). IsFront z.0 z.1)
            (λ i. (sym same.3 i, sym same.2 i)) k.5,
      )
          (λ j u n e. under_pass r.world w' r.seats v.process id j u step k.0 n (r.views j u e));
    }

-- what a process step with an event leaves there
pub own_here : {S : Type 0} (w : World) (p : ℕ) (o : Process) (e : Kept) (v : PassView S)
    → IsPassOf o (w.trace p ++ e ∷ []) v
    → IsPassOf (put w.process p o p) (put w.trace p (w.trace p ++ e ∷ []) p) v
own_here w p o e v is = subst (λ (x : Process × List Kept). IsPassOf x.0 x.1 v)
    (λ i. (sym (put_here w.process p o) i, sym (put_here w.trace p (w.trace p ++ e ∷ [])) i)) is

pub put_map : {A B : Type 0} (f : A → B) (g : ℕ → A) (p : ℕ) (a : A)
    → ◌≡◌ {A = ℕ → B} (λ q. f (put g p a q)) (put (λ q. f (g q)) p (f a))
put_map f g p a = λ i q. at q i
  where
    at : (q : ℕ) → f (put g p a q) ≡ put (λ k. f (g k)) p (f a) q
    at q = put_all (λ j x. f (put g p a j) ≡ x) (λ k. f (g k)) p (f a) (ap f (put_here g p a))
        (λ j n. ap f (put_else g p a j n)) q
