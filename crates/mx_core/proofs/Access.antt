-- Each kind of step keeps the access part.
use Rattle.std.proofs.Common.{◌≡◌, ◌≢◌, ◌⊎◌, inl, inr, ℕ, ◌<◌, ◌≤◌, true, false, List, [], refl, ◌∙◌, subst, Option, Some, None, arith}
use Rattle.std.specs.Prelude.{IsTrue}
use Rattle.std.proofs.lemmas.Bool.{cases_eq}
use Rattle.mx_sdw.specs.Descriptors.{Descriptor}
use Rattle.mx_core.specs.RightWords.{IsWord}
use Rattle.mx_core.specs.Keeping.{IsReady, HasFlag, IsIn, Keeps, IsCurrent, IsLate, IsCut}
use Rattle.mx_core.specs.Processes.{IsGoodProcess}
use Rattle.mx_core.specs.Access.{IsAccess}
use Rattle.mx_core.specs.Acknowledging.{after_connect, after_look, after_acknowledge, HasLeft}
use Rattle.mx_core.specs.Notions.{with_process}
use Rattle.mx_core.specs.Words.{DescriptorWord, Valid, Fault, Triple, Asked}
use Rattle.mx_core.specs.World.{Stage, Outside, Entering, Ready, Process, World}
use Rattle.mx_core.proofs.Puts.{put_all}

pub same_some : (u v : Triple) → Some u ≡ Some v → u ≡ v
same_some u v h = cc

pub none_some : (u : Triple) → None ≡ Some u → ⊥
none_some u h = cc

pub none_asked : (a : Asked) → None ≡ Some a → ⊥
none_asked a h = cc

pub nowhere : (u : Triple) → IsIn u [] → ⊥
nowhere u k = none_some u k.at

pub valid_fault : (k n : ℕ) (d : Descriptor) → Valid k d ≡ Fault n → ⊥
valid_fault k n d h = cc

pub same_fault : (k n : ℕ) → Fault k ≡ Fault n → k ≡ n
same_fault k n h = cc

pub true_false : IsTrue false → ⊥
true_false h = cc

-- what is kept where there is no basis
keeps_none : (basis : Option Triple) (memory : List Triple) (u : Triple) → Keeps None memory u → Keeps basis memory u
keeps_none basis memory u k = elim k [
  | inl e ↦ absurd (none_some u e)
  | inr i ↦ inr i
]

up_flag : (stage : Stage) (flag turn : ℕ) → IsReady stage → HasFlag stage flag turn → flag ≢ 0
up_flag Outside flag turn r h e = absurd r
up_flag Entering flag turn r h e = absurd r
up_flag Ready flag turn r h e = let a = h.0 in let b = h.1 in absurd (omega arith)

-- the supervisor's told number is within what is answered or pending
pub told_under : (start ans len : ℕ) (h : ℕ → Descriptor) (told : ℕ) (wd : DescriptorWord) → ans < len
    → IsWord start ans len h told wd → told < len
told_under start ans len h told (Valid k d) l is = let a = is.known in let b = is.high in omega arith
told_under start ans len h told (Fault k) l is = let a = is.known in let b = is.high in omega arith

pub told_most : (start ans len : ℕ) (h : ℕ → Descriptor) (told : ℕ) (wd : DescriptorWord) → ans ≡ len
    → IsWord start ans len h told wd → told ≤ ans
told_most start ans len h told (Valid k d) l is = let a = is.known in let b = is.high in omega arith
told_most start ans len h told (Fault k) l is = let a = is.known in let b = is.high in omega arith

-- a process's step leaves everything else
pub put_process : (w : World) (p : ℕ) (o : Process) → IsAccess w
    → IsGoodProcess w.start w.answered w.length (λ q n. w.table q p n) (w.word p) o
    → ((q n : ℕ) → o.told q n ≤ w.told q n) → IsAccess (with_process w p o)
put_process w p o g here told = record {
  start_low = g.start_low;
  answered_low = g.answered_low;
  length_high = g.length_high;
  words = g.words;
  processes = put_all (λ j a. IsGoodProcess w.start w.answered w.length (λ q n. w.table q j n) (w.word j) a) w.process
      p o here (λ j n. g.processes j);
  tolds = put_all (λ j a. (q n : ℕ) → a.told q n ≤ w.told q n) w.process p o told (λ j n. g.tolds j);
  notes = g.notes;
}

pub connect_access : (w : World) (p : ℕ) → IsAccess w → w.answered < w.length
    → IsCut w.answered w.length (λ q n. w.table q p n) (w.word p) → IsAccess (after_connect w p)
connect_access w p g pends cut =
    let is = g.processes p in put_process w p (record (w.process p) { connect = w.length; look = 0 }) g (record {
      floor_low = is.floor_low;
      floor_high = is.floor_high;
      told = is.told;
      ready = is.ready;
      triples = λ cur u k. elim cur [
        | inl e ↦ let a = is.cleared_high in let b = is.connect_high in is.triples (inl (omega arith)) u k
        | inr r ↦ is.triples (inr r) u k
      ];
      hold = is.hold;
      acknowledged = λ a.
          let b = is.acknowledged a in
          let e = b.1 in
          (pends, refl, λ l. let n = l.behind in b.2 (record { ready = l.ready; behind = λ f. n (f ∙ e) }));
      late = λ l. (pends, refl);
      cleared_low = is.cleared_low;
      cleared_high = let a = is.cleared_high in let b = is.connect_high in omega arith;
      connect_high = omega arith;
      cut = λ l e. cut;
      same = λ l e c u k. let a = is.cleared_high in let b = is.connect_high in is.same l (omega arith) c u k;
      flag = is.flag;
      look = λ n. absurd (n refl);
      looked = λ n. absurd (n refl);
    }) (g.tolds p)

pub look_access : (w : World) (p : ℕ) → IsAccess w → w.answered < w.length → (w.process p).connect ≡ w.length
    → IsAccess (after_look w p)
look_access w p g pends at =
    let is = g.processes p in put_process w p (record (w.process p) { look = (w.process p).flag }) g (record {
      floor_low = is.floor_low;
      floor_high = is.floor_high;
      told = is.told;
      ready = is.ready;
      triples = is.triples;
      hold = is.hold;
      acknowledged = is.acknowledged;
      late = is.late;
      cleared_low = is.cleared_low;
      cleared_high = is.cleared_high;
      connect_high = is.connect_high;
      cut = is.cut;
      same = is.same;
      flag = is.flag;
      look = λ n. (pends, at);
      looked = λ n l. refl;
    }) (g.tolds p)

pub acknowledge_access : (w : World) (p : ℕ) → IsAccess w → w.answered < w.length → (w.process p).connect ≡ w.length
    → HasLeft (w.process p) → IsAccess (after_acknowledge w p)
acknowledge_access w p g pends at free = put_process w p (record (w.process p) { acknowledged = true }) g (record {
  floor_low = is.floor_low;
  floor_high = is.floor_high;
  told = is.told;
  ready = is.ready;
  triples = λ cur u k.
      let t = is.triples cur u k in
      let high = t.high in
      let floor = is.floor_high in
      let same = is.same pends at (up_to_date cur) u k in record {
        low = t.low;
        high = t.high;
        stands = t.stands;
        now = λ a. same ∙ t.stands w.answered (omega arith) (omega arith);
      };
  hold = is.hold;
  acknowledged = λ a. (pends, at, never_late);
  late = is.late;
  cleared_low = is.cleared_low;
  cleared_high = is.cleared_high;
  connect_high = is.connect_high;
  cut = is.cut;
  same = is.same;
  flag = is.flag;
  look = is.look;
  looked = is.looked;
}) (g.tolds p)
  where
    is : IsGoodProcess w.start w.answered w.length (λ q n. w.table q p n) (w.word p) (w.process p)
    is = g.processes p

    never_late : IsLate (w.process p).cleared (w.process p).connect (w.process p).stage → ⊥
    never_late l = elim free [
      | inl down ↦ up_flag (w.process p).stage (w.process p).flag (w.process p).turn l.ready is.flag down
      | inr other ↦ other.1 (is.looked other.0 l)
    ]

    up_to_date : IsCurrent (w.process p).cleared (w.process p).connect (w.process p).stage
        → (w.process p).cleared ≡ w.length
    up_to_date cur = elim (cases_eq (w.process p).cleared (w.process p).connect) [
      | inl e ↦ e ∙ at
      | inr n ↦ elim cur [
        | inl e ↦ e ∙ at
        | inr r ↦ absurd (never_late (record { ready = r; behind = n }))
      ]
    ]

-- the process is not ready and has no basis; its memory stays
pub away_access : (w : World) (p turn flag : ℕ) (stage : Stage) → IsAccess w → (IsReady stage → ⊥)
    → HasFlag stage flag turn
    → IsAccess (with_process w p (record (w.process p)
    { turn = turn; flag = flag; stage = stage; basis = None; hold = None }))
away_access w p turn flag stage g away up = let is = g.processes p in
    put_process w p (record (w.process p) { turn = turn; flag = flag; stage = stage; basis = None; hold = None }) g
    (record {
      floor_low = is.floor_low;
      floor_high = is.floor_high;
      told = is.told;
      ready = λ u e. absurd (none_some u e);
      triples = λ cur u k. elim cur [
        | inl e ↦ is.triples (inl e) u (keeps_none (w.process p).basis (w.process p).memory u k)
        | inr r ↦ absurd (away r)
      ];
      hold = λ a e. absurd (none_asked a e);
      acknowledged = λ a. let b = is.acknowledged a in (b.0, b.1, λ l. away l.ready);
      late = λ l. absurd (away l.ready);
      cleared_low = is.cleared_low;
      cleared_high = is.cleared_high;
      connect_high = is.connect_high;
      cut = is.cut;
      same = λ l e c u k. is.same l e c u (keeps_none (w.process p).basis (w.process p).memory u k);
      flag = up;
      look = is.look;
      looked = λ n l. absurd (away l.ready);
    }) (g.tolds p)

pub miss_access : (w : World) (p : ℕ) → IsAccess w
    → IsAccess (with_process w p (record (w.process p) { basis = None; hold = None }))
miss_access w p g =
    let is = g.processes p in put_process w p (record (w.process p) { basis = None; hold = None }) g (record {
      floor_low = is.floor_low;
      floor_high = is.floor_high;
      told = is.told;
      ready = λ u e. absurd (none_some u e);
      triples = λ cur u k. is.triples cur u (keeps_none (w.process p).basis (w.process p).memory u k);
      hold = λ a e. absurd (none_asked a e);
      acknowledged = is.acknowledged;
      late = is.late;
      cleared_low = is.cleared_low;
      cleared_high = is.cleared_high;
      connect_high = is.connect_high;
      cut = is.cut;
      same = λ l e c u k. is.same l e c u (keeps_none (w.process p).basis (w.process p).memory u k);
      flag = is.flag;
      look = is.look;
      looked = is.looked;
    }) (g.tolds p)

pub load_connect_access : (w : World) (p : ℕ) (memory : List Triple) → IsAccess w → (w.process p).stage ≡ Entering
    → (((w.process p).cleared ≡ (w.process p).connect) × (memory ≡ (w.process p).memory)) ⊎ (memory ≡ [])
    → IsAccess (with_process w p (record (w.process p)
    { cleared = (w.process p).connect; stage = Ready; memory = memory }))
load_connect_access w p memory g in' emptied =
    put_process w p (record (w.process p) { cleared = (w.process p).connect; stage = Ready; memory = memory }) g
    (record {
      floor_low = is.floor_low;
      floor_high = is.floor_high;
      told = is.told;
      ready = λ u e. tt;
      triples = λ cur u k. elim (kept u k) [
        | inl c ↦ is.triples (inl c.0) u c.1
        | inr bad ↦ absurd bad
      ];
      hold = is.hold;
      acknowledged = λ a. let b = is.acknowledged a in (b.0, b.1, λ l. l.behind refl);
      late = λ l. absurd (l.behind refl);
      cleared_low = let a = is.cleared_low in let b = is.cleared_high in omega arith;
      cleared_high = omega arith;
      connect_high = is.connect_high;
      cut = is.cut;
      same = λ l e c u k. elim (kept u k) [
        | inl d ↦ is.same l e (d.0 ∙ e) u d.1
        | inr bad ↦ absurd bad
      ];
      flag = up (w.process p).stage in' is.flag;
      look = is.look;
      looked = λ n l. absurd (l.behind refl);
    }) (g.tolds p)
  where
    is : IsGoodProcess w.start w.answered w.length (λ q n. w.table q p n) (w.word p) (w.process p)
    is = g.processes p

    up : (stage : Stage) → stage ≡ Entering → HasFlag stage (w.process p).flag (w.process p).turn
        → HasFlag Ready (w.process p).flag (w.process p).turn
    up stage e h = let h' : HasFlag Entering (w.process p).flag (w.process p).turn = subst
        (λ (s : Stage). HasFlag s (w.process p).flag (w.process p).turn) e h in h'

    no_basis : (u : Triple) → (w.process p).basis ≡ Some u → ⊥
    no_basis u e = let r : IsReady Entering = subst IsReady in' (is.ready u e) in r

    kept : (u : Triple) → Keeps (w.process p).basis memory u
        → (((w.process p).cleared ≡ (w.process p).connect) × Keeps (w.process p).basis (w.process p).memory u) ⊎ ⊥
    kept u k = elim k [
      | inl e ↦ absurd (no_basis u e)
      | inr i ↦ elim emptied [
        | inl same ↦ inl (same.0, inr (subst (IsIn u) same.1 i))
        | inr empty ↦ absurd (nowhere u (subst (IsIn u) empty i))
      ]
    ]
