-- A process judges, gives up what it holds, or is told: the access part is kept.
use Rattle.std.proofs.Common.{◌≡◌, ◌⊎◌, inl, inr, ℕ, ◌≤◌, List, sym, ◌∙◌, subst, Option, Some, None, arith}
use Rattle.std.specs.Prelude.{max}
use Rattle.std.specs.List.{slice_get}
use Rattle.mx_sdw.specs.Descriptors.{Descriptor}
use Rattle.mx_core.specs.RightWords.{IsValid, IsWord}
use Rattle.mx_core.specs.Keeping.{IsReady, IsIn, Keeps, IsTriple, IsHold, IsCut}
use Rattle.mx_core.specs.Processes.{IsGoodProcess}
use Rattle.mx_core.specs.Access.{IsGoodNote, IsAccess}
use Rattle.mx_core.specs.Notes.{told_by}
use Rattle.mx_core.specs.Notions.{with_process}
use Rattle.mx_core.specs.Words.{DescriptorWord, Valid, Triple, Asked}
use Rattle.mx_core.specs.World.{Note, World}
use Rattle.mx_core.proofs.Access.{same_some, none_asked, valid_fault, put_process}
use Rattle.mx_core.proofs.Descriptors.{same_descriptor}

-- each triple of the new memory is this one, or of the old memory
abbrev pub renews : Triple → List Triple → List Triple → Type 0
renews u old new = (i : ℕ) (v : Triple) → slice_get new i ≡ Some v → (v ≡ u) ⊎ IsIn v old

-- a number whose word is no fault is unchanged, as far as a process was told
unchanged : (ans len : ℕ) (h : ℕ → ℕ → Descriptor) (word : ℕ → DescriptorWord) (n k : ℕ) (d : Descriptor)
    → IsCut ans len h word → word n ≡ Valid k d → h len n ≡ h ans n
unchanged ans len h word n k d pending e = elim (same_descriptor (h len n) (h ans n)) [
  | inl same ↦ same
  | inr changed ↦ absurd (valid_fault k len d (sym e ∙ pending.struck n changed))
]

-- a process judges on what its descriptor word shows, and may remember it
pub load_desc_access : (w : World) (p : ℕ) (u : Triple) (memory : List Triple) (hold : Option Asked) → IsAccess w
    → IsReady (w.process p).stage
    → w.word p u.segno ≡ Valid u.number u.desc → u.number ≤ (w.process p).floor → renews u (w.process p).memory memory
    → ((a : Asked) → hold ≡ Some a → IsHold (Some u) a)
    → IsAccess (with_process w p (record (w.process p) { basis = Some u; hold = hold; memory = memory }))
load_desc_access w p u memory hold g up valid under renewed held =
    put_process w p (record (w.process p) { basis = Some u; hold = hold; memory = memory }) g (record {
      floor_low = is.floor_low;
      floor_high = is.floor_high;
      told = is.told;
      ready = λ v e. up;
      triples = λ cur v k. elim (kept v k) [
        | inl e ↦ subst (λ (t : Triple). IsTriple w.start (w.process p).floor w.answered w.length
            (w.process p).acknowledged (λ q n. w.table q p n) t) (sym e) fresh
        | inr old ↦ is.triples (inr up) v (inr old)
      ];
      hold = held;
      acknowledged = is.acknowledged;
      late = is.late;
      cleared_low = is.cleared_low;
      cleared_high = is.cleared_high;
      connect_high = is.connect_high;
      cut = is.cut;
      same = λ l e c v k. elim (kept v k) [
        | inl same ↦ subst (λ (t : Triple). w.table w.length p t.segno ≡ w.table w.answered p t.segno) (sym same)
            (unchanged w.answered w.length (λ q n. w.table q p n) (w.word p) u.segno u.number u.desc (is.cut l e) valid)
        | inr old ↦ is.same l e c v (inr old)
      ];
      flag = is.flag;
      look = is.look;
      looked = is.looked;
    }) (g.tolds p)
  where
    is : IsGoodProcess w.start w.answered w.length (λ q n. w.table q p n) (w.word p) (w.process p)
    is = g.processes p

    kept : (v : Triple) → Keeps (Some u) memory v → (v ≡ u) ⊎ IsIn v (w.process p).memory
    kept v k = elim k [
      | inl e ↦ inl (sym (same_some u v e))
      | inr i ↦ renewed i.i v i.at
    ]

    stood : IsValid w.start w.answered (λ q. w.table q p u.segno) (w.told p u.segno) u.number u.desc
    stood = subst (IsWord w.start w.answered w.length (λ q. w.table q p u.segno) (w.told p u.segno)) valid
        (g.words p u.segno)

    fresh : IsTriple w.start (w.process p).floor w.answered w.length (w.process p).acknowledged (λ q n. w.table q p n) u
    fresh = record {
      low = stood.low;
      high = under;
      stands = stood.stands;
      now = λ a.
          let b = is.acknowledged a in
          let high = stood.high in
          unchanged w.answered w.length (λ q n. w.table q p n) (w.word p) u.segno u.number u.desc (is.cut b.0 b.1) valid
          ∙ stood.stands w.answered high (omega arith);
    }

-- a process judges on what its memory has
pub recall_access : (w : World) (p : ℕ) (u : Triple) (hold : Option Asked) → IsAccess w → IsReady (w.process p).stage
    → IsIn u (w.process p).memory
    → ((a : Asked) → hold ≡ Some a → IsHold (Some u) a)
    → IsAccess (with_process w p (record (w.process p) { basis = Some u; hold = hold }))
recall_access w p u hold g up in' held =
    put_process w p (record (w.process p) { basis = Some u; hold = hold }) g (record {
      floor_low = is.floor_low;
      floor_high = is.floor_high;
      told = is.told;
      ready = λ v e. up;
      triples = λ cur v k. is.triples cur v (inr (kept v k));
      hold = held;
      acknowledged = is.acknowledged;
      late = is.late;
      cleared_low = is.cleared_low;
      cleared_high = is.cleared_high;
      connect_high = is.connect_high;
      cut = is.cut;
      same = λ l e c v k. is.same l e c v (inr (kept v k));
      flag = is.flag;
      look = is.look;
      looked = is.looked;
    }) (g.tolds p)
  where
    is : IsGoodProcess w.start w.answered w.length (λ q n. w.table q p n) (w.word p) (w.process p)
    is = g.processes p

    kept : (v : Triple) → Keeps (Some u) (w.process p).memory v → IsIn v (w.process p).memory
    kept v k = elim k [
      | inl e ↦ subst (λ (t : Triple). IsIn t (w.process p).memory) (same_some u v e) in'
      | inr i ↦ i
    ]

-- the floor and told may rise, and a hold may be given up
pub risen : (w : World) (p floor : ℕ) (told : ℕ → ℕ → ℕ) (hold : Option Asked) → IsAccess w
    → (w.process p).floor ≤ floor → floor ≤ w.answered
    → ((q n : ℕ) → told q n ≤ floor) → ((q n : ℕ) → told q n ≤ w.told q n)
    → ((a : Asked) → hold ≡ Some a → IsHold (w.process p).basis a)
    → IsAccess (with_process w p (record (w.process p) { floor = floor; told = told; hold = hold }))
risen w p floor told hold g more under own most held = let is = g.processes p in put_process w p
    (record (w.process p) { floor = floor; told = told; hold = hold }) g (record {
      floor_low = let a = is.floor_low in omega arith;
      floor_high = under;
      told = own;
      ready = is.ready;
      triples = λ cur u k. let t = is.triples cur u k in let high = t.high in record {
        low = t.low;
        high = omega arith;
        stands = t.stands;
        now = t.now;
      };
      hold = held;
      acknowledged = is.acknowledged;
      late = is.late;
      cleared_low = is.cleared_low;
      cleared_high = is.cleared_high;
      connect_high = is.connect_high;
      cut = is.cut;
      same = is.same;
      flag = is.flag;
      look = is.look;
      looked = is.looked;
    }) most

-- a process takes a note
pub join_access : (w : World) (p : ℕ) (note : Note) → IsAccess w → IsGoodNote w.start w.answered w.told note
    → IsAccess (with_process w p (told_by (w.process p) note))
join_access w p note g good =
    let is = g.processes p in
    let a = is.floor_high in
    let b = good.high in
    risen w p (max (w.process p).floor note.floor) (λ q n. max ((w.process p).told q n) (note.told q n))
    (w.process p).hold g (omega arith) (omega arith)
    (λ q n. let c = is.told q n in let d = good.own q n in omega arith)
    (λ q n. let c = g.tolds p q n in let d = good.most q n in omega arith)
    is.hold

-- a process gives up its hold, and its floor rises to a stamp
pub cell_access : (w : World) (p stamp : ℕ) → IsAccess w → stamp ≤ w.answered
    → IsAccess (with_process w p (record (w.process p) { floor = max (w.process p).floor stamp; hold = None }))
cell_access w p stamp g under =
    let is = g.processes p in
    let a = is.floor_high in
    risen w p (max (w.process p).floor stamp) (w.process p).told None g (omega arith) (omega arith)
    (λ q n. let c = is.told q n in omega arith) (g.tolds p) (λ a e. absurd (none_asked a e))

-- a process gives up its hold
pub release_access : (w : World) (p : ℕ) → IsAccess w
    → IsAccess (with_process w p (record (w.process p) { hold = None }))
release_access w p g =
    let is = g.processes p in
    risen w p (w.process p).floor (w.process p).told None g (omega arith) is.floor_high is.told (g.tolds p)
    (λ a e. absurd (none_asked a e))
