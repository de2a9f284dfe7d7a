-- LoadCell, StoreCell and Clear keep the invariant.
use Rattle.std.proofs.Common.{◌≡◌, ◌≢◌, inl, inr, ℕ, ◌+◌, ◌*◌, ◌/◌, ◌<◌, ◌≤◌, Bool, true, false, [], ◌∷◌, ◌++◌, map, refl, ap, sym, ◌∙◌, subst, Option, Some, None, arith}
use Rattle.std.specs.Prelude.{IsTrue, ◌^◌, max, nat_le, nat_lt, not, ◌&&◌, ◌||◌, ◌==◌}
use Rattle.std.proofs.lemmas.Bool.{cases_eq, and_parts, and_from, or_cases, or_left, or_right, eq-eqb, eqb-true, le-leb, lt-ltb, not-true, both_ways}
use Rattle.mx_sdw.specs.Admissible.{IsAdmissible}
use Rattle.mx_sdw.specs.Descriptors.{Descriptor}
use Rattle.mx_sdw.specs.Judging.{cell_of}
use Rattle.mx_sdw.specs.Operations.{writes}
use Rattle.mx_sdw.proofs.JudgingLaws.{granted_is_allowed}
use Rattle.mx_reads.specs.Deeds.{CellUse, Deeds}
use Rattle.mx_reads.specs.Held.{Held}
use Rattle.mx_reads.proofs.Keeps.{store_law}
use Rattle.mx_reads.proofs.Loading.{load_law}
use Rattle.mx_core.specs.Keeping.{IsHold, IsTriple}
use Rattle.mx_core.specs.Cells.{cell_read, cell_loaded, cell_written, cell_stored}
use Rattle.mx_core.specs.Deeds.{deed_of, deeds, front, present, holding}
use Rattle.mx_core.specs.Invariant.{Good}
use Rattle.mx_core.specs.Judging.{IsGranted, loads}
use Rattle.mx_core.specs.Laws.{LoadCellLaw, StoreCellLaw, ClearLaw}
use Rattle.mx_core.specs.Loading.{with_event, element_of}
use Rattle.mx_core.specs.Memory.{IsCell, IsBare}
use Rattle.mx_core.specs.Notions.{IsProcess, with_process}
use Rattle.mx_core.specs.Pages.{page_of, cell_at, covers, use_at, cell_use}
use Rattle.mx_core.specs.Put.{put}
use Rattle.mx_core.specs.Words.{Triple, Asked, zero_cell}
use Rattle.mx_core.specs.World.{Process, Kept, Judged, World}
use Rattle.mx_core.specs.declared.elements.Outcome.TheVariants as outcome
use Rattle.mx_core.proofs.Access.{true_false}
use Rattle.mx_core.proofs.JudgingAccess.{cell_access, release_access}
use Rattle.mx_core.proofs.Parts.{good_kept, shape_process, shape_event, access_event, traces_event, shape_memory, access_memory, nothing_pending}
use Rattle.mx_core.proofs.Puts.{put_all, put_both, put_here, put_else}
use Rattle.mx_core.proofs.ReadLaws.{event_own, event_others, held_same}
use Rattle.mx_core.proofs.TraceLaws.{trace_element}
use Rattle.mx_core.proofs.Uses.{same_use}

-- the page of a word that is in its segment
covers_word : (d : Descriptor) (word : ℕ) → word < d.bound → IsTrue (covers d (page_of (cell_at d word)))
covers_word d word under = and_from (nat_le d.page page) (nat_lt (64 * page) (64 * d.page + d.bound))
    (le-leb d.page page (omega arith)) (lt-ltb (64 * page) (64 * d.page + d.bound) (omega arith))
  where
    page : ℕ
    page = (64 * d.page + word) / 64

-- what a held reference tells of its cell
record HasCell (w : World) (p : ℕ) (u : Triple) (a : Asked) : Type 0 where
  pub granted : IsGranted u.desc a
  pub covered : IsTrue (covers (w.table w.answered p u.segno) (page_of (cell_at u.desc a.word)))
  pub stands : u.desc ≡ w.table (w.process p).floor p u.segno
  pub same : use_at w.start w.given (page_of (cell_at u.desc a.word)) (w.process p).floor ≡ use_at w.start w.given
      (page_of (cell_at u.desc a.word)) w.length
  pub low : w.start ≤ (w.process p).floor
  pub high : (w.process p).floor ≤ w.answered

same_triple : (u v : Triple) → Some u ≡ Some v → u ≡ v
same_triple u v h = cc

has_cell : (w : World) (p : ℕ) (u : Triple) (a : Asked) → Good w → (w.process p).basis ≡ Some u
    → (w.process p).hold ≡ Some a → HasCell w p u a
has_cell w p u a g basis hold = record {
  granted = granted;
  covered = subst (λ (d : Descriptor). IsTrue (covers d page))
      (sym (t.stands w.answered (omega (arith, high_number, high, most, next))
      (omega (arith, high_number, high, most, next)))) (covers_word u.desc a.word under);
  stands = sym (t.stands (w.process p).floor high_number high);
  same = same_use w.start w.given page (w.process p).floor w.length (omega (arith, high_number, high, most, next))
      (λ before b c l h.
      g.memory.given_bare before page b l h p u.segno
      (subst (λ (d : Descriptor). IsTrue (covers d page))
      (sym (t.stands before (omega (arith, high_number, high, most, next))
      (omega (arith, high_number, high, most, next)))) (covers_word u.desc a.word under)));
  low = (g.access.processes p).floor_low;
  high = high;
}
  where
    page : ℕ
    page = page_of (cell_at u.desc a.word)

    is : IsHold (w.process p).basis a
    is = (g.access.processes p).hold a hold

    granted : IsGranted u.desc a
    granted = subst (λ (v : Triple). IsGranted v.desc a) (same_triple is.on u (sym is.is ∙ basis)) is.granted

    under : a.word < u.desc.bound
    under = (granted_is_allowed u.desc a.op a.ring a.word (cell_of u.desc a.word) granted).bound

    t : IsTriple w.start (w.process p).floor w.answered w.length (w.process p).acknowledged (λ q n. w.table q p n) u
    t = (g.access.processes p).triples (inr ((g.access.processes p).ready u basis)) u (inl basis)

    high_number : u.number ≤ (w.process p).floor
    high_number = t.high

    high : (w.process p).floor ≤ w.answered
    high = (g.access.processes p).floor_high

    most : w.answered ≤ w.length
    most = g.access.answered_low

    next : w.length ≤ w.answered + 1
    next = g.access.length_high

-- a held reference lies in the memory
pub cell_low : (w : World) (p : ℕ) (u : Triple) (a : Asked) → Good w → (w.process p).basis ≡ Some u
    → (w.process p).hold ≡ Some a → cell_at u.desc a.word < 65536
cell_low w p u a g basis hold =
    let has = has_cell w p u a g basis hold in
    let allowed = granted_is_allowed u.desc a.op a.ring a.word (cell_of u.desc a.word) has.granted in
    let admissible : IsAdmissible u.desc =
    subst IsAdmissible (sym has.stands) (g.shape.admissible (w.process p).floor p u.segno) in
    let under = allowed.bound in
    let within = (admissible.segment allowed.kind).cells in omega arith

-- a stamp is within the answered length
stamp_within : (w : World) (c : ℕ) → Good w → (w.cell c).stamp ≤ w.answered
stamp_within w c g = let is = g.memory.cells c in elim (cases_eq (w.cell c).writer 0) [
  | inl none ↦ let e = ap (λ (h : Held). h.stamp) (is.zero none) in omega arith
  | inr some ↦ is.high some
]

read_good : (w : World) (p : ℕ) (u : Triple) (a : Asked) → Good w → IsProcess w p → loads a.op ≡ true → HasCell w p u a
    → Good (cell_read w p u a (w.cell (cell_at u.desc a.word)))
read_good w p u a g is reads has = good_kept w p o event g is
    (cell_access w p held.stamp g.access (stamp_within w cell g)) (g.shape.memories p)
    (trace_element w.start (w.process p).floor o.floor (λ q n. w.table q p n) (w.word p) (w.trace p)
    (element_of u.segno a (w.process p).floor (outcome.Read held.value held.writer held.stamp)) a.op u.desc
    (omega arith) refl (record {
      kind = refl;
      right = (has.granted, reads);
      stands = has.stands;
      low = has.low;
      high = omega arith;
      stamp = omega arith;
    }) (g.traces p))
    (load_law (w.processes + 1) w.answered p (cell_use w.start w.given cell (w.process p).floor) (w.process p).floor
    (deeds w) new (front w.start w.entry)
    (present w) (holding w) there (omega (arith, high_process)) has.high (event_own w p event) (event_others w p event)
    g.reads)
  where
    cell : ℕ
    cell = cell_at u.desc a.word

    held : Held
    held = w.cell cell

    o : Process
    o = record (w.process p) { floor = max (w.process p).floor held.stamp; hold = None }

    event : Kept
    event =
        Judged (element_of u.segno a (w.process p).floor (outcome.Read held.value held.writer held.stamp)) a.op u.desc

    new : Deeds
    new v = map (deed_of w.start w.given) (put w.trace p (w.trace p ++ event ∷ []) v)

    high_process : p ≤ w.processes
    high_process = is.high

    there : IsTrue (present w (cell_use w.start w.given cell (w.process p).floor))
    there = and_from (use_at w.start w.given (page_of cell) (w.process p).floor == use_at w.start w.given
        (page_of cell) w.length)
        (w.ready (page_of cell) || not ((w.cell cell).writer == 0))
        (eq-eqb (use_at w.start w.given (page_of cell) (w.process p).floor)
        (use_at w.start w.given (page_of cell) w.length) has.same)
        (or_left (w.ready (page_of cell)) (not ((w.cell cell).writer == 0))
        (g.memory.covered_ready (page_of cell) p u.segno has.covered))

pub load_cell_law : LoadCellLaw
load_cell_law w p g can =
    subst (λ (o : Option Triple). Good (cell_loaded w p o (w.process p).hold)) (sym can.hold.basis)
    (subst (λ (o : Option Asked). Good (cell_loaded w p (Some can.hold.on) o)) (sym can.hold.hold)
    (read_good w p can.hold.on can.hold.asked g can.range can.hold.operation
    (has_cell w p can.hold.on can.hold.asked g can.hold.basis can.hold.hold)))

written_good : (w : World) (p : ℕ) (u : Triple) (a : Asked) (value : ℕ) → Good w → IsProcess w p → value < 2 ^ 36
    → writes a.op ≡ true → HasCell w p u a
    → Good (cell_written w p u a value)
written_good w p u a value g is fits writing has = record {
  shape = shape_memory kept (put w.cell cell held) w.clean w.ready
      (shape_event (with_process w p o) p event (shape_process w p o g.shape (g.shape.memories p))
      (record { low = is.low; high = is.high }));
  access = access_memory kept (put w.cell cell held) w.clean w.ready
      (access_event (with_process w p o) p event (release_access w p g.access));
  traces = traces_event w p o event g.traces
      (trace_element w.start (w.process p).floor (w.process p).floor (λ q n. w.table q p n) (w.word p) (w.trace p)
      (element_of u.segno a (w.process p).floor (outcome.Written value)) a.op u.desc (omega arith) refl (record {
        kind = refl;
        right = (has.granted, writing);
        stands = has.stands;
        low = has.low;
        high = omega arith;
        stamp = omega arith;
      }) (g.traces p));
  reads = store_law (w.processes + 1) w.answered p key value (w.process p).floor (deeds w) new (front w.start w.entry)
      (present w) present' (holding w) holding'
      is.low (omega (arith, high_process)) has.high (event_own w p event) (event_others w p event)
      (put_here w.cell cell held) elsewhere g.reads;
  memory = record {
    cells = put_all (λ c h. IsCell w.start w.answered h) w.cell cell held (record {
      word = fits;
      zero = λ e. let low = is.low in absurd (omega arith);
      low = λ some. has.low;
      high = λ some. has.high;
    }) (λ c n. g.memory.cells c);
    clean_zero = put_all (λ c h. IsTrue (w.clean c) → h ≡ zero_cell) w.cell cell held
        (λ h. absurd (g.memory.clean_bare cell h p u.segno has.covered))
        (λ c n. g.memory.clean_zero c);
    clean_bare = g.memory.clean_bare;
    clean_bare_next = g.memory.clean_bare_next;
    covered_ready = g.memory.covered_ready;
    covered_ready_next = g.memory.covered_ready_next;
    given_bare = g.memory.given_bare;
  };
}
  where
    cell : ℕ
    cell = cell_at u.desc a.word

    key : CellUse
    key = cell_use w.start w.given cell (w.process p).floor

    held : Held
    held = record { value = value; writer = p; stamp = (w.process p).floor }

    o : Process
    o = record (w.process p) { hold = None }

    event : Kept
    event = Judged (element_of u.segno a (w.process p).floor (outcome.Written value)) a.op u.desc

    new : Deeds
    new v = map (deed_of w.start w.given) (put w.trace p (w.trace p ++ event ∷ []) v)

    kept : World
    kept = with_event (with_process w p o) p event

    present' : CellUse → Bool
    present' c = (c.since == use_at w.start w.given (page_of c.cell) w.length) &&
        (w.ready (page_of c.cell) || not ((put w.cell cell held c.cell).writer == 0))

    holding' : CellUse → Held
    holding' c = put w.cell cell held c.cell

    high_process : p ≤ w.processes
    high_process = is.high

    elsewhere : (c : CellUse) → c ≢ key → IsTrue (present' c) → IsTrue (present w c) × (holding' c ≡ holding w c)
    elsewhere c n h = elim (cases_eq c.cell cell) [
      | inl e ↦
          let parts = and_parts (c.since == use_at w.start w.given (page_of c.cell) w.length)
          (w.ready (page_of c.cell) || not ((put w.cell cell held c.cell).writer == 0)) h in
          let since = eqb-true c.since (use_at w.start w.given (page_of c.cell) w.length) parts.0
          ∙ ap (λ (m : ℕ). use_at w.start w.given (page_of m) w.length) e ∙ sym has.same in
          absurd (n (λ i. record { cell = e i; since = since i }))
      | inr other ↦
          let same = put_else w.cell cell held c.cell other in (
            subst (λ (x : Held). IsTrue ((c.since == use_at w.start w.given (page_of c.cell) w.length) &&
                (w.ready (page_of c.cell) || not (x.writer == 0)))) same h,
            same,
          )
    ]

pub store_cell_law : StoreCellLaw
store_cell_law w p value g can =
    subst (λ (o : Option Triple). Good (cell_stored w p value o (w.process p).hold)) (sym can.hold.basis)
    (subst (λ (o : Option Asked). Good (cell_stored w p value (Some can.hold.on) o)) (sym can.hold.hold)
    (written_good w p can.hold.on can.hold.asked value g can.range can.word can.hold.operation
    (has_cell w p can.hold.on can.hold.asked g can.hold.basis can.hold.hold)))

pub clear_law : ClearLaw
clear_law w cell g can = record {
  shape = shape_memory w cells clean ready g.shape;
  access = access_memory w cells clean ready g.access;
  traces = g.traces;
  reads = held_same (w.processes + 1) w.answered (deeds w) (front w.start w.entry) (present w) present' (holding w)
      (λ c. cells c.cell) still g.reads;
  memory = record {
    cells = put_all (λ c h. IsCell w.start w.answered h) w.cell cell zero_cell
        (record {
          word = omega arith;
          zero = λ e. refl;
          low = λ some. absurd (some refl);
          high = λ some. absurd (some refl);
        })
        (λ c n. g.memory.cells c);
    clean_zero = put_both (λ c b h. IsTrue b → h ≡ zero_cell) w.clean w.cell cell true zero_cell (λ e. refl)
        (λ c n. g.memory.clean_zero c);
    clean_bare = put_all (λ c b. IsTrue b → IsBare (w.table w.answered) (page_of c)) w.clean cell true (λ e. bare)
        (λ c n. g.memory.clean_bare c);
    clean_bare_next = put_all (λ c b. IsTrue b → IsBare (w.table w.length) (page_of c)) w.clean cell true
        (λ e. can.bare) (λ c n. g.memory.clean_bare_next c);
    covered_ready =
        put_all (λ q b. (p n : ℕ) → IsTrue (covers (w.table w.answered p n) q) → IsTrue b) w.ready (page_of cell) false
        (λ p n h. absurd (bare p n h)) (λ q n. g.memory.covered_ready q);
    covered_ready_next =
        put_all (λ q b. (p n : ℕ) → IsTrue (covers (w.table w.length p n) q) → IsTrue b) w.ready (page_of cell) false
        (λ p n h. absurd (can.bare p n h)) (λ q n. g.memory.covered_ready_next q);
    given_bare = g.memory.given_bare;
  };
}
  where
    cells : ℕ → Held
    cells = put w.cell cell zero_cell

    clean : ℕ → Bool
    clean = put w.clean cell true

    ready : ℕ → Bool
    ready = put w.ready (page_of cell) false

    bare : IsBare (w.table w.answered) (page_of cell)
    bare = subst (λ (q : ℕ). IsBare (w.table q) (page_of cell)) (sym (nothing_pending w g.access can.rest)) can.bare

    present' : CellUse → Bool
    present' c = (c.since == use_at w.start w.given (page_of c.cell) w.length) &&
        (ready (page_of c.cell) || not ((cells c.cell).writer == 0))

    ready_before : (page : ℕ) → IsTrue (ready page) → IsTrue (w.ready page)
    ready_before = put_all (λ q b. IsTrue b → IsTrue (w.ready q)) w.ready (page_of cell) false
        (λ e. absurd (true_false e)) (λ q n h. h)

    -- what can still be read is another cell than the one cleared, and as it was
    other : (c : CellUse) → IsTrue (ready (page_of c.cell) || not ((cells c.cell).writer == 0)) → c.cell ≢ cell
    other c h e = elim (or_cases (ready (page_of c.cell)) (not ((cells c.cell).writer == 0)) h) [
      | inl r ↦ true_false (sym (ap (λ (m : ℕ). ready (page_of m)) e ∙ put_here w.ready (page_of cell) false) ∙ r)
      | inr written ↦
          let none =
          ap (λ (m : ℕ). (cells m).writer) e ∙ ap (λ (x : Held). x.writer) (put_here w.cell cell zero_cell) in
          both_ways ((cells c.cell).writer == 0) (not-true ((cells c.cell).writer == 0) written)
          (eq-eqb (cells c.cell).writer 0 none)
    ]

    still : (c : CellUse) → IsTrue (present' c) → IsTrue (present w c) × (cells c.cell ≡ w.cell c.cell)
    still c h =
        let parts = and_parts (c.since == use_at w.start w.given (page_of c.cell) w.length)
        (ready (page_of c.cell) || not ((cells c.cell).writer == 0)) h in
        let same = put_else w.cell cell zero_cell c.cell (other c parts.1) in (
          and_from (c.since == use_at w.start w.given (page_of c.cell) w.length)
              (w.ready (page_of c.cell) || not ((w.cell c.cell).writer == 0)) parts.0
              (elim (or_cases (ready (page_of c.cell)) (not ((cells c.cell).writer == 0)) parts.1) [
                | inl r ↦ or_left (w.ready (page_of c.cell)) (not ((w.cell c.cell).writer == 0))
                    (ready_before (page_of c.cell) r)
                | inr written ↦ or_right (w.ready (page_of c.cell)) (not ((w.cell c.cell).writer == 0))
                    (subst (λ (x : Held). IsTrue (not (x.writer == 0))) same written)
              ]),
          same,
        )
