-- Append keeps the invariant.
use Rattle.std.proofs.Common.{◌≡◌, ◌⊎◌, inl, inr, ℕ, zero, suc, ◌+◌, ◌*◌, ◌<◌, ◌≤◌, Bool, true, false, List, [], ◌∷◌, refl, ap, sym, ◌∙◌, subst, Some, arith}
use Rattle.std.specs.Prelude.{IsTrue, nat_le, not, ◌&&◌, ◌||◌, ◌==◌}
use Rattle.std.specs.List.{slice_get}
use Rattle.std.proofs.lemmas.Bool.{cases_eq, cases_Bool, and_parts, and_from, or_cases, or_left, or_right, eq-eqb, eqb-true, le-leb, not-true, both_ways}
use Rattle.mx_sdw.specs.Descriptors.{Descriptor, unknown_desc}
use Rattle.mx_reads.specs.Deeds.{CellUse, Deeds, Stores}
use Rattle.mx_reads.specs.Held.{Held, AreRight}
use Rattle.mx_reads.specs.KeepLaws.{IsNew}
use Rattle.mx_core.specs.Append.{CanAppend, with_changes, after_append}
use Rattle.mx_core.specs.Deeds.{deeds, front, present, holding}
use Rattle.mx_sdw.specs.Admissible.{IsAdmissible}
use Rattle.mx_core.specs.Invariant.{Good}
use Rattle.mx_core.specs.Laws.{AppendLaw}
use Rattle.mx_core.specs.Memory.{IsBare, IsMemory}
use Rattle.mx_core.specs.Pages.{page_of, covers, gives, covered_anew, use_at}
use Rattle.mx_core.specs.Put.{pick, put}
use Rattle.mx_core.specs.Shapes.{IsMarked, IsShaped}
use Rattle.mx_core.specs.World.{Entry, World}
use Rattle.mx_core.specs.declared.changes.Change.{Change}
use Rattle.mx_core.specs.declared.changes.Run.{Run}
use Rattle.mx_core.proofs.HistoryAccess.{append_access}
use Rattle.mx_core.proofs.Parts.{number_within, nothing_pending}
use Rattle.mx_core.proofs.Puts.{put_all, put_here, put_else, pick_true, pick_false}
use Rattle.mx_core.proofs.ReadLaws.{nothing_done, front_same, use_same, store_use, same_deeds}
use Rattle.mx_core.proofs.TraceLaws.{trace_longer}

-- what holds of the table and of each change holds of the table with the changes put in
changed_all : (P : ℕ → ℕ → Descriptor → Type 0) (changes : List Change) (table : ℕ → ℕ → Descriptor)
    → ((p n : ℕ) → P p n (table p n))
    → ((i : ℕ) (c : Change) → slice_get changes i ≡ Some c → P c.process c.segno c.desc) → (p n : ℕ)
    → P p n (with_changes changes table p n)
changed_all P [] table old new = old
changed_all P (c ∷ rest) table old new = changed_all P rest (put table c.process (put (table c.process) c.segno c.desc))
    (put_all (λ p f. (n : ℕ) → P p n (f n)) table c.process (put (table c.process) c.segno c.desc)
    (put_all (λ n d. P c.process n d) (table c.process) c.segno c.desc (new 0 c refl) (λ n e. old c.process n))
    (λ p e. old p))
    (λ i d h. new (suc i) d h)

-- a change that covers a page is one that covers it anew
covers_anew : (changes : List Change) (page i : ℕ) (c : Change) → slice_get changes i ≡ Some c
    → IsTrue (covers c.desc page) → IsTrue (covered_anew changes page)
covers_anew [] page i c at h = cc
covers_anew (x ∷ rest) page zero c at h = or_left (covers x.desc page) (covered_anew rest page)
    (subst (λ (y : Change). IsTrue (covers y.desc page)) (sym (same x c at)) h)
  where
    same : (a b : Change) → Some a ≡ Some b → a ≡ b
    same a b e = cc
covers_anew (x ∷ rest) page (suc i) c at h =
    or_right (covers x.desc page) (covered_anew rest page) (covers_anew rest page i c at h)

-- a page that the table with the changes covers, the table covers, or a change does anew
covered_by : (changes : List Change) (table : ℕ → ℕ → Descriptor) (page p n : ℕ)
    → IsTrue (covers (with_changes changes table p n) page)
    → IsTrue (covers (table p n) page) ⊎ IsTrue (covered_anew changes page)
covered_by changes table page = changed_all
    (λ p n d. IsTrue (covers d page) → IsTrue (covers (table p n) page) ⊎ IsTrue (covered_anew changes page)) changes
    table
    (λ p n h. inl h) (λ i c at h. inr (covers_anew changes page i c at h))

module _ (w : World) (p : ℕ) (changes : List Change) (given : List Run) (g : Good w)
    (can : CanAppend w p changes given) where
  rest : w.answered ≡ w.length
  rest = nothing_pending w g.access can.rest

  abbrev table : ℕ → ℕ → ℕ → Descriptor
  table = put w.table (w.length + 1) (with_changes changes (w.table w.length))

  abbrev entry : ℕ → Entry
  entry = put w.entry (w.length + 1) (record { process = p; mark = w.reported p })

  abbrev gave : ℕ → ℕ → Bool
  gave = put w.given (w.length + 1) (gives given)

  abbrev ready : ℕ → Bool
  ready page = gives given page || w.ready page

  abbrev clean : ℕ → Bool
  clean c = w.clean c && not (covered_anew changes (page_of c))

  old_table : (q u n : ℕ) → q ≤ w.length → table q u n ≡ w.table q u n
  old_table q u n l = ap (λ (t : ℕ → ℕ → Descriptor). t u n)
      (put_else w.table (w.length + 1) (with_changes changes (w.table w.length)) q (λ e. absurd (omega arith)))

  new_table : (u n : ℕ) → table (w.length + 1) u n ≡ with_changes changes (w.table w.length) u n
  new_table u n =
      ap (λ (t : ℕ → ℕ → Descriptor). t u n) (put_here w.table (w.length + 1) (with_changes changes (w.table w.length)))

  old_gave : (q : ℕ) → q ≤ w.length → gave q ≡ w.given q
  old_gave q l = put_else w.given (w.length + 1) (gives given) q (λ e. absurd (omega arith))

  gave_new : (page : ℕ) → gave (suc w.length) page ≡ gives given page
  gave_new page =
      let next : suc w.length ≡ w.length + 1 = omega arith in
      ap (λ (q : ℕ). gave q page) next ∙ ap (λ (f : ℕ → Bool). f page) (put_here w.given (w.length + 1) (gives given))

  -- what holds of every table, and of each change
  tables_all : (P : ℕ → ℕ → Descriptor → Type 0) → ((q u n : ℕ) → P u n (w.table q u n))
      → ((i : ℕ) (c : Change) → slice_get changes i ≡ Some c → P c.process c.segno c.desc) → (q u n : ℕ)
      → P u n (table q u n)
  tables_all P old new =
      put_all (λ q t. (u n : ℕ) → P u n (t u n)) w.table (w.length + 1) (with_changes changes (w.table w.length))
      (changed_all P changes (w.table w.length) (old w.length) new) (λ q e. old q)

  shaped : IsShaped (after_append w p changes given)
  shaped = let s = g.shape in record {
    limit = let l = can.limit in omega arith;
    admissible = tables_all (λ u n d. IsAdmissible d) s.admissible (λ i c at. (can.range.each i c at).desc);
    nobody = λ q n. tables_all (λ u m d. u ≡ 0 → d ≡ unknown_desc)
        (λ r u m e. subst (λ (v : ℕ). w.table r v m ≡ unknown_desc) (sym e) (s.nobody r m))
        (λ i c at e. let low = (can.range.each i c at).pair.process.low in absurd (omega arith)) q 0 n refl;
    more = tables_all (λ u n d. w.processes < u → d ≡ unknown_desc) s.more
        (λ i c at l. let high = (can.range.each i c at).pair.process.high in absurd (omega arith));
    beyond = tables_all (λ u n d. w.numbers ≤ n → d ≡ unknown_desc) s.beyond
        (λ i c at l. let under = (can.range.each i c at).pair.number in absurd (omega arith));
    words = s.words;
    idle_nobody = s.idle_nobody;
    idle_more = s.idle_more;
    reported = s.reported;
    marked = put_all (λ q e. w.start < q → q ≤ w.length + 1 → IsMarked w.processes w.trace e) w.entry (w.length + 1)
        (record { process = p; mark = w.reported p })
        (λ a b. record { low = can.range.process.low; high = can.range.process.high; within = s.reported p })
        (λ q n a b. s.marked q a (omega arith));
    memories = s.memories;
    notes = s.notes;
  }

  same_use_before : (page q : ℕ) → q ≤ w.length → use_at w.start gave page q ≡ use_at w.start w.given page q
  same_use_before page q l = use_same w.start w.given gave page q (λ r b. old_gave r (omega arith))

  -- points are within the answered length
  same_before : deeds (after_append w p changes given) ≡ deeds w
  same_before = λ i u. same_deeds w.start w.answered w.given gave (w.trace u)
      (λ page q l. same_use_before page q (omega (arith, rest))) (g.reads.within u) i

  use_next : (page : ℕ) → use_at w.start gave page (w.length + 1) ≡ pick (gives given page) (w.length + 1)
      (use_at w.start w.given page w.length)
  use_next page = elim (cases_Bool (gives given page)) [
    | inl gave_it ↦ ap (use_at w.start gave page) (sym next)
        ∙ pick_true (nat_le w.start w.length && gave (suc w.length) page) (suc w.length)
        (use_at w.start gave page w.length)
        (and_from (nat_le w.start w.length) (gave (suc w.length) page) (le-leb w.start w.length started)
        (gave_new page ∙ gave_it))
        ∙ next ∙ sym (pick_true (gives given page) (w.length + 1) (use_at w.start w.given page w.length) gave_it)
    | inr gave_not ↦ ap (use_at w.start gave page) (sym next)
        ∙ pick_false (nat_le w.start w.length && gave (suc w.length) page) (suc w.length)
        (use_at w.start gave page w.length)
        (neither (nat_le w.start w.length) (gave (suc w.length) page) (gave_new page ∙ gave_not))
        ∙ same_use_before page w.length (omega arith)
        ∙ sym (pick_false (gives given page) (w.length + 1) (use_at w.start w.given page w.length) gave_not)
  ]
    where
      next : suc w.length ≡ w.length + 1
      next = omega arith

      started : w.start ≤ w.length
      started = let a = g.access.start_low in let b = g.access.answered_low in omega arith

      neither : (a b : Bool) → b ≡ false → (a && b) ≡ false
      neither true b e = e
      neither false b e = refl

  -- what may be read then could be before, or its page is given out anew and nobody stored there since
  readable : (c : CellUse) → IsTrue (present (after_append w p changes given) c)
      → IsTrue (present w c) ⊎ IsNew (deeds w) c (holding w c)
  readable c h =
      let parts = and_parts (c.since == use_at w.start gave page (w.length + 1))
      (ready page || not ((w.cell c.cell).writer == 0)) h in
      let since = eqb-true c.since (use_at w.start gave page (w.length + 1)) parts.0 ∙ use_next page in
      elim (cases_Bool (gives given page)) [
        | inl gave_it ↦
            let anew =
            since ∙ pick_true (gives given page) (w.length + 1) (use_at w.start w.given page w.length) gave_it in
            let zero = g.memory.clean_zero c.cell (can.clear page gave_it c.cell refl) in inr (record {
              value = ap (λ (x : Held). x.value) zero;
              writer = ap (λ (x : Held). x.writer) zero;
              stamp = ap (λ (x : Held). x.stamp) zero;
              empty = λ u place value point stored.
                  let low = store_use w.start w.given (w.trace u) place c value point stored in
                  let within = g.reads.within u place (Stores c value point) stored in absurd (omega (arith, rest));
            })
        | inr gave_not ↦
            let same =
            since ∙ pick_false (gives given page) (w.length + 1) (use_at w.start w.given page w.length) gave_not in
            inl (and_from (c.since == use_at w.start w.given page w.length)
            (w.ready page || not ((w.cell c.cell).writer == 0))
            (eq-eqb c.since (use_at w.start w.given page w.length) same)
            (elim (or_cases (gives given page || w.ready page) (not ((w.cell c.cell).writer == 0)) parts.1) [
              | inl r ↦ or_left (w.ready page) (not ((w.cell c.cell).writer == 0))
                  (elim (or_cases (gives given page) (w.ready page) r) [
                    | inl gave_it ↦ absurd (both_ways (gives given page) gave_not gave_it)
                    | inr was ↦ was
                  ])
              | inr written ↦ or_right (w.ready page) (not ((w.cell c.cell).writer == 0)) written
            ]))
      ]
    where
      page : ℕ
      page = page_of c.cell

  read : AreRight (w.processes + 1) w.answered (deeds (after_append w p changes given)) (front w.start entry)
      (present (after_append w p changes given)) (holding w)
  read = subst (λ (done : Deeds). AreRight (w.processes + 1) w.answered done (front w.start entry)
      (present (after_append w p changes given)) (holding w)) (sym same_before)
      (nothing_done (w.processes + 1) w.answered w.answered (deeds w) (front w.start w.entry) (front w.start entry)
      (present w) (present (after_append w p changes given)) (holding w)
      (omega arith) (omega arith) same_front
      (λ u q l. let a = g.reads.low u q l in let b = same_front u q l in omega arith) readable g.reads)
    where
      same_front : (u q : ℕ) → q ≤ w.answered → front w.start entry u q ≡ front w.start w.entry u q
      same_front u q l = front_same w.start w.entry entry u q
          (λ r b. put_else w.entry (w.length + 1) (record { process = p; mark = w.reported p }) r
          (λ e. absurd (omega (arith, rest))))

  covered_old : (page q u n : ℕ) → q ≤ w.length → IsTrue (covers (table q u n) page)
      → IsTrue (covers (w.table q u n) page)
  covered_old page q u n l = subst (λ (d : Descriptor). IsTrue (covers d page)) (old_table q u n l)

  covered_new : (page u n : ℕ) → IsTrue (covers (table (w.length + 1) u n) page)
      → IsTrue (covers (w.table w.length u n) page) ⊎ IsTrue (covered_anew changes page)
  covered_new page u n h = covered_by changes (w.table w.length) page u n
      (subst (λ (d : Descriptor). IsTrue (covers d page)) (new_table u n) h)

  more_ready : (page : ℕ) → IsTrue (w.ready page) → IsTrue (ready page)
  more_ready page h = or_right (gives given page) (w.ready page) h

  was_clean : (c : ℕ) → IsTrue (clean c) → IsTrue (w.clean c)
  was_clean c h = (and_parts (w.clean c) (not (covered_anew changes (page_of c))) h).0

  remembered : IsMemory w.start w.answered (w.length + 1) table gave ready clean w.cell
  remembered = record {
    cells = g.memory.cells;
    clean_zero = λ c h. g.memory.clean_zero c (was_clean c h);
    clean_bare = λ c h u n k. g.memory.clean_bare c (was_clean c h) u n
        (covered_old (page_of c) w.answered u n (omega (arith, rest)) k);
    clean_bare_next = λ c h u n k. elim (covered_new (page_of c) u n k) [
      | inl was ↦ g.memory.clean_bare_next c (was_clean c h) u n was
      | inr anew ↦ both_ways (covered_anew changes (page_of c))
          (not-true (covered_anew changes (page_of c))
          (and_parts (w.clean c) (not (covered_anew changes (page_of c))) h).1) anew
    ];
    covered_ready = λ page u n k. more_ready page
        (g.memory.covered_ready page u n (covered_old page w.answered u n (omega (arith, rest)) k));
    covered_ready_next = λ page u n k. elim (covered_new page u n k) [
      | inl was ↦ more_ready page (g.memory.covered_ready_next page u n was)
      | inr anew ↦ can.covered page anew
    ];
    given_bare = λ before page low under h u n k.
        let k' = covered_old page before u n (omega arith) k in
        elim (cases_eq before w.length) [
          | inl e ↦
              let gave_it = sym (gave_new page) ∙ ap (λ (q : ℕ). gave (suc q) page) (sym e) ∙ h in
              let at : page_of (64 * page) ≡ page = omega arith in
              let bare = g.memory.clean_bare_next (64 * page) (can.clear page gave_it (64 * page) at) in
              subst (λ (q : ℕ). IsBare (w.table w.length) q) at bare u n
              (subst (λ (q : ℕ). IsTrue (covers (w.table q u n) page)) e k')
          | inr apart ↦ g.memory.given_bare before page low (omega arith)
              (subst (λ (f : ℕ → Bool). IsTrue (f page)) (old_gave (suc before) (omega arith)) h) u n k'
        ];
  }

  appended : Good (after_append w p changes given)
  appended = record {
    shape = shaped;
    access = append_access w p changes given g.access rest;
    traces = λ u. trace_longer w.start (w.process u).floor w.length (λ q n. w.table q u n) (λ q n. table q u n)
        (w.word u) (w.trace u)
        (λ q n l. old_table q u n l) (let a = (g.access.processes u).floor_high in omega (arith, rest))
        (λ n. number_within w.start w.answered w.length (λ q. w.table q u n) (w.told u n) (w.word u n)
        g.access.answered_low (g.access.words u n)) (g.traces u);
    reads = read;
    memory = remembered;
  }

pub append_law : AppendLaw
append_law w p changes given g can = appended w p changes given g can
