-- What a descriptor covers is held: so it is not free.
use Rattle.std.proofs.Common.{inl, inr, ◌≡◌, ◌+◌, ◌-◌, ◌*◌, ◌≤◌, ◌<◌, ℕ, zero, suc, Bool, true, false, cond, List, [], ◌∷◌, length, Option, Some, None, refl, sym, ap, subst, ◌∙◌, sum_by, slice_get, get_or, eq-eqb, arith}
use Rattle.std.proofs.lemmas.Bool.Decides.{nat_tests}
use Rattle.std.proofs.lemmas.List.Sums.{sum_by-cons}
use Rattle.std.proofs.lemmas.Bool.{cases_lt}
use Rattle.std.proofs.lemmas.List.Folds.{find_at}
use Rattle.std.proofs.lemmas.Option.{slice_get_within}
use Rattle.std.specs.Option.{option_and_then}
use Rattle.std.specs.List.{count_by, position_or_len}
use Rattle.std.specs.Prelude.{IsTrue, ◌==◌, ◌&&◌, nat_le, nat_lt}
use Rattle.mx_core.specs.Pages.{covers}
use Rattle.mx_sdw.specs.Admissible.{IsAdmissible}
use Rattle.mx_sdw.specs.Descriptors.{Descriptor, gone_desc, unknown_desc}
use Rattle.mx_sdw.specs.Rings.{Bracketing}
use Rattle.mx_hier.specs.Branches.{as_segment, branch_of, object_at, segment_at, segment_in}
use Rattle.mx_hier.specs.Connected.{desc_for}
use Rattle.mx_hier.specs.Objects.{gate_of}
use Rattle.mx_hier.specs.declared.branches.Branch.{Branch}
use Rattle.mx_hier.specs.declared.branches.Node.{Node}
use Rattle.mx_hier.specs.declared.branches.Node.TheVariants.{Directory as IsDirectory, Segment as IsSegment, Link as IsLink}
use Rattle.mx_hier.specs.declared.branches.Segment.{Segment}
use Rattle.mx_kst.specs.Lots.{lot_of}
use Rattle.mx_kst.specs.declared.lots.Lot.{Lot}
use Rattle.mx_kst.specs.declared.lots.Lot.TheVariants.{Free, Stack, Branch as KnownBranch, Linkage}
use Rattle.mx_pages.proofs.RunLaws.{in_run}
use Rattle.mx_pages.specs.Runs.{is_in_run, pages_for}
use Rattle.mx_state.specs.Numbers.{stands_for}
use Rattle.mx_state.specs.Pages.{AreFreePagesBare, ArePagesHeldOnce, free_count, holders, is_section_on, lies_on, segments_at, stacks_at}
use Rattle.mx_state.specs.Plain.{Plain, process_at}
use Rattle.mx_state.specs.Sound.{IsSound}
use Rattle.mx_state.specs.Table.{process_desc, stack_desc, standing_desc}
use Rattle.mx_state.specs.declared.states.ProcessState.{ProcessState}
use Rattle.mx_state.proofs.Descriptors.{IsThere, is_there}
use Rattle.mx_state.proofs.NumberLaws.{stands_within, nothing_beyond}

-- what passes is counted
pub counted_or : {X : Type 0} (p : X → Bool) (xs : List X) (n : ℕ) (d : X) → p d ≡ false → p (get_or xs n d) ≡ true
    → 1 ≤ count_by p xs
counted_or p [] n d fails holds = absurd (cc)
counted_or p (x ∷ xs) zero d fails holds =
    omega (arith, sum_by-cons (λ y. cond (p y) 1 0) x xs, ap {B = ℕ} (λ (b : Bool). cond b 1 0) holds)
counted_or p (x ∷ xs) (suc n) d fails holds =
    omega (arith, sum_by-cons (λ y. cond (p y) 1 0) x xs, counted_or p xs n d fails holds)

counted_at : {X : Type 0} (p : X → Bool) (xs : List X) (n : ℕ) (x : X) → slice_get xs n ≡ Some x → p x ≡ true
    → 1 ≤ count_by p xs
counted_at p [] n x e holds = absurd (cc)
counted_at p (y ∷ ys) zero x e holds =
    let same : y ≡ x = cc in
    omega (arith, sum_by-cons (λ z. cond (p z) 1 0) y ys, ap {B = ℕ} (λ z. cond (p z) 1 0) same, ap {B = ℕ} (λ (b : Bool). cond b 1 0) holds)
counted_at p (y ∷ ys) (suc n) x e holds =
    omega (arith, sum_by-cons (λ z. cond (p z) 1 0) y ys, counted_at p ys n x e holds)

pub summed_at : {X : Type 0} (f : X → ℕ) (xs : List X) (n : ℕ) (x : X) → slice_get xs n ≡ Some x → f x ≤ sum_by f xs
summed_at f [] n x e = absurd (cc)
summed_at f (y ∷ ys) zero x e = let same : y ≡ x = cc in omega (arith, sum_by-cons f y ys, ap f same)
summed_at f (y ∷ ys) (suc n) x e = omega (arith, sum_by-cons f y ys, summed_at f ys n x e)

not_true : IsTrue false → ⊥
not_true h = cc

both_true : (a b : Bool) → IsTrue (a && b) → (a ≡ true) × (b ≡ true)
both_true true true h = (refl, refl)
both_true true false h = absurd (not_true h)
both_true false b h = absurd (not_true h)

-- a descriptor covers the pages from its first on in which it has words
covered_low : (d : Descriptor) (page : ℕ) → IsTrue (covers d page) → d.page ≤ page
covered_low d page h =
    let t = (both_true (nat_le d.page page) (nat_lt (64 * page) (64 * d.page + d.bound)) h).0 in grind (arith, nat_tests)

covered_high : (d : Descriptor) (page : ℕ) → IsTrue (covers d page) → 64 * page < 64 * d.page + d.bound
covered_high d page h =
    let t = (both_true (nat_le d.page page) (nat_lt (64 * page) (64 * d.page + d.bound)) h).1 in grind (arith, nat_tests)

covers_nothing : (d : Descriptor) (page : ℕ) → d.page ≡ 0 → d.bound ≡ 0 → IsTrue (covers d page) → ⊥
covers_nothing d page first none h = let z = covered_high d page h in absurd (omega arith)

pub segment_held : (branches : List Branch) (uid page : ℕ) (segment : Segment) → segment_in branches uid ≡ Some segment
    → is_in_run (pages_for segment.words) segment.page page ≡ true → 1 ≤ segments_at branches page
segment_held branches uid page segment is within = by_branch (branch_of branches uid) refl is
  where
    lies : (node : Node) → as_segment node ≡ Some segment → lies_on page node ≡ true
    lies (IsSegment other) e =
        let same : other ≡ segment = cc in
        subst (λ (x : Segment). is_in_run (pages_for x.words) x.page page ≡ true) (sym same) within
    lies (IsDirectory directory) e = absurd (cc)
    lies (IsLink target) e = absurd (cc)

    by_branch : (o : Option Branch) → branch_of branches uid ≡ o
        → option_and_then (λ (branch : Branch). as_segment branch.node) o ≡ Some segment → 1 ≤ segments_at branches page
    by_branch None e s = absurd (cc)
    by_branch (Some branch) e s = counted_at (λ (b : Branch). lies_on page b.node) branches
        (position_or_len (λ (b : Branch). b.uid == uid) branches) branch
        (sym (find_at (λ (b : Branch). b.uid == uid) branches) ∙ e) (lies branch.node s)

in_pages : (first words page : ℕ) → first ≤ page → 64 * page < 64 * first + words
    → is_in_run (pages_for words) first page ≡ true
in_pages first words page low high = in_run (pages_for words) first page (low, within)
  where
    within : page < first + pages_for words
    within = omega arith

module _ (s : Plain) (sound : IsSound s) (p n page : ℕ) where
  by_segment : (who : ProcessState) (uid : ℕ) (o : Option Segment) → segment_at s.hierarchy uid ≡ o
      → IsTrue (covers (desc_for who.principal who.authorization (gate_of (object_at s.hierarchy uid)) o) page)
      → 1 ≤ holders s page
  by_segment who uid None e h = absurd (covers_nothing gone_desc page refl refl h)
  by_segment who uid (Some segment) e h =
      let d : Descriptor = desc_for who.principal who.authorization (gate_of (object_at s.hierarchy uid)) (Some segment) in
      let one : 1 ≤ segments_at s.hierarchy.branches page = segment_held s.hierarchy.branches uid page segment e
      (in_pages segment.page segment.words page (covered_low d page h) (covered_high d page h)) in omega arith

  section_lot : (process : ProcessState) (of own words : ℕ) (brackets : Bracketing)
      → stands_for process.known n ≡ Linkage of own brackets words
      → lot_of process.known.lots n ≡ Linkage of own brackets words
  section_lot process of own words brackets e = elim (cases_lt process.known.last n) [
    | inl beyond ↦ absurd (let free = sym (nothing_beyond process.known n beyond) ∙ e in cc)
    | inr within ↦ sym (stands_within process.known n within) ∙ e
  ]

  by_lot : (process : ProcessState) → IsThere s.processes p process → (lot : Lot) → stands_for process.known n ≡ lot
      → IsAdmissible (standing_desc s.hierarchy p process lot)
      → IsTrue (covers (standing_desc s.hierarchy p process lot) page) → 1 ≤ holders s page
  by_lot process there Free e a h = absurd (covers_nothing unknown_desc page refl refl h)
  by_lot process there (Stack ring) e a h =
      let low = covered_low (stack_desc p ring) page h in
      let high = covered_high (stack_desc p ring) page h in
      let some = there.low in
      let place = slice_get_within s.processes (p - 1) process there.place in
      let most = (a.segment refl).range.ring in
      let below : page < 8 * length s.processes = omega arith in
      let stack : stacks_at s.processes page ≡ 1 = is_stack below in omega arith
    where
      is_stack : page < 8 * length s.processes → stacks_at s.processes page ≡ 1
      is_stack below = grind (arith, nat_tests)
  by_lot process there (KnownBranch uid) e a h = by_segment process uid (segment_at s.hierarchy uid) refl h
  by_lot process there (Linkage of own brackets words) e a h =
      let low = covered_low (standing_desc s.hierarchy p process (Linkage of own brackets words)) page h in
      let high = covered_high (standing_desc s.hierarchy p process (Linkage of own brackets words)) page h in
      let lot = section_lot process of own words brackets e in
      let most = ((sound.processes (p - 1) process there.place).known.section_within n of own words brackets lot).most in
      let here : own ≡ page = omega arith in
      let on : is_section_on page (lot_of process.known.lots n) ≡ true =
      ap (is_section_on page) lot ∙ eq-eqb own page here in
      let one = counted_or (is_section_on page) process.known.lots n Free refl on in
      let all = summed_at (λ (x : ProcessState). count_by (is_section_on page) x.known.lots) s.processes (p - 1) process
      there.place in omega arith

  by_process : (o : Option ProcessState) → process_at s.processes p ≡ o
      → IsAdmissible (process_desc s.hierarchy p o n) → IsTrue (covers (process_desc s.hierarchy p o n) page)
      → 1 ≤ holders s page
  by_process None e a h = absurd (covers_nothing unknown_desc page refl refl h)
  by_process (Some process) e a h =
      by_lot process (is_there s.processes p process e) (stands_for process.known n) refl a h

pub free_bare : (s : Plain) → IsSound s → ArePagesHeldOnce s → AreFreePagesBare s
free_bare s sound held p n page admissible within free covered =
    let one = by_process s sound p n page (process_at s.processes p) refl admissible covered in
    let most = held page within in
    let count : free_count s page ≡ 1 = ap {B = ℕ} (λ (b : Bool). cond b 1 0) free in absurd (omega arith)
