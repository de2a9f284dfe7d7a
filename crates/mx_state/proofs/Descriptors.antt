-- Which descriptors differ between two states.
use Rattle.std.proofs.Common.{◌≡◌, ◌≢◌, ◌⊎◌, ◌≤◌, ◌<◌, ◌-◌, ℕ, List, [], ◌∷◌, length, Option, Some, None, inl, inr, refl, ap, sym, ◌∙◌, subst, slice_get, get_or, arith}
use Rattle.std.proofs.lemmas.Bool.{cases_eq, cases_lt, ne_eqb}
use Rattle.std.proofs.lemmas.List.Elements.{Contains-get_or}
use Rattle.std.proofs.lemmas.Option.{slice_get_past}
use Rattle.std.specs.List.{Contains, All}
use Rattle.mx_core.specs.declared.changes.Change.{Change}
use Rattle.mx_sdw.specs.Admissible.{IsAdmissible}
use Rattle.mx_sdw.specs.Descriptors.{Descriptor, unknown_desc}
use Rattle.mx_hier.specs.Connected.{desc_for}
use Rattle.mx_object.specs.Objects.{PlainObjectMap}
use Rattle.mx_hier.specs.declared.branches.Segment.{Segment}
use Rattle.mx_hier.specs.Branches.{Hierarchy, segment_at, object_at}
use Rattle.mx_hier.specs.Objects.{gate_of}
use Rattle.mx_kst.specs.declared.lots.Lot.{Lot}
use Rattle.mx_kst.specs.declared.lots.Lot.TheVariants.{Free, Stack, Branch, Linkage}
use Rattle.mx_request.specs.Versions.{last_number}
use Rattle.mx_state.specs.declared.states.ProcessState.{ProcessState}
use Rattle.mx_state.specs.Changes.{change, AreChanges, IsBefore, IsBounded}
use Rattle.mx_state.specs.Laws.{OwnLastLaw}
use Rattle.mx_state.specs.Numbers.{stands_for}
use Rattle.mx_state.specs.Plain.{Plain, process_at}
use Rattle.mx_state.specs.Sound.{IsSound}
use Rattle.mx_state.specs.Table.{descriptor, process_desc, standing_desc}
use Rattle.mx_state.proofs.Lists.{Contains-one, nothing_contained, AllPairs-one, AllPairs-none}
use Rattle.mx_state.proofs.NumberLaws.{nothing_beyond, branch_at}
use Rattle.mx_state.proofs.SegmentLaws.{IsAsBefore, Nothing as NoUid}

pub process_at_place : (processes : List ProcessState) (p : ℕ) → 1 ≤ p → process_at processes p ≡ slice_get processes (p - 1)
process_at_place processes p low = rw (ne_eqb p 0 (λ e. omega arith)) refl

-- a process that is there
pub record IsThere (processes : List ProcessState) (p : ℕ) (process : ProcessState) : Type 0 where
  pub low : 1 ≤ p
  pub place : slice_get processes (p - 1) ≡ Some process

pub is_there : (processes : List ProcessState) (p : ℕ) (process : ProcessState) → process_at processes p ≡ Some process → IsThere processes p process
is_there processes p process e = by_zero (cases_eq p 0)
  where
    by_zero : (p ≡ 0) ⊎ (p ≡ 0 → ⊥) → IsThere processes p process
    by_zero (inl zero) =
        let nobody : process_at processes 0 ≡ Some process = subst (λ q. process_at processes q ≡ Some process) zero e in
        let none : ◌≡◌ {A = Option ProcessState} None (Some process) = nobody in
        cc
    by_zero (inr more) =
        let low : 1 ≤ p = omega arith in
        record { low = low; place = sym (process_at_place processes p low) ∙ e }

-- the descriptor of a process that is there
pub descriptor_at : (s : Plain) (p n : ℕ) (process : ProcessState) → process_at s.processes p ≡ Some process
    → descriptor s p n ≡ standing_desc s.hierarchy p process (stands_for process.known n)
descriptor_at s p n process e = ap (λ o. process_desc s.hierarchy p o n) e

-- a number beyond the last of its process
pub own_beyond : OwnLastLaw
own_beyond s p n process e beyond =
    descriptor_at s p n process e ∙ ap (standing_desc s.hierarchy p process) (nothing_beyond process.known n beyond)

-- each process has the numbers up to this last one
abbrev pub AreNumbered : ℕ → List ProcessState → Type 0
AreNumbered last processes = (i : ℕ) (process : ProcessState) → slice_get processes i ≡ Some process → process.known.last ≡ last

pub sound_numbered : (s : Plain) → IsSound s → AreNumbered (last_number s.version) s.processes
sound_numbered s sound i process e = (sound.processes i process e).last

unknown_of_nobody : (s : Plain) (p n : ℕ) → process_at s.processes p ≡ None → descriptor s p n ≡ unknown_desc
unknown_of_nobody s p n e = ap (λ o. process_desc s.hierarchy p o n) e

pub unknown_beyond : (s : Plain) (last p n : ℕ) → AreNumbered last s.processes → last < n → descriptor s p n ≡ unknown_desc
unknown_beyond s last p n numbered beyond = by_process (process_at s.processes p) refl
  where
    by_process : (o : Option ProcessState) → process_at s.processes p ≡ o → descriptor s p n ≡ unknown_desc
    by_process None e = unknown_of_nobody s p n e
    by_process (Some process) e =
        let own = numbered (p - 1) process (is_there s.processes p process e).place in
        own_beyond s p n process e (omega (arith, own, beyond))

nobody_past : (s : Plain) (p : ℕ) → length s.processes < p → process_at s.processes p ≡ None
nobody_past s p past =
    let low : 1 ≤ p = omega arith in
    process_at_place s.processes p low ∙ slice_get_past s.processes (p - 1) (omega arith)

pub nothing_changes : (s t : Plain) → ((p n : ℕ) → descriptor s p n ≡ descriptor t p n) → AreChanges s t []
nothing_changes s t same = record {
  each = λ p n d c. absurd (nothing_contained _ c);
  all = λ p n differ. absurd (differ (same p n));
  ordered = AllPairs-none IsBefore;
}

-- where nothing is different, nothing is told
pub nothing_told : (s : Plain) (changes : List Change) → AreChanges s s changes → changes ≡ []
nothing_told s [] are = refl
nothing_told s (c ∷ changes) are =
    let first = are.each c.process c.segno c.desc (0, omega arith, refl) in
    absurd (first.1 first.0)

-- the same processes, and another hierarchy in which the segments stand as before but some
pub same_unless : (but : ℕ → Type 0) (s : Plain) (h : Hierarchy) (p n : ℕ) → IsSound s → IsAsBefore but s.hierarchy h
    → ((process : ProcessState) (uid : ℕ) → process_at s.processes p ≡ Some process → stands_for process.known n ≡ Branch uid → but uid → ⊥)
    → descriptor s p n ≡ descriptor (record s { hierarchy = h }) p n
same_unless but s h p n sound before apart = by_process (process_at s.processes p) refl
  where
    by_standing : (process : ProcessState) → process_at s.processes p ≡ Some process → (x : Lot) → stands_for process.known n ≡ x
        → standing_desc s.hierarchy p process x ≡ standing_desc h p process x
    by_standing process e Free f = refl
    by_standing process e (Stack ring) f = refl
    by_standing process e (Branch uid) f =
        let there = is_there s.processes p process e in
        let below = (sound.processes (p - 1) process there.place).made n uid (branch_at process.known n uid f) in
        ap (λ (o : Option Segment). desc_for process.principal process.authorization (gate_of (object_at s.hierarchy uid)) o) (sym (before.same uid below (apart process uid e f)))
        ∙ ap (λ (o : Option PlainObjectMap). desc_for process.principal process.authorization (gate_of o) (segment_at h uid)) (sym (before.maps uid below))
    by_standing process e (Linkage of page brackets words) f = refl

    by_process : (o : Option ProcessState) → process_at s.processes p ≡ o → process_desc s.hierarchy p o n ≡ process_desc h p o n
    by_process None e = refl
    by_process (Some process) e = by_standing process e (stands_for process.known n) refl

pub quiet : (s : Plain) (h : Hierarchy) → IsSound s → IsAsBefore NoUid s.hierarchy h → AreChanges s (record s { hierarchy = h }) []
quiet s h sound before =
    nothing_changes s (record s { hierarchy = h }) (λ p n. same_unless NoUid s h p n sound before (λ process uid e f none. none))

-- a state whose hierarchy grows stays sound
pub grown_is_sound : (but : ℕ → Type 0) (s : Plain) (h : Hierarchy) → IsSound s → IsAsBefore but s.hierarchy h → IsSound (record s { hierarchy = h })
grown_is_sound but s h sound before = record {
  process_count = sound.process_count;
  mail_count = sound.mail_count;
  processes = λ i process e.
      let own = sound.processes i process e in
      record { known = own.known; last = own.last; made = λ k uid f. omega (arith, own.made k uid f, before.next) };
}

same_change : (p q n m : ℕ) (d e : Descriptor) → p ≡ q → n ≡ m → d ≡ e → change p n d ≡ change q m e
same_change p q n m d e a b c = rw (a, b, c) refl

-- one descriptor alone differs
pub one_changes : (s t : Plain) (p n : ℕ) (d : Descriptor) → descriptor t p n ≡ d → descriptor s p n ≢ d
    → ((q m : ℕ) → ((q ≡ p) × (m ≡ n) → ⊥) → descriptor s q m ≡ descriptor t q m)
    → AreChanges s t (change p n d ∷ [])
one_changes s t p n d new old others = record {
  each = λ q m e c. at_one q m e (Contains-one _ _ c);
  all = λ q m differ. found q m differ (cases_eq q p) (cases_eq m n);
  ordered = AllPairs-one IsBefore _;
}
  where
    at_one : (q m : ℕ) (e : Descriptor) → change p n d ≡ change q m e → (descriptor t q m ≡ e) × (descriptor s q m ≢ e)
    at_one q m e same =
        let P : Change → Type 0 = λ c. (descriptor t c.process c.segno ≡ c.desc) × (descriptor s c.process c.segno ≢ c.desc) in
        subst P same (new, old)

    found : (q m : ℕ) → descriptor s q m ≢ descriptor t q m → (q ≡ p) ⊎ (q ≡ p → ⊥) → (m ≡ n) ⊎ (m ≡ n → ⊥)
        → Contains (change p n d ∷ []) (change q m (descriptor t q m))
    found q m differ (inl a) (inl b) =
        (0, omega arith, same_change p q n m d (descriptor t q m) (sym a) (sym b) (rw (a, b) (sym new)))
    found q m differ (inl a) (inr b) = absurd (differ (others q m (λ e. b e.1)))
    found q m differ (inr a) b = absurd (differ (others q m (λ e. a e.0)))

-- a descriptor that differs is that of a number up to the last of a process that is there
record IsInRange (s : Plain) (last_segno p n : ℕ) : Type 0 where
  first : 1 ≤ p
  last : p ≤ length s.processes
  number : n ≤ last_segno

nobody_at_zero : (processes : List ProcessState) (p : ℕ) → p < 1 → process_at processes p ≡ None
nobody_at_zero processes p low = let zero : p ≡ 0 = omega arith in rw zero refl

in_range : (s t : Plain) (last p n : ℕ) → AreNumbered last s.processes → AreNumbered last t.processes → length t.processes ≡ length s.processes
    → descriptor s p n ≢ descriptor t p n → IsInRange s last p n
in_range s t last p n before after count differ = record {
  first = elim (cases_lt p 1) [
    | inl low ↦ absurd (unknown_both (unknown_of_nobody s p n (nobody_at_zero s.processes p low)) (unknown_of_nobody t p n (nobody_at_zero t.processes p low)))
    | inr more ↦ more
  ];
  last = elim (cases_lt (length s.processes) p) [
    | inl past ↦ absurd (unknown_both (unknown_of_nobody s p n (nobody_past s p past)) (unknown_of_nobody t p n (nobody_past t p (omega arith))))
    | inr within ↦ within
  ];
  number = elim (cases_lt last n) [
    | inl beyond ↦ absurd (unknown_both (unknown_beyond s last p n before beyond) (unknown_beyond t last p n after beyond))
    | inr within ↦ within
  ];
}
  where
    unknown_both : descriptor s p n ≡ unknown_desc → descriptor t p n ≡ unknown_desc → ⊥
    unknown_both e f = differ (e ∙ sym f)

-- changes to descriptors that a table may hold are those of a table
pub changes_are_bounded : (s t : Plain) (changes : List Change) → IsSound s → AreNumbered (last_number t.version) t.processes → t.version ≡ s.version
    → length t.processes ≡ length s.processes → AreChanges s t changes → All (λ c. IsAdmissible c.desc) changes → All (IsBounded (last_number s.version)) changes
changes_are_bounded s t changes sound numbered same count are admissible k d within =
    let c = get_or changes k d in
    let differs = are.each c.process c.segno c.desc (Contains-get_or changes k d within) in
    let range = in_range s t (last_number s.version) c.process c.segno (sound_numbered s sound)
    (subst (λ v. AreNumbered (last_number v) t.processes) same numbered) count (λ e. differs.1 (e ∙ differs.0)) in
    record { first = range.first; last = omega (arith, range.last, sound.process_count); number = range.number; admissible = admissible k d within }
