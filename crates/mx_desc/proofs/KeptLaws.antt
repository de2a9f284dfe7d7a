-- The supervisor's slots stay right through its steps.
use Rattle.std.proofs.Common.{◌≡◌, ◌≢◌, ◌⊎◌, inl, inr, ℕ, ◌+◌, ◌<◌, ◌≤◌, true, List, [], length, Option, Some, None, refl, sym, ap, ◌∙◌, subst, arith, rules}
use Rattle.std.proofs.lemmas.Bool.{cases_eq}
use Rattle.std.specs.Prelude.{is_some, IsSome}
use Rattle.atomic_table.specs.Seated.{TableId}
use Rattle.mx_core.specs.Append.{with_changes}
use Rattle.mx_core.specs.Put.{put}
use Rattle.mx_core.proofs.Puts.{put_here}
use Rattle.mx_core.specs.declared.changes.Change.{Change}
use Rattle.mx_core.specs.declared.changes.Run.{Run}
use Rattle.mx_core.specs.declared.words.DescriptorWord.{DescriptorWord}
use Rattle.mx_core.specs.declared.words.DescriptorWord.TheVariants.{Valid, Fault}
use Rattle.mx_rule.specs.Appending.{MayAppend, appended_view}
use Rattle.mx_rule.specs.Openings.{ArePlaced}
use Rattle.mx_rule.specs.Shown.{base_of, office_of, tables_of, words_of}
use Rattle.mx_rule.specs.Striking.{settled_view, struck_view}
use Rattle.mx_rule.specs.declared.layout.Layout.{Layout}
use Rattle.mx_rule.specs.declared.views.EntryView.{EntryView}
use Rattle.mx_rule.specs.declared.views.SuperView.{SuperView}
use Rattle.mx_rule.specs.declared.views.WordAt.{WordAt}
use Rattle.mx_sdw.specs.Descriptors.{Descriptor, unknown_desc}
use Rattle.mx_desc.specs.Openings.{IsOpening}
use Rattle.mx_desc.specs.Slots.{AreSlotted, IsSlot, ShowsSlots, fault_in, is_fault}
use Rattle.mx_desc.specs.Supers.{AreKept, IsSuper}
use Rattle.mx_desc.specs.declared.slots.Slot.{Slot}
use Rattle.mx_desc.proofs.SlotLaws.{put_at, put_elsewhere}

-- slots that keep such faults keep faults that are the same
same_faults : (y : Layout) (table : ℕ → ℕ → Descriptor) (f g : ℕ → ℕ → Option ℕ) (slots : List Slot)
    → ((p n : ℕ) → f p n ≡ g p n) → ShowsSlots y table f slots → ShowsSlots y table g slots
same_faults y table f g slots same shows = record {
  count = shows.count;
  each = λ p n s pair at. subst (λ (x : Option ℕ). IsSlot (table p n) x s) (same p n) (shows.each p n s pair at);
}

-- the fault of a word that was put is put among the faults
faults_far : (w : ℕ → ℕ → DescriptorWord) (p n : ℕ) (x : DescriptorWord) (q m : ℕ) → (q ≢ p) ⊎ (m ≢ n)
    → put (λ i k. fault_in (w i k)) p (put (λ k. fault_in (w p k)) n (fault_in x)) q m
    ≡ fault_in (put w p (put (w p) n x) q m)
faults_far w p n x q m apart = put_elsewhere (λ i k. fault_in (w i k)) p n (fault_in x) q m apart
    ∙ sym (ap fault_in (put_elsewhere w p n x q m apart))

put_faults : (w : ℕ → ℕ → DescriptorWord) (p n : ℕ) (x : DescriptorWord) (q m : ℕ)
    → put (λ i k. fault_in (w i k)) p (put (λ k. fault_in (w p k)) n (fault_in x)) q m
    ≡ fault_in (put w p (put (w p) n x) q m)
put_faults w p n x q m = elim (cases_eq q p) [
  | inr ne ↦ faults_far w p n x q m (inl ne)
  | inl e ↦ elim (cases_eq m n) [
    | inr ne ↦ faults_far w p n x q m (inr ne)
    | inl e' ↦ subst (λ (z : ℕ × ℕ). put (λ i k. fault_in (w i k)) p (put (λ k. fault_in (w p k)) n (fault_in x))
        z.0 z.1
        ≡ fault_in (put w p (put (w p) n x) z.0 z.1)) (λ i. (sym e i, sym e' i))
        (put_at (λ i k. fault_in (w i k)) p n (fault_in x) ∙ sym (ap fault_in (put_at w p n x)))
  ]
]

module _ {S : Type 0} (y : Layout) (v : SuperView S) (slots : List Slot) where
  pub still_kept : (u : SuperView S) → (office_of u).table u.length ≡ (office_of v).table v.length
      → (office_of u).word ≡ (office_of v).word → AreKept y v slots → AreKept y u slots
  still_kept u tables words kept =
      subst (λ (z : (ℕ → ℕ → Descriptor) × (ℕ → ℕ → DescriptorWord)). ShowsSlots y z.0
      (λ p n. fault_in (z.1 p n)) slots)
      (λ i. (sym tables i, sym words i)) kept

  pub struck_kept : (p n : ℕ) (slots' : List Slot)
      → ShowsSlots y ((office_of v).table v.length) (put (λ i k. fault_in ((office_of v).word i k)) p
      (put (λ k. fault_in ((office_of v).word p k)) n (Some v.length))) slots' → AreKept y (struck_view p n v) slots'
  struck_kept p n slots' shows = same_faults y ((office_of v).table v.length) _ _ slots'
      (put_faults (office_of v).word p n (Fault v.length)) shows

  pub settled_kept : (p n by : ℕ) (slots' : List Slot)
      → ShowsSlots y ((office_of v).table v.length) (put (λ i k. fault_in ((office_of v).word i k)) p
      (put (λ k. fault_in ((office_of v).word p k)) n None)) slots' → AreKept y (settled_view p n by v) slots'
  settled_kept p n by slots' shows = same_faults y ((office_of v).table v.length) _ _ slots'
      (put_faults (office_of v).word p n (Valid by ((office_of v).table v.length p n))) shows

  pub appended_kept : (p : ℕ) (changes : List Change) (given : List Run) (entry : S) (slots' : List Slot)
      → ShowsSlots y (with_changes changes ((office_of v).table v.length)) (λ i k. fault_in ((office_of v).word i k))
      slots' → AreKept y (appended_view p changes given entry v) slots'
  appended_kept p changes given entry slots' shows =
      subst (λ (t : ℕ → ℕ → Descriptor). ShowsSlots y t (λ i k. fault_in ((office_of v).word i k)) slots')
      (sym (put_here (office_of v).table (v.length + 1) (with_changes changes ((office_of v).table v.length)))) shows

  pub are_slotted : (p : ℕ) (changes : List Change) (given : List Run) → v.processes ≡ y.processes
      → v.numbers ≡ y.numbers → MayAppend (office_of v) p changes given → AreSlotted y changes
  are_slotted p changes given processes numbers may i c at =
      let a = may.each i c at in (
        record {
          low = a.0;
          high = subst (λ (k : ℕ). c.process ≤ k) processes a.1;
          number = subst (λ (k : ℕ). c.segno < k) numbers a.2;
        },
        a.3,
      )

-- what a slot tells of a word
pub is_fault_by : (word : DescriptorWord) (number : ℕ) → Some number ≡ fault_in word → word ≡ Fault number
is_fault_by (Fault by) number e = cc
is_fault_by (Valid by desc) number e = cc

pub some_there : (word : DescriptorWord) (fault : Option ℕ) → is_fault word ≡ true → fault ≡ fault_in word
    → IsSome fault
some_there (Fault by) fault is e = subst IsSome (sym e) (search rules)
some_there (Valid by desc) fault is e = cc

pub same_fault : (a b : ℕ) → Fault a ≡ Fault b → a ≡ b
same_fault a b e = cc

pub some_fault : (word : DescriptorWord) → is_some (fault_in word) ≡ is_fault word
some_fault (Fault number) = refl
some_fault (Valid number desc) = refl

-- the supervisor is right at another view, which is the same
pub moved : {E : Type 0} (table place : TableId) (layout y : Layout) (start : ℕ) (w u : SuperView E) (slots : List Slot)
    → u ≡ w → IsSuper table place layout y start w slots → IsSuper table place layout y start u slots
moved table place layout y start w u slots e is =
    subst (λ (v : SuperView _). IsSuper table place layout y start v slots) (sym e) is

-- slots of the opening
abbrev pub AreBlank : Layout → List Change → List Slot → Type 0
AreBlank y base slots = ShowsSlots y (with_changes base (λ p n. unknown_desc)) (λ p n. None) slots

pub blank_kept : {S : Type 0} (y : Layout) (v : SuperView S) (slots : List Slot) → v.history ≡ [] → v.words ≡ []
    → AreBlank y v.base slots → AreKept y v slots
blank_kept {S = S} y v slots history words blank =
    subst (λ (z : List (EntryView S) × List WordAt). ShowsSlots y (tables_of (base_of v.base) z.0 v.length)
    (λ p n. fault_in (words_of v.start (base_of v.base) z.1 p n)) slots) (λ i. (sym history i, sym words i)) blank

pub are_placed : (y : Layout) (base : List Change) → ArePlaced y base → AreSlotted y base
are_placed y base placed i c at =
    let a = placed i c at in (record { low = a.low; high = a.high; number = a.number }, a.desc)

pub opening_counted : {S : Type 0} (start : ℕ) (v : SuperView S) → IsOpening start v
    → start + length v.history ≡ v.length
opening_counted {S = S} start v o =
    ap (λ (h : List (EntryView S)). start + length h) o.none ∙ zero_more start ∙ sym o.still
  where
    zero_more : (n : ℕ) → n + 0 ≡ n
    zero_more n = omega arith
