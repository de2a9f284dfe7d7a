-- The conditions of the steps can be decided in a world of this shape: beyond its processes and numbers nothing
-- changes.
use Rattle.std.proofs.Common.{◌≡◌, ◌⊎◌, inl, inr, ℕ, ◌+◌, ◌≤◌, Bool, List, refl, ap, sym, ◌∙◌, Option, Some, None, arith}
use Rattle.std.specs.Prelude.{IsTrue}
use Rattle.std.proofs.lemmas.Bool.{cases_eq, cases_lt, cases_Bool, both_ways}
use Rattle.mx_sdw.specs.declared.operations.Op.{Op}
use Rattle.mx_reads.proofs.Decide.{first_below}
use Rattle.mx_core.specs.Acknowledging.{HasChanged, HasLeft}
use Rattle.mx_core.specs.AssociativeMemory.{recalled, HasRecall}
use Rattle.mx_core.specs.FirstFailing.{IsFirstNot}
use Rattle.mx_core.specs.Causes.{StruckAt, AcknowledgedAt}
use Rattle.mx_core.specs.Cells.{IsHolding}
use Rattle.mx_core.specs.Memory.{IsBare}
use Rattle.mx_core.specs.Notes.{IsNoted}
use Rattle.mx_core.specs.Notions.{IsProcess, IsPair, IsChanged}
use Rattle.mx_core.specs.Pages.{covers}
use Rattle.mx_core.specs.Shapes.{IsShaped}
use Rattle.mx_core.specs.Striking.{IsFaulty}
use Rattle.mx_core.specs.Words.{DescriptorWord, Valid, Fault, Triple, Asked}
use Rattle.mx_core.specs.World.{Stage, Outside, Entering, Ready, Process, Note, World}
use Rattle.mx_core.proofs.Descriptors.{same_descriptor}
use Rattle.mx_core.proofs.OpeningLaw.{unknown_bare}

abbrev pub Dec : Type 0 → Type 0
Dec A = A ⊎ (A → ⊥)

pub record FirstFailing (holds : ℕ → Type 0) : Type 0 where
  pub at : ℕ
  pub first : IsFirstNot holds at

-- where it holds from a number on, it holds everywhere, or there is a first number at which it fails
pub all_or_first : (holds : ℕ → Type 0) (n : ℕ) → ((i : ℕ) → Dec (holds i)) → ((i : ℕ) → n ≤ i → holds i)
    → ((i : ℕ) → holds i) ⊎ FirstFailing holds
all_or_first holds n d beyond =
    elim (first_below (λ i. holds i → ⊥) n (λ i. elim (d i) [ inl h ↦ inr (λ x. x h) | inr x ↦ inl x ])) [
      | inl f ↦ inr (record {
        at = f.at;
        first = record { fails = f.has; before = λ j l. elim (d j) [ inl h ↦ h | inr x ↦ absurd (f.none j l x) ] };
      })
      | inr none ↦ inl (λ i. elim (cases_lt i n) [
        | inl l ↦ elim (d i) [ inl h ↦ h | inr x ↦ absurd (none i l x) ]
        | inr l ↦ beyond i l
      ])
    ]

pub all_dec : (holds : ℕ → Type 0) (n : ℕ) → ((i : ℕ) → Dec (holds i)) → ((i : ℕ) → n ≤ i → holds i)
    → Dec ((i : ℕ) → holds i)
all_dec holds n d beyond =
    elim (all_or_first holds n d beyond) [ inl all ↦ inl all | inr f ↦ inr (λ all. f.first.fails (all f.at)) ]

pub process_dec : (w : World) (p : ℕ) → Dec (IsProcess w p)
process_dec w p = elim (cases_lt 0 p) [
  | inr l ↦ inr (λ is. let low = is.low in absurd (omega arith))
  | inl l ↦ elim (cases_lt w.processes p) [
    | inl m ↦ inr (λ is. let high = is.high in absurd (omega arith))
    | inr m ↦ inl (record { low = l; high = m })
  ]
]

pub pair_dec : (w : World) (p n : ℕ) → Dec (IsPair w p n)
pair_dec w p n = elim (process_dec w p) [
  | inr x ↦ inr (λ is. x is.process)
  | inl is ↦ elim (cases_lt n w.numbers) [
    | inr l ↦ inr (λ pair. let number = pair.number in absurd (omega arith))
    | inl l ↦ inl (record { process = is; number = l })
  ]
]

pub changed_dec : (w : World) (p n : ℕ) → Dec (IsChanged w p n)
changed_dec w p n = elim (same_descriptor (w.table w.length p n) (w.table w.answered p n))
    [ inl same ↦ inr (λ c. c same) | inr c ↦ inl c ]

fault_dec : (word : DescriptorWord) (k : ℕ) → Dec (word ≡ Fault k)
fault_dec (Valid number desc) k = inr (λ e. cc)
fault_dec (Fault number) k = elim (cases_eq number k) [ inl e ↦ inl (ap Fault e) | inr x ↦ inr (λ e. x cc) ]

struck_dec : (w : World) (p n : ℕ) → Dec (StruckAt w p n)
struck_dec w p n = elim (changed_dec w p n) [
  | inr same ↦ inl (λ c. absurd (same c))
  | inl changed ↦ elim (fault_dec (w.word p n) w.length) [ inl e ↦ inl (λ c. e) | inr x ↦ inr (λ h. x (h changed)) ]
]

module _ (w : World) (s : IsShaped w) where
  still_number : (p n : ℕ) → w.numbers ≤ n → IsChanged w p n → ⊥
  still_number p n l c = c (s.beyond w.length p n l ∙ sym (s.beyond w.answered p n l))

  still_process : (p n : ℕ) → w.processes + 1 ≤ p → IsChanged w p n → ⊥
  still_process p n l c = c (s.more w.length p n (omega arith) ∙ sym (s.more w.answered p n (omega arith)))

  pub struck_all : (p : ℕ) → ((n : ℕ) → StruckAt w p n) ⊎ FirstFailing (StruckAt w p)
  struck_all p = all_or_first (StruckAt w p) w.numbers (struck_dec w p) (λ n l c. absurd (still_number p n l c))

  pub struck_everywhere : ((p n : ℕ) → StruckAt w p n) ⊎ FirstFailing (λ p. (n : ℕ) → StruckAt w p n)
  struck_everywhere = all_or_first (λ p. (n : ℕ) → StruckAt w p n) (w.processes + 1)
      (λ p. all_dec (StruckAt w p) w.numbers (struck_dec w p) (λ n l c. absurd (still_number p n l c)))
      (λ p l n c. absurd (still_process p n l c))

  pub has_changed_dec : (p : ℕ) → Dec (HasChanged w p)
  has_changed_dec p = elim (all_or_first (λ n. IsChanged w p n → ⊥) w.numbers
      (λ n. elim (changed_dec w p n) [ inl c ↦ inr (λ x. x c) | inr x ↦ inl x ]) (λ n l. still_number p n l)) [
        | inl none ↦ inr (λ h. none h.segno h.changed)
        | inr f ↦ inl (record { segno = f.at; changed = λ e. f.first.fails (λ c. c e) })
      ]

  acknowledged_dec : (p : ℕ) → Dec (AcknowledgedAt w p)
  acknowledged_dec p = elim (cases_Bool (w.process p).acknowledged) [
    | inl e ↦ inl (λ n c. e)
    | inr e ↦ elim (has_changed_dec p) [
      | inl h ↦ inr (λ all. both_ways (w.process p).acknowledged e (all h.segno h.changed))
      | inr none ↦ inl (λ n c. absurd (none (record { segno = n; changed = c })))
    ]
  ]

  pub acknowledged_all : ((p : ℕ) → AcknowledgedAt w p) ⊎ FirstFailing (AcknowledgedAt w)
  acknowledged_all =
      all_or_first (AcknowledgedAt w) (w.processes + 1) acknowledged_dec (λ p l n c. absurd (still_process p n l c))

  pub bare_dec : (page : ℕ) → Dec (IsBare (w.table w.length) page)
  bare_dec page = all_dec (λ p. (n : ℕ) → IsTrue (covers (w.table w.length p n) page) → ⊥) (w.processes + 1)
      (λ p. all_dec (λ n. IsTrue (covers (w.table w.length p n) page) → ⊥) w.numbers
      (λ n. elim (cases_Bool (covers (w.table w.length p n) page))
      [ inl e ↦ inr (λ x. x e) | inr e ↦ inl (λ h. both_ways (covers (w.table w.length p n) page) e h) ])
      (λ n l. unknown_bare (w.table w.length p n) page (s.beyond w.length p n l)))
      (λ p l n. unknown_bare (w.table w.length p n) page (s.more w.length p n (omega arith)))

pub stage_dec : (a b : Stage) → Dec (a ≡ b)
stage_dec Outside Outside = inl refl
stage_dec Entering Entering = inl refl
stage_dec Ready Ready = inl refl
stage_dec Outside Entering = inr (λ e. cc)
stage_dec Outside Ready = inr (λ e. cc)
stage_dec Entering Outside = inr (λ e. cc)
stage_dec Entering Ready = inr (λ e. cc)
stage_dec Ready Outside = inr (λ e. cc)
stage_dec Ready Entering = inr (λ e. cc)

pub left_dec : (o : Process) → Dec (HasLeft o)
left_dec o = elim (cases_eq o.flag 0) [
  | inl e ↦ inl (inl e)
  | inr up ↦ elim (cases_eq o.look 0) [
    | inl none ↦ inr (λ h. elim h [ inl e ↦ up e | inr x ↦ x.0 none ])
    | inr some ↦ elim (cases_eq o.flag o.look) [
      | inl same ↦ inr (λ h. elim h [ inl e ↦ up e | inr x ↦ x.1 same ])
      | inr other ↦ inl (inr (some, other))
    ]
  ]
]

faulty_by : (w : World) (p n : ℕ) (word : DescriptorWord) → w.word p n ≡ word → Dec (IsFaulty w p n)
faulty_by w p n (Fault number) e = inl (record { by = number; at = e })
faulty_by w p n (Valid number desc) e = inr (λ f. unlike f.by (sym e ∙ f.at))
  where
    unlike : (k : ℕ) → Valid number desc ≡ Fault k → ⊥
    unlike k h = cc

pub faulty_dec : (w : World) (p n : ℕ) → Dec (IsFaulty w p n)
faulty_dec w p n = faulty_by w p n (w.word p n) refl

recall_by : (memory : List Triple) (n : ℕ) (o : Option Triple) → recalled n memory ≡ o → Dec (HasRecall memory n)
recall_by memory n (Some u) e = inl (record { triple = u; at = e })
recall_by memory n None e = inr (λ h. nothing h.triple (sym e ∙ h.at))
  where
    nothing : (u : Triple) → None ≡ Some u → ⊥
    nothing u h = cc

pub recall_dec : (memory : List Triple) (n : ℕ) → Dec (HasRecall memory n)
recall_dec memory n = recall_by memory n (recalled n memory) refl

noted_by : (w : World) (i : ℕ) (o : Option Note) → w.note i ≡ o → Dec (IsNoted w i)
noted_by w i (Some note) e = inl (record { note = note; at = e })
noted_by w i None e = inr (λ h. nothing h.note (sym e ∙ h.at))
  where
    nothing : (u : Note) → None ≡ Some u → ⊥
    nothing u h = cc

pub noted_dec : (w : World) (i : ℕ) → Dec (IsNoted w i)
noted_dec w i = noted_by w i (w.note i) refl

holding_by : (w : World) (p : ℕ) (asks : Op → Bool) (basis : Option Triple) (hold : Option Asked)
    → (w.process p).basis ≡ basis → (w.process p).hold ≡ hold
    → Dec (IsHolding w p asks)
holding_by w p asks None hold e f = inr (λ h. nothing h.on (sym e ∙ h.basis))
  where
    nothing : (u : Triple) → None ≡ Some u → ⊥
    nothing u h = cc
holding_by w p asks (Some u) None e f = inr (λ h. nothing h.asked (sym f ∙ h.hold))
  where
    nothing : (a : Asked) → None ≡ Some a → ⊥
    nothing a h = cc
holding_by w p asks (Some u) (Some a) e f = elim (cases_Bool (asks a.op)) [
  | inl t ↦ inl (record { on = u; asked = a; basis = e; hold = f; operation = t })
  | inr t ↦ inr (λ h. both_ways (asks a.op) t
      (ap (λ (x : Asked). asks x.op) (same a h.asked (sym f ∙ h.hold)) ∙ h.operation))
]
  where
    same : (x y : Asked) → Some x ≡ Some y → x ≡ y
    same x y h = cc

pub holding_dec : (w : World) (p : ℕ) (asks : Op → Bool) → Dec (IsHolding w p asks)
holding_dec w p asks = holding_by w p asks (w.process p).basis (w.process p).hold refl refl
