-- Runs as lists of parts: all reads are right exactly where each part has its choices.
use Rattle.std.proofs.Common.{◌≡◌, ◌↔◌, inl, inr, ℕ, zero, suc, ◌+◌, ◌<◌, ◌≤◌, List, [], ◌∷◌, Option, Some, None, IsSome, length, refl, ap, sym, subst, arith}
use Rattle.std.specs.List.{slice_index_or}
use Rattle.std.proofs.lemmas.Bool.{cases_eq, cases_lt}
use Rattle.mx_reads.specs.Deeds.{Deed, Deeds}
use Rattle.mx_reads.specs.ReadRule.{AreRightReads}
use Rattle.mx_stores.specs.Breach.{IsBreach, OneBreachLaw}
use Rattle.mx_stores.specs.Deciding.{AreRightTo, IsWrong, choices}
use Rattle.mx_stores.specs.Known.{IsKnown}
use Rattle.mx_stores.specs.Parts.{deeds_of}
use Rattle.mx_stores.specs.StoreLaws.{AreBelow}
use Rattle.mx_stores.proofs.ChoicesInOrder.{right_reads_law, right_to_law}

past : (parts : List (List Deed)) (u : ℕ) → length parts ≤ u → slice_index_or parts u [] ≡ []
past [] u l = refl
past (part ∷ parts) zero l = absurd (omega arith)
past (part ∷ parts) (suc u) l = past parts u (omega arith)

pub parts_below : (parts : List (List Deed)) → AreBelow (length parts) (deeds_of parts)
parts_below parts u l = ap (λ (d : List Deed). length d) (past parts u l)

no_some : {A : Type 0} (o : Option A) → o ≡ None → IsSome o → ⊥
no_some None e s = absurd cc
no_some (Some x) e s = absurd cc

module _ (parts : List (List Deed)) where
  abbrev AreChosen : ℕ → Type 0
  AreChosen u = IsSome (choices (deeds_of parts) (length parts) u (length (deeds_of parts u)))

  pub chosen_next : (p : ℕ) → ((u : ℕ) → u < p → AreChosen u) → AreChosen p → (u : ℕ) → u < p + 1 → AreChosen u
  chosen_next p before here u l = elim (cases_eq u p) [
    | inl same ↦ subst (λ (v : ℕ). AreChosen v) (sym same) here
    | inr other ↦ before u (omega arith)
  ]

  pub of_each : ((u : ℕ) → u < length parts → AreChosen u) → AreRightReads (deeds_of parts) (IsKnown (deeds_of parts))
  of_each each = (right_reads_law (length parts) (deeds_of parts) (parts_below parts)).1 each

  pub breach_of : (process place : ℕ) → ((u : ℕ) → u < process → AreChosen u)
      → IsWrong (deeds_of parts) (length parts) process place → IsBreach (deeds_of parts) process place
  breach_of process place each w =
      let law : (p here : ℕ) → AreRightTo (deeds_of parts) p here ↔ IsSome (choices (deeds_of parts) (length parts) p here) =
      right_to_law (length parts) (deeds_of parts) (parts_below parts) in record {
        before = λ u l. (law u (length (deeds_of parts u))).1 (each u l);
        within = w.within;
        below = (law process place).1 w.chosen;
        breaks = λ r. no_some (choices (deeds_of parts) (length parts) process (suc place)) w.wrong ((law process (suc place)).0 r);
      }

right_below : (done : Deeds) (p here there : ℕ) → here ≤ there → AreRightTo done p there → AreRightTo done p here
right_below done p here there l r =
    record { source = r.source; right = λ read h same b. r.right read h same (omega arith) }

-- where all reads are right there is no breach
pub no_breach : (done : Deeds) (process place : ℕ) → AreRightReads done (IsKnown done) → IsBreach done process place → ⊥
no_breach done process place r b =
    b.breaks (record { source = r.source; right = λ read h same l. r.right read h })

one_place : (done : Deeds) (p i j : ℕ) → IsBreach done p i → IsBreach done p j → i < j → ⊥
one_place done p i j b c l = b.breaks (right_below done p (suc i) j (omega arith) c.below)

one_process : (done : Deeds) (p i q j : ℕ) → IsBreach done p i → IsBreach done q j → p < q → ⊥
one_process done p i q j b c l =
    let within = b.within in b.breaks (right_below done p (suc i) (length (done p)) (omega arith) (c.before p l))

pub one_breach_law : OneBreachLaw
one_breach_law done p i q j b c = elim (cases_eq p q) [
  | inr other ↦ absurd (elim (cases_lt p q) [
    | inl l ↦ one_process done p i q j b c l
    | inr l ↦ one_process done q j p i c b (omega arith)
  ])
  | inl same ↦ (same, at (subst (λ (u : ℕ). IsBreach done u i) same b))
]
  where
    at : IsBreach done q i → i ≡ j
    at d = elim (cases_eq i j) [
      | inl e ↦ e
      | inr other ↦ absurd (elim (cases_lt i j) [
        | inl l ↦ one_place done q i j d c l
        | inr l ↦ one_place done q j i c d (omega arith)
      ])
    ]
