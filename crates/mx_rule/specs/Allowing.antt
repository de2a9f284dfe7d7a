-- What a step on one word must show: whatever the table is, the word and the view of the one who makes it may change
-- so.
use Rattle.std.specs.Prelude.{◌≡◌, ◌==◌, ℕ, []}
use prog.Atomic.{either}
use Rattle.atomic_table.specs.Table.{Allows}
use Rattle.mx_rule.specs.Layout.{Layout}
use Rattle.mx_rule.specs.Parts.{Part, number_in}
use Rattle.mx_rule.specs.Rule.{Holds}
use Rattle.mx_rule.specs.Shown.{PassView, Pass, Super, SuperView}

-- a pass writes a number into a part, or reads it
abbrev pub PassWrites : (S : Type 0) → Layout → PassView S → Part → ℕ → PassView S → Type 0
PassWrites S y v x n v' = (slots id : ℕ) → Allows {S = S} (Holds y) slots id (Pass v, []) (number_in y x) (λ _. n)
    (λ _ me. me ≡ (Pass v', []))

abbrev pub PassReads : (S : Type 0) → Layout → PassView S → Part → (ℕ → PassView S) → Type 0
PassReads S y v x v' = (slots id : ℕ) → Allows {S = S} (Holds y) slots id (Pass v, []) (number_in y x) (λ n. n)
    (λ n me. me ≡ (Pass (v' n), []))

-- what is read tells more
abbrev pub PassTells : (S : Type 0) → Layout → PassView S → Part → (ℕ → PassView S) → (ℕ → Type 0) → Type 0
PassTells S y v x v' T = (slots id : ℕ) → Allows {S = S} (Holds y) slots id (Pass v, []) (number_in y x) (λ n. n)
    (λ n me. (me ≡ (Pass (v' n), [])) × T n)

-- the supervisor writes a number into a part, or reads it
abbrev pub OfficeWrites : (S : Type 0) → Layout → SuperView S → Part → ℕ → SuperView S → Type 0
OfficeWrites S y v x n v' = (slots id : ℕ) → Allows {S = S} (Holds y) slots id (Super v, []) (number_in y x) (λ _. n)
    (λ _ me. me ≡ (Super v', []))

abbrev pub OfficeReads : (S : Type 0) → Layout → SuperView S → Part → (ℕ → SuperView S) → Type 0
OfficeReads S y v x v' = (slots id : ℕ) → Allows {S = S} (Holds y) slots id (Super v, []) (number_in y x) (λ n. n)
    (λ n me. me ≡ (Super (v' n), []))

-- the supervisor replaces the number that it expects there, and finds that
abbrev pub OfficeExchanges : (S : Type 0) → Layout → SuperView S → Part → ℕ → ℕ → SuperView S → Type 0
OfficeExchanges S y v x old new v' = (slots id : ℕ) → Allows {S = S} (Holds y) slots id (Super v, []) (number_in y x)
    (λ n. either (n == old) new n) (λ n me. (n ≡ old) × (me ≡ (Super v', [])))

-- what the supervisor reads tells more of what it knows
abbrev pub OfficeTells : (S : Type 0) → Layout → SuperView S → Part → Type 0 → Type 0
OfficeTells S y v x T = (slots id : ℕ) → Allows {S = S} (Holds y) slots id (Super v, []) (number_in y x) (λ n. n)
    (λ n me. (me ≡ (Super v, [])) × T)
