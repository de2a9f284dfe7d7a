-- What the auditors of a row of processes were told more than before.
use Rattle.std.proofs.Common.{◌≡◌, ◌↔◌, ℕ, zero, suc, ◌≤◌, List, [], ◌∷◌, ◌++◌, Option, Some, None, IsSome, drop, length, map, refl, ap, sym, ◌∙◌, subst, arith, option_to_list}
use Rattle.std.specs.List.{slice_get, slice_index_or}
use Rattle.std.specs.Option.{option_map}
use Rattle.mx_audit.specs.Accounts.{Account, Told, with_all, with_told}
use Rattle.mx_audit.specs.Verdicts.{GoOnToLast, denial_in, last_told}
use Rattle.mx_line.specs.declared.processes.Process.{Process as LineState}
use Rattle.mx_process.specs.Audited.{IsAudited, IsHeededLast}
use Rattle.mx_process.specs.Processes.{ProcessValue}
use Rattle.mx_script.specs.Sessions.{Outline}
use Rattle.mx_transcript.specs.Denials.{denials}
use Rattle.mx_proc.specs.Leaving.{accounts_in}

-- an auditor was told this of its process, and was heeded
pub record IsToldOf (x : Outline) (p : ℕ) (state : LineState) (told : List Told) : Type 0 where
  pub each : map denial_in told ≡ denials state.recording.steps
  pub going : GoOnToLast told
  pub heeded : IsHeededLast x p state (last_told told)

-- what the auditor of one process was told more than before, if the process has one
record IsToldMore (x : Outline) (before : Option Account) (v : ProcessValue) : Type 0 where
  told : List Told
  account : v.account ≡ option_map (λ (a : Account). with_told a told) before
  tells : (a : Account) → before ≡ Some a → IsToldOf x v.pass.view.process v.state told

-- a process with the account that its auditor had before, if it has one
pub record IsFrom (x : Outline) (before : Option Account) (v : ProcessValue) : Type 0 where
  pub attended : IsSome v.account ↔ IsSome before
  pub audited : IsAudited x v.pass.view.process before v.state v.account

by_account : (x : Outline) (before account : Option Account) (v : ProcessValue) → v.account ≡ account
    → IsSome account ↔ IsSome before → IsAudited x v.pass.view.process before v.state account → IsToldMore x before v
by_account x None None v is same from = record { told = []; account = is; tells = λ a e. absurd (none a e) }
  where
    none : (a : Account) → None ≡ Some a → ⊥
    none a e = cc
by_account x (Some b) None v is same from = absurd (none (same.1 refl))
  where
    none : IsSome {T = Account} None → ⊥
    none e = cc
by_account x before (Some a) v is same from = record {
  told = from.told;
  account = is ∙ ap Some from.grown ∙ ap (option_map (λ (b : Account). with_told b from.told)) (sym from.had);
  tells = λ b e. record { each = from.each; going = from.going; heeded = from.heeded };
}

-- what the auditors of a row were told, process by process
pub record AreTold (x : Outline) (accounts : List Account) (row : List ProcessValue) : Type 0 where
  pub told : List (List Told)
  pub count : length told ≤ length row
  pub grown : accounts_in row ++ drop (length row) accounts ≡ with_all accounts told
  pub each : (i : ℕ) (v : ProcessValue) (a : Account) → slice_get row i ≡ Some v → slice_get accounts i ≡ Some a
      → IsToldOf x v.pass.view.process v.state (slice_index_or told i [])

no_account : (x : Outline) (v : ProcessValue) → IsFrom x None v → v.account ≡ None
no_account x v from = (by_account x None v.account v refl from.attended from.audited).account

no_accounts : (x : Outline) (row : List ProcessValue) → ((i : ℕ) (v : ProcessValue) → slice_get row i ≡ Some v → IsFrom x None v)
    → accounts_in row ≡ []
no_accounts x [] from = refl
no_accounts x (v ∷ row) from =
    ap (λ (o : Option Account). option_to_list o ++ accounts_in row) (no_account x v (from zero v refl))
    ∙ no_accounts x row (λ i w at. from (suc i) w at)

-- no auditors
abbrev nobody : List Account
nobody = []

drop_none : (n : ℕ) → drop n nobody ≡ []
drop_none zero = refl
drop_none (suc n) = refl

-- the auditors of all processes, and behind them those beyond
pub told_all : (x : Outline) (accounts : List Account) (row : List ProcessValue)
    → ((i : ℕ) (v : ProcessValue) → slice_get row i ≡ Some v → IsFrom x (slice_get accounts i) v) → AreTold x accounts row
told_all x [] row from = record {
  told = [];
  count = omega arith;
  grown = ap (λ (l : List Account). l ++ drop (length row) nobody) (no_accounts x row from) ∙ drop_none (length row);
  each = λ i v a at there. absurd (none i a there);
}
  where
    none : (i : ℕ) (a : Account) → slice_get nobody i ≡ Some a → ⊥
    none i a e = cc
told_all x (a ∷ accounts) [] from = record {
  told = [];
  count = omega arith;
  grown = refl;
  each = λ i v b at there. absurd (none i v at);
}
  where
    none : (i : ℕ) (v : ProcessValue) → slice_get {X = ProcessValue} [] i ≡ Some v → ⊥
    none i v e = cc
told_all x (a ∷ accounts) (v ∷ row) from =
    let first = from zero v refl in
    let own = by_account x (Some a) v.account v refl first.attended first.audited in
    let others = told_all x accounts row (λ i w at. from (suc i) w at) in
    let few = others.count in
    record {
      told = own.told ∷ others.told;
      count = omega (arith, few);
      grown = ap (λ (o : Option Account). (option_to_list o ++ accounts_in row) ++ drop (length row) accounts) own.account
          ∙ ap (λ (l : List Account). with_told a own.told ∷ l) others.grown;
      each = each own others;
    }
  where
    each : (own : IsToldMore x (Some a) v) (others : AreTold x accounts row) (i : ℕ) (w : ProcessValue) (b : Account)
        → slice_get (v ∷ row) i ≡ Some w → slice_get (a ∷ accounts) i ≡ Some b
        → IsToldOf x w.pass.view.process w.state (slice_index_or (own.told ∷ others.told) i [])
    each own others zero w b at there =
        let same : v ≡ w = cc in
        subst (λ (u : ProcessValue). IsToldOf x u.pass.view.process u.state own.told) same (own.tells a refl)
    each own others (suc i) w b at there = others.each i w b at there
