-- What auditors were told of and answered: each has a list of denials with its verdicts, and room for more.
use Rattle.std.specs.Prelude.{◌≡◌, ℕ, ◌-◌, ◌≤◌, List, [], ◌∷◌, ◌++◌, length, ⊤}
use Rattle.std.specs.List.{All}
use Rattle.mx_audit.specs.declared.auditors.Verdict.{Verdict}
use Rattle.mx_sdw.specs.declared.denials.Denial.{Denial}

-- a denial with its line's number, and what the auditor answered
abbrev pub Told : Type 0
Told = ℕ × Denial × Verdict

-- an auditor's account: the denials that it was told of in order, with its verdicts, and for how many more it has room
pub record Account : Type 0 where
  pub told : List Told
  pub room : ℕ

-- the account after it was told of these too
abbrev pub with_told : Account → List Told → Account
with_told account told = record {
  told = account.told ++ told;
  room = account.room - length told;
}

-- each auditor was told of the list in its place; those beyond the lists are as they were
abbrev pub with_all : List Account → List (List Told) → List Account
with_all [] lists = []
with_all (account ∷ accounts) [] = account ∷ accounts
with_all (account ∷ accounts) (told ∷ lists) = with_told account told ∷ with_all accounts lists

-- the same auditors later: each was told of some denials more, maybe none
pub record HaveGrown (before after : List Account) : Type 0 where
  pub more : List (List Told)
  pub grown : after ≡ with_all before more

-- each auditor has room for as many denials as the number in its place; those beyond the numbers are asked for none
abbrev pub HaveRoomFor : List ℕ → List Account → Type 0
HaveRoomFor numbers [] = ⊤
HaveRoomFor [] (account ∷ accounts) = ⊤
HaveRoomFor (number ∷ numbers) (account ∷ accounts) = (number ≤ account.room) × HaveRoomFor numbers accounts

-- each auditor has room for so many denials
abbrev pub HaveRoom : ℕ → List Account → Type 0
HaveRoom number accounts = All (λ account. number ≤ account.room) accounts
