-- Laws on what auditors were told of: denials in two parts, accounts that grow, and room.
use Rattle.std.proofs.Common.{◌≡◌, ℕ, suc, ◌+◌, ◌-◌, ◌≤◌, List, [], ◌∷◌, ◌++◌, length, refl, ap, sym, ◌∙◌, arith, append_assoc, append-nil}
use Rattle.std.specs.List.{All}
use Rattle.std.proofs.lemmas.List.{length-append}
use Rattle.std.proofs.lemmas.List.Elements.{All-head, All-tail}
use Rattle.mx_audit.specs.Accounts.{Account, Told, with_told, with_all, HaveGrown, HaveRoomFor, HaveRoom}

abbrev account_of : List Told → ℕ → Account
account_of told room = record { told = told; room = room }

-- told of some denials and then of others, or of all at once
pub with_both : (account : Account) (denials others : List Told)
    → with_told (with_told account denials) others ≡ with_told account (denials ++ others)
with_both account denials others =
    let n : length (denials ++ others) ≡ length denials + length others = length-append denials others in
    let r : account.room - length denials - length others ≡ account.room - length (denials ++ others) = omega (arith, n) in
    ap (λ told. account_of told (account.room - length denials - length others)) (append_assoc account.told denials others)
    ∙ ap (λ room. account_of (account.told ++ (denials ++ others)) room) r

-- told of nothing
pub with_none : (account : Account) → with_told account [] ≡ account
with_none account =
    let r : account.room - 0 ≡ account.room = omega arith in
    ap (λ told. account_of told (account.room - 0)) (append-nil account.told) ∙ ap (λ room. account_of account.told room) r

-- no auditor was told of anything
pub with_all_none : (accounts : List Account) → with_all accounts [] ≡ accounts
with_all_none [] = refl
with_all_none (account ∷ accounts) = refl

-- as many auditors
pub as_many : (accounts : List Account) (lists : List (List Told)) → length (with_all accounts lists) ≡ length accounts
as_many [] lists = refl
as_many (account ∷ accounts) [] = refl
as_many (account ∷ accounts) (denials ∷ lists) = ap suc (as_many accounts lists)

-- the lists that come of two lists of lists, place by place
abbrev joined : List (List Told) → List (List Told) → List (List Told)
joined [] others = others
joined (denials ∷ lists) [] = denials ∷ lists
joined (denials ∷ lists) (more ∷ others) = (denials ++ more) ∷ joined lists others

with_joined : (accounts : List Account) (lists others : List (List Told))
    → with_all (with_all accounts lists) others ≡ with_all accounts (joined lists others)
with_joined [] lists others = refl
with_joined (account ∷ accounts) [] others = refl
with_joined (account ∷ accounts) (denials ∷ lists) [] = refl
with_joined (account ∷ accounts) (denials ∷ lists) (more ∷ others) =
    ap (λ first. first ∷ with_all (with_all accounts lists) others) (with_both account denials more)
    ∙ ap (λ rest. with_told account (denials ++ more) ∷ rest) (with_joined accounts lists others)

pub grown_by : (accounts : List Account) (lists : List (List Told)) → HaveGrown accounts (with_all accounts lists)
grown_by accounts lists = record { more = lists; grown = refl }

pub grown_none : (accounts : List Account) → HaveGrown accounts accounts
grown_none accounts = record { more = []; grown = sym (with_all_none accounts) }

pub grown_on : (before between after : List Account) → HaveGrown before between → HaveGrown between after → HaveGrown before after
grown_on before between after first second = record {
  more = joined first.more second.more;
  grown = second.grown ∙ ap (λ accounts. with_all accounts second.more) first.grown ∙ with_joined before first.more second.more;
}

pub grown_count : (before after : List Account) → HaveGrown before after → length after ≡ length before
grown_count before after are = ap length are.grown ∙ as_many before are.more

-- room for the most is room for each
pub room_for_each : (most : ℕ) (numbers : List ℕ) (accounts : List Account)
    → HaveRoom most accounts → All (λ number. number ≤ most) numbers → HaveRoomFor numbers accounts
room_for_each most numbers [] room within = tt
room_for_each most [] (account ∷ accounts) room within = tt
room_for_each most (number ∷ numbers) (account ∷ accounts) room within =
    let here : most ≤ account.room = All-head (λ (a : Account). most ≤ a.room) account accounts room in
    let few : number ≤ most = All-head (λ n. n ≤ most) number numbers within in (
      omega (arith, here, few),
      room_for_each most numbers accounts
          (All-tail (λ (a : Account). most ≤ a.room) account accounts room)
          (All-tail (λ n. n ≤ most) number numbers within),
    )
