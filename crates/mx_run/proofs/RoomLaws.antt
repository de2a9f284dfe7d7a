-- An auditor that has room for 700,000 denials has room for one of each line that its process can have.
use Rattle.std.proofs.Common.{◌≡◌, ℕ, ◌≤◌, List, [], ◌∷◌, map, length, sym, subst, arith}
use Rattle.std.specs.List.{All}
use Rattle.std.proofs.lemmas.List.Elements.{All-nil, All-cons, All-head, All-tail}
use Rattle.mx_audit.proofs.AccountLaws.{room_for_each}
use Rattle.mx_audit.specs.Accounts.{Account, HaveRoom}
use Rattle.mx_drill.proofs.SessionLaws.{few_lines as few_drill_lines}
use Rattle.mx_drill.specs.Drills.{drill_session}
use Rattle.mx_proc.specs.Auditors.{HaveRoomForLines}
use Rattle.mx_script.proofs.LengthLaws.{few_lines}
use Rattle.mx_script.specs.Sessions.{Outline}
use Rattle.mx_script.specs.SessionTexts.{IsText}

-- in the session of a text within the limit
pub room_for_text : (spelled : List ℕ) (x : Outline) (accounts : List Account) → IsText spelled x → length spelled ≤ 4194304
    → HaveRoom 700000 accounts → HaveRoomForLines x accounts
room_for_text spelled x accounts text within room =
    room_for_each 700000 (map length x.scripts) accounts room (few_lines spelled x 700000 text (omega (arith, within)))

-- in a drill
at_most : (numbers : List ℕ) → All (λ number. number ≤ 600) numbers → All (λ number. number ≤ 700000) numbers
at_most [] few = All-nil (λ number. number ≤ 700000)
at_most (number ∷ numbers) few =
    let here : number ≤ 600 = All-head (λ n. n ≤ 600) number numbers few in
    All-cons (λ n. n ≤ 700000) number numbers (omega (arith, here)) (at_most numbers (All-tail (λ n. n ≤ 600) number numbers few))

pub room_for_drill : (number : ℕ) (x : Outline) (accounts : List Account) → x ≡ drill_session number → HaveRoom 700000 accounts
    → HaveRoomForLines x accounts
room_for_drill number x accounts is room =
    subst (λ (y : Outline). HaveRoomForLines y accounts) (sym is)
    (room_for_each 700000 (map length (drill_session number).scripts) accounts room
    (at_most (map length (drill_session number).scripts) (few_drill_lines number)))
