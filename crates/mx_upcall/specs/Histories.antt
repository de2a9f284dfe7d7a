-- What pushes and pops leave standing.
use Rattle.std.specs.Prelude.{◌+◌, nat_lt, Bool, true, false, List, [], ◌∷◌, ◌++◌, length, take, if◌then◌else◌}
use Rattle.std.specs.List.{count_by, list_any, range_with_len}
use Rattle.mx_upcall.specs.Gates.{ReturnGate, ReturnGates, pushed, popped}

-- what is done with the gates of a process
pub data Move : Type 0 where
  Push : ReturnGate → Move
  Pop : Move

-- the gates after a move, and after moves in their order
abbrev pub moved : ReturnGates → Move → ReturnGates
moved g (Push gate) = pushed g gate
moved g Pop = popped g

abbrev pub all_moved : ReturnGates → List Move → ReturnGates
all_moved g [] = g
all_moved g (move ∷ later) = all_moved (moved g move) later

abbrev pub pushes : Move → Bool
pushes (Push gate) = true
pushes Pop = false

abbrev pub pops : Move → Bool
pops (Push gate) = false
pops Pop = true

-- whether moves pop more gates than they push
abbrev pub pops_more : List Move → Bool
pops_more moves = nat_lt (count_by pushes moves) (count_by pops moves)

-- whether the gate of a push was popped by the moves after it: up to some point they popped more than they pushed
abbrev pub was_popped : List Move → Bool
was_popped later = list_any (λ n. pops_more (take n later)) (range_with_len 0 (length later + 1))

-- the gates that were pushed and not popped, the last first
abbrev pub left_standing : List Move → List ReturnGate
left_standing [] = []
left_standing (Push gate ∷ later) = left_standing later ++ (if was_popped later then [] else gate ∷ [])
left_standing (Pop ∷ later) = left_standing later
