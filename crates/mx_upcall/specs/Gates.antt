-- Return gates, after Schroeder and Saltzer: the way back that an upward call leaves, since no other return lowers the
-- ring. They are a stack, of which only the top one can be used.
use Rattle.std.specs.Prelude.{◌≡◌, ℕ, nat_eq, nat_lt, Bool, ◌&&◌, if◌then◌else◌, List, [], ◌∷◌, length, drop, slice_get, Option, Some, None}
use Rattle.mx_ptr.specs.Pointers.{PointerParts}

-- a return gate: the ring into which it leads back, the ring from which it is used, and the procedure pointer and pointer
-- register 0 that it brings back
pub record ReturnGate : Type 0 where
  pub lower : ℕ
  pub upper : ℕ
  pub procedure : PointerParts
  pub pr0 : PointerParts

-- the return gates of a process, the top one first, and how many it may have
pub record ReturnGates : Type 0 where
  pub most : ℕ
  pub gates : List ReturnGate

abbrev pub no_gates : ℕ → ReturnGates
no_gates most = record { most = most; gates = [] }

-- whether one more may stand
abbrev pub has_room : ReturnGates → Bool
has_room gates = nat_lt (length gates.gates) gates.most

-- the gates with one more on top
abbrev pub pushed : ReturnGates → ReturnGate → ReturnGates
pushed gates gate = record gates { gates = gate ∷ gates.gates }

-- the top gate, and the gates without it
abbrev pub top_gate : ReturnGates → Option ReturnGate
top_gate gates = slice_get gates.gates 0

abbrev pub popped : ReturnGates → ReturnGates
popped gates = record gates { gates = drop 1 gates.gates }

-- whether a gate leads back from a ring through a target: the word of its procedure pointer, whatever the target's ring
abbrev pub leads_back : ReturnGate → ℕ → PointerParts → Bool
leads_back gate ring target =
    nat_eq gate.upper ring && nat_eq gate.procedure.segno target.segno && nat_eq gate.procedure.word target.word

abbrev pub if_leads_back : Option ReturnGate → ℕ → PointerParts → Option ReturnGate
if_leads_back None ring target = None
if_leads_back (Some gate) ring target = if leads_back gate ring target then Some gate else None

-- the gate that a process of this ring can use at a target: the top one, if it leads back
abbrev pub usable : ReturnGates → ℕ → PointerParts → Option ReturnGate
usable gates ring target = if_leads_back (top_gate gates) ring target

-- the same, one field a rule
pub record IsUsable (gates : ReturnGates) (ring : ℕ) (target : PointerParts) (gate : ReturnGate) : Type 0 where
  pub below : List ReturnGate
  pub top : gates.gates ≡ gate ∷ below
  pub from : gate.upper ≡ ring
  pub segment : gate.procedure.segno ≡ target.segno
  pub word : gate.procedure.word ≡ target.word
