-- An operand and the chain of indirect words that it goes through. The effective ring is Schroeder and Saltzer's: no
-- reference is made with more privilege than the least privileged ring that could have had a hand in its address.
use Rattle.std.specs.Prelude.{ℕ, max, Bool, List, [], ◌∷◌, ◌++◌}
use Rattle.mx_ptr.specs.Pointers.{PointerParts}

-- a pointer word that was read, and the first bracket of the segment that held it
pub record Indirection : Type 0 where
  pub pointer : PointerParts
  pub r1 : ℕ

-- an operand: the current ring, the pointer that it begins at, whether it is indirect, and the words read so far
pub record Operand : Type 0 where
  pub current : ℕ
  pub base : PointerParts
  pub indirect : Bool
  pub chain : List Indirection

-- the rings in the words of a chain, and the first brackets of their segments
abbrev pub rings_along : List Indirection → List ℕ
rings_along [] = []
rings_along (indirection ∷ rest) = indirection.pointer.ring ∷ indirection.r1 ∷ rings_along rest

-- the largest of some rings
abbrev pub largest : List ℕ → ℕ
largest [] = 0
largest (ring ∷ rest) = max ring (largest rest)

-- the rings that have a hand in an operand: the current ring, the base's ring, and the rings along the chain
abbrev pub rings_of : Operand → List ℕ
rings_of operand = operand.current ∷ operand.base.ring ∷ rings_along operand.chain

-- the largest of them
abbrev pub effective_ring : Operand → ℕ
effective_ring operand = largest (rings_of operand)

-- the last pointer of a chain that begins at a pointer
abbrev pub last_pointer : PointerParts → List Indirection → PointerParts
last_pointer p [] = p
last_pointer p (indirection ∷ rest) = last_pointer indirection.pointer rest

-- where the chain has led: to the base, or to where its last pointer points
abbrev pub place_of : Operand → PointerParts
place_of operand = last_pointer (record operand.base { further = operand.indirect }) operand.chain

-- the operand after one more word
abbrev pub read_on : Operand → PointerParts → ℕ → Operand
read_on operand pointer r1 = record operand { chain = operand.chain ++ record { pointer = pointer; r1 = r1 } ∷ [] }
