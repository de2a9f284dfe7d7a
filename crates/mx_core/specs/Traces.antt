-- The traces' part of the invariant: what a process kept is right, and in the order of its points.
use Rattle.std.specs.Prelude.{◌≡◌, ℕ, ◌<◌, ◌≤◌, List, Some, slice_get}
use Rattle.mx_sdw.specs.Descriptors.{Descriptor}
use Rattle.mx_sdw.specs.declared.operations.Op.{Op}
use Rattle.mx_core.specs.RightWords.{IsAltered}
use Rattle.mx_core.specs.Judging.{kind_of, Agrees, stamp_read}
use Rattle.mx_core.specs.Words.{DescriptorWord, number_of}
use Rattle.mx_core.specs.World.{Kept, Judged, Missed}
use Rattle.mx_core.specs.declared.elements.Element.{Element}

-- An element is the judging rule's for its operation, on the descriptor judged, which is the table's at its point. Its
-- point lies from the opening to the floor, and so does a stamp that it read.
pub record IsRightElement (start floor : ℕ) (h : ℕ → ℕ → Descriptor) (e : Element) (op : Op) (d : Descriptor) : Type 0
  where
    pub kind : e.kind ≡ kind_of op
    pub right : Agrees d (record { op = op; ring = e.ring; word = e.word }) e.outcome
    pub stands : d ≡ h e.point e.segno
    pub low : start ≤ e.point
    pub high : e.point ≤ floor
    pub stamp : stamp_read e.outcome ≤ floor

-- A miss is of a number by an entry that changed it, and the number in the word is at least that.
pub record IsRightMiss (start : ℕ) (h : ℕ → ℕ → Descriptor) (word : ℕ → DescriptorWord) (n by : ℕ) : Type 0 where
  pub after : start < by
  pub altered : IsAltered (λ q. h q n) by
  pub most : by ≤ number_of (word n)

-- a point is at least each point and each stamp read before it
pub record IsAfter (e f : Element) : Type 0 where
  pub point : e.point ≤ f.point
  pub stamp : stamp_read e.outcome ≤ f.point

pub record IsGoodTrace (start floor : ℕ) (h : ℕ → ℕ → Descriptor) (word : ℕ → DescriptorWord)
    (trace : List Kept) : Type 0 where
  pub elements : (i : ℕ) (e : Element) (op : Op) (d : Descriptor) → slice_get trace i ≡ Some (Judged e op d)
      → IsRightElement start floor h e op d
  pub misses : (i n by : ℕ) → slice_get trace i ≡ Some (Missed n by) → IsRightMiss start h word n by
  pub order : (i j : ℕ) (e f : Element) (op op' : Op) (d d' : Descriptor) → i < j
      → slice_get trace i ≡ Some (Judged e op d) → slice_get trace j ≡ Some (Judged f op' d') → IsAfter e f
