-- What a denial is explained by: the comparison of its rule, with the numbers of this access and this reference.
use Rattle.std.specs.Prelude.{◌≡◌, ℕ, ◌≤◌, ◌<◌, min, true, false}
use Rattle.mx_sdw.specs.Descriptors.{Descriptor, is_unknown, is_gone, is_equal, is_neither}
use Rattle.mx_sdw.specs.declared.denials.Denial.{Denial}
use Rattle.mx_sdw.specs.declared.denials.Denial.TheVariants as denial
use Rattle.mx_sdw.specs.Judging.{applies}
use Rattle.mx_sdw.specs.declared.operations.Op.{Op}
use Rattle.mx_sdw.specs.declared.operations.Op.TheVariants as operation
use Rattle.mx_judging.specs.declared.reasons.Bracket.{Bracket}
use Rattle.mx_judging.specs.declared.reasons.Bracket.TheVariants as bracket
use Rattle.mx_judging.specs.declared.reasons.Reason.{Reason}
use Rattle.mx_judging.specs.declared.reasons.Reason.TheVariants as reason

-- a bracket is the one of the access, and the ring that it is
abbrev pub bracket_ring : Bracket → ℕ
bracket_ring (bracket.R1 ring) = ring
bracket_ring (bracket.R2 ring) = ring
bracket_ring (bracket.R3 ring) = ring

abbrev pub IsBracketOf : Descriptor → Bracket → Type 0
IsBracketOf d (bracket.R1 ring) = ring ≡ d.brackets.r1
IsBracketOf d (bracket.R2 ring) = ring ≡ d.brackets.r2
IsBracketOf d (bracket.R3 ring) = ring ≡ d.brackets.r3

-- the comparison holds of this access and this reference
abbrev pub IsSo : Descriptor → ℕ → ℕ → ℕ → Reason → Type 0
IsSo d ring word current reason.NotKnown = is_unknown d.kind ≡ true
IsSo d ring word current reason.Deleted = is_gone d.kind ≡ true
IsSo d ring word current (reason.Beyond told bound) = (told ≡ word) × (bound ≡ d.bound) × (bound ≤ told)
IsSo d ring word current reason.NotDominated = is_neither d.aim ≡ true
IsSo d ring word current reason.NotEqual = is_equal d.aim ≡ false
IsSo d ring word current reason.NoRead = d.r ≡ false
IsSo d ring word current reason.NoWrite = d.w ≡ false
IsSo d ring word current reason.NoExecute = d.e ≡ false
IsSo d ring word current (reason.Above told limit) = (told ≡ ring) × IsBracketOf d limit × (bracket_ring limit < told)
IsSo d ring word current (reason.Below told limit) = (told ≡ ring) × IsBracketOf d limit × (told < bracket_ring limit)
IsSo d ring word current (reason.NoGate told gate) = (told ≡ word) × (gate ≡ d.gate) × (gate ≤ told)
IsSo d ring word current (reason.Raises entered told) =
    (entered ≡ min ring d.brackets.r2) × (told ≡ current) × (told < entered)

-- it is the comparison of this denial's rule
abbrev pub IsRuleOf : Denial → Reason → Type 0
IsRuleOf denial.UnknownSegment reason.NotKnown = Unit {0}
IsRuleOf denial.NoSegment reason.Deleted = Unit {0}
IsRuleOf denial.OutOfBounds (reason.Beyond word bound) = Unit {0}
IsRuleOf denial.AimRead reason.NotDominated = Unit {0}
IsRuleOf denial.AimWrite reason.NotEqual = Unit {0}
IsRuleOf denial.NotReadable reason.NoRead = Unit {0}
IsRuleOf denial.ReadBracket (reason.Above ring (bracket.R2 limit)) = Unit {0}
IsRuleOf denial.NotWritable reason.NoWrite = Unit {0}
IsRuleOf denial.WriteBracket (reason.Above ring (bracket.R1 limit)) = Unit {0}
IsRuleOf denial.NotExecutable reason.NoExecute = Unit {0}
IsRuleOf denial.ExecuteBracket (reason.Below ring (bracket.R1 limit)) = Unit {0}
IsRuleOf denial.ExecuteBracket (reason.Above ring (bracket.R2 limit)) = Unit {0}
IsRuleOf denial.CallBracket (reason.Above ring (bracket.R3 limit)) = Unit {0}
IsRuleOf denial.UpwardCall (reason.Below ring (bracket.R1 limit)) = Unit {0}
IsRuleOf denial.Gate (reason.NoGate word gate) = Unit {0}
IsRuleOf denial.RaisedRing (reason.Raises entered current) = Unit {0}
IsRuleOf denial.BadReturn (reason.Below ring (bracket.R1 limit)) = Unit {0}
IsRuleOf denial.BadReturn (reason.Above ring (bracket.R2 limit)) = Unit {0}
IsRuleOf _ _ = ⊥

-- the reason explains the denial
pub record Explains (d : Descriptor) (why : Denial) (ring word current : ℕ) (told : Reason) : Type 0 where
  pub rule : IsRuleOf why told
  pub so : IsSo d ring word current told

-- the ring from which a call is made, which it says itself
abbrev pub IsFrom : ℕ → Op → Type 0
IsFrom current (operation.Call from same upward) = from ≡ current
IsFrom current _ = Unit {0}

-- the denial applies to this access, for an operation from such a ring
pub record IsDue (d : Descriptor) (why : Denial) (ring word current : ℕ) : Type 0 where
  pub op : Op
  pub from : IsFrom current op
  pub applies : applies why d op ring word ≡ true
