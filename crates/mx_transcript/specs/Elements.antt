-- The element rule: a printed reference is granted or denied as the judging rule says on the access at its printed
-- point.
use Rattle.std.specs.Prelude.{◌≡◌, ◌<◌, ◌^◌, ℕ, Option, Some, Result, Ok, Err}
use Rattle.mx_sdw.specs.Judging.{judgement, ring_after}
use Rattle.mx_sdw.specs.declared.denials.Denial.{Denial}
use Rattle.mx_sdw.specs.declared.descriptors.Cell.{Cell}
use Rattle.mx_sdw.specs.Descriptors.{Descriptor}
use Rattle.mx_sdw.specs.declared.operations.Op.{Op}
use Rattle.mx_sdw.specs.declared.operations.Op.TheVariants as op
use Rattle.mx_core.specs.declared.elements.Element.{Element}
use Rattle.mx_core.specs.declared.elements.Kind.{Kind}
use Rattle.mx_core.specs.declared.elements.Kind.TheVariants as kind
use Rattle.mx_core.specs.declared.elements.Outcome.{Outcome}
use Rattle.mx_core.specs.declared.elements.Outcome.TheVariants as outcome
use Rattle.mx_transcript.specs.Next.{Reference}

-- under which kind an operation is printed
abbrev pub kind_of : Op → Kind
kind_of op.Read = kind.Read
kind_of op.Indirect = kind.Ind
kind_of op.Write = kind.Write
kind_of op.Fetch = kind.Fetch
kind_of (op.Call current same upward) = kind.Call
kind_of op.Return = kind.Return

-- What a granted operation comes to: a word of 36 bits read, the word stored, or the ring in which the process goes on. Which
-- word is read is the matter of the read rule.
abbrev pub Gives : Op → Option ℕ → ℕ → Outcome → Type 0
Gives op.Read stores entered (outcome.Read value writer stamp) = value < 2 ^ 36
Gives op.Indirect stores entered (outcome.Read value writer stamp) = value < 2 ^ 36
Gives op.Fetch stores entered (outcome.Read value writer stamp) = value < 2 ^ 36
Gives op.Write stores entered (outcome.Written value) = stores ≡ Some value
Gives (op.Call current same upward) stores entered (outcome.Entered ring) = ring ≡ entered
Gives op.Return stores entered (outcome.Entered ring) = ring ≡ entered
Gives _ _ _ _ = ⊥

-- granted where the rule grants, denied with the rule's denial
abbrev pub Agrees : Reference → ℕ → Result Cell Denial → Outcome → Type 0
Agrees asked entered (Ok cell) came = Gives asked.op asked.stores entered came
Agrees asked entered (Err denial) came = came ≡ outcome.Denied denial

-- the element is this reference, judged on this descriptor
pub record IsJudged (asked : Reference) (desc : Descriptor) (element : Element) : Type 0 where
  pub kind : element.kind ≡ kind_of asked.op
  pub segno : element.segno ≡ asked.segno
  pub word : element.word ≡ asked.word
  pub ring : element.ring ≡ asked.ring
  pub outcome : Agrees asked (ring_after desc asked.op asked.ring) (judgement desc asked.op asked.ring asked.word) element.outcome
