-- An attempt of a memory line: what it asks for next, from the registers and return gates at the line's start and what it has seen so
-- far. It reads the indirect words of its operand, each where the words before it lead, and then does its own at the
-- target.
use Rattle.std.specs.Prelude.{ℕ, List, [], ◌∷◌, Option, Some, None}
use Rattle.mx_sdw.specs.declared.denials.Denial.TheVariants.{NotPointer, IndirectLimit}
use Rattle.mx_sdw.specs.declared.operations.Op.TheVariants.{Indirect}
use Rattle.mx_ptr.specs.Pointers.{parts_of}
use Rattle.mx_effring.specs.Chains as chains
use Rattle.mx_effring.specs.Chains.{read_on}
use Rattle.mx_effring.specs.Walks.{wanted, refuses}
use Rattle.mx_effring.specs.declared.walks.Stuck.{Stuck}
use Rattle.mx_effring.specs.declared.walks.Stuck.TheVariants as stuck
use Rattle.mx_effring.specs.declared.walks.Want.{Want}
use Rattle.mx_effring.specs.declared.walks.Want.TheVariants.{Word, Done}
use Rattle.mx_upcall.specs.Control.{Control}
use Rattle.mx_core.specs.declared.elements.Outcome.{Outcome}
use Rattle.mx_core.specs.declared.elements.Outcome.TheVariants as outcome
use Rattle.mx_request.specs.declared.requests.Request.TheVariants.{Link}
use Rattle.mx_script.specs.declared.lines.Line.{Line}
use Rattle.mx_transcript.specs.declared.transcripts.Result2.TheVariants as result
use Rattle.mx_transcript.specs.Courses.{Judged}
use Rattle.mx_transcript.specs.Next.{Next, Asks, Calls, Ends, Nowhere}
use Rattle.mx_transcript.specs.Operands.{walk_of}
use Rattle.mx_transcript.specs.Targets.{at_target, after_target}

abbrev pub wants : Control → Line → Want → Next
wants control line (Word segno word ring) =
    Asks (record { op = Indirect; segno = segno; word = word; ring = ring; stores = None })
wants control line (Done target) = at_target control line target

-- a link is to be snapped first, by a call in the ring in which its word was read
abbrev pub taken : Control → ℕ → ℕ → ℕ → Option Stuck → Next → Next
taken control segno word ring None onward = onward
taken control segno word ring (Some stuck.Link) onward = Calls ring (Link segno word)
taken control segno word ring (Some stuck.NotPointer) onward = Ends (result.Denied NotPointer) control
taken control segno word ring (Some stuck.Limit) onward = Ends (result.Denied IndirectLimit) control

-- an indirect word was read at this place, or denied; a pointer leads on
abbrev pub after_word : Control → chains.Operand → ℕ → ℕ → ℕ → Outcome → (ℕ → Next) → Next
after_word control walk segno word ring (outcome.Read value writer stamp) onward =
    taken control segno word ring (refuses walk value) (onward value)
after_word control walk segno word ring (outcome.Denied denial) onward = Ends (result.Denied denial) control
after_word _ _ _ _ _ _ _ = Nowhere

abbrev pub after_seen : Control → Line → chains.Operand → Judged → Want → (ℕ → Next) → Next
after_seen control line walk judged (Word segno word ring) onward = after_word control walk segno word ring judged.element.outcome onward
after_seen control line walk judged (Done target) onward = after_target control line target judged.desc judged.element.outcome

-- what comes after all this was seen, from this place of the walk on
abbrev pub along : Control → Line → chains.Operand → List Judged → Next
along control line walk [] = wants control line (wanted walk)
along control line walk (judged ∷ seen) =
    after_seen control line walk judged (wanted walk) (λ value. along control line (read_on walk (parts_of value) judged.desc.brackets.r1) seen)

abbrev pub attempting : Control → Line → List Judged → Option chains.Operand → Next
attempting control line seen None = Nowhere
attempting control line seen (Some walk) = along control line walk seen

abbrev pub attempt : Control → Line → List Judged → Next
attempt control line seen = attempting control line seen (walk_of control.registers line)
