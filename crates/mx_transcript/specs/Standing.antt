-- For the loops: how a machine knows what its line asks for. It keeps the walk of mx_effring and not what was seen, and
-- a process knows the descriptors of its own trace alone, its own front of the journal and its floor.
use Rattle.std.specs.Prelude.{◌≡◌, ℕ, ◌≤◌, nat_le, length, true, List, [], ◌∷◌, ◌++◌, Some, None, slice_get}
use Rattle.mx_sdw.specs.Descriptors.{Descriptor}
use Rattle.mx_ptr.specs.Pointers.{parts_of}
use Rattle.mx_effring.specs.Chains as chains
use Rattle.mx_effring.specs.Chains.{read_on}
use Rattle.mx_effring.specs.Walks.{wanted, refuses}
use Rattle.mx_effring.specs.declared.walks.Want.TheVariants.{Word}
use Rattle.mx_upcall.specs.Control.{Control}
use Rattle.mx_script.specs.declared.lines.Line.{Line}
use Rattle.mx_core.specs.declared.elements.Element.{Element}
use Rattle.mx_core.specs.declared.elements.Event.TheVariants.{Seen}
use Rattle.mx_core.specs.declared.elements.Outcome.TheVariants.{Read, Written}
use Rattle.mx_transcript.specs.declared.transcripts.Event2.{Event2}
use Rattle.mx_transcript.specs.declared.transcripts.Event2.TheVariants.{Core}
use Rattle.mx_transcript.specs.declared.transcripts.Result2.TheVariants.{HistoryFull}
use Rattle.mx_transcript.specs.Asking.{next}
use Rattle.mx_transcript.specs.Attempts.{attempt, along}
use Rattle.mx_transcript.specs.Courses.{Course, Attempt, Answer, Judged, seen_in}
use Rattle.mx_transcript.specs.Elements.{IsJudged}
use Rattle.mx_transcript.specs.Lines.{IsSoFar, IsLine}
use Rattle.mx_transcript.specs.Next.{Reference, Asks, Fills}
use Rattle.mx_transcript.specs.Access.{descriptor_of}
use Rattle.mx_transcript.specs.Legal.{setting_of}
use Rattle.mx_transcript.specs.Operands.{walk_of}
use Rattle.mx_transcript.specs.Openings.{opening_control}
use Rattle.mx_transcript.specs.Parts.{AreLines}
use Rattle.mx_transcript.specs.Scripts.{lines_of}
use Rattle.mx_transcript.specs.Settings.{Setting}
use Rattle.mx_transcript.specs.Transcripts.{Step}
use Rattle.mx_script.specs.Sessions.{Outline, limit_of}
use Rattle.mx_state.specs.declared.journal.Entry as journaled

-- after all this was seen an attempt goes on as the walk does from here
abbrev pub IsWalked : Control → Line → List Judged → chains.Operand → Type 0
IsWalked g line seen walk = (more : List Judged) → attempt g line (seen ++ more) ≡ along g line walk more

abbrev pub WalkBegunLaw : Type 0
WalkBegunLaw = (g : Control) (line : Line) (walk : chains.Operand) → walk_of g.registers line ≡ Some walk
    → IsWalked g line [] walk

-- an indirect word was read and taken
abbrev pub WalkLaw : Type 0
WalkLaw = (g : Control) (line : Line) (seen : List Judged) (walk : chains.Operand) (j : Judged)
    (segno word ring value writer stamp : ℕ)
    → IsWalked g line seen walk → wanted walk ≡ Word segno word ring → j.element.outcome ≡ Read value writer stamp
    → refuses walk value ≡ None
    → IsWalked g line (seen ++ j ∷ []) (read_on walk (parts_of value) j.desc.brackets.r1)

-- these descriptors are those of a trace, which keeps one beside each element
abbrev pub AgreesWith : (Element → Descriptor) → List Judged → Type 0
AgreesWith d trace = (place : ℕ) (j : Judged) → slice_get trace place ≡ Some j → d j.element ≡ j.desc

-- what a process knows of its line at work: it is right for all descriptors that agree with its trace
abbrev pub IsKnown : Setting → List Judged → Control → Line → List Event2 → Course → Type 0
IsKnown setting trace g line events course = (d : Element → Descriptor) → AgreesWith d trace
    → IsSoFar (record setting { descriptor = d }) g line events course

-- the reference that is asked for, judged on the descriptor beside it
abbrev pub TraceLaw : Type 0
TraceLaw = (setting : Setting) (trace : List Judged) (g : Control) (line : Line) (events : List Event2) (course : Course)
    (asked : Reference) (j : Judged)
    → IsKnown setting trace g line events course → next g line course ≡ Asks asked → IsJudged asked j.desc j.element
    → IsKnown setting (trace ++ j ∷ []) g line (events ++ Core (Seen j.element) ∷ []) (Attempt (seen_in course ++ j ∷ []))

-- the write that is asked for, granted on the descriptor beside it
abbrev pub FillTraceLaw : Type 0
FillTraceLaw = (setting : Setting) (trace : List Judged) (g : Control) (line : Line) (events : List Event2)
    (entry : journaled.Entry) (filled : List Judged) (asked : Reference) (j : Judged) (value : ℕ)
    → IsKnown setting trace g line events (Answer entry filled) → next g line (Answer entry filled) ≡ Fills asked
    → IsJudged asked j.desc j.element → j.element.outcome ≡ Written value
    → IsKnown setting (trace ++ j ∷ []) g line (events ++ Core (Seen j.element) ∷ []) (Answer entry (filled ++ j ∷ []))

-- a line that found the journal full found it at its limit
abbrev pub FullLaw : Type 0
FullLaw = (setting : Setting) (before after : Control) (line : Line) (events : List Event2)
    → IsLine setting before line events HistoryFull after → setting.full ≡ true

-- what the lines of a process are held against, by its own front of the journal, its floor and some descriptors
abbrev pub own_setting : Outline → List journaled.Entry → ℕ → ℕ → (Element → Descriptor) → Setting
own_setting session front floor p d =
    record { process = p; journal = front; full = nat_le (limit_of session) floor; descriptor = d }

-- what a process promises of its whole part, for all descriptors that agree with its trace; the registers and gates at the end
-- do not hang on the descriptors
abbrev pub PromisesLines : Outline → List journaled.Entry → ℕ → List Judged → ℕ → List Step → Control → Type 0
PromisesLines session front floor trace p steps after = (d : Element → Descriptor) → AgreesWith d trace
    → AreLines (own_setting session front floor p d) (opening_control session p) (lines_of session p) steps after

-- it is what a legal run asks of its lines, where its front is one of the journal, its floor and the journal are
-- within their limits, and the descriptors of its trace are those of the tables
abbrev pub PromiseLaw : Type 0
PromiseLaw = (session : Outline) (front later : List journaled.Entry) (floor p : ℕ) (trace : List Judged)
    (steps : List Step) (after : Control)
    → PromisesLines session front floor trace p steps after
    → floor ≤ length (front ++ later) → length (front ++ later) ≤ limit_of session
    → AgreesWith (descriptor_of session (front ++ later) p) trace
    → AreLines (setting_of session (front ++ later) p) (opening_control session p) (lines_of session p) steps after
