-- A machine keeps the walk of an attempt in place of what it saw.
use Rattle.std.proofs.Common.{◌≡◌, ℕ, List, [], ◌∷◌, ◌∙◌, ap, Option, None, append_assoc}
use Rattle.mx_ptr.specs.Pointers.{parts_of}
use Rattle.mx_effring.specs.Chains as chains
use Rattle.mx_effring.specs.Chains.{read_on}
use Rattle.mx_effring.specs.Walks.{wanted, refuses}
use Rattle.mx_effring.specs.declared.walks.Stuck.{Stuck}
use Rattle.mx_effring.specs.declared.walks.Want.{Want}
use Rattle.mx_effring.specs.declared.walks.Want.TheVariants.{Word}
use Rattle.mx_upcall.specs.Control.{Control}
use Rattle.mx_core.specs.declared.elements.Outcome.{Outcome}
use Rattle.mx_core.specs.declared.elements.Outcome.TheVariants as outcome
use Rattle.mx_script.specs.declared.lines.Line.{Line}
use Rattle.mx_transcript.specs.Attempts.{taken, after_word, after_seen, along, attempt, attempting}
use Rattle.mx_transcript.specs.Courses.{Judged}
use Rattle.mx_transcript.specs.Next.{Next}
use Rattle.mx_transcript.specs.Standing.{WalkBegunLaw, WalkLaw}

pub walk_begun_law : WalkBegunLaw
walk_begun_law g line walk is more = ap (λ (w : Option chains.Operand). attempting g line more w) is

-- one word further
stepped : (g : Control) (line : Line) (walk : chains.Operand) (j : Judged)
    (segno word ring value writer stamp : ℕ) (onward : ℕ → Next)
    → wanted walk ≡ Word segno word ring → j.element.outcome ≡ outcome.Read value writer stamp
    → refuses walk value ≡ None → after_seen g line walk j (wanted walk) onward ≡ onward value
stepped g line walk j segno word ring value writer stamp onward wants came taken_in =
    ap (λ (w : Want). after_seen g line walk j w onward) wants
    ∙ ap (λ (o : Outcome). after_word g walk segno word ring o onward) came
    ∙ ap (λ (why : Option Stuck). taken g segno word ring why (onward value)) taken_in

pub walk_law : WalkLaw
walk_law g line seen walk j segno word ring value writer stamp walked wants came taken_in more =
    ap (λ (l : List Judged). attempt g line l) (append_assoc seen (j ∷ []) more)
    ∙ walked (j ∷ more)
    ∙ stepped g line walk j segno word ring value writer stamp
    (λ v. along g line (read_on walk (parts_of v) j.desc.brackets.r1) more) wants came taken_in
