-- Helpers: the walk of a line that asks for an indirect word, and what leads it on.
use Rattle.std.specs.Prelude.{◌≡◌, ◌-◌, ◌<◌, List, [], ◌∷◌, ◌++◌}
use Rattle.mx_core.specs.declared.elements.Element.{Element}
use Rattle.mx_effring.specs.Walks.{Reached, wanted_at}
use Rattle.mx_effring.specs.declared.walks.Want.TheVariants.{Word}
use Rattle.mx_script.specs.declared.lines.Line.{Line}
use Rattle.mx_sdw.specs.Descriptors.{Descriptor}
use Rattle.mx_transcript.specs.Asking.{next}
use Rattle.mx_transcript.specs.Courses.{Course, Judged}
use Rattle.mx_transcript.specs.Next.{Asks}
use Rattle.mx_upcall.specs.Control.{Control}
use Rattle.mx_line.specs.AtWork.{IsCome, beside}
use Rattle.mx_line.specs.Looks.{looks}
use Rattle.mx_line.specs.Operands.{HasComeTo, IsGoodWalk, IsMemoryLine}
use Rattle.mx_line.specs.Processes.{Takes}
use Rattle.mx_line.specs.declared.at_work.LineAtWork.TheVariants.{At}
use Rattle.mx_line.specs.declared.operands.Place.{Place}
use Rattle.mx_line.specs.declared.operands.Progress.{Progress}
use Rattle.mx_line.specs.declared.operands.Progress.TheVariants.{Walking}

-- an element on this descriptor leads the walk on, to here
pub record LeadsOn (g : Control) (l : Line) (walk : Reached) (e : Element) (d : Descriptor) (onward : Reached) : Type 0 where
  pub comes : (seen : List Judged) → HasComeTo g l seen walk → HasComeTo g l (seen ++ beside e d ∷ []) onward
  pub good : IsGoodWalk g.registers onward
  pub closer : 9 - onward.count < 9 - walk.count

-- a line that has come so far has this walk, which asks for the indirect word at this place
pub record IsLooking (g : Control) (l : Line) (progress : Progress) (walk : Reached) (place : Place) : Type 0 where
  pub good : IsGoodWalk g.registers walk
  pub wants : wanted_at walk ≡ Word place.segno place.word place.ring
  pub memory : (course : Course) → IsCome g l course progress → IsMemoryLine l
  pub asks : (course : Course) → IsCome g l course progress → next g l course ≡ Asks (looks place)
  pub takes : (e : Element) (d : Descriptor) (onward : Reached) → LeadsOn g l walk e d onward
      → Takes g l progress e d (At (Walking onward))
