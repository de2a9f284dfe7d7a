-- Where a walk goes on by an indirect word, its line has come further.
use Rattle.std.proofs.Common.{◌≡◌, ℕ, ◌<◌, ◌-◌, List, [], ◌∷◌, ◌++◌, Some, arith, ◌∙◌, ap}
use Rattle.std.specs.Option.{option_map}
use Rattle.mx_core.specs.declared.elements.Element.{Element}
use Rattle.mx_core.specs.declared.elements.Outcome.TheVariants.{Read}
use Rattle.mx_effring.specs.Walks.{Reached, reached, wanted_at}
use Rattle.mx_effring.specs.declared.walks.Want.TheVariants.{Word}
use Rattle.mx_script.specs.declared.lines.Line.{Line}
use Rattle.mx_sdw.specs.Descriptors.{Descriptor}
use Rattle.mx_transcript.specs.Attempts.{wants}
use Rattle.mx_transcript.specs.Courses.{Judged}
use Rattle.mx_transcript.specs.Operands.{walk_of}
use Rattle.mx_upcall.specs.Control.{Control}
use Rattle.mx_line.proofs.StandingLaws.{before_asks, walking_asks, walking_refers}
use Rattle.mx_line.proofs.TakenLaws.{begun_asks, begun_at, begun_taken, walking_taken}
use Rattle.mx_line.specs.AtWork.{beside}
use Rattle.mx_line.specs.Looking.{IsLooking, LeadsOn}
use Rattle.mx_line.specs.Operands.{HasComeTo, IsGoodWalk, IsMemoryLine}
use Rattle.mx_line.specs.Processes.{Takes}
use Rattle.mx_line.specs.declared.at_work.LineAtWork.TheVariants.{At}
use Rattle.mx_line.specs.declared.operands.Place.{Place}
use Rattle.mx_line.specs.declared.operands.Progress.TheVariants.{Before, Walking}

-- by a word that was read on a descriptor
abbrev pub Feeds : Control → Line → Reached → ℕ → ℕ → Reached → Type 0
Feeds g l walk value r1 next = (seen : List Judged) (j : Judged) (writer stamp : ℕ) → HasComeTo g l seen walk
    → j.element.outcome ≡ Read value writer stamp → j.desc.brackets.r1 ≡ r1 → HasComeTo g l (seen ++ j ∷ []) next

-- by an element on a descriptor
abbrev pub Steps : Control → Line → Reached → Element → Descriptor → Reached → Type 0
Steps g l walk e d next = (seen : List Judged) → HasComeTo g l seen walk → HasComeTo g l (seen ++ beside e d ∷ []) next

pub fed_steps : (g : Control) (l : Line) (walk : Reached) (e : Element) (d : Descriptor) (value writer stamp r1 : ℕ) (onward : Reached)
    → e.outcome ≡ Read value writer stamp → d.brackets.r1 ≡ r1 → Feeds g l walk value r1 onward → Steps g l walk e d onward
fed_steps g l walk e d value writer stamp r1 onward read first feeds = λ seen come. feeds seen (beside e d) writer stamp come read first

walking_takes : (g : Control) (l : Line) (walk : Reached) (e : Element) (d : Descriptor) (onward : Reached)
    → LeadsOn g l walk e d onward → Takes g l (Walking walk) e d (At (Walking onward))
walking_takes g l walk e d onward leads = record {
  taken = λ setting on.
      walking_taken g l walk e d (At (Walking onward)) (λ seen asked come wants right. leads.comes seen come) setting on;
  good = leads.good;
  nearer = leads.closer;
}

begun_takes : (g : Control) (l : Line) (walk : Reached) (e : Element) (d : Descriptor) (onward : Reached)
    → option_map reached (walk_of g.registers l) ≡ Some walk → LeadsOn g l walk e d onward
    → Takes g l Before e d (At (Walking onward))
begun_takes g l walk e d onward has leads = let closer = leads.closer in record {
  taken = λ setting on.
      begun_taken g l walk e d (At (Walking onward)) has (λ seen asked come wants right. leads.comes seen come) setting on;
  good = leads.good;
  nearer = omega (arith, closer);
}

-- the word for which a walk asks
pub walking_looks : (g : Control) (l : Line) (walk : Reached) (place : Place) → IsGoodWalk g.registers walk
    → wanted_at walk ≡ Word place.segno place.word place.ring → IsLooking g l (Walking walk) walk place
walking_looks g l walk place good is = record {
  good = good;
  wants = is;
  memory = λ course come. walking_refers g l course walk come;
  asks = λ course come. walking_asks g l course walk come ∙ ap (wants g l) is;
  takes = walking_takes g l walk;
}

pub begun_looks : (g : Control) (l : Line) (walk : Reached) (place : Place) → IsGoodWalk g.registers walk
    → wanted_at walk ≡ Word place.segno place.word place.ring → IsMemoryLine l
    → option_map reached (walk_of g.registers l) ≡ Some walk → IsLooking g l Before walk place
begun_looks g l walk place good is memory has = record {
  good = good;
  wants = is;
  memory = λ course come. memory;
  asks = λ course come. before_asks g l course come ∙ begun_asks g l walk (begun_at g l walk has) ∙ ap (wants g l) is;
  takes = λ e d onward leads. begun_takes g l walk e d onward has leads;
}
