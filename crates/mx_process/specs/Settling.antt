-- What a settled miss leaves.
use Rattle.std.specs.Prelude.{◌≡◌, ◌≤◌, List, [], ◌∷◌, ◌++◌, None, Some}
use Rattle.mx_closing.specs.Views.{marked_in}
use Rattle.mx_core.specs.declared.elements.Event.TheVariants.{Missing}
use Rattle.mx_line.specs.declared.operands.Progress.{Progress}
use Rattle.mx_line.specs.declared.operands.Progress.TheVariants.{Before, Walking, AtLink, Waiting, Filling}
use Rattle.mx_office.specs.Serving.{told_to}
use Rattle.mx_ties.specs.Views.{Marked}
use Rattle.mx_transcript.specs.declared.transcripts.Event2.TheVariants.{Core}
use Rattle.mx_process.specs.Processes.{ProcessValue}
use Rattle.mx_process.specs.declared.misses.Miss.{Miss}

-- after a miss a line begins anew; but a write that is due stays due
abbrev pub again : Progress → Progress
again (Filling fill) = Filling fill
again Before = Before
again (Walking walk) = Before
again (AtLink place) = Before
again Waiting = Before

-- The miss that was to be settled is: the transcript has it, and the line begins anew, with the registers of its start; but where
-- a write was due that missed, it is due again. What the process did stays, and it made no entry; it was told of more, and its floor, and what it knows settled of the number, have reached
-- the entry by which it missed.
pub record IsSettled (old new : ProcessValue) : Type 0 where
  pub miss : Miss
  pub pending : old.missing ≡ Some miss
  pub settled : new.missing ≡ None
  pub first : new.state.first ≡ old.state.first
  pub control : new.state.control ≡ old.state.control
  pub steps : new.state.recording.steps ≡ old.state.recording.steps
  pub events : new.state.recording.events ≡ old.state.recording.events ++ Core (Missing miss.segno miss.by) ∷ []
  pub anew : new.state.progress ≡ again old.state.progress
  pub process : new.pass.view.process ≡ old.pass.view.process
  pub trace : new.pass.view.trace ≡ old.pass.view.trace
  pub amount : new.pass.amount ≡ old.pass.amount
  pub more : List Marked
  pub history : marked_in new.pass.view.history ≡ marked_in old.pass.view.history ++ more
  pub floor : miss.by ≤ new.pass.view.floor
  pub told : miss.by ≤ told_to new.pass miss.segno
  pub account : new.account ≡ old.account
