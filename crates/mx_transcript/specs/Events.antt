-- What an event of a line is, where the line asks for this: one record for each kind of event.
use Rattle.std.specs.Prelude.{◌≡◌, ◌⊎◌, ℕ, List, [], ◌∷◌, ◌++◌, Some}
use Rattle.mx_core.specs.declared.elements.Element.{Element}
use Rattle.mx_core.specs.declared.elements.Event.TheVariants.{Seen, Missing}
use Rattle.mx_core.specs.declared.elements.Outcome.TheVariants.{Written}
use Rattle.mx_state.specs.declared.journal.Entry as journaled
use Rattle.mx_transcript.specs.declared.transcripts.Event2.{Event2}
use Rattle.mx_transcript.specs.declared.transcripts.Event2.TheVariants.{Core, Entry}
use Rattle.mx_transcript.specs.Courses.{Course, Attempt, Answer, Judged, seen_in}
use Rattle.mx_transcript.specs.Elements.{IsJudged}
use Rattle.mx_transcript.specs.Next.{Next, Reference, Asks, Fills, Calls}
use Rattle.mx_transcript.specs.Settings.{Setting, entry_at, judged}

-- the reference that is asked for, judged on its descriptor; the attempt has seen it
pub record IsReference (setting : Setting) (asks : Next) (before : Course) (element : Element) (after : Course) : Type 0 where
  pub asked : Reference
  pub next : asks ≡ Asks asked
  pub right : IsJudged asked (setting.descriptor element) element
  pub leads : after ≡ Attempt (seen_in before ++ judged setting element ∷ [])

-- the write that a reply asks for, granted
pub record IsFill (setting : Setting) (asks : Next) (before : Course) (element : Element) (after : Course) : Type 0 where
  pub asked : Reference
  pub next : asks ≡ Fills asked
  pub right : IsJudged asked (setting.descriptor element) element
  pub value : ℕ
  pub granted : element.outcome ≡ Written value
  pub entry : journaled.Entry
  pub filled : List Judged
  pub since : before ≡ Answer entry filled
  pub leads : after ≡ Answer entry (filled ++ judged setting element ∷ [])

-- a reference missed: the attempt begins anew
pub record IsMiss (asks : Next) (after : Course) : Type 0 where
  pub asked : Reference
  pub next : asks ≡ Asks asked
  pub leads : after ≡ Attempt []

-- the call that is asked for stands in the journal under this number, made by the process
pub record IsCall (setting : Setting) (asks : Next) (number : ℕ) (after : Course) : Type 0 where
  pub entry : journaled.Entry
  pub there : entry_at setting.journal number ≡ Some entry
  pub maker : entry.process ≡ setting.process
  pub next : asks ≡ Calls entry.ring entry.request
  pub leads : after ≡ Answer entry []

-- what an event is, where the line asks for this
abbrev pub IsEvent : Setting → Next → Course → Event2 → Course → Type 0
IsEvent setting asks before (Core (Seen element)) after = IsReference setting asks before element after ⊎ IsFill setting asks before element after
IsEvent setting asks before (Core (Missing segno by)) after = IsMiss asks after
IsEvent setting asks before (Entry number) after = IsCall setting asks number after
