-- What the statuses of the top call mean. A source's bytes and a sink's are spoken of where they are told.
use Rattle.std.specs.Prelude.{◌≡◌, ◌⊎◌, ℕ, ◌≤◌, ◌<◌, List, length, Option, codes}
use Rattle.mx_both.specs.BothTexts.{IsSomeBoth}
use Rattle.mx_breach.specs.Sources as breach
use Rattle.mx_drill.specs.Drills.{drill_session}
use Rattle.mx_explain.specs.Commands.{IsLint, IsRunAs, IsOutcomes, IsPair, LineName, IsPlain, IsBreach, IsDrill, IsHelp, IsShowing, IsAnswered, IsCommand}
use Rattle.mx_explain.specs.declared.words.Form.{Form}
use Rattle.mx_explain.specs.declared.words.Form.TheVariants.{Lines, Story, Picture, Page}
use Rattle.mx_explain.specs.PlainTexts.{plain_text}
use Rattle.mx_explain.specs.Usage.{usage, refusal}
use Rattle.mx_outcomes.specs.OutcomesTexts.{TellsAll, TellsTwo}
use Rattle.mx_outcomes.specs.WholeRuns.{IsWholeRun}
use Rattle.mx_io.specs.Bytes.{TakesAll, TakesTooMany, Appends, AppendsPart}
use Rattle.mx_transcript.specs.Transcripts.{Step}
use Rattle.mx_lint.specs.Diagnoses.{IsAbout}
use Rattle.mx_picture.specs.Pages.{GainsPage}
use Rattle.mx_picture.specs.Drawings.{GainsDrawing}
use Rattle.mx_script.specs.FirstBadLine.{IsFirstBad}
use Rattle.mx_script.specs.Sessions.{Outline}
use Rattle.mx_script.specs.SessionTexts.{IsText, IsSomeSession, session_text}
use Rattle.mx_show.specs.Lines.{GainsLines}
use Rattle.mx_state.specs.declared.journal.Entry as journaled
use Rattle.mx_show.specs.StoryPrinting.{GainsStory}

-- at most so many bytes are read; under `breach`, of a session and a run, as many as `mx_breach` says
abbrev pub most_bytes : ℕ
most_bytes = 4194304

-- the source was read to its end, and these are its bytes, within the limit
pub record IsRead (source source' : Option (List ℕ)) (spelled : List ℕ) : Type 0 where
  pub taken : TakesAll source source' spelled
  pub within : length spelled ≤ most_bytes

-- what the sink gains in each form: the text of `lines`, the lines in time, of which the frame is told, the drawing, or a page with it
abbrev pub Gains : Form → Option (List ℕ) → Option (List ℕ) → Outline → List journaled.Entry → List (List Step) → Type 0
Gains Lines sink sink' x journal transcripts = GainsLines sink sink' x journal transcripts
Gains Story sink sink' x journal transcripts = GainsStory x journal sink sink'
Gains Picture sink sink' x journal transcripts = GainsDrawing sink sink' x journal transcripts
Gains Page sink sink' x journal transcripts = GainsPage sink sink' x journal transcripts

-- the sink gained in this form a run in which each process did all its lines
pub record IsShownRun (form : Form) (x : Outline) (sink sink' : Option (List ℕ)) : Type 0 where
  pub journal : List journaled.Entry
  pub transcripts : List (List Step)
  pub run : IsWholeRun x journal transcripts
  pub gained : Gains form sink sink' x journal transcripts

-- the sink gained what the lines come to in all orders, or what two of them come to together
pub record AreTold (x : Outline) (sink sink' : Option (List ℕ)) : Type 0 where
  pub text : List ℕ
  pub told : TellsAll x text
  pub gained : Appends sink sink' text

pub record AreTwoTold (x : Outline) (two : LineName × LineName) (sink sink' : Option (List ℕ)) : Type 0 where
  pub text : List ℕ
  pub told : TellsTwo x two.0 two.1 text
  pub gained : Appends sink sink' text

abbrev pub ShowsOutcomes : List (List ℕ) → Outline → Option (List ℕ) → Option (List ℕ) → Type 0
ShowsOutcomes words x sink sink' =
    (IsOutcomes words × AreTold x sink sink')
    ⊎ ((two : LineName × LineName) × (IsPair words two × AreTwoTold x two sink sink'))

-- what a command shows of a session: that it is one, its run in the form that is asked for, or what its lines come to in all orders
abbrev pub Shows : List (List ℕ) → Outline → Option (List ℕ) → Option (List ℕ) → Type 0
Shows words x sink sink' =
    (IsLint words × Appends sink sink' (codes "good\n"))
    ⊎ (((form : Form) × (IsRunAs form words × IsShownRun form x sink sink')) ⊎ ShowsOutcomes words x sink sink')

-- under `lint`, `outcomes` and the forms of a run: the source held the text of a session, and this was shown of it
pub record IsShown (words : List (List ℕ)) (source source' sink sink' : Option (List ℕ)) : Type 0 where
  pub spelled : List ℕ
  pub read : IsRead source source' spelled
  pub session : Outline
  pub text : IsText spelled session
  pub shown : Shows words session sink sink'

-- under `plain`: the source held a text, and the sink gained it without its titles
pub record IsPrintedPlain (words : List (List ℕ)) (source source' sink sink' : Option (List ℕ)) : Type 0 where
  pub asked : IsPlain words
  pub spelled : List ℕ
  pub read : IsRead source source' spelled
  pub printed : Appends sink sink' (plain_text spelled)

-- under `drill N`: the sink gained the text of the session of that number
pub record IsPrintedDrill (words : List (List ℕ)) (sink sink' : Option (List ℕ)) : Type 0 where
  pub number : ℕ
  pub asked : IsDrill words number
  pub printed : Appends sink sink' (session_text (drill_session number))

-- Status 0. Under `breach` the source held the texts of a session and a run, and the sink gained that the run is legal, or its breach.
abbrev pub IsDone : List (List ℕ) → Option (List ℕ) → Option (List ℕ) → Option (List ℕ) → Option (List ℕ) → Type 0
IsDone words source source' sink sink' =
    IsShown words source source' sink sink'
    ⊎ (IsPrintedPlain words source source' sink sink'
    ⊎ ((IsBreach words × breach.IsToldSource source source' sink sink')
    ⊎ (IsPrintedDrill words sink sink' ⊎ (IsHelp words × Appends sink sink' usage))))

-- the sink gained words about this line
pub record IsToldOf (sink sink' : Option (List ℕ)) (number : ℕ) : Type 0 where
  pub words : List ℕ
  pub about : IsAbout words number
  pub told : Appends sink sink' words

-- these bytes are no session, and the sink gained words about the first bad line
pub record IsBadText (spelled : List ℕ) (sink sink' : Option (List ℕ)) : Type 0 where
  pub number : ℕ
  pub first : IsFirstBad spelled number
  pub told : IsToldOf sink sink' number

-- the source held no session
pub record IsRefusedText (source source' sink sink' : Option (List ℕ)) : Type 0 where
  pub spelled : List ℕ
  pub read : IsRead source source' spelled
  pub bad : IsBadText spelled sink sink'

-- Status 5. Under `breach` the source held no session followed by a run, and the sink gained the number of the first bad line.
abbrev pub IsRefused : List (List ℕ) → Option (List ℕ) → Option (List ℕ) → Option (List ℕ) → Option (List ℕ) → Type 0
IsRefused words source source' sink sink' =
    (IsShowing words × IsRefusedText source source' sink sink') ⊎ (IsBreach words × breach.IsBadSource source source' sink sink')

-- the sink gained a front of words about this line, and not all of them
pub record IsCutOffOf (sink sink' : Option (List ℕ)) (number : ℕ) : Type 0 where
  pub words : List ℕ
  pub about : IsAbout words number
  pub part : AppendsPart sink sink' words

-- it gained a front of words about the first bad line
pub record IsBadTextCut (spelled : List ℕ) (sink sink' : Option (List ℕ)) : Type 0 where
  pub number : ℕ
  pub first : IsFirstBad spelled number
  pub part : IsCutOffOf sink sink' number

pub record IsRefusalCut (source source' sink sink' : Option (List ℕ)) : Type 0 where
  pub spelled : List ℕ
  pub read : IsRead source source' spelled
  pub bad : IsBadTextCut spelled sink sink'

-- the source held the text of a session; under `lint` the sink gained a front of what is due
pub record IsShowingCut (words : List (List ℕ)) (source source' sink sink' : Option (List ℕ)) : Type 0 where
  pub asked : IsShowing words
  pub spelled : List ℕ
  pub read : IsRead source source' spelled
  pub session : IsSomeSession spelled
  pub lint : IsLint words → AppendsPart sink sink' (codes "good\n")

-- the source held a text, and the sink gained a front of what is left of it
pub record IsPlainCut (words : List (List ℕ)) (source source' sink sink' : Option (List ℕ)) : Type 0 where
  pub asked : IsPlain words
  pub spelled : List ℕ
  pub read : IsRead source source' spelled
  pub part : AppendsPart sink sink' (plain_text spelled)

-- the sink gained a front of the text of the session of that number
pub record IsDrillCut (words : List (List ℕ)) (sink sink' : Option (List ℕ)) : Type 0 where
  pub number : ℕ
  pub asked : IsDrill words number
  pub part : AppendsPart sink sink' (session_text (drill_session number))

-- a front of what is due of the source, as a session or as a text
abbrev pub GainsFrontOfSource : List (List ℕ) → Option (List ℕ) → Option (List ℕ) → Option (List ℕ) → Option (List ℕ) → Type 0
GainsFrontOfSource words source source' sink sink' =
    (TakesTooMany most_bytes source source' × AppendsPart sink sink' (codes "too long\n"))
    ⊎ (IsRefusalCut source source' sink sink' ⊎ (IsShowingCut words source source' sink sink' ⊎ IsPlainCut words source source' sink sink'))

-- a front of what is due on the words alone
abbrev pub GainsFrontOfAnswer : List (List ℕ) → Option (List ℕ) → Option (List ℕ) → Type 0
GainsFrontOfAnswer words sink sink' =
    ((IsCommand words → ⊥) × AppendsPart sink sink' refusal)
    ⊎ (IsDrillCut words sink sink' ⊎ (IsHelp words × AppendsPart sink sink' usage))

-- Status 4: a front of what is due was written, and not all of it.
abbrev pub GainsFront : List (List ℕ) → Option (List ℕ) → Option (List ℕ) → Option (List ℕ) → Option (List ℕ) → Type 0
GainsFront words source source' sink sink' =
    ((IsShowing words ⊎ IsPlain words) × GainsFrontOfSource words source source' sink sink')
    ⊎ ((IsBreach words × breach.GainsSourceFront source source' sink sink') ⊎ GainsFrontOfAnswer words sink sink')

-- Statuses 1, 3 and 4: memory ran out, or the source or the sink failed.
abbrev pub IsStopped : ℕ → Type 0
IsStopped status = (status ≡ 1) ⊎ ((status ≡ 3) ⊎ (status ≡ 4))

-- The status that the words of a command and the bytes of its source ask for.
pub record IsDueStatus (words : List (List ℕ)) (spelled : List ℕ) (status : ℕ) : Type 0 where
  pub bad_words : (IsCommand words → ⊥) → status ≡ 2
  pub answered : IsAnswered words → status ≡ 0
  pub session : IsShowing words → length spelled ≤ most_bytes → IsSomeSession spelled → status ≡ 0
  pub no_session : IsShowing words → length spelled ≤ most_bytes → (IsSomeSession spelled → ⊥) → status ≡ 5
  pub plain : IsPlain words → length spelled ≤ most_bytes → status ≡ 0
  pub too_long : IsShowing words ⊎ IsPlain words → most_bytes < length spelled → status ≡ 6
  pub run : IsBreach words → length spelled ≤ breach.most_bytes → IsSomeBoth spelled → status ≡ 0
  pub no_run : IsBreach words → length spelled ≤ breach.most_bytes → (IsSomeBoth spelled → ⊥) → status ≡ 5
  pub run_too_long : IsBreach words → breach.most_bytes < length spelled → status ≡ 6
