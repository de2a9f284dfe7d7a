-- A run is legal exactly where nothing in it is a breach, and it has one breach at most.
use Rattle.std.specs.Prelude.{◌≡◌, ◌↔◌, ℕ, ◌<◌, ◌≤◌, List, length}
use Rattle.mx_reads.specs.Deeds.{Deeds}
use Rattle.mx_script.specs.Sessions.{IsSession, Outline}
use Rattle.mx_state.specs.declared.journal.Entry as journaled
use Rattle.mx_stores.specs.Deciding.{AreRightTo}
use Rattle.mx_transcript.specs.Legal.{IsLegal}
use Rattle.mx_transcript.specs.Reads.{IsKnown}
use Rattle.mx_transcript.specs.Transcripts.{Step}
use Rattle.mx_legal.specs.Breach.{HasNamed, IsBreach, parts_in}
use Rattle.mx_legal.specs.Entries.{AreGoodTo}
use Rattle.mx_legal.specs.Fronts.{AreRightReadsTo, IsGoodPart, IsGoodTo}

-- nothing is a breach: all entries and all parts are good, and each entry is named
pub record IsGoodRun (session : Outline) (journal : List journaled.Entry) (transcripts : List (List Step)) : Type 0 where
  pub entries : AreGoodTo session journal (length journal)
  pub parts : (p : ℕ) → p < parts_in session transcripts → IsGoodPart session journal transcripts p
  pub named : (p : ℕ) → HasNamed journal transcripts p

-- said of entries and lines, and said of the whole run
abbrev pub LegalLaw : Type 0
LegalLaw = (session : Outline) (journal : List journaled.Entry) (transcripts : List (List Step)) → IsSession session
    → IsLegal session journal transcripts ↔ IsGoodRun session journal transcripts

-- a legal run has no breach
abbrev pub NoBreachLaw : Type 0
NoBreachLaw = (session : Outline) (journal : List journaled.Entry) (transcripts : List (List Step)) (process line : ℕ)
    → IsSession session → IsLegal session journal transcripts → IsBreach session journal transcripts process line → ⊥

-- two breaches of a run are one
abbrev pub OneBreachLaw : Type 0
OneBreachLaw = (session : Outline) (journal : List journaled.Entry) (transcripts : List (List Step)) (p line q other : ℕ)
    → IsBreach session journal transcripts p line → IsBreach session journal transcripts q other → (p ≡ q) × (line ≡ other)

-- where more lines keep the rules, fewer do
abbrev pub FrontLaw : Type 0
FrontLaw = (session : Outline) (journal : List journaled.Entry) (transcripts : List (List Step)) (p j k : ℕ) → j ≤ k
    → IsGoodTo session journal transcripts p k → IsGoodTo session journal transcripts p j

-- the reads of a process in a run are those that are decided from when on stores are known
abbrev pub ReadsToLaw : Type 0
ReadsToLaw = (done : Deeds) (p n : ℕ) → AreRightReadsTo done (IsKnown done) p n ↔ AreRightTo done p n
