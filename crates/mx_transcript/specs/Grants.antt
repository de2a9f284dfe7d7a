-- What a granted reference of a legal run rests on: the access at its printed point, and of a segment the entry of its
-- access list that decides for the process's principal.
use Rattle.std.specs.Prelude.{◌≡◌, ℕ, ◌<◌, Bool, true, List, take}
use Rattle.mx_acl.specs.declared.modes.Modes.{Modes}
use Rattle.mx_core.specs.declared.elements.Element.{Element}
use Rattle.mx_hier.specs.DecidingEntry.{gives}
use Rattle.mx_kst.specs.declared.lots.Lot.TheVariants.{Branch}
use Rattle.mx_sdw.specs.Descriptors.{Descriptor}
use Rattle.mx_sdw.specs.Judging.{cell_of}
use Rattle.mx_sdw.specs.declared.descriptors.DescKind.TheVariants.{Segment}
use Rattle.mx_script.specs.Sessions.{Outline}
use Rattle.mx_state.specs.DecidingEntry.{entry_behind, lot_for}
use Rattle.mx_state.specs.History.{replay}
use Rattle.mx_state.specs.Plain.{Plain, process_at}
use Rattle.mx_state.specs.declared.journal.Entry as journaled
use Rattle.mx_transcript.specs.Access.{descriptor_of}
use Rattle.mx_reads.specs.Deeds.{CellUse}
use Rattle.mx_transcript.specs.Opened.{opening_of}
use Rattle.mx_transcript.specs.Uses.{use_of}

-- the state of the plain supervisor after the first so many entries
abbrev pub state_at : Outline → List journaled.Entry → ℕ → Plain
state_at session journal point = replay (opening_of session) (take point journal)

-- the cell of the word of a reference, in its use at the printed point
abbrev pub cell_referred : Outline → List journaled.Entry → ℕ → Element → CellUse
cell_referred session journal p element =
    use_of session journal (cell_of (descriptor_of session journal p element) element.word).0 element.point

-- What the access at the reference's printed point was: the segment stood and had the word, and the descriptor allowed
-- it at the effective ring. Where the number stands for a segment, the modes of its deciding entry have the letter;
-- stacks and linkage sections have no access list, and their descriptors say all.
pub record HadAccess (session : Outline) (journal : List journaled.Entry) (p : ℕ) (element : Element)
    (Allows : Descriptor → ℕ → Type 0) (letter : Modes → Bool) : Type 0 where
  pub stood : (descriptor_of session journal p element).kind ≡ Segment
  pub word : element.word < (descriptor_of session journal p element).bound
  pub allowed : Allows (descriptor_of session journal p element) element.ring
  pub listed : (uid : ℕ)
      → lot_for (process_at (state_at session journal element.point).processes p) element.segno ≡ Branch uid
      → gives letter (entry_behind (state_at session journal element.point) p element.segno) ≡ true
