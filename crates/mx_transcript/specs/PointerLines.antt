-- Lines with pointers: right ones, and wrong ones that are one change away from them, which the line rule refuses.
use Rattle.std.specs.Prelude.{ℕ, nat_eq, Bool, true, false, if◌then◌else◌, List, [], ◌∷◌}
use Rattle.mx_sdw.specs.Descriptors.{Descriptor, segment_desc}
use Rattle.mx_sdw.specs.declared.denials.Denial.TheVariants as denial
use Rattle.mx_ptr.specs.Pointers.{PointerParts}
use Rattle.mx_call.specs.Registers.{Registers}
use Rattle.mx_upcall.specs.Control.{Control, ungated}
use Rattle.mx_core.specs.declared.elements.Element.{Element}
use Rattle.mx_core.specs.declared.elements.Event.TheVariants.{Seen}
use Rattle.mx_core.specs.declared.elements.Kind.TheVariants as kind
use Rattle.mx_core.specs.declared.elements.Outcome.TheVariants as outcome
use Rattle.mx_hier.specs.declared.refusals.Refusal.TheVariants.{NotLinkage}
use Rattle.mx_request.specs.declared.replies.Reply.TheVariants as reply
use Rattle.mx_request.specs.declared.requests.Request.TheVariants.{Link}
use Rattle.mx_state.specs.declared.journal.Entry as journaled
use Rattle.mx_script.specs.declared.lines.Base.TheVariants.{Segment, Register}
use Rattle.mx_script.specs.declared.lines.Line.{Line}
use Rattle.mx_script.specs.declared.lines.Line.TheVariants as line
use Rattle.mx_transcript.specs.declared.transcripts.Event2.{Event2}
use Rattle.mx_transcript.specs.declared.transcripts.Event2.TheVariants.{Core, Entry}
use Rattle.mx_transcript.specs.declared.transcripts.Result2.{Result2}
use Rattle.mx_transcript.specs.declared.transcripts.Result2.TheVariants as result
use Rattle.mx_transcript.specs.Lines.{IsLine}
use Rattle.mx_transcript.specs.Settings.{Setting}

abbrev pub pointer : ℕ → ℕ → ℕ → PointerParts
pointer ring segno word = record { ring = ring; segno = segno; word = word; further = false }

-- ring 1, with pointer register 0 in ring 1 and the others in ring 4; register 2 points to 9|5
abbrev pub g : Registers
g = record {
  ring = 1;
  procedure = pointer 1 12 0;
  pr = pointer 1 1 0 ∷ pointer 4 4 0 ∷ pointer 4 9 5 ∷ pointer 4 4 0 ∷ pointer 4 4 0 ∷ pointer 4 4 0 ∷ pointer 4 4 0
      ∷ pointer 4 10 0 ∷ [];
  a = 5;
}

-- and the same with register 2 loaded with a pointer
abbrev pub with_register_2 : PointerParts → Registers
with_register_2 p = record g {
  pr = pointer 1 1 0 ∷ pointer 4 4 0 ∷ p ∷ pointer 4 4 0 ∷ pointer 4 4 0 ∷ pointer 4 4 0 ∷ pointer 4 4 0
      ∷ pointer 4 10 0 ∷ [];
}

-- segment 8 has brackets 4,4,4, all others 1,4,4; all are to read and write
abbrev pub access : ℕ → Descriptor
access segno = segment_desc (record { r1 = if nat_eq segno 8 then 4 else 1; r2 = 4; r3 = 4 }) true false true 0 8 64

-- entries of process 1 in ring 1: the link at 8|0 was refused; the link at 8|1, and the one at 8|0 in ring 4
abbrev pub no_link : journaled.Entry
no_link = record { process = 1; ring = 1; request = Link 8 0; reply = reply.Refused NotLinkage }

abbrev pub setting : Bool → Setting
setting full = record {
  process = 1;
  journal = no_link ∷ record no_link { request = Link 8 1 } ∷ record no_link { ring = 4 } ∷ [];
  full = full;
  descriptor = λ e. access e.segno;
}

-- an indirect word at 8|0, read in ring 1
abbrev pub word : ℕ → Element
word value = record { kind = kind.Ind; segno = 8; word = 0; ring = 1; point = 0; outcome = outcome.Read value 2 0 }

-- octal 1100001243: to 9|5, with ring 0; and the write at 9|5 in ring 4, which segment 8's first bracket makes of it
abbrev pub forged : Element
forged = word 150995619

abbrev pub refused : Element
refused = record { kind = kind.Write; segno = 9; word = 5; ring = 4; point = 0; outcome = outcome.Denied denial.WriteBracket }

-- octal 1000000143: to 8|0, where a further indirect word stands; read again in ring 4
abbrev pub circle : Element
circle = word 134217827

abbrev pub again : Element
again = record circle { ring = 4 }

abbrev pub eight : List Event2
eight = Core (Seen circle) ∷ Core (Seen again) ∷ Core (Seen again) ∷ Core (Seen again) ∷ Core (Seen again)
    ∷ Core (Seen again) ∷ Core (Seen again) ∷ Core (Seen again) ∷ []

-- octal 46, a link word; and octal 52, neither a link nor a pointer
abbrev pub link : Element
link = word 38

abbrev pub other : Element
other = word 42

-- octal 1140001243, the word of register 2, stored at 9|0 in ring 1
abbrev pub stored : Element
stored = record { kind = kind.Write; segno = 9; word = 0; ring = 1; point = 0; outcome = outcome.Written 159384227 }

abbrev pub read : Element
read = record { kind = kind.Read; segno = 9; word = 4; ring = 4; point = 0; outcome = outcome.Read 7 2 0 }

abbrev pub sta : Line
sta = line.Sta (record { base = Segment 8; word = 0; indirect = true })

abbrev pub lda : Line
lda = line.Lda (record { base = Segment 8; word = 0; indirect = true })

abbrev pub lda_register : Line
lda_register = line.Lda (record { base = Register 2; word = 16383; indirect = false })

abbrev pub epp : Line
epp = line.Epp 2 (record { base = Segment 8; word = 0; indirect = true })

abbrev pub spri : Line
spri = line.Spri 2 (record { base = Segment 9; word = 0; indirect = false })

pub record RightPointers : Type 0 where
  -- a forged ring is raised by the first bracket of the segment that held the word
  pub forged_ring : IsLine (setting false) (ungated g) sta (Core (Seen forged) ∷ Core (Seen refused) ∷ [])
      (result.Denied denial.WriteBracket) (ungated g)
  -- an eighth word that asks for a further one
  pub eighth : IsLine (setting false) (ungated g) lda eight (result.Denied denial.IndirectLimit) (ungated g)
  -- a word that is no pointer
  pub no_pointer : IsLine (setting false) (ungated g) lda (Core (Seen other) ∷ []) (result.Denied denial.NotPointer) (ungated g)
  -- a link word in an ordinary segment; and one where the journal is full
  pub forged_link : IsLine (setting false) (ungated g) lda (Core (Seen link) ∷ Entry 1 ∷ []) result.Refused (ungated g)
  pub link_full : IsLine (setting true) (ungated g) lda (Core (Seen link) ∷ []) result.HistoryFull (ungated g)
  -- a load through a register in its ring, at a word number that goes round
  pub by_register : IsLine (setting false) (ungated g) lda_register (Core (Seen read) ∷ []) (result.A 7) (ungated (record g { a = 7 }))
  -- a register is loaded with the effective pointer, and stored
  pub loaded : IsLine (setting false) (ungated g) epp (Core (Seen forged) ∷ []) (result.Pr 2 (pointer 4 9 5))
      (ungated (with_register_2 (pointer 4 9 5)))
  pub spelled : IsLine (setting false) (ungated g) spri (Core (Seen stored) ∷ []) result.Done (ungated g)

-- no such line
abbrev pub Never : Line → List Event2 → Result2 → Type 0
Never l events ends = (after : Control) → IsLine (setting false) (ungated g) l events ends after → ⊥

pub record WrongPointers : Type 0 where
  -- the forged ring is believed
  pub believed : Never sta (Core (Seen forged) ∷ Core (Seen (record refused { ring = 1; outcome = outcome.Written 5 })) ∷ [])
      result.Done
  -- the indirect word is not read
  pub unread : Never sta (Core (Seen refused) ∷ []) (result.Denied denial.WriteBracket)
  -- or read twice
  pub read_twice : Never sta (Core (Seen forged) ∷ Core (Seen forged) ∷ Core (Seen refused) ∷ [])
      (result.Denied denial.WriteBracket)
  -- a link is taken for a pointer, to 0|0
  pub link_taken : Never lda (Core (Seen link) ∷ Core (Seen (record read { segno = 0; word = 0 })) ∷ []) (result.A 7)
  -- the entry of another link, or of the same link in another ring
  pub other_link : Never lda (Core (Seen link) ∷ Entry 2 ∷ []) result.Refused
  pub other_ring : Never lda (Core (Seen link) ∷ Entry 3 ∷ []) result.Refused
  -- a refused link ends done
  pub not_refused : Never lda (Core (Seen link) ∷ Entry 1 ∷ []) result.Done
  -- a full journal below its limit
  pub below_limit : Never lda (Core (Seen link) ∷ []) result.HistoryFull
  -- a register is loaded with the current ring, or with the ring in the word
  pub ring_kept : Never epp (Core (Seen forged) ∷ []) (result.Pr 2 (pointer 1 9 5))
  pub ring_in_word : Never epp (Core (Seen forged) ∷ []) (result.Pr 2 (pointer 0 9 5))
  -- another register's word is stored
  pub other_word : Never spri (Core (Seen (record stored { outcome = outcome.Written 75497507 })) ∷ []) result.Done
  -- a load through a register in the current ring
  pub current_ring : Never lda_register (Core (Seen (record read { ring = 1 })) ∷ []) (result.A 7)
