-- Lines with links: an object with a link is made known with its linkage section, and the link is snapped at its first use;
-- and wrong ones that are one change away from them, which the line rule refuses. Numbers are decimal: octal 11 is 9.
use Rattle.std.specs.Prelude.{ℕ, nat_eq, Bool, true, false, not, if◌then◌else◌, List, [], ◌∷◌, Some, None, codes}
use Rattle.mx_hier.specs.declared.refusals.Refusal.TheVariants.{NoDefinition}
use Rattle.mx_sdw.specs.Descriptors.{Descriptor, segment_desc}
use Rattle.mx_sdw.specs.declared.denials.Denial.TheVariants as denial
use Rattle.mx_call.specs.Loading.{loaded}
use Rattle.mx_call.specs.Registers.{Registers}
use Rattle.mx_upcall.specs.Control.{Control, ungated}
use Rattle.mx_core.specs.declared.elements.Element.{Element}
use Rattle.mx_core.specs.declared.elements.Event.TheVariants.{Seen, Missing}
use Rattle.mx_core.specs.declared.elements.Kind.TheVariants as kind
use Rattle.mx_core.specs.declared.elements.Outcome.TheVariants as outcome
use Rattle.mx_request.specs.declared.replies.Reply.TheVariants as reply
use Rattle.mx_request.specs.declared.requests.Request.TheVariants.{Initiate, Link}
use Rattle.mx_state.specs.declared.journal.Entry as journaled
use Rattle.mx_script.specs.declared.lines.Base.TheVariants.{Segment, Register}
use Rattle.mx_script.specs.declared.lines.Line.{Line}
use Rattle.mx_script.specs.declared.lines.Line.TheVariants as line
use Rattle.mx_transcript.specs.declared.transcripts.Event2.{Event2}
use Rattle.mx_transcript.specs.declared.transcripts.Event2.TheVariants.{Core, Entry}
use Rattle.mx_transcript.specs.declared.transcripts.Result2.{Result2}
use Rattle.mx_transcript.specs.declared.transcripts.Result2.TheVariants as result
use Rattle.mx_transcript.specs.Lines.{IsLine}
use Rattle.mx_transcript.specs.Openings.{opening_registers}
use Rattle.mx_transcript.specs.PointerLines.{pointer}
use Rattle.mx_transcript.specs.Settings.{Setting}

-- Entries of process 1: `initiate main` makes it known as 10 with the linkage section 11, or with 14, which is not to be
-- written, or finds it known. The link at 11|0 is snapped to 12|7, or refused, or snapped with the linkage section 13 of the
-- target.
abbrev pub initiated : journaled.Entry
initiated = record {
  process = 1;
  ring = 4;
  request = Initiate (codes "main") None;
  reply = reply.Segno (record { segno = 8; fresh = true; linkage = Some 9 });
}

abbrev pub guarded : journaled.Entry
guarded = record initiated { reply = reply.Segno (record { segno = 8; fresh = true; linkage = Some 12 }) }

abbrev pub known : journaled.Entry
known = record initiated { reply = reply.Segno (record { segno = 8; fresh = false; linkage = None }) }

abbrev pub linked : journaled.Entry
linked = record { process = 1; ring = 4; request = Link 9 0; reply = reply.Linked 10 7 true None }

abbrev pub refused : journaled.Entry
refused = record linked { reply = reply.Refused NoDefinition }

abbrev pub linked_too : journaled.Entry
linked_too = record linked { reply = reply.Linked 10 7 true (Some 11) }

-- linkage sections: 13 has two links, the others one; 14 is not to be written
abbrev pub access : ℕ → Descriptor
access segno = segment_desc (record { r1 = 4; r2 = 4; r3 = 4 }) true false (not (nat_eq segno 12)) 0 8
    (if nat_eq segno 11 then 2 else 1)

abbrev pub setting : Bool → Setting
setting full = record {
  process = 1;
  journal = initiated ∷ linked ∷ refused ∷ record linked { ring = 1 } ∷ linked_too ∷ guarded ∷ known ∷ [];
  full = full;
  descriptor = λ e. access e.segno;
}

-- the process at its start; and in ring 1, with pointer register 2 at 11|0 in ring 4
abbrev pub g : Registers
g = opening_registers 1

abbrev pub in_ring_1 : Registers
in_ring_1 = loaded (record g { ring = 1 }) 2 (pointer 4 9 0)

-- a word stored in ring 0
abbrev pub stored : ℕ → ℕ → ℕ → Element
stored segno word value =
    record { kind = kind.Write; segno = segno; word = word; ring = 0; point = 12; outcome = outcome.Written value }

-- octal 46, the link word 0; octal 246 is the link word 1
abbrev pub word_0 : Element
word_0 = stored 9 0 38

abbrev pub denied_word : Element
denied_word = record (stored 12 0 38) { outcome = outcome.Denied denial.NotWritable }

-- octal 1240001643: the pointer to 12|7 with ring 4
abbrev pub snapped : Element
snapped = stored 9 0 176161699

-- the word at 11|0 is read in ring 4: the link word, and the pointer
abbrev pub read : ℕ → Element
read value = record { kind = kind.Ind; segno = 9; word = 0; ring = 4; point = 12; outcome = outcome.Read value 1 12 }

abbrev pub met : Element
met = read 38

abbrev pub followed : Element
followed = read 176161699

abbrev pub initiate : Line
initiate = line.Ask (Initiate (codes "main") None)

abbrev pub epp : ℕ → Line
epp n = line.Epp n (record { base = Segment 9; word = 0; indirect = true })

abbrev pub epp_register : Line
epp_register = line.Epp 2 (record { base = Register 2; word = 0; indirect = true })

abbrev pub target : ℕ → Result2
target n = result.Pr n (pointer 4 10 7)

pub record RightLinks : Type 0 where
  -- the object is made known, and its link word stored in its linkage section
  pub made : IsLine (setting false) (ungated g) initiate (Entry 1 ∷ Core (Seen word_0) ∷ []) result.Done (ungated g)
  -- it is known already, and no section is made
  pub known_before : IsLine (setting false) (ungated g) initiate (Entry 7 ∷ []) result.Done (ungated g)
  -- the first use: the link is met and snapped, and the line begins anew
  pub first_use : IsLine (setting false) (ungated g) (epp 2)
      (Core (Seen met) ∷ Entry 2 ∷ Core (Seen snapped) ∷ Core (Seen followed) ∷ []) (target 2)
      (ungated (loaded g 2 (pointer 4 10 7)))
  -- the second use, without a fault
  pub second_use : IsLine (setting false) (ungated g) (epp 3) (Core (Seen followed) ∷ []) (target 3) (ungated (loaded g 3 (pointer 4 10 7)))
  -- in ring 1 by a register in ring 4: the call is made in the ring in which the link was read
  pub by_register : IsLine (setting false) (ungated in_ring_1) epp_register
      (Core (Seen met) ∷ Entry 2 ∷ Core (Seen snapped) ∷ Core (Seen followed) ∷ []) (target 2)
      (ungated (loaded in_ring_1 2 (pointer 4 10 7)))
  -- the target's linkage section is made too: its two link words come before the pointer
  pub with_section : IsLine (setting false) (ungated g) (epp 2)
      (Core (Seen met) ∷ Entry 5 ∷ Core (Seen (stored 11 0 38)) ∷ Core (Seen (stored 11 1 166)) ∷ Core (Seen snapped)
      ∷ Core (Seen followed) ∷ []) (target 2) (ungated (loaded g 2 (pointer 4 10 7)))
  -- the link is refused; the link found the journal full
  pub link_refused : IsLine (setting false) (ungated g) (epp 2) (Core (Seen met) ∷ Entry 3 ∷ []) result.Refused (ungated g)
  pub link_full : IsLine (setting true) (ungated g) (epp 2) (Core (Seen met) ∷ []) result.HistoryFull (ungated g)

-- no such line
abbrev pub Never : Registers → Line → List Event2 → Result2 → Type 0
Never g l events ends = (after : Control) → IsLine (setting false) (ungated g) l events ends after → ⊥

pub record WrongLinks : Type 0 where
  -- the link word is not stored; that of another number is; it is stored in the current ring; it is stored twice
  pub unfilled : Never g initiate (Entry 1 ∷ []) result.Done
  pub other_word : Never g initiate (Entry 1 ∷ Core (Seen (stored 9 0 166)) ∷ []) result.Done
  pub current_ring : Never g initiate (Entry 1 ∷ Core (Seen (record word_0 { ring = 4 })) ∷ []) result.Done
  pub twice : Never g initiate (Entry 1 ∷ Core (Seen word_0) ∷ Core (Seen word_0) ∷ []) result.Done
  -- its write is missed, or denied
  pub missed : Never g initiate (Entry 1 ∷ Core (Missing 9 1) ∷ []) result.Done
  pub denied : Never g initiate
      (Entry 6 ∷ Core (Seen denied_word) ∷ [])
      (result.Denied denial.NotWritable)
  -- the pointer is not stored; it is stored with ring 0, or with further indirection
  pub unsnapped : Never g (epp 2) (Core (Seen met) ∷ Entry 2 ∷ Core (Seen followed) ∷ []) (target 2)
  pub ring_0 : Never g (epp 2)
      (Core (Seen met) ∷ Entry 2 ∷ Core (Seen (stored 9 0 167773091)) ∷ Core (Seen followed) ∷ []) (target 2)
  pub further : Never g (epp 2)
      (Core (Seen met) ∷ Entry 2 ∷ Core (Seen (stored 9 0 176161763)) ∷ Core (Seen followed) ∷ []) (target 2)
  -- the line does not begin anew
  pub not_anew : Never g (epp 2) (Core (Seen met) ∷ Entry 2 ∷ Core (Seen snapped) ∷ []) (target 2)
  -- the link is called for in the current ring, and not in that in which its word was read
  pub called_inside : Never in_ring_1 epp_register
      (Core (Seen met) ∷ Entry 4 ∷ Core (Seen snapped) ∷ Core (Seen followed) ∷ []) (target 2)
  -- the pointer is stored before the link words
  pub pointer_first : Never g (epp 2)
      (Core (Seen met) ∷ Entry 5 ∷ Core (Seen snapped) ∷ Core (Seen (stored 11 0 38)) ∷ Core (Seen (stored 11 1 166))
      ∷ Core (Seen followed) ∷ []) (target 2)
