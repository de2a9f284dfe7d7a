-- What a reply tells of linkage sections and links, and what is so in the state that it leaves.
use Rattle.std.specs.Prelude.{◌≡◌, ◌≢◌, ◌⊎◌, ℕ, ◌<◌, ◌≤◌, Bool, true, false, length, Option, Some, None}
use Rattle.mx_hier.specs.declared.refusals.Refusal.{Refusal}
use Rattle.mx_kst.specs.declared.lots.Lot.{Lot}
use Rattle.mx_kst.specs.declared.lots.Lot.TheVariants.{Free, Linkage}
use Rattle.mx_request.specs.Classes.{class_of}
use Rattle.mx_request.specs.Sections.{section_in}
use Rattle.mx_request.specs.declared.classes.RequestClass.TheVariants.{OfPath}
use Rattle.mx_request.specs.declared.replies.Reply.{Reply}
use Rattle.mx_request.specs.declared.replies.Reply.TheVariants as reply
use Rattle.mx_request.specs.declared.requests.Request.{Request}
use Rattle.mx_request.specs.declared.requests.Request.TheVariants as ask
use Rattle.mx_sdw.specs.Descriptors.{segment_desc}
use Rattle.mx_sdw.specs.Rings.{Bracketing}
use Rattle.mx_state.specs.Numbers.{stands_for}
use Rattle.mx_state.specs.Plain.{Plain, process_at}
use Rattle.mx_state.specs.Requests.{plain}
use Rattle.mx_state.specs.Table.{descriptor}
use Rattle.mx_state.specs.declared.states.ProcessState.{ProcessState}

-- what a number of a process stands for
abbrev pub lot_by : Option ProcessState → ℕ → Lot
lot_by None segno = Free
lot_by (Some process) segno = stands_for process.known segno

abbrev pub lot_in : Plain → ℕ → ℕ → Lot
lot_in s p segno = lot_by (process_at s.processes p) segno

-- a linkage section of so many words
pub record IsSection (lot : Lot) (words : ℕ) : Type 0 where
  pub of : ℕ
  pub page : ℕ
  pub brackets : Bracketing
  pub is : lot ≡ Linkage of page brackets words

pub record HasSection (s : Plain) (p segno : ℕ) : Type 0 where
  pub words : ℕ
  pub section : IsSection (lot_in s p segno) words

-- and the word lies in it
pub record HasLinkWord (s : Plain) (p segno word : ℕ) : Type 0 where
  pub words : ℕ
  pub section : IsSection (lot_in s p segno) words
  pub within : word < words

-- a section of which a reply tells is there
abbrev pub NewSectionLaw : Type 0
NewSectionLaw = (s : Plain) (p ring n : ℕ) (request : Request) → section_in (plain s p ring request).reply ≡ Some n
    → HasSection (plain s p ring request).state p n

-- and a reply to a request on a path tells of none
abbrev pub PathTellsLaw : Type 0
PathTellsLaw = (s : Plain) (p ring : ℕ) (request : Request) → class_of request ≡ OfPath
    → section_in (plain s p ring request).reply ≡ None

-- a section is to read and write within its brackets, and no word of it is a gate
abbrev pub SectionDescLaw : Type 0
SectionDescLaw = (s : Plain) (p segno words : ℕ) → IsSection (lot_in s p segno) words
    → (brackets : Bracketing) × (page : ℕ)
    × (descriptor s p segno ≡ segment_desc brackets true false true 0 page words)

-- a link that was resolved is a word of a linkage section, and still is
abbrev pub ResolvedLaw : Type 0
ResolvedLaw = (s : Plain) (p ring segno word to at : ℕ) (fresh : Bool) (linkage : Option ℕ)
    → (plain s p ring (ask.Link segno word)).reply ≡ reply.Linked to at fresh linkage
    → HasLinkWord (plain s p ring (ask.Link segno word)).state p segno word

-- only `link` is answered that a link leads to a word
abbrev pub OnlyLinkLaw : Type 0
OnlyLinkLaw = (s : Plain) (p ring : ℕ) (request : Request) (to at : ℕ) (fresh : Bool) (linkage : Option ℕ)
    → (plain s p ring request).reply ≡ reply.Linked to at fresh linkage
    → (segno : ℕ) × (word : ℕ) × (request ≡ ask.Link segno word)

-- and `link` of a process is answered so, or refused
abbrev pub IsRefused : Reply → Type 0
IsRefused given = (why : Refusal) × (given ≡ reply.Refused why)

abbrev pub IsLinked : Reply → Type 0
IsLinked given =
    (to : ℕ) × (at : ℕ) × (fresh : Bool) × (linkage : Option ℕ) × (given ≡ reply.Linked to at fresh linkage)

abbrev pub LinkRepliesLaw : Type 0
LinkRepliesLaw = (s : Plain) (p ring segno word : ℕ) → 1 ≤ p → p ≤ length s.processes
    → IsRefused (plain s p ring (ask.Link segno word)).reply ⊎ IsLinked (plain s p ring (ask.Link segno word)).reply

-- where a link leads, if that is what is told, is a place that a pointer can name
abbrev pub IsLinkedWithin : Reply → Type 0
IsLinkedWithin (reply.Linked segno word fresh linkage) = (segno ≤ 4095) × (word ≤ 16383)
IsLinkedWithin reply.Done = Unit {0}
IsLinkedWithin (reply.Refused why) = Unit {0}
IsLinkedWithin (reply.Status status) = Unit {0}
IsLinkedWithin (reply.Names names) = Unit {0}
IsLinkedWithin (reply.Segno known) = Unit {0}
IsLinkedWithin reply.Sent = Unit {0}
IsLinkedWithin (reply.Message sender word) = Unit {0}
IsLinkedWithin reply.Nobody = Unit {0}
IsLinkedWithin reply.Waiting = Unit {0}

-- an entry of another process leaves what a process has of its own
abbrev pub OthersLaw : Type 0
OthersLaw = (s : Plain) (p q ring : ℕ) (request : Request) → q ≢ p
    → process_at (plain s q ring request).state.processes p ≡ process_at s.processes p

-- and the descriptors of its linkage sections
abbrev pub SectionsStayLaw : Type 0
SectionsStayLaw = (s : Plain) (p q ring segno : ℕ) (request : Request) → q ≢ p → HasSection s p segno
    → descriptor (plain s q ring request).state p segno ≡ descriptor s p segno
