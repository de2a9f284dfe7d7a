-- Helpers: the writes in ring 0 that a reply asks for, as a process at work keeps them: what is stored next, what
-- follows it, and what of the line's rule this stands for.
use Rattle.std.specs.Prelude.{◌≡◌, ℕ, ◌+◌, ◌-◌, ◌<◌, ◌≤◌, ◌==◌, nat_lt, List, [], ◌∷◌, ◌++◌, length, Option, Some, None, if◌then◌else◌}
use Rattle.mx_upcall.specs.Control.{Control}
use Rattle.mx_transcript.specs.Asking.{answered, attempts, result_of}
use Rattle.mx_transcript.specs.Courses.{Judged}
use Rattle.mx_transcript.specs.Filling.{fill, section_words, snapped, links_of, due}
use Rattle.mx_transcript.specs.Next.{Reference, Ends, Nowhere}
use Rattle.mx_transcript.specs.declared.transcripts.Result2.TheVariants as result
use Rattle.mx_ptr.specs.Pointers.{link_word}
use Rattle.mx_request.specs.Sections.{section_in}
use Rattle.mx_request.specs.declared.replies.Reply.{Reply}
use Rattle.mx_request.specs.declared.requests.Request.{Request}
use Rattle.mx_script.specs.declared.lines.Line.{Line}
use Rattle.mx_script.specs.declared.lines.Line.TheVariants as line
use Rattle.mx_sdw.specs.Admissible.{IsAdmissible}
use Rattle.mx_state.specs.Plain.{Plain}
use Rattle.mx_state.specs.Table.{descriptor}
use Rattle.mx_state.specs.Told.{IsSection, HasLinkWord, lot_in}
use Rattle.mx_state.specs.declared.journal.Entry as journaled
use Rattle.mx_line.specs.declared.fills.Behind.{Behind}
use Rattle.mx_line.specs.declared.fills.Behind.TheVariants as behinds
use Rattle.mx_line.specs.declared.fills.Fill.{Fill}
use Rattle.mx_line.specs.declared.fills.Fill.TheVariants.{Words, Pointer}
use Rattle.mx_line.specs.declared.fills.Filled.{Filled}
use Rattle.mx_line.specs.declared.fills.Filled.TheVariants as filled
use Rattle.mx_line.specs.declared.fills.LinkWords.{LinkWords}
use Rattle.mx_line.specs.declared.fills.Snap.{Snap}

-- a line that is no request
abbrev pub IsNoRequest : Line → Type 0
IsNoRequest l = (request : Request) → l ≡ line.Ask request → ⊥

-- the write of a pointer in the word of a link, where one is asked for
abbrev pub snap_writes : Option Snap → List Reference
snap_writes None = []
snap_writes (Some snap) = fill snap.segno snap.word snap.value ∷ []

-- the next write
abbrev pub write_of : Fill → Reference
write_of (Words words) = fill words.section words.next (link_word words.next)
write_of (Pointer snap) = fill snap.segno snap.word snap.value

-- what follows the link words of a section
abbrev pub after_words : Behind → Filled
after_words (behinds.Pointer snap) = filled.More (Pointer snap)
after_words behinds.Done = filled.Done
after_words behinds.Nowhere = filled.Nowhere

-- what follows a write
abbrev pub after_fill : Fill → Filled
after_fill (Words words) =
    if nat_lt (words.next + 1) words.words then filled.More (Words (record words { next = words.next + 1 }))
    else after_words words.behind
after_fill (Pointer snap) = filled.Anew

-- where nothing is stored behind them the line ends
abbrev pub behind_of : Option Snap → Behind
behind_of None = behinds.Done
behind_of (Some snap) = behinds.Pointer snap

-- a section has as many words as the bound of the descriptor on which its first was stored
abbrev pub counted : Fill → ℕ → Fill
counted (Words words) bound =
    if words.next == 0 then Words (record words { words = bound }) else Words words
counted (Pointer snap) bound = Pointer snap

-- the first write that a reply asks for, by the section that it tells of, with the number of its words, and by what follows
abbrev pub first_fill : Option (ℕ × ℕ) → Behind → Option Fill
first_fill (Some section) after =
    Some (Words (record { section = section.0; words = section.1; next = 0; behind = after }))
first_fill None (behinds.Pointer snap) = Some (Pointer snap)
first_fill None behinds.Done = None
first_fill None behinds.Nowhere = None

-- a section with the bound of its descriptor
abbrev pub sized : Plain → ℕ → Option ℕ → Option (ℕ × ℕ)
sized s p None = None
sized s p (Some section) = Some (section, (descriptor s p section).bound)

-- what the reply to a request of process p in this ring asks for first, in the state after it
pub record AsksToFill (s : Plain) (p ring : ℕ) (request : Request) (given : Reply) (first : Option Fill) : Type 0 where
  pub snap : Option Snap
  pub writes : snap_writes snap ≡ snapped request ring given
  pub is : first ≡ first_fill (sized s p (section_in given)) (behind_of snap)
  pub admissible : (section : ℕ) → section_in given ≡ Some section → IsAdmissible (descriptor s p section)

-- After the reply to a call a line ends, but begins anew where its link was snapped.
pub record IsAnsweredBy (g : Control) (l : Line) (ring : ℕ) (request : Request) (reply : Reply) : Type 0 where
  pub ends : snapped request ring reply ≡ [] → answered g l request reply ≡ Ends (result_of reply) g
  pub anew : (write : Reference) → snapped request ring reply ≡ write ∷ []
      → IsNoRequest l × (answered g l request reply ≡ attempts g l [])

-- once all is stored a line whose link was snapped begins anew, and another ends, or goes nowhere
abbrev pub Follows : Control → Line → journaled.Entry → Behind → Type 0
Follows g l entry (behinds.Pointer snap) =
    (snapped entry.request entry.ring entry.reply ≡ fill snap.segno snap.word snap.value ∷ [])
    × IsNoRequest l × (answered g l entry.request entry.reply ≡ attempts g l [])
Follows g l entry behinds.Done =
    (snapped entry.request entry.ring entry.reply ≡ []) × (answered g l entry.request entry.reply ≡ Ends result.Done g)
Follows g l entry behinds.Nowhere =
    (snapped entry.request entry.ring entry.reply ≡ []) × (answered g l entry.request entry.reply ≡ Nowhere)

-- so many link words of a section were stored, in order
pub record AreStored (entry : journaled.Entry) (filled : List Judged) (words : LinkWords) : Type 0 where
  pub section : section_in entry.reply ≡ Some words.section
  pub count : length filled ≡ words.next
  pub below : words.next < words.words
  pub links : (j : Judged) (later : List Judged) → filled ≡ j ∷ later → j.desc.bound ≡ words.words

-- all link words were stored, whatever else is
abbrev pub AreAll : journaled.Entry → List Judged → Type 0
AreAll entry filled = (later : List Judged)
    → length (section_words (section_in entry.reply) (links_of (filled ++ later))) ≡ length filled

-- after these writes since the entry this is the next
abbrev pub IsFilling : Control → Line → journaled.Entry → List Judged → Fill → Type 0
IsFilling g l entry filled (Words words) = AreStored entry filled words × Follows g l entry words.behind
IsFilling g l entry filled (Pointer snap) = AreAll entry filled × Follows g l entry (behinds.Pointer snap)

-- after all of them the line begins anew
pub record IsAnew (g : Control) (l : Line) (entry : journaled.Entry) (filled : List Judged) : Type 0 where
  pub none : due entry filled ≡ None
  pub other : IsNoRequest l
  pub anew : answered g l entry.request entry.reply ≡ attempts g l []

-- the words that are to be written are those of linkage sections
abbrev pub HasSnapWord : Plain → ℕ → Behind → Type 0
HasSnapWord s p (behinds.Pointer snap) = HasLinkWord s p snap.segno snap.word
HasSnapWord s p behinds.Done = Unit {0}
HasSnapWord s p behinds.Nowhere = ⊥

abbrev pub HasPlace : Plain → ℕ → Fill → Type 0
HasPlace s p (Words words) = IsSection (lot_in s p words.section) words.words × HasSnapWord s p words.behind
HasPlace s p (Pointer snap) = HasLinkWord s p snap.segno snap.word

-- a section has at most 1,024 words
abbrev pub IsShort : Fill → Type 0
IsShort (Words words) = (words.next < words.words) × (words.words ≤ 1024)
IsShort (Pointer snap) = Unit {0}

-- how many events a line can still have that stores this next, before its last step: link words, the pointer, and an
-- attempt's
abbrev pub steps_to_fill : Fill → ℕ
steps_to_fill (Words words) = if words.next == 0 then 1036 else words.words - words.next + 12
steps_to_fill (Pointer snap) = 11
