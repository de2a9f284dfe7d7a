-- What a reply asks for, write by write: each link word of the section that was made, in the word of its number; then the
-- pointer of a snapped link; then nothing more.
use Rattle.std.specs.Prelude.{◌≡◌, ℕ, ◌+◌, ◌<◌, ◌≤◌, Bool, false, List, length, Option, Some, None}
use Rattle.mx_ptr.specs.Pointers.{link_word, pointer_word}
use Rattle.mx_request.specs.Sections.{section_in}
use Rattle.mx_request.specs.declared.replies.Reply.{Reply}
use Rattle.mx_request.specs.declared.replies.Reply.TheVariants.{Done, Refused, Status, Names, Segno, Linked, Sent, Message, Nobody, Waiting}
use Rattle.mx_request.specs.declared.requests.Request.TheVariants.{Link}
use Rattle.mx_state.specs.declared.journal.Entry as journaled
use Rattle.mx_transcript.specs.Courses.{Judged}
use Rattle.mx_transcript.specs.Filling.{fill, links_of, due}

-- how many link words a reply asks for, where a section has so many links
abbrev pub words_in : Option ℕ → ℕ → ℕ
words_in None links = 0
words_in (Some section) links = links

abbrev pub SectionWordLaw : Type 0
SectionWordLaw = (entry : journaled.Entry) (filled : List Judged) (section : ℕ) → section_in entry.reply ≡ Some section
    → length filled < links_of filled
    → due entry filled ≡ Some (fill section (length filled) (link_word (length filled)))

-- the link at this place was snapped to this target: the pointer has the ring of the call
abbrev pub SnappedLaw : Type 0
SnappedLaw = (entry : journaled.Entry) (filled : List Judged) (segno word to at : ℕ) (fresh : Bool)
    (linkage : Option ℕ) → entry.request ≡ Link segno word → entry.reply ≡ Linked to at fresh linkage
    → length filled ≡ words_in linkage (links_of filled)
    → due entry filled
    ≡ Some (fill segno word (pointer_word (record { ring = entry.ring; segno = to; word = at; further = false })))

-- how many pointers: that of a snapped link
abbrev pub pointers_in : Reply → ℕ
pointers_in (Linked segno word fresh linkage) = 1
pointers_in Done = 0
pointers_in (Refused why) = 0
pointers_in (Status status) = 0
pointers_in (Names names) = 0
pointers_in (Segno known) = 0
pointers_in Sent = 0
pointers_in (Message sender word) = 0
pointers_in Nobody = 0
pointers_in Waiting = 0

-- after so many writes no more is asked for
abbrev pub NoMoreLaw : Type 0
NoMoreLaw = (entry : journaled.Entry) (filled : List Judged)
    → words_in (section_in entry.reply) (links_of filled) + pointers_in entry.reply ≤ length filled
    → due entry filled ≡ None
