-- The writes in ring 0 that the supervisor's reply asks the process to make: the link words of a new linkage section, in
-- order, and the pointer into the word of a snapped link.
use Rattle.std.specs.Prelude.{ℕ, zero, suc, false, List, [], ◌∷◌, ◌++◌, length, Option, Some, None, slice_get}
use Rattle.mx_ptr.specs.Pointers.{PointerParts, link_word, pointer_word}
use Rattle.mx_request.specs.Sections.{section_in}
use Rattle.mx_request.specs.declared.replies.Reply.{Reply}
use Rattle.mx_request.specs.declared.replies.Reply.TheVariants as reply
use Rattle.mx_request.specs.declared.requests.Request.{Request}
use Rattle.mx_request.specs.declared.requests.Request.TheVariants.{Link}
use Rattle.mx_state.specs.declared.journal.Entry as journaled
use Rattle.mx_transcript.specs.Courses.{Judged}
use Rattle.mx_transcript.specs.Next.{Reference, storing}

-- a write in ring 0
abbrev pub fill : ℕ → ℕ → ℕ → Reference
fill segno word value = storing value (record { ring = 0; segno = segno; word = word; further = false })

-- the link words of so many links, the first of this number, each in the word of its number
abbrev pub link_words : ℕ → ℕ → ℕ → List Reference
link_words section first zero = []
link_words section first (suc links) = fill section first (link_word first) ∷ link_words section (suc first) links

abbrev pub section_words : Option ℕ → ℕ → List Reference
section_words None links = []
section_words (Some section) links = link_words section 0 links

-- a pointer stored where the link is that a request asks to snap; no other request is answered so
abbrev pub stored_into : Request → PointerParts → List Reference
stored_into (Link segno word) target = fill segno word (pointer_word target) ∷ []
stored_into _ target = []

-- the pointer to the target of a snapped link, in the ring of the call, without further indirection
abbrev pub snapped : Request → ℕ → Reply → List Reference
snapped request ring (reply.Linked segno word fresh linkage) =
    stored_into request (record { ring = ring; segno = segno; word = word; further = false })
snapped request ring (reply.Segno known) = []
snapped request ring reply.Done = []
snapped request ring (reply.Refused why) = []
snapped request ring (reply.Status status) = []
snapped request ring (reply.Names names) = []
snapped request ring reply.Sent = []
snapped request ring (reply.Message sender word) = []
snapped request ring reply.Nobody = []
snapped request ring reply.Waiting = []

-- all writes that a reply asks for, where the section that it made has so many links
abbrev pub writes_for : journaled.Entry → ℕ → List Reference
writes_for entry links = section_words (section_in entry.reply) links ++ snapped entry.request entry.ring entry.reply

-- A section has as many words as there are links: the bound of the descriptor on which its first write was judged. It
-- has one at least.
abbrev pub links_of : List Judged → ℕ
links_of [] = 1
links_of (judged ∷ filled) = judged.desc.bound

-- the next write, after these
abbrev pub due : journaled.Entry → List Judged → Option Reference
due entry filled = slice_get (writes_for entry (links_of filled)) (length filled)
