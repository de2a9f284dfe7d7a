-- What a run text can say, with exact bounds. Within them a text is of one run. Each bound is said once, by a named test;
-- those of names, rings, classes, segment numbers, addresses, words and registers are the tests of requests and scripts.
use Rattle.std.specs.Prelude.{◌≡◌, ℕ, ◌^◌, ◌==◌, nat_le, nat_lt, Bool, true, not, ◌&&◌, List, length, Option, None, Some}
use Rattle.std.specs.List.{list_all}
use Rattle.mx_sdw.specs.Rings.{Bracketing}
use Rattle.mx_ptr.specs.Pointers.{PointerParts}
use Rattle.mx_core.specs.declared.elements.Element.{Element}
use Rattle.mx_core.specs.declared.elements.Event.TheVariants.{Seen, Missing}
use Rattle.mx_core.specs.declared.elements.Outcome.{Outcome}
use Rattle.mx_core.specs.declared.elements.Outcome.TheVariants as outcome
use Rattle.mx_hier.specs.declared.asking.Status as said
use Rattle.mx_hier.specs.declared.asking.Status.TheVariants as status
use Rattle.mx_request.specs.declared.replies.Reply.{Reply}
use Rattle.mx_request.specs.declared.replies.Reply.TheVariants as reply
use Rattle.mx_request.specs.Fields.{is_name}
use Rattle.mx_request.specs.RequestTexts.{fits_request, is_class, is_ring, is_segno, is_word_address, is_word}
use Rattle.mx_script.specs.Sessions.{is_register}
use Rattle.mx_state.specs.declared.journal.Entry as journaled
use Rattle.mx_transcript.specs.declared.transcripts.Event2.{Event2}
use Rattle.mx_transcript.specs.declared.transcripts.Event2.TheVariants.{Core, Entry}
use Rattle.mx_transcript.specs.declared.transcripts.Result2.{Result2}
use Rattle.mx_transcript.specs.declared.transcripts.Result2.TheVariants as result
use Rattle.mx_transcript.specs.Transcripts.{Step}

-- how many entries a journal has, the number of one, and the point of a reference or of a store
abbrev pub is_entry_number : ℕ → Bool
is_entry_number n = nat_le n 262143

-- the initializer is process 0, and there are at most 15 more
abbrev pub is_process : ℕ → Bool
is_process p = nat_le p 15

-- a line of a session's text has a number of 32 bits
abbrev pub is_line_number : ℕ → Bool
is_line_number n = nat_lt n (2 ^ 32)

-- how many words, gates, definitions or links there are
abbrev pub is_amount : ℕ → Bool
is_amount n = nat_le n 65535

-- brackets are rings in order
abbrev pub are_ordered : Bracketing → Bool
are_ordered b = nat_le b.r1 b.r2 && (nat_le b.r2 b.r3 && is_ring b.r3)

-- what is there passes a test
abbrev pub is_none_or : {A : Type 0} → Option A → (A → Bool) → Bool
is_none_or None test = true
is_none_or (Some a) test = test a

-- the replies: names of their grammar, and numbers that there are
abbrev pub bounds_status : said.Status → Bool
bounds_status (status.Segment words brackets modes class) = is_amount words && (are_ordered brackets && is_none_or class is_class)
bounds_status (status.Object words brackets gate definitions links modes class) =
    is_amount words && (is_amount gate && (is_amount definitions && (is_amount links && (are_ordered brackets && is_none_or class is_class))))
bounds_status (status.Directory d1 d2 modes) = is_ring d1 && is_ring d2
bounds_status (status.Link target) = list_all is_name target

abbrev pub bounds_reply : Reply → Bool
bounds_reply (reply.Status status) = bounds_status status
bounds_reply (reply.Names names) = list_all is_name names
bounds_reply (reply.Segno known) = is_segno known.segno && is_none_or known.linkage is_segno
bounds_reply (reply.Linked segno word fresh linkage) = is_word_address segno word && is_none_or linkage is_segno
bounds_reply (reply.Message sender word) = is_process sender && is_word word
bounds_reply _ = true

-- an entry: its process, its ring, a request of its grammar, and its reply
abbrev pub fits_entry : journaled.Entry → Bool
fits_entry entry = is_process entry.process && (is_ring entry.ring && (fits_request entry.request && bounds_reply entry.reply))

abbrev pub fits_outcome : Outcome → Bool
fits_outcome (outcome.Read value writer stamp) = is_word value && (is_process writer && is_entry_number stamp)
fits_outcome (outcome.Written value) = is_word value
fits_outcome (outcome.Entered ring) = is_ring ring
fits_outcome (outcome.Denied denial) = true

abbrev pub fits_element : Element → Bool
fits_element e = is_word_address e.segno e.word && (is_ring e.ring && (is_entry_number e.point && fits_outcome e.outcome))

abbrev pub fits_event : Event2 → Bool
fits_event (Core (Seen e)) = fits_element e
fits_event (Core (Missing segno by)) = is_segno segno && is_entry_number by
fits_event (Entry number) = is_entry_number number

-- a pointer is spelled without further indirection
abbrev pub fits_pointer : PointerParts → Bool
fits_pointer p = is_ring p.ring && (is_word_address p.segno p.word && not p.further)

-- and one that a process moves to with its ring alone
abbrev pub fits_result : Result2 → Bool
fits_result (result.A word) = is_word word
fits_result (result.Pr n pointer) = is_register n && fits_pointer pointer
fits_result (result.Moved ring procedure) = (procedure.ring == ring) && fits_pointer procedure
fits_result _ = true

abbrev pub fits_step : Step → Bool
fits_step step = is_line_number step.0 && (list_all fits_event step.1 && fits_result step.2)

-- a journal and transcripts that a run text can say
pub record IsSpellable (journal : List journaled.Entry) (transcripts : List (List Step)) : Type 0 where
  pub count : is_entry_number (length journal) ≡ true
  pub entries : list_all fits_entry journal ≡ true
  pub parts : nat_le (length transcripts) 16 ≡ true
  pub steps : list_all (list_all fits_step) transcripts ≡ true
