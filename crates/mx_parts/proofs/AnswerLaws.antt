-- An event answers exactly where it is what the line asks for.
use Rattle.std.proofs.Common.{◌≡◌, ◌⊎◌, inl, inr, ℕ, zero, suc, Bool, true, ◌&&◌, List, [], ◌∷◌, ◌++◌, Option, Some, None, refl, sym, ◌∙◌, subst}
use Rattle.std.proofs.lemmas.Bool.{leb-true}
use Rattle.std.specs.List.{list_all, slice_get}
use Rattle.mx_core.specs.declared.elements.Element.{Element}
use Rattle.mx_core.specs.declared.elements.Event.TheVariants.{Missing, Seen}
use Rattle.mx_core.specs.declared.elements.Outcome.{Outcome}
use Rattle.mx_core.specs.declared.elements.Outcome.TheVariants as outcome
use Rattle.mx_effring.specs.declared.walks.Want.{Want}
use Rattle.mx_effring.specs.declared.walks.Want.TheVariants as want
use Rattle.mx_effring.specs.Walks.{wanted_at}
use Rattle.mx_line.proofs.StandingLaws.{before_asks, begun_fills, link_calls, walking_asks}
use Rattle.mx_line.specs.AtWork.{IsGoodWork, IsTaken, StandsAt, call_in, meant, own_call, reference_in}
use Rattle.mx_line.specs.declared.asking.Called.{Called}
use Rattle.mx_line.specs.declared.asking.Called.TheVariants as called
use Rattle.mx_line.specs.declared.asking.Next as asking
use Rattle.mx_line.specs.declared.asking.Next.TheVariants as asks
use Rattle.mx_line.specs.declared.at_work.LineAtWork.{LineAtWork}
use Rattle.mx_line.specs.declared.at_work.LineAtWork.TheVariants as at
use Rattle.mx_line.specs.declared.operands.Progress.TheVariants.{Before, Walking, AtLink, Waiting, Filling}
use Rattle.mx_parts.specs.Answers.{IsAnswer, IsAskedCall, IsAskedElement, IsLed, IsNoAnswer, IsReference as IsReferenceAsked, IsStore}
use Rattle.mx_ptr.specs.Pointers.{PointerParts}
use Rattle.mx_request.proofs.StepLaws.{both}
use Rattle.mx_request.specs.RequestTexts.{fits_request, is_ring, is_segno, is_word_address}
use Rattle.mx_request.specs.declared.replies.Reply.{Reply}
use Rattle.mx_request.specs.declared.replies.Reply.TheVariants as reply
use Rattle.mx_request.specs.declared.requests.Request.{Request}
use Rattle.mx_request.specs.declared.requests.Request.TheVariants.{Link, Resume}
use Rattle.mx_script.specs.declared.lines.Line.{Line}
use Rattle.mx_script.specs.declared.lines.Line.TheVariants as line
use Rattle.mx_sdw.specs.Descriptors.{Descriptor}
use Rattle.mx_spelling.specs.Spelling.{bounds_reply, fits_entry, is_none_or, is_process}
use Rattle.mx_state.specs.Told.{IsLinkedWithin}
use Rattle.mx_state.specs.declared.journal.Entry as journaled
use Rattle.mx_transcript.specs.Asking.{next}
use Rattle.mx_transcript.specs.Attempts.{wants}
use Rattle.mx_transcript.specs.Courses.{Answer, Attempt, Course, Judged, seen_in}
use Rattle.mx_transcript.specs.Elements.{IsJudged}
use Rattle.mx_transcript.specs.Events.{IsCall, IsEvent, IsFill, IsMiss, IsReference}
use Rattle.mx_transcript.specs.Next.{Asks, Calls, Fills, Next, Nowhere, Reference}
use Rattle.mx_transcript.specs.Settings.{Setting, entry_at, judged}
use Rattle.mx_transcript.specs.Targets.{at_target, spri_at}
use Rattle.mx_transcript.specs.declared.transcripts.Event2.TheVariants.{Core, Entry}
use Rattle.mx_upcall.specs.Control.{Control}

-- no attempt asks for a write that a reply asks for
spri_fills : (target : PointerParts) (p : Option PointerParts) (r : Reference) → spri_at target p ≡ Fills r → ⊥
spri_fills target None r e = cc
spri_fills target (Some p) r e = cc

target_fills : (g : Control) (l : Line) (target : PointerParts) (r : Reference) → at_target g l target ≡ Fills r → ⊥
target_fills g (line.Ask own) target r e = cc
target_fills g (line.Set word) target r e = cc
target_fills g (line.Epp n o) target r e = cc
target_fills g (line.Lda o) target r e = cc
target_fills g (line.Sta o) target r e = cc
target_fills g (line.Spri n o) target r e = spri_fills target (slice_get g.registers.pr n) r e
target_fills g line.Fetch target r e = cc
target_fills g (line.Call o) target r e = cc
target_fills g (line.Return o) target r e = cc

wants_fills : (g : Control) (l : Line) (w : Want) (r : Reference) → wants g l w ≡ Fills r → ⊥
wants_fills g l (want.Word segno word at) r e = cc
wants_fills g l (want.Done target) r e = target_fills g l target r e

calls_fills : (asks : Next) (ring : ℕ) (request : Request) (r : Reference) → asks ≡ Calls ring request → asks ≡ Fills r → ⊥
calls_fills asks ring request r e f = cc

attempt_fills : (g : Control) (l : Line) (seen : List Judged) (work : LineAtWork) (r : Reference)
    → StandsAt g l (Attempt seen) work → next g l (Attempt seen) ≡ Fills r → ⊥
attempt_fills g l seen (at.At Before) r stands e = begun_fills g l r (sym (before_asks g l (Attempt seen) stands) ∙ e)
attempt_fills g l seen (at.At (Walking walk)) r stands e =
    wants_fills g l (wanted_at walk) r (sym (walking_asks g l (Attempt seen) walk stands) ∙ e)
attempt_fills g l seen (at.At (AtLink place)) r stands e =
    calls_fills (next g l (Attempt seen)) place.ring (Link place.segno place.word) r (link_calls g l (Attempt seen) place stands) e
attempt_fills g l seen (at.At Waiting) r stands e = absurd stands.0
attempt_fills g l seen (at.At (Filling fill)) r stands e = absurd stands.0
attempt_fills g l seen (at.Ended end) r stands e = cc
attempt_fills g l seen at.Nowhere r stands e = cc

-- so it is asked for after an answer
record IsSince (course : Course) : Type 0 where
  pub entry : journaled.Entry
  pub filled : List Judged
  pub is : course ≡ Answer entry filled

since : (g : Control) (l : Line) (course : Course) (work : LineAtWork) (r : Reference) → StandsAt g l course work
    → next g l course ≡ Fills r → IsSince course
since g l (Attempt seen) work r stands e = absurd (attempt_fills g l seen work r stands e)
since g l (Answer entry filled) work r stands e = record { entry = entry; filled = filled; is = refl }

-- what was stored
record HasStored (came : Outcome) : Type 0 where
  pub value : ℕ
  pub is : came ≡ outcome.Written value

stored : (came : Outcome) → IsStore came → HasStored came
stored (outcome.Read value writer stamp) is = absurd is
stored (outcome.Written value) is = record { value = value; is = refl }
stored (outcome.Entered ring) is = absurd is
stored (outcome.Denied denial) is = absurd is

is_store : (came : Outcome) (value : ℕ) → came ≡ outcome.Written value → IsStore came
is_store came value e = subst IsStore (sym e) tt

-- a call that is asked for is a call, or nothing
record IsCalling (asks : Next) : Type 0 where
  pub ring : ℕ
  pub request : Request
  pub is : asks ≡ Calls ring request

own_calls : (l : Line) (ring : ℕ) → (own_call l ring ≡ Nowhere) ⊎ IsCalling (own_call l ring)
own_calls (line.Ask request) ring = inr (record { ring = ring; request = request; is = refl })
own_calls (line.Set word) ring = inl refl
own_calls (line.Epp n o) ring = inl refl
own_calls (line.Lda o) ring = inl refl
own_calls (line.Sta o) ring = inl refl
own_calls (line.Spri n o) ring = inl refl
own_calls line.Fetch ring = inl refl
own_calls (line.Call o) ring = inl refl
own_calls (line.Return o) ring = inl refl

calls : (l : Line) (ring : ℕ) (c : Called) → (call_in l ring c ≡ Nowhere) ⊎ IsCalling (call_in l ring c)
calls l ring called.Own = own_calls l ring
calls l ring called.Resume = inr (record { ring = ring; request = Resume; is = refl })
calls l ring (called.Link segno word) = inr (record { ring = ring; request = Link segno word; is = refl })

no_reference : (l : Line) (ring : ℕ) (c : Called) (r : Reference) → call_in l ring c ≡ Asks r → ⊥
no_reference l ring c r e = elim (calls l ring c) [
  | inl none ↦ apart (call_in l ring c) none e
  | inr some ↦ other (call_in l ring c) some.ring some.request some.is e
]
  where
    apart : (asks : Next) → asks ≡ Nowhere → asks ≡ Asks r → ⊥
    apart asks n e = cc

    other : (asks : Next) (at : ℕ) (request : Request) → asks ≡ Calls at request → asks ≡ Asks r → ⊥
    other asks at request n e = cc

no_write : (l : Line) (ring : ℕ) (c : Called) (r : Reference) → call_in l ring c ≡ Fills r → ⊥
no_write l ring c r e = elim (calls l ring c) [
  | inl none ↦ apart (call_in l ring c) none e
  | inr some ↦ calls_fills (call_in l ring c) some.ring some.request r some.is e
]
  where
    apart : (asks : Next) → asks ≡ Nowhere → asks ≡ Fills r → ⊥
    apart asks n e = cc

-- an element that is asked for leads on
element_led : (setting : Setting) (g : Control) (l : Line) (work after : LineAtWork) (asked : asking.Next) (e : Element)
    (d : Descriptor) (course : Course) → setting.descriptor e ≡ d → StandsAt g l course work → next g l course ≡ meant g l asked
    → IsAskedElement asked e d → IsTaken g l setting (Core (Seen e)) work after → IsLed setting g l (Core (Seen e)) course after
element_led setting g l work after (asks.Asks r) e d course on stands is right taken =
    let later : Course = Attempt (seen_in course ++ judged setting e ∷ []) in
    let answers : IsReference setting (next g l course) course e later = record {
      asked = reference_in r;
      next = is;
      right = subst (λ (d : Descriptor). IsJudged (reference_in r) d e) (sym on) right;
      leads = refl;
    } in
    record { later = later; is = inl answers; stands = taken course later stands (inl answers) }
element_led setting g l work after (asks.Fills r) e d course on stands is right taken =
    let has = since g l course work (reference_in r) stands is in
    let was = stored e.outcome right.1 in
    let later : Course = Answer has.entry (has.filled ++ judged setting e ∷ []) in
    let answers : IsFill setting (next g l course) course e later = record {
      asked = reference_in r;
      next = is;
      right = subst (λ (d : Descriptor). IsJudged (reference_in r) d e) (sym on) right.0;
      value = was.value;
      granted = was.is;
      entry = has.entry;
      filled = has.filled;
      since = has.is;
      leads = refl;
    } in
    record { later = later; is = inr answers; stands = taken course later stands (inr answers) }
element_led setting g l work after (asks.Calls ring c) e d course on stands is right taken = absurd right
element_led setting g l work after (asks.Ends end) e d course on stands is right taken = absurd right
element_led setting g l work after asks.Nowhere e d course on stands is right taken = absurd right

pub element_answers : (setting : Setting) (g : Control) (l : Line) (work after : LineAtWork) (asked : asking.Next) (e : Element)
    (d : Descriptor) → setting.descriptor e ≡ d → ((course : Course) → StandsAt g l course work → next g l course ≡ meant g l asked)
    → IsAskedElement asked e d → IsTaken g l setting (Core (Seen e)) work after → IsGoodWork g after
    → IsAnswer setting g l (Core (Seen e)) work after
element_answers setting g l work after asked e d on is right taken good = record {
  leads = λ course stands. element_led setting g l work after asked e d course on stands (is course stands) right taken;
  good = good;
}

-- and one that answers was asked for
by_reference : (g : Control) (l : Line) (asked : asking.Next) (r : Reference) (e : Element) (d : Descriptor)
    → meant g l asked ≡ Asks r → IsJudged r d e → IsAskedElement asked e d
by_reference g l (asks.Asks q) r e d is right =
    let same : r ≡ reference_in q = cc in
    subst (λ (r : Reference). IsJudged r d e) same right
by_reference g l (asks.Fills q) r e d is right = absurd cc
by_reference g l (asks.Calls ring c) r e d is right = absurd (no_reference l ring c r is)
by_reference g l (asks.Ends end) r e d is right = absurd cc
by_reference g l asks.Nowhere r e d is right = absurd cc

by_fill : (g : Control) (l : Line) (asked : asking.Next) (r : Reference) (e : Element) (d : Descriptor)
    → meant g l asked ≡ Fills r → IsJudged r d e → IsStore e.outcome → IsAskedElement asked e d
by_fill g l (asks.Asks q) r e d is right store = absurd cc
by_fill g l (asks.Fills q) r e d is right store =
    let same : r ≡ reference_in q = cc in
    (subst (λ (r : Reference). IsJudged r d e) same right, store)
by_fill g l (asks.Calls ring c) r e d is right store = absurd (no_write l ring c r is)
by_fill g l (asks.Ends end) r e d is right store = absurd cc
by_fill g l asks.Nowhere r e d is right store = absurd cc

element_asked : (setting : Setting) (g : Control) (l : Line) (asked : asking.Next) (e : Element) (d : Descriptor)
    (course later : Course) → setting.descriptor e ≡ d → next g l course ≡ meant g l asked
    → IsEvent setting (next g l course) course (Core (Seen e)) later → IsAskedElement asked e d
element_asked setting g l asked e d course later on is answers = elim answers [
  | inl r ↦ by_reference g l asked r.asked e d (sym is ∙ r.next) (subst (λ (d : Descriptor). IsJudged r.asked d e) on r.right)
  | inr f ↦
      by_fill g l asked f.asked e d (sym is ∙ f.next) (subst (λ (d : Descriptor). IsJudged f.asked d e) on f.right)
      (is_store e.outcome f.value f.granted)
]

pub element_never : (setting : Setting) (g : Control) (l : Line) (work : LineAtWork) (asked : asking.Next) (e : Element) (d : Descriptor)
    → setting.descriptor e ≡ d → ((course : Course) → StandsAt g l course work → next g l course ≡ meant g l asked)
    → (IsAskedElement asked e d → ⊥) → IsNoAnswer setting g l (Core (Seen e)) work
element_never setting g l work asked e d on is wrong = record {
  never = λ course later stands answers. wrong (element_asked setting g l asked e d course later on (is course stands) answers);
}

-- a miss
miss_led : (setting : Setting) (g : Control) (l : Line) (work after : LineAtWork) (asked : asking.Next) (segno by : ℕ)
    (course : Course) → StandsAt g l course work → next g l course ≡ meant g l asked → IsReferenceAsked asked
    → IsTaken g l setting (Core (Missing segno by)) work after → IsLed setting g l (Core (Missing segno by)) course after
miss_led setting g l work after (asks.Asks r) segno by course stands is right taken =
    let answers : IsMiss (next g l course) (Attempt []) = record { asked = reference_in r; next = is; leads = refl } in
    record { later = Attempt []; is = answers; stands = taken course (Attempt []) stands answers }
miss_led setting g l work after (asks.Fills r) segno by course stands is right taken = absurd right
miss_led setting g l work after (asks.Calls ring c) segno by course stands is right taken = absurd right
miss_led setting g l work after (asks.Ends end) segno by course stands is right taken = absurd right
miss_led setting g l work after asks.Nowhere segno by course stands is right taken = absurd right

pub miss_answers : (setting : Setting) (g : Control) (l : Line) (work after : LineAtWork) (asked : asking.Next) (segno by : ℕ)
    → ((course : Course) → StandsAt g l course work → next g l course ≡ meant g l asked) → IsReferenceAsked asked
    → IsTaken g l setting (Core (Missing segno by)) work after → IsGoodWork g after
    → IsAnswer setting g l (Core (Missing segno by)) work after
miss_answers setting g l work after asked segno by is right taken good = record {
  leads = λ course stands. miss_led setting g l work after asked segno by course stands (is course stands) right taken;
  good = good;
}

reference_asked : (g : Control) (l : Line) (asked : asking.Next) (r : Reference) → meant g l asked ≡ Asks r → IsReferenceAsked asked
reference_asked g l (asks.Asks q) r is = tt
reference_asked g l (asks.Fills q) r is = absurd cc
reference_asked g l (asks.Calls ring c) r is = absurd (no_reference l ring c r is)
reference_asked g l (asks.Ends end) r is = absurd cc
reference_asked g l asks.Nowhere r is = absurd cc

pub miss_never : (setting : Setting) (g : Control) (l : Line) (work : LineAtWork) (asked : asking.Next) (segno by : ℕ)
    → ((course : Course) → StandsAt g l course work → next g l course ≡ meant g l asked)
    → (IsReferenceAsked asked → ⊥) → IsNoAnswer setting g l (Core (Missing segno by)) work
miss_never setting g l work asked segno by is wrong = record {
  never = λ course later stands answers. wrong (reference_asked g l asked answers.asked (sym (is course stands) ∙ answers.next));
}

-- a call
call_led : (setting : Setting) (g : Control) (l : Line) (work after : LineAtWork) (asked : asking.Next) (number : ℕ)
    (entry : journaled.Entry) (course : Course) → entry_at setting.journal number ≡ Some entry → entry.process ≡ setting.process
    → StandsAt g l course work → next g l course ≡ meant g l asked → IsAskedCall l asked entry
    → IsTaken g l setting (Entry number) work after → IsLed setting g l (Entry number) course after
call_led setting g l work after (asks.Asks r) number entry course there maker stands is right taken = absurd right
call_led setting g l work after (asks.Fills r) number entry course there maker stands is right taken = absurd right
call_led setting g l work after (asks.Calls ring c) number entry course there maker stands is right taken =
    let answers : IsCall setting (next g l course) number (Answer entry []) = record {
      entry = entry;
      there = there;
      maker = maker;
      next = is ∙ right;
      leads = refl;
    } in
    record { later = Answer entry []; is = answers; stands = taken course (Answer entry []) stands answers }
call_led setting g l work after (asks.Ends end) number entry course there maker stands is right taken = absurd right
call_led setting g l work after asks.Nowhere number entry course there maker stands is right taken = absurd right

pub call_answers : (setting : Setting) (g : Control) (l : Line) (work after : LineAtWork) (asked : asking.Next) (number : ℕ)
    (entry : journaled.Entry) → entry_at setting.journal number ≡ Some entry → entry.process ≡ setting.process
    → ((course : Course) → StandsAt g l course work → next g l course ≡ meant g l asked) → IsAskedCall l asked entry
    → IsTaken g l setting (Entry number) work after → IsGoodWork g after → IsAnswer setting g l (Entry number) work after
call_answers setting g l work after asked number entry there maker is right taken good = record {
  leads = λ course stands. call_led setting g l work after asked number entry course there maker stands (is course stands) right taken;
  good = good;
}

call_asked : (g : Control) (l : Line) (asked : asking.Next) (entry : journaled.Entry) → meant g l asked ≡ Calls entry.ring entry.request
    → IsAskedCall l asked entry
call_asked g l (asks.Asks r) entry is = absurd cc
call_asked g l (asks.Fills r) entry is = absurd cc
call_asked g l (asks.Calls ring c) entry is = is
call_asked g l (asks.Ends end) entry is = absurd cc
call_asked g l asks.Nowhere entry is = absurd cc

pub call_never : (setting : Setting) (g : Control) (l : Line) (work : LineAtWork) (asked : asking.Next) (number : ℕ)
    (entry : journaled.Entry) → entry_at setting.journal number ≡ Some entry
    → ((course : Course) → StandsAt g l course work → next g l course ≡ meant g l asked)
    → (IsAskedCall l asked entry → ⊥) → IsNoAnswer setting g l (Entry number) work
call_never setting g l work asked number entry there is wrong = record {
  never = λ course later stands answers.
      let same : entry ≡ answers.entry = one (sym there ∙ answers.there) in
      wrong (call_asked g l asked entry (sym (is course stands)
      ∙ subst (λ (k : journaled.Entry). next g l course ≡ Calls k.ring k.request) (sym same) answers.next));
}
  where
    one : {a b : journaled.Entry} → Some a ≡ Some b → a ≡ b
    one e = cc

-- an entry that a text can say
fit_at : (test : journaled.Entry → Bool) (journal : List journaled.Entry) (place : ℕ) (entry : journaled.Entry)
    → list_all test journal ≡ true → slice_get journal place ≡ Some entry → test entry ≡ true
fit_at test [] place entry e at = absurd cc
fit_at test (first ∷ journal) zero entry e at =
    let same : first ≡ entry = cc in
    subst (λ (x : journaled.Entry). test x ≡ true) same (both (test first) (list_all test journal) e).0
fit_at test (first ∷ journal) (suc place) entry e at =
    fit_at test journal place entry (both (test first) (list_all test journal) e).1 at

fit_entry : (journal : List journaled.Entry) (number : ℕ) (entry : journaled.Entry) → list_all fits_entry journal ≡ true
    → entry_at journal number ≡ Some entry → fits_entry entry ≡ true
fit_entry journal zero entry e at = absurd cc
fit_entry journal (suc place) entry e at = fit_at fits_entry journal place entry e at

entry_parts : (entry : journaled.Entry) → fits_entry entry ≡ true
    → (fits_request entry.request ≡ true) × (bounds_reply entry.reply ≡ true)
entry_parts entry e =
    let replied : Bool = bounds_reply entry.reply in
    let f = both (is_process entry.process) (is_ring entry.ring && (fits_request entry.request && replied)) e in
    let g = both (is_ring entry.ring) (fits_request entry.request && replied) f.1 in
    both (fits_request entry.request) replied g.1

pub request_fits : (journal : List journaled.Entry) (number : ℕ) (entry : journaled.Entry) → list_all fits_entry journal ≡ true
    → entry_at journal number ≡ Some entry → fits_request entry.request ≡ true
request_fits journal number entry e at = (entry_parts entry (fit_entry journal number entry e at)).0

linked_within : (given : Reply) → bounds_reply given ≡ true → IsLinkedWithin given
linked_within (reply.Linked segno word fresh linkage) e =
    let f = both (is_word_address segno word) (is_none_or linkage is_segno) e in
    let g = both _ _ f.0 in
    (leb-true segno 4095 g.0, leb-true word 16383 g.1)
linked_within reply.Done e = tt
linked_within (reply.Refused why) e = tt
linked_within (reply.Status status) e = tt
linked_within (reply.Names names) e = tt
linked_within (reply.Segno known) e = tt
linked_within reply.Sent e = tt
linked_within (reply.Message sender word) e = tt
linked_within reply.Nobody e = tt
linked_within reply.Waiting e = tt

pub reply_linked : (journal : List journaled.Entry) (number : ℕ) (entry : journaled.Entry) → list_all fits_entry journal ≡ true
    → entry_at journal number ≡ Some entry → IsLinkedWithin entry.reply
reply_linked journal number entry e at = linked_within entry.reply (entry_parts entry (fit_entry journal number entry e at)).1
