-- Where the reply to its call leaves a line: by what an answer tells of the reply, and by whose call it was.
use Rattle.std.proofs.Common.{◌≡◌, ◌⊎◌, inl, inr, ℕ, Bool, false, List, [], ◌∷◌, ◌++◌, length, Option, Some, None, refl, sym, ◌∙◌, ap, subst}
use Rattle.std.specs.List.{slice_get}
use Rattle.mx_call.specs.Loading.{loaded}
use Rattle.mx_effring.specs.Chains as chains
use Rattle.mx_effring.specs.Walks.{wanted, wanted_at}
use Rattle.mx_effring.specs.declared.walks.Want.{Want}
use Rattle.mx_effring.specs.declared.walks.Want.TheVariants as want
use Rattle.mx_line.proofs.ReplyLaws.{memory_answers}
use Rattle.mx_line.proofs.StandingLaws.{before_asks, filling_asks, link_calls, link_refers, memory_calls, waiting_blocks, walking_asks, wants_calls}
use Rattle.mx_line.specs.AtWork.{IsCome, StandsAt}
use Rattle.mx_line.specs.Fills.{Follows, IsAnew, write_of}
use Rattle.mx_line.specs.Operands.{IsMemoryLine}
use Rattle.mx_line.specs.declared.at_work.LineAtWork.{LineAtWork}
use Rattle.mx_line.specs.declared.at_work.LineAtWork.TheVariants as works
use Rattle.mx_line.specs.declared.fills.Behind.{Behind}
use Rattle.mx_line.specs.declared.fills.Behind.TheVariants as behinds
use Rattle.mx_line.specs.declared.fills.Fill.{Fill}
use Rattle.mx_line.specs.declared.fills.Fill.TheVariants.{Words, Pointer}
use Rattle.mx_line.specs.declared.operands.Progress.{Progress}
use Rattle.mx_line.specs.declared.operands.Progress.TheVariants.{Before, Walking, AtLink, Waiting, Filling}
use Rattle.mx_office.specs.Replies.{IsReplyFor}
use Rattle.mx_office.specs.Serving.{answer_of}
use Rattle.mx_office.specs.declared.answers.Answer.{Answer}
use Rattle.mx_office.specs.declared.answers.Answer.TheVariants as answer
use Rattle.mx_ptr.specs.Pointers.{PointerParts, pointer_word}
use Rattle.mx_request.specs.Sections.{section_in}
use Rattle.mx_request.specs.declared.replies.Reply.{Reply}
use Rattle.mx_request.specs.declared.replies.Reply.TheVariants as reply
use Rattle.mx_request.specs.declared.requests.Request.{Request}
use Rattle.mx_request.specs.declared.requests.Request.TheVariants.{Block, Link, Logout, Resume}
use Rattle.mx_script.specs.declared.lines.Line.{Line}
use Rattle.mx_script.specs.declared.lines.Line.TheVariants as line
use Rattle.mx_state.specs.Told.{IsLinkedWithin}
use Rattle.mx_state.specs.declared.journal.Entry as journaled
use Rattle.mx_transcript.specs.Asking.{answered, attempts, awaits, first_due, linked, next, replied}
use Rattle.mx_transcript.specs.Attempts.{attempting, wants}
use Rattle.mx_transcript.specs.Courses.{Course, Answer as Answering}
use Rattle.mx_transcript.specs.Filling.{due, fill, links_of, section_words, snapped, stored_into}
use Rattle.mx_transcript.specs.Next.{Next, Reference, Calls, Ends as AsksToEnd, Fills, Nowhere}
use Rattle.mx_transcript.specs.Operands.{walk_of}
use Rattle.mx_transcript.specs.Targets.{at_target, spri_at}
use Rattle.mx_transcript.specs.declared.transcripts.Result2.{Result2}
use Rattle.mx_transcript.specs.declared.transcripts.Result2.TheVariants as result
use Rattle.mx_upcall.specs.Changes.{changed}
use Rattle.mx_upcall.specs.Control.{Control, with_registers}
use Rattle.mx_process.specs.Entries.{IsLeftAt, IsReplied, plainest}

-- Two replies tell of the same section, ask for the same writes, and lead on alike.
module _ (g : Control) (l : Line) (e e' : journaled.Entry) (section : section_in e'.reply ≡ section_in e.reply)
    (snaps : snapped e'.request e'.ring e'.reply ≡ snapped e.request e.ring e.reply)
    (leads : answered g l e'.request e'.reply ≡ answered g l e.request e.reply)
    (waits : e'.reply ≡ reply.Waiting → e.reply ≡ reply.Waiting) (asked : e'.request ≡ e.request) where
  due_same : due e' [] ≡ due e []
  due_same = λ i. slice_get (section_words (section i) 1 ++ snaps i) 0

  next_same : next g l (Answering e' []) ≡ next g l (Answering e [])
  next_same = λ i. first_due (due_same i) (leads i)

  follows_same : (after : Behind) → Follows g l e' after → Follows g l e after
  follows_same (behinds.Pointer snap) f = (sym snaps ∙ f.0, f.1, sym leads ∙ f.2)
  follows_same behinds.Done f = (sym snaps ∙ f.0, sym leads ∙ f.1)
  follows_same behinds.Nowhere f = (sym snaps ∙ f.0, sym leads ∙ f.1)

  pub stands_same : (work : LineAtWork) → StandsAt g l (Answering e' []) work → StandsAt g l (Answering e []) work
  stands_same (works.At Before) s = record { none = sym due_same ∙ s.none; other = s.other; anew = sym leads ∙ s.anew }
  stands_same (works.At Waiting) s = (waits s.0, sym asked ∙ s.1, s.2)
  stands_same (works.At (Filling (Words words))) s = (
    record { section = sym section ∙ s.0.section; count = s.0.count; below = s.0.below; links = s.0.links },
    follows_same words.behind s.1,
  )
  stands_same (works.At (Filling (Pointer snap))) s = (
    λ later. ap (λ (n : Option ℕ). length (section_words n (links_of later))) (sym section) ∙ s.0 later,
    follows_same (behinds.Pointer snap) s.1,
  )
  stands_same (works.At (Walking walk)) s = s
  stands_same (works.At (AtLink place)) s = s
  stands_same (works.Ended end) s = sym next_same ∙ s
  stands_same works.Nowhere s = sym next_same ∙ s

-- a reply, and the plainest that is answered so
abbrev twin : Reply → Reply
twin given = plainest (answer_of given)

twin_section : (given : Reply) → section_in (twin given) ≡ section_in given
twin_section reply.Done = refl
twin_section (reply.Refused why) = refl
twin_section (reply.Status status) = refl
twin_section (reply.Names names) = refl
twin_section (reply.Segno known) = refl
twin_section (reply.Linked to at fresh linkage) = refl
twin_section reply.Sent = refl
twin_section (reply.Message sender word) = refl
twin_section reply.Nobody = refl
twin_section reply.Waiting = refl

twin_snaps : (request : Request) (ring : ℕ) (given : Reply) → snapped request ring (twin given) ≡ snapped request ring given
twin_snaps request ring reply.Done = refl
twin_snaps request ring (reply.Refused why) = refl
twin_snaps request ring (reply.Status status) = refl
twin_snaps request ring (reply.Names names) = refl
twin_snaps request ring (reply.Segno known) = refl
twin_snaps request ring (reply.Linked to at fresh linkage) = refl
twin_snaps request ring reply.Sent = refl
twin_snaps request ring (reply.Message sender word) = refl
twin_snaps request ring reply.Nobody = refl
twin_snaps request ring reply.Waiting = refl

twin_replied : (g : Control) (request : Request) (given : Reply) → replied g request (twin given) ≡ replied g request given
twin_replied g request reply.Done = refl
twin_replied g request (reply.Refused why) = refl
twin_replied g request (reply.Status status) = refl
twin_replied g request (reply.Names names) = refl
twin_replied g request (reply.Segno known) = refl
twin_replied g request (reply.Linked to at fresh linkage) = refl
twin_replied g request reply.Sent = refl
twin_replied g request (reply.Message sender word) = refl
twin_replied g request reply.Nobody = refl
twin_replied g request reply.Waiting = refl

twin_linked : (g : Control) (l : Line) (given : Reply) → linked g l (twin given) ≡ linked g l given
twin_linked g l reply.Done = refl
twin_linked g l (reply.Refused why) = refl
twin_linked g l (reply.Status status) = refl
twin_linked g l (reply.Names names) = refl
twin_linked g l (reply.Segno known) = refl
twin_linked g l (reply.Linked to at fresh linkage) = refl
twin_linked g l reply.Sent = refl
twin_linked g l (reply.Message sender word) = refl
twin_linked g l reply.Nobody = refl
twin_linked g l reply.Waiting = refl

twin_leads : (g : Control) (l : Line) (request : Request) (given : Reply)
    → answered g l request (twin given) ≡ answered g l request given
twin_leads g (line.Ask own) request given = twin_replied g request given
twin_leads g (line.Set word) request given = refl
twin_leads g (line.Epp n o) request given = twin_linked g (line.Epp n o) given
twin_leads g (line.Lda o) request given = twin_linked g (line.Lda o) given
twin_leads g (line.Sta o) request given = twin_linked g (line.Sta o) given
twin_leads g (line.Spri n o) request given = twin_linked g (line.Spri n o) given
twin_leads g line.Fetch request given = twin_linked g line.Fetch given
twin_leads g (line.Call o) request given = twin_linked g (line.Call o) given
twin_leads g (line.Return o) request given = twin_linked g (line.Return o) given

-- who is answered that he waits was told so
pub told_waiting : (given : Reply) → answer_of given ≡ answer.Waiting → given ≡ reply.Waiting
told_waiting reply.Done e = absurd cc
told_waiting (reply.Refused why) e = absurd cc
told_waiting (reply.Status status) e = absurd cc
told_waiting (reply.Names names) e = absurd cc
told_waiting (reply.Segno known) e = absurd cc
told_waiting (reply.Linked to at fresh linkage) e = absurd cc
told_waiting reply.Sent e = absurd cc
told_waiting (reply.Message sender word) e = absurd cc
told_waiting reply.Nobody e = absurd cc
told_waiting reply.Waiting e = refl

twin_waits : (given : Reply) → twin given ≡ reply.Waiting → given ≡ reply.Waiting
twin_waits reply.Done e = absurd cc
twin_waits (reply.Refused why) e = absurd cc
twin_waits (reply.Status status) e = absurd cc
twin_waits (reply.Names names) e = absurd cc
twin_waits (reply.Segno known) e = absurd cc
twin_waits (reply.Linked to at fresh linkage) e = absurd cc
twin_waits reply.Sent e = absurd cc
twin_waits (reply.Message sender word) e = absurd cc
twin_waits reply.Nobody e = absurd cc
twin_waits reply.Waiting e = refl

twin_within : (given : Reply) → IsLinkedWithin given → IsLinkedWithin (twin given)
twin_within reply.Done is = tt
twin_within (reply.Refused why) is = tt
twin_within (reply.Status status) is = tt
twin_within (reply.Names names) is = tt
twin_within (reply.Segno known) is = tt
twin_within (reply.Linked to at fresh linkage) is = is
twin_within reply.Sent is = tt
twin_within (reply.Message sender word) is = tt
twin_within reply.Nobody is = tt
twin_within reply.Waiting is = tt

-- an entry, with another reply
abbrev pub with_reply : journaled.Entry → Reply → journaled.Entry
with_reply e given = record e { reply = given }

pub within_plainest : (e : journaled.Entry) (given : Answer) → given ≡ answer_of e.reply → IsLinkedWithin e.reply
    → IsLinkedWithin (plainest given)
within_plainest e given told is =
    subst (λ (a : Answer). IsLinkedWithin (plainest a)) (sym told) (twin_within e.reply is)

-- after a reply a line stands where it does after any that is answered so
pub stands_alike : (g : Control) (l : Line) (e : journaled.Entry) (given : Answer) (work : LineAtWork) → given ≡ answer_of e.reply
    → StandsAt g l (Answering (with_reply e (plainest given)) []) work → StandsAt g l (Answering e []) work
stands_alike g l e given work told stands =
    stands_same g l e (with_reply e (twin e.reply)) (twin_section e.reply) (twin_snaps e.request e.ring e.reply)
    (twin_leads g l e.request e.reply) (twin_waits e.reply) refl work
    (subst (λ (a : Answer). StandsAt g l (Answering (with_reply e (plainest a)) []) work) told stands)

-- a line calls by a request of its own, or to have a link snapped
pub record IsOwnLine (l : Line) : Type 0 where
  pub own : Request
  pub is : l ≡ line.Ask own

pub record IsLinker (l : Line) (request : Request) : Type 0 where
  pub memory : IsMemoryLine l
  pub segno : ℕ
  pub word : ℕ
  pub link : request ≡ Link segno word

same_request : (ring other : ℕ) (request called : Request) → Calls ring request ≡ Calls other called → called ≡ request
same_request ring other request called e = cc

before_calls : (g : Control) (l : Line) (ring : ℕ) (request : Request) → attempts g l [] ≡ Calls ring request → l ≡ line.Ask request
before_calls g (line.Ask own) ring request e = ap line.Ask (sym (same_request g.registers.ring ring own request e))
before_calls g (line.Set word) ring request e = absurd cc
before_calls g (line.Epp n o) ring request e = absurd (memory_calls g (line.Epp n o) ring request tt e)
before_calls g (line.Lda o) ring request e = absurd (memory_calls g (line.Lda o) ring request tt e)
before_calls g (line.Sta o) ring request e = absurd (memory_calls g (line.Sta o) ring request tt e)
before_calls g (line.Spri n o) ring request e = absurd (memory_calls g (line.Spri n o) ring request tt e)
before_calls g line.Fetch ring request e = absurd (memory_calls g line.Fetch ring request tt e)
before_calls g (line.Call o) ring request e = absurd (memory_calls g (line.Call o) ring request tt e)
before_calls g (line.Return o) ring request e = absurd (memory_calls g (line.Return o) ring request tt e)

never_fills : (r : Reference) (ring : ℕ) (request : Request) (asks : Next) → asks ≡ Fills r → asks ≡ Calls ring request → ⊥
never_fills r ring request asks a b = apart (sym a ∙ b)
  where
    apart : Fills r ≡ Calls ring request → ⊥
    apart e = cc

module _ (g : Control) (l : Line) (course : Course) (ring : ℕ) (request : Request) where
  pub callers : (progress : Progress) → IsCome g l course progress → next g l course ≡ Calls ring request
      → IsOwnLine l ⊎ IsLinker l request
  callers Before come calls =
      inl (record { own = request; is = before_calls g l ring request (sym (before_asks g l course come) ∙ calls) })
  callers (Walking walk) come calls =
      absurd (wants_calls g l (wanted_at walk) ring request (sym (walking_asks g l course walk come) ∙ calls))
  callers (AtLink place) come calls = inr (record {
    memory = link_refers g l course place come;
    segno = place.segno;
    word = place.word;
    link = same_request place.ring ring (Link place.segno place.word) request (sym (link_calls g l course place come) ∙ calls);
  })
  callers Waiting come calls = inl (record { own = Block; is = waiting_blocks g l course come })
  callers (Filling it) come calls =
      absurd (never_fills (write_of it) ring request (next g l course) (filling_asks g l course it come) calls)

  -- only a line that blocks calls so
  pub blocks : (progress : Progress) → IsCome g l course progress → next g l course ≡ Calls ring Block → l ≡ line.Ask Block
  blocks Before come calls = before_calls g l ring Block (sym (before_asks g l course come) ∙ calls)
  blocks (Walking walk) come calls =
      absurd (wants_calls g l (wanted_at walk) ring Block (sym (walking_asks g l course walk come) ∙ calls))
  blocks (AtLink place) come calls =
      absurd (apart (same_request place.ring ring (Link place.segno place.word) Block (sym (link_calls g l course place come) ∙ calls)))
    where
      apart : Block ≡ Link place.segno place.word → ⊥
      apart e = cc
  blocks Waiting come calls = waiting_blocks g l course come
  blocks (Filling it) come calls =
      absurd (never_fills (write_of it) ring Block (next g l course) (filling_asks g l course it come) calls)

-- what comes after a reply: the line ends, or its process waits and resumes, or a link is stored
record IsOver (g : Control) (l : Line) (request : Request) (given : Reply) : Type 0 where
  pub ends : Result2
  pub is : answered g l request given ≡ AsksToEnd ends g
  pub plain : IsReplied ends

record Awaits (g : Control) (l : Line) (request : Request) (given : Reply) : Type 0 where
  pub is : answered g l request given ≡ Calls g.registers.ring Resume

record Snaps (request : Request) (ring : ℕ) (given : Reply) : Type 0 where
  pub write : Reference
  pub is : snapped request ring given ≡ write ∷ []

abbrev Comes : Control → Line → Request → ℕ → Reply → Type 0
Comes g l request ring given = IsOver g l request given ⊎ (Awaits g l request given ⊎ Snaps request ring given)

-- the pointer that is stored where the link is
abbrev leading_to : ℕ → ℕ → ℕ → PointerParts
leading_to ring to word = record { ring = ring; segno = to; word = word; further = false }

snaps_by : (request : Request) (ring segno word to place : ℕ) (fresh : Bool) (linkage : Option ℕ) → request ≡ Link segno word
    → Snaps request ring (reply.Linked to place fresh linkage)
snaps_by request ring segno word to place fresh linkage link = record {
  write = fill segno word (pointer_word (leading_to ring to place));
  is = ap (λ (r : Request). stored_into r (leading_to ring to place)) link;
}

own_comes : (g : Control) (own request : Request) (ring : ℕ) (given : Reply) → IsReplyFor request given
    → (given ≡ reply.Waiting → request ≡ Resume → ⊥) → Comes g (line.Ask own) request ring given
own_comes g own request ring reply.Done fits awake = inl (record { ends = result.Done; is = refl; plain = inl refl })
own_comes g own request ring (reply.Refused why) fits awake = inl (record { ends = result.Refused; is = refl; plain = inr refl })
own_comes g own request ring (reply.Status status) fits awake = inl (record { ends = result.Done; is = refl; plain = inl refl })
own_comes g own request ring (reply.Names names) fits awake = inl (record { ends = result.Done; is = refl; plain = inl refl })
own_comes g own request ring (reply.Segno known) fits awake = inl (record { ends = result.Done; is = refl; plain = inl refl })
own_comes g own request ring (reply.Linked to at fresh linkage) fits awake =
    inr (inr (snaps_by request ring fits.0 fits.1 to at fresh linkage fits.2))
own_comes g own request ring reply.Sent fits awake = inl (record { ends = result.Done; is = refl; plain = inl refl })
own_comes g own request ring (reply.Message sender word) fits awake = inl (record { ends = result.Done; is = refl; plain = inl refl })
own_comes g own request ring reply.Nobody fits awake = inl (record { ends = result.Done; is = refl; plain = inl refl })
own_comes g own request ring reply.Waiting fits awake = elim fits [
  | inl block ↦ inr (inl (record { is = ap (awaits g) block }))
  | inr resume ↦ absurd (awake refl resume)
]

linker_comes : (g : Control) (l : Line) (request : Request) (ring : ℕ) (given : Reply) → IsLinker l request
    → IsReplyFor request given → Comes g l request ring given
linker_comes g l request ring reply.Done who fits = absurd (fits who.segno who.word who.link)
linker_comes g l request ring (reply.Refused why) who fits =
    inl (record { ends = result.Refused; is = memory_answers g l request (reply.Refused why) who.memory; plain = inr refl })
linker_comes g l request ring (reply.Status status) who fits = absurd (fits who.segno who.word who.link)
linker_comes g l request ring (reply.Names names) who fits = absurd (fits who.segno who.word who.link)
linker_comes g l request ring (reply.Segno known) who fits = absurd (fits.0 who.segno who.word who.link)
linker_comes g l request ring (reply.Linked to at fresh linkage) who fits =
    inr (inr (snaps_by request ring fits.0 fits.1 to at fresh linkage fits.2))
linker_comes g l request ring reply.Sent who fits = absurd (fits who.segno who.word who.link)
linker_comes g l request ring (reply.Message sender word) who fits = absurd (fits who.segno who.word who.link)
linker_comes g l request ring reply.Nobody who fits = absurd (fits who.segno who.word who.link)
linker_comes g l request ring reply.Waiting who fits = elim fits [
  | inl block ↦ absurd (from_block (sym block ∙ who.link))
  | inr resume ↦ absurd (from_resume (sym resume ∙ who.link))
]
  where
    from_block : Block ≡ Link who.segno who.word → ⊥
    from_block e = cc

    from_resume : Resume ≡ Link who.segno who.word → ⊥
    from_resume e = cc

-- a line that refers to memory does not begin with such an end
spri_unended : (target : PointerParts) (p : Option PointerParts) (ends : Result2) (now : Control) → spri_at target p ≡ AsksToEnd ends now → ⊥
spri_unended target None ends now e = cc
spri_unended target (Some p) ends now e = cc

loaded_unended : (after now : Control) (n : ℕ) (target : PointerParts) (ends : Result2)
    → AsksToEnd (result.Pr n target) after ≡ AsksToEnd ends now → IsReplied ends → ⊥
loaded_unended after now n target ends e plain = elim plain [
  | inl done ↦ at_done (e ∙ ap (λ (r : Result2). AsksToEnd r now) done)
  | inr refused ↦ at_refused (e ∙ ap (λ (r : Result2). AsksToEnd r now) refused)
]
  where
    at_done : AsksToEnd (result.Pr n target) after ≡ AsksToEnd result.Done now → ⊥
    at_done h = cc

    at_refused : AsksToEnd (result.Pr n target) after ≡ AsksToEnd result.Refused now → ⊥
    at_refused h = cc

target_unended : (g : Control) (l : Line) (target : PointerParts) (ends : Result2) (now : Control)
    → at_target g l target ≡ AsksToEnd ends now → IsReplied ends → ⊥
target_unended g (line.Ask own) target ends now e plain = cc
target_unended g (line.Set word) target ends now e plain = cc
target_unended g (line.Epp n o) target ends now e plain = loaded_unended (with_registers g (loaded g.registers n target)) now n target ends e plain
target_unended g (line.Lda o) target ends now e plain = cc
target_unended g (line.Sta o) target ends now e plain = cc
target_unended g (line.Spri n o) target ends now e plain = spri_unended target (slice_get g.registers.pr n) ends now e
target_unended g line.Fetch target ends now e plain = cc
target_unended g (line.Call o) target ends now e plain = cc
target_unended g (line.Return o) target ends now e plain = cc

wants_unended : (g : Control) (l : Line) (w : Want) (ends : Result2) (now : Control) → wants g l w ≡ AsksToEnd ends now
    → IsReplied ends → ⊥
wants_unended g l (want.Word segno word ring) ends now e plain = cc
wants_unended g l (want.Done target) ends now e plain = target_unended g l target ends now e plain

walk_unended : (g : Control) (l : Line) (walk : Option chains.Operand) (ends : Result2) (now : Control)
    → attempting g l [] walk ≡ AsksToEnd ends now → IsReplied ends → ⊥
walk_unended g l None ends now e plain = cc
walk_unended g l (Some walk) ends now e plain = wants_unended g l (wanted walk) ends now e plain

memory_unended : (g : Control) (l : Line) (ends : Result2) (now : Control) → IsMemoryLine l → attempts g l [] ≡ AsksToEnd ends now
    → IsReplied ends → ⊥
memory_unended g (line.Ask own) ends now is e plain = is
memory_unended g (line.Set word) ends now is e plain = is
memory_unended g (line.Epp n o) ends now is e plain = walk_unended g (line.Epp n o) (walk_of g.registers (line.Epp n o)) ends now e plain
memory_unended g (line.Lda o) ends now is e plain = walk_unended g (line.Lda o) (walk_of g.registers (line.Lda o)) ends now e plain
memory_unended g (line.Sta o) ends now is e plain = walk_unended g (line.Sta o) (walk_of g.registers (line.Sta o)) ends now e plain
memory_unended g (line.Spri n o) ends now is e plain = walk_unended g (line.Spri n o) (walk_of g.registers (line.Spri n o)) ends now e plain
memory_unended g line.Fetch ends now is e plain = walk_unended g line.Fetch (walk_of g.registers line.Fetch) ends now e plain
memory_unended g (line.Call o) ends now is e plain = walk_unended g (line.Call o) (walk_of g.registers (line.Call o)) ends now e plain
memory_unended g (line.Return o) ends now is e plain = walk_unended g (line.Return o) (walk_of g.registers (line.Return o)) ends now e plain

-- a link that is to be stored is due
some_due : (section : Option ℕ) (writes : List Reference) (write : Reference) → writes ≡ write ∷ []
    → slice_get (section_words section 1 ++ writes) 0 ≡ None → ⊥
some_due None writes write is none = apart (sym (ap (λ (w : List Reference). slice_get w 0) is) ∙ none)
  where
    apart : Some write ≡ None → ⊥
    apart e = cc
some_due (Some n) writes write is none = cc

-- The reply to the call of a line that came so far.
module _ (g : Control) (l : Line) (e : journaled.Entry) (who : IsOwnLine l ⊎ IsLinker l e.request)
    (fits : IsReplyFor e.request e.reply) (awake : e.reply ≡ reply.Waiting → e.request ≡ Resume → ⊥) where
  comes : Comes g l e.request e.ring e.reply
  comes = elim who [
    | inl own ↦ subst (λ (l : Line). Comes g l e.request e.ring e.reply) (sym own.is)
        (own_comes g own.own e.request e.ring e.reply fits awake)
    | inr linker ↦ linker_comes g l e.request e.ring e.reply linker fits
  ]

  over_somewhere : IsOver g l e.request e.reply → answered g l e.request e.reply ≡ Nowhere → ⊥
  over_somewhere over none = apart (sym over.is ∙ none)
    where
      apart : AsksToEnd over.ends g ≡ Nowhere → ⊥
      apart h = cc

  awaits_somewhere : Awaits g l e.request e.reply → answered g l e.request e.reply ≡ Nowhere → ⊥
  awaits_somewhere awaits none = apart (sym awaits.is ∙ none)
    where
      apart : Calls g.registers.ring Resume ≡ Nowhere → ⊥
      apart h = cc

  -- it leads somewhere
  somewhere : snapped e.request e.ring e.reply ≡ [] → answered g l e.request e.reply ≡ Nowhere → ⊥
  somewhere nothing none = elim comes [
    | inl over ↦ over_somewhere over none
    | inr (inl awaits) ↦ awaits_somewhere awaits none
    | inr (inr snaps) ↦ apart snaps.write (sym snaps.is ∙ nothing)
  ]
    where
      apart : (write : Reference) → write ∷ [] ≡ [] → ⊥
      apart write h = cc

  by_due : (d : Option Reference) → due e [] ≡ d → first_due d (answered g l e.request e.reply) ≡ Nowhere → ⊥
  by_due (Some r) is none = cc
  by_due None is none = elim comes [
    | inl over ↦ over_somewhere over none
    | inr (inl awaits) ↦ awaits_somewhere awaits none
    | inr (inr snaps) ↦ some_due (section_in e.reply) (snapped e.request e.ring e.reply) snaps.write snaps.is is
  ]

  never_nowhere : next g l (Answering e []) ≡ Nowhere → ⊥
  never_nowhere none = by_due (due e []) refl none

  -- it does not begin anew
  memory_comes : IsMemoryLine l → IsAnew g l e [] → ⊥
  memory_comes memory anew = elim comes [
    | inl over ↦ memory_unended g l over.ends g memory (sym anew.anew ∙ over.is) over.plain
    | inr (inl awaits) ↦ memory_calls g l g.registers.ring Resume memory (sym anew.anew ∙ awaits.is)
    | inr (inr snaps) ↦ some_due (section_in e.reply) (snapped e.request e.ring e.reply) snaps.write snaps.is anew.none
  ]

  never_anew : IsAnew g l e [] → ⊥
  never_anew anew = elim who [
    | inl own ↦ anew.other own.own own.is
    | inr linker ↦ memory_comes linker.memory anew
  ]

  -- where it ends the line, it does so plainly
  same_end : (given ends : Result2) (last after : Control) → AsksToEnd given last ≡ AsksToEnd ends after → given ≡ ends
  same_end given ends last after h = cc

  ends_by_due : (d : Option Reference) → due e [] ≡ d → (ends : Result2) (after : Control)
      → first_due d (answered g l e.request e.reply) ≡ AsksToEnd ends after → IsReplied ends
  ends_by_due (Some r) is ends after h = absurd cc
  ends_by_due None is ends after h = elim comes [
    | inl over ↦ subst IsReplied (same_end over.ends ends g after (sym over.is ∙ h)) over.plain
    | inr (inl awaits) ↦ absurd (apart (sym awaits.is ∙ h))
    | inr (inr snaps) ↦ absurd (some_due (section_in e.reply) (snapped e.request e.ring e.reply) snaps.write snaps.is is)
  ]
    where
      apart : Calls g.registers.ring Resume ≡ AsksToEnd ends after → ⊥
      apart k = cc

  fitting : (behind : Behind) → Follows g l e behind → behind ≡ behinds.Nowhere → ⊥
  fitting behind follows is =
      let f = subst (Follows g l e) is follows in somewhere f.0 f.1

  pub left_at : (work : LineAtWork) → StandsAt g l (Answering e []) work → IsLeftAt work
  left_at (works.At Before) s = absurd (never_anew s)
  left_at (works.At Waiting) s = inr refl
  left_at (works.At (Filling (Words words))) s =
      inl (record { fill = Words words; is = refl; fitting = λ nothing. fitting words.behind s.1 nothing })
  left_at (works.At (Filling (Pointer snap))) s = inl (record { fill = Pointer snap; is = refl; fitting = tt })
  left_at (works.At (Walking walk)) s = absurd s
  left_at (works.At (AtLink place)) s = absurd s
  left_at (works.Ended end) s = ends_by_due (due e []) refl end.ends (changed g end.after) s
  left_at works.Nowhere s = never_nowhere s

-- who asks for a message is told of no section
no_section : (request : Request) (given : Reply) → (request ≡ Block) ⊎ (request ≡ Resume) → IsReplyFor request given
    → section_in given ≡ None
no_section request reply.Done asks fits = refl
no_section request (reply.Refused why) asks fits = refl
no_section request (reply.Status status) asks fits = refl
no_section request (reply.Names names) asks fits = refl
no_section request (reply.Segno known) asks fits = elim asks [
  | inl block ↦ absurd (fits.1.0 block)
  | inr resume ↦ absurd (fits.1.1 resume)
]
no_section request (reply.Linked to at fresh linkage) asks fits = elim asks [
  | inl block ↦ absurd (from_block (sym block ∙ fits.2))
  | inr resume ↦ absurd (from_resume (sym resume ∙ fits.2))
]
  where
    from_block : Block ≡ Link fits.0 fits.1 → ⊥
    from_block e = cc

    from_resume : Resume ≡ Link fits.0 fits.1 → ⊥
    from_resume e = cc
no_section request reply.Sent asks fits = refl
no_section request (reply.Message sender word) asks fits = refl
no_section request reply.Nobody asks fits = refl
no_section request reply.Waiting asks fits = refl

-- so its line ends with any other reply than that it waits
pub message_ends : (g : Control) (l : Line) (e : journaled.Entry) (own : Request) → l ≡ line.Ask own
    → (e.request ≡ Block) ⊎ (e.request ≡ Resume) → IsReplyFor e.request e.reply → (e.reply ≡ reply.Waiting → ⊥)
    → (progress : Progress) → StandsAt g l (Answering e []) (works.At progress) → ⊥
message_ends g l e own is asks fits given Before s = s.other own is
message_ends g l e own is asks fits given Waiting s = given s.0
message_ends g l e own is asks fits given (Filling (Words words)) s =
    apart (sym s.0.section ∙ no_section e.request e.reply asks fits)
  where
    apart : Some words.section ≡ None → ⊥
    apart h = cc
message_ends g l e own is asks fits given (Filling (Pointer snap)) s = s.1.1 own is
message_ends g l e own is asks fits given (Walking walk) s = s
message_ends g l e own is asks fits given (AtLink place) s = s

-- a line that logs out asks for that
pub logout_asks : (g : Control) (l : Line) (course : Course) (ring : ℕ) (request : Request) (progress : Progress)
    → IsCome g l course progress → next g l course ≡ Calls ring request → l ≡ line.Ask Logout → request ≡ Logout
logout_asks g l course ring request Before come calls out =
    same_own request Logout (sym (before_calls g l ring request (sym (before_asks g l course come) ∙ calls)) ∙ out)
  where
    same_own : (a b : Request) → line.Ask a ≡ line.Ask b → a ≡ b
    same_own a b e = cc
logout_asks g l course ring request (Walking walk) come calls out =
    absurd (wants_calls g l (wanted_at walk) ring request (sym (walking_asks g l course walk come) ∙ calls))
logout_asks g l course ring request (AtLink place) come calls out =
    absurd (subst IsMemoryLine out (link_refers g l course place come))
logout_asks g l course ring request Waiting come calls out = absurd (apart (sym (waiting_blocks g l course come) ∙ out))
  where
    apart : line.Ask Block ≡ line.Ask Logout → ⊥
    apart e = cc
logout_asks g l course ring request (Filling it) come calls out =
    absurd (never_fills (write_of it) ring request (next g l course) (filling_asks g l course it come) calls)

-- who logs out is told of no section
no_section_out : (request : Request) (given : Reply) → request ≡ Logout → IsReplyFor request given → section_in given ≡ None
no_section_out request reply.Done out fits = refl
no_section_out request (reply.Refused why) out fits = refl
no_section_out request (reply.Status status) out fits = refl
no_section_out request (reply.Names names) out fits = refl
no_section_out request (reply.Segno known) out fits = absurd (fits.2 out)
no_section_out request (reply.Linked to at fresh linkage) out fits = absurd (apart (sym out ∙ fits.2))
  where
    apart : Logout ≡ Link fits.0 fits.1 → ⊥
    apart e = cc
no_section_out request reply.Sent out fits = refl
no_section_out request (reply.Message sender word) out fits = refl
no_section_out request reply.Nobody out fits = refl
no_section_out request reply.Waiting out fits = refl

-- so no write is due after the reply
pub logout_fills : (g : Control) (l : Line) (e : journaled.Entry) → l ≡ line.Ask Logout → e.request ≡ Logout
    → IsReplyFor e.request e.reply → (fill : Fill) → StandsAt g l (Answering e []) (works.At (Filling fill)) → ⊥
logout_fills g l e is out fits (Words words) s = apart (sym s.0.section ∙ no_section_out e.request e.reply out fits)
  where
    apart : Some words.section ≡ None → ⊥
    apart h = cc
logout_fills g l e is out fits (Pointer snap) s = s.1.1 Logout is
