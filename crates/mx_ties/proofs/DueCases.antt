-- A write that is due is a link word of the section of which the reply tells, or the pointer of the link that it snapped.
use Rattle.std.proofs.Common.{◌≡◌, ◌⊎◌, inl, inr, ℕ, zero, suc, ◌+◌, ◌<◌, Bool, false, List, ◌++◌, length, ap, sym, ◌∙◌, Option, Some, None, refl, arith}
use Rattle.std.specs.List.{slice_get}
use Rattle.mx_ptr.specs.Pointers.{link_word, pointer_word}
use Rattle.mx_request.specs.Sections.{section_in}
use Rattle.mx_request.specs.declared.replies.Reply.{Reply}
use Rattle.mx_request.specs.declared.replies.Reply.TheVariants as reply
use Rattle.mx_request.specs.declared.requests.Request.{Request}
use Rattle.mx_request.specs.declared.requests.Request.TheVariants as ask
use Rattle.mx_state.specs.declared.journal.Entry as journaled
use Rattle.mx_transcript.specs.Courses.{Judged}
use Rattle.mx_transcript.specs.Filling.{fill, link_words, section_words, snapped, links_of, due}
use Rattle.mx_transcript.specs.Next.{Reference}

pub record OfSection (given : Reply) (links place : ℕ) (asked : Reference) : Type 0 where
  pub section : ℕ
  pub told : section_in given ≡ Some section
  pub within : place < links
  pub is : asked ≡ fill section place (link_word place)

pub record OfLink (request : Request) (given : Reply) (asked : Reference) : Type 0 where
  pub segno : ℕ
  pub word : ℕ
  pub to : ℕ
  pub at : ℕ
  pub fresh : Bool
  pub linkage : Option ℕ
  pub value : ℕ
  pub request_is : request ≡ ask.Link segno word
  pub reply_is : given ≡ reply.Linked to at fresh linkage
  pub is : asked ≡ fill segno word value

record IsFurther (more : List Reference) (asked : Reference) : Type 0 where
  place : ℕ
  at : slice_get more place ≡ Some asked

in_words : (section first links place : ℕ) (more : List Reference) (asked : Reference)
    → slice_get (link_words section first links ++ more) place ≡ Some asked
    → ((place < links) × (asked ≡ fill section (first + place) (link_word (first + place)))) ⊎ IsFurther more asked
in_words section first zero place more asked h = inr (record { place = place; at = h })
in_words section first (suc links) zero more asked h =
    let e : fill section first (link_word first) ≡ asked = cc in
    inl (omega arith, sym e ∙ ap (λ (n : ℕ). fill section n (link_word n)) (let at : first ≡ first + 0 = omega arith in at))
in_words section first (suc links) (suc place) more asked h = elim (in_words section (suc first) links place more asked h) [
  | inl a ↦
      let low = a.0 in
      inl (
        omega arith,
        a.1 ∙ ap (λ (n : ℕ). fill section n (link_word n))
            (let at : suc first + place ≡ first + suc place = omega arith in at),
      )
  | inr b ↦ inr b
]

into : (request : Request) (ring to at place : ℕ) (fresh : Bool) (linkage : Option ℕ) (asked : Reference)
    → slice_get (snapped request ring (reply.Linked to at fresh linkage)) place ≡ Some asked
    → OfLink request (reply.Linked to at fresh linkage) asked
into (ask.Link segno word) ring to at zero fresh linkage asked h =
    let e : fill segno word (pointer_word (record { ring = ring; segno = to; word = at; further = false })) ≡ asked = cc in
    record {
      segno = segno;
      word = word;
      to = to;
      at = at;
      fresh = fresh;
      linkage = linkage;
      value = pointer_word (record { ring = ring; segno = to; word = at; further = false });
      request_is = refl;
      reply_is = refl;
      is = sym e;
    }
into (ask.Link segno word) ring to at (suc place) fresh linkage asked h = absurd cc
into (ask.CreateDir path d1 d2) ring to at place fresh linkage asked h = absurd cc
into (ask.CreateSeg path words brackets) ring to at place fresh linkage asked h = absurd cc
into (ask.CreateObject path words brackets object) ring to at place fresh linkage asked h = absurd cc
into (ask.CreateLink path target) ring to at place fresh linkage asked h = absurd cc
into (ask.Rename path name) ring to at place fresh linkage asked h = absurd cc
into (ask.Delete path) ring to at place fresh linkage asked h = absurd cc
into (ask.SetAcl path id modes) ring to at place fresh linkage asked h = absurd cc
into (ask.DelAcl path id) ring to at place fresh linkage asked h = absurd cc
into (ask.SetIacl path kind id modes) ring to at place fresh linkage asked h = absurd cc
into (ask.DelIacl path kind id) ring to at place fresh linkage asked h = absurd cc
into (ask.SetBrackets path brackets) ring to at place fresh linkage asked h = absurd cc
into (ask.SetDirBrackets path d1 d2) ring to at place fresh linkage asked h = absurd cc
into (ask.SetClass path class) ring to at place fresh linkage asked h = absurd cc
into (ask.Status path) ring to at place fresh linkage asked h = absurd cc
into (ask.List path) ring to at place fresh linkage asked h = absurd cc
into (ask.ChangeWdir path) ring to at place fresh linkage asked h = absurd cc
into (ask.SetRules rules) ring to at place fresh linkage asked h = absurd cc
into (ask.Initiate path name) ring to at place fresh linkage asked h = absurd cc
into (ask.Terminate segno) ring to at place fresh linkage asked h = absurd cc
into (ask.Wakeup other word) ring to at place fresh linkage asked h = absurd cc
into ask.Block ring to at place fresh linkage asked h = absurd cc
into ask.Resume ring to at place fresh linkage asked h = absurd cc
into ask.Logout ring to at place fresh linkage asked h = absurd cc

of_link : (request : Request) (ring : ℕ) (given : Reply) (place : ℕ) (asked : Reference)
    → slice_get (snapped request ring given) place ≡ Some asked → OfLink request given asked
of_link request ring (reply.Linked to at fresh linkage) place asked h = into request ring to at place fresh linkage asked h
of_link request ring (reply.Segno known) place asked h = absurd cc
of_link request ring reply.Done place asked h = absurd cc
of_link request ring (reply.Refused why) place asked h = absurd cc
of_link request ring (reply.Status status) place asked h = absurd cc
of_link request ring (reply.Names names) place asked h = absurd cc
of_link request ring reply.Sent place asked h = absurd cc
of_link request ring (reply.Message sender word) place asked h = absurd cc
of_link request ring reply.Nobody place asked h = absurd cc
of_link request ring reply.Waiting place asked h = absurd cc

by_section : (request : Request) (ring : ℕ) (given : Reply) (links place : ℕ) (asked : Reference) (made : Option ℕ)
    → section_in given ≡ made
    → slice_get (section_words made links ++ snapped request ring given) place ≡ Some asked
    → OfSection given links place asked ⊎ OfLink request given asked
by_section request ring given links place asked None e h = inr (of_link request ring given place asked h)
by_section request ring given links place asked (Some section) e h =
    elim (in_words section 0 links place (snapped request ring given) asked h) [
      | inl a ↦ inl (record {
        section = section;
        told = e;
        within = a.0;
        is = a.1 ∙ ap (λ (n : ℕ). fill section n (link_word n)) (let at : 0 + place ≡ place = omega arith in at);
      })
      | inr b ↦ inr (of_link request ring given b.place asked b.at)
    ]

pub due_cases : (entry : journaled.Entry) (filled : List Judged) (asked : Reference) → due entry filled ≡ Some asked
    → OfSection entry.reply (links_of filled) (length filled) asked ⊎ OfLink entry.request entry.reply asked
due_cases entry filled asked h =
    by_section entry.request entry.ring entry.reply (links_of filled) (length filled) asked (section_in entry.reply) refl h
