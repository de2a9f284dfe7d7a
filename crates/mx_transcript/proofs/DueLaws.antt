-- What a reply asks for, write by write.
use Rattle.std.proofs.Common.{◌≡◌, ℕ, zero, suc, ◌+◌, ◌<◌, ◌≤◌, Bool, false, List, ◌++◌, length, Option, Some, None, refl, ap, ◌∙◌, arith}
use Rattle.std.specs.List.{slice_get}
use Rattle.std.proofs.lemmas.List.{length-append}
use Rattle.std.proofs.lemmas.Option.{slice_get_past}
use Rattle.mx_ptr.specs.Pointers.{PointerParts, link_word, pointer_word}
use Rattle.mx_request.specs.Sections.{section_in}
use Rattle.mx_request.specs.declared.replies.Reply.{Reply}
use Rattle.mx_request.specs.declared.replies.Reply.TheVariants as reply
use Rattle.mx_request.specs.declared.requests.Request.{Request}
use Rattle.mx_request.specs.declared.requests.Request.TheVariants as ask
use Rattle.mx_request.specs.declared.requests.Request.TheVariants.{Link}
use Rattle.mx_transcript.specs.Dues.{words_in, pointers_in, SectionWordLaw, SnappedLaw, NoMoreLaw}
use Rattle.mx_transcript.specs.Filling.{fill, link_words, section_words, snapped, stored_into, links_of}
use Rattle.mx_transcript.specs.Next.{Reference}

-- the link words, and what follows them
word_at : (section first links place : ℕ) (more : List Reference) → place < links
    → slice_get (link_words section first links ++ more) place ≡ Some (fill section (first + place) (link_word (first + place)))
word_at section first zero place more low = absurd (omega arith)
word_at section first (suc links) zero more low =
    ap (λ (n : ℕ). Some (fill section n (link_word n))) (same first)
  where
    same : (n : ℕ) → n ≡ n + 0
    same n = omega arith
word_at section first (suc links) (suc place) more low =
    word_at section (suc first) links place more (omega arith)
    ∙ ap (λ (n : ℕ). Some (fill section n (link_word n))) (same first place)
  where
    same : (n m : ℕ) → suc n + m ≡ n + suc m
    same n m = omega arith

beyond_words : (section first links place : ℕ) (more : List Reference)
    → slice_get (link_words section first links ++ more) (links + place) ≡ slice_get more place
beyond_words section first zero place more = ap (slice_get more) (same place)
  where
    same : (n : ℕ) → 0 + n ≡ n
    same n = omega arith
beyond_words section first (suc links) place more =
    ap (slice_get (link_words section first (suc links) ++ more)) (same links place)
    ∙ beyond_words section (suc first) links place more
  where
    same : (n m : ℕ) → suc n + m ≡ suc (n + m)
    same n m = omega arith

beyond_section : (made : Option ℕ) (links place : ℕ) (more : List Reference)
    → slice_get (section_words made links ++ more) (words_in made links + place) ≡ slice_get more place
beyond_section None links place more = ap (slice_get more) (same place)
  where
    same : (n : ℕ) → 0 + n ≡ n
    same n = omega arith
beyond_section (Some section) links place more = beyond_words section 0 links place more

pub section_word_law : SectionWordLaw
section_word_law entry filled section made low =
    ap (λ (m : Option ℕ). slice_get (section_words m (links_of filled) ++ snapped entry.request entry.ring entry.reply) (length filled)) made
    ∙ word_at section 0 (links_of filled) (length filled) (snapped entry.request entry.ring entry.reply) low
    ∙ ap (λ (n : ℕ). Some (fill section n (link_word n))) (same (length filled))
  where
    same : (n : ℕ) → 0 + n ≡ n
    same n = omega arith

-- the last write where a link was snapped
pointer_at : (request : Request) (ring : ℕ) (given : Reply) (links place segno word to at : ℕ) (fresh : Bool) (linkage : Option ℕ)
    → request ≡ Link segno word → given ≡ reply.Linked to at fresh linkage → place ≡ words_in linkage links
    → slice_get (section_words (section_in given) links ++ snapped request ring given) place
    ≡ Some (fill segno word (pointer_word (record { ring = ring; segno = to; word = at; further = false })))
pointer_at request ring given links place segno word to at fresh linkage asked is here =
    ap (λ (r : Request). slice_get (section_words (section_in given) links ++ snapped r ring given) place) asked
    ∙ ap (λ (k : Reply). slice_get (section_words (section_in k) links ++ snapped (Link segno word) ring k) place) is
    ∙ ap (slice_get (section_words linkage links ++ snapped (Link segno word) ring (reply.Linked to at fresh linkage)))
    (here ∙ same (words_in linkage links))
    ∙ beyond_section linkage links 0 (snapped (Link segno word) ring (reply.Linked to at fresh linkage))
  where
    same : (n : ℕ) → n ≡ n + 0
    same n = omega arith

pub snapped_law : SnappedLaw
snapped_law entry filled segno word to at fresh linkage asked is here =
    pointer_at entry.request entry.ring entry.reply (links_of filled) (length filled) segno word to at fresh linkage asked is here

-- how many writes there are at most
stored_most : (request : Request) (target : PointerParts) → length (stored_into request target) ≤ 1
stored_most (ask.CreateDir path d1 d2) target = omega arith
stored_most (ask.CreateSeg path words brackets) target = omega arith
stored_most (ask.CreateObject path words brackets map) target = omega arith
stored_most (ask.CreateLink path target') target = omega arith
stored_most (ask.Rename path name) target = omega arith
stored_most (ask.Delete path) target = omega arith
stored_most (ask.SetAcl path id modes) target = omega arith
stored_most (ask.DelAcl path id) target = omega arith
stored_most (ask.SetIacl path kind id modes) target = omega arith
stored_most (ask.DelIacl path kind id) target = omega arith
stored_most (ask.SetClass path class) target = omega arith
stored_most (ask.SetBrackets path brackets) target = omega arith
stored_most (ask.SetDirBrackets path d1 d2) target = omega arith
stored_most (ask.Status path) target = omega arith
stored_most (ask.List path) target = omega arith
stored_most (ask.ChangeWdir path) target = omega arith
stored_most (ask.SetRules rules) target = omega arith
stored_most (ask.Initiate path name) target = omega arith
stored_most (ask.Terminate segno) target = omega arith
stored_most (ask.Wakeup to word) target = omega arith
stored_most ask.Block target = omega arith
stored_most (ask.Link segno word) target = omega arith
stored_most ask.Resume target = omega arith
stored_most ask.Logout target = omega arith

pointers_most : (request : Request) (ring : ℕ) (given : Reply) → length (snapped request ring given) ≤ pointers_in given
pointers_most request ring (reply.Linked segno word fresh linkage) = stored_most request _
pointers_most request ring reply.Done = omega arith
pointers_most request ring (reply.Refused why) = omega arith
pointers_most request ring (reply.Status status) = omega arith
pointers_most request ring (reply.Names names) = omega arith
pointers_most request ring (reply.Segno known) = omega arith
pointers_most request ring reply.Sent = omega arith
pointers_most request ring (reply.Message sender word) = omega arith
pointers_most request ring reply.Nobody = omega arith
pointers_most request ring reply.Waiting = omega arith

words_long : (section first links : ℕ) → length (link_words section first links) ≡ links
words_long section first zero = refl
words_long section first (suc links) = ap suc (words_long section (suc first) links)

section_long : (made : Option ℕ) (links : ℕ) → length (section_words made links) ≡ words_in made links
section_long None links = refl
section_long (Some section) links = words_long section 0 links

pub no_more_law : NoMoreLaw
no_more_law entry filled enough =
    let long = section_long (section_in entry.reply) (links_of filled) in
    let most = pointers_most entry.request entry.ring entry.reply in
    let both : length (section_words (section_in entry.reply) (links_of filled) ++ snapped entry.request entry.ring entry.reply)
    ≡ length (section_words (section_in entry.reply) (links_of filled)) + length (snapped entry.request entry.ring entry.reply) =
    length-append (section_words (section_in entry.reply) (links_of filled)) (snapped entry.request entry.ring entry.reply) in
    slice_get_past _ (length filled) (omega (arith, long, most, both, enough))
