-- What a line asks for, and what it ends with, is within the bounds, where the registers and gates before it are, and what it saw.
use Rattle.std.proofs.Common.{◌≡◌, ℕ, zero, suc, ◌+◌, ◌==◌, ◌<◌, ◌≤◌, ◌^◌, nat_le, nat_lt, Bool, true, false, not, if◌then◌else◌, List, [], ◌∷◌, length, Option, Some, None, IfSome, refl, ap, subst, arith}
use Rattle.std.specs.List.{All, slice_get}
use Rattle.std.proofs.lemmas.Bool.Decides.{nat_tests}
use Rattle.std.proofs.lemmas.List.Elements.{All-nil, All-cons, All-head, All-tail, All-append, All-drop}
use Rattle.mx_sdw.specs.Descriptors.{Descriptor}
use Rattle.mx_ptr.specs.Pointers.{PointerParts, IsPackable, parts_of, pointer_word, link_word}
use Rattle.mx_effring.specs.Chains as chains
use Rattle.mx_effring.specs.Chains.{read_on}
use Rattle.mx_effring.specs.Walks.{wanted, refuses}
use Rattle.mx_effring.specs.declared.walks.Stuck.{Stuck}
use Rattle.mx_effring.specs.declared.walks.Stuck.TheVariants as stuck
use Rattle.mx_effring.specs.declared.walks.Want.{Want}
use Rattle.mx_effring.specs.declared.walks.Want.TheVariants.{Word, Done}
use Rattle.mx_call.specs.Loading.{loaded}
use Rattle.mx_call.specs.Transfers.{called}
use Rattle.mx_call.proofs.RegisterLaws.{loaded_stays_packable}
use Rattle.mx_upcall.specs.Control.{Control, with_registers, after_call, returning_through, after_return_through, way_down}
use Rattle.mx_upcall.specs.Gates.{ReturnGate, pushed, popped}
use Rattle.mx_upcall.specs.Soundness.{IsPackableControl, IsPackableGate}
use Rattle.mx_upcall.specs.Upcalls.{gate_left, upcalled}
use Rattle.mx_upcall.proofs.ChangeLaws.{call_packable, return_packable}
use Rattle.mx_upcall.proofs.ControlLaws.{top_way}
use Rattle.mx_core.specs.declared.elements.Outcome.{Outcome}
use Rattle.mx_core.specs.declared.elements.Outcome.TheVariants as outcome
use Rattle.mx_request.proofs.FieldLaws.{at_most, at_most_test}
use Rattle.mx_request.proofs.StepLaws.{both, both_hold}
use Rattle.mx_request.specs.RequestTexts.{fits_request, is_segno, is_word_address, is_word}
use Rattle.mx_request.specs.Sections.{section_in}
use Rattle.mx_request.specs.declared.replies.Reply.{Reply}
use Rattle.mx_request.specs.declared.replies.Reply.TheVariants as reply
use Rattle.mx_request.specs.declared.requests.Request.{Request}
use Rattle.mx_request.specs.declared.requests.Request.TheVariants.{Block, Link}
use Rattle.mx_script.specs.SessionTexts.{fits_line}
use Rattle.mx_script.specs.Sessions.{is_register, is_address}
use Rattle.mx_script.specs.declared.lines.Line.{Line}
use Rattle.mx_script.specs.declared.lines.Line.TheVariants.{Ask, Set, Epp, Lda, Sta, Spri, Fetch, Call, Return}
use Rattle.mx_sdw.specs.declared.operations.Op.TheVariants as op
use Rattle.mx_state.specs.declared.journal.Entry as journaled
use Rattle.mx_transcript.specs.Asking.{next, replied, awaits, attempts, linked, answered, first_due}
use Rattle.mx_transcript.specs.Attempts.{wants, taken, after_word, after_seen, along, attempting}
use Rattle.mx_transcript.specs.Courses.{Course, Attempt, Answer, Judged}
use Rattle.mx_transcript.specs.Filling.{due, fill, link_words, links_of, section_words, snapped, stored_into, writes_for}
use Rattle.mx_transcript.specs.Next.{Next, Reference, Asks, Fills, Calls, Ends, Nowhere, at_place}
use Rattle.mx_transcript.specs.Operands.{walk_of}
use Rattle.mx_transcript.specs.Targets.{at_target, after_target, moved, spri_at}
use Rattle.mx_spelling.specs.Spelling.{bounds_reply, fits_pointer, fits_result, is_none_or}
use Rattle.mx_spelling.proofs.WalkBounds.{at_place as item_at, pointer_small, link_small, IsGoodWalk, IsGoodWant, wanted_good, read_good, operand_good, fetch_good}

-- the first bracket of a descriptor is a ring, and it bounds no more words than a segment can have
pub record IsLow (d : Descriptor) : Type 0 where
  pub ring : d.brackets.r1 ≤ 7
  pub bound : d.bound ≤ 16384

-- tests
pub is_word_test : (value : ℕ) → value < 2 ^ 36 → is_word value ≡ true
is_word_test value h = grind (arith, nat_tests)

pub address_test : (segno word : ℕ) → segno ≤ 4095 → word ≤ 16383 → is_word_address segno word ≡ true
address_test segno word s w = both_hold _ _ (at_most_test segno 4095 s) (at_most_test word 16383 w)

word_below : (word : ℕ) → nat_lt word (2 ^ 36) ≡ true → word < 2 ^ 36
word_below word e = grind (arith, nat_tests)

-- a pointer to where a process goes on, in this ring
abbrev pub IsHere : ℕ → PointerParts → Type 0
IsHere ring p = (p.ring ≡ ring) × (p.further ≡ false)

abbrev pub IsWay : ReturnGate → Type 0
IsWay gate = IsHere gate.lower gate.procedure

-- registers and return gates within the bounds
pub record IsGood (c : Control) : Type 0 where
  pub packable : IsPackableControl c
  pub word : c.registers.a < 2 ^ 36
  pub here : IsHere c.registers.ring c.registers.procedure
  pub ways : All IsWay c.gates.gates

pub record IsWithin (r : Reference) : Type 0 where
  pub ring : r.ring ≤ 7
  pub segno : r.segno ≤ 4095
  pub word : r.word ≤ 16383
  pub stores : IfSome r.stores (λ value. value < 2 ^ 36)

-- what is asked for
abbrev pub IsFine : Next → Type 0
IsFine (Asks r) = IsWithin r
IsFine (Fills r) = IsWithin r
IsFine (Calls ring request) = (ring ≤ 7) × (fits_request request ≡ true)
IsFine (Ends ends after) = (fits_result ends ≡ true) × IsGood after
IsFine Nowhere = Unit {0}

-- what was seen
abbrev pub IsLowOutcome : Outcome → Type 0
IsLowOutcome (outcome.Read value writer stamp) = value < 2 ^ 36
IsLowOutcome (outcome.Written value) = value < 2 ^ 36
IsLowOutcome (outcome.Entered ring) = ring ≤ 7
IsLowOutcome (outcome.Denied denial) = Unit {0}

pub record IsSeen (j : Judged) : Type 0 where
  pub came : IsLowOutcome j.element.outcome
  pub low : IsLow j.desc

-- an entry within the bounds
pub record IsGoodEntry (entry : journaled.Entry) : Type 0 where
  pub ring : entry.ring ≤ 7
  pub request : fits_request entry.request ≡ true
  pub reply : bounds_reply entry.reply ≡ true

abbrev pub IsGoodCourse : Course → Type 0
IsGoodCourse (Attempt seen) = All IsSeen seen
IsGoodCourse (Answer entry filled) = IsGoodEntry entry × All IsSeen filled

-- registers after a line
with_pr : (g : Control) (n : ℕ) (target : PointerParts) → IsGood g → IsPackable target → IsGood (with_registers g (loaded g.registers n target))
with_pr g n target is at = record {
  packable = record { registers = loaded_stays_packable g.registers n target is.packable.registers at; gates = is.packable.gates };
  word = is.word;
  here = is.here;
  ways = is.ways;
}

with_a : (g : Control) (value : ℕ) → IsGood g → value < 2 ^ 36 → IsGood (with_registers g (record g.registers { a = value }))
with_a g value is small = record {
  packable = record {
    registers = record {
      ring = is.packable.registers.ring;
      procedure = is.packable.registers.procedure;
      pr = is.packable.registers.pr;
    };
    gates = is.packable.gates;
  };
  word = small;
  here = is.here;
  ways = is.ways;
}

call_good : (g : Control) (target : PointerParts) (d : Descriptor) → IsGood g → IsPackable target → IsLow d → IsGood (after_call g target d)
call_good g target d is at low = by_test (nat_lt target.ring d.brackets.r1) (call_packable g target d is.packable at low.ring)
  where
    by_test : (below : Bool) → IsPackableControl (if below
        then record { registers = upcalled g.registers target d; gates = pushed g.gates (gate_left g.registers d) }
        else with_registers g (called g.registers target d)) → IsGood (if below
        then record { registers = upcalled g.registers target d; gates = pushed g.gates (gate_left g.registers d) }
        else with_registers g (called g.registers target d))
    by_test true p = record {
      packable = p;
      word = is.word;
      here = (refl, refl);
      ways = All-cons IsWay (gate_left g.registers d) g.gates.gates is.here is.ways;
    }
    by_test false p = record { packable = p; word = is.word; here = (refl, refl); ways = is.ways }

return_good : (g : Control) (target : PointerParts) (way : Option ReturnGate) → way_down g target ≡ way → IsGood g
    → IsPackableControl (after_return_through way g target) → IsGood (after_return_through way g target)
return_good g target None e is p = record { packable = p; word = is.word; here = (refl, refl); ways = is.ways }
return_good g target (Some gate) e is p = record {
  packable = p;
  word = is.word;
  here = All-head IsWay gate (popped g.gates).gates (subst (λ (gates : List ReturnGate). All IsWay gates) (top_way g target gate e) is.ways);
  ways = All-drop IsWay 1 g.gates.gates is.ways;
}

-- the line's own reference
spri_fine : (target : PointerParts) (p : Option PointerParts) → IsPackable target → IfSome p IsPackable → IsFine (spri_at target p)
spri_fine target None at is = tt
spri_fine target (Some p) at is = record { ring = at.ring; segno = at.segno; word = at.word; stores = pointer_small p is }

return_fine : (g : Control) (target : PointerParts) (way : Option ReturnGate) → way_down g target ≡ way → IsGood g → IsPackable target
    → IsFine (Asks (at_place op.Return (returning_through way target)))
return_fine g target None e is at = record { ring = at.ring; segno = at.segno; word = at.word; stores = tt }
return_fine g target (Some gate) e is at =
    let top : IsPackableGate gate = All-head IsPackableGate gate (popped g.gates).gates
    (subst (λ (gates : List ReturnGate). All IsPackableGate gates) (top_way g target gate e) is.packable.gates) in
    record { ring = top.ring; segno = at.segno; word = at.word; stores = tt }

register_at : (g : Control) (n : ℕ) (p : Option PointerParts) → IsGood g → slice_get g.registers.pr n ≡ p → IfSome p IsPackable
register_at g n None is e = tt
register_at g n (Some p) is e = item_at IsPackable g.registers.pr n p is.packable.registers.pr e

pointer_fits : (p : PointerParts) → IsPackable p → p.further ≡ false → fits_pointer p ≡ true
pointer_fits p is plain =
    both_hold _ _ (at_most_test p.ring 7 is.ring)
    (both_hold _ _ (address_test p.segno p.word is.segno is.word) (ap not plain))

target_fine : (g : Control) (line : Line) (target : PointerParts) → IsGood g → fits_line line ≡ true → IsPackable target → target.further ≡ false
    → IsFine (at_target g line target)
target_fine g (Ask request) target is fits at plain = tt
target_fine g (Set word) target is fits at plain = tt
target_fine g (Epp n o) target is fits at plain =
    (both_hold _ _ (both (is_register n) (is_address o) fits).0 (pointer_fits target at plain), with_pr g n target is at)
target_fine g (Lda o) target is fits at plain = record { ring = at.ring; segno = at.segno; word = at.word; stores = tt }
target_fine g (Sta o) target is fits at plain = record { ring = at.ring; segno = at.segno; word = at.word; stores = is.word }
target_fine g (Spri n o) target is fits at plain = spri_fine target (slice_get g.registers.pr n) at (register_at g n (slice_get g.registers.pr n) is refl)
target_fine g Fetch target is fits at plain = record { ring = at.ring; segno = at.segno; word = at.word; stores = tt }
target_fine g (Call o) target is fits at plain = record { ring = at.ring; segno = at.segno; word = at.word; stores = tt }
target_fine g (Return o) target is fits at plain = return_fine g target (way_down g target) refl is at

moved_fine : (after : Control) → IsGood after → IsFine (moved after)
moved_fine after is = (
  both_hold _ _ (same_test after.registers.procedure.ring after.registers.ring is.here.0)
      (pointer_fits after.registers.procedure is.packable.registers.procedure is.here.1),
  is,
)
  where
    same_test : (a b : ℕ) → a ≡ b → a == b ≡ true
    same_test a b e = grind (arith, nat_tests)

after_fine : (g : Control) (line : Line) (target : PointerParts) (d : Descriptor) (came : Outcome) → IsGood g → IsPackable target → IsLow d
    → IsLowOutcome came → IsFine (after_target g line target d came)
after_fine g line target d (outcome.Denied denial) is at low small = (refl, is)
after_fine g (Lda o) target d (outcome.Read value writer stamp) is at low small = (is_word_test value small, with_a g value is small)
after_fine g (Sta o) target d (outcome.Written value) is at low small = (refl, is)
after_fine g (Spri n o) target d (outcome.Written value) is at low small = (refl, is)
after_fine g Fetch target d (outcome.Read value writer stamp) is at low small = (refl, is)
after_fine g (Call o) target d (outcome.Entered ring) is at low small = moved_fine (after_call g target d) (call_good g target d is at low)
after_fine g (Return o) target d (outcome.Entered ring) is at low small =
    moved_fine (after_return_through (way_down g target) g target)
    (return_good g target (way_down g target) refl is (return_packable g target is.packable at))
after_fine _ _ _ _ _ is at low small = tt

-- the words of its operand
wants_fine : (g : Control) (line : Line) (w : Want) → IsGood g → fits_line line ≡ true → IsGoodWant w → IsFine (wants g line w)
wants_fine g line (Word segno word ring) is fits at = record { ring = at.2; segno = at.0; word = at.1; stores = tt }
wants_fine g line (Done target) is fits at = target_fine g line target is fits at.0 at.1

taken_fine : (g : Control) (segno word ring : ℕ) (why : Option Stuck) (onward : Next) → IsGood g → segno ≤ 4095 → word ≤ 16383 → ring ≤ 7
    → IsFine onward → IsFine (taken g segno word ring why onward)
taken_fine g segno word ring None onward is s w r on = on
taken_fine g segno word ring (Some stuck.Link) onward is s w r on = (r, address_test segno word s w)
taken_fine g segno word ring (Some stuck.NotPointer) onward is s w r on = (refl, is)
taken_fine g segno word ring (Some stuck.Limit) onward is s w r on = (refl, is)

word_fine : (g : Control) (walk : chains.Operand) (segno word ring : ℕ) (came : Outcome) (onward : ℕ → Next) → IsGood g
    → segno ≤ 4095 → word ≤ 16383 → ring ≤ 7 → IsLowOutcome came → ((value : ℕ) → value < 2 ^ 36 → IsFine (onward value))
    → IsFine (after_word g walk segno word ring came onward)
word_fine g walk segno word ring (outcome.Read value writer stamp) onward is s w r small on =
    taken_fine g segno word ring (refuses walk value) (onward value) is s w r (on value small)
word_fine g walk segno word ring (outcome.Denied denial) onward is s w r small on = (refl, is)
word_fine g walk segno word ring (outcome.Written value) onward is s w r small on = tt
word_fine g walk segno word ring (outcome.Entered entered) onward is s w r small on = tt

seen_fine : (g : Control) (line : Line) (walk : chains.Operand) (j : Judged) (w : Want) (onward : ℕ → Next) → IsGood g → IsGoodWant w
    → IsSeen j → ((value : ℕ) → value < 2 ^ 36 → IsFine (onward value)) → IsFine (after_seen g line walk j w onward)
seen_fine g line walk j (Word segno word ring) onward is at seen on =
    word_fine g walk segno word ring j.element.outcome onward is at.0 at.1 at.2 seen.came on
seen_fine g line walk j (Done target) onward is at seen on = after_fine g line target j.desc j.element.outcome is at.0 seen.low seen.came

along_fine : (g : Control) (line : Line) (walk : chains.Operand) (seen : List Judged) → IsGood g → fits_line line ≡ true → IsGoodWalk walk
    → All IsSeen seen → IsFine (along g line walk seen)
along_fine g line walk [] is fits at all = wants_fine g line (wanted walk) is fits (wanted_good walk at)
along_fine g line walk (j ∷ seen) is fits at all =
    let here : IsSeen j = All-head IsSeen j seen all in
    seen_fine g line walk j (wanted walk) (λ value. along g line (read_on walk (parts_of value) j.desc.brackets.r1) seen) is
    (wanted_good walk at) here
    (λ value small. along_fine g line (read_on walk (parts_of value) j.desc.brackets.r1) seen is fits
    (read_good walk value j.desc.brackets.r1 at small here.low.ring) (All-tail IsSeen j seen all))

attempting_fine : (g : Control) (line : Line) (seen : List Judged) (walk : Option chains.Operand) → IsGood g → fits_line line ≡ true
    → IfSome walk IsGoodWalk → All IsSeen seen → IsFine (attempting g line seen walk)
attempting_fine g line seen None is fits at all = tt
attempting_fine g line seen (Some walk) is fits at all = along_fine g line walk seen is fits at all

attempts_fine : (g : Control) (line : Line) (seen : List Judged) → IsGood g → fits_line line ≡ true → All IsSeen seen → IsFine (attempts g line seen)
attempts_fine g (Ask request) seen is fits all = (is.packable.registers.ring, fits)
attempts_fine g (Set word) seen is fits all = (refl, with_a g word is (word_below word fits))
attempts_fine g (Epp n o) seen is fits all =
    attempting_fine g (Epp n o) seen (walk_of g.registers (Epp n o)) is fits
    (operand_good g.registers o is.packable.registers (both (is_register n) (is_address o) fits).1) all
attempts_fine g (Lda o) seen is fits all =
    attempting_fine g (Lda o) seen (walk_of g.registers (Lda o)) is fits (operand_good g.registers o is.packable.registers fits) all
attempts_fine g (Sta o) seen is fits all =
    attempting_fine g (Sta o) seen (walk_of g.registers (Sta o)) is fits (operand_good g.registers o is.packable.registers fits) all
attempts_fine g (Spri n o) seen is fits all =
    attempting_fine g (Spri n o) seen (walk_of g.registers (Spri n o)) is fits
    (operand_good g.registers o is.packable.registers (both (is_register n) (is_address o) fits).1) all
attempts_fine g Fetch seen is fits all =
    attempting_fine g Fetch seen (walk_of g.registers Fetch) is fits (fetch_good g.registers is.packable.registers) all
attempts_fine g (Call o) seen is fits all =
    attempting_fine g (Call o) seen (walk_of g.registers (Call o)) is fits (operand_good g.registers o is.packable.registers fits) all
attempts_fine g (Return o) seen is fits all =
    attempting_fine g (Return o) seen (walk_of g.registers (Return o)) is fits (operand_good g.registers o is.packable.registers fits) all

-- after a call
awaits_fine : (g : Control) (request : Request) → IsGood g → IsFine (awaits g request)
awaits_fine g Block is = (is.packable.registers.ring, refl)
awaits_fine g _ is = tt

replied_fine : (g : Control) (request : Request) (given : Reply) → IsGood g → IsFine (replied g request given)
replied_fine g request reply.Waiting is = awaits_fine g request is
replied_fine g request (reply.Linked segno word fresh linkage) is = tt
replied_fine g request (reply.Refused why) is = (refl, is)
replied_fine g request reply.Done is = (refl, is)
replied_fine g request (reply.Status status) is = (refl, is)
replied_fine g request (reply.Names names) is = (refl, is)
replied_fine g request (reply.Segno known) is = (refl, is)
replied_fine g request reply.Sent is = (refl, is)
replied_fine g request (reply.Message sender word) is = (refl, is)
replied_fine g request reply.Nobody is = (refl, is)

linked_fine : (g : Control) (line : Line) (given : Reply) → IsGood g → IsFine (attempts g line []) → IsFine (linked g line given)
linked_fine g line (reply.Refused why) is again = (refl, is)
linked_fine g line (reply.Linked segno word fresh linkage) is again = again
linked_fine g line reply.Done is again = tt
linked_fine g line (reply.Status status) is again = tt
linked_fine g line (reply.Names names) is again = tt
linked_fine g line (reply.Segno known) is again = tt
linked_fine g line reply.Sent is again = tt
linked_fine g line (reply.Message sender word) is again = tt
linked_fine g line reply.Nobody is again = tt
linked_fine g line reply.Waiting is again = tt

answered_fine : (g : Control) (line : Line) (request : Request) (given : Reply) → IsGood g → IsFine (attempts g line [])
    → IsFine (answered g line request given)
answered_fine g (Ask asked) request given is again = replied_fine g request given is
answered_fine g (Set word) request given is again = tt
answered_fine g (Epp n o) request given is again = linked_fine g (Epp n o) given is again
answered_fine g (Lda o) request given is again = linked_fine g (Lda o) given is again
answered_fine g (Sta o) request given is again = linked_fine g (Sta o) given is again
answered_fine g (Spri n o) request given is again = linked_fine g (Spri n o) given is again
answered_fine g Fetch request given is again = linked_fine g Fetch given is again
answered_fine g (Call o) request given is again = linked_fine g (Call o) given is again
answered_fine g (Return o) request given is again = linked_fine g (Return o) given is again

-- the writes that a reply asks for
link_words_within : (section first links : ℕ) → section ≤ 4095 → first + links ≤ 16384 → All IsWithin (link_words section first links)
link_words_within section first zero s h = All-nil IsWithin
link_words_within section first (suc links) s h =
    All-cons IsWithin (fill section first (link_word first)) (link_words section (suc first) links)
    (record { ring = omega arith; segno = s; word = omega arith; stores = link_small first (omega arith) })
    (link_words_within section (suc first) links s (omega arith))

section_within : (section : Option ℕ) (links : ℕ) → is_none_or section is_segno ≡ true → links ≤ 16384 → All IsWithin (section_words section links)
section_within None links e h = All-nil IsWithin
section_within (Some section) links e h = link_words_within section 0 links (at_most section 4095 e) (omega arith)

stored_within : (request : Request) (target : PointerParts) → fits_request request ≡ true → IsPackable target → target.further ≡ false
    → All IsWithin (stored_into request target)
stored_within (Link segno word) target fits at plain =
    let f = both (nat_le segno 4095) (nat_le word 16383) fits in
    let same : record target { further = false } ≡ target = plainly target.further plain in
    All-cons IsWithin (fill segno word (pointer_word target)) []
    (record {
      ring = omega arith;
      segno = at_most segno 4095 f.0;
      word = at_most word 16383 f.1;
      stores = subst (λ (p : PointerParts). pointer_word p < 2 ^ 36) same (pointer_small target at);
    }) (All-nil IsWithin)
  where
    plainly : (further : Bool) → further ≡ false → record target { further = false } ≡ record target { further = further }
    plainly further e = rw e refl
stored_within _ target fits at plain = All-nil IsWithin

snapped_within : (request : Request) (ring : ℕ) (given : Reply) → fits_request request ≡ true → ring ≤ 7 → bounds_reply given ≡ true
    → All IsWithin (snapped request ring given)
snapped_within request ring (reply.Linked segno word fresh linkage) fits low e =
    let f = both (is_word_address segno word) (is_none_or linkage is_segno) e in
    let a = both (nat_le segno 4095) (nat_le word 16383) f.0 in
    stored_within request (record { ring = ring; segno = segno; word = word; further = false }) fits
    (record { ring = low; segno = at_most segno 4095 a.0; word = at_most word 16383 a.1 }) refl
snapped_within request ring reply.Done fits low e = All-nil IsWithin
snapped_within request ring (reply.Refused why) fits low e = All-nil IsWithin
snapped_within request ring (reply.Status status) fits low e = All-nil IsWithin
snapped_within request ring (reply.Names names) fits low e = All-nil IsWithin
snapped_within request ring (reply.Segno known) fits low e = All-nil IsWithin
snapped_within request ring reply.Sent fits low e = All-nil IsWithin
snapped_within request ring (reply.Message sender word) fits low e = All-nil IsWithin
snapped_within request ring reply.Nobody fits low e = All-nil IsWithin
snapped_within request ring reply.Waiting fits low e = All-nil IsWithin

section_low : (given : Reply) → bounds_reply given ≡ true → is_none_or (section_in given) is_segno ≡ true
section_low (reply.Linked segno word fresh linkage) e = (both (is_word_address segno word) (is_none_or linkage is_segno) e).1
section_low (reply.Segno known) e = (both (is_segno known.segno) (is_none_or known.linkage is_segno) e).1
section_low reply.Done e = refl
section_low (reply.Refused why) e = refl
section_low (reply.Status status) e = refl
section_low (reply.Names names) e = refl
section_low reply.Sent e = refl
section_low (reply.Message sender word) e = refl
section_low reply.Nobody e = refl
section_low reply.Waiting e = refl

few_links : (filled : List Judged) → All IsSeen filled → links_of filled ≤ 16384
few_links [] all = omega arith
few_links (j ∷ filled) all = (All-head IsSeen j filled all).low.bound

due_within : (entry : journaled.Entry) (filled : List Judged) (r : Option Reference) → IsGoodEntry entry → All IsSeen filled
    → due entry filled ≡ r → IfSome r IsWithin
due_within entry filled None is all e = tt
due_within entry filled (Some r) is all e =
    item_at IsWithin (writes_for entry (links_of filled)) (length filled) r
    (All-append IsWithin (section_words (section_in entry.reply) (links_of filled)) (snapped entry.request entry.ring entry.reply)
    (section_within (section_in entry.reply) (links_of filled) (section_low entry.reply is.reply) (few_links filled all))
    (snapped_within entry.request entry.ring entry.reply is.request is.ring is.reply)) e

first_fine : (r : Option Reference) (onward : Next) → IfSome r IsWithin → IsFine onward → IsFine (first_due r onward)
first_fine None onward within on = on
first_fine (Some r) onward within on = within

-- so it is of all that a line asks for
pub next_fine : (g : Control) (line : Line) (course : Course) → IsGood g → fits_line line ≡ true → IsGoodCourse course → IsFine (next g line course)
next_fine g line (Attempt seen) is fits course = attempts_fine g line seen is fits course
next_fine g line (Answer entry filled) is fits course =
    first_fine (due entry filled) (answered g line entry.request entry.reply)
    (due_within entry filled (due entry filled) course.0 course.1 refl)
    (answered_fine g line entry.request entry.reply is (attempts_fine g line [] is fits (All-nil IsSeen)))
