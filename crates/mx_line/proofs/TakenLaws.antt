-- An event that answers leads to where the line stands after it.
use Rattle.std.proofs.Common.{◌≡◌, inl, inr, ℕ, ◌<◌, ◌≤◌, ◌==◌, Bool, true, false, if◌then◌else◌, List, [], ◌∷◌, ◌++◌, length, Option, Some, None, Result, Ok, Err, refl, sym, ◌∙◌, ap, subst, IfSome, arith}
use Rattle.std.proofs.lemmas.Bool.{eqb-true}
use Rattle.std.specs.List.{slice_get}
use Rattle.std.specs.Option.{option_map}
use Rattle.mx_core.specs.declared.elements.Element.{Element}
use Rattle.mx_core.specs.declared.elements.Event.TheVariants.{Seen}
use Rattle.mx_core.specs.declared.elements.Outcome.{Outcome}
use Rattle.mx_core.specs.declared.elements.Outcome.TheVariants as outcome
use Rattle.mx_effring.specs.Chains as chains
use Rattle.mx_effring.specs.Walks.{Reached, reached, wanted_at}
use Rattle.mx_ptr.specs.Pointers.{PointerParts, link_word, pointer_word}
use Rattle.mx_request.specs.declared.replies.Reply.{Reply}
use Rattle.mx_request.specs.declared.requests.Request.{Request}
use Rattle.mx_request.specs.declared.requests.Request.TheVariants.{Block, Link, Resume}
use Rattle.mx_script.specs.Sessions.{is_script_line}
use Rattle.mx_script.specs.declared.lines.Line.{Line}
use Rattle.mx_script.specs.declared.lines.Line.TheVariants as line
use Rattle.mx_sdw.proofs.JudgingLaws.{granted_is_allowed}
use Rattle.mx_sdw.specs.Descriptors.{Descriptor}
use Rattle.mx_sdw.specs.Judging.{judgement, ring_after}
use Rattle.mx_sdw.specs.declared.denials.Denial.{Denial}
use Rattle.mx_sdw.specs.declared.descriptors.Cell.{Cell}
use Rattle.mx_sdw.specs.declared.operations.Op.{Op}
use Rattle.mx_sdw.specs.declared.operations.Op.TheVariants as op
use Rattle.mx_state.specs.declared.journal.Entry as journaled
use Rattle.mx_transcript.proofs.Outcomes as outcomes
use Rattle.mx_transcript.proofs.WalkLaws.{walk_begun_law}
use Rattle.mx_transcript.specs.Asking.{next, attempts}
use Rattle.mx_transcript.specs.Attempts.{wants}
use Rattle.mx_transcript.specs.Courses.{Course, Attempt, Answer, Judged, seen_in}
use Rattle.mx_transcript.specs.Elements.{IsJudged, Agrees, Gives}
use Rattle.mx_transcript.specs.Events.{IsEvent}
use Rattle.mx_transcript.specs.Filling.{fill}
use Rattle.mx_transcript.specs.Next.{Next, Reference, Asks, Fills, Calls, Ends, Nowhere, at_place, storing}
use Rattle.mx_transcript.specs.Targets.{at_target, spri_at}
use Rattle.mx_transcript.specs.Operands.{walk_of}
use Rattle.mx_transcript.specs.Settings.{Setting, entry_at, judged}
use Rattle.mx_transcript.specs.declared.transcripts.Event2.TheVariants.{Core, Entry}
use Rattle.mx_transcript.specs.declared.transcripts.Result2.{Result2}
use Rattle.mx_transcript.specs.declared.transcripts.Result2.TheVariants as result
use Rattle.mx_upcall.proofs.ChangeLaws.{kept_all}
use Rattle.mx_upcall.specs.Control.{Control, calling, returning}
use Rattle.mx_line.proofs.FillLaws.{Bounds, IsAfter, after_write}
use Rattle.mx_line.proofs.StandingLaws.{walk_asks, no_walk_asks, wants_calls, memory_calls, begun_fills, refers, memory_attempts, before_asks, walking_asks, link_calls, link_refers, waiting_calls, waiting_blocks, filling_asks}
use Rattle.mx_line.specs.AtWork.{IsCome, StandsAt, IsTaken, IsWithin, IsOver, IsReader, IsWriter, IsMover, IsMet, HasSeen, IsUnlinked, EndsByReply, OneCourseLaw, after_writing, beside, left, standing}
use Rattle.mx_line.specs.Fills.{IsFilling, after_fill, counted, write_of}
use Rattle.mx_line.specs.Operands.{HasComeTo, IsMemoryLine, IsOnward, IsSayable, IsWalker}
use Rattle.mx_line.specs.declared.at_work.LineAtWork.{LineAtWork}
use Rattle.mx_line.specs.declared.at_work.LineAtWork.TheVariants as at
use Rattle.mx_line.specs.declared.fills.Fill.{Fill}
use Rattle.mx_line.specs.declared.fills.Fill.TheVariants.{Words, Pointer}
use Rattle.mx_line.specs.declared.fills.Filled.{Filled}
use Rattle.mx_line.specs.declared.fills.Filled.TheVariants as filled_to
use Rattle.mx_line.specs.declared.operands.Onward.{Onward}
use Rattle.mx_line.specs.declared.operands.Onward.TheVariants.{More, End}
use Rattle.mx_line.specs.declared.operands.Place.{Place}
use Rattle.mx_line.specs.declared.operands.Progress.{Progress}
use Rattle.mx_line.specs.declared.operands.Progress.TheVariants.{Before, Walking, AtLink, Waiting, Filling}

-- an event that answers leaves one course
pub one_course : OneCourseLaw
one_course setting asks before event after other is is' = outcomes.one_course setting asks before event other after is' is

-- what a line asks for is one thing
asks_fills : (asks : Next) (a b : Reference) → asks ≡ Asks a → asks ≡ Fills b → ⊥
asks_fills asks a b e f = cc

calls_fills : (asks : Next) (ring : ℕ) (request : Request) (a : Reference) → asks ≡ Calls ring request → asks ≡ Fills a → ⊥
calls_fills asks ring request a e f = cc

-- a line that refers to memory may walk
pub walker : (l : Line) (progress : Progress) → IsMemoryLine l → IsWalker l progress
walker l Before memory = tt
walker l (Walking walk) memory = memory
walker l (AtLink place) memory = memory
walker l Waiting memory = tt
walker l (Filling it) memory = tt

-- an attempt that has seen this stands there
seen_stands : (g : Control) (l : Line) (seen : List Judged) (after : LineAtWork) → IsMemoryLine l → HasSeen g l seen after
    → StandsAt g l (Attempt seen) after
seen_stands g l seen (at.At progress) memory has = (has, walker l progress memory)
seen_stands g l seen (at.Ended end) memory has = memory_attempts g l seen memory ∙ has
seen_stands g l seen at.Nowhere memory has = memory_attempts g l seen memory ∙ has

-- the reference that a walk asks for
abbrev pub Leads : Control → Line → Reached → Element → Descriptor → LineAtWork → Type 0
Leads g l walk e d after = (seen : List Judged) (asked : Reference) → HasComeTo g l seen walk
    → wants g l (wanted_at walk) ≡ Asks asked → IsJudged asked d e → HasSeen g l (seen ++ beside e d ∷ []) after

led_stands : (g : Control) (l : Line) (walk : Reached) (e : Element) (d : Descriptor) (after : LineAtWork)
    (setting : Setting) (course later : Course) (asked : Reference) → Leads g l walk e d after → setting.descriptor e ≡ d
    → IsMemoryLine l → HasComeTo g l (seen_in course) walk → wants g l (wanted_at walk) ≡ Asks asked → IsJudged asked (setting.descriptor e) e
    → later ≡ Attempt (seen_in course ++ judged setting e ∷ []) → StandsAt g l later after
led_stands g l walk e d after setting course later asked leads on memory walked wants_it right is =
    subst (λ (c : Course). StandsAt g l c after) (sym is)
    (subst (λ (f : Descriptor). StandsAt g l (Attempt (seen_in course ++ beside e f ∷ [])) after) (sym on)
    (seen_stands g l (seen_in course ++ beside e d ∷ []) after memory
    (leads (seen_in course) asked walked wants_it (subst (λ (f : Descriptor). IsJudged asked f e) on right))))

pub walking_taken : (g : Control) (l : Line) (walk : Reached) (e : Element) (d : Descriptor) (after : LineAtWork)
    → Leads g l walk e d after → (setting : Setting) → setting.descriptor e ≡ d
    → IsTaken g l setting (Core (Seen e)) (at.At (Walking walk)) after
walking_taken g l walk e d after leads setting on (Answer entry filled) later come is = absurd come
walking_taken g l walk e d after leads setting on (Attempt seen) later come is = elim is [
  | inl r ↦ led_stands g l walk e d after setting (Attempt seen) later r.asked leads on come.1 come.0
      (sym (walking_asks g l (Attempt seen) walk come) ∙ r.next) r.right r.leads
  | inr f ↦ absurd (no_answer seen f.entry f.filled f.since)
]
  where
    no_answer : (seen : List Judged) (entry : journaled.Entry) (filled : List Judged) → Attempt seen ≡ Answer entry filled → ⊥
    no_answer seen entry filled e = cc

-- where a line begins its attempt has seen nothing
none_seen : (g : Control) (l : Line) (course : Course) → IsCome g l course Before → seen_in course ≡ []
none_seen g l (Attempt seen) come = come.0
none_seen g l (Answer entry filled) come = refl

-- the operand of a line that begins here
pub record HasBegun (g : Control) (l : Line) (walk : Reached) : Type 0 where
  pub operand : chains.Operand
  pub has : walk_of g.registers l ≡ Some operand
  pub is : reached operand ≡ walk

pub begun_at : (g : Control) (l : Line) (walk : Reached) → option_map reached (walk_of g.registers l) ≡ Some walk → HasBegun g l walk
begun_at g l walk e = by_operand (walk_of g.registers l) refl e
  where
    one : (a b : Reached) → Some a ≡ Some b → a ≡ b
    one a b e = cc

    by_operand : (operand : Option chains.Operand) → walk_of g.registers l ≡ operand → option_map reached operand ≡ Some walk → HasBegun g l walk
    by_operand None has e = absurd cc
    by_operand (Some operand) has e = record { operand = operand; has = has; is = one (reached operand) walk e }

pub begun_asks : (g : Control) (l : Line) (walk : Reached) → HasBegun g l walk → attempts g l [] ≡ wants g l (wanted_at walk)
begun_asks g l walk b = walk_asks g l b.operand b.has ∙ ap (λ (at : Reached). wants g l (wanted_at at)) b.is

begun_come : (g : Control) (l : Line) (walk : Reached) → HasBegun g l walk → HasComeTo g l [] walk
begun_come g l walk b = record { operand = b.operand; is = b.is; walked = walk_begun_law g l b.operand b.has }

pub begun_taken : (g : Control) (l : Line) (walk : Reached) (e : Element) (d : Descriptor) (after : LineAtWork)
    → option_map reached (walk_of g.registers l) ≡ Some walk → Leads g l walk e d after → (setting : Setting) → setting.descriptor e ≡ d
    → IsTaken g l setting (Core (Seen e)) (at.At Before) after
begun_taken g l walk e d after has leads setting on course later come is = elim is [
  | inl r ↦
      let begun = sym (before_asks g l course come) ∙ r.next in
      let b = begun_at g l walk has in
      led_stands g l walk e d after setting course later r.asked leads on (refers g l [] r.asked begun)
      (subst (λ (seen : List Judged). HasComeTo g l seen walk) (sym (none_seen g l course come)) (begun_come g l walk b))
      (sym (begun_asks g l walk b) ∙ begun) r.right r.leads
  | inr f ↦ absurd (begun_fills g l f.asked (sym (before_asks g l course come) ∙ f.next))
]

-- a write that is granted lies within its section
granted_some : (d : Descriptor) (word : ℕ) (r : Reference) (entered value : ℕ) (ruled : Result Cell Denial) (came : Outcome)
    → judgement d op.Write 0 word ≡ ruled → Agrees r entered ruled came → came ≡ outcome.Written value → word < d.bound
granted_some d word r entered value (Ok cell) came is agrees written = (granted_is_allowed d op.Write 0 word cell is).bound
granted_some d word r entered value (Err denial) came is agrees written = absurd (apart denial (sym agrees ∙ written))
  where
    apart : (denial : Denial) → outcome.Denied denial ≡ outcome.Written value → ⊥
    apart denial e = cc

write_within : (segno word value stored : ℕ) (d : Descriptor) (e : Element) → IsJudged (fill segno word value) d e
    → e.outcome ≡ outcome.Written stored → word < d.bound
write_within segno word value stored d e right written =
    granted_some d word (fill segno word value) (ring_after d op.Write 0) stored (judgement d op.Write 0 word) e.outcome refl right.outcome written

-- with its first word a section has as many as its bound
not_begun : (j : Judged) (later : List Judged) → length (j ∷ later) ≡ 0 → ⊥
not_begun j later e = omega (arith, e)

record IsCounted (g : Control) (l : Line) (entry : journaled.Entry) (filled : List Judged) (it : Fill) (j : Judged) : Type 0 where
  pub filling : IsFilling g l entry filled it
  pub bounds : Bounds it j

counted_so : (g : Control) (l : Line) (entry : journaled.Entry) (filled : List Judged) (it : Fill) (e : Element) (d : Descriptor) (value : ℕ)
    → IsFilling g l entry filled it → IsJudged (write_of it) d e → e.outcome ≡ outcome.Written value
    → IsCounted g l entry filled (counted it d.bound) (beside e d)
counted_so g l entry filled (Pointer snap) e d value is right written = record { filling = is; bounds = tt }
counted_so g l entry filled (Words words) e d value is right written = by_test (words.next == 0) refl
  where
    apart : false ≡ true → ⊥
    apart e = cc

    by_test : (test : Bool) → (words.next == 0) ≡ test
        → IsCounted g l entry filled (if test then Words (record words { words = d.bound }) else Words words) (beside e d)
    by_test true first =
        let zero : words.next ≡ 0 = eqb-true words.next 0 first in
        let within = write_within words.section words.next (link_word words.next) value d e right written in
        record {
          filling = (
            record {
              section = is.0.section;
              count = is.0.count;
              below = within;
              links = λ j later begun. absurd (not_begun j later (ap length (sym begun) ∙ is.0.count ∙ zero));
            },
            is.1,
          );
          bounds = λ at. refl;
        }
    by_test false later =
        record { filling = is; bounds = λ zero. absurd (apart (sym later ∙ ap (λ n. n == 0) zero)) }

-- where a line stands after a write
writing_stands : (g : Control) (l : Line) (entry : journaled.Entry) (filled : List Judged) (after : Filled)
    → IsAfter g l entry filled after → StandsAt g l (Answer entry filled) (after_writing g after)
writing_stands g l entry filled (filled_to.More it) is = is
writing_stands g l entry filled filled_to.Anew is = is
writing_stands g l entry filled filled_to.Done is = is ∙ ap (Ends result.Done) (kept_all g g.registers refl)
writing_stands g l entry filled filled_to.Nowhere is = is

pub filling_taken : (g : Control) (l : Line) (it : Fill) (e : Element) (d : Descriptor) (after : LineAtWork)
    → ((value : ℕ) → e.outcome ≡ outcome.Written value → after ≡ after_writing g (after_fill (counted it d.bound)))
    → (setting : Setting) → setting.descriptor e ≡ d → IsTaken g l setting (Core (Seen e)) (at.At (Filling it)) after
filling_taken g l it e d after made setting on (Attempt seen) later come is = absurd come.0
filling_taken g l it e d after made setting on (Answer entry filled) later come is = elim is [
  | inl r ↦ absurd (asks_fills _ r.asked (write_of it) r.next (filling_asks g l (Answer entry filled) it come))
  | inr f ↦
      let asked : f.asked ≡ write_of it = one f.asked (write_of it) (sym f.next ∙ filling_asks g l (Answer entry filled) it come) in
      let right : IsJudged (write_of it) d e
      = subst (λ (r : Reference). IsJudged r d e) asked (subst (λ (x : Descriptor). IsJudged f.asked x e) on f.right) in
      let c = counted_so g l entry filled it e d f.value come right f.granted in
      let stands = writing_stands g l entry (filled ++ beside e d ∷ []) (after_fill (counted it d.bound))
      (after_write g l entry filled (counted it d.bound) (beside e d) c.filling c.bounds) in
      let leads : later ≡ Answer entry (filled ++ beside e (setting.descriptor e) ∷ [])
      = f.leads ∙ sym (same entry f.entry filled f.filled (beside e (setting.descriptor e)) f.since) in
      subst (λ (c : Course). StandsAt g l c after) (sym leads)
      (subst (λ (x : Descriptor). StandsAt g l (Answer entry (filled ++ beside e x ∷ [])) after) (sym on)
      (subst (StandsAt g l (Answer entry (filled ++ beside e d ∷ []))) (sym (made f.value f.granted)) stands))
]
  where
    one : (a b : Reference) → Fills a ≡ Fills b → a ≡ b
    one a b e = cc

    same : (a b : journaled.Entry) (xs ys : List Judged) (j : Judged) → Answer a xs ≡ Answer b ys
        → Answer a (xs ++ j ∷ []) ≡ Answer b (ys ++ j ∷ [])
    same a b xs ys j e = cc

-- the call that was entered, with its reply
record IsEntered (g : Control) (l : Line) (course : Course) (given : Reply) (later : Course) : Type 0 where
  pub entry : journaled.Entry
  pub calls : next g l course ≡ Calls entry.ring entry.request
  pub reply_is : entry.reply ≡ given
  pub leads : later ≡ Answer entry []

entered : (g : Control) (l : Line) (setting : Setting) (number : ℕ) (entry : journaled.Entry) (given : Reply) (course later : Course)
    → entry_at setting.journal number ≡ Some entry → entry.reply ≡ given → IsEvent setting (next g l course) course (Entry number) later
    → IsEntered g l course given later
entered g l setting number entry given course later there said is = record {
  entry = is.entry;
  calls = is.next;
  reply_is = ap (λ (k : journaled.Entry). k.reply) (one is.entry entry (sym is.there ∙ there)) ∙ said;
  leads = is.leads;
}
  where
    one : (a b : journaled.Entry) → Some a ≡ Some b → a ≡ b
    one a b e = cc

same_calls : (a b : ℕ) (x y : Request) → Calls a x ≡ Calls b y → (a ≡ b) × (x ≡ y)
same_calls a b x y e = (cc, cc)

-- the reply to a line's own request
own_asked : (g : Control) (l : Line) (ring : ℕ) (request : Request) → attempts g l [] ≡ Calls ring request → l ≡ line.Ask request
own_asked g (line.Ask own) ring request e = ap line.Ask (same_calls g.registers.ring ring own request e).1
own_asked g (line.Set word) ring request e = absurd cc
own_asked g (line.Epp n o) ring request e = absurd (memory_calls g (line.Epp n o) ring request tt e)
own_asked g (line.Lda o) ring request e = absurd (memory_calls g (line.Lda o) ring request tt e)
own_asked g (line.Sta o) ring request e = absurd (memory_calls g (line.Sta o) ring request tt e)
own_asked g (line.Spri n o) ring request e = absurd (memory_calls g (line.Spri n o) ring request tt e)
own_asked g line.Fetch ring request e = absurd (memory_calls g line.Fetch ring request tt e)
own_asked g (line.Call o) ring request e = absurd (memory_calls g (line.Call o) ring request tt e)
own_asked g (line.Return o) ring request e = absurd (memory_calls g (line.Return o) ring request tt e)

pub asked_taken : (g : Control) (l : Line) (given : Reply) (after : LineAtWork)
    → ((request : Request) (entry : journaled.Entry) → l ≡ line.Ask request → entry.request ≡ request → entry.reply ≡ given
    → StandsAt g l (Answer entry []) after)
    → (setting : Setting) (number : ℕ) (entry : journaled.Entry) → entry_at setting.journal number ≡ Some entry → entry.reply ≡ given
    → IsTaken g l setting (Entry number) (at.At Before) after
asked_taken g l given after stands setting number entry there said course later come is =
    let e = entered g l setting number entry given course later there said is in
    let own = own_asked g l e.entry.ring e.entry.request (sym (before_asks g l course come) ∙ e.calls) in
    subst (λ (c : Course). StandsAt g l c after) (sym e.leads) (stands e.entry.request e.entry own refl e.reply_is)

-- the reply to the call by which a link is snapped
pub linked_taken : (g : Control) (l : Line) (place : Place) (given : Reply) (after : LineAtWork)
    → ((l : Line) (entry : journaled.Entry) → IsMemoryLine l → entry.ring ≡ place.ring → entry.request ≡ Link place.segno place.word
    → entry.reply ≡ given → StandsAt g l (Answer entry []) after)
    → (setting : Setting) (number : ℕ) (entry : journaled.Entry) → entry_at setting.journal number ≡ Some entry → entry.reply ≡ given
    → IsTaken g l setting (Entry number) (at.At (AtLink place)) after
linked_taken g l place given after stands setting number entry there said course later come is =
    let e = entered g l setting number entry given course later there said is in
    let same = same_calls e.entry.ring place.ring e.entry.request (Link place.segno place.word)
    (sym e.calls ∙ link_calls g l course place come) in
    subst (λ (c : Course). StandsAt g l c after) (sym e.leads)
    (stands l e.entry (link_refers g l course place come) same.0 same.1 e.reply_is)

-- the reply to `resume`
pub resumed_taken : (g : Control) (l : Line) (given : Reply) (after : LineAtWork)
    → ((own : Request) (entry : journaled.Entry) → IsUnlinked Resume → (Resume ≡ Block → own ≡ Block) → entry.request ≡ Resume
    → entry.reply ≡ given → StandsAt g (line.Ask own) (Answer entry []) after)
    → (setting : Setting) (number : ℕ) (entry : journaled.Entry) → entry_at setting.journal number ≡ Some entry → entry.reply ≡ given
    → IsTaken g l setting (Entry number) (at.At Waiting) after
resumed_taken g l given after stands setting number entry there said course later come is =
    let e = entered g l setting number entry given course later there said is in
    let same = same_calls e.entry.ring g.registers.ring e.entry.request Resume (sym e.calls ∙ waiting_calls g l course come) in
    subst (λ (c : Course). StandsAt g l c after) (sym e.leads)
    (subst (λ (k : Line). StandsAt g k (Answer e.entry []) after) (sym (waiting_blocks g l course come))
    (stands Block e.entry (λ segno word h. no_link segno word h) (λ h. refl) same.1 e.reply_is))
  where
    no_link : (segno word : ℕ) → Resume ≡ Link segno word → ⊥
    no_link segno word h = cc

-- where a line calls nobody
pub walking_entered : (g : Control) (l : Line) (walk : Reached) (after : LineAtWork) (setting : Setting) (number : ℕ)
    → IsTaken g l setting (Entry number) (at.At (Walking walk)) after
walking_entered g l walk after setting number course later come is =
    absurd (wants_calls g l (wanted_at walk) is.entry.ring is.entry.request (sym (walking_asks g l course walk come) ∙ is.next))

pub filling_entered : (g : Control) (l : Line) (it : Fill) (after : LineAtWork) (setting : Setting) (number : ℕ)
    → IsTaken g l setting (Entry number) (at.At (Filling it)) after
filling_entered g l it after setting number course later come is =
    absurd (calls_fills _ is.entry.ring is.entry.request (write_of it) is.next (filling_asks g l course it come))

-- what a walk makes of an indirect word
pub onward_seen : (g : Control) (l : Line) (seen : List Judged) (onward : Onward) → IsOnward g l seen onward → HasSeen g l seen (standing onward)
onward_seen g l seen (More progress) is = is
onward_seen g l seen (End ends after) is = is

-- a line that goes on is nearer
pub within_more : (a b : ℕ) (w : LineAtWork) → a ≤ b → IsWithin a w → IsWithin b w
within_more a b (at.At progress) h is = omega (arith, h, is)
within_more a b (at.Ended end) h is = tt
within_more a b at.Nowhere h is = tt

pub over_within : (a : ℕ) (w : LineAtWork) → IsOver w → IsWithin a w
over_within a (at.At progress) is = absurd is
over_within a (at.Ended end) is = tt
over_within a at.Nowhere is = tt

-- no script asks to have a link snapped
pub sayable_unlinked : (request : Request) → IsSayable (line.Ask request) → IsUnlinked request
sayable_unlinked request sayable segno word is =
    never sayable.0 segno word (ap (λ (r : Request). is_script_line sayable.0 (line.Ask r)) (sym is) ∙ sayable.1)
  where
    never : (version segno word : ℕ) → is_script_line version (line.Ask (Link segno word)) ≡ true → ⊥
    never version segno word h = cc

-- What a line's own reference came to tells which line it is.
pub judged_gives : (asked : Reference) (d : Descriptor) (e : Element) (came : Outcome) → IsJudged asked d e → e.outcome ≡ came
    → ((denial : Denial) → came ≡ outcome.Denied denial → ⊥)
    → Gives asked.op asked.stores (ring_after d asked.op asked.ring) came
judged_gives asked d e came right is granted =
    by_ruling (judgement d asked.op asked.ring asked.word)
    (subst (Agrees asked (ring_after d asked.op asked.ring) (judgement d asked.op asked.ring asked.word)) is right.outcome)
  where
    by_ruling : (ruled : Result Cell Denial) → Agrees asked (ring_after d asked.op asked.ring) ruled came
        → Gives asked.op asked.stores (ring_after d asked.op asked.ring) came
    by_ruling (Ok cell) agrees = agrees
    by_ruling (Err denial) agrees = absurd (granted denial agrees)

pub same_asked : (a b : Reference) → Asks a ≡ Asks b → a ≡ b
same_asked a b e = cc

comes_as : (r asked : Reference) (d : Descriptor) (came : Outcome) → Asks r ≡ Asks asked
    → Gives asked.op asked.stores (ring_after d asked.op asked.ring) came → Gives r.op r.stores (ring_after d r.op r.ring) came
comes_as r asked d came e gives =
    subst (λ (x : Reference). Gives x.op x.stores (ring_after d x.op x.ring) came) (sym (same_asked r asked e)) gives

spri_asks : (target : PointerParts) (p : Option PointerParts) (asked : Reference) → spri_at target p ≡ Asks asked → asked.op ≡ op.Write
spri_asks target None asked e = absurd cc
spri_asks target (Some p) asked e = sym (ap (λ (r : Reference). r.op) (same_asked (storing (pointer_word (record p { further = false })) target) asked e))

pub reader : (g : Control) (l : Line) (target : PointerParts) (asked : Reference) (d : Descriptor) (value writer stamp : ℕ)
    → at_target g l target ≡ Asks asked
    → Gives asked.op asked.stores (ring_after d asked.op asked.ring) (outcome.Read value writer stamp) → IsReader l
reader g (line.Ask request) target asked d value writer stamp e gives = absurd cc
reader g (line.Set word) target asked d value writer stamp e gives = absurd cc
reader g (line.Epp n o) target asked d value writer stamp e gives = absurd cc
reader g (line.Lda o) target asked d value writer stamp e gives = tt
reader g line.Fetch target asked d value writer stamp e gives = tt
reader g (line.Sta o) target asked d value writer stamp e gives =
    absurd (comes_as (storing g.registers.a target) asked d (outcome.Read value writer stamp) e gives)
reader g (line.Spri n o) target asked d value writer stamp e gives =
    absurd (subst (λ (o : Op). Gives o asked.stores (ring_after d asked.op asked.ring) (outcome.Read value writer stamp))
    (spri_asks target (slice_get g.registers.pr n) asked e) gives)
reader g (line.Call o) target asked d value writer stamp e gives =
    absurd (comes_as (at_place (calling g target) target) asked d (outcome.Read value writer stamp) e gives)
reader g (line.Return o) target asked d value writer stamp e gives =
    absurd (comes_as (at_place op.Return (returning g target)) asked d (outcome.Read value writer stamp) e gives)

pub writer : (g : Control) (l : Line) (target : PointerParts) (asked : Reference) (d : Descriptor) (value : ℕ)
    → at_target g l target ≡ Asks asked
    → Gives asked.op asked.stores (ring_after d asked.op asked.ring) (outcome.Written value) → IsWriter l
writer g (line.Ask request) target asked d value e gives = absurd cc
writer g (line.Set word) target asked d value e gives = absurd cc
writer g (line.Epp n o) target asked d value e gives = absurd cc
writer g (line.Sta o) target asked d value e gives = tt
writer g (line.Spri n o) target asked d value e gives = tt
writer g (line.Lda o) target asked d value e gives =
    absurd (comes_as (at_place op.Read target) asked d (outcome.Written value) e gives)
writer g line.Fetch target asked d value e gives =
    absurd (comes_as (at_place op.Fetch target) asked d (outcome.Written value) e gives)
writer g (line.Call o) target asked d value e gives =
    absurd (comes_as (at_place (calling g target) target) asked d (outcome.Written value) e gives)
writer g (line.Return o) target asked d value e gives =
    absurd (comes_as (at_place op.Return (returning g target)) asked d (outcome.Written value) e gives)

pub mover : (g : Control) (l : Line) (target : PointerParts) (asked : Reference) (d : Descriptor) (ring : ℕ)
    → at_target g l target ≡ Asks asked
    → Gives asked.op asked.stores (ring_after d asked.op asked.ring) (outcome.Entered ring) → IsMover l
mover g (line.Ask request) target asked d ring e gives = absurd cc
mover g (line.Set word) target asked d ring e gives = absurd cc
mover g (line.Epp n o) target asked d ring e gives = absurd cc
mover g (line.Call o) target asked d ring e gives = tt
mover g (line.Return o) target asked d ring e gives = tt
mover g (line.Lda o) target asked d ring e gives =
    absurd (comes_as (at_place op.Read target) asked d (outcome.Entered ring) e gives)
mover g line.Fetch target asked d ring e gives =
    absurd (comes_as (at_place op.Fetch target) asked d (outcome.Entered ring) e gives)
mover g (line.Sta o) target asked d ring e gives =
    absurd (comes_as (storing g.registers.a target) asked d (outcome.Entered ring) e gives)
mover g (line.Spri n o) target asked d ring e gives =
    absurd (subst (λ (o : Op). Gives o asked.stores (ring_after d asked.op asked.ring) (outcome.Entered ring))
    (spri_asks target (slice_get g.registers.pr n) asked e) gives)

-- an indirect word is read
abbrev pub IsRead : Outcome → Type 0
IsRead (outcome.Read value writer stamp) = Unit {0}
IsRead _ = ⊥

pub word_gives : (place : Place) (d : Descriptor) (came : Outcome) → Gives op.Indirect None (ring_after d op.Indirect place.ring) came → IsRead came
word_gives place d (outcome.Read value writer stamp) gives = tt
word_gives place d (outcome.Written value) gives = absurd gives
word_gives place d (outcome.Entered ring) gives = absurd gives
word_gives place d (outcome.Denied denial) gives = absurd gives

-- what a line asks for whose reference was made, by how far it has come
pub begun_met : (g : Control) (l : Line) (walk : Reached) (e : Element) (d : Descriptor)
    → option_map reached (walk_of g.registers l) ≡ Some walk → (m : IsMet g l (at.At Before) e d) → wants g l (wanted_at walk) ≡ Asks m.asked
begun_met g l walk e d has m = sym (begun_asks g l walk (begun_at g l walk has)) ∙ sym (before_asks g l m.course m.stands) ∙ m.asks

pub unwalked_met : (g : Control) (l : Line) (e : Element) (d : Descriptor) → option_map reached (walk_of g.registers l) ≡ None
    → IsMet g l (at.At Before) e d → ⊥
unwalked_met g l e d none m =
    let begun = sym (before_asks g l m.course m.stands) ∙ m.asks in
    nowhere m.asked (sym (no_walk_asks g l (refers g l [] m.asked begun) (without (walk_of g.registers l) none)) ∙ begun)
  where
    without : (operand : Option chains.Operand) → option_map reached operand ≡ None → operand ≡ None
    without None e = refl
    without (Some operand) e = absurd cc

    nowhere : (r : Reference) → Nowhere ≡ Asks r → ⊥
    nowhere r e = cc

pub walking_met : (g : Control) (l : Line) (walk : Reached) (e : Element) (d : Descriptor)
    → (m : IsMet g l (at.At (Walking walk)) e d) → wants g l (wanted_at walk) ≡ Asks m.asked
walking_met g l walk e d m = sym (walking_asks g l m.course walk m.stands) ∙ m.asks

pub filling_met : (g : Control) (l : Line) (it : Fill) (e : Element) (d : Descriptor) → IsMet g l (at.At (Filling it)) e d → ⊥
filling_met g l it e d m = asks_fills (next g l m.course) m.asked (write_of it) m.asks (filling_asks g l m.course it m.stands)

calls_asks : (asks : Next) (ring : ℕ) (request : Request) (a : Reference) → asks ≡ Calls ring request → asks ≡ Asks a → ⊥
calls_asks asks ring request a e f = cc

pub linking_met : (g : Control) (l : Line) (place : Place) (e : Element) (d : Descriptor) → IsMet g l (at.At (AtLink place)) e d → ⊥
linking_met g l place e d m =
    calls_asks (next g l m.course) place.ring (Link place.segno place.word) m.asked (link_calls g l m.course place m.stands) m.asks

pub waiting_met : (g : Control) (l : Line) (e : Element) (d : Descriptor) → IsMet g l (at.At Waiting) e d → ⊥
waiting_met g l e d m =
    calls_asks (next g l m.course) g.registers.ring Resume m.asked (waiting_calls g l m.course m.stands) m.asks

-- so a line ends by the reply to its own request
pub request_ends : (g : Control) (l : Line) (given : Reply) (found : Option Result2) → IsSayable l → IfSome found (EndsByReply g given)
    → IfSome found (λ ends. (setting : Setting) (number : ℕ) (entry : journaled.Entry)
    → entry_at setting.journal number ≡ Some entry → entry.reply ≡ given
    → IsTaken g l setting (Entry number) (at.At Before) (left g (Some ends)))
request_ends g l given None sayable ends = tt
request_ends g l given (Some result) sayable ends = asked_taken g l given (left g (Some result))
    (λ request entry own is said. subst (λ (m : Line). StandsAt g m (Answer entry []) (left g (Some result))) (sym own)
    (ends request entry (subst IsUnlinked (sym is) (sayable_unlinked request (subst IsSayable own sayable))) said))
