-- A line that ended with a reference ended with its own, or with an indirect word that led nowhere.
use Rattle.std.proofs.Common.{◌≡◌, ℕ, List, [], ◌∷◌, ◌++◌, refl, Option, Some, None}
use Rattle.mx_sdw.specs.Descriptors.{Descriptor}
use Rattle.mx_sdw.specs.declared.denials.Denial.{Denial}
use Rattle.mx_ptr.specs.Pointers.{PointerParts, parts_of}
use Rattle.mx_effring.specs.Chains as chains
use Rattle.mx_effring.specs.Chains.{read_on}
use Rattle.mx_effring.specs.Walks.{wanted, refuses}
use Rattle.mx_effring.specs.declared.walks.Stuck.{Stuck}
use Rattle.mx_effring.specs.declared.walks.Stuck.TheVariants as stuck
use Rattle.mx_effring.specs.declared.walks.Want.{Want}
use Rattle.mx_effring.specs.declared.walks.Want.TheVariants.{Word, Done}
use Rattle.mx_upcall.specs.Control.{Control}
use Rattle.mx_core.specs.declared.elements.Outcome.{Outcome}
use Rattle.mx_core.specs.declared.elements.Outcome.TheVariants as outcome
use Rattle.mx_script.specs.declared.lines.Line.{Line}
use Rattle.mx_script.specs.declared.lines.Line.TheVariants.{Ask, Set, Epp, Lda, Sta, Spri, Fetch, Call, Return}
use Rattle.mx_transcript.specs.declared.transcripts.Result2.{Result2}
use Rattle.mx_transcript.specs.declared.transcripts.Result2.TheVariants as result
use Rattle.mx_transcript.specs.Asking.{attempts}
use Rattle.mx_transcript.specs.Attempts.{wants, taken, after_word, after_seen, along, attempting}
use Rattle.mx_transcript.specs.Courses.{Judged}
use Rattle.mx_transcript.specs.Elements.{IsJudged}
use Rattle.mx_transcript.specs.Next.{Next, Reference, Asks, Ends}
use Rattle.mx_transcript.specs.Operands.{walk_of}
use Rattle.mx_transcript.specs.Rings.{IsSoundControl}
use Rattle.mx_transcript.specs.Targets.{after_target}
use Rattle.mx_transcript.proofs.Ends.{denied_ends, same_end, high_target, wants_ends, walk_current}
use Rattle.mx_transcript.proofs.Moving.{IsMoved, IsFallSeen, stays, after_own}

-- after the line's own reference nothing is asked for
target_final : (g : Control) (line : Line) (target : PointerParts) (d : Descriptor) (came : Outcome) (r : Reference)
    → after_target g line target d came ≡ Asks r → ⊥
target_final g line target d (outcome.Denied denial) r e = cc
target_final g (Lda o) target d (outcome.Read value writer stamp) r e = cc
target_final g Fetch target d (outcome.Read value writer stamp) r e = cc
target_final g (Sta o) target d (outcome.Written value) r e = cc
target_final g (Spri n o) target d (outcome.Written value) r e = cc
target_final g (Call o) target d (outcome.Entered ring) r e = cc
target_final g (Return o) target d (outcome.Entered ring) r e = cc
target_final _ _ _ _ _ _ e = cc

denied_end : (g : Control) (denial : Denial) (ends : Result2) (now : Control) (fall : Type 0) → IsSoundControl g
    → Ends (result.Denied denial) g ≡ Ends ends now → IsMoved g ends now fall
denied_end g denial ends now fall sound e =
    stays g ends now fall sound (same_end g g now (result.Denied denial) ends (denied_ends g denial) e)

-- an indirect word that ends the line, or leads to what ends it
word_end : (g : Control) (line : Line) (walk : chains.Operand) (segno word ring value r1 : ℕ) (why : Option Stuck)
    (ends : Result2) (now : Control) (fall : Type 0) → IsSoundControl g → walk.current ≡ g.registers.ring
    → taken g segno word ring why (wants g line (wanted (read_on walk (parts_of value) r1))) ≡ Ends ends now
    → IsMoved g ends now fall
word_end g line walk segno word ring value r1 None ends now fall sound current e =
    stays g ends now fall sound
    (wants_ends g line (read_on walk (parts_of value) r1) (wanted (read_on walk (parts_of value) r1)) ends now current refl e)
word_end g line walk segno word ring value r1 (Some stuck.Link) ends now fall sound current e = absurd cc
word_end g line walk segno word ring value r1 (Some stuck.NotPointer) ends now fall sound current e =
    denied_end g _ ends now fall sound e
word_end g line walk segno word ring value r1 (Some stuck.Limit) ends now fall sound current e =
    denied_end g _ ends now fall sound e

-- where nothing was asked for beyond the last element
abbrev onward : Control → Line → chains.Operand → ℕ → ℕ → Next
onward g line walk r1 value = wants g line (wanted (read_on walk (parts_of value) r1))

word_came : (g : Control) (line : Line) (walk : chains.Operand) (segno word ring r1 : ℕ) (came : Outcome)
    (ends : Result2) (now : Control) (fall : Type 0) → IsSoundControl g → walk.current ≡ g.registers.ring
    → after_word g walk segno word ring came (onward g line walk r1) ≡ Ends ends now → IsMoved g ends now fall
word_came g line walk segno word ring r1 (outcome.Read value writer stamp) ends now fall sound current e =
    word_end g line walk segno word ring value r1 (refuses walk value) ends now fall sound current e
word_came g line walk segno word ring r1 (outcome.Denied denial) ends now fall sound current e =
    denied_end g denial ends now fall sound e
word_came g line walk segno word ring r1 (outcome.Written value) ends now fall sound current e = absurd cc
word_came g line walk segno word ring r1 (outcome.Entered entered) ends now fall sound current e = absurd cc

last_seen : (g : Control) (line : Line) (walk : chains.Operand) (w : Want) (j : Judged) (r : Reference)
    (ends : Result2) (now : Control) → IsSoundControl g → walk.current ≡ g.registers.ring → wanted walk ≡ w → wants g line w ≡ Asks r
    → IsJudged r j.desc j.element
    → after_seen g line walk j w (onward g line walk j.desc.brackets.r1) ≡ Ends ends now
    → IsMoved g ends now (IsFallSeen g j now)
last_seen g line walk (Done target) j r ends now sound current is asks right e =
    after_own g line target j r j.element.outcome ends now sound (high_target g.registers walk target current is).0 asks right
    refl e
last_seen g line walk (Word segno word ring) j r ends now sound current is asks right e =
    word_came g line walk segno word ring j.desc.brackets.r1 j.element.outcome ends now _ sound current e

-- what a further reference makes of a line whose first words are these
abbrev Further : Control → Line → List Judged → Judged → Reference → Result2 → Control → Type 0
Further g line seen j r ends now = (walk : chains.Operand) → walk.current ≡ g.registers.ring → along g line walk seen ≡ Asks r
    → along g line walk (seen ++ j ∷ []) ≡ Ends ends now → IsMoved g ends now (IsFallSeen g j now)

through_word : (g : Control) (line : Line) (walk : chains.Operand) (segno word ring value r1 : ℕ)
    (why : Option Stuck) (seen : List Judged) (j : Judged) (r : Reference) (ends : Result2) (now : Control)
    → walk.current ≡ g.registers.ring → Further g line seen j r ends now
    → taken g segno word ring why (along g line (read_on walk (parts_of value) r1) seen) ≡ Asks r
    → taken g segno word ring why (along g line (read_on walk (parts_of value) r1) (seen ++ j ∷ [])) ≡ Ends ends now
    → IsMoved g ends now (IsFallSeen g j now)
through_word g line walk segno word ring value r1 None seen j r ends now current rest asks e =
    rest (read_on walk (parts_of value) r1) current asks e
through_word g line walk segno word ring value r1 (Some stuck.Link) seen j r ends now current rest asks e = absurd cc
through_word g line walk segno word ring value r1 (Some stuck.NotPointer) seen j r ends now current rest asks e =
    absurd cc
through_word g line walk segno word ring value r1 (Some stuck.Limit) seen j r ends now current rest asks e = absurd cc

through : (g : Control) (line : Line) (walk : chains.Operand) (w : Want) (k : Judged) (d : Descriptor) (came : Outcome)
    (seen : List Judged) (j : Judged) (r : Reference) (ends : Result2) (now : Control) → walk.current ≡ g.registers.ring
    → Further g line seen j r ends now
    → after_seen g line walk (record { element = record k.element { outcome = came }; desc = d }) w
    (λ value. along g line (read_on walk (parts_of value) d.brackets.r1) seen) ≡ Asks r
    → after_seen g line walk (record { element = record k.element { outcome = came }; desc = d }) w
    (λ value. along g line (read_on walk (parts_of value) d.brackets.r1) (seen ++ j ∷ [])) ≡ Ends ends now
    → IsMoved g ends now (IsFallSeen g j now)
through g line walk (Done target) k d came seen j r ends now current rest asks e =
    absurd (target_final g line target d came r asks)
through g line walk (Word segno word ring) k d (outcome.Read value writer stamp) seen j r ends now current rest asks e =
    through_word g line walk segno word ring value d.brackets.r1 (refuses walk value) seen j r ends now current rest asks
    e
through g line walk (Word segno word ring) k d (outcome.Denied denial) seen j r ends now current rest asks e = absurd cc
through g line walk (Word segno word ring) k d (outcome.Written value) seen j r ends now current rest asks e = absurd cc
through g line walk (Word segno word ring) k d (outcome.Entered entered) seen j r ends now current rest asks e =
    absurd cc

-- one reference more ended the line
one_more : (g : Control) (line : Line) (seen : List Judged) (j : Judged) (r : Reference) (ends : Result2)
    (now : Control) → IsSoundControl g → IsJudged r j.desc j.element → Further g line seen j r ends now
one_more g line [] j r ends now sound right walk current asks e =
    last_seen g line walk (wanted walk) j r ends now sound current refl asks right e
one_more g line (k ∷ seen) j r ends now sound right walk current asks e =
    through g line walk (wanted walk) k k.desc k.element.outcome seen j r ends now current
    (one_more g line seen j r ends now sound right) asks e

-- an attempt that saw one reference more
more_end : (g : Control) (line : Line) (start : Option chains.Operand) (seen : List Judged) (j : Judged)
    (r : Reference) (ends : Result2) (now : Control) → IsSoundControl g → IsJudged r j.desc j.element
    → walk_of g.registers line ≡ start → attempting g line seen start ≡ Asks r
    → attempting g line (seen ++ j ∷ []) start ≡ Ends ends now → IsMoved g ends now (IsFallSeen g j now)
more_end g line None seen j r ends now sound right is asks e = absurd cc
more_end g line (Some walk) seen j r ends now sound right is asks e =
    one_more g line seen j r ends now sound right walk (walk_current g.registers line walk is) asks e

pub seen_end : (g : Control) (line : Line) (seen : List Judged) (j : Judged) (r : Reference) (ends : Result2)
    (now : Control) → IsSoundControl g → IsJudged r j.desc j.element → attempts g line seen ≡ Asks r
    → attempts g line (seen ++ j ∷ []) ≡ Ends ends now → IsMoved g ends now (IsFallSeen g j now)
seen_end g (Ask request) seen j r ends now sound right asks e = absurd cc
seen_end g (Set word) seen j r ends now sound right asks e = absurd cc
seen_end g (Epp n o) seen j r ends now sound right asks e =
    more_end g (Epp n o) (walk_of g.registers (Epp n o)) seen j r ends now sound right refl asks e
seen_end g (Lda o) seen j r ends now sound right asks e =
    more_end g (Lda o) (walk_of g.registers (Lda o)) seen j r ends now sound right refl asks e
seen_end g (Sta o) seen j r ends now sound right asks e =
    more_end g (Sta o) (walk_of g.registers (Sta o)) seen j r ends now sound right refl asks e
seen_end g (Spri n o) seen j r ends now sound right asks e =
    more_end g (Spri n o) (walk_of g.registers (Spri n o)) seen j r ends now sound right refl asks e
seen_end g Fetch seen j r ends now sound right asks e =
    more_end g Fetch (walk_of g.registers Fetch) seen j r ends now sound right refl asks e
seen_end g (Call o) seen j r ends now sound right asks e =
    more_end g (Call o) (walk_of g.registers (Call o)) seen j r ends now sound right refl asks e
seen_end g (Return o) seen j r ends now sound right asks e =
    more_end g (Return o) (walk_of g.registers (Return o)) seen j r ends now sound right refl asks e
