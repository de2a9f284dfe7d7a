-- The writes that a reply asks for, one after another: what a line asks for while they are made, and what follows them.
use Rattle.std.proofs.Common.{◌≡◌, ℕ, zero, suc, ◌+◌, ◌-◌, ◌<◌, ◌≤◌, ◌==◌, nat_lt, Bool, true, false, if◌then◌else◌, List, [], ◌∷◌, ◌++◌, length, Option, Some, None, refl, sym, ◌∙◌, ap, subst, arith, append-nil, length-append}
use Rattle.std.proofs.lemmas.Bool.Decides.{nat_tests}
use Rattle.std.specs.List.{slice_get}
use Rattle.mx_upcall.specs.Control.{Control}
use Rattle.mx_transcript.proofs.DueLaws.{section_word_law}
use Rattle.mx_transcript.specs.Asking.{next, answered, first_due, result_of}
use Rattle.mx_transcript.specs.Courses.{Answer, Judged}
use Rattle.mx_transcript.specs.Filling.{fill, link_words, section_words, snapped, writes_for, links_of, due}
use Rattle.mx_transcript.specs.Next.{Reference, Fills, Ends, Nowhere}
use Rattle.mx_transcript.specs.declared.transcripts.Result2.{Result2}
use Rattle.mx_transcript.specs.declared.transcripts.Result2.TheVariants as result
use Rattle.mx_ptr.specs.Pointers.{link_word}
use Rattle.mx_request.specs.Sections.{section_in}
use Rattle.mx_request.specs.declared.replies.Reply.{Reply}
use Rattle.mx_request.specs.declared.replies.Reply.TheVariants as reply
use Rattle.mx_request.specs.declared.requests.Request.{Request}
use Rattle.mx_request.specs.declared.requests.Request.TheVariants as ask
use Rattle.mx_script.specs.declared.lines.Line.{Line}
use Rattle.mx_state.specs.Askers.{Asker, Initializer, Process, Nobody, asker, answered_process}
use Rattle.mx_state.specs.Messages.{logout}
use Rattle.mx_state.specs.Plain.{Plain}
use Rattle.mx_state.specs.Requests.{plain}
use Rattle.mx_state.specs.Table.{descriptor}
use Rattle.mx_state.specs.declared.journal.Entry as journaled
use Rattle.mx_line.specs.Fills.{IsAnsweredBy, snap_writes, write_of, after_words, after_fill, behind_of, first_fill, sized, AsksToFill, Follows, AreStored, AreAll, IsFilling, IsAnew, IsShort, steps_to_fill}
use Rattle.mx_line.specs.declared.fills.Behind.{Behind}
use Rattle.mx_line.specs.declared.fills.Behind.TheVariants as behinds
use Rattle.mx_line.specs.declared.fills.Fill.{Fill}
use Rattle.mx_line.specs.declared.fills.Fill.TheVariants.{Words, Pointer}
use Rattle.mx_line.specs.declared.fills.Filled.{Filled}
use Rattle.mx_line.specs.declared.fills.Filled.TheVariants as filled_to
use Rattle.mx_line.specs.declared.fills.LinkWords.{LinkWords}
use Rattle.mx_line.specs.declared.fills.Snap.{Snap}

-- link words, by their numbers
words_count : (section first links : ℕ) → length (link_words section first links) ≡ links
words_count section first zero = refl
words_count section first (suc links) = ap suc (words_count section (suc first) links)

-- the element behind a list, and none behind that
behind_all : {A : Type 0} (xs : List A) (x : A) → slice_get (xs ++ x ∷ []) (length xs) ≡ Some x
behind_all [] x = refl
behind_all (y ∷ xs) x = behind_all xs x

none_at_end : {A : Type 0} (xs : List A) (i : ℕ) → length xs ≤ i → slice_get xs i ≡ None
none_at_end [] i h = refl
none_at_end (x ∷ xs) zero h = absurd (omega (arith, h))
none_at_end (x ∷ xs) (suc i) h = none_at_end xs i (omega (arith, h))

-- a section that was begun has its words
begun_links : (filled later : List Judged) (words : ℕ) → ((j : Judged) (rest : List Judged) → filled ≡ j ∷ rest → j.desc.bound ≡ words)
    → 1 ≤ length filled → links_of (filled ++ later) ≡ words
begun_links [] later words links some = absurd (omega (arith, some))
begun_links (j ∷ rest) later words links some = links j rest refl

-- and one that is about to be has one at least
more_links : (filled : List Judged) (words next : ℕ) → ((j : Judged) (rest : List Judged) → filled ≡ j ∷ rest → j.desc.bound ≡ words)
    → length filled ≡ next → next < words → length filled < links_of filled
more_links [] words next links count below = omega arith
more_links (j ∷ rest) words next links count below =
    let bound : j.desc.bound ≡ words = links j rest refl in omega (arith, bound, count, below)

-- the next write is due
pub due_fill : (g : Control) (l : Line) (entry : journaled.Entry) (filled : List Judged) (it : Fill) → IsFilling g l entry filled it
    → due entry filled ≡ Some (write_of it)
due_fill g l entry filled (Words words) is =
    let stored = is.0 in
    section_word_law entry filled words.section stored.section
    (more_links filled words.words words.next stored.links stored.count stored.below)
    ∙ ap (λ n. Some (fill words.section n (link_word n))) stored.count
due_fill g l entry filled (Pointer snap) is =
    let all : length (section_words (section_in entry.reply) (links_of filled)) ≡ length filled
    = ap (λ (f : List Judged). length (section_words (section_in entry.reply) (links_of f))) (sym (append-nil filled)) ∙ is.0 [] in
    ap (λ (rest : List Reference). slice_get (section_words (section_in entry.reply) (links_of filled) ++ rest) (length filled)) is.1.0
    ∙ ap (slice_get (section_words (section_in entry.reply) (links_of filled) ++ fill snap.segno snap.word snap.value ∷ [])) (sym all)
    ∙ behind_all (section_words (section_in entry.reply) (links_of filled)) (fill snap.segno snap.word snap.value)

pub asks_fill : (g : Control) (l : Line) (entry : journaled.Entry) (filled : List Judged) (it : Fill) → IsFilling g l entry filled it
    → next g l (Answer entry filled) ≡ Fills (write_of it)
asks_fill g l entry filled it is =
    ap (λ (d : Option Reference). first_due d (answered g l entry.request entry.reply)) (due_fill g l entry filled it is)

-- the bound on which the first link word was stored says how many there are
abbrev pub Bounds : Fill → Judged → Type 0
Bounds (Words words) j = words.next ≡ 0 → j.desc.bound ≡ words.words
Bounds (Pointer snap) j = Unit {0}

more_bounds : (filled : List Judged) (j : Judged) (words : ℕ) → ((i : Judged) (rest : List Judged) → filled ≡ i ∷ rest → i.desc.bound ≡ words)
    → (length filled ≡ 0 → j.desc.bound ≡ words) → (i : Judged) (rest : List Judged) → filled ++ j ∷ [] ≡ i ∷ rest → i.desc.bound ≡ words
more_bounds [] j words links bound i rest e = ap (λ (k : Judged). k.desc.bound) (sym (heads j i [] rest e)) ∙ bound refl
  where
    heads : (a b : Judged) (xs ys : List Judged) → a ∷ xs ≡ b ∷ ys → a ≡ b
    heads a b xs ys e = cc
more_bounds (k ∷ filled) j words links bound i rest e =
    ap (λ (k : Judged). k.desc.bound) (sym (heads k i (filled ++ j ∷ []) rest e)) ∙ links k filled refl
  where
    heads : (a b : Judged) (xs ys : List Judged) → a ∷ xs ≡ b ∷ ys → a ≡ b
    heads a b xs ys e = cc

one_more : (filled : List Judged) (j : Judged) (n : ℕ) → length filled ≡ n → length (filled ++ j ∷ []) ≡ n + 1
one_more filled j n e = length-append filled (j ∷ []) ∙ ap (λ m. m + 1) e

all_stored : (entry : journaled.Entry) (filled : List Judged) (words : LinkWords) (j : Judged) → AreStored entry filled words
    → (words.next ≡ 0 → j.desc.bound ≡ words.words) → words.next + 1 ≡ words.words → AreAll entry (filled ++ j ∷ [])
all_stored entry filled words j stored bound last later =
    let count = one_more filled j words.next stored.count in
    let links : links_of ((filled ++ j ∷ []) ++ later) ≡ words.words
    = begun_links (filled ++ j ∷ []) later words.words (more_bounds filled j words.words stored.links (λ e. bound (sym stored.count ∙ e))) (omega (arith, count)) in
    ap (λ (section : Option ℕ). length (section_words section (links_of ((filled ++ j ∷ []) ++ later)))) stored.section
    ∙ words_count words.section 0 (links_of ((filled ++ j ∷ []) ++ later)) ∙ links ∙ sym last ∙ sym count

-- what the process keeps after a write
abbrev pub IsAfter : Control → Line → journaled.Entry → List Judged → Filled → Type 0
IsAfter g l entry filled (filled_to.More it) = IsFilling g l entry filled it
IsAfter g l entry filled filled_to.Anew = IsAnew g l entry filled
IsAfter g l entry filled filled_to.Done = next g l (Answer entry filled) ≡ Ends result.Done g
IsAfter g l entry filled filled_to.Nowhere = next g l (Answer entry filled) ≡ Nowhere

-- no write is due where all are made
none_due : (entry : journaled.Entry) (filled : List Judged) (rest : List Reference)
    → snapped entry.request entry.ring entry.reply ≡ rest
    → length (section_words (section_in entry.reply) (links_of filled)) + length rest ≤ length filled → due entry filled ≡ None
none_due entry filled rest e h =
    none_at_end (writes_for entry (links_of filled)) (length filled)
    (let count : length (writes_for entry (links_of filled))
    ≡ length (section_words (section_in entry.reply) (links_of filled)) + length (snapped entry.request entry.ring entry.reply)
    = length-append (section_words (section_in entry.reply) (links_of filled)) (snapped entry.request entry.ring entry.reply) in
    let same : length (snapped entry.request entry.ring entry.reply) ≡ length rest = ap length e in
    omega (arith, count, same, h))

all_is : (entry : journaled.Entry) (filled : List Judged) → AreAll entry filled
    → length (section_words (section_in entry.reply) (links_of filled)) ≡ length filled
all_is entry filled all =
    ap (λ (f : List Judged). length (section_words (section_in entry.reply) (links_of f))) (sym (append-nil filled)) ∙ all []

behind_words : (g : Control) (l : Line) (entry : journaled.Entry) (filled : List Judged) (after : Behind) → AreAll entry filled
    → Follows g l entry after → IsAfter g l entry filled (after_words after)
behind_words g l entry filled (behinds.Pointer snap) all follows = (all, follows)
behind_words g l entry filled behinds.Done all follows =
    let full = all_is entry filled all in
    ap (λ (d : Option Reference). first_due d (answered g l entry.request entry.reply))
    (none_due entry filled [] follows.0 (omega (arith, full)))
    ∙ follows.1
behind_words g l entry filled behinds.Nowhere all follows =
    let full = all_is entry filled all in
    ap (λ (d : Option Reference). first_due d (answered g l entry.request entry.reply))
    (none_due entry filled [] follows.0 (omega (arith, full)))
    ∙ follows.1

pub after_write : (g : Control) (l : Line) (entry : journaled.Entry) (filled : List Judged) (it : Fill) (j : Judged)
    → IsFilling g l entry filled it → Bounds it j → IsAfter g l entry (filled ++ j ∷ []) (after_fill it)
after_write g l entry filled (Words words) j is bound = by_test (nat_lt (words.next + 1) words.words) refl
  where
    by_test : (test : Bool) → nat_lt (words.next + 1) words.words ≡ test
        → IsAfter g l entry (filled ++ j ∷ []) (if test then filled_to.More (Words (record words { next = words.next + 1 })) else after_words words.behind)
    by_test true e = (
      record {
        section = is.0.section;
        count = one_more filled j words.next is.0.count;
        below = let h : words.next + 1 < words.words = grind (arith, nat_tests, e) in h;
        links = more_bounds filled j words.words is.0.links (λ e. bound (sym is.0.count ∙ e));
      },
      is.1,
    )
    by_test false e =
        let h : words.words ≤ words.next + 1 = grind (arith, nat_tests, e) in
        behind_words g l entry (filled ++ j ∷ []) words.behind
        (all_stored entry filled words j is.0 bound (let below = is.0.below in omega (arith, h, below))) is.1
after_write g l entry filled (Pointer snap) j is bound = record {
  none =
      let all = is.0 (j ∷ []) in
      let count = length-append filled (j ∷ []) in
      none_due entry (filled ++ j ∷ []) (fill snap.segno snap.word snap.value ∷ []) is.1.0 (omega (arith, all, count));
  other = is.1.1;
  anew = is.1.2;
}

-- it is closer to its end
abbrev pub IsCloserBy : ℕ → Filled → Type 0
IsCloserBy steps (filled_to.More it) = steps_to_fill it < steps
IsCloserBy steps filled_to.Anew = 10 < steps
IsCloserBy steps filled_to.Done = Unit {0}
IsCloserBy steps filled_to.Nowhere = Unit {0}

enough : (words next : ℕ) (first : Bool) → next < words → 11 < (if first then 1036 else words - next + 12)
enough words next true below = omega arith
enough words next false below = omega (arith, below)

more_than_none : (n : ℕ) → (n + 1 == 0) ≡ false
more_than_none n = grind arith

one_less : (words next : ℕ) → next < words → words ≤ 1024
    → (if next + 1 == 0 then 1036 else words - (next + 1) + 12) < (if next == 0 then 1036 else words - next + 12)
one_less words next below most = rw (more_than_none next) (by_first (next == 0))
  where
    by_first : (first : Bool) → words - (next + 1) + 12 < (if first then 1036 else words - next + 12)
    by_first true = omega (arith, below, most)
    by_first false = omega (arith, below, most)

pub closer_after : (it : Fill) → IsShort it → IsCloserBy (steps_to_fill it) (after_fill it)
closer_after (Words words) short = by_test (nat_lt (words.next + 1) words.words) refl
  where
    many : 11 < steps_to_fill (Words words)
    many = let below = short.0 in enough words.words words.next (words.next == 0) below

    by_behind : (after : Behind) → IsCloserBy (steps_to_fill (Words words)) (after_words after)
    by_behind behinds.Done = tt
    by_behind behinds.Nowhere = tt
    by_behind (behinds.Pointer snap) = many

    by_test : (test : Bool) → nat_lt (words.next + 1) words.words ≡ test
        → IsCloserBy (steps_to_fill (Words words)) (if test then filled_to.More (Words (record words { next = words.next + 1 })) else after_words words.behind)
    by_test true e = one_less words.words words.next short.0 short.1
    by_test false e = by_behind words.behind
closer_after (Pointer snap) short = omega arith

abbrev pub IsShortAfter : Filled → Type 0
IsShortAfter (filled_to.More it) = IsShort it
IsShortAfter filled_to.Anew = Unit {0}
IsShortAfter filled_to.Done = Unit {0}
IsShortAfter filled_to.Nowhere = Unit {0}

pub short_after : (it : Fill) → IsShort it → IsShortAfter (after_fill it)
short_after (Words words) short = by_test (nat_lt (words.next + 1) words.words) refl
  where
    by_behind : (after : Behind) → IsShortAfter (after_words after)
    by_behind behinds.Done = tt
    by_behind behinds.Nowhere = tt
    by_behind (behinds.Pointer snap) = tt

    by_test : (test : Bool) → nat_lt (words.next + 1) words.words ≡ test
        → IsShortAfter (if test then filled_to.More (Words (record words { next = words.next + 1 })) else after_words words.behind)
    by_test true e = let h : words.next + 1 < words.words = grind (arith, nat_tests, e) in (h, short.1)
    by_test false e = by_behind words.behind
short_after (Pointer snap) short = tt

-- a reply that asks for nothing tells of no section and of no pointer
pub nothing_asked : (s : Plain) (p ring : ℕ) (request : Request) (given : Reply) → AsksToFill s p ring request given None
    → (section_in given ≡ None) × (snapped request ring given ≡ [])
nothing_asked s p ring request given asks =
    let parts = by_parts (section_in given) asks.snap asks.is in (parts.0, sym asks.writes ∙ parts.1)
  where
    by_parts : (section : Option ℕ) (snap : Option Snap) → None ≡ first_fill (sized s p section) (behind_of snap)
        → (section ≡ None) × (snap_writes snap ≡ [])
    by_parts None None e = (refl, refl)
    by_parts None (Some snap) e = absurd cc
    by_parts (Some n) snap e = absurd cc

-- a line that ends with a reply that tells of a section is done
section_done : (given : Reply) (n : ℕ) → section_in given ≡ Some n → result_of given ≡ result.Done
section_done (reply.Segno known) n e = refl
section_done (reply.Linked segno word fresh linkage) n e = refl
section_done (reply.Refused why) n e = absurd cc
section_done reply.Done n e = refl
section_done (reply.Status status) n e = refl
section_done (reply.Names names) n e = refl
section_done reply.Sent n e = refl
section_done (reply.Message sender word) n e = refl
section_done reply.Nobody n e = refl
section_done reply.Waiting n e = refl

-- what follows the first write
follows_first : (g : Control) (l : Line) (entry : journaled.Entry) (snap : Option Snap)
    → IsAnsweredBy g l entry.ring entry.request entry.reply
    → snap_writes snap ≡ snapped entry.request entry.ring entry.reply → (n : ℕ) → section_in entry.reply ≡ Some n
    → Follows g l entry (behind_of snap)
follows_first g l entry None by writes n section =
    (sym writes, by.ends (sym writes) ∙ ap (λ (r : Result2). Ends r g) (section_done entry.reply n section))
follows_first g l entry (Some snap) by writes n section =
    let anew = by.anew (fill snap.segno snap.word snap.value) (sym writes) in (sym writes, anew.0, anew.1)

-- the first write is due after the entry
pub first_filling : (s : Plain) (p : ℕ) (g : Control) (l : Line) (entry : journaled.Entry) (it : Fill)
    → AsksToFill s p entry.ring entry.request entry.reply (Some it) → IsAnsweredBy g l entry.ring entry.request entry.reply
    → IsShort it → IsFilling g l entry [] it
first_filling s p g l entry it asks by short = by_parts (section_in entry.reply) refl asks.snap asks.writes asks.is
  where
    one : (a b : Fill) → Some a ≡ Some b → a ≡ b
    one a b e = cc

    no_fill : {A : Type 0} → Some it ≡ None → A
    no_fill e = absurd cc

    nothing : (j : Judged) (later : List Judged) → [] ≡ j ∷ later → ⊥
    nothing j later e = cc

    by_parts : (section : Option ℕ) → section_in entry.reply ≡ section → (snap : Option Snap)
        → snap_writes snap ≡ snapped entry.request entry.ring entry.reply → Some it ≡ first_fill (sized s p section) (behind_of snap)
        → IsFilling g l entry [] it
    by_parts None e None writes is = no_fill is
    by_parts None e (Some snap) writes is =
        let anew = by.anew (fill snap.segno snap.word snap.value) (sym writes) in
        subst (IsFilling g l entry []) (sym (one it (Pointer snap) is)) (
          λ later. ap (λ (section : Option ℕ). length (section_words section (links_of later))) e,
          (sym writes, anew.0, anew.1),
        )
    by_parts (Some n) e snap writes is =
        let same : it ≡ Words (record { section = n; words = (descriptor s p n).bound; next = 0; behind = behind_of snap }) = one it _ is in
        subst (IsFilling g l entry []) (sym same) (
          record {
            section = e;
            count = refl;
            below = (subst IsShort same short).0;
            links = λ j later none. absurd (nothing j later none);
          },
          follows_first g l entry snap by writes n e,
        )

-- a `logout` stores nothing
pub asks_nothing : (s : Plain) (p ring : ℕ) (request : Request) (it : Fill) → AsksToFill s p ring request reply.Done (Some it) → ⊥
asks_nothing s p ring request it asks = by_snap asks.snap asks.writes asks.is
  where
    by_snap : (snap : Option Snap) → snap_writes snap ≡ [] → Some it ≡ first_fill None (behind_of snap) → ⊥
    by_snap None writes is = cc
    by_snap (Some snap) writes is = cc

pub logout_done : (s : Plain) (p ring : ℕ) → (plain s p ring ask.Logout).reply ≡ reply.Done
logout_done s p ring = by_asker (asker s.processes p)
  where
    by_asker : (a : Asker) → (answered_process s a (λ process. logout s p)).reply ≡ reply.Done
    by_asker Initializer = refl
    by_asker (Process process) = refl
    by_asker Nobody = refl
