-- Where a line stands after the reply that its link was snapped.
use Rattle.std.proofs.Common.{◌≡◌, ℕ, Bool, false, List, [], ◌∷◌, ◌++◌, length, Option, Some, None, refl, sym, ◌∙◌, ap, subst, arith}
use Rattle.std.specs.List.{slice_get}
use Rattle.mx_ptr.specs.Pointers.{pointer_word}
use Rattle.mx_request.specs.Sections.{section_in}
use Rattle.mx_request.specs.declared.replies.Reply.{Reply}
use Rattle.mx_request.specs.declared.replies.Reply.TheVariants as reply
use Rattle.mx_request.specs.declared.requests.Request.{Request}
use Rattle.mx_request.specs.declared.requests.Request.TheVariants as ask
use Rattle.mx_script.specs.declared.lines.Line.{Line}
use Rattle.mx_script.specs.declared.lines.Line.TheVariants as line
use Rattle.mx_state.specs.declared.journal.Entry as journaled
use Rattle.mx_transcript.specs.Asking.{next, linked, answered, first_due}
use Rattle.mx_transcript.specs.Courses.{Course, Answer, Judged}
use Rattle.mx_transcript.specs.Filling.{fill, section_words, snapped, links_of}
use Rattle.mx_transcript.specs.Next.{Reference, Ends}
use Rattle.mx_transcript.specs.declared.transcripts.Result2.{Result2}
use Rattle.mx_transcript.specs.declared.transcripts.Result2.TheVariants as result
use Rattle.mx_upcall.proofs.ChangeLaws.{kept_all}
use Rattle.mx_upcall.specs.Control.{Control}
use Rattle.mx_line.specs.AtWork.{StandsAt, begun, ended, filling_or}
use Rattle.mx_line.specs.Operands.{IsMemoryLine}
use Rattle.mx_line.specs.Fills.{IsFilling, Follows, first_fill}
use Rattle.mx_line.specs.declared.at_work.LineAtWork.{LineAtWork}
use Rattle.mx_line.specs.declared.at_work.LineAtWork.TheVariants as at
use Rattle.mx_line.specs.declared.fills.Behind.{Behind}
use Rattle.mx_line.specs.declared.fills.Behind.TheVariants as behinds
use Rattle.mx_line.specs.declared.fills.Fill.TheVariants.{Words, Pointer}
use Rattle.mx_line.specs.declared.fills.Snap.{Snap}

-- no write is due where the reply tells of nothing
nothing_due : (g : Control) (l : Line) (entry : journaled.Entry) → section_in entry.reply ≡ None
    → snapped entry.request entry.ring entry.reply ≡ [] → next g l (Answer entry []) ≡ answered g l entry.request entry.reply
nothing_due g l entry none nothing =
    ap (λ (d : Option Reference). first_due d (answered g l entry.request entry.reply))
    (ap (λ (section : Option ℕ). slice_get (section_words section 1 ++ snapped entry.request entry.ring entry.reply) 0) none
    ∙ ap (λ (rest : List Reference). slice_get rest 0) nothing)

-- a line ends, its registers and gates as they were
pub ends_so : (g : Control) (l : Line) (course : Course) (ends : Result2) → next g l course ≡ Ends ends g → StandsAt g l course (ended ends g)
ends_so g l course ends e = e ∙ ap (Ends ends) (kept_all g g.registers refl)

-- the writes that a reply asks for come first
nothing_yet : (j : Judged) (later : List Judged) → [] ≡ j ∷ later → ⊥
nothing_yet j later e = cc

begun_words : (g : Control) (l : Line) (entry : journaled.Entry) (n : ℕ) (after : Behind) → section_in entry.reply ≡ Some n
    → Follows g l entry after → IsFilling g l entry [] (Words (record { section = n; words = 1; next = 0; behind = after }))
begun_words g l entry n after told follows = (
  record { section = told; count = refl; below = omega arith; links = λ j later e. absurd (nothing_yet j later e) },
  follows,
)

begun_pointer : (g : Control) (l : Line) (entry : journaled.Entry) (snap : Snap) → section_in entry.reply ≡ None
    → Follows g l entry (behinds.Pointer snap) → IsFilling g l entry [] (Pointer snap)
begun_pointer g l entry snap none follows =
    (λ later. ap (λ (section : Option ℕ). length (section_words section (links_of later))) none, follows)

-- where the line stands if nothing is stored
abbrev IsLeft : Control → Behind → LineAtWork → Type 0
IsLeft g (behinds.Pointer snap) after = Unit {0}
IsLeft g behinds.Done after = after ≡ ended result.Done g
IsLeft g behinds.Nowhere after = after ≡ at.Nowhere

fills_stand : (g : Control) (l : Line) (entry : journaled.Entry) (section : Option ℕ) (last : Behind) (after : LineAtWork)
    → section_in entry.reply ≡ section → Follows g l entry last → IsLeft g last after
    → StandsAt g l (Answer entry []) (filling_or after (first_fill (begun section) last))
fills_stand g l entry (Some n) last after told follows left = begun_words g l entry n last told follows
fills_stand g l entry None (behinds.Pointer snap) after told follows left = begun_pointer g l entry snap told follows
fills_stand g l entry None behinds.Done after told follows left =
    subst (StandsAt g l (Answer entry [])) (sym left)
    (ends_so g l (Answer entry []) result.Done (nothing_due g l entry told follows.0 ∙ follows.1))
fills_stand g l entry None behinds.Nowhere after told follows left =
    subst (StandsAt g l (Answer entry [])) (sym left) (nothing_due g l entry told follows.0 ∙ follows.1)

-- the reply to the call by which a line has a link snapped
pub memory_answers : (g : Control) (l : Line) (request : Request) (given : Reply) → IsMemoryLine l
    → answered g l request given ≡ linked g l given
memory_answers g (line.Ask own) request given is = absurd is
memory_answers g (line.Set word) request given is = absurd is
memory_answers g (line.Epp n o) request given is = refl
memory_answers g (line.Lda o) request given is = refl
memory_answers g (line.Sta o) request given is = refl
memory_answers g (line.Spri n o) request given is = refl
memory_answers g line.Fetch request given is = refl
memory_answers g (line.Call o) request given is = refl
memory_answers g (line.Return o) request given is = refl

-- the pointer that is stored where the link is
abbrev pub snap_to : ℕ → ℕ → ℕ → ℕ → ℕ → Snap
snap_to segno word ring to place = record {
  segno = segno;
  word = word;
  value = pointer_word (record { ring = ring; segno = to; word = place; further = false });
}

pub link_snaps : (g : Control) (l : Line) (entry : journaled.Entry) (segno word ring to place : ℕ) (fresh : Bool) (linkage : Option ℕ)
    → IsMemoryLine l → entry.ring ≡ ring → entry.request ≡ ask.Link segno word → entry.reply ≡ reply.Linked to place fresh linkage
    → StandsAt g l (Answer entry [])
    (filling_or at.Nowhere (first_fill (begun linkage) (behinds.Pointer (snap_to segno word ring to place))))
link_snaps g l entry segno word ring to place fresh linkage memory at_ring is said =
    fills_stand g l entry linkage (behinds.Pointer (snap_to segno word ring to place)) at.Nowhere (ap section_in said) (
      ap (λ (r : Request). snapped r entry.ring entry.reply) is ∙ ap (snapped (ask.Link segno word) entry.ring) said
          ∙ ap (λ n. fill segno word (pointer_word (record { ring = n; segno = to; word = place; further = false })) ∷ []) at_ring,
      λ request own. subst IsMemoryLine own memory,
      memory_answers g l entry.request entry.reply memory ∙ ap (linked g l) said,
    ) tt
