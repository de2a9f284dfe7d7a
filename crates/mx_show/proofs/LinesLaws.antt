-- What is shown of lines and processes, piece by piece.
use Rattle.std.proofs.Common.{ℕ, suc, ◌≡◌, ◌+◌, ◌-◌, ◌<◌, ◌≤◌, Bool, true, false, ◌&&◌, List, [], ◌∷◌, ◌++◌, length, map, drop, get_or, Option, None, Some, refl, ap, sym, ◌∙◌, subst, arith, append_assoc, append-nil, add-one}
use Rattle.std.proofs.lemmas.Grind.{flat_map-append}
use Rattle.std.proofs.lemmas.Option.{get_or_from_slice_get}
use Rattle.std.specs.List.{slice_get}
use Rattle.std.specs.Prelude.{Result, Ok, Err, OnOk, is_ok, if◌then◌else◌}
use Rattle.mx_io.specs.Bytes.{Appends}
use Rattle.mx_transcript.specs.Parts.{AreLinesOf}
use Rattle.mx_transcript.specs.Scripts.{numbered, lines_of, script_at, first_line}
use Rattle.mx_transcript.specs.Transcripts.{Step, part}
use Rattle.mx_name.proofs.CutLaws.{cut_takes}
use Rattle.mx_name.specs.Cuts.{cut_at}
use Rattle.mx_name.specs.Names.{is_free}
use Rattle.mx_request.specs.declared.entrants.Entrant.{Entrant}
use Rattle.mx_request.specs.declared.requests.Request.{Request}
use Rattle.mx_script.specs.Sessions.{Outline}
use Rattle.mx_script.specs.declared.lines.Line.{Line}
use Rattle.mx_script.specs.declared.lines.Line.TheVariants.{Ask, Fetch}
use Rattle.mx_state.specs.declared.journal.Entry as journaled
use Rattle.mx_text.proofs.PrintingLaws.{sent_then, sent_whole}
use Rattle.mx_text.specs.Printing.{IsSent}
use Rattle.mx_show.proofs.PartLaws.{own_ran}
use Rattle.mx_show.specs.Lines.{head_text, told_line, told_text, left_text, are_lines, AreShown, opening_text, heading_text, AreProcessesShown, GainsLines}
use Rattle.mx_show.specs.Printing.{HaveLines, HaveNumbers, IsPartOf, IsToldBehind, IsLineBehind, PrintsLines, PrintsProcesses, IsUpTo, IsThrough, line_of, lines_by}

-- Words, line by line.
one_more : (told : List (List ℕ)) (line : List ℕ) → are_lines told ≡ true → is_free 10 line ≡ true → are_lines (told ++ line ∷ []) ≡ true
one_more [] line all free = rw free refl
one_more (words ∷ told) line all free = by_test (is_free 10 words) all (one_more told line)
  where
    by_test : (b : Bool) → (b && are_lines told) ≡ true → (are_lines told ≡ true → is_free 10 line ≡ true → are_lines (told ++ line ∷ []) ≡ true)
        → (b && are_lines (told ++ line ∷ [])) ≡ true
    by_test true all ih = ih all free
    by_test false all ih = absurd (cc)

pub told_none : (before : List ℕ) → IsToldBehind before before
told_none before = record { told = []; lines = refl; added = sym (append-nil before) }

pub told_more : (before buffer added text : List ℕ) (p : List ℕ × List ℕ) → IsToldBehind before buffer → cut_at 10 text ≡ Some p
    → added ≡ buffer ++ told_line p.0 → IsToldBehind before added
told_more before buffer added text p behind cut is = record {
  told = behind.told ++ p.0 ∷ [];
  lines = one_more behind.told p.0 behind.lines (cut_takes 10 text p cut).1;
  added =
      let all : told_text (behind.told ++ p.0 ∷ []) ≡ told_text behind.told ++ told_line p.0
      = flat_map-append told_line behind.told (p.0 ∷ []) ∙ ap (λ (v : List ℕ). told_text behind.told ++ v) (append-nil (told_line p.0)) in
      is ∙ ap (λ (v : List ℕ). v ++ told_line p.0) behind.added ∙ append_assoc before (told_text behind.told) (told_line p.0)
      ∙ ap (λ (v : List ℕ). before ++ v) (sym all);
}

-- a line, and what is told of it
pub line_behind : (number : ℕ) (line : Line) (before headed added : List ℕ) → headed ≡ before ++ head_text number line → IsToldBehind headed added
    → IsLineBehind number line before added
line_behind number line before headed added head behind = record {
  told = behind.told;
  lines = behind.lines;
  added =
      behind.added ∙ ap (λ (v : List ℕ). v ++ told_text behind.told) head
      ∙ append_assoc before (head_text number line) (told_text behind.told);
}

-- Nothing was sent yet.
appends_none : (a : Option (List ℕ)) → Appends a a []
appends_none None = refl
appends_none (Some bytes) = ap Some (sym (append-nil bytes))

sent_none : (a : Option (List ℕ)) (before : List ℕ) → IsSent a a before (before ++ [])
sent_none a before = record { sent = []; appended = appends_none a; whole = sym (append-nil before) }

-- A piece more was put into the buffer, and some of it was sent.
sent_piece : (a b c : Option (List ℕ)) (before sofar buffer piece added kept : List ℕ) → IsSent a b buffer (before ++ sofar)
    → added ≡ buffer ++ piece → IsSent b c kept added → IsSent a c kept (before ++ (sofar ++ piece))
sent_piece a b c before sofar buffer piece added kept first is send =
    let P : List ℕ → Type 0 = λ v. IsSent b c kept v in
    let Q : List ℕ → Type 0 = λ v. IsSent a c kept v in
    subst Q (append_assoc before sofar piece) (sent_then a b c (before ++ sofar) buffer kept piece first (subst P is send))

-- What stood in the buffer was sent, and then lines were added.
pub sent_first : (first : ℕ) (lines : List (ℕ × Line)) (steps : List Step) (a b c : Option (List ℕ)) (before buffer rest : List ℕ)
    → IsSent a b buffer before → PrintsLines first lines steps b c buffer rest → PrintsLines first lines steps a c before rest
sent_first first lines steps a b c before buffer rest sent prints =
    record { text = prints.text; shown = prints.shown; is_sent = sent_then a b c before buffer rest prints.text sent prints.is_sent }

-- Lines, one after another.
pub begun : (first : ℕ) (all : List (ℕ × Line)) (steps : List Step) (a : Option (List ℕ)) (before : List ℕ)
    → IsUpTo first all steps first all steps a a before before
begun first all steps a before = record { sofar = []; is_sent = sent_none a before; goes = λ rest shown. shown }

-- a line more: which were left out before it, and the line with what is told of it
pub line_next : (first : ℕ) (all : List (ℕ × Line)) (all_steps : List Step) (next : ℕ) (lines after : List (ℕ × Line))
    (line : ℕ × Line) (steps afters : List Step) (step : Step) (a b c : Option (List ℕ))
    (before buffer left added kept : List ℕ)
    → IsUpTo first all all_steps next lines steps a b before buffer → lines ≡ line ∷ after → steps ≡ step ∷ afters
    → left ≡ buffer ++ left_text next (line.0 - next) → IsLineBehind line.0 line.1 left added → IsSent b c kept added
    → IsUpTo first all all_steps (suc line.0) after afters a c before kept
line_next first all all_steps next lines after line steps afters step a b c before buffer left added kept up now_line now_step
    out behind send =
    let out_text : List ℕ = left_text next (line.0 - next) in
    let head : List ℕ = head_text line.0 line.1 in
    let told : List ℕ = told_text behind.told in
    let piece : List ℕ = out_text ++ head ++ told in
    let put : added ≡ buffer ++ piece
    = behind.added ∙ ap (λ (v : List ℕ). v ++ (head ++ told)) out ∙ append_assoc buffer out_text (head ++ told)
    ∙ ap (λ (v : List ℕ). buffer ++ v) (sym (append_assoc out_text head told)) in
    let goes : (rest : List ℕ) → AreShown next (line ∷ after) (step ∷ afters) rest
    → AreShown first all all_steps (up.sofar ++ rest)
    = subst (λ (ls : List (ℕ × Line)). (rest : List ℕ) → AreShown next ls (step ∷ afters) rest
    → AreShown first all all_steps (up.sofar ++ rest)) now_line
    (subst (λ (ss : List Step). (rest : List ℕ) → AreShown next lines ss rest
    → AreShown first all all_steps (up.sofar ++ rest)) now_step up.goes) in
    let P : List ℕ → Type 0 = λ v. AreShown first all all_steps v in
    record {
      sofar = up.sofar ++ piece;
      is_sent = sent_piece a b c before up.sofar buffer piece added kept up.is_sent put send;
      goes = λ rest shown.
          subst P (sym (append_assoc up.sofar piece rest))
          (goes (piece ++ rest)
          (behind.told, rest, behind.lines, refl, shown));
    }

pub lines_done : (first : ℕ) (all : List (ℕ × Line)) (all_steps : List Step) (next : ℕ) (lines : List (ℕ × Line))
    (steps : List Step) (a b : Option (List ℕ)) (before buffer : List ℕ)
    → IsUpTo first all all_steps next lines steps a b before buffer → lines ≡ [] → steps ≡ []
    → PrintsLines first all all_steps a b before buffer
lines_done first all all_steps next lines steps a b before buffer up none none_steps =
    let goes : (rest : List ℕ) → AreShown next [] [] rest → AreShown first all all_steps (up.sofar ++ rest)
    = subst (λ (ls : List (ℕ × Line)). (rest : List ℕ) → AreShown next ls [] rest
    → AreShown first all all_steps (up.sofar ++ rest)) none
    (subst (λ (ss : List Step). (rest : List ℕ) → AreShown next lines ss rest
    → AreShown first all all_steps (up.sofar ++ rest)) none_steps up.goes) in
    let P : List ℕ → Type 0 = λ v. AreShown first all all_steps v in
    record { text = up.sofar; shown = subst P (append-nil up.sofar) (goes [] refl); is_sent = up.is_sent }

-- The lines of the setup: each has the number that comes next.
moved : (first i : ℕ) → suc (first + i) ≡ first + (i + 1)
moved first i = omega arith

add_none : (n : ℕ) → n ≡ n + 0
add_none n = omega arith

no_more_steps : (lines : List (ℕ × Line)) (steps : List Step) → HaveNumbers lines steps → lines ≡ [] → steps ≡ []
no_more_steps [] [] numbers none = refl
no_more_steps [] (step ∷ steps) numbers none = absurd numbers
no_more_steps (line ∷ lines) steps numbers none = cc

pub setup_here : (first i : ℕ) (requests after : List Request) (request : Request) (steps afters : List Step) (step : Step)
    → HaveNumbers (numbered (first + i) (map Ask requests)) steps → requests ≡ request ∷ after
    → steps ≡ step ∷ afters → (step.0 ≡ first + i) × HaveNumbers (numbered (first + (i + 1)) (map Ask after)) afters
setup_here first i requests after request steps afters step numbers now_request now_step =
    let here : (step.0 ≡ first + i) × HaveNumbers (numbered (suc (first + i)) (map Ask after)) afters
    = subst (λ (rs : List Request). HaveNumbers (numbered (first + i) (map Ask rs)) (step ∷ afters)) now_request
    (subst (λ (ss : List Step). HaveNumbers (numbered (first + i) (map Ask requests)) ss) now_step numbers) in
    (here.0, subst (λ (n : ℕ). HaveNumbers (numbered n (map Ask after)) afters) (moved first i) here.1)

pub setup_begun : (x : Outline) (requests : List Request) (steps : List Step) (a : Option (List ℕ)) (before : List ℕ)
    → requests ≡ x.setup → IsUpTo (first_line x 0) (lines_of x 0) steps (first_line x 0 + 0)
    (numbered (first_line x 0 + 0) (map Ask requests)) steps a a before before
setup_begun x requests steps a before are =
    subst (λ (n : ℕ). IsUpTo (first_line x 0) (lines_of x 0) steps n (numbered n (map Ask requests)) steps a a before before)
    (add_none (first_line x 0))
    (subst (λ (rs : List Request). IsUpTo (first_line x 0) (lines_of x 0) steps (first_line x 0)
    (numbered (first_line x 0) (map Ask rs)) steps a a before before) (sym are)
    (begun (first_line x 0) (lines_of x 0) steps a before))

pub setup_numbered : (x : Outline) (requests : List Request) (steps : List Step) → requests ≡ x.setup
    → HaveNumbers (lines_of x 0) steps → HaveNumbers (numbered (first_line x 0 + 0) (map Ask requests)) steps
setup_numbered x requests steps are numbers =
    subst (λ (n : ℕ). HaveNumbers (numbered n (map Ask requests)) steps) (add_none (first_line x 0))
    (subst (λ (rs : List Request). HaveNumbers (numbered (first_line x 0) (map Ask rs)) steps) (sym are) numbers)

pub setup_next : (first i : ℕ) (all : List (ℕ × Line)) (all_steps : List Step) (requests after : List Request)
    (request : Request) (steps afters : List Step) (step : Step) (a b c : Option (List ℕ))
    (before buffer added kept : List ℕ)
    → IsUpTo first all all_steps (first + i) (numbered (first + i) (map Ask requests)) steps a b before buffer
    → HaveNumbers (numbered (first + i) (map Ask requests)) steps → requests ≡ request ∷ after
    → steps ≡ step ∷ afters → IsLineBehind step.0 (Ask request) buffer added → IsSent b c kept added
    → IsUpTo first all all_steps (first + (i + 1)) (numbered (first + (i + 1)) (map Ask after)) afters a c before kept
setup_next first i all all_steps requests after request steps afters step a b c before buffer added kept up numbers
    now_request now_step behind send =
    let next : ℕ = first + i in
    let here = setup_here first i requests after request steps afters step numbers now_request now_step in
    subst (λ (n : ℕ). IsUpTo first all all_steps n (numbered n (map Ask after)) afters a c before kept) (moved first i)
    (line_next first all all_steps next (numbered next (map Ask requests)) (numbered (suc next) (map Ask after))
    (next, Ask request) steps afters step a b c before buffer buffer added kept up
    (ap (λ (rs : List Request). numbered next (map Ask rs)) now_request) now_step
    (sym (append-nil buffer) ∙ ap (λ (n : ℕ). buffer ++ left_text next n) (none next))
    (subst (λ (n : ℕ). IsLineBehind n (Ask request) buffer added) here.0 behind) send)
  where
    none : (n : ℕ) → 0 ≡ n - n
    none n = omega arith

pub setup_done : (first : ℕ) (all : List (ℕ × Line)) (all_steps : List Step) (next : ℕ) (requests : List Request)
    (steps : List Step) (a b : Option (List ℕ)) (before buffer : List ℕ)
    → IsUpTo first all all_steps next (numbered next (map Ask requests)) steps a b before buffer
    → HaveNumbers (numbered next (map Ask requests)) steps → requests ≡ []
    → PrintsLines first all all_steps a b before buffer
setup_done first all all_steps next requests steps a b before buffer up numbers none =
    let no_lines : numbered next (map Ask requests) ≡ [] = ap (λ (rs : List Request). numbered next (map Ask rs)) none in
    lines_done first all all_steps next (numbered next (map Ask requests)) steps a b before buffer up no_lines
    (no_more_steps (numbered next (map Ask requests)) steps numbers no_lines)

-- The lines of a script, found by the numbers of the steps.
pub script_here : (first : ℕ) (script : List Line) (steps afters : List Step) (step : Step) → HaveLines first script steps
    → steps ≡ step ∷ afters → (first ≤ step.0) × (step.0 - first < length script) × HaveLines first script afters
script_here first script steps afters step have now_step =
    subst (λ (ss : List Step). HaveLines first script ss) now_step have

pub script_next : (first : ℕ) (script : List Line) (all_steps : List Step) (next : ℕ) (line : Line)
    (steps afters : List Step) (step : Step) (a b c : Option (List ℕ)) (before buffer left added kept : List ℕ)
    → IsUpTo first (lines_by first script all_steps) all_steps next (lines_by first script steps) steps a b before buffer
    → steps ≡ step ∷ afters → slice_get script (step.0 - first) ≡ Some line
    → left ≡ buffer ++ left_text next (step.0 - next) → IsLineBehind step.0 line left added → IsSent b c kept added
    → IsUpTo first (lines_by first script all_steps) all_steps (suc step.0) (lines_by first script afters) afters a c before
    kept
script_next first script all_steps next line steps afters step a b c before buffer left added kept up now_step at out behind
    send =
    let found : get_or script (step.0 - first) Fetch ≡ line
    = get_or_from_slice_get script (step.0 - first) line Fetch at in
    line_next first (lines_by first script all_steps) all_steps next (lines_by first script steps)
    (lines_by first script afters) (line_of first script step) steps afters step a b c before buffer left added kept up
    (ap (lines_by first script) now_step) now_step out
    (subst (λ (l : Line). IsLineBehind step.0 l left added) (sym found) behind) send

pub script_done : (first : ℕ) (script : List Line) (all_steps : List Step) (next : ℕ) (steps : List Step)
    (a b : Option (List ℕ)) (before buffer : List ℕ)
    → IsUpTo first (lines_by first script all_steps) all_steps next (lines_by first script steps) steps a b before buffer
    → steps ≡ [] → PrintsLines first (lines_by first script all_steps) all_steps a b before buffer
script_done first script all_steps next steps a b before buffer up none =
    lines_done first (lines_by first script all_steps) all_steps next (lines_by first script steps) steps a b before buffer up
    (ap (lines_by first script) none) none

-- Processes, one after another.
pub processes_begun : (x : Outline) (all : List Entrant) (transcripts : List (List Step)) (a : Option (List ℕ))
    (before : List ℕ) → IsThrough x all transcripts 0 all transcripts a a before before
processes_begun x all transcripts a before = record {
  sofar = [];
  is_sent = sent_none a before;
  goes = λ rest shown. shown;
}

process_more : (x : Outline) (all : List Entrant) (all_transcripts : List (List Step)) (p : ℕ)
    (principals later : List Entrant) (principal : Entrant) (transcripts afters : List (List Step)) (steps : List Step)
    (ran : List (ℕ × Line)) (a b c : Option (List ℕ)) (before buffer headed kept : List ℕ)
    → IsThrough x all all_transcripts p principals transcripts a b before buffer
    → principals ≡ principal ∷ later → transcripts ≡ steps ∷ afters
    → headed ≡ buffer ++ heading_text (suc p) principal → AreLinesOf (lines_of x (suc p)) steps ran → PrintsLines (first_line x (suc p)) ran steps b c headed kept
    → IsThrough x all all_transcripts (suc p) later afters a c before kept
process_more x all all_transcripts p principals later principal transcripts afters steps ran a b c before buffer headed kept
    through now_principal now_steps head are prints =
    let piece : List ℕ = heading_text (suc p) principal ++ prints.text in
    let put : headed ++ prints.text ≡ buffer ++ piece
    = ap (λ (v : List ℕ). v ++ prints.text) head ∙ append_assoc buffer (heading_text (suc p) principal) prints.text in
    let goes : (rest : List ℕ) → AreProcessesShown x p (principal ∷ later) (steps ∷ afters) rest
    → AreProcessesShown x 0 all all_transcripts (through.sofar ++ rest)
    = subst (λ (ps : List Entrant). (rest : List ℕ) → AreProcessesShown x p ps (steps ∷ afters) rest
    → AreProcessesShown x 0 all all_transcripts (through.sofar ++ rest)) now_principal
    (subst (λ (ts : List (List Step)). (rest : List ℕ) → AreProcessesShown x p principals ts rest
    → AreProcessesShown x 0 all all_transcripts (through.sofar ++ rest)) now_steps through.goes) in
    let P : List ℕ → Type 0 = λ v. AreProcessesShown x 0 all all_transcripts v in
    record {
      sofar = through.sofar ++ piece;
      is_sent = sent_piece a b c before through.sofar buffer piece (headed ++ prints.text) kept through.is_sent put
          prints.is_sent;
      goes = λ rest shown.
          subst P (sym (append_assoc through.sofar piece rest))
          (goes (piece ++ rest)
          (prints.text, rest, refl, record { ran = ran; are = are; shown = prints.shown }, shown));
    }

pub process_next : (x : Outline) (all : List Entrant) (all_transcripts : List (List Step)) (p : ℕ)
    (principals later : List Entrant) (principal : Entrant) (transcripts afters : List (List Step)) (script : List Line)
    (steps : List Step) (a b c : Option (List ℕ)) (before buffer headed kept : List ℕ)
    → IsThrough x all all_transcripts p principals transcripts a b before buffer
    → principals ≡ principal ∷ later → transcripts ≡ steps ∷ afters
    → headed ≡ buffer ++ heading_text (p + 1) principal → IsPartOf x (suc p) steps → script_at x.scripts p ≡ script
    → PrintsLines (first_line x (p + 1)) (lines_by (first_line x (p + 1)) script steps) steps b c headed kept
    → IsThrough x all all_transcripts (p + 1) later afters a c before kept
process_next x all all_transcripts p principals later principal transcripts afters script steps a b c before buffer headed
    kept through now_principal now_steps head own is prints =
    subst (λ (n : ℕ). IsThrough x all all_transcripts n later afters a c before kept) (sym (add-one p))
    (process_more x all all_transcripts p principals later principal transcripts afters steps own.ran a b c before buffer headed
    kept through now_principal now_steps
    (subst (λ (n : ℕ). headed ≡ buffer ++ heading_text n principal) (add-one p) head) own.are
    (subst (λ (n : ℕ). PrintsLines (first_line x n) own.ran steps b c headed kept) (add-one p)
    (subst (λ (ran : List (ℕ × Line)). PrintsLines (first_line x (p + 1)) ran steps b c headed kept)
    (own_ran x p script steps own is) prints)))

pub processes_done : (x : Outline) (all : List Entrant) (all_transcripts : List (List Step)) (p : ℕ)
    (principals : List Entrant) (transcripts : List (List Step)) (a b : Option (List ℕ)) (before buffer : List ℕ)
    → IsThrough x all all_transcripts p principals transcripts a b before buffer
    → principals ≡ [] → transcripts ≡ [] → PrintsProcesses x 0 all all_transcripts a b before buffer
processes_done x all all_transcripts p principals transcripts a b before buffer through none none_transcripts =
    let goes : (rest : List ℕ) → AreProcessesShown x p [] [] rest
    → AreProcessesShown x 0 all all_transcripts (through.sofar ++ rest)
    = subst (λ (ps : List Entrant). (rest : List ℕ) → AreProcessesShown x p ps [] rest
    → AreProcessesShown x 0 all all_transcripts (through.sofar ++ rest)) none
    (subst (λ (ts : List (List Step)). (rest : List ℕ) → AreProcessesShown x p principals ts rest
    → AreProcessesShown x 0 all all_transcripts (through.sofar ++ rest)) none_transcripts through.goes) in
    let P : List ℕ → Type 0 = λ v. AreProcessesShown x 0 all all_transcripts v in
    record { text = through.sofar; shown = subst P (append-nil through.sofar) (goes [] refl); is_sent = through.is_sent }

-- Pieces that are added one after another.
put_three : (s a b c x y z : List ℕ) → x ≡ s ++ a → y ≡ x ++ b → z ≡ y ++ c → z ≡ s ++ (a ++ b ++ c)
put_three s a b c x y z e f g =
    g ∙ ap (λ (v : List ℕ). v ++ c) (f ∙ ap (λ (v : List ℕ). v ++ b) e ∙ append_assoc s a b) ∙ append_assoc s (a ++ b) c

pub put_label : (s label number b c d x y z w : List ℕ) → x ≡ s ++ (label ++ number) → y ≡ x ++ b → z ≡ y ++ c → w ≡ z ++ d
    → w ≡ s ++ (label ++ number ++ b ++ c ++ d)
put_label s label number b c d x y z w e f g h =
    h ∙ ap (λ (v : List ℕ). v ++ d) (put_three s (label ++ number) b c x y z e f g) ∙ append_assoc s (label ++ number ++ b ++ c) d

pub put_end : (s label number b x y : List ℕ) → x ≡ s ++ (label ++ number) → y ≡ x ++ b → y ≡ s ++ (label ++ number ++ b)
put_end s label number b x y e f = f ∙ ap (λ (v : List ℕ). v ++ b) e ∙ append_assoc s (label ++ number) b

-- two pieces in place of the last one
pub put_both : (z a b y w : List ℕ) → y ≡ z ++ a → w ≡ y ++ b → w ≡ z ++ (a ++ b)
put_both z a b y w e f = f ∙ ap (λ (v : List ℕ). v ++ b) e ∙ append_assoc z a b

pub put_labels : (s label number other more e x y z : List ℕ) → x ≡ s ++ (label ++ number) → y ≡ x ++ (other ++ more) → z ≡ y ++ e
    → z ≡ s ++ (label ++ number ++ other ++ more ++ e)
put_labels s label number other more e x y z f g h =
    put_three s (label ++ number) (other ++ more) e x y z f g h
    ∙ ap (λ (v : List ℕ). s ++ (v ++ e)) (sym (append_assoc (label ++ number) other more))

-- the last piece, where it was added
pub put_last : {T E : Type 0} (r : Result T E) (new old piece : List ℕ) → new ≡ (if is_ok r then old ++ piece else old) → OnOk r (new ≡ old ++ piece)
put_last (Ok x) new old piece e = e
put_last (Err x) new old piece e = tt

-- The whole text: it is put into an empty buffer, and the rest is sent at the end.
pub lines_gained : (x : Outline) (journal : List journaled.Entry) (transcripts : List (List Step)) (steps : List Step)
    (a b c d : Option (List ℕ)) (none opened rest left : List ℕ)
    → none ≡ [] → opened ≡ none ++ opening_text x journal → part transcripts 0 ≡ steps
    → PrintsLines (first_line x 0) (lines_of x 0) steps a b opened rest
    → PrintsProcesses x 0 x.principals (drop 1 transcripts) b c rest left → Appends c d left → GainsLines a d x journal transcripts
lines_gained x journal transcripts steps a b c d none opened rest left empty head first setup processes last =
    let begun : opened ≡ opening_text x journal = head ∙ ap (λ (v : List ℕ). v ++ opening_text x journal) empty in
    let P : List ℕ → Type 0 = λ v. Appends a d (v ++ setup.text ++ processes.text) in
    record {
      text = opening_text x journal ++ setup.text ++ processes.text;
      lines = record {
        setup = setup.text;
        processes = processes.text;
        text_is = refl;
        setup_shown = subst (λ (ss : List Step). AreShown (first_line x 0) (lines_of x 0) ss setup.text) (sym first) setup.shown;
        processes_shown = processes.shown;
      };
      gained =
          subst P begun
          (sent_whole a c d (opened ++ setup.text ++ processes.text) left
          (sent_then a b c (opened ++ setup.text) rest left processes.text setup.is_sent processes.is_sent) last);
    }
