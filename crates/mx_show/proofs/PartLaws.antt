-- The parts of a legal run: their steps have the numbers of their lines, and each line stands in the script at the place of its
-- number. No request is denied, so the setup's part has all its lines.
use Rattle.std.proofs.Common.{◌≡◌, inl, inr, ℕ, zero, suc, ◌+◌, ◌-◌, ◌<◌, ◌≤◌, List, [], ◌∷◌, map, length, get_or, refl, ap, sym, ◌∙◌, subst, arith, Option, Some, None, IsSome, add-one}
use Rattle.std.proofs.lemmas.List.Elements.{All-nil, All-cons, All-head, All-tail, All-weaker}
use Rattle.std.proofs.lemmas.Option.{get_or_from_slice_get, slice_get_within}
use Rattle.std.specs.List.{All, slice_get}
use Rattle.mx_transcript.specs.Asking.{awaits, first_due, next, replied}
use Rattle.mx_transcript.specs.Courses.{Course, Attempt, Answer}
use Rattle.mx_transcript.specs.Denials.{denial_of, denied_with}
use Rattle.mx_transcript.specs.Filling.{due}
use Rattle.mx_transcript.specs.Legal.{IsLegal, setting_of}
use Rattle.mx_transcript.specs.Lines.{IsEnd, IsLine}
use Rattle.mx_transcript.specs.Next.{Next, Reference, Asks, Fills, Calls, Ends, Nowhere}
use Rattle.mx_transcript.specs.Openings.{opening_control}
use Rattle.mx_transcript.specs.Parts.{AreDone}
use Rattle.mx_transcript.specs.Scripts.{first_line, lines_of, numbered, script_at}
use Rattle.mx_transcript.specs.Settings.{Setting}
use Rattle.mx_transcript.specs.Transcripts.{Step, part}
use Rattle.mx_transcript.specs.declared.transcripts.Result2.{Result2}
use Rattle.mx_transcript.specs.declared.transcripts.Result2.TheVariants as result
use Rattle.mx_transcript.proofs.PartLines.{all_of_part}
use Rattle.mx_upcall.specs.Control.{Control}
use Rattle.mx_request.specs.declared.replies.Reply.{Reply}
use Rattle.mx_request.specs.declared.replies.Reply.TheVariants as reply
use Rattle.mx_request.specs.declared.requests.Request.{Request}
use Rattle.mx_request.specs.declared.requests.Request.TheVariants.{Block}
use Rattle.mx_script.specs.Sessions.{Outline}
use Rattle.mx_script.specs.declared.lines.Line.{Line}
use Rattle.mx_script.specs.declared.lines.Line.TheVariants.{Ask, Fetch}
use Rattle.mx_state.specs.declared.journal.Entry as journaled
use Rattle.mx_show.specs.Printing.{HaveLines, HaveNumbers, IsPartOf, line_of, lines_by}

-- Steps that lines came to have their numbers.
done_numbers : (s : Setting) (before after : Control) (ran : List (ℕ × Line)) (steps : List Step)
    → AreDone s before ran steps [] after → HaveNumbers ran steps
done_numbers s before after ran [] done = subst (λ (lines : List (ℕ × Line)). HaveNumbers lines []) done.0 tt
done_numbers s before after [] (step ∷ steps) done = absurd done
done_numbers s before after (line ∷ ran) (step ∷ steps) done = (done.0, done_numbers s done.1 after ran steps done.3)

pub part_of : (x : Outline) (journal : List journaled.Entry) (transcripts : List (List Step)) → IsLegal x journal transcripts
    → (p : ℕ) → p < length transcripts → IsPartOf x p (part transcripts p)
part_of x journal transcripts legal p below =
    let lines = legal.lines p below in
    record {
      ran = lines.1.ran;
      are = lines.1.are;
      numbers = done_numbers (setting_of x journal p) (opening_control x p) lines.0 lines.1.ran (part transcripts p) lines.1.done;
    }

-- A line that is a request is not denied.
abbrev IsUndenied : Next → Type 0
IsUndenied (Ends ends last) = (number : ℕ) → IsSome (denied_with number ends) → ⊥
IsUndenied (Calls ring request) = Unit {0}
IsUndenied (Asks reference) = Unit {0}
IsUndenied (Fills reference) = Unit {0}
IsUndenied Nowhere = Unit {0}

awaits_undenied : (g : Control) (request : Request) → IsUndenied (awaits g request)
awaits_undenied g Block = tt
awaits_undenied g _ = tt

replied_undenied : (g : Control) (request : Request) (given : Reply) → IsUndenied (replied g request given)
replied_undenied g request reply.Waiting = awaits_undenied g request
replied_undenied g request (reply.Linked segno word fresh linkage) = tt
replied_undenied g request (reply.Refused why) = λ number denied. cc
replied_undenied g request reply.Done = λ number denied. cc
replied_undenied g request (reply.Status status) = λ number denied. cc
replied_undenied g request (reply.Names names) = λ number denied. cc
replied_undenied g request (reply.Segno known) = λ number denied. cc
replied_undenied g request reply.Sent = λ number denied. cc
replied_undenied g request (reply.Message sender word) = λ number denied. cc
replied_undenied g request reply.Nobody = λ number denied. cc

due_undenied : (writes : Option Reference) (onward : Next) → IsUndenied onward → IsUndenied (first_due writes onward)
due_undenied (Some reference) onward is = tt
due_undenied None onward is = is

ask_undenied : (g : Control) (request : Request) (course : Course) → IsUndenied (next g (Ask request) course)
ask_undenied g request (Attempt seen) = tt
ask_undenied g request (Answer entry filled) =
    due_undenied (due entry filled) (replied g entry.request entry.reply) (replied_undenied g entry.request entry.reply)

end_undenied : (s : Setting) (g : Control) (asks : Next) (ends : Result2) (after : Control) (number : ℕ) → IsUndenied asks
    → IsEnd s g asks ends after → IsSome (denied_with number ends) → ⊥
end_undenied s g (Ends made last) ends after number is end denied =
    is number (subst (λ (r : Result2). IsSome (denied_with number r)) end.0 denied)
end_undenied s g (Calls ring request) ends after number is end denied =
    full number (subst (λ (r : Result2). IsSome (denied_with number r)) end.1 denied)
  where
    full : (n : ℕ) → IsSome (denied_with n result.HistoryFull) → ⊥
    full n there = cc
end_undenied s g (Asks reference) ends after number is end denied = absurd end
end_undenied s g (Fills reference) ends after number is end denied = absurd end
end_undenied s g Nowhere ends after number is end denied = absurd end

record IsAsk (line : ℕ × Line) : Type 0 where
  request : Request
  is : line.1 ≡ Ask request

all_ask : (first : ℕ) (requests : List Request) → All IsAsk (numbered first (map Ask requests))
all_ask first [] = All-nil IsAsk
all_ask first (request ∷ requests) =
    All-cons IsAsk (first, Ask request) (numbered (suc first) (map Ask requests))
    (record { request = request; is = refl }) (all_ask (suc first) requests)

line_undenied : (s : Setting) (g : Control) (line : ℕ × Line) (step : Step) (after : Control) → IsAsk line
    → IsLine s g line.1 step.1 step.2 after → IsSome (denial_of step) → ⊥
line_undenied s g line step after ask is denied =
    let own = subst (λ (l : Line). IsLine s g l step.1 step.2 after) ask.is is in
    end_undenied s g (next g (Ask ask.request) own.course) step.2 after step.0 (ask_undenied g ask.request own.course) own.end
    denied

done_undenied : (s : Setting) (g : Control) (ran : List (ℕ × Line)) (steps : List Step) (after : Control) (place : ℕ)
    (step : Step) → All IsAsk ran → AreDone s g ran steps [] after → slice_get steps place ≡ Some step
    → IsSome (denial_of step) → ⊥
done_undenied s g ran [] after place step ask done at denied = cc
done_undenied s g [] (first ∷ steps) after place step ask done at denied = done
done_undenied s g (line ∷ ran) (first ∷ steps) after zero step ask done at denied =
    let same : first ≡ step = cc in
    line_undenied s g line first done.1 (All-head IsAsk line ran ask) done.2
    (subst (λ (t : Step). IsSome (denial_of t)) (sym same) denied)
done_undenied s g (line ∷ ran) (first ∷ steps) after (suc place) step ask done at denied =
    done_undenied s done.1 ran steps after place step (All-tail IsAsk line ran ask) done.3 at denied

-- So the setup's part has all its lines.
setup_numbers : (x : Outline) (journal : List journaled.Entry) (transcripts : List (List Step)) → IsLegal x journal transcripts
    → 0 < length transcripts → HaveNumbers (lines_of x 0) (part transcripts 0)
setup_numbers x journal transcripts legal below =
    let lines = legal.lines 0 below in
    elim lines.1.are [
      | inl whole ↦ subst (λ (ran : List (ℕ × Line)). HaveNumbers ran (part transcripts 0)) whole
          (done_numbers (setting_of x journal 0) (opening_control x 0) lines.0 lines.1.ran (part transcripts 0) lines.1.done)
      | inr cut ↦ absurd (done_undenied (setting_of x journal 0) (opening_control x 0) lines.1.ran (part transcripts 0)
          lines.0 cut.place cut.step (all_of_part IsAsk (lines_of x 0) lines.1.ran (part transcripts 0) lines.1.are
          (all_ask (first_line x 0) x.setup)) lines.1.done cut.at cut.denied)
    ]

-- Each line of a script stands there at the place of its number.
abbrev StandsIn : ℕ → List Line → ℕ × Line → Type 0
StandsIn first script line = (first ≤ line.0) × (slice_get script (line.0 - first) ≡ Some line.1)

numbered_stand : (first : ℕ) (script : List Line) → All (StandsIn first script) (numbered first script)
numbered_stand first [] = All-nil (StandsIn first [])
numbered_stand first (line ∷ script) =
    All-cons (StandsIn first (line ∷ script)) (first, line) (numbered (suc first) script)
    (omega arith, ap (slice_get (line ∷ script)) (none first))
    (All-weaker (StandsIn (suc first) script) (StandsIn first (line ∷ script)) further (numbered (suc first) script)
    (numbered_stand (suc first) script))
  where
    none : (n : ℕ) → n - n ≡ 0
    none n = omega arith

    behind : (n : ℕ) → suc first ≤ n → n - first ≡ suc (n - suc first)
    behind n le = omega arith

    further : (other : ℕ × Line) → StandsIn (suc first) script other → StandsIn first (line ∷ script) other
    further other stands = (
      let le = stands.0 in omega arith,
      ap (slice_get (line ∷ script)) (behind other.0 stands.0) ∙ stands.1,
    )

numbers_in : (first : ℕ) (script : List Line) (ran : List (ℕ × Line)) (steps : List Step) → HaveNumbers ran steps
    → All (StandsIn first script) ran → HaveLines first script steps
numbers_in first script [] [] numbers stand = tt
numbers_in first script (line ∷ ran) [] numbers stand = tt
numbers_in first script [] (step ∷ steps) numbers stand = absurd numbers
numbers_in first script (line ∷ ran) (step ∷ steps) numbers stand =
    let at = All-head (StandsIn first script) line ran stand in (
      subst (λ (n : ℕ). first ≤ n) (sym numbers.0) at.0,
      subst (λ (n : ℕ). n - first < length script) (sym numbers.0) (slice_get_within script (line.0 - first) line.1 at.1),
      numbers_in first script ran steps numbers.1 (All-tail (StandsIn first script) line ran stand),
    )

found_by : (first : ℕ) (script : List Line) (ran : List (ℕ × Line)) (steps : List Step) → HaveNumbers ran steps
    → All (StandsIn first script) ran → lines_by first script steps ≡ ran
found_by first script [] [] numbers stand = refl
found_by first script (line ∷ ran) [] numbers stand = absurd numbers
found_by first script [] (step ∷ steps) numbers stand = absurd numbers
found_by first script (line ∷ ran) (step ∷ steps) numbers stand =
    let at = All-head (StandsIn first script) line ran stand in
    let here : line_of first script step ≡ line
    = ap (λ (n : ℕ). (n, get_or script (n - first) Fetch)) numbers.0
    ∙ ap (λ (l : Line). (line.0, l)) (get_or_from_slice_get script (line.0 - first) line.1 Fetch at.1) in
    ap (λ (l : ℕ × Line). l ∷ lines_by first script steps) here
    ∙ ap (λ (ls : List (ℕ × Line)). line ∷ ls)
    (found_by first script ran steps numbers.1 (All-tail (StandsIn first script) line ran stand))

part_stands : (x : Outline) (p : ℕ) (steps : List Step) (is : IsPartOf x (suc p) steps)
    → All (StandsIn (first_line x (suc p)) (script_at x.scripts p)) is.ran
part_stands x p steps is =
    all_of_part (StandsIn (first_line x (suc p)) (script_at x.scripts p)) (lines_of x (suc p)) is.ran steps is.are
    (numbered_stand (first_line x (suc p)) (script_at x.scripts p))

-- So the lines of a part are found in its script by the numbers of its steps.
part_lines : (x : Outline) (p : ℕ) (steps : List Step) → IsPartOf x (suc p) steps
    → HaveLines (first_line x (suc p)) (script_at x.scripts p) steps
part_lines x p steps is =
    numbers_in (first_line x (suc p)) (script_at x.scripts p) is.ran steps is.numbers (part_stands x p steps is)

part_found : (x : Outline) (p : ℕ) (steps : List Step) (is : IsPartOf x (suc p) steps)
    → lines_by (first_line x (suc p)) (script_at x.scripts p) steps ≡ is.ran
part_found x p steps is =
    found_by (first_line x (suc p)) (script_at x.scripts p) is.ran steps is.numbers (part_stands x p steps is)

-- The part of a process, and its script, where they are found by their places.
pub below_first : (transcripts : List (List Step)) (n : ℕ) → length transcripts ≡ 1 + n → 0 < length transcripts
below_first transcripts n e = omega (arith, e)

part_found_at : (transcripts : List (List Step)) (p : ℕ) (steps : List Step) → p < length transcripts
    → steps ≡ get_or transcripts p steps → part transcripts p ≡ steps
part_found_at [] p steps below is = absurd (omega (arith, below))
part_found_at (first ∷ transcripts) zero steps below is = sym is
part_found_at (first ∷ transcripts) (suc p) steps below is = part_found_at transcripts p steps (omega (arith, below)) is

pub first_part : (transcripts : List (List Step)) (steps : List Step) → 0 < length transcripts → steps ≡ get_or transcripts 0 steps
    → part transcripts 0 ≡ steps
first_part transcripts steps below is = part_found_at transcripts 0 steps below is

pub setup_steps : (x : Outline) (journal : List journaled.Entry) (transcripts : List (List Step)) (steps : List Step)
    → IsLegal x journal transcripts → steps ≡ get_or transcripts 0 steps → HaveNumbers (lines_of x 0) steps
setup_steps x journal transcripts steps legal is =
    let below = below_first transcripts (length x.principals) legal.parts in
    subst (HaveNumbers (lines_of x 0)) (first_part transcripts steps below is) (setup_numbers x journal transcripts legal below)

pub own_part : (x : Outline) (transcripts : List (List Step)) (i : ℕ) (steps : List Step)
    → ((p : ℕ) → p < length transcripts → IsPartOf x p (part transcripts p)) → i + 1 < length transcripts
    → steps ≡ get_or transcripts (i + 1) steps → IsPartOf x (suc i) steps
own_part x transcripts i steps parts below is =
    let there : suc i < length transcripts = omega (arith, below) in
    subst (IsPartOf x (suc i)) (part_found_at transcripts (suc i) steps there
    (subst (λ (n : ℕ). steps ≡ get_or transcripts n steps) (add-one i) is)) (parts (suc i) there)

script_found_at : (scripts : List (List Line)) (p : ℕ) (script : List Line) → p < length scripts
    → script ≡ get_or scripts p script → script_at scripts p ≡ script
script_found_at [] p script below is = absurd (omega (arith, below))
script_found_at (first ∷ scripts) zero script below is = sym is
script_found_at (first ∷ scripts) (suc p) script below is = script_found_at scripts p script (omega (arith, below)) is

pub own_script : (x : Outline) (scripts : List (List Line)) (i : ℕ) (script : List Line) → scripts ≡ x.scripts
    → length x.scripts ≡ length x.principals → i < length x.principals → script ≡ get_or scripts i script
    → script_at x.scripts i ≡ script
own_script x scripts i script are many below is =
    script_found_at x.scripts i script (omega (arith, many, below))
    (subst (λ (all : List (List Line)). script ≡ get_or all i script) are is)

pub own_lines : (x : Outline) (i : ℕ) (script : List Line) (steps : List Step) → IsPartOf x (suc i) steps
    → script_at x.scripts i ≡ script → HaveLines (first_line x (i + 1)) script steps
own_lines x i script steps own is =
    subst (λ (n : ℕ). HaveLines (first_line x n) script steps) (sym (add-one i))
    (subst (λ (lines : List Line). HaveLines (first_line x (suc i)) lines steps) is (part_lines x i steps own))

-- the lines that are found in its script are those that it has
pub own_ran : (x : Outline) (i : ℕ) (script : List Line) (steps : List Step) (own : IsPartOf x (suc i) steps)
    → script_at x.scripts i ≡ script → lines_by (first_line x (i + 1)) script steps ≡ own.ran
own_ran x i script steps own is =
    ap (λ (n : ℕ). lines_by (first_line x n) script steps) (add-one i)
    ∙ ap (λ (lines : List Line). lines_by (first_line x (suc i)) lines steps) (sym is) ∙ part_found x i steps own
