-- A part is right where what is left of it is, line by line.
use Rattle.std.proofs.Common.{◌≡◌, ℕ, suc, ◌+◌, ◌≤◌, Bool, true, false, Result, IfOk, List, [], ◌∷◌, ◌++◌, length, take, drop, Option, Some, None, sym, ◌∙◌, ap, subst, arith}
use Rattle.std.proofs.lemmas.List.{length-append, length-take-le, take_all}
use Rattle.std.proofs.lemmas.Option.{slice_get_within}
use Rattle.std.proofs.lemmas.Result.{IfOk-weaker}
use Rattle.std.specs.List.{slice_get}
use Rattle.mx_core.specs.declared.elements.Element.{Element}
use Rattle.mx_core.specs.declared.elements.Event.TheVariants.{Seen}
use Rattle.mx_parts.proofs.ListLaws.{get_drop, get_left, get_right, get_take, take_none}
use Rattle.mx_parts.proofs.NextLaws.{IsPlace, may_be_next, only_next, place_is}
use Rattle.mx_parts.proofs.OnwardLaws.{kept, onward}
use Rattle.mx_parts.specs.Ends.{IsJudgedLine, IsJudgedStep, IsRightStep, IsWrongStep}
use Rattle.mx_parts.specs.FirstBad.{AreBeside, AreKept, IsFirstBad}
use Rattle.mx_parts.specs.Rests.{AreKeptOn, AreRightBy, IsNext, is_denied, place_for}
use Rattle.mx_script.specs.declared.lines.Line.{Line}
use Rattle.mx_sdw.specs.Descriptors.{Descriptor}
use Rattle.mx_transcript.specs.Lines.{IsLine}
use Rattle.mx_transcript.specs.Scripts.{numbered}
use Rattle.mx_transcript.specs.Settings.{Setting}
use Rattle.mx_transcript.specs.SoFar.{OneOutcomeLaw}
use Rattle.mx_transcript.specs.Transcripts.{Step}
use Rattle.mx_transcript.specs.declared.transcripts.Event2.{Event2}
use Rattle.mx_transcript.specs.declared.transcripts.Event2.TheVariants.{Core}
use Rattle.mx_upcall.specs.Control.{Control}

some_same : {A : Type 0} {a b : A} → Some a ≡ Some b → a ≡ b
some_same e = cc

-- where it begins
pub begun : (setting : Setting) (start : Control) (lines : List (ℕ × Line)) (steps : List Step)
    → AreRightBy setting start lines steps 0 false lines steps start
begun setting start lines steps = record {
  on = λ n on.
      subst (λ (k : ℕ). AreKept setting start lines (take k steps)) (same n) (kept setting start lines (take n steps) on);
  back = λ n are.
      onward setting start lines (take n steps) (subst (λ (k : ℕ). AreKept setting start lines (take k steps)) (sym (same n)) are);
}
  where
    same : (n : ℕ) → n ≡ n + 0
    same n = omega arith

-- a line more
one_more : (one : OneOutcomeLaw) (setting : Setting) (start : Control) (lines : List (ℕ × Line)) (steps : List Step) (place : ℕ)
    (denied : Bool) (left : List (ℕ × Line)) (line : ℕ × Line) (others : List (ℕ × Line)) (step : Step) (rest : List Step)
    (now after : Control) → AreRightBy setting start lines steps place denied left (step ∷ rest) now
    → IsNext denied left line others
    → ((other : ℕ × Line) (more : List (ℕ × Line)) → IsNext denied left other more → step.0 ≡ other.0
    → (other ≡ line) × (more ≡ others))
    → step.0 ≡ line.0 → IsLine setting now line.1 step.1 step.2 after
    → AreRightBy setting start lines steps (place + 1) (is_denied step) others rest after
one_more one setting start lines steps place denied left line others step rest now after right next only number is = record {
  on = λ n on.
      subst (λ (k : ℕ). AreKept setting start lines (take k steps)) (shift n)
      (right.on (suc n) (line, others, next, number, after, is, on));
  back = λ n are.
      let so = right.back (suc n) (subst (λ (k : ℕ). AreKept setting start lines (take k steps)) (sym (shift n)) are) in
      let same = only so.0 so.1 so.2 so.3 in
      let is' : IsLine setting now line.1 step.1 step.2 so.4 =
      subst (λ (l : ℕ × Line). IsLine setting now l.1 step.1 step.2 so.4) same.0 so.5 in
      subst (λ (c : Control). AreKeptOn setting c (is_denied step) others (take n rest))
      (one setting now so.4 after line.1 step.1 step.2 is' is)
      (subst (λ (l : List (ℕ × Line)). AreKeptOn setting so.4 (is_denied step) l (take n rest)) same.1 so.6);
}
  where
    shift : (n : ℕ) → suc n + place ≡ n + (place + 1)
    shift n = omega arith

pub more_at : (one : OneOutcomeLaw) (setting : Setting) (start : Control) (first : ℕ) (script : List Line) (steps : List Step)
    (place ahead here : ℕ) (denied : Bool) (step : Step) (rest whole : List Step) (now after : Control) → whole ≡ step ∷ rest
    → here ≡ place_for first (length script) ahead denied step.0
    → AreRightBy setting start (numbered first script) steps place denied (drop ahead (numbered first script)) whole now
    → IsRightStep setting now first script here step after
    → AreRightBy setting start (numbered first script) steps (place + 1) (is_denied step) (drop (here + 1) (numbered first script)) rest after
more_at one setting start first script steps place ahead here denied step rest whole now after next here_is right is =
    let lines = numbered first script in
    let found : IsPlace first (length script) ahead denied step.0 here =
    subst (IsPlace first (length script) ahead denied step.0) (sym here_is) (place_is first (length script) ahead denied step.0) in
    one_more one setting start lines steps place denied (drop ahead lines) (first + here, is.line) (drop (here + 1) lines) step rest now after
    (subst (λ (w : List Step). AreRightBy setting start lines steps place denied (drop ahead lines) w now) next right)
    (may_be_next first ahead script denied step.0 here is.line found is.at)
    (λ other more may number.
    let there = only_next first ahead script denied step.0 here other more found may number in (
      there.line_is ∙ ap (λ (l : Line). (first + here, l)) (some_same (sym there.at ∙ is.at)),
      there.others_are,
    ))
    is.number is.right.line

-- the first bad one
pub bad_at : (setting : Setting) (start : Control) (first : ℕ) (script : List Line) (steps : List Step) (place ahead here : ℕ)
    (denied : Bool) (step : Step) (rest whole : List Step) (now : Control) → whole ≡ step ∷ rest
    → here ≡ place_for first (length script) ahead denied step.0
    → AreRightBy setting start (numbered first script) steps place denied (drop ahead (numbered first script)) whole now
    → IsWrongStep setting now first script here step → IsFirstBad setting start (numbered first script) steps place
bad_at setting start first script steps place ahead here denied step rest whole now next here_is before wrong =
    let lines = numbered first script in
    let none : 0 + place ≡ place = omega arith in
    let one : 1 + place ≡ suc place = omega arith in
    let right = subst (λ (w : List Step). AreRightBy setting start lines steps place denied (drop ahead lines) w now) next before in
    let found : IsPlace first (length script) ahead denied step.0 here =
    subst (IsPlace first (length script) ahead denied step.0) (sym here_is) (place_is first (length script) ahead denied step.0) in
    record {
      before = subst (λ (k : ℕ). AreKept setting start lines (take k steps)) none (right.on 0 tt);
      bad = λ are.
          let so = right.back 1 (subst (λ (k : ℕ). AreKept setting start lines (take k steps)) (sym one) are) in
          let there = only_next first ahead script denied step.0 here so.0 so.1 found so.2 so.3 in
          wrong.never there.own so.4 there.at (so.3 ∙ ap (λ (l : ℕ × Line). l.0) there.line_is)
          (subst (λ (l : ℕ × Line). IsLine setting now l.1 step.1 step.2 so.4) there.line_is so.5);
    }

-- no step is left
pub all_kept : (setting : Setting) (start : Control) (lines : List (ℕ × Line)) (steps : List Step) (place : ℕ) (denied : Bool)
    (left : List (ℕ × Line)) (rest : List Step) (now : Control) → rest ≡ []
    → AreRightBy setting start lines steps place denied left rest now → AreKept setting start lines steps
all_kept setting start lines steps place denied left rest now none right =
    let n : ℕ = length steps in
    let few : length steps ≤ n + place = omega arith in
    subst (AreKept setting start lines) (take_all (n + place) steps few)
    (right.on n
    (subst (λ (k : List Step). AreKeptOn setting now denied left k) (sym (ap (take n) none ∙ take_none n)) tt))

-- the descriptors beside the events of a line, and those beside the events of the others
pub beside_first : (access : Element → Descriptor) (events : List Event2) (more : List Event2) (descriptors : List Descriptor)
    → AreBeside access (events ++ more) descriptors → length events ≤ length descriptors
    → AreBeside access events (take (length events) descriptors)
beside_first access events more descriptors are enough = record {
  each = length-take-le (length events) descriptors enough;
  on = λ place e at.
      get_take (length events) descriptors place (access e) (slice_get_within events place (Core (Seen e)) at)
      (are.on place e (get_left events more place (Core (Seen e)) at));
  admissible = λ place e at. are.admissible place e (get_left events more place (Core (Seen e)) at);
}

pub beside_rest : (access : Element → Descriptor) (events : List Event2) (more : List Event2) (descriptors : List Descriptor)
    → AreBeside access (events ++ more) descriptors → length (drop (length events) descriptors) ≡ length more
    → AreBeside access more (drop (length events) descriptors)
beside_rest access events more descriptors are each = record {
  each = each;
  on = λ place e at.
      get_drop (length events) descriptors place ∙ are.on (length events + place) e (get_right events more place ∙ at);
  admissible = λ place e at. are.admissible (length events + place) e (get_right events more place ∙ at);
}

pub enough : (access : Element → Descriptor) (events : List Event2) (more : List Event2) (descriptors : List Descriptor)
    → AreBeside access (events ++ more) descriptors → length events ≤ length descriptors
enough access events more descriptors are =
    let all = length-append events more in
    let each = are.each in
    omega (arith, all, each)

pub beside_others : (access : Element → Descriptor) (events : List Event2) (more : List Event2) (descriptors : List Descriptor)
    → AreBeside access (events ++ more) descriptors → length (drop (length events) descriptors) + length events ≡ length descriptors
    → AreBeside access more (drop (length events) descriptors)
beside_others access events more descriptors are cut =
    let all = length-append events more in
    let each = are.each in
    let left : length (drop (length events) descriptors) ≡ length more = omega (arith, all, each, cut) in
    beside_rest access events more descriptors are left

-- a step at a place of a script
pub no_line : (setting : Setting) (g : Control) (first : ℕ) (script : List Line) (place : ℕ) (step : Step)
    → slice_get script place ≡ None → IsWrongStep setting g first script place step
no_line setting g first script place step none = record { never = λ line after at number is. absurd (apart line (sym none ∙ at)) }
  where
    apart : (line : Line) → None ≡ Some line → ⊥
    apart line e = cc

pub other_number : (setting : Setting) (g : Control) (first : ℕ) (script : List Line) (place : ℕ) (step : Step)
    → (step.0 ≡ first + place → ⊥) → IsWrongStep setting g first script place step
other_number setting g first script place step other = record { never = λ line after at number is. other number }

judged_step : (setting : Setting) (g : Control) (first : ℕ) (script : List Line) (place : ℕ) (line : Line) (step : Step)
    (after : Control) (told : Bool) → slice_get script place ≡ Some line → step.0 ≡ first + place
    → IsJudgedLine setting g line step.1 step.2 after told → IsJudgedStep setting g first script place step after told
judged_step setting g first script place line step after true at number right =
    record { line = line; at = at; number = number; right = right }
judged_step setting g first script place line step after false at number wrong = record {
  never = λ other last there same is.
      wrong.never last (subst (λ (l : Line). IsLine setting g l step.1 step.2 last) (one other line (sym there ∙ at)) is);
}
  where
    one : (a b : Line) → Some a ≡ Some b → a ≡ b
    one a b e = cc

pub step_judged : {Y : Type 0} (setting : Setting) (g : Control) (first : ℕ) (script : List Line) (place : ℕ) (line : Line)
    (step : Step) (after : Control) (r : Result Bool Y) → slice_get script place ≡ Some line → step.0 ≡ first + place
    → IfOk r (IsJudgedLine setting g line step.1 step.2 after) → IfOk r (IsJudgedStep setting g first script place step after)
step_judged setting g first script place line step after r at number =
    IfOk-weaker r (IsJudgedLine setting g line step.1 step.2 after) (IsJudgedStep setting g first script place step after)
    (λ told is. judged_step setting g first script place line step after told at number is)
