-- Steps are those of a part, whole or cut, where each of them is a line that may be next.
use Rattle.std.proofs.Common.{◌≡◌, ◌⊎◌, inl, inr, ℕ, zero, suc, ◌-◌, ◌<◌, ◌≤◌, Bool, true, false, List, [], ◌∷◌, ◌++◌, length, take, drop, Option, Some, None, IsSome, refl, sym, ◌∙◌, ap, subst, arith}
use Rattle.std.proofs.lemmas.List.{length-drop}
use Rattle.std.specs.List.{slice_get}
use Rattle.std.specs.Prelude.{is_some}
use Rattle.mx_parts.specs.FirstBad.{AreKept}
use Rattle.mx_parts.specs.Rests.{AreKeptOn, IsNext, is_denied}
use Rattle.mx_script.specs.declared.lines.Line.{Line}
use Rattle.mx_transcript.specs.Denials.{denial_of}
use Rattle.mx_transcript.specs.Lines.{IsLine}
use Rattle.mx_transcript.specs.Parts.{AreDone, AreLinesOf, IsCut, last_line}
use Rattle.mx_transcript.specs.Settings.{Setting}
use Rattle.mx_transcript.specs.Transcripts.{Step}
use Rattle.mx_upcall.specs.Control.{Control}

some_is : {A : Type 0} (x : Option A) → is_some x ≡ true → IsSome x
some_is None e = cc
some_is (Some a) e = refl

is_some_of : {A : Type 0} (x : Option A) → IsSome x → is_some x ≡ true
is_some_of None h = cc
is_some_of (Some a) h = refl

-- the last line stays the last where there is another before it
pub last_behind : (line : ℕ × Line) (lines : List (ℕ × Line)) → 1 ≤ length lines → last_line (line ∷ lines) ≡ last_line lines
last_behind line [] some = absurd (omega (arith, some))
last_behind line (next ∷ lines) some =
    let one : length (line ∷ next ∷ lines) - 1 ≡ suc (length (next ∷ lines) - 1) = omega arith in
    ap (λ (n : ℕ). drop n (line ∷ next ∷ lines)) one

-- there is one last line at most
last_alone : (line : ℕ × Line) (ran lines : List (ℕ × Line)) → line ∷ ran ≡ last_line lines → ran ≡ []
last_alone line [] lines e = refl
last_alone line (next ∷ ran) lines e =
    let long : length (line ∷ next ∷ ran) ≡ length lines - (length lines - 1) =
    ap (λ (l : List (ℕ × Line)). length l) e ∙ length-drop (length lines - 1) lines in
    absurd (omega (arith, long))

-- the lines that a part has from here on, where the line before was denied or not
abbrev AreLinesFrom : Bool → List (ℕ × Line) → List Step → List (ℕ × Line) → Type 0
AreLinesFrom denied lines steps ran = AreLinesOf lines steps ran ⊎ ((denied ≡ true) × (ran ≡ last_line lines))

record AreKeptFrom (s : Setting) (g : Control) (denied : Bool) (lines : List (ℕ × Line)) (steps : List Step) : Type 0 where
  ran : List (ℕ × Line)
  are : AreLinesFrom denied lines steps ran
  left : List (ℕ × Line)
  last : Control
  done : AreDone s g ran steps left last

-- with one more line before
later_cut : (line : ℕ × Line) (others ran : List (ℕ × Line)) (step : Step) (steps : List Step)
    → AreLinesOf others steps ran → AreLinesOf (line ∷ others) (step ∷ steps) (line ∷ ran)
later_cut line others ran step steps are = elim are [
  | inl whole ↦ inl (ap (λ (l : List (ℕ × Line)). line ∷ l) whole)
  | inr cut ↦
      let more = cut.more in
      inr (record {
        place = suc cut.place;
        step = cut.step;
        at = cut.at;
        denied = cut.denied;
        more = omega (arith, more);
        is = ap (λ (l : List (ℕ × Line)). line ∷ l)
            (cut.is ∙ ap (λ (l : List (ℕ × Line)). take (suc cut.place) others ++ l) (sym (last_behind line others (omega (arith, more)))));
      })
]

cut_here : (line : ℕ × Line) (others ran : List (ℕ × Line)) (step : Step) (steps : List Step) → is_denied step ≡ true
    → ran ≡ last_line others → AreLinesOf (line ∷ others) (step ∷ steps) (line ∷ ran)
cut_here line [] ran step steps denied is = inl (ap (λ (l : List (ℕ × Line)). line ∷ l) is)
cut_here line (next ∷ others) ran step steps denied is = inr (record {
  place = 0;
  step = step;
  at = refl;
  denied = some_is (denial_of step) denied;
  more = omega arith;
  is = ap (λ (l : List (ℕ × Line)). line ∷ l) (is ∙ sym (last_behind line (next ∷ others) (omega arith)));
})

more_lines : (line : ℕ × Line) (others ran : List (ℕ × Line)) (step : Step) (steps : List Step)
    → AreLinesFrom (is_denied step) others steps ran → AreLinesOf (line ∷ others) (step ∷ steps) (line ∷ ran)
more_lines line others ran step steps are = elim are [
  | inl are' ↦ later_cut line others ran step steps are'
  | inr behind ↦ cut_here line others ran step steps behind.0 behind.1
]

none_of_none : (denied : Bool) (steps : List Step) (ran : List (ℕ × Line)) → AreLinesFrom denied [] steps ran → ran ≡ []
none_of_none denied steps ran are = elim are [
  | inl of ↦ elim of [
    | inl whole ↦ whole
    | inr cut ↦ let more = cut.more in absurd (omega (arith, more))
  ]
  | inr behind ↦ behind.1
]

next_from : (s : Setting) (g : Control) (denied : Bool) (lines : List (ℕ × Line)) (line : ℕ × Line) (others : List (ℕ × Line))
    (step : Step) (steps : List Step) (after : Control) → IsNext denied lines line others → step.0 ≡ line.0
    → IsLine s g line.1 step.1 step.2 after → AreKeptFrom s after (is_denied step) others steps
    → AreKeptFrom s g denied lines (step ∷ steps)
next_from s g denied lines line others step steps after next number is rest = record {
  ran = line ∷ rest.ran;
  are = elim next [
    | inl first ↦ inl (subst (λ (l : List (ℕ × Line)). AreLinesOf l (step ∷ steps) (line ∷ rest.ran)) (sym first)
        (more_lines line others rest.ran step steps rest.are))
    | inr last ↦ inr (
      last.0,
      ap (λ (l : List (ℕ × Line)). line ∷ l) (none_of_none (is_denied step) steps rest.ran
          (subst (λ (l : List (ℕ × Line)). AreLinesFrom (is_denied step) l steps rest.ran) last.2 rest.are)) ∙ sym last.1,
    )
  ];
  left = rest.left;
  last = rest.last;
  done = (number, after, is, rest.done);
}

from_on : (s : Setting) (g : Control) (denied : Bool) (lines : List (ℕ × Line)) (steps : List Step)
    → AreKeptOn s g denied lines steps → AreKeptFrom s g denied lines steps
from_on s g denied lines [] kept = record { ran = lines; are = inl (inl refl); left = lines; last = g; done = (refl, refl) }
from_on s g denied lines (step ∷ steps) kept =
    next_from s g denied lines kept.0 kept.1 step steps kept.4 kept.2 kept.3 kept.5
    (from_on s kept.4 (is_denied step) kept.1 steps kept.6)

-- with one less
record HasOthers (denied : Bool) (lines : List (ℕ × Line)) (line : ℕ × Line) (step : Step) (steps : List Step)
    (ran : List (ℕ × Line)) : Type 0 where
  others : List (ℕ × Line)
  next : IsNext denied lines line others
  are : AreLinesFrom (is_denied step) others steps ran

head_is : {a b : ℕ × Line} {l m : List (ℕ × Line)} → a ∷ l ≡ b ∷ m → b ≡ a
head_is e = cc

tail_is : {a b : ℕ × Line} {l m : List (ℕ × Line)} → a ∷ l ≡ b ∷ m → l ≡ m
tail_is e = cc

some_same : {a b : Step} → Some a ≡ Some b → a ≡ b
some_same e = cc

cut_others : (denied : Bool) (lines : List (ℕ × Line)) (line : ℕ × Line) (step : Step) (steps : List Step) (ran : List (ℕ × Line))
    (place : ℕ) (cut : Step) → slice_get (step ∷ steps) place ≡ Some cut → IsSome (denial_of cut) → suc place < length lines
    → line ∷ ran ≡ take (suc place) lines ++ last_line lines → HasOthers denied lines line step steps ran
cut_others denied [] line step steps ran place cut at was more is = absurd (omega (arith, more))
cut_others denied (first ∷ lines) line step steps ran zero cut at was more is = record {
  others = lines;
  next = inl (ap (λ (l : ℕ × Line). l ∷ lines) (head_is is));
  are = inr (
    ap is_denied (some_same at) ∙ is_some_of (denial_of cut) was,
    tail_is is ∙ last_behind first lines (omega (arith, more)),
  );
}
cut_others denied (first ∷ lines) line step steps ran (suc place) cut at was more is = record {
  others = lines;
  next = inl (ap (λ (l : ℕ × Line). l ∷ lines) (head_is is));
  are = inl (inr (record {
    place = place;
    step = cut;
    at = at;
    denied = was;
    more = omega (arith, more);
    is = tail_is is ∙ ap (λ (l : List (ℕ × Line)). take (suc place) lines ++ l) (last_behind first lines (omega (arith, more)));
  }));
}

others_of : (denied : Bool) (lines : List (ℕ × Line)) (line : ℕ × Line) (step : Step) (steps : List Step) (ran : List (ℕ × Line))
    → AreLinesFrom denied lines (step ∷ steps) (line ∷ ran) → HasOthers denied lines line step steps ran
others_of denied lines line step steps ran are = elim are [
  | inl of ↦ elim of [
    | inl whole ↦ record { others = ran; next = inl (sym whole); are = inl (inl refl) }
    | inr cut ↦ cut_others denied lines line step steps ran cut.place cut.step cut.at cut.denied cut.more cut.is
  ]
  | inr behind ↦
      let none = last_alone line ran lines behind.1 in
      record {
        others = [];
        next = inr (behind.0, sym behind.1 ∙ ap (λ (l : List (ℕ × Line)). line ∷ l) none, refl);
        are = inl (inl none);
      }
]

on_from : (s : Setting) (g : Control) (denied : Bool) (lines : List (ℕ × Line)) (steps : List Step) (ran left : List (ℕ × Line))
    (last : Control) → AreLinesFrom denied lines steps ran → AreDone s g ran steps left last → AreKeptOn s g denied lines steps
on_from s g denied lines [] ran left last are done = tt
on_from s g denied lines (step ∷ steps) [] left last are done = absurd done
on_from s g denied lines (step ∷ steps) (line ∷ ran) left last are done =
    let rest = others_of denied lines line step steps ran are in (
      line,
      rest.others,
      rest.next,
      done.0,
      done.1,
      done.2,
      on_from s done.1 (is_denied step) rest.others steps ran left last rest.are done.3,
    )

pub onward : (s : Setting) (start : Control) (lines : List (ℕ × Line)) (steps : List Step) → AreKept s start lines steps
    → AreKeptOn s start false lines steps
onward s start lines steps kept = on_from s start false lines steps kept.ran kept.left kept.now (inl kept.are) kept.done

pub kept : (s : Setting) (start : Control) (lines : List (ℕ × Line)) (steps : List Step) → AreKeptOn s start false lines steps
    → AreKept s start lines steps
kept s start lines steps on =
    let from = from_on s start false lines steps on in record {
      ran = from.ran;
      are = elim from.are [
        | inl are ↦ are
        | inr behind ↦ let denied = behind.0 in absurd cc
      ];
      left = from.left;
      now = from.last;
      done = from.done;
    }

-- fewer steps
pub fewer : (s : Setting) (g : Control) (denied : Bool) (lines : List (ℕ × Line)) (steps : List Step) (k : ℕ)
    → AreKeptOn s g denied lines steps → AreKeptOn s g denied lines (take k steps)
fewer s g denied lines steps zero kept = tt
fewer s g denied lines [] (suc k) kept = tt
fewer s g denied lines (step ∷ steps) (suc k) kept = (
  kept.0,
  kept.1,
  kept.2,
  kept.3,
  kept.4,
  kept.5,
  fewer s kept.4 (is_denied step) kept.1 steps k kept.6,
)
