-- Laws of how transcripts are kept: one more event, and one more line.
use Rattle.std.proofs.Common.{◌≡◌, ℕ, suc, ◌+◌, ◌-◌, ◌≤◌, ◌<◌, min, nat_lt, IsTrue, List, [], ◌∷◌, ◌++◌, take, drop, length, refl, ap, sym, ◌∙◌, subst, arith}
use Rattle.std.proofs.lemmas.Bool.Decides.{nat_tests}
use Rattle.std.proofs.lemmas.List.{take-append-le, take_all, drop-append-le, drop_all, length-append, length-drop}
use Rattle.mx_transcript.specs.Recorded.{Recorded, steps_from, left_from, AreEnds, recorded, IsFew}
use Rattle.mx_transcript.specs.declared.transcripts.Event2.{Event2}
use Rattle.mx_transcript.specs.declared.transcripts.LineEnd.{LineEnd}

-- what one more event leaves
pub record IsLonger (begun : ℕ) (events : List Event2) (more : List Event2) (lines : List LineEnd) : Type 0 where
  pub ends : AreEnds begun (events ++ more) lines
  pub steps : steps_from begun (events ++ more) lines ≡ steps_from begun events lines
  pub left : left_from begun (events ++ more) lines ≡ left_from begun events lines ++ more

pub longer : (begun : ℕ) (events more : List Event2) (lines : List LineEnd) → AreEnds begun events lines → IsLonger begun events more lines
longer begun events more [] are = record { ends = are; steps = refl; left = refl }
longer begun events more (line ∷ lines) are =
    let within : line.end - begun ≤ length events = omega (arith, are.0, are.1) in
    let t : take (line.end - begun) (events ++ more) ≡ take (line.end - begun) events = take-append-le (line.end - begun) events more within in
    let d : drop (line.end - begun) (events ++ more) ≡ drop (line.end - begun) events ++ more = drop-append-le (line.end - begun) events more within in
    let rest = longer line.end (drop (line.end - begun) events) more lines are.2 in
    let n : length (events ++ more) ≡ length events + length more = length-append events more in
    record {
      ends = (are.0, omega (arith, n, are.1), rw d rest.ends);
      steps = rw (t, d, rest.steps) refl;
      left = rw (d, rest.left) refl;
    }

-- what one more line leaves
pub record HasEnded (begun : ℕ) (events : List Event2) (lines : List LineEnd) (line : LineEnd) : Type 0 where
  pub ends : AreEnds begun events (lines ++ line ∷ [])
  pub steps : steps_from begun events (lines ++ line ∷ []) ≡ steps_from begun events lines ++ (line.number, left_from begun events lines, line.result) ∷ []
  pub left : left_from begun events (lines ++ line ∷ []) ≡ []

pub ended : (begun : ℕ) (events : List Event2) (lines : List LineEnd) (line : LineEnd) → line.end ≡ begun + length events
    → AreEnds begun events lines → HasEnded begun events lines line
ended begun events [] line e are =
    let all : length events ≤ line.end - begun = omega (arith, e) in
    record {
      ends = (omega (arith, e), omega (arith, e), tt);
      steps = rw (take_all (line.end - begun) events all) refl;
      left = drop_all (line.end - begun) events all;
    }
ended begun events (first ∷ lines) line e are =
    let n : length (drop (first.end - begun) events) ≡ length events - (first.end - begun) = length-drop (first.end - begun) events in
    let rest = ended first.end (drop (first.end - begun) events) lines line (omega (arith, e, n, are.0, are.1)) are.2 in
    record {
      ends = (are.0, are.1, rest.ends);
      steps = rw rest.steps refl;
      left = rest.left;
    }

-- one more event of the line at work
pushed_below : (before : Recorded) (events more : List Event2) (event : Event2) (lines : List LineEnd) (most most' : ℕ) → IsFew events lines
    → recorded events lines most most' ≡ before → length events < min most 4294967295 → more ≡ events ++ event ∷ []
    → IsFew more lines × (steps_from 0 more lines ≡ before.steps) × (left_from 0 more lines ≡ before.events ++ event ∷ [])
pushed_below before events more event lines most most' are is few e =
    let on = longer 0 events (event ∷ []) lines are.ends in
    let n : length (events ++ event ∷ []) ≡ length events + 1 = length-append events (event ∷ []) in
    (record { few = rw (e, n) (omega arith); ends = rw e on.ends }, rw e on.steps ∙ ap (λ (r : Recorded). r.steps) is, rw e on.left ∙ ap (λ (r : Recorded). r.events ++ event ∷ []) is)

pub pushed : (before : Recorded) (events more : List Event2) (event : Event2) (lines : List LineEnd) (most most' : ℕ) → IsFew events lines
    → recorded events lines most most' ≡ before → IsTrue before.event_room → more ≡ events ++ event ∷ []
    → IsFew more lines × (steps_from 0 more lines ≡ before.steps) × (left_from 0 more lines ≡ before.events ++ event ∷ [])
pushed before events more event lines most most' are is room e =
    let room' : IsTrue (nat_lt (length events) (min most 4294967295)) = subst (λ (r : Recorded). IsTrue r.event_room) (sym is) room in
    let few : length events < min most 4294967295 = grind (arith, nat_tests) in
    pushed_below before events more event lines most most' are is few e

-- where so much room was made
pub kept_with : (before : Recorded) (events more : List Event2) (event : Event2) (lines : List LineEnd) (most most' : ℕ) → IsFew events lines
    → recorded events lines most most' ≡ before → 1 ≤ before.spare → more ≡ events ++ event ∷ []
    → IsFew more lines × (steps_from 0 more lines ≡ before.steps) × (left_from 0 more lines ≡ before.events ++ event ∷ [])
kept_with before events more event lines most most' are is room e =
    let spare : min most 4294967295 - length events ≡ before.spare = ap (λ (r : Recorded). r.spare) is in
    pushed_below before events more event lines most most' are is (omega (arith, spare, room)) e

-- the line at work has ended
pub has_ended : (before : Recorded) (events : List Event2) (lines more : List LineEnd) (line : LineEnd) (most most' : ℕ) → IsFew events lines
    → line.end ≡ length events → recorded events lines most most' ≡ before → more ≡ lines ++ line ∷ []
    → IsFew events more × (steps_from 0 events more ≡ before.steps ++ (line.number, before.events, line.result) ∷ []) × (left_from 0 events more ≡ [])
has_ended before events lines more line most most' are at is e =
    let on = ended 0 events lines line (at ∙ sym (none (length events))) are.ends in (
      record { few = are.few; ends = rw e on.ends },
      rw e on.steps ∙ ap (λ (r : Recorded). r.steps ++ (line.number, r.events, line.result) ∷ []) is,
      rw e on.left,
    )
  where
    none : (n : ℕ) → 0 + n ≡ n
    none n = omega arith

-- as many lines as ends
same_count : (begun : ℕ) (events : List Event2) (lines : List LineEnd) → length (steps_from begun events lines) ≡ length lines
same_count begun events [] = refl
same_count begun events (line ∷ lines) = ap suc (same_count line.end (drop (line.end - begun) events) lines)

pub as_many : (now : Recorded) (events : List Event2) (lines : List LineEnd) (most most' count : ℕ) → recorded events lines most most' ≡ now
    → count ≡ length lines → count ≡ length now.steps
as_many now events lines most most' count is e = e ∙ sym (same_count 0 events lines) ∙ ap (λ (r : Recorded). length r.steps) is
