-- Fewer lines of a part keep the rules where more do.
use Rattle.std.proofs.Common.{◌≡◌, ℕ, zero, suc, ◌+◌, ◌<◌, ◌≤◌, List, [], ◌∷◌, ◌++◌, length, take, refl, ap, sym, ◌∙◌, arith}
use Rattle.std.proofs.lemmas.List.{length-append}
use Rattle.mx_parts.proofs.KeptLaws.{fewer_kept}
use Rattle.mx_script.specs.Sessions.{Outline}
use Rattle.mx_state.specs.declared.journal.Entry as journaled
use Rattle.mx_transcript.specs.Legal.{setting_of}
use Rattle.mx_transcript.specs.Openings.{opening_control}
use Rattle.mx_transcript.specs.Scripts.{lines_of}
use Rattle.mx_transcript.specs.Transcripts.{Step, entries_named, events_of, part}
use Rattle.mx_transcript.specs.declared.transcripts.Event2.{Event2}
use Rattle.mx_transcript.proofs.Named.{named_append}
use Rattle.mx_legal.specs.BreachLaws.{FrontLaw}
use Rattle.mx_legal.specs.Fronts.{AreDoneTo, IsGoodTo, events_to}
use Rattle.mx_points.specs.Fronts.{AreNamedTo}

append_assoc : {A : Type 0} (a b c : List A) → (a ++ b) ++ c ≡ a ++ (b ++ c)
append_assoc [] b c = refl
append_assoc {A} (x ∷ a) b c = ap (λ (l : List A). x ∷ l) (append_assoc a b c)

-- more lines have the events of fewer, and others after them
record HasMore (more fewer : List Event2) : Type 0 where
  rest : List Event2
  is : more ≡ fewer ++ rest

more_events : (steps : List Step) (j k : ℕ) → j ≤ k → HasMore (events_of (take k steps)) (events_of (take j steps))
more_events steps zero k l = record { rest = events_of (take k steps); is = refl }
more_events steps (suc j) zero l = absurd (omega arith)
more_events [] (suc j) (suc k) l = record { rest = []; is = refl }
more_events (step ∷ steps) (suc j) (suc k) l =
    let more = more_events steps j k (omega arith) in
    record {
      rest = more.rest;
      is = ap (λ (events : List Event2). step.1 ++ events) more.is ∙ sym (append_assoc step.1 (events_of (take j steps)) more.rest);
    }

pub fewer_events : (steps : List Step) (j k : ℕ) → j ≤ k → events_to steps j ≤ events_to steps k
fewer_events steps j k l =
    let more = more_events steps j k l in
    let long : length (events_of (take k steps)) ≡ length (events_of (take j steps)) + length more.rest =
    ap (λ (events : List Event2). length events) more.is ∙ length-append (events_of (take j steps)) more.rest in
    omega arith

pub fewer_lines : (session : Outline) (journal : List journaled.Entry) (p : ℕ) (steps : List Step) (j k : ℕ) → j ≤ k
    → AreDoneTo session journal p steps k → AreDoneTo session journal p steps j
fewer_lines session journal p steps j k l are =
    fewer_kept (setting_of session journal p) (opening_control session p) (lines_of session p) steps j k l are

pub fewer_named : (journal : List journaled.Entry) (p : ℕ) (steps : List Step) (j k : ℕ) → j ≤ k
    → AreNamedTo journal p steps k → AreNamedTo journal p steps j
fewer_named journal p steps j k l are =
    let more = more_events steps j k l in
    record {
      later = entries_named more.rest ++ are.later;
      named = are.named
          ∙ ap (λ (events : List Event2). entries_named events ++ are.later) more.is
          ∙ ap (λ (numbers : List ℕ). numbers ++ are.later) (named_append (events_of (take j steps)) more.rest)
          ∙ append_assoc (entries_named (events_of (take j steps))) (entries_named more.rest) are.later;
    }

pub front_law : FrontLaw
front_law session journal transcripts p j k l good =
    let fewer = fewer_events (part transcripts p) j k l in
    record {
      lines = fewer_lines session journal p (part transcripts p) j k l good.lines;
      named = fewer_named journal p (part transcripts p) j k l good.named;
      setup = λ first place step h at. good.setup first place step (omega (arith, h)) at;
      no_early_full = λ place later full step h at ended after there.
          good.no_early_full place later full step (omega (arith, h)) at ended after there;
      misses = λ place segno by h at. good.misses place segno by (omega (arith, h, fewer)) at;
      points = λ place deed q h at point. good.points place deed q (omega (arith, h, fewer)) at point;
      reads = record {
        source = good.reads.source;
        right = λ read has own h. good.reads.right read has own (omega (arith, h, fewer));
      };
    }
