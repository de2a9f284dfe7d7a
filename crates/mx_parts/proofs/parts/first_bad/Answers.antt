use Rattle.std.proofs.Common.{◌≡◌, ◌+◌, ◌<◌, ◌≤◌, ℕ, Bool, true, false, List, [], ◌∷◌, ◌++◌, length, take, drop, sym, ◌∙◌, ap, subst, arith, rules}
use Rattle.std.proofs.lemmas.Option.{slice_get_within}
use Rattle.mx_script.specs.declared.lines.Line.{Line}
use Rattle.mx_sdw.specs.Descriptors.{Descriptor}
use Rattle.mx_transcript.specs.Access.{descriptor_of}
use Rattle.mx_transcript.specs.Legal.{setting_of}
use Rattle.mx_transcript.specs.Openings.{opening_control}
use Rattle.mx_transcript.specs.Scripts.{numbered}
use Rattle.mx_transcript.specs.Transcripts.{Step, events_of}
use Rattle.mx_parts.proofs.NextLaws.{here_ahead}
use Rattle.mx_parts.proofs.PartLaws.{all_kept, bad_at, beside_first, beside_others, enough, more_at}
use Rattle.mx_parts.specs.Ends.{IsJudgedStep, IsRightStep, IsWrongStep}
use Rattle.mx_parts.specs.FirstBad.{AreBeside, AreKept, IsFirstBad}
use Rattle.mx_parts.specs.Rests.{AreRightBy, place_for}
use Rattle.mx_parts.proofs.parts.first_bad.Goals as goal

pub is_right_step-requires-clause-beside : goal.is_right_step-requires-clause-beside
is_right_step-requires-clause-beside c =
    let access = descriptor_of c.args.setting.now.session.now c.args.setting.now.journal.now c.args.setting.now.process in
    let next : c.loop-number.number-iterator ≡ (c.in-Some.number, c.in-Some.events.now, c.in-Some.ends) ∷ c.next.new.self = search rules in
    let front : c.split_at.result.0.now ≡ take (length c.in-Some.events.now) c.loop-number.left.now = search rules in
    let beside : AreBeside access (c.in-Some.events.now ++ events_of c.next.new.self) c.loop-number.left.now
    = subst (λ (steps : List Step). AreBeside access (events_of steps) c.loop-number.left.now) next c.loop-number.invariant.beside in
    subst (AreBeside access c.in-Some.events.now) (sym front)
    (beside_first access c.in-Some.events.now (events_of c.next.new.self) c.loop-number.left.now beside
    (enough access c.in-Some.events.now (events_of c.next.new.self) c.loop-number.left.now beside))

pub returns-then-not-branch : goal.returns-then-not-branch
returns-then-not-branch c =
    let setting = setting_of c.args.setting.now.session.now c.args.setting.now.journal.now c.args.setting.now.process in
    let start = opening_control c.args.setting.now.session.now c.args.setting.now.process in
    let step : Step = (c.in-Some.number, c.in-Some.events.now, c.in-Some.ends) in
    let now = c.loop-number.process.control in
    let next : c.loop-number.number-iterator ≡ (c.in-Some.number, c.in-Some.events.now, c.in-Some.ends) ∷ c.next.new.self = search rules in
    let told : c.in_ok-is_right_step.field-0 ≡ false = search rules in
    let here : c.place_for-here.result ≡ place_for c.args.first (length c.args.script.now) c.loop-number.ahead c.loop-number.denied c.in-Some.number
    = c.place_for-here.ensures
    ∙ ap (λ (first : ℕ). place_for first (length c.args.script.now) c.loop-number.ahead c.loop-number.denied c.in-Some.number)
    c.loop-number.invariant.first in
    let wrong : IsWrongStep setting now c.args.first c.args.script.now c.place_for-here.result step
    = subst (λ (first : ℕ). IsWrongStep setting now first c.args.script.now c.place_for-here.result step) c.loop-number.invariant.first
    (subst (IsJudgedStep setting now c.loop-number.process.first c.args.script.now c.place_for-here.result step c.is_right_step.new.process.control)
    told c.in_ok-is_right_step.ensures.judged) in
    subst (λ (lines : List (ℕ × Line)). IsFirstBad setting start lines c.args.transcript.now c.loop-number.place) (sym c.requires.lines)
    (bad_at setting start c.args.first c.args.script.now c.args.transcript.now c.loop-number.place c.loop-number.ahead
    c.place_for-here.result c.loop-number.denied step c.next.new.self c.loop-number.number-iterator now next here
    c.loop-number.invariant.right wrong)

pub loop-number-preserved : goal.loop-number-preserved
loop-number-preserved c =
    let setting = setting_of c.args.setting.now.session.now c.args.setting.now.journal.now c.args.setting.now.process in
    let access = descriptor_of c.args.setting.now.session.now c.args.setting.now.journal.now c.args.setting.now.process in
    let start = opening_control c.args.setting.now.session.now c.args.setting.now.process in
    let step : Step = (c.in-Some.number, c.in-Some.events.now, c.in-Some.ends) in
    let now = c.loop-number.process.control in
    let next : c.loop-number.number-iterator ≡ (c.in-Some.number, c.in-Some.events.now, c.in-Some.ends) ∷ c.next.new.self = search rules in
    let told : c.in_ok-is_right_step.field-0 ≡ true = search rules in
    let right : IsRightStep setting now c.args.first c.args.script.now c.place_for-here.result step c.is_right_step.new.process.control
    = subst (λ (first : ℕ). IsRightStep setting now first c.args.script.now c.place_for-here.result step c.is_right_step.new.process.control)
    c.loop-number.invariant.first
    (subst (IsJudgedStep setting now c.loop-number.process.first c.args.script.now c.place_for-here.result step c.is_right_step.new.process.control)
    told c.in_ok-is_right_step.ensures.judged) in
    let within : c.place_for-here.result < length c.args.script.now =
    slice_get_within c.args.script.now c.place_for-here.result right.line right.at in
    let onward = here_ahead c.loop-number.process.first (length c.args.script.now) c.loop-number.ahead c.loop-number.denied c.in-Some.number in
    let here = c.place_for-here.ensures in
    let here' : c.place_for-here.result ≡ place_for c.args.first (length c.args.script.now) c.loop-number.ahead c.loop-number.denied c.in-Some.number
    = here
    ∙ ap (λ (first : ℕ). place_for first (length c.args.script.now) c.loop-number.ahead c.loop-number.denied c.in-Some.number)
    c.loop-number.invariant.first in
    let few = c.loop-number.invariant.few in
    let back : c.split_at.result.1.now ≡ drop (length c.in-Some.events.now) c.loop-number.left.now = search rules in
    let cut : length c.split_at.result.1.now + length c.in-Some.events.now ≡ length c.loop-number.left.now = search rules in
    let beside : AreBeside access (c.in-Some.events.now ++ events_of c.next.new.self) c.loop-number.left.now
    = subst (λ (steps : List Step). AreBeside access (events_of steps) c.loop-number.left.now) next c.loop-number.invariant.beside in
    record {
      right = subst
          (λ (denied : Bool). AreRightBy setting start (numbered c.args.first c.args.script.now) c.args.transcript.now (c.loop-number.place + 1)
          denied (drop (c.place_for-here.result + 1) (numbered c.args.first c.args.script.now)) c.next.new.self c.is_right_step.new.process.control)
          (sym (c.is_denied-denied.ensures c.in-Some.number))
          (more_at c.one_outcome_law.ensures setting start c.args.first c.args.script.now c.args.transcript.now c.loop-number.place
          c.loop-number.ahead c.place_for-here.result c.loop-number.denied step c.next.new.self c.loop-number.number-iterator now
          c.is_right_step.new.process.control next here' c.loop-number.invariant.right right);
      packable = right.right.packable;
      beside = subst (AreBeside access (events_of c.next.new.self)) (sym back)
          (beside_others access c.in-Some.events.now (events_of c.next.new.self) c.loop-number.left.now beside
          (subst (λ (ds : List Descriptor). length ds + length c.in-Some.events.now ≡ length c.loop-number.left.now) back cut));
      first = c.is_right_step.ensures.first ∙ c.loop-number.invariant.first;
      within = omega (arith, within);
      few = omega (arith, onward, here, few);
    }

pub returns : goal.returns
returns c =
    let setting = setting_of c.args.setting.now.session.now c.args.setting.now.journal.now c.args.setting.now.process in
    let start = opening_control c.args.setting.now.session.now c.args.setting.now.process in
    let none : c.loop-number.number-iterator ≡ [] = search rules in
    subst (λ (lines : List (ℕ × Line)). AreKept setting start lines c.args.transcript.now) (sym c.requires.lines)
    (all_kept setting start (numbered c.args.first c.args.script.now) c.args.transcript.now c.loop-number.place
    c.loop-number.denied (drop c.loop-number.ahead (numbered c.args.first c.args.script.now)) c.loop-number.number-iterator
    c.loop-number.process.control none
    c.loop-number.invariant.right)
