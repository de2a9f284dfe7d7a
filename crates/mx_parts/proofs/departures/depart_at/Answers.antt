use Rattle.std.proofs.Common.{◌≡◌, ◌+◌, ◌<◌, ◌≤◌, ℕ, true, List, [], ◌∷◌, ◌++◌, length, take, drop, sym, ◌∙◌, subst, arith, rules}
use Rattle.std.proofs.lemmas.Option.{slice_get_within}
use Rattle.mx_sdw.specs.Descriptors.{Descriptor}
use Rattle.mx_transcript.specs.Access.{descriptor_of}
use Rattle.mx_transcript.specs.Legal.{setting_of}
use Rattle.mx_transcript.specs.Transcripts.{Step, events_of}
use Rattle.mx_parts.proofs.NextLaws.{here_ahead}
use Rattle.mx_parts.proofs.PartLaws.{beside_first, beside_others, enough}
use Rattle.mx_parts.specs.Ends.{IsJudgedStep, IsRightStep}
use Rattle.mx_parts.specs.FirstBad.{AreBeside}
use Rattle.mx_parts.proofs.departures.depart_at.Goals as goal

pub is_right_step-requires-clause-beside : goal.is_right_step-requires-clause-beside
is_right_step-requires-clause-beside c =
    let access = descriptor_of c.args.setting.now.session.now c.args.setting.now.journal.now c.args.setting.now.process in
    let next : c.loop-number.number-iterator ≡ (c.in-Some.number, c.in-Some.events.now, c.in-Some.ends) ∷ c.next.new.self = search rules in
    let front : c.split_at.result.0.now ≡ take (length c.in-Some.events.now) c.loop-number.left.now = search rules in
    let beside : AreBeside access (c.in-Some.events.now ++ events_of c.next.new.self) c.loop-number.left.now
    = subst (λ (steps : List Step). AreBeside access (events_of steps) c.loop-number.left.now) next c.loop-number.invariant.beside in
    subst (AreBeside access c.in-Some.events.now) (sym front)
    (beside_first access c.in-Some.events.now (events_of c.next.new.self) c.loop-number.left.now beside
    (enough access c.in-Some.events.now (events_of c.next.new.self) c.loop-number.left.now beside))

pub departure_of-requires-clause-beside : goal.departure_of-requires-clause-beside
departure_of-requires-clause-beside c =
    let access = descriptor_of c.args.setting.now.session.now c.args.setting.now.journal.now c.args.setting.now.process in
    let next : c.loop-number.number-iterator ≡ (c.in-Some.number, c.in-Some.events.now, c.in-Some.ends) ∷ c.next.new.self = search rules in
    let front : c.split_at.result.0.now ≡ take (length c.in-Some.events.now) c.loop-number.left.now = search rules in
    let beside : AreBeside access (c.in-Some.events.now ++ events_of c.next.new.self) c.loop-number.left.now
    = subst (λ (steps : List Step). AreBeside access (events_of steps) c.loop-number.left.now) next c.loop-number.invariant.beside in
    subst (AreBeside access c.in-Some.events.now) (sym front)
    (beside_first access c.in-Some.events.now (events_of c.next.new.self) c.loop-number.left.now beside
    (enough access c.in-Some.events.now (events_of c.next.new.self) c.loop-number.left.now beside))

pub loop-number-preserved : goal.loop-number-preserved
loop-number-preserved c =
    let setting = setting_of c.args.setting.now.session.now c.args.setting.now.journal.now c.args.setting.now.process in
    let access = descriptor_of c.args.setting.now.session.now c.args.setting.now.journal.now c.args.setting.now.process in
    let step : Step = (c.in-Some.number, c.in-Some.events.now, c.in-Some.ends) in
    let now = c.loop-number.process.control in
    let next : c.loop-number.number-iterator ≡ (c.in-Some.number, c.in-Some.events.now, c.in-Some.ends) ∷ c.next.new.self = search rules in
    let told : c.in_ok-is_right_step.field-0 ≡ true = search rules in
    let right : IsRightStep setting now c.loop-number.process.first c.args.script.now c.place_for-here.result step c.is_right_step.new.process.control
    = subst (IsJudgedStep setting now c.loop-number.process.first c.args.script.now c.place_for-here.result step c.is_right_step.new.process.control)
    told c.in_ok-is_right_step.ensures.judged in
    let within : c.place_for-here.result < length c.args.script.now =
    slice_get_within c.args.script.now c.place_for-here.result right.line right.at in
    let onward = here_ahead c.loop-number.process.first (length c.args.script.now) c.loop-number.ahead c.loop-number.denied c.in-Some.number in
    let here = c.place_for-here.ensures in
    let few = c.loop-number.invariant.few in
    let back : c.split_at.result.1.now ≡ drop (length c.in-Some.events.now) c.loop-number.left.now = search rules in
    let cut : length c.split_at.result.1.now + length c.in-Some.events.now ≡ length c.loop-number.left.now = search rules in
    let beside : AreBeside access (c.in-Some.events.now ++ events_of c.next.new.self) c.loop-number.left.now
    = subst (λ (steps : List Step). AreBeside access (events_of steps) c.loop-number.left.now) next c.loop-number.invariant.beside in
    record {
      packable = right.right.packable;
      beside = subst (AreBeside access (events_of c.next.new.self)) (sym back)
          (beside_others access c.in-Some.events.now (events_of c.next.new.self) c.loop-number.left.now beside
          (subst (λ (ds : List Descriptor). length ds + length c.in-Some.events.now ≡ length c.loop-number.left.now) back cut));
      within = omega (arith, within);
      few = omega (arith, onward, here, few);
    }
