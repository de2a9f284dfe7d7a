use Rattle.std.proofs.Common.{ℕ, false, List, length, map, subst, sym, arith, rules}
use Rattle.std.specs.Prelude.{take}
use Rattle.std.proofs.lemmas.Option.{slice_get-get_or}
use Rattle.std.specs.List.{slice_index_or}
use Rattle.mx_access.specs.declared.questions.Question.{Question}
use Rattle.mx_access.specs.declared.questions.Turn.{Turn}
use Rattle.mx_access.specs.Passing.{IsAsked}
use Rattle.mx_access.specs.Questions.{asked_of}
use Rattle.mx_state.specs.History.{replay}
use Rattle.mx_state.specs.Plain.{Plain}
use Rattle.mx_transcript.specs.Opened.{opening_of}
use Rattle.mx_access.proofs.PassLaws.{all_told, none_told, not_before_next, told_more, turn_asked, turn_there, turn_within}
use Rattle.mx_access.proofs.TurnLaws.{questions_within}
use Rattle.mx_transcript.specs.Transcripts.{events_of}
use Rattle.mx_access.proofs.passing.answer_turns.Goals as goal

pub loop-k-init : goal.loop-k-init
loop-k-init g c = record {
  is_at = c.requires.is_at;
  onward = λ k t after found. omega arith;
  latest = search rules;
  told = none_told _ _ _ _ _ c.requires.long;
}

pub go_to-requires-clause-onward : goal.go_to-requires-clause-onward
go_to-requires-clause-onward g c =
    let none : Turn = record { point = 0; at = 0; process = 0; segno = 0; word = 0; is_before = false } in
    c.loop-k.invariant.onward c.loop-k.k (slice_index_or c.args.turns.now c.loop-k.k none) (omega arith)
    (slice_get-get_or c.args.turns.now c.loop-k.k none c.loop-k-test.true)

pub go_to-requires-clause-within : goal.go_to-requires-clause-within
go_to-requires-clause-within g c =
    let asked : List Question = asked_of (length c.args.entries.now) c.args.transcripts.now in
    let none : Turn = record { point = 0; at = 0; process = 0; segno = 0; word = 0; is_before = false } in
    turn_within (length c.args.entries.now) asked (slice_index_or c.args.turns.now c.loop-k.k none)
    (turn_there asked (length asked) c.args.turns.now c.loop-k.k none c.requires.turns c.loop-k-test.true)
    (questions_within (length c.args.entries.now) 0 (map events_of c.args.transcripts.now))

pub tell-requires-clause-processes : goal.tell-requires-clause-processes
tell-requires-clause-processes g c = c.in_ok-go_to.ensures.processes

pub tell-requires-clause-latest : goal.tell-requires-clause-latest
tell-requires-clause-latest g c =
    let at : ℕ → Plain = λ k. replay (opening_of c.args.session.now) (take k c.args.entries.now) in
    subst (λ (s : Plain). IsAsked s c.asked_at-latest.result) (sym c.in_ok-go_to.ensures.state)
    (c.asked_at-latest.ensures at
    (subst (λ (s : Plain). IsAsked s c.loop-k.latest) c.loop-k.invariant.is_at.state c.loop-k.invariant.latest))

pub tell-requires-clause-answer : goal.tell-requires-clause-answer
tell-requires-clause-answer g c =
    let asked : List Question = asked_of (length c.args.entries.now) c.args.transcripts.now in
    let none : Turn = record { point = 0; at = 0; process = 0; segno = 0; word = 0; is_before = false } in
    omega (
      arith,
      c.loop-k.invariant.told.long,
      turn_asked asked (slice_index_or c.args.turns.now c.loop-k.k none)
          (turn_there asked (length asked) c.args.turns.now c.loop-k.k none c.requires.turns c.loop-k-test.true),
    )

pub loop-k-preserved : goal.loop-k-preserved
loop-k-preserved g c =
    let asked : List Question = asked_of (length c.args.entries.now) c.args.transcripts.now in
    let none : Turn = record { point = 0; at = 0; process = 0; segno = 0; word = 0; is_before = false } in
    let t : Turn = slice_index_or c.args.turns.now c.loop-k.k none in
    let found = slice_get-get_or c.args.turns.now c.loop-k.k none c.loop-k-test.true in
    record {
      is_at = c.in_ok-go_to.ensures;
      onward = not_before_next c.args.turns.now c.loop-k.k t c.requires.ordered found;
      told = told_more _ _ asked c.args.turns.now c.loop-k.k t _ _ _ _ c.requires.few found
          (turn_there asked (length asked) c.args.turns.now c.loop-k.k none c.requires.turns c.loop-k-test.true)
          c.in_ok-go_to.ensures c.tell.ensures.told c.loop-k.invariant.told;
      latest = c.tell.ensures.latest;
    }

pub returns : goal.returns
returns g c =
    let asked : List Question = asked_of (length c.args.entries.now) c.args.transcripts.now in
    all_told _ _ asked c.args.turns.now c.loop-k.k c.loop-k.answers c.loop-k-test.false c.requires.turns c.loop-k.invariant.told
