use Rattle.std.proofs.Common.{◌≡◌, ◌∙◌, ◌+◌, ◌++◌, ◌∷◌, [], ◌<◌, List, length, map, take, rules, ap, sym, arith}
use Rattle.std.proofs.lemmas.List.{length-append, length-map}
use Rattle.mx_access.specs.Questions.{question_of, questions_from, turns_from}
use Rattle.mx_access.specs.declared.questions.Question.{Question}
use Rattle.mx_access.proofs.AllRowLaws.{events_at, part_is, starts_more}
use Rattle.mx_access.proofs.TurnLaws.{questions_more, turns_of_part}
use Rattle.mx_transcript.specs.Transcripts.{Step, part, events_of}
use Rattle.mx_access.proofs.questions.all_turns.Goals as goal

pub loop-p-preserved : goal.loop-p-preserved
loop-p-preserved c =
    let entries = c.args.entries in
    let transcripts = c.args.transcripts.now in
    let p = c.loop-p.p in
    let below : p < length transcripts = c.loop-p-test.true in
    let many : p < length (map events_of transcripts) = omega (arith, below, length-map transcripts events_of) in
    let events = events_of (part transcripts p) in
    let here = part_is transcripts p c.index-transcripts-p.result below c.index-transcripts-p.is in
    let before : List Question = questions_from entries 0 (take p (map events_of transcripts)) in
    let own : List Question = map (question_of entries p) events in
    let more = questions_more entries p (map events_of transcripts) events many (events_at transcripts p below) in
    let pushed : c.push.new.self.items ≡ c.loop-p.starts.items ++ c.loop-p.count ∷ [] = search rules in
    record {
      turns = turns_of_part before own _ c.loop-p.count c.loop-p.turns.items c.add_part.new.turns.items more
          c.loop-p.invariant.count c.loop-p.invariant.turns
          (c.in_ok-count.ensures.turns
          ∙ ap
          (λ (steps : List Step). c.loop-p.turns.items ++ turns_from c.loop-p.count (map (question_of entries p) (events_of steps)))
          here);
      count =
          c.in_ok-count.ensures.behind
          ∙ ap (λ (steps : List Step). c.loop-p.count + length (events_of steps)) here
          ∙ ap (λ n. n + length events) c.loop-p.invariant.count
          ∙ ap (λ n. length before + n) (sym (length-map events (question_of entries p)))
          ∙ sym (length-append before own)
          ∙ ap length (sym more);
      long = search arith;
      each = starts_more (λ q. length (questions_from entries 0 (take q (map events_of transcripts)))) c.loop-p.starts.items
          c.push.new.self.items c.loop-p.count p c.loop-p.invariant.long pushed c.loop-p.invariant.each c.loop-p.invariant.count;
    }
