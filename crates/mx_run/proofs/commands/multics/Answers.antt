use Rattle.std.proofs.Common.{ℕ, List, Err, ap, inl, inr, map, refl, subst, sym, ◌∙◌}
use Rattle.std.specs.String.{string_bytes}
use Rattle.mx_run.proofs.VerdictLaws.{due_of, done_of, front_of}
use Rattle.mx_run.specs.Statuses.{IsDueStatus}
use Rattle.mx_run.specs.Verdicts.{verdict_status}
use Rattle.mx_run.proofs.commands.multics.Goals as goal

pub returns-in-Ok-tell-clause-due : goal.returns-in-Ok-tell-clause-due
returns-in-Ok-tell-clause-due g c = λ spelled told.
    let words : List (List ℕ) = map string_bytes c.args.words.now in
    inr (subst (λ (n : ℕ). IsDueStatus words spelled n) (sym c.into_status.ensures)
    (due_of c.a_judgement_has_the_due_status.ensures words spelled (g.S.Source.left c.args.source.now) (g.S.Source.left c.reach.new.source) _ _ c.in-Ok.verdict c.in-Ok.ensures.grown told
    c.in-Ok.ensures.right))

pub returns-in-Ok-tell-clause-done : goal.returns-in-Ok-tell-clause-done
returns-in-Ok-tell-clause-done g c = λ zero.
    let words : List (List ℕ) = map string_bytes c.args.words.now in
    done_of words (g.S.Source.left c.args.source.now) (g.S.Source.left c.reach.new.source) (g.K.Sink.out c.args.sink.now)
    (g.K.Sink.out c.tell.new.sink) _ _ c.in-Ok.verdict c.in-Ok.ensures.grown c.in-Ok.ensures.right c.in-Ok-tell.ensures.all
    (sym c.into_status.ensures ∙ zero)

pub returns-in-Ok-clause-out_of_memory : goal.returns-in-Ok-clause-out_of_memory
returns-in-Ok-clause-out_of_memory g c = λ one.
    let words : List (List ℕ) = map string_bytes c.args.words.now in
    elim (c.in-Err-Memory-tell.ensures.unwritten (ap Err c.in-Err-Memory-tell.field-0-is)) [
      | inl same ↦ inl same
      | inr front ↦ inr (front_of words (g.S.Source.left c.args.source.now) (g.S.Source.left c.reach.new.source)
          (g.K.Sink.out c.args.sink.now) (g.K.Sink.out c.tell.new.sink) _ _ c.in-Ok.verdict c.in-Ok.ensures.grown c.in-Ok.ensures.right
          (c.in-Err-Memory-tell.ensures.run (ap Err c.in-Err-Memory-tell.field-0-is)) front)
    ]

pub returns-in-Err-Fault-tell-clause-cut_short : goal.returns-in-Err-Fault-tell-clause-cut_short
returns-in-Err-Fault-tell-clause-cut_short g c = λ e. (
  verdict_status c.in-Ok.verdict,
  record {
    verdict = c.in-Ok.verdict;
    right = c.in-Ok.ensures.right;
    status_is = refl;
    printed = c.in-Err-Fault-tell.ensures.part (ap Err c.in-Err-Fault-tell.field-0-is);
  },
)
