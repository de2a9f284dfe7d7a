use Rattle.std.proofs.Common.{◌++◌, ◌∷◌, ◌+◌, [], ◌∙◌, length, refl, subst}
use Rattle.mx_line.specs.Processes.{Takes}
use Rattle.mx_line.specs.declared.at_work.LineAtWork.TheVariants.{At, Ended}
use Rattle.mx_line.specs.declared.operands.Progress.{Progress}
use Rattle.mx_process.proofs.turns.take_by.Goals as goal

pub returns-in-At-clause-taken : goal.returns-in-At-clause-taken
returns-in-At-clause-taken c = record {
  work = At c.in-At.progress;
  takes = subst (λ (r : Progress). Takes c.args.state.now.control c.args.line.now r c.args.element.now c.args.desc.now (At c.in-At.progress))
      c.replace-progress.ensures.value
      (record { taken = c.in-At.ensures.taken; good = c.in-At.ensures.good; nearer = c.in-At.ensures.nearer });
  comes = (
    refl,
    record {
      first = refl;
      control = refl;
      steps = c.keep.ensures.steps;
      events = c.keep.ensures.events;
      progress = refl;
      room = c.keep.ensures.room;
    },
  );
}

pub returns-in-Ended-clause-taken : goal.returns-in-Ended-clause-taken
returns-in-Ended-clause-taken c =
    let ended = c.end_line.ensures.ended in record {
      work = Ended c.in-Ended.end;
      takes = subst (λ (r : Progress). Takes c.args.state.now.control c.args.line.now r c.args.element.now c.args.desc.now (Ended c.in-Ended.end))
          c.replace-progress.ensures.value
          (record { taken = c.in-Ended.ensures.taken; good = c.in-Ended.ensures.good; nearer = c.in-Ended.ensures.nearer });
      comes = (
        refl,
        record {
          first = ended.first;
          control = ended.control;
          steps = ended.steps
              ∙ (λ i. c.keep.ensures.steps i ++ (
                c.args.state.now.first + length (c.keep.ensures.steps i),
                c.keep.ensures.events i,
                c.in-Ended.end.ends,
              ) ∷ []);
          idle = ended.idle;
          progress = ended.progress;
        },
      );
    }
