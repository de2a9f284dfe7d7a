use Rattle.std.proofs.Common.{◌++◌, ◌∷◌, ◌+◌, [], ◌∙◌, length, refl, subst, sym}
use Rattle.mx_state.specs.Told.{IsLinkedWithin}
use Rattle.mx_line.specs.declared.at_work.LineAtWork.TheVariants.{At, Ended, Nowhere}
use Rattle.mx_process.proofs.AnswerLaws.{within_plainest}
use Rattle.mx_process.proofs.EntryLaws.{IsToldSo, left_so, stands_so}
use Rattle.mx_process.proofs.entries.take_reply.Goals as goal

pub answered-work-requires-clause-linked : goal.answered-work-requires-clause-linked
answered-work-requires-clause-linked c =
    subst IsLinkedWithin (sym c.reply_like-reply.ensures)
    (within_plainest c.requires.replied.entry c.args.answer.now c.requires.replied.told c.requires.replied.linked)

pub returns-in-At-clause-answered : goal.returns-in-At-clause-answered
returns-in-At-clause-answered c =
    let taken : IsToldSo c.args.state.now.control c.args.line.now c.reply_like-reply.result (At c.in-At.progress) c.args.state.now.progress
    = subst (IsToldSo c.args.state.now.control c.args.line.now c.reply_like-reply.result (At c.in-At.progress))
    c.replace-progress.ensures.value c.in-At.ensures.taken in
    record {
      work = At c.in-At.progress;
      stands = stands_so c.args.state.now c.args.line.now c.args.answer.now c.reply_like-reply.result (At c.in-At.progress)
          c.reply_like-reply.ensures taken;
      left = left_so c.args.state.now c.args.line.now c.args.answer.now c.reply_like-reply.result (At c.in-At.progress)
          c.reply_like-reply.ensures taken c.requires.replied;
      goes = record {
        first = refl;
        control = refl;
        steps = c.keep.ensures.steps;
        events = c.keep.ensures.events;
        progress = refl;
        room = c.keep.ensures.room;
      };
    }

pub returns-in-Ended-clause-answered : goal.returns-in-Ended-clause-answered
returns-in-Ended-clause-answered c =
    let ended = c.end_line.ensures.ended in
    let taken : IsToldSo c.args.state.now.control c.args.line.now c.reply_like-reply.result (Ended c.in-Ended.end) c.args.state.now.progress
    = subst (IsToldSo c.args.state.now.control c.args.line.now c.reply_like-reply.result (Ended c.in-Ended.end))
    c.replace-progress.ensures.value c.in-Ended.ensures.taken in
    record {
      work = Ended c.in-Ended.end;
      stands = stands_so c.args.state.now c.args.line.now c.args.answer.now c.reply_like-reply.result (Ended c.in-Ended.end)
          c.reply_like-reply.ensures taken;
      left = left_so c.args.state.now c.args.line.now c.args.answer.now c.reply_like-reply.result (Ended c.in-Ended.end)
          c.reply_like-reply.ensures taken c.requires.replied;
      goes = record {
        first = ended.first;
        control = ended.control;
        steps = ended.steps
            ∙ (λ i. c.keep.ensures.steps i ++ (
              c.args.state.now.first + length (c.keep.ensures.steps i),
              c.keep.ensures.events i,
              c.in-Ended.end.ends,
            ) ∷ []);
        idle = ended.idle;
        progress = ended.progress;
      };
    }

pub unreachable-requires : goal.unreachable-requires
unreachable-requires c =
    let taken : IsToldSo c.args.state.now.control c.args.line.now c.reply_like-reply.result Nowhere c.args.state.now.progress
    = subst (IsToldSo c.args.state.now.control c.args.line.now c.reply_like-reply.result Nowhere)
    c.replace-progress.ensures.value c.in-Nowhere.ensures.taken in
    left_so c.args.state.now c.args.line.now c.args.answer.now c.reply_like-reply.result Nowhere c.reply_like-reply.ensures taken
    c.requires.replied
