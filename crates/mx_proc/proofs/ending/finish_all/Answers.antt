use Rattle.std.proofs.Common.{[], ◌∷◌, ap, arith, length, length-append, sym, subst, rules, ◌≡◌}
use Rattle.mx_closing.proofs.Returns.{taken}
use Rattle.mx_proc.proofs.EndLaws.{all_yielded, alone_more, audited_more, auditors_more, is_next, list_more, room_next, within_more, worked_more}
use Rattle.mx_proc.specs.Leaving.{AreAudited, AreUncutAlone, AreWithin, HaveWorked, pass_in, steps_in}
use Rattle.mx_proc.proofs.ending.finish_all.Goals as goal

pub finish-transcript-requires : goal.finish-transcript-requires
finish-transcript-requires g c =
    let was = c.loop-process.invariant in
    c.requires.done (length c.loop-process.yielded) c.in-Some.process
    (is_next c.args.row.items c.loop-process.yielded c.loop-process.process-iterator.rest.items c.next.new.self.rest.items
    c.in-Some.process was.all c.in-Some.ensures.steps.0)

pub put_back-requires : goal.put_back-requires
put_back-requires g c =
    let was = c.loop-process.invariant in
    let room = c.requires.space in
    let space = was.space in
    room_next g.A.Auditor.account g.B.Attending.accounts c.args.row.items c.loop-process.yielded c.in-Some.process
    c.finish-transcript.result.2 _ _ c.requires.place
    (is_next c.args.row.items c.loop-process.yielded c.loop-process.process-iterator.rest.items c.next.new.self.rest.items
    c.in-Some.process was.all c.in-Some.ensures.steps.0) c.finish-transcript.ensures.auditor was.few (omega (arith, room, space))

pub loop-process-preserved : goal.loop-process-preserved
loop-process-preserved g c =
    let was = c.loop-process.invariant in
    let x = g.B.Sitting.session in
    let yielded = c.loop-process.yielded in
    let rest = c.loop-process.process-iterator.rest.items in
    let rest' = c.next.new.self.rest.items in
    let v = c.in-Some.process in
    let next = c.in-Some.ensures.steps.0 in
    let left = c.finish-transcript.ensures in
    let transcript = c.finish-transcript.result.0 in
    let pass = c.finish-transcript.result.1 in
    let others = ap length next in
    let many = length-append yielded (v ∷ []) in record {
      all = taken c.args.row.items yielded rest rest' v was.all next;
      transcripts = list_more steps_in c.args.transcripts.now.items c.loop-process.transcripts.items c.put.new.list.items yielded v
          transcript c.put.ensures.items left.steps was.transcripts;
      passes = list_more pass_in c.args.passes.now.items c.loop-process.passes.items c.put-in-loop-process.new.list.items yielded v pass
          c.put-in-loop-process.ensures.items left.pass was.passes;
      auditors = auditors_more g.A.Auditor.account c.loop-process.auditors.items c.put_back.new.auditors.items yielded v
          c.finish-transcript.result.2 c.put_back.ensures.accounts left.auditor was.auditors;
      told = audited_more x g.B.Attending.accounts yielded v was.told c.tells_its_auditor.ensures.audited;
      alone = alone_more x g.B.Attending.accounts yielded v was.alone c.tells_its_auditor.ensures.alone;
      within = within_more x yielded v was.within c.tells_its_auditor.ensures.within;
      worked = worked_more x g.B.Sitting.setup yielded v transcript pass was.worked left.worked left.pass left.steps;
      steps = (let before = was.steps in let len = c.put.ensures.len in let room = c.put.ensures.capacity in
          omega (arith, before, len, room, others));
      views = (let before = was.views in let len = c.put-in-loop-process.ensures.len in let room = c.put-in-loop-process.ensures.capacity in
          omega (arith, before, len, room, others));
      few = (let before = was.few in let len = c.put_back.ensures.len in omega (arith, before, len, many));
      space = (let before = was.space in let room = c.put_back.ensures.space in omega (arith, before, room));
    }

pub returns-clause-told : goal.returns-clause-told
returns-clause-told g c =
    let none : length c.loop-process.process-iterator.rest.items ≡ 0 = search rules in
    let all = all_yielded c.args.row.items c.loop-process.yielded c.loop-process.process-iterator.rest.items
    c.loop-process.invariant.all none in
    subst (AreAudited g.B.Sitting.session g.B.Attending.accounts) (sym all) c.loop-process.invariant.told

pub returns-clause-alone : goal.returns-clause-alone
returns-clause-alone g c =
    let none : length c.loop-process.process-iterator.rest.items ≡ 0 = search rules in
    let all = all_yielded c.args.row.items c.loop-process.yielded c.loop-process.process-iterator.rest.items
    c.loop-process.invariant.all none in
    subst (AreUncutAlone g.B.Sitting.session g.B.Attending.accounts) (sym all) c.loop-process.invariant.alone

pub returns-clause-within : goal.returns-clause-within
returns-clause-within g c =
    let none : length c.loop-process.process-iterator.rest.items ≡ 0 = search rules in
    let all = all_yielded c.args.row.items c.loop-process.yielded c.loop-process.process-iterator.rest.items
    c.loop-process.invariant.all none in
    subst (AreWithin g.B.Sitting.session) (sym all) c.loop-process.invariant.within

pub returns-clause-worked : goal.returns-clause-worked
returns-clause-worked g c =
    let none : length c.loop-process.process-iterator.rest.items ≡ 0 = search rules in
    let all = all_yielded c.args.row.items c.loop-process.yielded c.loop-process.process-iterator.rest.items
    c.loop-process.invariant.all none in
    subst (HaveWorked g.B.Sitting.session g.B.Sitting.setup) (sym all) c.loop-process.invariant.worked
