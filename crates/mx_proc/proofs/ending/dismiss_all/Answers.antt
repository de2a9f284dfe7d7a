use Rattle.std.proofs.Common.{[], ◌∷◌, arith, length, length-append, sym, subst, rules, ◌≡◌}
use Rattle.mx_closing.proofs.Returns.{taken}
use Rattle.mx_proc.proofs.EndLaws.{all_yielded, audited_more, auditors_more, is_next, room_next}
use Rattle.mx_proc.specs.Leaving.{AreAudited}
use Rattle.mx_proc.proofs.ending.dismiss_all.Goals as goal

pub put_back-requires : goal.put_back-requires
put_back-requires g c =
    let was = c.loop-process.invariant in
    let room = c.requires.space in
    let space = was.space in
    room_next g.A.Auditor.account g.B.Attending.accounts c.args.row.items c.loop-process.yielded c.in-Some.process
    c.dismiss.result _ _ c.requires.place
    (is_next c.args.row.items c.loop-process.yielded c.loop-process.process-iterator.rest.items c.next.new.self.rest.items
    c.in-Some.process was.all c.in-Some.ensures.steps.0) c.dismiss.ensures was.few (omega (arith, room, space))

pub loop-process-preserved : goal.loop-process-preserved
loop-process-preserved g c =
    let was = c.loop-process.invariant in
    let yielded = c.loop-process.yielded in
    let v = c.in-Some.process in
    let many = length-append yielded (v ∷ []) in record {
      all = taken c.args.row.items yielded c.loop-process.process-iterator.rest.items c.next.new.self.rest.items v was.all
          c.in-Some.ensures.steps.0;
      auditors = auditors_more g.A.Auditor.account c.loop-process.auditors.items c.put_back.new.auditors.items yielded v
          c.dismiss.result c.put_back.ensures.accounts c.dismiss.ensures was.auditors;
      told = audited_more g.B.Sitting.session g.B.Attending.accounts yielded v was.told c.tells_its_auditor.ensures.audited;
      few = (let before = was.few in let len = c.put_back.ensures.len in omega (arith, before, len, many));
      space = (let before = was.space in let room = c.put_back.ensures.space in omega (arith, before, room));
    }

pub returns-clause-told : goal.returns-clause-told
returns-clause-told g c =
    let none : length c.loop-process.process-iterator.rest.items ≡ 0 = search rules in
    let all = all_yielded c.args.row.items c.loop-process.yielded c.loop-process.process-iterator.rest.items
    c.loop-process.invariant.all none in
    subst (AreAudited g.B.Sitting.session g.B.Attending.accounts) (sym all) c.loop-process.invariant.told
