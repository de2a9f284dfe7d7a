use Rattle.std.proofs.Common.{◌≡◌, ◌∙◌, OnOk, length, ap, arith, subst}
use Rattle.mx_proc.proofs.EndLaws.{HaveEnded, all_grown, all_told, beyond_row, legal_rings, legal_run, passes_left, passes_of_all, room_back, transcripts_left}
use Rattle.mx_proc.specs.Rows.{HaveNoLine}
use Rattle.mx_proc.proofs.ending.end.Goals as goal

pub put-requires : goal.put-requires
put-requires g c =
    let none = ap length c.requires.lists.unwritten in
    let room = c.requires.lists.steps in omega (arith, none, room)

pub finish_all-requires-clause-steps : goal.finish_all-requires-clause-steps
finish_all-requires-clause-steps g c =
    let none = ap length c.requires.lists.unwritten in
    let room = c.requires.lists.steps in
    let len = c.put.ensures.len in
    let capacity = c.put.ensures.capacity in
    let all = c.requires.len in omega (arith, none, room, len, capacity, all)

pub finish_all-requires-clause-views : goal.finish_all-requires-clause-views
finish_all-requires-clause-views g c =
    let none = ap length c.requires.lists.unreturned in
    let room = c.requires.lists.views in
    let all = c.requires.len in omega (arith, none, room, all)

pub put_all-requires : goal.put_all-requires
put_all-requires g c =
    let many : length c.args.row.items ≡ length g.B.Sitting.session.principals
    = (let len = c.requires.len in let same = c.args.row.ok.0 in omega (arith, len, same)) in
    let back = c.finish_all.ensures in
    let beyond = beyond_row g.A.Auditor.account g.B.Attending.accounts _ c.args.row.items c.args.ends.beyond.items many
    c.requires.beyond in
    let all = room_back g.A.Auditor.account g.B.Sitting.session g.B.Attending.accounts c.args.row.items c.finish_all.new.auditors.items
    c.args.ends.beyond.items c.requires.place back.told back.auditors beyond in
    let space = c.requires.space in
    let room = back.space in omega (arith, all, space, room)

pub put_all-requires-in-Err : goal.put_all-requires-in-Err
put_all-requires-in-Err g c =
    let many : length c.args.row.items ≡ length g.B.Sitting.session.principals
    = (let len = c.requires.len in let same = c.args.row.ok.0 in omega (arith, len, same)) in
    let back = c.dismiss_all.ensures in
    let beyond = beyond_row g.A.Auditor.account g.B.Attending.accounts _ c.args.row.items c.args.ends.beyond.items many
    c.requires.beyond in
    let all = room_back g.A.Auditor.account g.B.Sitting.session g.B.Attending.accounts c.args.row.items c.dismiss_all.new.auditors.items
    c.args.ends.beyond.items c.requires.place back.told back.auditors beyond in
    let space = c.requires.space in
    let room = back.space in omega (arith, all, space, room)

pub finish-journal-requires-clause-all : goal.finish-journal-requires-clause-all
finish-journal-requires-clause-all g c =
    let many : length c.args.row.items ≡ length g.B.Sitting.session.principals
    = (let len = c.requires.len in let same = c.args.row.ok.0 in omega (arith, len, same)) in
    passes_of_all g.B.Attending.accounts (length g.B.Sitting.session.principals) c.args.row.items c.of.result many
    c.requires.place (c.of.ensures ∙ passes_left c.args.row.items c.args.ends.passes.items c.finish_all.new.passes.items
    c.requires.lists.unreturned c.finish_all.ensures.passes)

pub finish-journal-requires-clause-parts : goal.finish-journal-requires-clause-parts
finish-journal-requires-clause-parts g c =
    let many : length c.args.row.items ≡ length g.B.Sitting.session.principals
    = (let len = c.requires.len in let same = c.args.row.ok.0 in omega (arith, len, same)) in
    let all = (passes_of_all g.B.Attending.accounts (length g.B.Sitting.session.principals) c.args.row.items c.of.result many
    c.requires.place (c.of.ensures ∙ passes_left c.args.row.items c.args.ends.passes.items c.finish_all.new.passes.items
    c.requires.lists.unreturned c.finish_all.ensures.passes)).count in
    let none = c.requires.begun.partless in
    let parts = c.requires.parts in omega (arith, all, none, parts)

pub returns-in-Ok-clause-legal : goal.returns-in-Ok-clause-legal
returns-in-Ok-clause-legal g c =
    let many : length c.args.row.items ≡ length g.B.Sitting.session.principals
    = (let len = c.requires.len in let same = c.args.row.ok.0 in omega (arith, len, same)) in
    legal_run g.B.Sitting.session g.B.Sitting.setup g.B.Attending.accounts c.args.row.items c.args.ends.part c.finish-journal.result
    c.of-in-Ok.result c.of.result many c.requires.place c.finish_all.ensures.worked c.requires.begun.set_up
    (c.of-in-Ok.ensures ∙ transcripts_left c.args.row.items c.args.ends.transcripts.items c.put.new.list.items
    c.finish_all.new.transcripts.items c.args.ends.part c.requires.lists.unwritten c.put.ensures.items
    c.finish_all.ensures.transcripts)
    (c.of.ensures ∙ passes_left c.args.row.items c.args.ends.passes.items c.finish_all.new.passes.items
    c.requires.lists.unreturned c.finish_all.ensures.passes) c.finish-journal.ensures

pub returns-in-Ok-clause-gated : goal.returns-in-Ok-clause-gated
returns-in-Ok-clause-gated g c =
    (legal_rings g.B.Sitting.session c.finish-journal.result c.of-in-Ok.result (returns-in-Ok-clause-legal g c)).0

pub returns-in-Ok-clause-sound : goal.returns-in-Ok-clause-sound
returns-in-Ok-clause-sound g c =
    (legal_rings g.B.Sitting.session c.finish-journal.result c.of-in-Ok.result (returns-in-Ok-clause-legal g c)).1

pub returns-in-Ok-clause-told : goal.returns-in-Ok-clause-told
returns-in-Ok-clause-told g c =
    let many : length c.args.row.items ≡ length g.B.Sitting.session.principals
    = (let len = c.requires.len in let same = c.args.row.ok.0 in omega (arith, len, same)) in
    let back = c.finish_all.ensures in
    let ended : HaveEnded g.B.Sitting.session g.B.Attending.accounts c.args.row.items = record {
      place = c.requires.place;
      done = subst (λ r. OnOk r (HaveNoLine g.B.Sitting.session c.args.row.items)) c.in-Ok.is c.requires.done;
      within = back.within;
      audited = back.told;
      alone = back.alone;
    } in
    all_told g.A.Auditor.account g.B.Sitting.session g.B.Attending.accounts c.args.row.items c.finish_all.new.auditors.items
    c.args.ends.beyond.items c.put_all.new.list.items c.args.ends.part c.finish-journal.result c.of-in-Ok.result many ended
    (returns-in-Ok-clause-legal g c) back.auditors
    (beyond_row g.A.Auditor.account g.B.Attending.accounts _ c.args.row.items c.args.ends.beyond.items many c.requires.beyond)
    c.put_all.ensures
    (c.of-in-Ok.ensures ∙ transcripts_left c.args.row.items c.args.ends.transcripts.items c.put.new.list.items
    c.finish_all.new.transcripts.items c.args.ends.part c.requires.lists.unwritten c.put.ensures.items back.transcripts)

pub returns-in-Ok-clause-grown : goal.returns-in-Ok-clause-grown
returns-in-Ok-clause-grown g c =
    let many : length c.args.row.items ≡ length g.B.Sitting.session.principals
    = (let len = c.requires.len in let same = c.args.row.ok.0 in omega (arith, len, same)) in
    let back = c.finish_all.ensures in
    all_grown g.A.Auditor.account g.B.Sitting.session g.B.Attending.accounts c.args.row.items c.finish_all.new.auditors.items
    c.args.ends.beyond.items c.put_all.new.list.items c.requires.place back.told back.auditors
    (beyond_row g.A.Auditor.account g.B.Attending.accounts _ c.args.row.items c.args.ends.beyond.items many c.requires.beyond)
    c.put_all.ensures

pub returns-in-Err-clause-grown : goal.returns-in-Err-clause-grown
returns-in-Err-clause-grown g c =
    let many : length c.args.row.items ≡ length g.B.Sitting.session.principals
    = (let len = c.requires.len in let same = c.args.row.ok.0 in omega (arith, len, same)) in
    let back = c.dismiss_all.ensures in
    all_grown g.A.Auditor.account g.B.Sitting.session g.B.Attending.accounts c.args.row.items c.dismiss_all.new.auditors.items
    c.args.ends.beyond.items c.put_all-in-Err.new.list.items c.requires.place back.told back.auditors
    (beyond_row g.A.Auditor.account g.B.Attending.accounts _ c.args.row.items c.args.ends.beyond.items many c.requires.beyond)
    c.put_all-in-Err.ensures
