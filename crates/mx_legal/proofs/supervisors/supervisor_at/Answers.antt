use Rattle.std.proofs.Common.{◌≡◌, Ok, false, rules}
use Rattle.mx_legal.proofs.EntryLaws.{good_before, not_first_bad}
use Rattle.mx_legal.proofs.supervisors.supervisor_at.Goals as goal

pub is_good_at-requires-clause-before : goal.is_good_at-requires-clause-before
is_good_at-requires-clause-before g c =
    good_before c.args.session.now c.args.journal.now c.items-entries.result.now c.args.count c.loop-place.place c.items-entries.ensures
    c.loop-place-test.true c.requires.good

pub unreachable-requires : goal.unreachable-requires
unreachable-requires g c =
    let told : c.is_good_at.result ≡ Ok false = search rules in
    not_first_bad c.args.session.now c.args.journal.now c.items-entries.result.now c.args.count c.loop-place.place c.items-entries.ensures
    c.loop-place-test.true c.requires.good (c.is_good_at.ensures.bad told)
