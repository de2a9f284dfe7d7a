use Rattle.std.proofs.Common.{length, refl, subst}
use Rattle.std.proofs.lemmas.Option.{slice_get_read}
use Rattle.mx_legal.specs.Entries.{IsGoodEntry}
use Rattle.mx_legal.proofs.EntryLaws.{first_bad, good_more, has_text, makers_more, one_more_from, reply_at, told_bad, told_good}
use Rattle.mx_state.specs.Plain.{Plain}
use Rattle.mx_legal.proofs.entries.is_good_at.Goals as goal

pub is_good_entry-requires-clause-fits : goal.is_good_entry-requires-clause-fits
is_good_entry-requires-clause-fits g c =
    reply_at c.args.entries.now c.args.place c.index-entries-place.result c.requires.fit
    (slice_get_read c.args.entries.now (length c.args.entries.now) c.args.place c.index-entries-place.result refl c.requires.place c.index-entries-place.is)

pub is_good_entry-requires-clause-answer : goal.is_good_entry-requires-clause-answer
is_good_entry-requires-clause-answer g c =
    let entry = c.index-entries-place.result in
    let at = slice_get_read c.args.entries.now (length c.args.entries.now) c.args.place entry refl c.requires.place c.index-entries-place.is in
    has_text c.each_reply_is_spellable.ensures c.args.session.now c.args.entries.now c.args.place entry
    (g.S.PlainSupervisor.state c.args.supervisor.now) c.requires.state c.scripts-scripts.ensures.session c.requires.session c.requires.fit at

pub returns-clause-good : goal.returns-clause-good
returns-clause-good g c = λ done.
    let entry = c.index-entries-place.result in
    let at = slice_get_read c.args.entries.now (length c.args.entries.now) c.args.place entry refl c.requires.place c.index-entries-place.is in
    good_more c.args.session.now c.args.entries.now c.args.place entry at c.requires.before
    (subst (λ (s : Plain). IsGoodEntry c.args.session.now s c.args.place entry) c.requires.state
    (told_good _ c.is_good_entry.result done c.is_good_entry.ensures.good))

pub returns-clause-bad : goal.returns-clause-bad
returns-clause-bad g c = λ done.
    let entry = c.index-entries-place.result in
    let at = slice_get_read c.args.entries.now (length c.args.entries.now) c.args.place entry refl c.requires.place c.index-entries-place.is in
    first_bad c.args.session.now c.args.entries.now c.args.place entry (g.S.PlainSupervisor.state c.args.supervisor.now) at c.requires.before
    c.requires.state (told_bad _ c.is_good_entry.result done c.is_good_entry.ensures.good)

pub returns-clause-state : goal.returns-clause-state
returns-clause-state g c = λ done.
    let entry = c.index-entries-place.result in
    let at = slice_get_read c.args.entries.now (length c.args.entries.now) c.args.place entry refl c.requires.place c.index-entries-place.is in
    one_more_from c.args.session.now c.args.entries.now c.args.place entry (g.S.PlainSupervisor.state c.args.supervisor.now)
    (g.S.PlainSupervisor.state c.is_good_entry.new.supervisor) at c.requires.state (c.is_good_entry.ensures.answered done)

pub returns-clause-makers : goal.returns-clause-makers
returns-clause-makers g c = λ done before.
    let entry = c.index-entries-place.result in
    let at = slice_get_read c.args.entries.now (length c.args.entries.now) c.args.place entry refl c.requires.place c.index-entries-place.is in
    makers_more c.args.session.now c.args.entries.now c.args.place entry (g.S.PlainSupervisor.state c.args.supervisor.now) at
    c.requires.processes before (told_good _ c.is_good_entry.result done c.is_good_entry.ensures.good)
