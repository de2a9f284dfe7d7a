use Rattle.std.proofs.Common.{rules, ◌≡◌, ◌<◌, length, Some, refl, subst, slice_index_or}
use Rattle.std.proofs.lemmas.Option.{slice_get_read}
use Rattle.std.specs.List.{slice_get}
use Rattle.mx_state.specs.declared.journal.Entry as journaled
use Rattle.mx_judging.specs.Replays.{replayed}
use Rattle.mx_judging.proofs.ReplayLaws.{next_may_ask, replay_step}
use Rattle.mx_judging.proofs.replays.Replay.step.Goals as goal

pub apply-requires : goal.apply-requires
apply-requires c =
    let below : c.self.inside.at < length c.self.inside.journal.now = search rules in
    let read : slice_get c.self.inside.journal.now c.self.inside.at ≡ Some c.index-self-self.result
    = slice_get_read _ _ _ _ refl below c.index-self-self.is in
    let found : slice_get c.self.inside.journal.now c.self.inside.at
    ≡ Some (slice_index_or c.self.inside.journal.now c.self.inside.at c.index-self-self.result)
    = subst (λ (e : journaled.Entry). slice_get c.self.inside.journal.now c.self.inside.at ≡ Some e) c.index-self-self.is read in
    rw c.request.ensures
    (next_may_ask (replayed c.self.inside.session.now c.self.inside.journal.now c.self.inside.at) c.self.inside.state _
    c.self.invariant found)

pub invariant_of-self-2 : goal.invariant_of-self-2
invariant_of-self-2 c =
    let below : c.self.inside.at < length c.self.inside.journal.now = search rules in
    let read : slice_get c.self.inside.journal.now c.self.inside.at ≡ Some c.index-self-self.result
    = slice_get_read _ _ _ _ refl below c.index-self-self.is in
    let found : slice_get c.self.inside.journal.now c.self.inside.at
    ≡ Some (slice_index_or c.self.inside.journal.now c.self.inside.at c.index-self-self.result)
    = subst (λ (e : journaled.Entry). slice_get c.self.inside.journal.now c.self.inside.at ≡ Some e) c.index-self-self.is read in
    replay_step (replayed c.self.inside.session.now c.self.inside.journal.now c.self.inside.at) c.self.inside.state
    c.apply.new.self _ _ c.self.invariant below found (rw c.request.ensures at c.in_ok-applied.ensures.answer) c.in_ok-applied.ensures.processes
