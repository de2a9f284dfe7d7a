use Rattle.std.proofs.Common.{rules, ◌≡◌, ◌<◌, length, Some, refl}
use Rattle.std.proofs.lemmas.Option.{slice_get_read}
use Rattle.std.specs.List.{slice_get}
use Rattle.mx_sup.proofs.AskLaws.{may_ask}
use Rattle.mx_sup.proofs.SetupLaws.{set_up_on}
use Rattle.mx_sup.proofs.setups.enter_setup.Goals as goal

pub enter-requires-clause-ask : goal.enter-requires-clause-ask
enter-requires-clause-ask c =
    let requests : c.items-requests.result.now ≡ c.args.session.now.setup = search rules in
    let within : c.loop-i.i < length c.items-requests.result.now = search rules in
    let at : slice_get c.args.session.now.setup c.loop-i.i ≡ Some c.index-requests-i.result
    = rw (← requests) (slice_get_read _ _ _ _ refl within c.index-requests-i.is) in
    may_ask c.loop-i.state c.args.session.now.version c.args.session.now.setup c.loop-i.i c.index-requests-i.result c.requires.session.setup at

pub loop-i-preserved : goal.loop-i-preserved
loop-i-preserved c =
    let requests : c.items-requests.result.now ≡ c.args.session.now.setup = search rules in
    let within : c.loop-i.i < length c.items-requests.result.now = search rules in
    let at : slice_get c.args.session.now.setup c.loop-i.i ≡ Some c.index-requests-i.result
    = rw (← requests) (slice_get_read _ _ _ _ refl within c.index-requests-i.is) in
    record {
      entered = set_up_on _ _ _ _ _ _ _ at c.in_ok-enter.ensures.entered c.loop-i.invariant.entered;
      room = cc;
      within = c.loop-i.invariant.within;
    }
