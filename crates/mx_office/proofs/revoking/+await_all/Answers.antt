use Rattle.std.proofs.Common.{suc, List, refl, subst, rules}
use Rattle.mx_core.specs.declared.changes.Change.{Change}
use Rattle.mx_core.proofs.Lists.{split_up}
use Rattle.mx_rule.specs.Shown.{office_of}
use Rattle.mx_office.specs.Revoking.{MayAcknowledgeAll}
use Rattle.mx_office.proofs.Answering.{may_still, waits_from}
use Rattle.mx_office.proofs.revoking.+await_all.Goals as goal

pub acknowledge-requires-clause-may : goal.acknowledge-requires-clause-may
acknowledge-requires-clause-may g t c =
    let a = c.change-item.result in
    subst (λ (l : List Change). MayAcknowledgeAll (office_of c.args.chief.now) l)
    (split_up c.args.changes.now a c.in-len1-up.len_at_least c.change-item.is) c.requires.may 0 a refl

pub await_all-requires : goal.await_all-requires
await_all-requires g t c κs within =
    let a = c.change-item.result in
    let may = subst (λ (l : List Change). MayAcknowledgeAll (office_of c.args.chief.now) l)
    (split_up c.args.changes.now a c.in-len1-up.len_at_least c.change-item.is) c.requires.may in (
      search rules,
      (
        search rules,
        (
          search rules,
          (
            search rules,
            (search rules, (search rules, λ i b at. may_still _ _ b.process c.acknowledge.ensures.waiting (may (suc i) b at))),
          ),
        ),
      ),
    )

pub returns-in-empty-clause-waiting : goal.returns-in-empty-clause-waiting
returns-in-empty-clause-waiting g t c = waits_from c.args.chief.now
