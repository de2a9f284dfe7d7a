use Rattle.std.proofs.Common.{ℕ, sym, subst, rules}
use Rattle.std.proofs.lemmas.Bool.{both_ways}
use Rattle.mx_sdw.specs.Admissible.{IsAdmissible}
use Rattle.mx_worlds.specs.Tables.{desc_in}
use Rattle.mx_worlds.proofs.Searching.{one_more}
use Rattle.mx_worlds.proofs.TableLaws.{desc_here, row_admissible}
use Rattle.mx_worlds.proofs.tables.Row.is_admissible.Goals as goal

pub returns-then-not-admits : goal.returns-then-not-admits
returns-then-not-admits c = λ all.
    let e = desc_here c.args.self.now c.deref-desc-items.result.now c.loop-desc.desc-index c.desc-item.result
    (search rules)
    (search rules) c.desc-item.is in
    both_ways c.admits.result (search rules) (c.admits.ensures.1 (subst IsAdmissible e (all c.loop-desc.desc-index)))

pub loop-desc-preserved : goal.loop-desc-preserved
loop-desc-preserved c n under =
    let e = desc_here c.args.self.now c.deref-desc-items.result.now c.loop-desc.desc-index c.desc-item.result
    (search rules)
    (search rules) c.desc-item.is in
    one_more (λ (k : ℕ). IsAdmissible (desc_in c.args.self.now k)) c.loop-desc.desc-index c.loop-desc.invariant
    (subst IsAdmissible (sym e) (c.admits.ensures.0 (search rules))) n under

pub returns : goal.returns
returns c = row_admissible c.args.self.now (λ n under. c.loop-desc.invariant n (search rules))
