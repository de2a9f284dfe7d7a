use Rattle.std.proofs.Common.{ℕ, sym, ◌∙◌, subst, rules}
use Rattle.std.specs.Prelude.{IsTrue}
use Rattle.std.proofs.lemmas.Bool.{both_ways}
use Rattle.mx_sdw.specs.Descriptors.{Descriptor}
use Rattle.mx_core.specs.Pages.{covers}
use Rattle.mx_worlds.specs.Tables.{desc_in}
use Rattle.mx_worlds.proofs.Searching.{one_more}
use Rattle.mx_worlds.proofs.TableLaws.{desc_here}
use Rattle.mx_worlds.proofs.tables.Row.covers.Goals as goal

pub returns-then-covers : goal.returns-then-covers
returns-then-covers c =
    let e = desc_here c.args.self.now c.deref-desc-items.result.now c.loop-desc.desc-index c.desc-item.result
    (search rules)
    (search rules) c.desc-item.is in record {
      number = c.loop-desc.desc-index;
      here = search rules;
      covered = subst (λ (d : Descriptor). IsTrue (covers d c.args.page)) (sym e)
          (sym c.covers.ensures ∙ c.if-covers.true);
    }

pub loop-desc-preserved : goal.loop-desc-preserved
loop-desc-preserved c n under =
    let e = desc_here c.args.self.now c.deref-desc-items.result.now c.loop-desc.desc-index c.desc-item.result
    (search rules)
    (search rules) c.desc-item.is in
    one_more (λ (k : ℕ). IsTrue (covers (desc_in c.args.self.now k) c.args.page) → ⊥) c.loop-desc.desc-index
    c.loop-desc.invariant
    (λ h. both_ways (covers c.desc-item.result c.args.page) (sym c.covers.ensures ∙ c.if-covers.false)
    (subst (λ (d : Descriptor). IsTrue (covers d c.args.page)) e h)) n under
