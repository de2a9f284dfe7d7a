use Rattle.std.proofs.Common.{◌∙◌, rules, ap}
use Rattle.indexmap.proofs.CallerLemmas.{filter-RetainsPairs}
use Rattle.mx_kst.specs.Stored.{standing}
use Rattle.mx_kst.proofs.names.Names.clear.Goals as goal

pub returns : goal.returns
returns c =
    filter-RetainsPairs _ _ _ (λ k v b w g call. search rules) _ _ c.retain.ensures.filtered
    ∙ ap (standing c.args.lots.now) c.self.view_is
