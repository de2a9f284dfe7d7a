use Rattle.std.proofs.Common.{◌++◌, ◌∷◌, [], List, Bool, nat_le, sym, ap, ◌∙◌, arith}
use Rattle.std.proofs.lemmas.List.FromFn.{map-range_with_len_more}
use Rattle.mx_fresh.proofs.PageLaws.{made_by_page}
use Rattle.mx_fresh.proofs.pages.free_from.Goals as goal

pub loop-page-preserved : goal.loop-page-preserved
loop-page-preserved c =
    c.in_ok-push.ensures.items
    ∙ ap (λ (made : List Bool). made ++ nat_le c.args.first c.loop-page.page ∷ []) c.loop-page.invariant
    ∙ sym (map-range_with_len_more (nat_le c.args.first) 0 c.loop-page.page c.loop-page.page (omega arith))

pub returns : goal.returns
returns c =
    ap (λ (free : List Bool). record { free = free }) (c.loop-page.invariant ∙ made_by_page (nat_le c.args.first) c.loop-page.page (omega arith))
