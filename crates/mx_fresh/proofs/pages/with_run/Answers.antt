use Rattle.std.proofs.Common.{◌++◌, ◌∷◌, [], ℕ, List, Bool, cond, sym, ap, ◌∙◌, arith}
use Rattle.std.proofs.lemmas.List.FromFn.{map-range_with_len_more}
use Rattle.mx_pages.specs.Runs.{is_in_run, is_free}
use Rattle.mx_fresh.proofs.PageLaws.{made_by_page}
use Rattle.mx_fresh.proofs.pages.with_run.Goals as goal

pub loop-page-preserved : goal.loop-page-preserved
loop-page-preserved c =
    let left : ℕ → Bool = λ page. cond (is_in_run c.args.n c.args.first page) c.args.value (is_free (record { free = c.args.free.now }) page) in
    c.in_ok-push.ensures.items
    ∙ ap (λ (b : Bool). c.loop-page.after.items ++ b ∷ []) c.is_free_with.ensures
    ∙ ap (λ (made : List Bool). made ++ left c.loop-page.page ∷ []) c.loop-page.invariant
    ∙ sym (map-range_with_len_more left 0 c.loop-page.page c.loop-page.page (omega arith))

pub returns : goal.returns
returns c =
    let left : ℕ → Bool = λ page. cond (is_in_run c.args.n c.args.first page) c.args.value (is_free (record { free = c.args.free.now }) page) in
    ap (λ (free : List Bool). record { free = free }) (c.loop-page.invariant ∙ made_by_page left c.loop-page.page (omega arith))
