use Rattle.std.proofs.Common.{◌≡◌, true, sym, subst, ◌∙◌}
use Rattle.std.specs.Prelude.{string_bytes, codes}
use Rattle.std.specs.Cmp.Lexicographic.{told_text}
use Rattle.mx_run.proofs.CommandLaws.{drill_words}
use Rattle.mx_drill.specs.Numbers.{IsNumberOf}
use Rattle.mx_run.proofs.words.drill.Goals as goal

pub returns-in-len2-clause-value : goal.returns-in-len2-clause-value
returns-in-len2-clause-value c =
    let word : c.as_str.result.now ≡ codes "drill" = told_text c.as_str.result.now (codes "drill") true (sym c.if-eq.true ∙ c.eq.ensures) in
    drill_words string_bytes c.args.words.now c.word-item.result c.digits-item.result c.read_number.result c.in-len2.len_at_least c.in-len2.len_below
    c.word-item.is c.digits-item.is (sym c.as_str.ensures.value ∙ word)
    (subst (λ t. IsNumberOf t c.read_number.result) c.as_str-in-len2.ensures.value c.read_number.ensures.value)
