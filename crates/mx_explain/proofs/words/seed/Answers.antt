use Rattle.std.proofs.Common.{true, sym, ◌∙◌}
use Rattle.std.specs.Prelude.{codes}
use Rattle.std.specs.Cmp.Lexicographic.{told_text}
use Rattle.mx_explain.proofs.WordLaws.{seed_words}
use Rattle.mx_explain.proofs.words.seed.Goals as goal

pub returns-in-Some : goal.returns-in-Some
returns-in-Some c =
    seed_words c.in-Some.name.now _ _ c.one_number.result c.in-Some.ensures
    (told_text c.in-Some.name.now (codes "seed") true (sym c.if-eq.true ∙ c.eq.ensures)) c.one_number.ensures.value
