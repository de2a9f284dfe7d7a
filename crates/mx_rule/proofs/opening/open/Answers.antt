use Rattle.std.proofs.Common.{List, refl, sym, subst, rules}
use Rattle.mx_sdw.specs.Descriptors.{unknown_desc}
use Rattle.mx_core.specs.Append.{with_changes}
use Rattle.mx_core.specs.declared.changes.Change.{Change}
use Rattle.mx_rule.specs.Layout.{ShowsWords}
use Rattle.mx_rule.specs.Openings.{ArePlaced, opening_content}
use Rattle.mx_rule.proofs.OpeningWords.{blanks_show, base_opens}
use Rattle.mx_rule.proofs.Openings.{opening_allowed}
use Rattle.mx_rule.proofs.opening.open.Goals as goal

pub put_base-requires-clause-each : goal.put_base-requires-clause-each
put_base-requires-clause-each g c =
    subst (λ (l : List Change). ArePlaced c.args.key.now.layout l) (sym c.items.ensures) c.requires.each

pub of_words-requires : goal.of_words-requires
of_words-requires g c =
    let key = c.args.key.now in
    let y = key.layout in
    let shown = c.put_base.ensures.shown (λ p n. unknown_desc)
    (blanks_show y key.start c.in_ok-words.words.items (search rules) c.in_ok-words.ensures.1) in
    let of_base = subst (λ (l : List Change). ShowsWords y y.processes y.numbers
    (opening_content y key.start (with_changes l (λ p n. unknown_desc))) c.put_base.new.words.items) c.items.ensures
    shown in
    let of_slice = subst (ShowsWords y y.processes y.numbers
    (opening_content y key.start (with_changes key.base (λ p n. unknown_desc)))) (sym c.as_slice.ensures.value)
    of_base in
    opening_allowed g.row.E.Denot y y.processes y.numbers key.start key.base c.as_slice.result.now
    (base_opens y key.start key.base c.requires)
    (record { few = c.requires.most; processes_is = refl; numbers_is = refl }) of_slice
