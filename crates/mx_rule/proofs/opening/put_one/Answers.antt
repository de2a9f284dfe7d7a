use Rattle.std.proofs.Common.{ℕ, set, sym, subst}
use Rattle.mx_core.specs.Put.{put}
use Rattle.mx_rule.specs.Layout.{ShowsWords}
use Rattle.mx_rule.specs.Openings.{opening_content}
use Rattle.mx_rule.proofs.OpeningWords.{one_shown}
use Rattle.mx_rule.proofs.opening.put_one.Goals as goal

pub returns-clause-shown : goal.returns-clause-shown
returns-clause-shown c table shows =
    let y = c.args.layout.now in
    let change = c.args.change.now in
    subst (λ (k : ℕ). ShowsWords y y.processes y.numbers
    (opening_content y c.args.start (put table change.process (put (table change.process) change.segno change.desc)))
    (set c.args.words.now.items k c.standing.result))
    (sym c.descriptor-word.ensures)
    (one_shown y c.args.start c.args.words.now.items change table c.standing.result c.requires.few c.requires.placed
    c.standing.ensures shows)
