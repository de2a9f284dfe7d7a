use Rattle.std.proofs.Common.{rules}
use Rattle.mx_search.specs.Searching.{answers}
use Rattle.mx_search.proofs.SearchLaws.{answer_is}
use Rattle.mx_search.proofs.searching.search.Goals as goal

pub returns-clause-first : goal.returns-clause-first
returns-clause-first g c =
    answer_is (answers (g.F.Finder.answer c.args.finder.now) c.args.rules.now c.args.name.now) c.in_ok-answer.answer (search rules)
