use Rattle.std.proofs.Common.{suc, List, refl, sym, subst, rules}
use Rattle.mx_core.specs.Append.{with_changes}
use Rattle.mx_core.specs.Put.{put}
use Rattle.mx_core.specs.declared.changes.Change.{Change}
use Rattle.mx_core.proofs.Lists.{split_up}
use Rattle.mx_rule.specs.Layout.{ShowsWords}
use Rattle.mx_rule.specs.Openings.{ArePlaced, opening_content}
use Rattle.mx_rule.proofs.opening.+put_base.Goals as goal

pub put_one-requires-clause-placed : goal.put_one-requires-clause-placed
put_one-requires-clause-placed t c =
    let a = c.change-item.result in
    subst (λ (l : List Change). ArePlaced c.args.layout.now l)
    (split_up c.args.base.now a c.in-len1-up.len_at_least c.change-item.is) c.requires.each 0 a refl

pub put_base-requires : goal.put_base-requires
put_base-requires t c =
    let a = c.change-item.result in
    let places = subst (λ (l : List Change). ArePlaced c.args.layout.now l)
    (split_up c.args.base.now a c.in-len1-up.len_at_least c.change-item.is) c.requires.each in
    (search rules, (search rules, (search rules, (search rules, λ i b at. places (suc i) b at))))

pub returns-in-len1-up-clause-shown : goal.returns-in-len1-up-clause-shown
returns-in-len1-up-clause-shown t c table shows =
    let y = c.args.layout.now in
    let a = c.change-item.result in
    let e = split_up c.args.base.now a c.in-len1-up.len_at_least c.change-item.is in
    subst (λ (l : List Change). ShowsWords y y.processes y.numbers (opening_content y c.args.start (with_changes l
    table))
    c.put_base.new.words.items) (sym e)
    (c.put_base.ensures.shown (put table a.process (put (table a.process) a.segno a.desc))
    (c.put_one.ensures.shown table shows))
