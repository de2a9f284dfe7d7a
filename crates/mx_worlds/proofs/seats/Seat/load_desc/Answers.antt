use Rattle.std.proofs.Common.{sym, ap, ◌∙◌, subst, rules}
use Rattle.std.specs.Result.{MatchResult}
use Rattle.mx_worlds.specs.Seating.{loaded_by}
use Rattle.mx_worlds.specs.Shows.{Columns, ShowsSeat}
use Rattle.mx_core.specs.declared.words.DescriptorWord.{DescriptorWord}
use Rattle.mx_core.specs.World.{Process}
use Rattle.mx_worlds.proofs.ColumnLaws.{loaded_missed, loaded_remembered, loaded_unknown}
use Rattle.mx_worlds.proofs.seats.Seat.load_desc.Goals as goal

pub returns-in-Fault : goal.returns-in-Fault
returns-in-Fault c n k shows =
    subst (λ (x : DescriptorWord). MatchResult c.miss.result
    (λ done. ShowsSeat n c.miss.new.self (loaded_by n k c.args.segno c.args.asked x))
    (λ e. ShowsSeat n c.miss.new.self k))
    (sym c.in-Fault.is ∙ c.found.ensures n k shows) (c.miss.ensures n k shows)

pub returns-then-number-self : goal.returns-then-number-self
returns-then-number-self c n k shows =
    let e = ap (λ (o : Process). o.floor) shows.process in
    subst (λ (x : Columns). MatchResult c.miss-then-number-self.result
    (λ done. ShowsSeat n c.miss-then-number-self.new.self x)
    (λ e. ShowsSeat n c.miss-then-number-self.new.self k))
    (loaded_missed n c.args.start k c.args.segno c.args.asked c.in-Valid.number c.in-Valid.desc
    (sym c.in-Valid.is ∙ c.found.ensures n k shows) (search rules))
    (c.miss-then-number-self.ensures n k shows)

pub returns-then-segno-self : goal.returns-then-segno-self
returns-then-segno-self c n k shows =
    let e = ap (λ (o : Process). o.floor) shows.process in
    let f = shows.numbers in
    subst (λ (x : Columns). MatchResult c.judge_and_remember.result
    (λ done. ShowsSeat n c.judge_and_remember.new.self x)
    (λ e. ShowsSeat n c.judge_and_remember.new.self k))
    (loaded_remembered n c.args.start k c.args.segno c.args.asked c.in-Valid.number c.in-Valid.desc
    (sym c.in-Valid.is ∙ c.found.ensures n k shows) (search rules) (search rules))
    (c.judge_and_remember.ensures n k shows)

pub returns-else-segno-self : goal.returns-else-segno-self
returns-else-segno-self c n k shows =
    let e = ap (λ (o : Process). o.floor) shows.process in
    let f = shows.numbers in
    subst (λ (x : Columns). MatchResult c.judge.result (λ done. ShowsSeat n c.judge.new.self x)
    (λ e. ShowsSeat n c.judge.new.self k))
    (loaded_unknown n c.args.start k c.args.segno c.args.asked c.in-Valid.number c.in-Valid.desc
    (sym c.in-Valid.is ∙ c.found.ensures n k shows) (search rules) (search rules))
    (c.judge.ensures n k shows)
