use Rattle.std.proofs.Common.{ℕ, ap, sym, ◌∙◌, rules}
use Rattle.std.specs.Prelude.{nat_lt}
use Rattle.mx_sdw.specs.Descriptors.{unknown_desc}
use Rattle.mx_core.specs.Put.{pick}
use Rattle.mx_worlds.specs.Shows.{Counts, columns}
use Rattle.mx_core.specs.declared.words.DescriptorWord.TheVariants.{Valid}
use Rattle.mx_worlds.proofs.Seating.{seat_shown}
use Rattle.mx_worlds.proofs.worlds.World.word.Goals as goal

pub returns : goal.returns
returns c w shows =
    let m = c.args.self.now in
    let p = c.args.process in
    let s = seat_shown m.seats.items w c.from.result p c.index.result.now (search rules) (search rules)
    c.index.ensures shows.parts.shows in
    c.found.ensures w.numbers (columns w p) s
    ∙ ap (λ (k : ℕ). pick (nat_lt c.args.segno w.numbers) (w.word p c.args.segno) (Valid k unknown_desc))
    (sym (ap (λ (x : Counts). x.start) shows.parts.same))
