use Rattle.std.proofs.Common.{ℕ, ◌-◌, List, ◌∷◌, length, take, drop, suc, refl, sym, subst}
use Rattle.std.specs.Vec.{vec_len}
use Rattle.mx_core.specs.Append.{with_changes}
use Rattle.mx_worlds.specs.Marking.{AllShow, AreInPlace, with_present}
use Rattle.mx_core.specs.Put.{put}
use Rattle.mx_core.specs.declared.changes.Change.{Change}
use Rattle.mx_core.proofs.Lists.{split_up}
use Rattle.mx_worlds.proofs.marking.+put_changes.Goals as goal

pub returns-in-len1-up-clause-shown : goal.returns-in-len1-up-clause-shown
returns-in-len1-up-clause-shown t c many f table place shows =
    let a = c.change-item.result in
    let rest = take (length c.args.changes.now - 1) (drop 1 c.args.changes.now) in
    let e = split_up c.args.changes.now a c.in-len1-up.len_at_least c.change-item.is in
    let places : AreInPlace many (vec_len c.args.seats.now) (a ∷ rest) =
    subst (λ (l : List Change). AreInPlace many (vec_len c.args.seats.now) l) e place in
    subst (λ (l : List Change). AllShow many c.put_changes.new.seats.items (with_present f (with_changes l table)))
    (sym e)
    (c.put_changes.ensures.shown many f (put table a.process (put (table a.process) a.segno a.desc))
    (subst (λ (k : ℕ). AreInPlace many k rest) (sym c.put_change.ensures.len) (λ i b at. places (suc i) b at))
    (c.put_change.ensures.shown many f table (places 0 a refl) shows))
