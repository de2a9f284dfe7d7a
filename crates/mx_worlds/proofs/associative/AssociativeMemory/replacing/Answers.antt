use Rattle.std.proofs.Common.{rules}
use Rattle.mx_worlds.proofs.Recalling.{replaced_here, replaced_none}
use Rattle.mx_worlds.proofs.associative.AssociativeMemory.replacing.Goals as goal

pub returns-in-Some : goal.returns-in-Some
returns-in-Some c = replaced_here c.args.triple.now c.args.self.now c.in_ok-triples.triples.items c.in-Some.place
    (search rules) c.in-Some.ensures

pub returns-in_ok-push-in-None : goal.returns-in_ok-push-in-None
returns-in_ok-push-in-None c = search (rules, replaced_none c.args.triple.now c.args.self.now c.in-None.ensures)
