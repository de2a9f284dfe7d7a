use Rattle.std.proofs.Common.{sym}
use Rattle.mx_worlds.proofs.Recalling.{recalled_here, recalled_none}
use Rattle.mx_worlds.proofs.associative.AssociativeMemory.recall.Goals as goal

pub returns-in-Some : goal.returns-in-Some
returns-in-Some c = recalled_here c.args.segno c.args.self.now c.self.inside.triples.items c.in-Some.place
    c.index.result.now c.self.view_is c.in-Some.ensures c.index.ensures

pub returns-in-None : goal.returns-in-None
returns-in-None c = sym (recalled_none c.args.segno c.args.self.now c.in-None.ensures)
