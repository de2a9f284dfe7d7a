use Rattle.std.proofs.Common.{arith}
use Rattle.mx_cam.proofs.PlaceLaws.{adds, adds_ring, pushes, pushes_ring}
use Rattle.mx_cam.proofs.places.Places.add.Goals as goal

pub returns-then-self-lt16 : goal.returns-then-self-lt16
returns-then-self-lt16 c =
    let p = c.self.inside in
    adds p.triples c.args.self.now p.len p.first p.few p.sixteen p.within c.self.invariant c.self.view_is
    c.args.triple.now c.requires c.if-self-lt16.true

pub returns-else-self-lt16 : goal.returns-else-self-lt16
returns-else-self-lt16 c =
    let p = c.self.inside in
    let no_room = c.if-self-lt16.false in
    pushes p.triples c.args.self.now p.len p.first p.few p.sixteen p.within c.self.invariant c.self.view_is
    c.args.triple.now c.requires (omega arith)

pub invariant_of-self : goal.invariant_of-self
invariant_of-self c =
    let p = c.self.inside in
    adds_ring p.triples c.args.self.now p.len p.first p.few p.sixteen p.within c.self.invariant c.self.view_is
    c.args.triple.now c.requires c.if-self-lt16.true

pub invariant_of-self-else-self-lt16 : goal.invariant_of-self-else-self-lt16
invariant_of-self-else-self-lt16 c =
    let p = c.self.inside in
    let no_room = c.if-self-lt16.false in
    pushes_ring p.triples c.args.self.now p.len p.first p.few p.sixteen p.within c.self.invariant c.self.view_is
    c.args.triple.now c.requires (omega arith)
