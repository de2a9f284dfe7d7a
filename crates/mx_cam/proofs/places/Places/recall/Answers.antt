use Rattle.std.proofs.Common.{arith, sym, ap, ◌∙◌}
use Rattle.std.proofs.lemmas.Option.{slice_get_read}
use Rattle.mx_core.specs.declared.words.Triple.{Triple}
use Rattle.mx_cam.proofs.PlaceLaws.{misses, recalls}
use Rattle.mx_cam.proofs.places.Places.recall.Goals as goal

pub returns-then-self-segno-clause-told : goal.returns-then-self-segno-clause-told
returns-then-self-segno-clause-told c =
    let p = c.self.inside in
    let under = c.if-self.true in
    let few = p.few in
    recalls p.triples c.args.self.now p.len p.first few p.sixteen p.within c.self.invariant c.self.view_is
    c.args.segno p.latest c.index-self-self.result c.index-self-self-then-self-segno.result under
    (slice_get_read p.triples 16 p.latest c.index-self-self.result (sym p.sixteen) (omega arith) c.index-self-self.is)
    (ap (λ (u : Triple). u.segno) c.index-self-self.is ∙ c.if-self-segno.true)

pub returns-in-Some-clause-told : goal.returns-in-Some-clause-told
returns-in-Some-clause-told c =
    let p = c.self.inside in
    let found = c.in-Some.ensures.found in
    recalls p.triples c.args.self.now p.len p.first p.few p.sixteen p.within c.self.invariant c.self.view_is
    c.args.segno c.in-Some.place found.triple c.index-self-place.result c.in-Some.ensures.under found.here found.number

pub returns-in-None-clause-told : goal.returns-in-None-clause-told
returns-in-None-clause-told c =
    let p = c.self.inside in
    misses p.triples c.args.self.now p.len p.first p.few p.sixteen p.within c.self.invariant c.self.view_is
    c.args.segno c.in-None.ensures.found
