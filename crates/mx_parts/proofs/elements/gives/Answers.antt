use Rattle.std.proofs.Common.{◌↔◌, ap, sym, subst, ◌∙◌, ℕ, IsTrue}
use Rattle.mx_sdw.specs.Judging.{ring_after}
use Rattle.mx_sdw.specs.declared.operations.Op.{Op}
use Rattle.mx_sdw.specs.declared.operations.Op.TheVariants.{Call, Fetch, Indirect, Read, Return, Write}
use Rattle.mx_transcript.specs.Elements.{Gives}
use Rattle.mx_parts.proofs.elements.gives.Goals as goal

pub returns-in-Read : goal.returns-in-Read
returns-in-Read c =
    subst (λ (o : Op). IsTrue c.has_read.result ↔ Gives o c.args.asked.now.stores (ring_after c.args.desc.now o c.args.asked.now.ring) c.args.came.now)
    (sym c.in-Read.is) (c.has_read.ensures.read (ring_after c.args.desc.now Read c.args.asked.now.ring) c.args.asked.now.stores)

pub returns-in-Indirect : goal.returns-in-Indirect
returns-in-Indirect c =
    subst (λ (o : Op). IsTrue c.has_read-in-Indirect.result ↔ Gives o c.args.asked.now.stores (ring_after c.args.desc.now o c.args.asked.now.ring) c.args.came.now)
    (sym c.in-Indirect.is)
    (c.has_read-in-Indirect.ensures.indirect (ring_after c.args.desc.now Indirect c.args.asked.now.ring) c.args.asked.now.stores)

pub returns-in-Fetch : goal.returns-in-Fetch
returns-in-Fetch c =
    subst (λ (o : Op). IsTrue c.has_read-in-Fetch.result ↔ Gives o c.args.asked.now.stores (ring_after c.args.desc.now o c.args.asked.now.ring) c.args.came.now)
    (sym c.in-Fetch.is) (c.has_read-in-Fetch.ensures.fetch (ring_after c.args.desc.now Fetch c.args.asked.now.ring) c.args.asked.now.stores)

pub returns-in-Write : goal.returns-in-Write
returns-in-Write c =
    subst (λ (o : Op). IsTrue c.has_stored.result ↔ Gives o c.args.asked.now.stores (ring_after c.args.desc.now o c.args.asked.now.ring) c.args.came.now)
    (sym c.in-Write.is) (c.has_stored.ensures (ring_after c.args.desc.now Write c.args.asked.now.ring))

pub returns-in-Call : goal.returns-in-Call
returns-in-Call c =
    subst (λ (o : Op). IsTrue c.has_entered.result ↔ Gives o c.args.asked.now.stores (ring_after c.args.desc.now o c.args.asked.now.ring) c.args.came.now)
    (sym c.in-Call.is)
    (subst (λ (ring : ℕ). IsTrue c.has_entered.result ↔ Gives (Call c.in-Call.current c.in-Call.same c.in-Call.upward) c.args.asked.now.stores ring c.args.came.now)
    (c.new_ring.ensures ∙ ap (λ (o : Op). ring_after c.args.desc.now o c.args.asked.now.ring) c.in-Call.is)
    (c.has_entered.ensures.called c.args.asked.now.stores c.in-Call.current c.in-Call.same c.in-Call.upward))

pub returns-in-Return : goal.returns-in-Return
returns-in-Return c =
    subst (λ (o : Op). IsTrue c.has_entered-in-Return.result ↔ Gives o c.args.asked.now.stores (ring_after c.args.desc.now o c.args.asked.now.ring) c.args.came.now)
    (sym c.in-Return.is)
    (subst (λ (ring : ℕ). IsTrue c.has_entered-in-Return.result ↔ Gives Return c.args.asked.now.stores ring c.args.came.now)
    (c.new_ring-in-Return.ensures ∙ ap (λ (o : Op). ring_after c.args.desc.now o c.args.asked.now.ring) c.in-Return.is)
    (c.has_entered-in-Return.ensures.returned c.args.asked.now.stores))
