use Rattle.std.proofs.Common.{◌≡◌, None, is_some, false, sym, ap, ◌∙◌, arith}
use Rattle.mx_kst.specs.Initiating.{is_full}
use Rattle.mx_kst.specs.KnownSegments.{KnownSegments}
use Rattle.mx_kst.specs.Lots.{number_of}
use Rattle.mx_fresh.proofs.RoomLaws.{room}
use Rattle.mx_fresh.proofs.known.FreshKnown.known_as.Goals as goal

pub fresh_known-requires : goal.fresh_known-requires
fresh_known-requires c =
    let k : KnownSegments = record { last = c.self.inside.last; lots = c.self.inside.lots.items; names = c.self.inside.names.items } in
    let none : number_of k.lots c.args.uid ≡ None = ap (λ (k : KnownSegments). number_of k.lots c.args.uid) c.self.view_is ∙ sym c.number_of.ensures ∙ c.in-None.is in
    let full : is_full k c.args.uid (is_some c.args.section) ≡ false = ap (λ (k : KnownSegments). is_full k c.args.uid (is_some c.args.section)) c.self.view_is ∙ c.requires in
    let fits = room k c.args.uid (is_some c.args.section) none full c.self.invariant in
    omega (arith, fits)
