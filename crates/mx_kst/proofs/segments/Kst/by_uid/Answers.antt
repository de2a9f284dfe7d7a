use Rattle.std.proofs.Common.{◌≡◌, ◌==◌, map, sym, ap, subst, ◌∙◌}
use Rattle.indexmap.specs.IndexMap.{get}
use Rattle.mx_kst.specs.Lots.{number_of}
use Rattle.mx_kst.specs.Stored.{standing}
use Rattle.mx_kst.specs.KnownSegments.{KnownSegments, IsSound}
use Rattle.mx_kst.proofs.IndexLaws.{number_by}
use Rattle.mx_kst.proofs.SoundLaws.{number_is}
use Rattle.mx_kst.proofs.segments.Kst.by_uid.Goals as goal

is : (c : goal.After-copied) → c.copied.result ≡ number_of c.args.self.now.lots c.args.uid
is c =
    let k : KnownSegments = record { last = c.self.inside.last; lots = c.self.inside.lots.items; names = map (standing c.self.inside.lots.items) c.self.inside.names.items } in
    c.copied.ensures ∙ c.get.ensures.value
    ∙ number_by k (get ◌==◌ c.self.inside.numbers) c.args.uid c.self.invariant.0 c.self.invariant.3
    ∙ ap (λ (s : KnownSegments). number_of s.lots c.args.uid) c.self.view_is

pub returns-clause-value : goal.returns-clause-value
returns-clause-value c = is c

pub returns-clause-only : goal.returns-clause-only
returns-clause-only c = λ n.
    let sound = subst IsSound c.self.view_is c.self.invariant.0 in
    let law = number_is c.args.self.now sound c.args.uid n in
    (λ e. law.0 (sym (is c) ∙ e), λ p. is c ∙ law.1 p)
