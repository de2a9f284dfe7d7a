use Rattle.std.proofs.Common.{◌∙◌}
use Rattle.mx_hier.specs.Objects.{with_object}
use Rattle.mx_hier.proofs.making.add_with_map.Goals as goal

pub returns-clause-map : goal.returns-clause-map
returns-clause-map c =
    c.add_object.ensures ∙ (λ i. with_object (c.copy_with_room.ensures.same i) (c.next-uid.ensures i) (c.in_ok-object.ensures.copy i))
