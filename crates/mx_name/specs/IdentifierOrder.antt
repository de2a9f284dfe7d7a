-- The order in which an access list keeps its identifiers: by rank, equal ranks in byte order of their texts.
use Rattle.std.specs.Ordering.{nat_cmp, ordering_then}
use Rattle.std.specs.Cmp.Lexicographic.{slice_cmp}
use Rattle.std.specs.declared.cmp.Ordering.{Ordering}
use Rattle.std.specs.declared.cmp.Ordering.TheVariants.{Less, Equal, Greater}
use Rattle.mx_name.specs.Identifiers.{Component, Any, Literal, PlainAclId, id_rank}

-- `*` is below every literal, as its byte is; literals are in byte order
abbrev pub component_cmp : Component → Component → Ordering
component_cmp Any Any = Equal
component_cmp Any (Literal own) = Less
component_cmp (Literal own) Any = Greater
component_cmp (Literal own) (Literal other) = slice_cmp nat_cmp own other

-- component by component, which is the byte order of the texts
abbrev pub components_cmp : PlainAclId → PlainAclId → Ordering
components_cmp id other =
    ordering_then (component_cmp id.person other.person)
    (ordering_then (component_cmp id.project other.project) (component_cmp id.tag other.tag))

-- by rank, then so
abbrev pub id_cmp : PlainAclId → PlainAclId → Ordering
id_cmp id other = ordering_then (nat_cmp (id_rank id) (id_rank other)) (components_cmp id other)
