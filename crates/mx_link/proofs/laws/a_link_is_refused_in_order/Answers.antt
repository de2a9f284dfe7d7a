use Rattle.mx_link.proofs.TargetLaws.{not_found, no_object, no_definition}
use Rattle.mx_link.proofs.laws.a_link_is_refused_in_order.Goals as goal

pub returns-clause-segment_not_found : goal.returns-clause-segment_not_found
returns-clause-segment_not_found c = not_found

pub returns-clause-not_object : goal.returns-clause-not_object
returns-clause-not_object c = no_object

pub returns-clause-no_definition : goal.returns-clause-no_definition
returns-clause-no_definition c = no_definition
