use Rattle.mx_link.proofs.TargetLaws.{leads}
use Rattle.mx_link.proofs.laws.a_link_leads_where_its_symbol_is_defined.Goals as goal

pub returns : goal.returns
returns c = leads
