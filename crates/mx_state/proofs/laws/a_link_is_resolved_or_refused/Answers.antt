use Rattle.mx_state.proofs.ToldLaws.{link_replies_law, only_link_law, resolved_law}
use Rattle.mx_state.proofs.laws.a_link_is_resolved_or_refused.Goals as goal

pub returns-clause-resolved : goal.returns-clause-resolved
returns-clause-resolved c = resolved_law

pub returns-clause-only : goal.returns-clause-only
returns-clause-only c = only_link_law

pub returns-clause-replies : goal.returns-clause-replies
returns-clause-replies c = link_replies_law
