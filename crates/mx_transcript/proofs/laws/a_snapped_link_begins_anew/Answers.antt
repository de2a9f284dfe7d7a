use Rattle.mx_transcript.proofs.LinkLineLaws.{right_links, wrong_links}
use Rattle.mx_transcript.proofs.laws.a_snapped_link_begins_anew.Goals as goal

pub returns : goal.returns
returns c = record { right = right_links; wrong = wrong_links }
