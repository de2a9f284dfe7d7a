use Rattle.mx_transcript.proofs.DueLaws.{section_word_law, snapped_law, no_more_law}
use Rattle.mx_transcript.proofs.laws.due_law.Goals as goal

pub returns : goal.returns
returns c = record { word = section_word_law; pointer = snapped_law; none = no_more_law }
