use Rattle.mx_transcript.proofs.ConfidentialityLaws.{given_words_law}
use Rattle.mx_transcript.proofs.LegalLaws.{each_reference_law}
use Rattle.mx_transcript.proofs.laws.a_word_is_given_only_to_a_granted_reference.Goals as goal

pub returns : goal.returns
returns c = given_words_law each_reference_law
