-- Confidentiality: a word that is read was granted.
use Rattle.mx_transcript.specs.Access.{descriptor_of}
use Rattle.mx_transcript.specs.Confidentiality.{GivenWordsLaw}
use Rattle.mx_transcript.specs.Printed.{EachReferenceLaw}
use Rattle.mx_transcript.proofs.GrantLaws.{answer_of, loaded, read_access}

pub given_words_law : EachReferenceLaw → GivenWordsLaw
given_words_law each x journal transcripts legal p place e value writer stamp at came =
    read_access x journal p e (loaded (descriptor_of x journal p e) e value writer stamp
    (answer_of each x journal transcripts legal p place e at) came)
