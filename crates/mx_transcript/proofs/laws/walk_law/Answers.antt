use Rattle.mx_transcript.proofs.WalkLaws.{walk_begun_law, walk_law}
use Rattle.mx_transcript.proofs.laws.walk_law.Goals as goal

pub returns-clause-begun : goal.returns-clause-begun
returns-clause-begun c = walk_begun_law

pub returns-clause-word : goal.returns-clause-word
returns-clause-word c = walk_law
