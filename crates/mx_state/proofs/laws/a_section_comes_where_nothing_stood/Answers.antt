use Rattle.mx_state.proofs.ComingLaws.{section_comes_law, section_words_law}
use Rattle.mx_state.proofs.laws.a_section_comes_where_nothing_stood.Goals as goal

pub returns-clause-comes : goal.returns-clause-comes
returns-clause-comes c = section_comes_law

pub returns-clause-words : goal.returns-clause-words
returns-clause-words c = section_words_law
