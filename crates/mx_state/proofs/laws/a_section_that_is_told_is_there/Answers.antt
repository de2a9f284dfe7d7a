use Rattle.mx_state.proofs.ToldLaws.{new_section_law, path_tells_law, section_desc_law}
use Rattle.mx_state.proofs.laws.a_section_that_is_told_is_there.Goals as goal

pub returns-clause-told : goal.returns-clause-told
returns-clause-told c = new_section_law

pub returns-clause-on_path : goal.returns-clause-on_path
returns-clause-on_path c = path_tells_law

pub returns-clause-descriptor : goal.returns-clause-descriptor
returns-clause-descriptor c = section_desc_law
