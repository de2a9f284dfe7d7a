use Rattle.mx_sdw.proofs.WordLaws.{view_back}
use Rattle.mx_sdw.proofs.laws.each_descriptor_word_has_one_view.Goals as goal

pub returns-clause-view : goal.returns-clause-view
returns-clause-view c = view_back c.args.view.now
