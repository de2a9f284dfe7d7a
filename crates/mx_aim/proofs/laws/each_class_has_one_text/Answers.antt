use Rattle.mx_aim.proofs.TextLaws.{class_of_text-class_text, class_text-class_of_text}
use Rattle.mx_aim.proofs.laws.each_class_has_one_text.Goals as goal

pub returns-clause-read_back : goal.returns-clause-read_back
returns-clause-read_back c = class_of_text-class_text

pub returns-clause-written_back : goal.returns-clause-written_back
returns-clause-written_back c = class_text-class_of_text
