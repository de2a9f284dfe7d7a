use Rattle.mx_request.proofs.ClassLaws.{word_of_class}
use Rattle.mx_request.proofs.laws.the_first_word_tells_who_asks.Goals as goal

pub returns : goal.returns
returns c = word_of_class
