use Rattle.mx_ptr.proofs.PointerLaws.{pointer_in-pointer_word, pointer_word-pointer_in}
use Rattle.mx_ptr.proofs.laws.each_pointer_has_one_word.Goals as goal

pub returns-clause-read_back : goal.returns-clause-read_back
returns-clause-read_back c = pointer_in-pointer_word c.args.pointer.now

pub returns-clause-packed_back : goal.returns-clause-packed_back
returns-clause-packed_back c = pointer_word-pointer_in c.args.word
