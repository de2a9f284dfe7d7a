use Rattle.std.proofs.Common.{List, refl, subst, rules}
use Rattle.mx_sdw.specs.Descriptors.{Descriptor}
use Rattle.mx_core.specs.Opening.{opening_process}
use Rattle.mx_core.specs.Lists.{Lists}
use Rattle.mx_worlds.specs.Tables.{desc_in}
use Rattle.mx_core.specs.declared.words.DescriptorWord.TheVariants.{Valid}
use Rattle.mx_worlds.proofs.TableLaws.{row_listed}
use Rattle.mx_worlds.proofs.seats.Seat.new.Goals as goal

pub returns : goal.returns
returns c = record {
  numbers = refl;
  process = λ i. record (opening_process c.args.start) { memory = c.new.ensures i };
  words = subst (λ (l : List Descriptor). Lists c.in_ok-words.words.items (λ n. Valid c.args.start (desc_in l n)))
      (search rules) c.in_ok-words.ensures.1;
  before = subst (λ (l : List Descriptor). Lists l (desc_in c.args.row.now)) (search rules) (row_listed c.args.row.now);
  present = subst (λ (l : List Descriptor). Lists l (desc_in c.args.row.now)) (search rules)
      (row_listed c.args.row.now);
  trace = search rules;
  reported = refl;
}
