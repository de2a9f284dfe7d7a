use Rattle.std.proofs.Common.{◌≡◌, ap, ◌∙◌, rules}
use Rattle.mx_core.specs.AssociativeMemory.{remembered}
use Rattle.mx_core.specs.World.{Process}
use Rattle.mx_worlds.proofs.ColumnLaws.{remembered_shown}
use Rattle.mx_worlds.proofs.seats.Seat.judge_and_remember.Goals as goal

pub returns-in_err-judge : goal.returns-in_err-judge
returns-in_err-judge c n k shows = let h = c.in_err-judge.ensures n k shows in search rules

pub returns : goal.returns
returns c n k shows =
    let h = c.in_ok-judge.ensures n k shows in
    let m = ap (λ (o : Process). remembered c.args.triple.now o.memory) shows.process in
    let e : c.in_ok-memory.memory ≡ remembered c.args.triple.now k.process.memory = c.in_ok-memory.ensures ∙ m in
    remembered_shown n _ k c.args.triple.now c.args.asked (remembered c.args.triple.now k.process.memory) (record {
      numbers = h.numbers;
      process = λ i. record (h.process i) { memory = e i };
      words = h.words;
      before = h.before;
      present = h.present;
      trace = h.trace;
      reported = h.reported;
    })
