use Rattle.std.proofs.Common.{◌≡◌, ◌+◌, ◌-◌, length, arith, refl, ◌∙◌}
use Rattle.std.proofs.lemmas.List.{length-set}
use Rattle.mx_text.proofs.TailLaws.{all_put, letter_put, none_put}
use Rattle.mx_text.proofs.printing.tails.put_letters.Goals as goal

pub loop-left-init : goal.loop-left-init
loop-left-init g c = record {
  put = none_put c.args.bytes.now c.args.letters.now c.args.end g.row.N c.told-letters c.requires.room;
  whole = c.told-bytes;
  few = omega (arith, c.told-letters);
  room = omega (arith, c.told-letters, c.requires.room);
}

pub bounds-letters-left : goal.bounds-letters-left
bounds-letters-left g c = omega (arith, c.told-letters, c.loop-left.invariant.few, c.loop-left-test.true)

pub overflow_add-bytes : goal.overflow_add-bytes
overflow_add-bytes g c =
    let i = c.loop-left.invariant in
    omega (arith, c.requires.within, i.few, i.room, c.loop-left-test.true)

pub bounds-bytes-start : goal.bounds-bytes-start
bounds-bytes-start g c =
    let i = c.loop-left.invariant in
    omega (arith, c.requires.within, i.few, i.room, c.loop-left-test.true)

pub loop-left-preserved : goal.loop-left-preserved
loop-left-preserved g c =
    let l = c.loop-left in
    let i = l.invariant in
    let start = c.args.end - g.row.N in
    let next : l.left - 1 + 1 ≡ l.left = omega (arith, c.loop-left-test.true) in
    record {
      put = letter_put l.bytes c.args.letters.now _ start (l.left - 1)
          (omega (arith, c.requires.within, i.few, i.room, i.whole, c.loop-left-test.true))
          (omega (arith, i.few, c.loop-left-test.true)) (rw next i.put);
      whole = length-set l.bytes _ _ ∙ i.whole;
      few = omega (arith, i.few);
      room = i.room;
    }

pub returns-clause-put : goal.returns-clause-put
returns-clause-put g c =
    all_put c.loop-left.bytes c.args.letters.now _ _ c.loop-left.left (omega (arith, c.loop-left-test.false)) c.loop-left.invariant.put
