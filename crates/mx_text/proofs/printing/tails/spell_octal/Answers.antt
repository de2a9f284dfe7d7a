use Rattle.std.proofs.Common.{◌<◌, ◌%◌, arith, ◌∙◌}
use Rattle.std.proofs.lemmas.List.{length-set}
use Rattle.mx_text.proofs.TailLaws.{none_yet, pair_digits, pair_written}
use Rattle.mx_text.proofs.printing.tails.spell_octal.Goals as goal

pub loop-left-init : goal.loop-left-init
loop-left-init c = record {
  has = none_yet c.args.bytes.now c.args.end c.args.n c.requires.room c.ranges.n.fits;
  length = c.told-bytes;
  start = omega (arith, c.requires.within);
  before = omega (arith, c.requires.room);
}

pub overflow_sub-start-in-loop-left : goal.overflow_sub-start-in-loop-left
overflow_sub-start-in-loop-left c =
    let l = c.loop-left in
    let i = l.invariant in
    let few : l.left % 64 < 64 = omega arith in
    let digits = pair_digits (l.left % 64) few in
    omega (arith, (pair_written _ l.bytes l.start l.left _ _ i.has (omega (arith, i.length, i.start)) c.loop-left-test.true digits.0 digits.1).0)

pub loop-left-preserved : goal.loop-left-preserved
loop-left-preserved c =
    let l = c.loop-left in
    let i = l.invariant in
    let few : l.left % 64 < 64 = omega arith in
    let digits = pair_digits (l.left % 64) few in
    record {
      has = (pair_written _ l.bytes l.start l.left _ _ i.has (omega (arith, i.length, i.start)) c.loop-left-test.true digits.0 digits.1).1;
      length = length-set _ _ _ ∙ length-set l.bytes _ _ ∙ i.length;
      start = omega (arith, i.start);
      before = omega (arith, i.before);
    }

pub returns-clause-within : goal.returns-clause-within
returns-clause-within c = omega (arith, c.loop-left.invariant.before, c.spell_front.ensures.within)
