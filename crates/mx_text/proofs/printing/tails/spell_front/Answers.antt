use Rattle.std.proofs.Common.{◌≤◌, ◌+◌, ◌-◌, ◌/◌, refl, arith}
use Rattle.std.proofs.lemmas.List.{length-set}
use Rattle.mx_sdw.proofs.OctalLaws.{last_written, below_with_more}
use Rattle.mx_text.proofs.TailLaws.{all_spelled}
use Rattle.mx_text.proofs.printing.tails.spell_front.Goals as goal

pub returns-then-left-lt8-clause-spelled : goal.returns-then-left-lt8-clause-spelled
returns-then-left-lt8-clause-spelled c =
    let a = c.args in
    all_spelled _ a.bytes.now a.start a.left
    (record { spelled = refl; room = below_with_more a.left 1 (a.start + 1) (omega arith) (omega (arith, c.if-left-lt8.true)) })
    (omega (arith, c.told-bytes, c.requires.within)) c.if-left-lt8.true

pub returns-clause-spelled : goal.returns-clause-spelled
returns-clause-spelled c =
    let a = c.args in
    let some : 1 ≤ a.start = c.requires.room c.if-left-lt8.false in
    let first = last_written _ a.bytes.now a.start a.left
    (record { spelled = refl; room = below_with_more a.left 2 (a.start + 1) (omega (arith, some)) (omega (arith, c.requires.few)) })
    (omega (arith, c.told-bytes, c.requires.within)) c.if-left-lt8.false in
    all_spelled _ _ (a.start - 1) (a.left / 8) first.1
    (rw (length-set, c.told-bytes) (omega (arith, c.requires.within)))
    (omega (arith, c.requires.few))
