use Rattle.std.proofs.Common.{◌≡◌, ◌∙◌, ap, sym, Some, arith}
use Rattle.std.proofs.lemmas.Bool.Decides.{nat_tests}
use Rattle.mx_script.proofs.FirstLetters.{by_c, by_e, by_f, by_h, by_l, by_m, by_r, by_s, by_none}
use Rattle.mx_script.proofs.reading.lines.read_by.Goals as goal

pub returns-then-first-eq99 : goal.returns-then-first-eq99
returns-then-first-eq99 c =
    let is : c.args.first ≡ 99 = grind (arith, nat_tests, c.if-first-eq99.true) in
    c.read_call_line.ensures ∙ sym (by_c c.args.line.now (c.requires ∙ ap Some is))

pub returns-then-first-eq101 : goal.returns-then-first-eq101
returns-then-first-eq101 c =
    let is : c.args.first ≡ 101 = grind (arith, nat_tests, c.if-first-eq101.true) in
    c.read_end_or_pointer.ensures ∙ sym (by_e c.args.line.now (c.requires ∙ ap Some is))

pub returns-then-first-eq102 : goal.returns-then-first-eq102
returns-then-first-eq102 c =
    let is : c.args.first ≡ 102 = grind (arith, nat_tests, c.if-first-eq102.true) in
    c.read_fetch.ensures ∙ sym (by_f c.args.line.now (c.requires ∙ ap Some is))

pub returns-then-first-eq104 : goal.returns-then-first-eq104
returns-then-first-eq104 c =
    let is : c.args.first ≡ 104 = grind (arith, nat_tests, c.if-first-eq104.true) in
    c.read_limit.ensures ∙ sym (by_h c.args.line.now (c.requires ∙ ap Some is))

pub returns-then-first-eq108 : goal.returns-then-first-eq108
returns-then-first-eq108 c =
    let is : c.args.first ≡ 108 = grind (arith, nat_tests, c.if-first-eq108.true) in
    c.read_load.ensures ∙ sym (by_l c.args.line.now (c.requires ∙ ap Some is))

pub returns-then-first-eq109 : goal.returns-then-first-eq109
returns-then-first-eq109 c =
    let is : c.args.first ≡ 109 = grind (arith, nat_tests, c.if-first-eq109.true) in
    c.read_version.ensures ∙ sym (by_m c.args.line.now (c.requires ∙ ap Some is))

pub returns-then-first-eq114 : goal.returns-then-first-eq114
returns-then-first-eq114 c =
    let is : c.args.first ≡ 114 = grind (arith, nat_tests, c.if-first-eq114.true) in
    c.read_return_line.ensures ∙ sym (by_r c.args.line.now (c.requires ∙ ap Some is))

pub returns-then-first-eq115 : goal.returns-then-first-eq115
returns-then-first-eq115 c =
    let is : c.args.first ≡ 115 = grind (arith, nat_tests, c.if-first-eq115.true) in
    c.read_set_or_store.ensures ∙ sym (by_s c.args.line.now (c.requires ∙ ap Some is))

pub returns-else-first-eq115 : goal.returns-else-first-eq115
returns-else-first-eq115 c =
    sym (by_none c.args.line.now c.args.first c.requires c.if-first-eq99.false c.if-first-eq101.false c.if-first-eq102.false
    c.if-first-eq104.false c.if-first-eq108.false c.if-first-eq109.false c.if-first-eq114.false c.if-first-eq115.false)
