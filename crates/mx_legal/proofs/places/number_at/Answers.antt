use Rattle.std.proofs.Common.{arith}
use Rattle.mx_legal.proofs.LineNumbers.{process_fits, sum_fits, sum_is}
use Rattle.mx_legal.proofs.places.number_at.Goals as goal

pub overflow_cast-p : goal.overflow_cast-p
overflow_cast-p c =
    let most = process_fits c.args.session.now c.args.p c.line_count-lines.result c.scripts-scripts.ensures.session
    c.line_count-lines.ensures c.if-lines-eq0.false in omega (arith, most)

pub overflow_cast-result : goal.overflow_cast-result
overflow_cast-result c =
    let below = sum_fits c.args.session.now c.args.p c.args.place c.line_count-lines.result c.first_line.result c.min.result
    c.scripts-scripts.ensures.session c.line_count-lines.ensures c.if-lines-eq0.false c.first_line.ensures c.min.ensures in
    omega (arith, below)

pub overflow_add-result : goal.overflow_add-result
overflow_add-result c =
    let below = sum_fits c.args.session.now c.args.p c.args.place c.line_count-lines.result c.first_line.result c.min.result
    c.scripts-scripts.ensures.session c.line_count-lines.ensures c.if-lines-eq0.false c.first_line.ensures c.min.ensures in
    omega (arith, below)

pub returns : goal.returns
returns c =
    sum_is c.args.session.now c.args.p c.args.place c.line_count-lines.result c.first_line.result c.min.result
    c.scripts-scripts.ensures.session c.line_count-lines.ensures c.if-lines-eq0.false c.first_line.ensures c.min.ensures
