use Rattle.std.proofs.Common.{◌≡◌, ℕ, ◌+◌, ◌-◌, ◌*◌, ◌^◌, ◌<◌, length, subst, drop, ap, sym, ◌∙◌, arith}
use Rattle.std.proofs.lemmas.List.{take_rest}
use Rattle.mx_sdw.proofs.OctalLaws.{below_with_more}
use Rattle.mx_sdw.specs.Octal.{is_octal_digit}
use Rattle.mx_reader.specs.Numbers.{digits_on, octal_more}
use Rattle.mx_reader.proofs.NumberLaws.{ends_on, octal_wider, one_on, stops_on}
use Rattle.mx_reader.proofs.numbers.octals_on.Goals as goal

pub overflow_mul-n : goal.overflow_mul-n
overflow_mul-n c =
    omega (arith, below_with_more c.loop-i.n (c.loop-i.i + 1) 11 c.loop-i.invariant.bound (omega (arith, c.loop-i-test.true, c.min-end.ensures, c.requires.few)))

pub overflow_add-n : goal.overflow_add-n
overflow_add-n c =
    omega (arith, below_with_more c.loop-i.n (c.loop-i.i + 1) 11 c.loop-i.invariant.bound (omega (arith, c.loop-i-test.true, c.min-end.ensures, c.requires.few)))

pub returns-then-not-is_octal_digit-clause-value : goal.returns-then-not-is_octal_digit-clause-value
returns-then-not-is_octal_digit-clause-value c =
    let in_text : c.loop-i.i < length c.args.text.now = omega (arith, c.loop-i-test.true, c.min-end.ensures) in
    ap (λ rest. (c.loop-i.n, rest)) (take_rest c.args.text.now c.loop-i.i)
    ∙ sym (stops_on is_octal_digit octal_more c.args.room c.loop-i.n c.loop-i.i c.args.text.now in_text (sym c.is_octal_digit.ensures ∙ c.if-not-is_octal_digit.true))
    ∙ c.loop-i.invariant.value

pub loop-i-preserved : goal.loop-i-preserved
loop-i-preserved c =
    let in_text : c.loop-i.i < length c.args.text.now = omega (arith, c.loop-i-test.true, c.min-end.ensures) in
    let in_room : c.loop-i.i < c.args.room = omega (arith, c.loop-i-test.true, c.min-end.ensures) in
    let one = sym c.is_octal_digit.ensures ∙ c.if-not-is_octal_digit.false in
    record {
      value = ap (λ (d : ℕ). digits_on is_octal_digit octal_more (c.args.room - (c.loop-i.i + 1)) (8 * c.loop-i.n + d) (drop (c.loop-i.i + 1) c.args.text.now)) c.from.ensures
          ∙ one_on is_octal_digit octal_more c.args.room c.loop-i.n c.loop-i.i c.args.text.now in_room in_text one
          ∙ c.loop-i.invariant.value;
      bound = subst (λ (d : ℕ). 8 * c.loop-i.n + d < 8 ^ (c.loop-i.i + 1 + 1)) (sym c.from.ensures) (octal_wider c.loop-i.n _ (c.loop-i.i + 1) c.loop-i.invariant.bound one);
    }

pub returns-clause-value : goal.returns-clause-value
returns-clause-value c =
    let end : c.loop-i.i ≡ c.min-end.result = omega (arith, c.loop-i-test.false, c.loop-i.auto.i-end) in
    ap (λ rest. (c.loop-i.n, rest)) (take_rest c.args.text.now c.min-end.result)
    ∙ ap (λ i. (c.loop-i.n, drop i c.args.text.now)) (sym end)
    ∙ sym (ends_on is_octal_digit octal_more c.args.room c.loop-i.n c.loop-i.i c.args.text.now (end ∙ c.min-end.ensures))
    ∙ c.loop-i.invariant.value

pub returns-then-not-is_octal_digit-clause-bound : goal.returns-then-not-is_octal_digit-clause-bound
returns-then-not-is_octal_digit-clause-bound c =
    below_with_more c.loop-i.n (c.loop-i.i + 1) (c.args.room + 1) c.loop-i.invariant.bound (omega (arith, c.loop-i-test.true, c.min-end.ensures))

pub returns-clause-bound : goal.returns-clause-bound
returns-clause-bound c =
    below_with_more c.loop-i.n (c.loop-i.i + 1) (c.args.room + 1) c.loop-i.invariant.bound (omega (arith, c.loop-i.auto.i-end, c.min-end.ensures))
