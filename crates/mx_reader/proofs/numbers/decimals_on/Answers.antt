use Rattle.std.proofs.Common.{◌≡◌, ℕ, ◌+◌, ◌-◌, ◌*◌, ◌^◌, ◌<◌, length, subst, drop, ap, sym, ◌∙◌, arith}
use Rattle.std.proofs.lemmas.List.{take_rest}
use Rattle.mx_request.proofs.FieldLaws.{below_with_more}
use Rattle.mx_request.specs.Decimals.{is_digit}
use Rattle.mx_reader.specs.Numbers.{digits_on, decimal_more}
use Rattle.mx_reader.proofs.NumberLaws.{ends_on, decimal_wider, one_on, stops_on}
use Rattle.mx_reader.proofs.numbers.decimals_on.Goals as goal

pub overflow_mul-n : goal.overflow_mul-n
overflow_mul-n c =
    omega (arith, below_with_more c.loop-i.n (c.loop-i.i + 1) 9 c.loop-i.invariant.bound (omega (arith, c.loop-i-test.true, c.min-end.ensures, c.requires.few)))

pub overflow_add-n : goal.overflow_add-n
overflow_add-n c =
    omega (arith, below_with_more c.loop-i.n (c.loop-i.i + 1) 9 c.loop-i.invariant.bound (omega (arith, c.loop-i-test.true, c.min-end.ensures, c.requires.few)))

pub returns-then-not-is_digit : goal.returns-then-not-is_digit
returns-then-not-is_digit c =
    let in_text : c.loop-i.i < length c.args.text.now = omega (arith, c.loop-i-test.true, c.min-end.ensures) in
    ap (λ rest. (c.loop-i.n, rest)) (take_rest c.args.text.now c.loop-i.i)
    ∙ sym (stops_on is_digit decimal_more c.args.room c.loop-i.n c.loop-i.i c.args.text.now in_text (sym c.is_digit.ensures ∙ c.if-not-is_digit.true))
    ∙ c.loop-i.invariant.value

pub loop-i-preserved : goal.loop-i-preserved
loop-i-preserved c =
    let in_text : c.loop-i.i < length c.args.text.now = omega (arith, c.loop-i-test.true, c.min-end.ensures) in
    let in_room : c.loop-i.i < c.args.room = omega (arith, c.loop-i-test.true, c.min-end.ensures) in
    let one = sym c.is_digit.ensures ∙ c.if-not-is_digit.false in
    record {
      value = ap (λ (d : ℕ). digits_on is_digit decimal_more (c.args.room - (c.loop-i.i + 1)) (10 * c.loop-i.n + d) (drop (c.loop-i.i + 1) c.args.text.now)) c.from.ensures
          ∙ one_on is_digit decimal_more c.args.room c.loop-i.n c.loop-i.i c.args.text.now in_room in_text one
          ∙ c.loop-i.invariant.value;
      bound = subst (λ (d : ℕ). 10 * c.loop-i.n + d < 10 ^ (c.loop-i.i + 1 + 1)) (sym c.from.ensures) (decimal_wider c.loop-i.n _ (c.loop-i.i + 1) c.loop-i.invariant.bound one);
    }

pub returns : goal.returns
returns c =
    let end : c.loop-i.i ≡ c.min-end.result = omega (arith, c.loop-i-test.false, c.loop-i.auto.i-end) in
    ap (λ rest. (c.loop-i.n, rest)) (take_rest c.args.text.now c.min-end.result)
    ∙ ap (λ i. (c.loop-i.n, drop i c.args.text.now)) (sym end)
    ∙ sym (ends_on is_digit decimal_more c.args.room c.loop-i.n c.loop-i.i c.args.text.now (end ∙ c.min-end.ensures))
    ∙ c.loop-i.invariant.value
