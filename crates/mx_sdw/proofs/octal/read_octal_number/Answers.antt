use Rattle.std.proofs.Common.{ℕ, ◌<◌, ◌≤◌, ◌^◌, Option, Some, None, length, arith}
use Rattle.std.specs.Option.{IfSome}
use Rattle.mx_sdw.proofs.OctalLaws.{below_with_more}
use Rattle.mx_sdw.proofs.octal.read_octal_number.Goals as goal

-- what is below the bound of fewer digits is below that of more
with_more : (found : Option ℕ) (few more : ℕ) → IfSome found (λ n. n < 8 ^ few) → few ≤ more → IfSome found (λ n. n < 8 ^ more)
with_more None few more small within = tt
with_more (Some n) few more small within = below_with_more n few more small within

pub returns-then-text-digits-clause-bound : goal.returns-then-text-digits-clause-bound
returns-then-text-digits-clause-bound c =
    with_more c.value_of.result (length c.args.text.now) c.args.digits c.value_of.ensures.bound (omega arith)
