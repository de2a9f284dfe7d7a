use Rattle.std.proofs.Common.{◌≡◌, ◌+◌, ◌++◌, length}
use Rattle.std.specs.List.{sum_by}
use Rattle.mx_closing.specs.Closing.{returned}
use Rattle.mx_closing.proofs.finishing.retire_all.Given as goal

-- the passes so far are back, and their shares merged
abbrev pub invariant-loop-pass : goal.invariant-loop-pass
invariant-loop-pass g l = record {
  all : l.fn.passes.items ≡ l.yielded ++ l.pass-iterator.rest.items;
  view : l.chief ≡ record l.initial.chief { retired = returned l.yielded l.initial.chief.retired };
  amount : l.share.amount ≡ l.initial.share.amount + sum_by (λ o. o.amount) l.yielded;
  parts : l.share.parts ≡ l.initial.share.parts + length l.yielded;
}
