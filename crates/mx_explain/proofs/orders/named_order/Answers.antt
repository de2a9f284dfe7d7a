use Rattle.std.specs.Prelude.{string_bytes}
use Rattle.mx_explain.specs.Commands.{process_of}
use Rattle.mx_explain.proofs.OrderLaws.{named_more}
use Rattle.mx_explain.proofs.orders.named_order.Goals as goal

pub loop-word-preserved : goal.loop-word-preserved
loop-word-preserved c =
    named_more string_bytes process_of c.args.words.now c.loop-word.word-index c.word-item.result c.as_str.result.now _ _ c.loop-word-test.true
    c.word-item.is c.loop-word.invariant c.as_str.ensures.value c.in_ok-add_named.ensures
