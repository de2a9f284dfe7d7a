use Rattle.std.proofs.Common.{◌≡◌, map, take}
use Rattle.std.specs.List.{filter_map}
use Rattle.std.specs.String.{string_bytes}
use Rattle.mx_explain.specs.Commands.{process_of}
use Rattle.mx_explain.proofs.orders.named_order.Given as goal

abbrev pub invariant-loop-word : goal.invariant-loop-word
invariant-loop-word l = l.order.items ≡ filter_map process_of (map string_bytes (take l.word-index l.words))
