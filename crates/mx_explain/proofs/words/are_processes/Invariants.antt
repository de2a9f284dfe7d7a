use Rattle.std.proofs.Common.{◌≡◌, map, drop, is_some}
use Rattle.std.specs.List.{list_all}
use Rattle.std.specs.Prelude.{string_bytes}
use Rattle.mx_explain.specs.Commands.{process_of}
use Rattle.mx_explain.proofs.words.are_processes.Given as goal

abbrev pub invariant-loop-word : goal.invariant-loop-word
invariant-loop-word l =
    list_all (λ word. is_some (process_of word)) (map string_bytes (drop l.word-index l.words))
    ≡ list_all (λ word. is_some (process_of word)) (map string_bytes l.words)
