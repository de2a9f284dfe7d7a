use Rattle.std.proofs.Common.{◌≡◌, [], sym, ◌∙◌, rules}
use Rattle.session_files.proofs.RunLaws.{done_over}
use Rattle.session_files.proofs.runs.command.Goals as goal

pub returns-then-status-eq0 : goal.returns-then-status-eq0
returns-then-status-eq0 g c =
    let empty : c.in_ok-sink.sink.out ≡ [] = search rules in
    let held : c.new-source.result.left ≡ c.args.text.now = search rules in
    let printed : c.multics-status.new.sink.out ≡ c.bytes.result.now = search rules in
    done_over _ c.args.text.now c.new-source.result.left c.in_ok-sink.sink.out c.multics-status.new.sink.out
    c.in_ok-printed.printed.items _ _ _ held empty (printed ∙ sym c.in_ok-printed.ensures.items) (search rules)
    (c.multics-status.ensures.done c.if-status-eq0.true)
