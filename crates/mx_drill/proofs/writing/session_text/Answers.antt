use Rattle.std.proofs.Common.{◌∙◌}
use Rattle.mx_drill.proofs.WritingLaws.{whole_text}
use Rattle.mx_drill.proofs.writing.session_text.Goals as goal

pub returns : goal.returns
returns c =
    let header = rw (c.new-out.ensures.items, c.version.ensures) at c.in_ok-add_header.ensures in
    let history = rw c.history.ensures at c.in_ok-add_history.ensures in
    let setup = rw (c.items.ensures, c.setup.ensures) at c.in_ok-add_setup.ensures in
    let processes = rw (c.items-2.ensures, c.principals.ensures.value, c.items-3.ensures, c.scripts.ensures.value) at c.in_ok-add_processes.ensures in
    c.of.ensures
    ∙ whole_text c.args.session.now.version c.args.session.now.history c.args.session.now.setup c.args.session.now.principals c.args.session.now.scripts
    _ _ _ _ _ header history setup processes c.in_ok-extend_from_slice.ensures.items
