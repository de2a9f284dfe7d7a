use Rattle.mx_drill.proofs.SessionLaws.{lines_few, parts_found}
use Rattle.mx_drill.proofs.sessions.session_of.Goals as goal

pub new-requires : goal.new-requires
new-requires c = lines_few c.args.number _ _ _ c.in_ok-setup.ensures c.in_ok-principals.ensures c.in_ok-scripts.ensures

pub unreachable-requires : goal.unreachable-requires
unreachable-requires c =
    cc (
      c.in_default.is,
      c.new.ensures,
      parts_found c.args.number _ _ _ c.requires c.in_ok-setup.ensures c.in_ok-principals.ensures c.in_ok-scripts.ensures,
    )
