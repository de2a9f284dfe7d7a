use Rattle.std.proofs.Common.{rules}
use Rattle.mx_name.proofs.PathLaws.{resolved_path}
use Rattle.mx_name.proofs.routes.Route.resolve.Goals as goal

pub returns-in-None-clause-path : goal.returns-in-None-clause-path
returns-in-None-clause-path c =
    rw (c.kept.ensures, ← c.named.ensures.value, c.names-base.ensures.value, c.bytes-text.ensures.value)
    (resolved_path c.args.base.now c.args.name.now c.names-base.ensures.path c.bytes-text.ensures.pathname (search rules))
