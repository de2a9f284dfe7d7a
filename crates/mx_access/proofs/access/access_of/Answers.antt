use Rattle.std.proofs.Common.{[], List, length, subst}
use Rattle.std.proofs.lemmas.Result.{IfOk-weaker}
use Rattle.mx_access.specs.Answers.{IsAccess}
use Rattle.mx_access.specs.AllRows.{AreRows, IsOf}
use Rattle.mx_access.proofs.AllRowLaws.{is_access}
use Rattle.mx_access.proofs.access.access_of.Goals as goal

pub returns : goal.returns
returns g c =
    let session = c.args.session.now in
    let rows = c.in_ok-rows.rows.items in
    IfOk-weaker c.of.result (IsOf rows []) (IsAccess session c.args.journal.now c.args.transcripts.now)
    (λ access is. is_access session c.args.journal.now c.args.transcripts.now rows access
    (subst (λ (parts : List _). AreRows session c.args.journal.now parts (length parts) rows) c.items-parts.ensures
    (subst (λ (entries : List _). AreRows session entries c.items-parts.result.now (length c.items-parts.result.now) rows) c.items-entries.ensures c.in_ok-rows.ensures))
    is)
    c.of.ensures
