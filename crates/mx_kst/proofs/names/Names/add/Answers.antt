use Rattle.std.proofs.Common.{◌≡◌, None, ◌∙◌}
use Rattle.std.specs.Map.{lookup}
use Rattle.indexmap.proofs.CallerLemmas.{insert_entry-new}
use Rattle.mx_name.specs.Names.{same_name}
use Rattle.mx_kst.specs.Stored.{standing, Holds}
use Rattle.mx_kst.proofs.StoredLaws.{holds_pushed}
use Rattle.mx_kst.proofs.names.Names.add.Goals as goal

pub returns-clause-ok : goal.returns-clause-ok
returns-clause-ok c = λ more branch.
    let none : lookup (same_name c.args.name.now) c.self.inside.numbers.entries ≡ None = rw c.self.view_is c.make_way.ensures.absent in
    let entries = c.in_ok-insert.ensures.entries ∙ insert_entry-new same_name c.self.inside.numbers c.args.name.now c.args.segno none in
    let holds : Holds c.args.lots.now c.self.inside.numbers.entries (standing c.args.lots.now c.args.self.now) = rw c.self.view_is c.make_way.ensures.holds in
    rw entries (holds_pushed c.args.lots.now more c.args.name.now c.args.segno c.self.inside.numbers.entries _ holds branch)
