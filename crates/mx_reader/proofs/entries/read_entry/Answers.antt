use Rattle.mx_reader.proofs.EntryLaws.{exact_entries}
use Rattle.mx_reader.proofs.FrontLaws.{found_in, only_in}
use Rattle.mx_request.proofs.FieldLaws.{at_most_test}
use Rattle.mx_reader.proofs.entries.read_entry.Goals as goal

pub returns-clause-found : goal.returns-clause-found
returns-clause-found c =
    found_in (exact_entries c.args.number (at_most_test c.args.number 262143 c.requires)) c.args.line.now _ c.read_fields.ensures

pub returns-clause-only : goal.returns-clause-only
returns-clause-only c =
    λ entry is.
    only_in (exact_entries c.args.number (at_most_test c.args.number 262143 c.requires)) c.args.line.now _ c.read_fields.ensures entry is
