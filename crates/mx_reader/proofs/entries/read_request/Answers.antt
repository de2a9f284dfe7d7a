use Rattle.mx_reader.proofs.EntryLaws.{request_read}
use Rattle.mx_reader.proofs.entries.read_request.Goals as goal

pub returns : goal.returns
returns c = request_read c.args.text.now c.read.result c.read.ensures.found c.read.ensures.none
