use Rattle.std.proofs.Common.{IfSome, subst}
use Rattle.mx_reader.proofs.PartLaws.{run_found, run_only}
use Rattle.mx_reader.specs.Parts.{IsReadWhole}
use Rattle.mx_reader.proofs.beside.read_beside.Goals as goal

pub returns-in-Ok-Some-clause-found : goal.returns-in-Ok-Some-clause-found
returns-in-Ok-Some-clause-found g c =
    run_found _ c.in-Ok-Some.run'.0 c.in-Ok-Some.run'.1
    (subst (λ read. IfSome read (λ run. IsReadWhole c.args.bytes.now run.0 run.1)) c.in-Ok-Some.field-0-is c.in-Ok-Some.ensures)

pub returns-in-Ok-Some-clause-only : goal.returns-in-Ok-Some-clause-only
returns-in-Ok-Some-clause-only g c = λ journal transcripts is.
    run_only _ c.in-Ok-Some.run'.0 journal c.in-Ok-Some.run'.1 transcripts
    (subst (λ read. IfSome read (λ run. IsReadWhole c.args.bytes.now run.0 run.1)) c.in-Ok-Some.field-0-is
    c.in-Ok-Some.ensures) is
