use Rattle.std.proofs.Common.{◌≡◌, ◌∙◌, ℕ, List, Option, subst}
use Rattle.std.specs.Fmt.{decimal}
use Rattle.mx_io.specs.Bytes.{AppendsPart}
use Rattle.mx_check.proofs.WritingLaws.{on_errors, part_behind}
use Rattle.mx_check.proofs.telling.write_numbered.Goals as goal

pub returns-clause-part : goal.returns-clause-part
returns-clause-part g c =
    let a : Option (List ℕ) = g.K.Sink.out c.args.sink.now in
    let b : Option (List ℕ) = g.K.Sink.out c.write_all.new.sink in
    let d : Option (List ℕ) = g.K.Sink.out c.write_all-2.new.sink in
    let text : c.as_bytes.result.now ≡ decimal c.args.number = c.as_bytes.ensures.value ∙ c.format.ensures.text in
    on_errors c.write_all-2.result
    (λ part. part_behind a b d c.args.words.now (decimal c.args.number) c.in_ok-write_all.ensures.all (subst (AppendsPart b d) text part))
    c.write_all-2.ensures.part
