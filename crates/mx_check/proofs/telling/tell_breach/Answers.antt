use Rattle.std.proofs.Common.{ℕ, List, Option, ◌++◌, codes}
use Rattle.std.specs.Fmt.{decimal}
use Rattle.mx_io.specs.Bytes.{Appends, AppendsPart}
use Rattle.mx_check.proofs.WritingLaws.{joined, on_error, on_errors, joined_part, part_before, part_behind}
use Rattle.mx_check.proofs.telling.tell_breach.Goals as goal

pub returns-in_err-write_numbered-clause-part : goal.returns-in_err-write_numbered-clause-part
returns-in_err-write_numbered-clause-part g c =
    let a : Option (List ℕ) = g.K.Sink.out c.args.sink.now in
    let b : Option (List ℕ) = g.K.Sink.out c.write_numbered.new.sink in
    let process : List ℕ = codes "breach " ++ decimal c.args.breach.now.process in
    let line : List ℕ = decimal c.args.breach.now.line in
    on_error c.from_residual.result
    (part_before a b (process ++ codes " " ++ line) (codes "\n")
    (part_before a b (process ++ codes " ") line (part_before a b process (codes " ") c.in_err-write_numbered.ensures.part)))

pub returns-in_err-write_numbered-2-clause-part : goal.returns-in_err-write_numbered-2-clause-part
returns-in_err-write_numbered-2-clause-part g c =
    let a : Option (List ℕ) = g.K.Sink.out c.args.sink.now in
    let b : Option (List ℕ) = g.K.Sink.out c.write_numbered.new.sink in
    let d : Option (List ℕ) = g.K.Sink.out c.write_numbered-2.new.sink in
    let process : List ℕ = codes "breach " ++ decimal c.args.breach.now.process in
    let line : List ℕ = decimal c.args.breach.now.line in
    on_error c.from_residual-in_err-write_numbered-2.result
    (part_before a d (process ++ codes " " ++ line) (codes "\n")
    (joined_part a d process (codes " ") line
    (part_behind a b d process (codes " " ++ line) c.in_ok-write_numbered.ensures.all c.in_err-write_numbered-2.ensures.part)))

pub returns-clause-part : goal.returns-clause-part
returns-clause-part g c =
    let a : Option (List ℕ) = g.K.Sink.out c.args.sink.now in
    let b : Option (List ℕ) = g.K.Sink.out c.write_numbered.new.sink in
    let d : Option (List ℕ) = g.K.Sink.out c.write_numbered-2.new.sink in
    let e : Option (List ℕ) = g.K.Sink.out c.write_all.new.sink in
    let process : List ℕ = codes "breach " ++ decimal c.args.breach.now.process in
    let line : List ℕ = decimal c.args.breach.now.line in
    on_errors c.write_all.result
    (part_behind a d e (process ++ codes " " ++ line) (codes "\n")
    (joined a b d process (codes " ") line c.in_ok-write_numbered.ensures.all c.in_ok-write_numbered-2.ensures.all))
    c.write_all.ensures.part
