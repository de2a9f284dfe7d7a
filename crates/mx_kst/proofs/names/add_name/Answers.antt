use Rattle.std.proofs.Common.{◌≡◌, true, false, map, None, Some, Result, Ok, Err, OnErr, is_some, rules}
use Rattle.std.specs.Option.{option_copied}
use Rattle.mx_kst.specs.Names.{named}
use Rattle.mx_kst.specs.Stored.{standing}
use Rattle.mx_kst.proofs.StoredLaws.{held_unnamed, held_there, held_added, held_still}
use Rattle.mx_kst.proofs.names.add_name.Goals as goal

on_error : {T E P : Type 0} (r : Result T E) → P → OnErr r P
on_error (Ok x) p = tt
on_error (Err e) p = p

pub returns-in_default-clause-ok : goal.returns-in_default-clause-ok
returns-in_default-clause-ok c = λ more branch.
    let none : option_copied c.args.name ≡ None = search rules in
    held_unnamed c.args.lots.now more c.args.names.now c.args.ring c.args.segno (option_copied c.args.name) none c.requires.given

pub returns-then-is_some-clause-ok : goal.returns-then-is_some-clause-ok
returns-then-is_some-clause-ok c = λ more branch.
    let some : option_copied c.args.name ≡ Some c.in-Some.name.now = search rules in
    let there : is_some (named (map (standing c.args.lots.now) c.args.names.now) c.args.ring c.in-Some.name.now) ≡ true = search rules in
    held_there c.args.lots.now more c.args.names.now c.args.ring c.args.segno c.in-Some.name.now (option_copied c.args.name) some there c.requires.given

pub returns-in_err-add-clause-err : goal.returns-in_err-add-clause-err
returns-in_err-add-clause-err c =
    on_error c.from_residual.result
    (held_still c.args.lots.now c.args.names.now c.from.result c.index-names-from.result c.add.new.self c.requires.given c.in_err-add.ensures.err)

pub returns-clause-ok : goal.returns-clause-ok
returns-clause-ok c = λ more branch.
    let some : option_copied c.args.name ≡ Some c.in-Some.name.now = search rules in
    let absent : is_some (named (map (standing c.args.lots.now) c.args.names.now) c.args.ring c.in-Some.name.now) ≡ false = search rules in
    let same : c.from.result ≡ c.args.ring = search rules in
    held_added c.args.lots.now more c.args.names.now c.args.ring c.from.result c.args.segno c.in-Some.name.now (option_copied c.args.name)
    c.index-names-from.result c.add.new.self some absent c.requires.given same c.requires.ring
    (c.in_ok-add.ensures.ok more branch)
