use Rattle.std.proofs.Common.{◌≡◌, ◌-◌, ◌≤◌, true, List, None, Some, map, sym, subst, arith, rules}
use Rattle.std.specs.List.{list_all, slice_get}
use Rattle.mx_script.specs.SessionTexts.{fits_line}
use Rattle.mx_script.specs.Sessions.{is_script_line}
use Rattle.mx_script.specs.declared.lines.Line.{Line}
use Rattle.mx_script.specs.declared.lines.Line.TheVariants.{Ask}
use Rattle.mx_transcript.specs.Scripts.{first_line}
use Rattle.mx_parts.proofs.ScriptLaws.{lines_at, no_lines, script_fits, script_sayable, setup_fits, setup_sayable}
use Rattle.mx_parts.proofs.departures.departure_at.Goals as goal

pub depart_at-requires-clause-sayable : goal.depart_at-requires-clause-sayable
depart_at-requires-clause-sayable c =
    let same : c.items-then-p-eq0.result.now ≡ map Ask c.args.session.now.setup = search rules in
    subst (λ (lines : List Line). list_all (is_script_line c.args.session.now.version) lines ≡ true) (sym same)
    (setup_sayable c.args.session.now.version c.args.session.now.setup c.scripts.ensures.session.setup)

pub depart_at-requires-clause-fits : goal.depart_at-requires-clause-fits
depart_at-requires-clause-fits c =
    let same : c.items-then-p-eq0.result.now ≡ map Ask c.args.session.now.setup = search rules in
    subst (λ (lines : List Line). list_all fits_line lines ≡ true) (sym same) (setup_fits c.args.session.now c.requires.session)

pub depart_at-requires-in-Some-clause-lines : goal.depart_at-requires-in-Some-clause-lines
depart_at-requires-in-Some-clause-lines c =
    let other = c.if-p-eq0.false in
    let some : 1 ≤ c.args.p = omega (arith, other) in
    let at : slice_get c.args.session.now.scripts (c.args.p - 1) ≡ Some c.items-in-Some.result.now = search rules in
    let is : c.first_line-first-in-Some.result ≡ first_line c.args.session.now c.args.p = search rules in
    lines_at c.args.session.now c.args.p c.first_line-first-in-Some.result c.items-in-Some.result.now some at is

pub depart_at-requires-in-Some-clause-fits : goal.depart_at-requires-in-Some-clause-fits
depart_at-requires-in-Some-clause-fits c =
    let at : slice_get c.args.session.now.scripts (c.args.p - 1) ≡ Some c.items-in-Some.result.now = search rules in
    script_fits c.args.session.now (c.args.p - 1) c.items-in-Some.result.now c.scripts.ensures.session.scripts c.requires.session at

pub depart_at-requires-in-None-clause-lines : goal.depart_at-requires-in-None-clause-lines
depart_at-requires-in-None-clause-lines c =
    let other = c.if-p-eq0.false in
    let some : 1 ≤ c.args.p = omega (arith, other) in
    let none : slice_get c.args.session.now.scripts (c.args.p - 1) ≡ None = search rules in
    no_lines c.args.session.now c.args.p some none

pub depart_at-requires-in-Some-clause-sayable : goal.depart_at-requires-in-Some-clause-sayable
depart_at-requires-in-Some-clause-sayable c =
    let at : slice_get c.args.session.now.scripts (c.args.p - 1) ≡ Some c.items-in-Some.result.now = search rules in
    script_sayable c.args.session.now.version c.args.session.now.scripts (c.args.p - 1) c.items-in-Some.result.now
    c.scripts.ensures.session.each at
