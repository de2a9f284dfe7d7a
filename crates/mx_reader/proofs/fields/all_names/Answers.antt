use Rattle.std.proofs.Common.{sym, ◌∙◌}
use Rattle.mx_reader.proofs.NameLaws.{names_last, names_next, no_next}
use Rattle.mx_reader.proofs.fields.all_names.Goals as goal

pub returns-in_default-read_name : goal.returns-in_default-read_name
returns-in_default-read_name c =
    sym (c.loop-field.invariant
    ∙ no_next c.loop-field.names.items c.loop-field.left.now (c.in-Some.field.now, c.in-Some.rest.now) (sym c.in-Some.ensures.cut)
    (sym c.read_name.ensures ∙ c.in_default-read_name.is))

pub loop-field-preserved : goal.loop-field-preserved
loop-field-preserved c =
    c.loop-field.invariant
    ∙ names_next c.loop-field.names.items c.push.new.self.items c.loop-field.left.now (c.in-Some.field.now, c.in-Some.rest.now)
    c.in-Some-read_name.name (sym c.in-Some.ensures.cut) (sym c.read_name.ensures ∙ c.in-Some-read_name.is) c.in_ok-push.ensures.items

pub returns : goal.returns
returns c =
    sym (c.loop-field.invariant
    ∙ names_last c.loop-field.names.items c.push-2.new.self.items c.loop-field.left.now c.in-Some-read_name-2.last
    (sym c.in_default.ensures.cut) (sym c.read_name-2.ensures ∙ c.in-Some-read_name-2.is) c.in_ok-push-2.ensures.items)
