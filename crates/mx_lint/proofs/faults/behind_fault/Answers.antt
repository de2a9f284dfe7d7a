use Rattle.std.proofs.Common.{◌⊎◌, refl, inl, inr}
use Rattle.mx_lint.specs.Faults.{HasFields, HasItems}
use Rattle.mx_lint.specs.Findings.{AreAllItems, IsFaultBehind, IsFieldFault}
use Rattle.mx_lint.specs.Pieces.{pieces_of}
use Rattle.mx_lint.proofs.FaultLaws.{found_so, all_items, of_items}
use Rattle.mx_lint.proofs.faults.behind_fault.Goals as goal

pub returns-in-CreateObject : goal.returns-in-CreateObject
returns-in-CreateObject c = λ texts h.
    found_so (AreAllItems (pieces_of c.args.text.now)) (HasFields c.args.form texts ⊎ HasItems c.args.form texts)
    (IsFaultBehind (pieces_of c.args.text.now)) (IsFieldFault c.args.form texts)
    (λ all. inr (all_items c.args.form texts (pieces_of c.args.text.now) c.in-CreateObject.is h all))
    (of_items c.args.form texts (pieces_of c.args.text.now) c.in-CreateObject.is h) c.object_fault.result c.object_fault.ensures

pub returns-in_default : goal.returns-in_default
returns-in_default c = λ texts h.
    (refl, inl (record { no_object = c.in_default.not-CreateObject; before = h.before; texts_are = h.texts_are; read = h.read }))
