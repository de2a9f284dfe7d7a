use Rattle.std.proofs.Common.{◌≡◌, ℕ, inl, Some, sym, ap, ◌∙◌, subst}
use Rattle.mx_core.specs.AssociativeMemory.{recalled}
use Rattle.mx_core.specs.declared.elements.Element.{Element}
use Rattle.mx_desc.specs.Referring.{HasSeen}
use Rattle.mx_desc.specs.declared.referring.Referred.TheVariants.{Seen}
use Rattle.mx_rule.specs.declared.views.PassView.{PassView}
use Rattle.mx_cam.proofs.CamLaws.{has_basis, memory_is, memory_missed, recalled_number}
use Rattle.mx_cam.proofs.cams.Cam.refer.Goals as goal

pub recall-element-requires-clause-recall : goal.recall-element-requires-clause-recall
recall-element-requires-clause-recall g c =
    let n = c.args.segno in
    let on = c.in-Some.on.now in
    let memory : c.self.inside.places ≡ c.args.pass.now.view.memory = c.self.view_is ∙ c.requires.same in
    let at = sym (ap (recalled n) memory) ∙ sym c.in-Some.ensures.told in
    subst (λ (k : ℕ). recalled k c.args.pass.now.view.memory ≡ Some on)
    (sym (recalled_number n c.args.pass.now.view.memory on at)) at

pub remember-requires : goal.remember-requires
remember-requires g c = record {
  based = has_basis g.B.Naming.layout.numbers c.args.segno _ c.args.value c.args.pass.now.view c.refer.new.self.view
      c.in-Seen.element (c.refer.ensures.seen c.in-Seen.element c.in-Seen.is);
  none = ap (recalled c.args.segno) (sym c.self.view_is) ∙ sym c.in-None.ensures.told;
}

same_seen : (e f : Element) → Seen e ≡ Seen f → e ≡ f
same_seen e f h = cc

pub returns-in-Some-clause-seen : goal.returns-in-Some-clause-seen
returns-in-Some-clause-seen g c e is =
    let n = c.args.segno in
    let on = c.in-Some.on.now in
    let memory : c.self.inside.places ≡ c.args.pass.now.view.memory = c.self.view_is ∙ c.requires.same in
    inl (record {
      on = on;
      at = sym (ap (recalled n) memory) ∙ sym c.in-Some.ensures.told;
      admissible = c.recall-element.ensures.admissible;
      seen = subst (λ (z : Element). HasSeen on (record { op = c.args.op; ring = c.args.ring; word = c.args.word })
          c.args.value c.args.pass.now.view z c.recall-element.new.self.view) (same_seen c.recall-element.result e is)
          c.recall-element.ensures.seen;
    })

pub returns-in-Seen-clause-same : goal.returns-in-Seen-clause-same
returns-in-Seen-clause-same g c =
    memory_is g.B.Naming.layout.numbers c.args.segno _ c.args.value c.args.pass.now.view c.refer.new.self.view
    c.in-Seen.element (c.refer.ensures.seen c.in-Seen.element c.in-Seen.is) c.args.self.now c.remember.new.self
    c.requires.same c.remember.ensures

pub returns-in-Missing-clause-same : goal.returns-in-Missing-clause-same
returns-in-Missing-clause-same g c =
    c.requires.same
    ∙ memory_missed c.args.segno c.in-Missing.by c.args.pass.now.view c.refer.new.self.view
    (c.refer.ensures.missing c.in-Missing.by c.in-Missing.is)

pub returns-in-Some-clause-stage : goal.returns-in-Some-clause-stage
returns-in-Some-clause-stage g c =
    ap (λ (v : PassView g.row.E.Denot). v.stage) c.recall-element.ensures.seen.after
