use Rattle.std.proofs.Common.{[], sym, ◌∙◌, ap, subst}
use Rattle.mx_transcript.specs.Courses.{Answer}
use Rattle.mx_line.proofs.ReplyLaws.{link_snaps}
use Rattle.mx_line.specs.AtWork.{StandsAt, begun, filling_or}
use Rattle.mx_line.specs.Fills.{first_fill}
use Rattle.mx_line.specs.declared.at_work.LineAtWork.TheVariants.{Nowhere}
use Rattle.mx_line.specs.declared.fills.Behind.TheVariants.{Pointer}
use Rattle.mx_line.specs.declared.fills.Snap.{Snap}
use Rattle.mx_line.proofs.replies.linked.Goals as goal

pub returns-in-Linked-clause-stands : goal.returns-in-Linked-clause-stands
returns-in-Linked-clause-stands c = λ l entry memory ring is said.
    subst (StandsAt c.args.control.now l (Answer entry []))
    (sym (c.fills.ensures ∙ ap (λ (s : Snap). filling_or Nowhere (first_fill (begun c.in-Linked.linkage) (Pointer s))) c.snap-snap.ensures))
    (link_snaps c.args.control.now l entry c.args.place.segno c.args.place.word c.args.place.ring c.in-Linked.segno c.in-Linked.word
    c.in-Linked.fresh c.in-Linked.linkage memory ring is (said ∙ c.in-Linked.is))
