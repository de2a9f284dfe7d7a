use Rattle.std.proofs.Common.{refl, sym, ◌∙◌}
use Rattle.std.specs.Option.{option_copied}
use Rattle.mx_hier.specs.MakeSegment.{Wanted}
use Rattle.mx_hier.specs.Who.{subject}
use Rattle.mx_hier.proofs.MakingLaws.{segment_refused, segment_unfit, segment_unbracketed, segment_left, answers_as, tells_first_as}
use Rattle.mx_fresh.proofs.hierarchy.FreshHierarchy.make_segment_at.Goals as goal

pub returns-in-Some-clause-answer : goal.returns-in-Some-clause-answer
returns-in-Some-clause-answer c =
    let wanted : Wanted = record { words = c.args.words; rings = c.args.rings.now; modes = c.args.modes; object = option_copied c.args.object } in
    (segment_refused c.args.self.now (subject c.args.who.now) c.args.at.now wanted c.in-Some.why c.in-Some.ensures.value, refl)

pub returns-then-is_bad_length-clause-answer : goal.returns-then-is_bad_length-clause-answer
returns-then-is_bad_length-clause-answer c =
    let wanted : Wanted = record { words = c.args.words; rings = c.args.rings.now; modes = c.args.modes; object = option_copied c.args.object } in (
      segment_unfit c.args.self.now (subject c.args.who.now) c.args.at.now wanted c.in_default.ensures.value
          (sym c.is_bad_length.ensures ∙ c.if-is_bad_length.true),
      refl,
    )

pub returns-in-None-clause-answer : goal.returns-in-None-clause-answer
returns-in-None-clause-answer c =
    let wanted : Wanted = record { words = c.args.words; rings = c.args.rings.now; modes = c.args.modes; object = option_copied c.args.object } in (
      segment_unbracketed c.args.self.now (subject c.args.who.now) c.args.at.now wanted c.in_default.ensures.value
          (sym c.is_bad_length.ensures ∙ c.if-is_bad_length.false) (sym c.in-None.ensures),
      refl,
    )

pub returns-in-Some-settable-clause-answer : goal.returns-in-Some-settable-clause-answer
returns-in-Some-settable-clause-answer c =
    let wanted : Wanted = record { words = c.args.words; rings = c.args.rings.now; modes = c.args.modes; object = option_copied c.args.object } in
    answers_as c.args.self.now c.add_segment.result c.add_segment.new.self
    (segment_left c.args.self.now (subject c.args.who.now) c.args.at.now wanted c.in_default.ensures.value c.in-Some-settable.brackets
    (sym c.is_bad_length.ensures ∙ c.if-is_bad_length.false) (sym c.in-Some-settable.ensures))
    c.add_segment.ensures.answer

pub returns-in-Some-settable-clause-told : goal.returns-in-Some-settable-clause-told
returns-in-Some-settable-clause-told c =
    let wanted : Wanted = record { words = c.args.words; rings = c.args.rings.now; modes = c.args.modes; object = option_copied c.args.object } in
    tells_first_as c.add_segment.result
    (segment_left c.args.self.now (subject c.args.who.now) c.args.at.now wanted c.in_default.ensures.value c.in-Some-settable.brackets
    (sym c.is_bad_length.ensures ∙ c.if-is_bad_length.false) (sym c.in-Some-settable.ensures))
    c.add_segment.ensures.told
