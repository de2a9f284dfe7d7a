use Rattle.std.proofs.Common.{rules, ◌≡◌, ◌∙◌, length, min}
use Rattle.mx_judging.specs.Replays.{replayed}
use Rattle.mx_judging.proofs.ReplayLaws.{access_there, entry_there}
use Rattle.mx_judging.proofs.replays.Replay.judged.Goals as goal

pub returns-clause-access : goal.returns-clause-access
returns-clause-access c =
    let session : c.self.inside.session.now ≡ c.args.self.now.session = search rules in
    let journal : c.self.inside.journal.now ≡ c.args.self.now.journal = search rules in
    let at : c.self.inside.at ≡ min c.args.element.point (length c.self.inside.journal.now) = search rules in
    record {
      desc = rw (← session, ← journal)
          (c.descriptor-desc.ensures.value
          ∙ access_there (replayed c.self.inside.session.now c.self.inside.journal.now c.self.inside.at) c.self.inside.state
          c.args.element.point c.args.process c.args.element.segno c.self.invariant at);
      entry = rw (← session, ← journal)
          (c.copied-entry.ensures ∙ c.deciding_entry.ensures.value
          ∙ entry_there (replayed c.self.inside.session.now c.self.inside.journal.now c.self.inside.at) c.self.inside.state
          c.args.element.point c.args.process c.args.element.segno c.self.invariant at);
    }
