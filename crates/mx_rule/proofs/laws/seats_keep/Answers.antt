use Rattle.mx_rule.proofs.Endings.{end_is_right}
use Rattle.mx_rule.proofs.NoteSteps.{makes_report_allowed}
use Rattle.mx_rule.proofs.Openings.{opening_allowed, deal_allowed, retire_allowed}
use Rattle.mx_rule.proofs.Tellings.{hear_allowed, listen_allowed}
use Rattle.mx_rule.proofs.laws.seats_keep.Goals as goal

pub returns : goal.returns
returns g c = record {
  opening = opening_allowed g.row.E.Denot;
  deal = deal_allowed g.row.E.Denot;
  makes_report = makes_report_allowed g.row.E.Denot;
  retire = retire_allowed g.row.E.Denot;
  hear = hear_allowed g.row.E.Denot;
  listen = listen_allowed g.row.E.Denot;
  end = end_is_right g.row.E.Denot;
}
