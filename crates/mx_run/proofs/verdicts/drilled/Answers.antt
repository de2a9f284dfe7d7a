use Rattle.std.proofs.Common.{◌≡◌, subst, sym, true}
use Rattle.std.specs.List.{list_all}
use Rattle.mx_audit.proofs.AccountLaws.{grown_none}
use Rattle.mx_drill.proofs.SessionLaws.{drill_text}
use Rattle.mx_run.proofs.RoomLaws.{room_for_drill}
use Rattle.mx_script.specs.SessionTexts.{fits, rows_of}
use Rattle.mx_script.specs.Sessions.{Outline}
use Rattle.mx_run.proofs.verdicts.drilled.Goals as goal

pub returns-in_err-session-clause-grown : goal.returns-in_err-session-clause-grown
returns-in_err-session-clause-grown g c = grown_none _

-- a drill's scripts are short
pub ran-requires-clause-room : goal.ran-requires-clause-room
ran-requires-clause-room g c κs within = room_for_drill c.args.number c.in_ok-session.session _ c.in_ok-session.ensures c.requires.room

-- and its lines can be written
pub ran-requires-clause-text : goal.ran-requires-clause-text
ran-requires-clause-text g c κs within =
    subst (λ (x : Outline). list_all fits (rows_of x) ≡ true) (sym c.in_ok-session.ensures) (drill_text c.args.number c.requires.number).fits_all
