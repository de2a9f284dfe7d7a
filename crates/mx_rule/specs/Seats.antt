-- The view of a seat, by whose seat it is.
use Rattle.std.specs.Prelude.{[]}
use Rattle.mx_rule.specs.Dealing.{opening_view}
use Rattle.mx_rule.specs.Shown.{View, Super, Pass, Noted, Report, PassView, NoteView, ReportView, SuperView, fresh_view}

-- of a seat that is no pass's, a pass that did nothing
abbrev pub pass_of : {E : Type 0} → View E → PassView E
pass_of (Pass v) = v
pass_of _ = fresh_view 0 0

abbrev pub super_of : {E : Type 0} → View E → SuperView E
super_of (Super v) = v
super_of _ = opening_view 0 0 0 []

abbrev pub note_seen : {E : Type 0} → View E → NoteView E
note_seen (Noted v) = v
note_seen _ = record { number = 0; start = 0; floor = 0; told = []; history = [] }

abbrev pub report_seen : {E : Type 0} → View E → ReportView
report_seen (Report v) = v
report_seen _ = record { process = 0; floor = 0; length = 0; segno = 0; by = 0 }
