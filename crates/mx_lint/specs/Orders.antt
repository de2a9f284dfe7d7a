-- What is wrong with the order of lines: why a line that may be right by itself cannot stand at its place.
use Rattle.std.specs.Prelude.{ℕ, ◌==◌, nat_le, nat_lt, Bool, true, false, not, ◌&&◌, List, [], ◌∷◌, is_some}
use Rattle.mx_aim.specs.Classes.{class_of_text}
use Rattle.mx_lint.specs.Forms.{group_of, since_of}
use Rattle.mx_lint.specs.declared.forms.Form.{Form}
use Rattle.mx_lint.specs.declared.forms.Group.{Group}
use Rattle.mx_lint.specs.declared.forms.Group.TheVariants as group
use Rattle.mx_lint.specs.declared.orders.Order.{Order}
use Rattle.mx_lint.specs.declared.orders.Order.TheVariants.{FirstIsHeader, HeaderOnce, HistorySecond, NoProcessYet, LogoutWithoutProcess, EndWithoutProcess, ProcessInScript, EndInScript, SetupAfterProcess, AfterLogout, Sixteenth, AfterEnd, OfSupervisor, FromVersionTwo, FromVersionThree, ClassInVersionOne}
use Rattle.mx_lint.specs.declared.places.Place.{Place}
use Rattle.mx_lint.specs.declared.places.Place.TheVariants.{Start, Headed, Setup, Script, LoggedOut, Ended}

-- behind the header, and before the first process
abbrev pub is_setup : Place → Bool
is_setup Headed = true
is_setup Setup = true
is_setup place = false

abbrev pub is_start : Place → Bool
is_start Start = true
is_start place = false

abbrev pub is_headed : Place → Bool
is_headed Headed = true
is_headed place = false

-- a line of this group cannot stand at this place for this reason
abbrev pub is_out_of_place : Order → Place → Group → Bool
is_out_of_place FirstIsHeader Start group.Header = false
is_out_of_place FirstIsHeader Start other = true
is_out_of_place HeaderOnce place group.Header = not (is_start place)
is_out_of_place HistorySecond place group.Limit = not (is_headed place)
is_out_of_place NoProcessYet place group.OfProcess = is_setup place
is_out_of_place LogoutWithoutProcess place group.Logout = is_setup place
is_out_of_place EndWithoutProcess place group.End = is_setup place
is_out_of_place ProcessInScript (Script process) group.Process = true
is_out_of_place EndInScript (Script process) group.End = true
is_out_of_place SetupAfterProcess (LoggedOut processes) group.OfPath = true
is_out_of_place AfterLogout (LoggedOut processes) group.OfProcess = true
is_out_of_place AfterLogout (LoggedOut processes) group.Logout = true
is_out_of_place Sixteenth (LoggedOut processes) group.Process = nat_le 15 processes
is_out_of_place AfterEnd Ended other = true
is_out_of_place OfSupervisor place group.OfSupervisor = true
is_out_of_place order place other = false

abbrev pub is_process : Group → Bool
is_process group.Process = true
is_process other = false

-- behind the word of a line stand a principal and a class
abbrev pub has_class : List (List ℕ) → Bool
has_class (principal ∷ class ∷ []) = is_some (class_of_text class)
has_class texts = false

-- a session of this version cannot have a line of this kind, with these texts behind its word, for this reason
abbrev pub is_too_new : Order → ℕ → Form → List (List ℕ) → Bool
is_too_new FromVersionTwo version form texts = (since_of form == 2) && nat_lt version 2
is_too_new FromVersionThree version form texts = (since_of form == 3) && nat_lt version 3
is_too_new ClassInVersionOne version form texts = (version == 1) && (is_process (group_of form) && has_class texts)
is_too_new order version form texts = false
