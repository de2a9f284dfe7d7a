-- Where in a session text a line stands: the place that the lines before it make, one after another.
use Rattle.std.specs.Prelude.{ℕ, zero, suc, ◌+◌, List, Option, Some}
use Rattle.std.specs.Option.{option_map}
use Rattle.mx_lint.specs.Forms.{form_named, group_of}
use Rattle.mx_lint.specs.Lines.{first_line, without_lines}
use Rattle.mx_lint.specs.Pieces.{first_piece}
use Rattle.mx_lint.specs.declared.forms.Group.{Group}
use Rattle.mx_lint.specs.declared.forms.Group.TheVariants as group
use Rattle.mx_lint.specs.declared.places.Place.{Place}
use Rattle.mx_lint.specs.declared.places.Place.TheVariants.{Start, Headed, Setup, Script, LoggedOut, Ended}

-- how many processes have begun
abbrev pub begun : Place → ℕ
begun (Script process) = process
begun (LoggedOut processes) = processes
begun place = 0

-- the place behind one more line, of this group: any other than the five that hold a session together goes on with the script in which
-- it stands, or is of the setup
abbrev pub behind : Place → Option Group → Place
behind place (Some group.Header) = Headed
behind place (Some group.Process) = Script (begun place + 1)
behind place (Some group.Logout) = LoggedOut (begun place)
behind place (Some group.End) = Ended
behind (Script process) other = Script process
behind place other = Setup

-- the group of a line, by its first word
abbrev pub group_of_line : List ℕ → Option Group
group_of_line line = option_map group_of (form_named (first_piece line))

-- the place behind so many of the first lines of a text
abbrev pub place_behind : ℕ → List ℕ → Place
place_behind zero text = Start
place_behind (suc n) text = behind (place_behind n text) (group_of_line (first_line (without_lines n text)))
