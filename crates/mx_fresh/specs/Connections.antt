-- Helpers: how a segment becomes known, as the program has it.
use Rattle.std.specs.Prelude.{Result, Ok, Err}
use Rattle.mx_hier.specs.Branches.{Hierarchy}
use Rattle.mx_hier.specs.declared.refusals.Refusal.{Refusal}
use Rattle.mx_state.specs.Connecting.{Connected}
use Rattle.mx_fresh.specs.declared.connecting.Connection.{Connection}

abbrev pub connected_of : Hierarchy → Result Connection Refusal → Result Connected Refusal
connected_of hierarchy (Ok connection) = Ok (record {
  known = connection.known;
  after = connection.after;
  hierarchy = record hierarchy { pages = connection.pages };
})
connected_of hierarchy (Err why) = Err why
