use Rattle.std.proofs.Common.{◌≡◌, length}
use Rattle.mx_legal.specs.Entries.{AreGoodTo, AreOfProcessesTo, state_at}
use Rattle.mx_legal.proofs.entries.first_bad_entry.Given as goal

-- the entries before the place are good, and the supervisor has answered them
abbrev pub invariant-loop-place : goal.invariant-loop-place
invariant-loop-place g l = record {
  processes : length (g.S.PlainSupervisor.state l.supervisor).processes ≡ length l.session.principals;
  state : g.S.PlainSupervisor.state l.supervisor ≡ state_at l.session l.journal l.place;
  good : AreGoodTo l.session l.journal l.place;
  makers : AreOfProcessesTo l.session l.journal l.place;
}
