use Rattle.std.proofs.Common.{◌≡◌, length}
use Rattle.mx_legal.specs.Entries.{state_at}
use Rattle.mx_legal.proofs.supervisors.supervisor_at.Given as goal

-- the supervisor has answered the entries before the place
abbrev pub invariant-loop-place : goal.invariant-loop-place
invariant-loop-place g l = record {
  processes : length (g.S.PlainSupervisor.state l.supervisor).processes ≡ length l.session.principals;
  state : g.S.PlainSupervisor.state l.supervisor ≡ state_at l.session l.journal l.place;
}
