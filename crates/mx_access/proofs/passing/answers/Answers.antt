use Rattle.std.proofs.Common.{◌≡◌, length, replicate, ap, arith, rules}
use Rattle.mx_access.proofs.PassLaws.{at_first}
use Rattle.mx_transcript.specs.Opened.{opening_of}
use Rattle.mx_access.proofs.passing.answers.Goals as goal

pub answer_turns-requires-clause-few : goal.answer_turns-requires-clause-few
answer_turns-requires-clause-few g c =
    omega (arith, ap length c.principals-principals.ensures.value, c.principals-principals.ensures.most)

pub answer_turns-requires-clause-is_at : goal.answer_turns-requires-clause-is_at
answer_turns-requires-clause-is_at g c =
    let state : g.S.PlainSupervisor.state c.in_ok-supervisor.supervisor ≡ opening_of c.args.session.now = search rules in
    let zeros : c.as_mut_slice.result.now ≡ replicate 1024 0 = search rules in
    at_first c.args.session.now c.args.entries.now (g.S.PlainSupervisor.state c.in_ok-supervisor.supervisor)
    c.as_mut_slice.result.now state zeros
