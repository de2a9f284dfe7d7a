use Rattle.mx_breach.proofs.breaches.add_bad_part.Goals as goal

pub add_bad-requires-clause-failing : goal.add_bad-requires-clause-failing
add_bad-requires-clause-failing c = record {
  lines = c.in_ok-failing.ensures.lines;
  line = c.in_ok-failing.ensures.line;
  naming = c.in_ok-failing.ensures.naming;
  setup = c.in_ok-failing.ensures.setup;
  full = c.in_ok-failing.ensures.full;
  read = c.in_ok-failing.ensures.read;
  miss = c.in_ok-failing.ensures.miss;
  point = c.in_ok-failing.ensures.point;
}
