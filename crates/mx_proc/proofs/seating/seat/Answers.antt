use Rattle.mx_proc.proofs.seating.seat.Goals as goal

pub returns-clause-begun : goal.returns-clause-begun
returns-clause-begun g c = record {
  set_up = c.in_ok-locked.ensures.part;
  partless = c.in_ok-locked.ensures.parts;
  uncounted = c.in_ok-locked.ensures.amount;
}
