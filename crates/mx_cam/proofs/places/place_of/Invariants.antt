use Rattle.mx_core.specs.AssociativeMemory.{HasNotBefore}
use Rattle.mx_cam.proofs.places.place_of.Given as goal

abbrev pub invariant-loop-place : goal.invariant-loop-place
invariant-loop-place l = HasNotBefore l.segno l.triples l.place
