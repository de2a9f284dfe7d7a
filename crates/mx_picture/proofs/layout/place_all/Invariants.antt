use Rattle.std.proofs.Common.{◌≡◌, ◌++◌, map, take}
use Rattle.mx_picture.specs.declared.layout.Placed.{Placed}
use Rattle.mx_picture.proofs.layout.place_all.Given as goal

-- the references so far were placed
abbrev pub invariant-loop-reference : goal.invariant-loop-reference
invariant-loop-reference l = record {
  placed : map (λ (p : Placed). p.judged) l.placed.items
      ≡ map (λ (p : Placed). p.judged) l.initial.placed.items ++ take l.reference-index l.judged;
}
