-- What the end tells is right.
use Rattle.std.proofs.Common.{◌≡◌, ℕ, ◌<◌, List, [], ◌∷◌, length, map, refl, ap, sym, subst, arith}
use Rattle.mx_reads.specs.ReadRule.{known_by, AreRightReads}
use Rattle.mx_core.specs.Deeds.{deed_of, front}
use Rattle.mx_core.specs.RightWords.{IsWord}
use Rattle.mx_core.specs.Traces.{IsGoodTrace}
use Rattle.mx_core.specs.declared.elements.Kept.{Kept}
use Rattle.mx_rule.specs.Ending.{EndIsRight}
use Rattle.mx_rule.specs.Fronts.{IsFront}
use Rattle.mx_rule.specs.Shown.{PassView, Super, Office}

none_in : (trace : List Kept) → length trace ≡ 0 → trace ≡ []
none_in [] e = refl
none_in (x ∷ trace) e = absurd (omega arith)

pub end_is_right : (S : Type 0) → EndIsRight S
end_is_right S y s v id r at =
    let w = r.world in
    let k = r.views id (Super v) at in
    let answered = ap (λ (x : Office). x.answered) k.1 in record {
      passes = λ i u has.
          let z = k.3 i u has in
          let floor : (w.process u.process).floor ≡ u.floor = ap (λ (x : PassView S). x.floor) z.2.rest in
          let trace : w.trace u.process ≡ u.trace = ap (λ (x : PassView S). x.trace) z.2.rest in record {
            floor = (let a = (r.good.access.processes u.process).floor_high in omega arith);
            trace = subst (λ (x : Office). IsGoodTrace x.start u.floor (λ q n. x.table q u.process n)
                (x.word u.process) u.trace) k.1
                (subst (λ (x : ℕ × List Kept). IsGoodTrace w.start x.0 (λ q n. w.table q u.process n)
                (w.word u.process) x.1) (λ i. (floor i, trace i)) (r.good.traces u.process));
          };
      told = λ i u has. subst (IsFront u.history) (sym k.5) (k.3 i u has).3;
      words = λ p n. subst (λ (x : Office). IsWord x.start x.answered x.length (λ q. x.table q p n) (x.told p n)
          (x.word p n)) k.1 (r.good.access.words p n);
      trace = w.trace;
      nobody = none_in (w.trace 0) r.good.shape.idle_nobody;
      more = λ p beyond. none_in (w.trace p) (r.good.shape.idle_more p
          (subst (λ (x : Office). x.processes < p) (sym k.1) beyond));
      shown = λ i u has. ap (λ (x : PassView S). x.trace) (k.3 i u has).2.rest;
      reads = subst (λ (x : Office). AreRightReads (λ p. map (deed_of x.start x.given) (w.trace p))
          (known_by (front x.start x.entry))) k.1
          (record { source = r.good.reads.source; right = r.good.reads.right });
    }
