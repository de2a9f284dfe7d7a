-- A granted reference that is not over at once is completed by its cell step.
use Rattle.std.proofs.Common.{◌≡◌, ℕ, ◌++◌, ◌∷◌, [], max, Bool, true, false, None, Result, Ok, Err, refl, sym, ap, ◌∙◌, arith}
use Rattle.mx_sdw.specs.Descriptors.{Descriptor}
use Rattle.mx_sdw.specs.Judging.{judgement}
use Rattle.mx_sdw.specs.Operations.{transfers, writes}
use Rattle.mx_sdw.specs.declared.denials.Denial.{Denial}
use Rattle.mx_sdw.specs.declared.descriptors.Cell.{Cell}
use Rattle.mx_sdw.specs.declared.operations.Op.{Op}
use Rattle.mx_sdw.specs.declared.operations.Op.TheVariants as op
use Rattle.mx_sdw.proofs.JudgingLaws.{granted_has_cell}
use Rattle.mx_core.specs.Judging.{at_once, at_once_by, loads}
use Rattle.mx_core.specs.Loading.{element_of}
use Rattle.mx_core.specs.declared.elements.Kept.TheVariants.{Judged}
use Rattle.mx_core.specs.declared.elements.Outcome.TheVariants as outcome
use Rattle.mx_core.specs.declared.words.Asked.{Asked}
use Rattle.mx_core.specs.declared.words.Triple.{Triple}
use Rattle.mx_rule.specs.Codes.{cell_said}
use Rattle.mx_rule.specs.Holding.{read_by, read_held, stored_by, stored_held}
use Rattle.mx_rule.specs.declared.views.PassView.{PassView}
use Rattle.mx_desc.specs.Completing.{AwaitsCell, HasCell}

max_zero : (n : ℕ) → max n 0 ≡ n
max_zero n = omega arith

neither_loads : (o : Op) → transfers o ≡ false → writes o ≡ false → loads o ≡ true
neither_loads op.Read t w = refl
neither_loads op.Indirect t w = refl
neither_loads op.Write t w = cc
neither_loads op.Fetch t w = refl
neither_loads (op.Call current same upward) t w = cc
neither_loads op.Return t w = cc

-- what is not over at once is granted, and no transfer
record GoesThrough (d : Descriptor) (a : Asked) : Type 0 where
  pub cell : Cell
  pub granted : judgement d a.op a.ring a.word ≡ Ok cell
  pub stays : transfers a.op ≡ false

goes_by : (d : Descriptor) (a : Asked) (through : Bool) (ruled : Result Cell Denial) → transfers a.op ≡ through
    → judgement d a.op a.ring a.word ≡ ruled → at_once_by d a through ruled ≡ None → GoesThrough d a
goes_by d a through (Err denial) t r e = cc
goes_by d a true (Ok cell) t r e = cc
goes_by d a false (Ok cell) t r e = record { cell = cell; granted = r; stays = t }

goes : (d : Descriptor) (a : Asked) → at_once d a ≡ None → GoesThrough d a
goes d a e = goes_by d a (transfers a.op) (judgement d a.op a.ring a.word) refl refl e

module _ {S : Type 0} (on : Triple) (a : Asked) (v v' : PassView S) (none : at_once on.desc a ≡ None)
    (held : AwaitsCell on a v) where
  through : GoesThrough on.desc a
  through = goes on.desc a none

  pub stored_done : (value : ℕ) → writes a.op ≡ true → v' ≡ stored_held value v
      → HasCell on a value v (outcome.Written value) v'
  stored_done value w is = record {
    right = (through.granted ∙ ap Ok (granted_has_cell on.desc a.op a.ring a.word through.cell through.granted), w);
    stored = λ written h. same value written h;
    after = is ∙ (λ i. stored_by (held.basis i) (held.hold i) value v) ∙ (λ i. record v {
      hold = None;
      floor = sym (max_zero v.floor) i;
      trace = v.trace ++ Judged (element_of on.segno a v.floor (outcome.Written value)) a.op on.desc ∷ [];
    });
  }
    where
      same : (x y : ℕ) → outcome.Written x ≡ outcome.Written y → y ≡ x
      same x y h = cc

  pub read_done : (value n x y z : ℕ) → writes a.op ≡ false → v' ≡ read_held n v → x ≡ (cell_said n).value
      → y ≡ (cell_said n).writer → z ≡ (cell_said n).stamp
      → HasCell on a value v (outcome.Read x y z) v'
  read_done value n x y z w is ex ey ez = record {
    right = (
      through.granted ∙ ap Ok (granted_has_cell on.desc a.op a.ring a.word through.cell through.granted),
      neither_loads a.op through.stays w,
    );
    stored = λ written h. absurd (other x y z written h);
    after = is ∙ (λ i. read_by (held.basis i) (held.hold i) n v) ∙ (λ i. record v {
      hold = None;
      floor = max v.floor (sym ez i);
      trace = v.trace ++ Judged (element_of on.segno a v.floor (outcome.Read (sym ex i) (sym ey i) (sym ez i))) a.op
          on.desc ∷ [];
    });
  }
    where
      other : (x y z written : ℕ) → outcome.Read x y z ≡ outcome.Written written → ⊥
      other x y z written h = cc
