-- What was judged, and completed by its cell step where it has one, is a reference that was seen.
use Rattle.std.proofs.Common.{◌≡◌, ℕ, ◌++◌, max, Bool, true, false, [], ◌∷◌, Option, Some, None, Result, Ok, Err, refl, sym, ap, ◌∙◌, subst, arith}
use Rattle.mx_sdw.specs.Descriptors.{Descriptor}
use Rattle.mx_sdw.specs.Judging.{judgement}
use Rattle.mx_sdw.specs.Operations.{transfers}
use Rattle.mx_sdw.specs.declared.denials.Denial.{Denial}
use Rattle.mx_sdw.specs.declared.descriptors.Cell.{Cell}
use Rattle.mx_sdw.proofs.JudgingLaws.{granted_has_cell}
use Rattle.mx_core.specs.Judging.{Agrees, at_once, at_once_by, stamp_read}
use Rattle.mx_core.specs.Loading.{element_of}
use Rattle.mx_core.specs.declared.elements.Kept.TheVariants.{Judged}
use Rattle.mx_core.specs.declared.elements.Outcome.{Outcome}
use Rattle.mx_core.specs.declared.elements.Outcome.TheVariants as outcome
use Rattle.mx_core.specs.declared.words.Asked.{Asked}
use Rattle.mx_core.specs.declared.words.Triple.{Triple}
use Rattle.mx_rule.specs.Loading.{judged_view}
use Rattle.mx_rule.specs.declared.views.PassView.{PassView}
use Rattle.mx_desc.specs.Completing.{IsCompletedBy, IsCompleted}
use Rattle.mx_desc.specs.Referring.{HasSeen}

max_zero : (n : ℕ) → max n 0 ≡ n
max_zero n = omega arith

-- what is over at once agrees with the rule, reads nothing and stores nothing
record IsOver (d : Descriptor) (a : Asked) (o : Outcome) : Type 0 where
  pub agrees : Agrees d a o
  pub stamp : stamp_read o ≡ 0
  pub unwritten : (value : ℕ) → o ≡ outcome.Written value → ⊥

over : (d : Descriptor) (a : Asked) (through : Bool) (ruled : Result Cell Denial) (o : Outcome)
    → transfers a.op ≡ through → judgement d a.op a.ring a.word ≡ ruled → at_once_by d a through ruled ≡ Some o
    → IsOver d a o
over d a through (Err denial) o e r h = subst (IsOver d a) (same_outcome (outcome.Denied denial) o h)
    (record { agrees = r; stamp = refl; unwritten = λ value w. no_denied denial value w })
  where
    same_outcome : (x y : Outcome) → Some x ≡ Some y → x ≡ y
    same_outcome x y h = cc

    no_denied : (denial : Denial) (value : ℕ) → outcome.Denied denial ≡ outcome.Written value → ⊥
    no_denied denial value h = cc
over d a true (Ok cell) o e r h = subst (IsOver d a) (same_outcome (outcome.Entered _) o h) (record {
  agrees = (r ∙ ap Ok (granted_has_cell d a.op a.ring a.word cell r), e, refl);
  stamp = refl;
  unwritten = λ value w. no_entered _ value w;
})
  where
    same_outcome : (x y : Outcome) → Some x ≡ Some y → x ≡ y
    same_outcome x y h = cc

    no_entered : (ring value : ℕ) → outcome.Entered ring ≡ outcome.Written value → ⊥
    no_entered ring value h = cc
over d a false (Ok cell) o e r h = cc

module _ {S : Type 0} (on : Triple) (a : Asked) (value : ℕ) (w v v' : PassView S) (o : Outcome) where
  by_case : (x : Option Outcome) → at_once on.desc a ≡ x → v ≡ judged_view x on a w
      → IsCompletedBy x on a value v o v' → HasSeen on a value w (element_of on.segno a w.floor o) v'
  by_case (Some done) e is c =
      let known = over on.desc a (transfers a.op) (judgement on.desc a.op a.ring a.word) done refl refl e in
      let stamp : stamp_read o ≡ 0 = ap stamp_read c.0 ∙ known.stamp in record {
        element = refl;
        right = subst (Agrees on.desc a) (sym c.0) known.agrees;
        stored = λ written h. absurd (known.unwritten written (sym c.0 ∙ h));
        after = c.1 ∙ is ∙ (λ i. record w {
          basis = Some on;
          hold = None;
          floor = sym (ap (max w.floor) stamp ∙ max_zero w.floor) i;
          trace = w.trace ++ Judged (element_of on.segno a w.floor (sym c.0 i)) a.op on.desc ∷ [];
        });
      }
  by_case None e is c = record {
    element = refl;
    right = c.right;
    stored = c.stored;
    after = c.after ∙ ap (λ (x : PassView S). record x {
      hold = None;
      floor = max x.floor (stamp_read o);
      trace = x.trace ++ Judged (element_of on.segno a x.floor o) a.op on.desc ∷ [];
    }) is;
  }

  pub seen_then : v ≡ judged_view (at_once on.desc a) on a w → IsCompleted on a value v o v'
      → HasSeen on a value w (element_of on.segno a w.floor o) v'
  seen_then is c = by_case (at_once on.desc a) refl is c
