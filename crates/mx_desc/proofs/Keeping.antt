-- What a pass's type says holds again after a reference.
use Rattle.std.proofs.Common.{◌≡◌, ℕ, ◌≤◌, ◌++◌, List, [], ◌∷◌, length, Option, Some, None, sym, ap, ◌∙◌, subst, arith}
use Rattle.std.specs.Prelude.{option_map}
use Rattle.atomic_table.specs.Seated.{TableId}
use Rattle.mx_core.specs.declared.elements.Element.{Element}
use Rattle.mx_core.specs.declared.elements.Kept.{Kept}
use Rattle.mx_core.specs.declared.elements.Kept.TheVariants.{Judged, Missed}
use Rattle.mx_core.specs.declared.words.Asked.{Asked}
use Rattle.mx_core.specs.declared.words.Triple.{Triple}
use Rattle.mx_rule.specs.declared.layout.Layout.{Layout}
use Rattle.mx_rule.specs.declared.views.PassView.{PassView}
use Rattle.mx_desc.specs.Passes.{IsPass}
use Rattle.mx_desc.specs.Referring.{HasMissed, HasSeen}
use Rattle.mx_desc.specs.Traces.{IsTraceOf}

pub opened_before : {E : Type 0} (table place : TableId) (layout y : Layout) (start parts : ℕ) (v : PassView E)
    (trace : Option (List Kept)) (basis : Option Triple) → IsPass table place layout y start parts v trace basis
    → v.start ≤ v.floor
opened_before table place layout y start parts v trace basis is = let a = is.begun in let b = is.behind in omega arith

-- one event more is kept, where events are
one_more_kept : (did : List Kept) (kept : Option (List Kept)) (event : Kept) → IsTraceOf did kept
    → IsTraceOf (did ++ event ∷ []) (option_map (λ before. before ++ event ∷ []) kept)
one_more_kept did (Some before) event is = ap (λ (t : List Kept). t ++ event ∷ []) is
one_more_kept did None event is = tt

kept_then : (did did' : List Kept) (kept kept' : Option (List Kept)) (event : Kept) → IsTraceOf did kept
    → kept' ≡ option_map (λ before. before ++ event ∷ []) kept → did' ≡ did ++ event ∷ [] → IsTraceOf did' kept'
kept_then did did' kept kept' event is more next =
    subst (λ (z : List Kept × Option (List Kept)). IsTraceOf z.0 z.1) (λ i. (sym next i, sym more i))
    (one_more_kept did kept event is)

module _ {E : Type 0} (table here there : TableId) (layout y z : Layout) (start parts : ℕ) (v v' : PassView E)
    (trace trace' : Option (List Kept)) (basis basis' : Option Triple)
    (is : IsPass table here layout y start parts v trace basis)
    (same : there ≡ here) (alike : z ≡ y) where
  pub still_seen : (m : List Triple) (on : Triple) (a : Asked) (value : ℕ) (e : Element)
      → HasSeen on a value (record v { memory = m }) e v' → trace' ≡ option_map (λ before. before ++ Judged e a.op on.desc ∷ []) trace
      → basis' ≡ Some on → IsPass table there layout z start parts v' trace' basis'
  still_seen m on a value e seen kept based = let after = seen.after in record {
    here = same ∙ is.here;
    laid = alike ∙ is.laid;
    begun = ap (λ (x : PassView E). x.start) after ∙ is.begun;
    behind = (let h = ap (λ (x : PassView E). length x.history) after in
        let f = ap (λ (x : PassView E). x.floor) after in let b = is.behind in omega arith);
    kept = kept_then v.trace v'.trace trace trace' (Judged e a.op on.desc) is.kept kept
        (ap (λ (x : PassView E). x.trace) after);
    based = based ∙ sym (ap (λ (x : PassView E). x.basis) after);
    part = is.part;
  }

  pub still_missed : (n by : ℕ) → HasMissed n by v v' → trace' ≡ option_map (λ before. before ++ Missed n by ∷ []) trace → basis' ≡ None
      → IsPass table there layout z start parts v' trace' basis'
  still_missed n by missed kept based = let after = missed.after in record {
    here = same ∙ is.here;
    laid = alike ∙ is.laid;
    begun = ap (λ (x : PassView E). x.start) after ∙ is.begun;
    behind = (let h = ap (λ (x : PassView E). length x.history) after in
        let f = ap (λ (x : PassView E). x.floor) after in let b = is.behind in omega arith);
    kept = kept_then v.trace v'.trace trace trace' (Missed n by) is.kept kept (ap (λ (x : PassView E). x.trace) after);
    based = based ∙ sym (ap (λ (x : PassView E). x.basis) after);
    part = is.part;
  }
