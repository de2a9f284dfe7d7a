-- Passes that come back one after another.
use Rattle.std.proofs.Common.{◌≡◌, ℕ, zero, suc, List, [], ◌∷◌, ◌++◌, length, refl, ap, sym, ◌∙◌, subst, Some, arith, append_assoc}
use Rattle.std.specs.List.{slice_get, sum_by, Contains}
use Rattle.std.proofs.lemmas.List.Elements.{Contains-append_right}
use Rattle.mx_desc.specs.Passes.{PassValue}
use Rattle.mx_rule.specs.Dealing.{retired_view}
use Rattle.mx_rule.specs.Ending.{IsRightEnd}
use Rattle.mx_rule.specs.declared.views.PassView.{PassView}
use Rattle.mx_rule.specs.declared.views.SuperView.{SuperView}
use Rattle.mx_script.specs.Sessions.{Outline}
use Rattle.mx_state.specs.declared.journal.Entry as journaled
use Rattle.mx_ties.specs.Closed.{IsClosed}
use Rattle.mx_closing.proofs.Closings.{closing_law}
use Rattle.mx_closing.specs.Closing.{AreOfAll, returned}
use Rattle.mx_closing.specs.Keeping.{KeepsJournal}
use Rattle.mx_closing.specs.Views.{marked_in, views_in}

pub returned_one : {E : Type 0} (passes : List (PassValue E)) (o : PassValue E) (views : List (PassView E))
    → returned (passes ++ o ∷ []) views ≡ o.view ∷ returned passes views
returned_one [] o views = refl
returned_one (p ∷ passes) o views = returned_one passes o (p.view ∷ views)

-- who was back before is so still
still : {E : Type 0} (passes : List (PassValue E)) (views : List (PassView E)) (u : PassView E) → Contains views u
    → Contains (returned passes views) u
still [] views u c = c
still (o ∷ passes) views u c = still passes (o.view ∷ views) u (Contains-append_right (o.view ∷ []) views u c)

pub come_back : {E : Type 0} (passes : List (PassValue E)) (views : List (PassView E)) (place : ℕ) (o : PassValue E)
    → slice_get passes place ≡ Some o → Contains (returned passes views) o.view
come_back [] views place o at = absurd (none at)
  where
    none : slice_get {X = PassValue _} [] place ≡ Some o → ⊥
    none at = cc
come_back (p ∷ passes) views zero o at =
    still passes (p.view ∷ views) o.view
    (subst (λ (q : PassValue _). Contains (p.view ∷ views) q.view) (same at) (0, omega arith, refl))
  where
    same : Some p ≡ Some o → p ≡ o
    same at = cc
come_back (p ∷ passes) views (suc place) o at = come_back passes (p.view ∷ views) place o at

pub finished : (x : Outline) (setup : List journaled.Entry) (v v' : SuperView journaled.Entry)
    (items passes : List (PassValue journaled.Entry)) → items ≡ passes
    → v' ≡ record v { retired = returned items v.retired } → AreOfAll v.processes passes
    → sum_by (λ (o : PassValue journaled.Entry). o.amount) items ≡ length v.history → IsRightEnd v'
    → KeepsJournal x setup v → IsClosed x setup (marked_in v.history) (views_in passes)
finished x setup v v' items passes same is all counted end keeps =
    let w : SuperView journaled.Entry = record v { retired = returned passes v.retired } in
    closing_law x setup w passes
    (record {
      history = keeps.history;
      setup_length = keeps.setup_length;
      begun = keeps.begun;
      counted = keeps.counted;
      answered = keeps.answered;
      processes = keeps.processes;
      makers = keeps.makers;
      tables = keeps.tables;
      admissible = keeps.admissible;
      given = keeps.given;
    })
    (record {
      all = all;
      back = come_back passes v.retired;
      amounts = ap (sum_by (λ (o : PassValue journaled.Entry). o.amount)) (sym same) ∙ counted;
    })
    (subst IsRightEnd
    (is ∙ ap (λ (all : List (PassValue journaled.Entry)). record v { retired = returned all v.retired }) same) end)

pub one_more_back : {E : Type 0} (old chief new : SuperView E) (passes : List (PassValue E)) (o : PassValue E)
    → chief ≡ record old { retired = returned passes old.retired } → new ≡ retired_view o.view chief
    → new ≡ record old { retired = returned (passes ++ o ∷ []) old.retired }
one_more_back old chief new passes o so_far more =
    more
    ∙ ap (retired_view o.view) so_far
    ∙ ap (λ (views : List (PassView _)). record old { retired = views }) (sym (returned_one passes o old.retired))

pub taken : {A : Type 0} (all before rest rest' : List A) (one : A) → all ≡ before ++ rest → rest ≡ one ∷ rest'
    → all ≡ (before ++ one ∷ []) ++ rest'
taken all before rest rest' one is next =
    is ∙ ap (λ (l : List _). before ++ l) next ∙ sym (append_assoc before (one ∷ []) rest')
