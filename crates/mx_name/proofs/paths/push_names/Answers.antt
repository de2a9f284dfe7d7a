use Rattle.std.proofs.Common.{◌≡◌, ◌++◌, ◌∷◌, ◌+◌, ◌<◌, [], List, ℕ, length, get_or, drop, sym, ap, ◌∙◌, append_assoc, suc, add-one, rules, arith, drop-cons}
use Rattle.mx_name.specs.Paths.{names_text}
use Rattle.mx_name.proofs.paths.push_names.Goals as goal

-- what is written, after one more `>` and one more name
written : (new pushed out start more name : List ℕ) → new ≡ pushed ++ name → pushed ≡ out ++ 62 ∷ [] → out ≡ start ++ more
    → new ≡ start ++ (more ++ 62 ∷ name)
written new pushed out start more name e f g = e ∙ ap (λ (xs : List ℕ). xs ++ name) (f ∙ ap (λ (xs : List ℕ). xs ++ 62 ∷ []) g) ∙ simp append_assoc

begins : (more name : List ℕ) (names : List (List ℕ)) (i : ℕ) → i < length names → name ≡ get_or names i name
    → more ++ names_text (drop i names) ≡ names_text names → (more ++ 62 ∷ name) ++ names_text (drop (i + 1) names) ≡ names_text names
begins more name names i within is e =
    let here : drop i names ≡ name ∷ drop (i + 1) names = rw add-one (drop-cons names i name within ∙ ap (λ (x : List ℕ). x ∷ drop (suc i) names) (sym is)) in
    append_assoc more (62 ∷ name) (names_text (drop (i + 1) names)) ∙ sym (ap (λ (xs : List (List ℕ)). more ++ names_text xs) here) ∙ e

pub returns-in_err-extend_from_slice-clause-err : goal.returns-in_err-extend_from_slice-clause-err
returns-in_err-extend_from_slice-clause-err c =
    let so_far = c.loop-name.invariant in
    let written : (more : List ℕ) × (c.extend_from_slice.new.self.items ≡ c.args.out.now.items ++ more) =
    (so_far.0 ++ 62 ∷ [], c.in_err-extend_from_slice.ensures.items ∙ c.in_ok-push.ensures.items ∙ ap (λ (xs : List ℕ). xs ++ 62 ∷ []) so_far.1 ∙ append_assoc c.args.out.now.items so_far.0 (62 ∷ [])) in
    search rules

pub loop-name-preserved : goal.loop-name-preserved
loop-name-preserved c =
    let so_far = c.loop-name.invariant in
    let name = c.bytes.result.now in
    let is : name ≡ get_or c.args.names.now c.loop-name.name-index name = cc (c.bytes.ensures.value, c.name-item.is) in (
      so_far.0 ++ 62 ∷ name,
      written _ _ _ _ so_far.0 name c.in_ok-extend_from_slice.ensures.items c.in_ok-push.ensures.items so_far.1,
      begins so_far.0 name c.args.names.now c.loop-name.name-index (omega arith) is so_far.2,
    )
