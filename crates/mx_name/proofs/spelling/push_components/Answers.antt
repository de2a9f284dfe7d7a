use Rattle.std.proofs.Common.{◌≡◌, ◌++◌, ◌∷◌, [], List, ℕ, append_assoc, rules}
use Rattle.mx_name.proofs.spelling.push_components.Goals as goal

pub returns-in_err-extend_from_slice-2-clause-err : goal.returns-in_err-extend_from_slice-2-clause-err
returns-in_err-extend_from_slice-2-clause-err c =
    let written : (more : List ℕ) × (c.extend_from_slice-2.new.self.items ≡ c.args.out.now.items ++ more) = (
      c.args.person.now ++ 46 ∷ [],
      simp (c.in_err-extend_from_slice-2.ensures.items, c.in_ok-push.ensures.items, c.in_ok-extend_from_slice.ensures.items, append_assoc),
    ) in
    search rules

pub returns-in_err-push-2-clause-err : goal.returns-in_err-push-2-clause-err
returns-in_err-push-2-clause-err c =
    let written : (more : List ℕ) × (c.push-2.new.self.items ≡ c.args.out.now.items ++ more) = (
      c.args.person.now ++ 46 ∷ c.args.project.now,
      simp (
        c.in_err-push-2.ensures.items,
        c.in_ok-extend_from_slice-2.ensures.items,
        c.in_ok-push.ensures.items,
        c.in_ok-extend_from_slice.ensures.items,
        append_assoc,
      ),
    ) in
    search rules

pub returns-in_err-extend_from_slice-3-clause-err : goal.returns-in_err-extend_from_slice-3-clause-err
returns-in_err-extend_from_slice-3-clause-err c =
    let written : (more : List ℕ) × (c.extend_from_slice-3.new.self.items ≡ c.args.out.now.items ++ more) = (
      c.args.person.now ++ 46 ∷ (c.args.project.now ++ 46 ∷ []),
      simp (
        c.in_err-extend_from_slice-3.ensures.items,
        c.in_ok-push-2.ensures.items,
        c.in_ok-extend_from_slice-2.ensures.items,
        c.in_ok-push.ensures.items,
        c.in_ok-extend_from_slice.ensures.items,
        append_assoc,
      ),
    ) in
    search rules

pub returns-clause-ok : goal.returns-clause-ok
returns-clause-ok c = simp (
  c.in_ok-extend_from_slice-3.ensures.items,
  c.in_ok-push-2.ensures.items,
  c.in_ok-extend_from_slice-2.ensures.items,
  c.in_ok-push.ensures.items,
  c.in_ok-extend_from_slice.ensures.items,
  append_assoc,
)
