-- The names in a directory, as the branches have them.
use Rattle.std.proofs.Common.{ℕ, suc, ◌≡◌, ◌==◌, ◌+◌, ◌<◌, ◌≤◌, Bool, true, false, cond, ◌&&◌, List, [], ◌∷◌, ◌++◌, length, map, Option, Some, None, refl, ap, ◌∙◌, arith}
use Rattle.std.specs.Cmp.Lexicographic.{pointwise}
use Rattle.std.proofs.lemmas.Cmp.{nat_list_eq_equiv}
use Rattle.std.proofs.lemmas.Option.{IfSome_then}
use Rattle.std.specs.Map.{keys_of, lookup}
use Rattle.std.specs.Option.{IfSome, option_map}
use Rattle.indexmap.specs.IndexMap.{IndexMap, insert_entry}
use Rattle.indexmap.proofs.CallerLemmas.{insert_entry-new}
use Rattle.mx_hier.specs.declared.branches.Branch.{Branch}
use Rattle.mx_hier.specs.Branches.{entries_of, entry_in, uid_in}
use Rattle.mx_hier.specs.Listed.{present, AreKeyed, named, names_of}

looked : (inside : Bool) (test : List ℕ → Bool) (branch : Branch) (rest : List Branch)
    → lookup test (map named (cond inside (branch ∷ rest) rest)) ≡ cond inside (cond (test branch.name) (Some branch.uid) (lookup test (map named rest))) (lookup test (map named rest))
looked true test branch rest = refl
looked false test branch rest = refl

chosen : (inside same : Bool) (branch : Branch) (rest : Option ℕ) (found : Option Branch) → rest ≡ option_map (λ branch. branch.uid) found
    → cond inside (cond same (Some branch.uid) rest) rest ≡ option_map (λ branch. branch.uid) (cond (inside && same) (Some branch) found)
chosen true true branch rest found e = refl
chosen true false branch rest found e = e
chosen false same branch rest found e = e

-- a name is looked up among the names of its directory
pub name_found : (branches : List Branch) (dir : ℕ) (name : List ℕ) → lookup (pointwise ◌==◌ name) (names_of branches dir) ≡ uid_in branches dir name
name_found [] dir name = refl
name_found (branch ∷ branches) dir name =
    let rest : Option ℕ = lookup (pointwise ◌==◌ name) (names_of branches dir) in
    looked (branch.parent == dir) (pointwise ◌==◌ name) branch (entries_of branches dir)
    ∙ ap (λ (same : Bool). cond (branch.parent == dir) (cond same (Some branch.uid) rest) rest) (nat_list_eq_equiv.symm name branch.name)
    ∙ chosen (branch.parent == dir) (pointwise ◌==◌ branch.name name) branch rest (entry_in branches dir name) (name_found branches dir name)

-- the names in their order
pub names_are : (branches : List Branch) → keys_of (map named branches) ≡ map (λ branch. branch.name) branches
names_are [] = refl
names_are (branch ∷ branches) = ap (λ (names : List (List ℕ)). branch.name ∷ names) (names_are branches)

-- a uid that is found is one that was given
pub uid_below : (first : ℕ) (slots : List (Option Branch)) (dir : ℕ) (name : List ℕ) → AreKeyed first slots
    → IfSome (uid_in (present slots) dir name) (λ uid. (first ≤ uid) × (uid < first + length slots))
uid_below first [] dir name keyed = tt
uid_below first (None ∷ slots) dir name keyed =
    IfSome_then (uid_in (present slots) dir name) (uid_below (1 + first) slots dir name keyed) (λ uid is. (omega (arith, is.0), omega (arith, is.1)))
uid_below first (Some branch ∷ slots) dir name keyed = by (branch.parent == dir && pointwise ◌==◌ branch.name name) (uid_below (1 + first) slots dir name keyed.2)
  where
    by : (here : Bool) → IfSome (uid_in (present slots) dir name) (λ uid. (1 + first ≤ uid) × (uid < 1 + first + length slots))
        → IfSome (option_map (λ branch. branch.uid) (cond here (Some branch) (entry_in (present slots) dir name))) (λ uid. (first ≤ uid) × (uid < first + suc (length slots)))
    by true later = (omega (arith, keyed.0), omega (arith, keyed.0))
    by false later = IfSome_then (uid_in (present slots) dir name) later (λ uid is. (omega (arith, is.0), omega (arith, is.1)))

-- a new name goes last
pub pushed : {S : Type 0} (map : IndexMap (List ℕ) ℕ S) (name : List ℕ) (uid : ℕ) → lookup (pointwise ◌==◌ name) map.entries ≡ None
    → insert_entry (pointwise ◌==◌) map.entries name uid ≡ map.entries ++ (name, uid) ∷ []
pushed map name uid absent = insert_entry-new (pointwise ◌==◌) map name uid absent
