-- `delete PATH`: a link itself is deleted
use Rattle.std.specs.Prelude.{ℕ, ◌==◌, Bool, true, false, not, List, [], ◌∷◌, ◌++◌, filter, Option, Some, None, Result}
use Rattle.mx_pages.specs.Runs.{PageMap, pages_for, with_free}
use Rattle.mx_hier.specs.declared.branches.Branch.{Branch}
use Rattle.mx_hier.specs.declared.branches.Segment.{Segment}
use Rattle.mx_hier.specs.declared.refusals.Refusal.{Refusal}
use Rattle.mx_hier.specs.declared.refusals.Refusal.TheVariants.{IncorrectAccess, DirNotEmpty}
use Rattle.mx_hier.specs.Branches.{Hierarchy, entries_of, segment_at}
use Rattle.mx_hier.specs.Callers.{Subject, Caller}
use Rattle.mx_hier.specs.Changing.{changing_refusals}
use Rattle.mx_hier.specs.Rules.{first_of, onward, unless}
use Rattle.mx_hier.specs.Walks.{entry}

abbrev pub is_empty : List Branch → Bool
is_empty [] = true
is_empty (branch ∷ branches) = false

-- the root stays, and a directory that has entries
abbrev pub delete_refusals : Hierarchy → Subject → ℕ → List (Bool × Refusal)
delete_refusals hierarchy who uid = changing_refusals hierarchy who uid ++
    (uid == 0, IncorrectAccess)
    ∷ (not (is_empty (entries_of hierarchy.branches uid)), DirNotEmpty) ∷ []

abbrev pub without : ℕ → List Branch → List Branch
without uid branches = filter (λ branch. not (branch.uid == uid)) branches

-- the pages of a segment become free
abbrev pub pages_left : PageMap → Option Segment → PageMap
pages_left pages None = pages
pages_left pages (Some segment) = with_free pages segment.page (pages_for segment.words)

-- without the branch of a uid: the map of an object stays
abbrev pub deleted : Hierarchy → ℕ → Hierarchy
deleted hierarchy uid = record hierarchy {
  branches = without uid hierarchy.branches;
  pages = pages_left hierarchy.pages (segment_at hierarchy uid);
}

abbrev pub delete_at : Hierarchy → Subject → ℕ → Result Hierarchy Refusal
delete_at hierarchy who uid = unless (first_of (delete_refusals hierarchy who uid)) (deleted hierarchy uid)

abbrev pub delete : Hierarchy → Caller → List ℕ → Result Hierarchy Refusal
delete hierarchy who path = onward (entry hierarchy who path false) (λ uid. delete_at hierarchy who.subject uid)
