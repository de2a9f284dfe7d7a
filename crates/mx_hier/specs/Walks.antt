-- The walk of a path: name by name from a directory, following links (Multics Programmers' Manual).
use Rattle.std.specs.Prelude.{ℕ, zero, suc, Bool, true, false, List, [], ◌∷◌, ◌++◌, fold, Option, Some, None, Result, Ok, Err}
use Rattle.mx_name.specs.declared.paths.PathError.{PathError}
use Rattle.mx_name.specs.Paths.{resolution}
use Rattle.mx_hier.specs.declared.branches.Directory.{Directory}
use Rattle.mx_hier.specs.declared.refusals.Refusal.{Refusal}
use Rattle.mx_hier.specs.declared.refusals.Refusal.TheVariants.{BadPath, NoEntry, NotADir, LinkLoop}
use Rattle.mx_hier.specs.Branches.{Hierarchy, uid_in, directory_at, target_at, holding}
use Rattle.mx_hier.specs.Callers.{Subject, Caller}
use Rattle.mx_hier.specs.Rules.{say, onward}

-- Where names have led: to an entry; to a link that is followed, met in a directory, with the path that takes its
-- place; or to a refusal, which is to be said at a directory.
pub data Stop : Type 0 where
  Reached : ℕ → Stop
  Linked : Option Directory → List (List ℕ) → Stop
  Refused : Refusal → Option Directory → Stop

-- a link is followed: its target comes before these names; what is no link stays
abbrev pub followed : Hierarchy → ℕ → List (List ℕ) → Option (List (List ℕ)) → Stop → Stop
followed hierarchy uid names None stay = stay
followed hierarchy uid names (Some target) stay = Linked (holding hierarchy uid) (target ++ names)

-- the entry of a name in what has been reached
abbrev pub found : Option Directory → Option ℕ → Stop
found dir (Some uid) = Reached uid
found dir None = Refused NoEntry dir

abbrev pub entered : Hierarchy → ℕ → Option Directory → List ℕ → Stop
entered hierarchy uid (Some directory) name = found (Some directory) (uid_in hierarchy.branches uid name)
entered hierarchy uid None name = Refused NotADir (holding hierarchy uid)

-- one name more: a link is followed wherever a name comes after it
abbrev pub step : Hierarchy → Stop → List ℕ → Stop
step hierarchy (Reached uid) name = followed hierarchy uid (name ∷ []) (target_at hierarchy uid) (entered hierarchy uid (directory_at hierarchy uid) name)
step hierarchy (Linked dir path) name = Linked dir (path ++ name ∷ [])
step hierarchy (Refused why dir) name = Refused why dir

-- a link at the last name is followed where the request asks for it
abbrev pub ended : Hierarchy → Bool → Stop → Stop
ended hierarchy true (Reached uid) = followed hierarchy uid [] (target_at hierarchy uid) (Reached uid)
ended hierarchy true (Linked dir path) = Linked dir path
ended hierarchy true (Refused why dir) = Refused why dir
ended hierarchy false stop = stop

-- the names one after the other, from a directory
abbrev pub along : Hierarchy → Bool → ℕ → List (List ℕ) → Stop
along hierarchy follow dir names = ended hierarchy follow (fold (step hierarchy) (Reached dir) names)

-- The walk from a directory, where so many links may be followed: it begins at the root again with each, and one more
-- is a link_loop. It ends at an entry, or at a refusal and the directory where that is to be said.
abbrev pub outcome : Stop → (Option Directory → List (List ℕ) → Result ℕ (Refusal × Option Directory))
    → Result ℕ (Refusal × Option Directory)
outcome (Reached uid) linked = Ok uid
outcome (Linked dir path) linked = linked dir path
outcome (Refused why dir) linked = Err (why, dir)

abbrev pub walk : ℕ → Hierarchy → Bool → ℕ → List (List ℕ) → Result ℕ (Refusal × Option Directory)
walk zero hierarchy follow from names = outcome (along hierarchy follow from names) (λ dir path. Err (LinkLoop, dir))
walk (suc left) hierarchy follow from names = outcome (along hierarchy follow from names) (λ dir path. walk left hierarchy follow 0 path)

-- where a walk ended, as the caller is told
abbrev pub told : Subject → Result ℕ (Refusal × Option Directory) → Result ℕ Refusal
told who (Ok uid) = Ok uid
told who (Err refusal) = Err (say who refusal.0 refusal.1)

-- a pathname from the working directory
abbrev pub path_or_refusal : Result (List (List ℕ)) PathError → Result (List (List ℕ)) Refusal
path_or_refusal (Ok path) = Ok path
path_or_refusal (Err error) = Err BadPath

abbrev pub resolved : Caller → List ℕ → Result (List (List ℕ)) Refusal
resolved who pathname = path_or_refusal (resolution who.base pathname)

-- what a path from the root leads to: ten links may be followed
abbrev pub reached : Hierarchy → Subject → Bool → List (List ℕ) → Result ℕ Refusal
reached hierarchy who follow path = told who (walk 10 hierarchy follow 0 path)

-- the entry of a pathname: a link at the last name is followed only where the request asks for it
abbrev pub entry : Hierarchy → Caller → List ℕ → Bool → Result ℕ Refusal
entry hierarchy who pathname follow = onward (resolved who pathname) (λ path. reached hierarchy who.subject follow path)
