-- A caller without s on any directory is told nothing.
use Rattle.std.proofs.Common.{◌≡◌, inl, inr, ℕ, zero, suc, Bool, true, false, cond, not, List, [], ◌∷◌, fold, Option, Some, None, is_none, Result, Ok, Err, refl, ap}
use Rattle.std.specs.Option.{option_and_then}
use Rattle.mx_name.specs.Paths.{resolution}
use Rattle.mx_name.specs.declared.paths.PathError.{PathError}
use Rattle.mx_hier.specs.declared.branches.Directory.{Directory}
use Rattle.mx_hier.specs.declared.branches.Node.{Node}
use Rattle.mx_hier.specs.declared.refusals.Refusal.{Refusal}
use Rattle.mx_hier.specs.declared.refusals.Refusal.TheVariants.{NoInfo, NotADir, NotASeg, IncorrectAccess, LinkLoop}
use Rattle.mx_hier.specs.Branches.{Hierarchy, uid_in, directory_at, object_at, segment_at, target_at, holder, holding}
use Rattle.mx_hier.specs.Callers.{Subject, Caller, has_status, has_any, has_access, on}
use Rattle.mx_hier.specs.ChangeWorkingDirectory.{directory, directory_refusals}
use Rattle.mx_hier.specs.Initiate.{segment, segment_refusals}
use Rattle.mx_hier.specs.List.{list, list_refusals, in_byte_order, names_in}
use Rattle.mx_hier.specs.Rules.{say, first_of, onward, required, unless}
use Rattle.mx_hier.specs.Status.{status, status_at, status_of, node_at}
use Rattle.mx_hier.specs.Strangers.{IsStranger, IsReticent}
use Rattle.mx_hier.specs.Walks.{Stop, Reached, Linked, Refused, followed, found, entered, step, ended, along, outcome, walk, told, path_or_refusal, resolved, reached, entry}

module _ (h : Hierarchy) (who : Subject) (stranger : IsStranger h who) where
  -- no s on this, if it is a directory
  abbrev Shut : Option Directory → Type 0
  Shut dir = on (has_status who) dir ≡ false

  shut_holding : (uid : ℕ) → Shut (holding h uid)
  shut_holding uid = by (holder h uid)
    where
      by : (dir : Option ℕ) → Shut (option_and_then (directory_at h) dir)
      by None = refl
      by (Some dir) = stranger dir

  pub silent : (why : Refusal) (dir : Option Directory) → Shut dir → say who why dir ≡ NoInfo
  silent why dir shut = ap (λ (b : Bool). cond b why NoInfo) shut

  -- wherever names lead, what is to be said is to be said there
  abbrev IsShut : Stop → Type 0
  IsShut (Reached uid) = Unit {0}
  IsShut (Linked dir path) = Shut dir
  IsShut (Refused why dir) = Shut dir

  shut_followed : (uid : ℕ) (names : List (List ℕ)) (target : Option (List (List ℕ))) (stay : Stop) → IsShut stay → IsShut (followed h uid names target stay)
  shut_followed uid names None stay is = is
  shut_followed uid names (Some target) stay is = shut_holding uid

  shut_entered : (uid : ℕ) (name : List ℕ) → IsShut (entered h uid (directory_at h uid) name)
  shut_entered uid name = by (directory_at h uid) (stranger uid)
    where
      in_directory : (directory : Directory) (entry : Option ℕ) → Shut (Some directory) → IsShut (found (Some directory) entry)
      in_directory directory None shut = shut
      in_directory directory (Some uid) shut = tt

      by : (dir : Option Directory) → Shut dir → IsShut (entered h uid dir name)
      by None shut = shut_holding uid
      by (Some directory) shut = in_directory directory (uid_in h.branches uid name) shut

  shut_step : (stop : Stop) (name : List ℕ) → IsShut stop → IsShut (step h stop name)
  shut_step (Reached uid) name is = shut_followed uid (name ∷ []) (target_at h uid) (entered h uid (directory_at h uid) name) (shut_entered uid name)
  shut_step (Linked dir path) name is = is
  shut_step (Refused why dir) name is = is

  shut_fold : (stop : Stop) (names : List (List ℕ)) → IsShut stop → IsShut (fold (step h) stop names)
  shut_fold stop [] is = is
  shut_fold stop (name ∷ names) is = shut_fold (step h stop name) names (shut_step stop name is)

  shut_ended : (follow : Bool) (stop : Stop) → IsShut stop → IsShut (ended h follow stop)
  shut_ended true (Reached uid) is = shut_followed uid [] (target_at h uid) (Reached uid) is
  shut_ended true (Linked dir path) is = is
  shut_ended true (Refused why dir) is = is
  shut_ended false (Reached uid) is = is
  shut_ended false (Linked dir path) is = is
  shut_ended false (Refused why dir) is = is

  shut_outcome : (stop : Stop) (linked : Option Directory → List (List ℕ) → Result ℕ (Refusal × Option Directory)) → IsShut stop
      → ((dir : Option Directory) (path : List (List ℕ)) → Shut dir → IsReticent (told who (linked dir path))) → IsReticent (told who (outcome stop linked))
  shut_outcome (Reached uid) linked is later = tt
  shut_outcome (Linked dir path) linked is later = later dir path is
  shut_outcome (Refused why dir) linked is later = inr (silent why dir is)

  pub walk_reticent : (left : ℕ) (follow : Bool) (from : ℕ) (names : List (List ℕ)) → IsReticent (told who (walk left h follow from names))
  walk_reticent zero follow from names =
      shut_outcome (along h follow from names) (λ dir path. Err (LinkLoop, dir)) (shut_ended follow (fold (step h) (Reached from) names) (shut_fold (Reached from) names tt))
      (λ dir path shut. inr (silent LinkLoop dir shut))
  walk_reticent (suc left) follow from names =
      shut_outcome (along h follow from names) (λ dir path. walk left h follow 0 path) (shut_ended follow (fold (step h) (Reached from) names) (shut_fold (Reached from) names tt))
      (λ dir path shut. walk_reticent left follow 0 path)

  -- what follows a walk
  onward_reticent : {A B : Type 0} (given : Result A Refusal) (rest : A → Result B Refusal) → IsReticent given → ((value : A) → IsReticent (rest value)) → IsReticent (onward given rest)
  onward_reticent (Ok value) rest is later = later value
  onward_reticent (Err why) rest is later = is

  -- two refusals that are said
  said_reticent : {A : Type 0} (a b : Bool) (why other : Refusal) (dir : Option Directory) (value : A) → Shut dir
      → IsReticent (unless (first_of ((a, say who why dir) ∷ (b, say who other dir) ∷ [])) value)
  said_reticent true b why other dir value shut = inr (silent why dir shut)
  said_reticent false true why other dir value shut = inr (silent other dir shut)
  said_reticent false false why other dir value shut = tt

pub resolved_reticent : (who : Caller) (path : List ℕ) → IsReticent (resolved who path)
resolved_reticent who path = by (resolution who.base path)
  where
    by : (given : Result (List (List ℕ)) PathError) → IsReticent (path_or_refusal given)
    by (Ok names) = tt
    by (Err e) = inl refl

pub entry_reticent : (h : Hierarchy) (who : Caller) (path : List ℕ) (follow : Bool) → IsStranger h who.subject → IsReticent (entry h who path follow)
entry_reticent h who path follow stranger =
    onward_reticent h who.subject stranger (resolved who path) (λ names. reached h who.subject follow names) (resolved_reticent who path)
    (λ names. walk_reticent h who.subject stranger 10 follow 0 names)

status_at_reticent : (h : Hierarchy) (who : Subject) (uid : ℕ) → IsReticent (status_at h who uid)
status_at_reticent h who uid = by (on (has_status who) (holding h uid))
  where
    shown : (node : Option Node) → IsReticent (onward (required NoInfo node) (λ node. Ok (status_of who (object_at h uid) node)))
    shown None = inr refl
    shown (Some node) = tt

    by : (b : Bool) → IsReticent (onward (unless (first_of ((not b, NoInfo) ∷ [])) uid) (λ uid. onward (required NoInfo (node_at h uid)) (λ node. Ok (status_of who (object_at h uid) node))))
    by true = shown (node_at h uid)
    by false = inr refl

pub status_reticent : (h : Hierarchy) (who : Caller) (path : List ℕ) → IsStranger h who.subject → IsReticent (status h who path)
status_reticent h who path stranger =
    onward_reticent h who.subject stranger (entry h who path false) (λ uid. status_at h who.subject uid) (entry_reticent h who path false stranger)
    (λ uid. status_at_reticent h who.subject uid)

pub list_reticent : (h : Hierarchy) (who : Caller) (path : List ℕ) → IsStranger h who.subject → IsReticent (list h who path)
list_reticent h who path stranger =
    onward_reticent h who.subject stranger (entry h who path true) (λ uid. unless (first_of (list_refusals h who.subject uid)) (in_byte_order (names_in h uid)))
    (entry_reticent h who path true stranger)
    (λ uid. said_reticent h who.subject stranger (is_none (directory_at h uid)) (not (on (has_status who.subject) (directory_at h uid))) NotADir IncorrectAccess
    (holding h uid) (in_byte_order (names_in h uid)) (shut_holding h who.subject stranger uid))

pub segment_reticent : (h : Hierarchy) (who : Caller) (path : List ℕ) → IsStranger h who.subject → IsReticent (segment h who path)
segment_reticent h who path stranger =
    onward_reticent h who.subject stranger (entry h who path true) (λ uid. unless (first_of (segment_refusals h who.subject uid)) uid)
    (entry_reticent h who path true stranger)
    (λ uid. said_reticent h who.subject stranger (is_none (segment_at h uid)) (not (on (has_access who.subject) (segment_at h uid))) NotASeg IncorrectAccess
    (holding h uid) uid (shut_holding h who.subject stranger uid))

pub directory_reticent : (h : Hierarchy) (who : Caller) (path : List ℕ) → IsStranger h who.subject → IsReticent (directory h who path)
directory_reticent h who path stranger =
    onward_reticent h who.subject stranger (resolved who path)
    (λ names. onward (reached h who.subject true names) (λ uid. unless (first_of (directory_refusals h who.subject uid)) names)) (resolved_reticent who path)
    (λ names. onward_reticent h who.subject stranger (reached h who.subject true names) (λ uid. unless (first_of (directory_refusals h who.subject uid)) names)
    (walk_reticent h who.subject stranger 10 true 0 names)
    (λ uid. said_reticent h who.subject stranger (is_none (directory_at h uid)) (not (on (has_any who.subject) (directory_at h uid))) NotADir IncorrectAccess
    (holding h uid) names (shut_holding h who.subject stranger uid)))
