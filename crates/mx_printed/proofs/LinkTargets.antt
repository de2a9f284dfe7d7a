-- Each link's target has at most 168 bytes: whatever the request, the hierarchy that it leaves has no other links than that
-- before it, but for one that it makes of a pathname that was resolved.
use Rattle.std.proofs.Common.{◌≡◌, ℕ, ◌==◌, nat_le, nat_lt, Bool, true, false, not, if◌then◌else◌, List, [], ◌∷◌, ◌++◌, length, Option, Some, None, Result, Ok, Err, refl, subst, arith}
use Rattle.std.specs.Option.{option_map}
use Rattle.std.proofs.lemmas.Bool.Decides.{nat_tests}
use Rattle.mx_acl.specs.Access.{Access, with_entry, without_entry}
use Rattle.mx_acl.specs.declared.modes.AclKind.{AclKind}
use Rattle.mx_acl.specs.declared.modes.Modes.{Modes}
use Rattle.mx_aim.specs.Classes.{PlainClass}
use Rattle.mx_hier.specs.Branches.{Hierarchy, branch_of, directory_at}
use Rattle.mx_hier.specs.Brackets.{settable}
use Rattle.mx_hier.specs.Callers.{Caller}
use Rattle.mx_hier.specs.Changing as changing
use Rattle.mx_hier.specs.Changing.{acl_changed, branch_with_acl, branch_with_directory, branch_with_segment, directory_changed, segment_changed, with_acl, with_branch, with_directory, with_segment}
use Rattle.mx_hier.specs.CreateDirectory.{create_dir, create_dir_refusals, new_directory}
use Rattle.mx_hier.specs.CreateLink.{create_link}
use Rattle.mx_hier.specs.Delete.{delete, delete_refusals, without}
use Rattle.mx_hier.specs.DeleteAclEntry.{del_acl, del_acl_refusals}
use Rattle.mx_hier.specs.InitialLists.{del_iacl, del_iacl_refusals, initial_changed, set_iacl, set_iacl_refusals}
use Rattle.mx_hier.specs.MakeSegment.{Wanted, make_segment, make_segment_refusals, new_segment}
use Rattle.mx_hier.specs.Making.{added, made, making_refusals, place}
use Rattle.mx_hier.specs.Rename.{rename, rename_refusals}
use Rattle.mx_hier.specs.Rules.{first_of, onward, required, unless}
use Rattle.mx_hier.specs.SetAcl.{set_acl, set_acl_refusals}
use Rattle.mx_hier.specs.SetBrackets.{bracketed, set_brackets, set_brackets_refusals}
use Rattle.mx_hier.specs.SetClass.{classed, set_class, set_class_refusals}
use Rattle.mx_hier.specs.SetDirectoryBrackets.{dir_bracketed, set_dir_brackets, set_dir_brackets_refusals}
use Rattle.mx_hier.specs.Status.{node_at}
use Rattle.mx_hier.specs.Walks.{entry, path_or_refusal, resolved}
use Rattle.mx_hier.specs.declared.branches.Branch.{Branch}
use Rattle.mx_hier.specs.declared.branches.Directory.{Directory}
use Rattle.mx_hier.specs.declared.branches.Node.{Node}
use Rattle.mx_hier.specs.declared.branches.Node.TheVariants.{Directory as IsDirectory, Segment as IsSegment, Link as IsLink}
use Rattle.mx_hier.specs.declared.branches.Segment.{Segment}
use Rattle.mx_hier.specs.declared.making.Place.{Place}
use Rattle.mx_hier.specs.declared.refusals.Refusal.{Refusal}
use Rattle.mx_hier.specs.declared.refusals.Refusal.TheVariants.{BadBrackets, NoPages, NotADir}
use Rattle.mx_name.specs.Identifiers.{PlainAclId}
use Rattle.mx_name.specs.Pathnames.{climbs}
use Rattle.mx_name.specs.Paths as paths
use Rattle.mx_name.specs.Paths.{path_text, resolve_fault}
use Rattle.mx_name.specs.declared.paths.PathError.TheVariants.{AboveRoot, TooLong}
use Rattle.mx_pages.specs.Runs.{pages_for, run_given}

abbrev pub is_short_path : List (List ℕ) → Bool
is_short_path path = nat_le (length (path_text path)) 168

abbrev pub IsShort : Node → Type 0
IsShort (IsLink target) = is_short_path target ≡ true
IsShort (IsDirectory directory) = Unit {0}
IsShort (IsSegment segment) = Unit {0}

abbrev pub AreShort : List Branch → Type 0
AreShort [] = Unit {0}
AreShort (branch ∷ branches) = IsShort branch.node × AreShort branches

abbrev pub HasShort : Hierarchy → Type 0
HasShort h = AreShort h.branches

-- what is asked for is so, or it is refused
abbrev pub IfTold : {A : Type 0} → (A → Type 0) → Result A Refusal → Type 0
IfTold P (Ok value) = P value
IfTold P (Err why) = Unit {0}

pub onward_told : {A B : Type 0} (P : B → Type 0) (r : Result A Refusal) (rest : A → Result B Refusal) → ((a : A) → r ≡ Ok a → IfTold P (rest a))
    → IfTold P (onward r rest)
onward_told P (Ok a) rest each = each a refl
onward_told P (Err why) rest each = tt

pub unless_told : {A : Type 0} (P : A → Type 0) (o : Option Refusal) (value : A) → P value → IfTold P (unless o value)
unless_told P None value is = is
unless_told P (Some why) value is = tt

pub required_some : {A : Type 0} (why : Refusal) (o : Option A) (a : A) → required why o ≡ Ok a → o ≡ Some a
required_some why None a e = absurd cc
required_some why (Some value) a e = cc

-- what a pathname stands for
resolved_short : (who : Caller) (text : List ℕ) (path : List (List ℕ)) → resolved who text ≡ Ok path → is_short_path path ≡ true
resolved_short who text path e =
    by_tests (nat_lt (length who.base) (climbs text)) (nat_lt 168 (length (path_text whole))) refl e
  where
    whole : List (List ℕ)
    whole = paths.resolved who.base text

    within : (n : ℕ) → nat_lt 168 n ≡ false → nat_le n 168 ≡ true
    within n e = grind (arith, nat_tests)

    by_tests : (above long : Bool) → nat_lt 168 (length (path_text whole)) ≡ long
        → path_or_refusal (unless (if above then Some AboveRoot else (if long then Some TooLong else None)) whole) ≡ Ok path
        → is_short_path path ≡ true
    by_tests true long f e = absurd cc
    by_tests false true f e = absurd cc
    by_tests false false f e =
        let same : whole ≡ path = cc in
        subst (λ (names : List (List ℕ)). is_short_path names ≡ true) same (within (length (path_text whole)) f)

-- what is found
branch_short : (branches : List Branch) (uid : ℕ) (branch : Branch) → AreShort branches → branch_of branches uid ≡ Some branch → IsShort branch.node
branch_short [] uid branch are e = absurd cc
branch_short (first ∷ branches) uid branch are e = by_test (first.uid == uid) e (branch_short branches uid branch are.1)
  where
    by_test : (own : Bool) → (if own then Some first else branch_of branches uid) ≡ Some branch
        → (branch_of branches uid ≡ Some branch → IsShort branch.node) → IsShort branch.node
    by_test true e rest = let same : first ≡ branch = cc in subst (λ (b : Branch). IsShort b.node) same are.0
    by_test false e rest = rest e

pub node_short : (h : Hierarchy) (uid : ℕ) (node : Node) → HasShort h → node_at h uid ≡ Some node → IsShort node
node_short h uid node are e = by_root (uid == 0) e
  where
    by_branch : (o : Option Branch) → branch_of h.branches uid ≡ o → option_map (λ (branch : Branch). branch.node) o ≡ Some node → IsShort node
    by_branch None f e = absurd cc
    by_branch (Some branch) f e =
        let same : branch.node ≡ node = cc in
        subst IsShort same (branch_short h.branches uid branch are f)

    by_root : (root : Bool) → (if root then Some (IsDirectory h.root) else option_map (λ (branch : Branch). branch.node) (branch_of h.branches uid)) ≡ Some node
        → IsShort node
    by_root true e = let same : IsDirectory h.root ≡ node = cc in subst IsShort same tt
    by_root false e = by_branch (branch_of h.branches uid) refl e

-- branches changed, added and taken away
changed_short : (uid : ℕ) (f : Branch → Branch) → ((branch : Branch) → IsShort branch.node → IsShort (f branch).node) → (branches : List Branch)
    → AreShort branches → AreShort (changing.changed uid f branches)
changed_short uid f keeps [] are = tt
changed_short uid f keeps (branch ∷ branches) are = (by_test (branch.uid == uid), changed_short uid f keeps branches are.1)
  where
    by_test : (own : Bool) → IsShort (if own then f branch else branch).node
    by_test true = keeps branch are.0
    by_test false = are.0

more_short : (branches : List Branch) (branch : Branch) → AreShort branches → IsShort branch.node → AreShort (branches ++ branch ∷ [])
more_short [] branch are is = (is, tt)
more_short (first ∷ branches) branch are is = (are.0, more_short branches branch are.1 is)

fewer_short : (uid : ℕ) (branches : List Branch) → AreShort branches → AreShort (without uid branches)
fewer_short uid [] are = tt
fewer_short uid (branch ∷ branches) are = by_test (not (branch.uid == uid)) (fewer_short uid branches are.1)
  where
    by_test : (stays : Bool) → AreShort (without uid branches)
        → AreShort (if stays then branch ∷ without uid branches else without uid branches)
    by_test true rest = (are.0, rest)
    by_test false rest = rest

segment_same : (f : Segment → Segment) (node : Node) → IsShort node → IsShort (segment_changed f node)
segment_same f (IsSegment segment) is = tt
segment_same f (IsDirectory directory) is = tt
segment_same f (IsLink target) is = is

directory_same : (f : Directory → Directory) (node : Node) → IsShort node → IsShort (directory_changed f node)
directory_same f (IsSegment segment) is = tt
directory_same f (IsDirectory directory) is = tt
directory_same f (IsLink target) is = is

acl_same : (f : Access → Access) (node : Node) → IsShort node → IsShort (acl_changed f node)
acl_same f (IsSegment segment) is = tt
acl_same f (IsDirectory directory) is = tt
acl_same f (IsLink target) is = is

module _ (h : Hierarchy) (are : HasShort h) where
  segment_short : (uid : ℕ) (f : Segment → Segment) → HasShort (with_segment h uid f)
  segment_short uid f = changed_short uid (branch_with_segment f) (λ branch is. segment_same f branch.node is) h.branches are

  directory_short : (uid : ℕ) (f : Directory → Directory) → HasShort (with_directory h uid f)
  directory_short uid f = by_root (uid == 0)
    where
      by_root : (root : Bool) → HasShort (if root then record h { root = f h.root } else with_branch h uid (branch_with_directory f))
      by_root true = are
      by_root false = changed_short uid (branch_with_directory f) (λ branch is. directory_same f branch.node is) h.branches are

  acl_short : (uid : ℕ) (f : Access → Access) → HasShort (with_acl h uid f)
  acl_short uid f = by_root (uid == 0)
    where
      by_root : (root : Bool)
          → HasShort (if root then record h { root = record h.root { acl = f h.root.acl } } else with_branch h uid (branch_with_acl f))
      by_root true = are
      by_root false = changed_short uid (branch_with_acl f) (λ branch is. acl_same f branch.node is) h.branches are

  added_short : (at : Place) (node : Node) → IsShort node → HasShort (added h at node)
  added_short at node is = more_short h.branches (record { uid = h.next; parent = at.dir; name = at.name; node = node }) are is

  made_short : (at : Place) (refusals : List (Bool × Refusal)) (make : Directory → Result Hierarchy Refusal)
      → ((parent : Directory) → IfTold HasShort (make parent)) → IfTold HasShort (made h at refusals make)
  made_short at refusals make each =
      onward_told HasShort (unless (first_of refusals) at) _
      (λ to e. onward_told HasShort (required NotADir (directory_at h to.dir)) make (λ parent f. each parent))

  -- the requests that make an entry
  pub create_dir_short : (who : Caller) (text : List ℕ) (d1 d2 : ℕ) → IfTold HasShort (create_dir h who text d1 d2)
  create_dir_short who text d1 d2 =
      onward_told HasShort (resolved who text) _
      (λ path e. onward_told HasShort (place h who.subject path) _
      (λ at f. made_short at (create_dir_refusals h who.subject at d1 d2)
      (λ parent. Ok (added h at (IsDirectory (new_directory parent who.subject d1 d2))))
      (λ parent. added_short at (IsDirectory (new_directory parent who.subject d1 d2)) tt)))

  pub create_link_short : (who : Caller) (text to : List ℕ) → IfTold HasShort (create_link h who text to)
  create_link_short who text to =
      onward_told HasShort (resolved who text) _
      (λ path e. onward_told HasShort (resolved who to) _
      (λ target f. onward_told HasShort (place h who.subject path) _
      (λ at g. made_short at (making_refusals h who.subject at) (λ parent. Ok (added h at (IsLink target)))
      (λ parent. added_short at (IsLink target) (resolved_short who to target f)))))

  pub make_segment_short : (who : Caller) (text : List ℕ) (wanted : Wanted) → IfTold HasShort (make_segment h who text wanted)
  make_segment_short who text wanted =
      onward_told HasShort (resolved who text) _
      (λ path e. onward_told HasShort (place h who.subject path) _
      (λ at f. made_short at (make_segment_refusals h who.subject at wanted) _
      (λ parent. onward_told HasShort (required BadBrackets (settable who.subject.ring wanted.rings)) _
      (λ brackets g. onward_told HasShort (required NoPages (run_given h.pages (pages_for wanted.words))) _
      (λ page k. added_short at (IsSegment (new_segment parent who.subject wanted.words brackets wanted.modes page)) tt)))))

  -- the requests that change one
  module _ (who : Caller) (text : List ℕ) where
    pub rename_short : (name : List ℕ) → IfTold HasShort (rename h who text name)
    rename_short name =
        onward_told HasShort (entry h who text false) _
        (λ uid e. unless_told HasShort (first_of (rename_refusals h who.subject uid name)) _
        (changed_short uid (λ branch. record branch { name = name }) (λ branch is. is) h.branches are))

    pub delete_short : IfTold HasShort (delete h who text)
    delete_short =
        onward_told HasShort (entry h who text false) _
        (λ uid e. unless_told HasShort (first_of (delete_refusals h who.subject uid)) _ (fewer_short uid h.branches are))

    pub set_acl_short : (id : PlainAclId) (modes : Modes) → IfTold HasShort (set_acl h who text id modes)
    set_acl_short id modes =
        onward_told HasShort (entry h who text true) _
        (λ uid e. unless_told HasShort (first_of (set_acl_refusals h who.subject uid id modes)) _ (acl_short uid (λ acl. with_entry acl id modes)))

    pub del_acl_short : (id : PlainAclId) → IfTold HasShort (del_acl h who text id)
    del_acl_short id =
        onward_told HasShort (entry h who text true) _
        (λ uid e. unless_told HasShort (first_of (del_acl_refusals h who.subject uid id)) _ (acl_short uid (λ acl. without_entry acl id)))

    pub set_iacl_short : (kind : AclKind) (id : PlainAclId) (modes : Modes) → IfTold HasShort (set_iacl h who text kind id modes)
    set_iacl_short kind id modes =
        onward_told HasShort (entry h who text true) _
        (λ uid e. unless_told HasShort (first_of (set_iacl_refusals h who.subject uid kind id modes)) _
        (directory_short uid (initial_changed kind (λ initial. with_entry initial id modes))))

    pub del_iacl_short : (kind : AclKind) (id : PlainAclId) → IfTold HasShort (del_iacl h who text kind id)
    del_iacl_short kind id =
        onward_told HasShort (entry h who text true) _
        (λ uid e. unless_told HasShort (first_of (del_iacl_refusals h who.subject uid kind id)) _
        (directory_short uid (initial_changed kind (λ initial. without_entry initial id))))

    pub set_brackets_short : (rings : List ℕ) → IfTold HasShort (set_brackets h who text rings)
    set_brackets_short rings =
        onward_told HasShort (entry h who text true) _
        (λ at e. onward_told HasShort (unless (first_of (set_brackets_refusals h who.subject at rings)) at) _
        (λ uid f. onward_told HasShort (required BadBrackets (settable who.subject.ring rings)) _
        (λ brackets g. segment_short uid (bracketed brackets))))

    pub set_dir_brackets_short : (d1 d2 : ℕ) → IfTold HasShort (set_dir_brackets h who text d1 d2)
    set_dir_brackets_short d1 d2 =
        onward_told HasShort (entry h who text true) _
        (λ uid e. unless_told HasShort (first_of (set_dir_brackets_refusals h who.subject uid d1 d2)) _ (directory_short uid (dir_bracketed d1 d2)))

    pub set_class_short : (class : PlainClass) → IfTold HasShort (set_class h who text class)
    set_class_short class =
        onward_told HasShort (entry h who text true) _
        (λ uid e. unless_told HasShort (first_of (set_class_refusals h who.subject uid class)) _ (segment_short uid (classed class)))
