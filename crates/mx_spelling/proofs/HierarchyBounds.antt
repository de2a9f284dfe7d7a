-- What each request leaves of the hierarchy can be spelled, where it can be before it, and the request is of its grammar.
use Rattle.std.proofs.Common.{◌≡◌, ℕ, zero, suc, ◌-◌, ◌==◌, ◌≤◌, nat_le, Bool, true, false, ◌&&◌, not, if◌then◌else◌, List, [], ◌∷◌, ◌++◌, length, take, map, Option, Some, None, IfSome, Result, Ok, Err, is_none, refl, ap, subst, ◌∙◌, slice_get}
use Rattle.std.specs.List.{All, list_all}
use Rattle.std.specs.Option.{option_and_then}
use Rattle.std.proofs.lemmas.List.Elements.{All-nil, All-cons, All-head, All-tail, All-append, All-filter}
use Rattle.std.proofs.lemmas.List.Folds.{list_all-append}
use Rattle.mx_acl.specs.Access.{Access, with_entry, without_entry}
use Rattle.mx_acl.specs.declared.modes.AclKind.{AclKind}
use Rattle.mx_acl.specs.declared.modes.Modes.{Modes}
use Rattle.mx_aim.specs.Classes.{PlainClass}
use Rattle.mx_hier.proofs.MakingLaws.{good_length}
use Rattle.mx_hier.specs.Branches.{Hierarchy, directory_at}
use Rattle.mx_hier.specs.Brackets.{bracketing, settable}
use Rattle.mx_hier.specs.Callers.{Caller, Subject}
use Rattle.mx_hier.specs.Changing as changing
use Rattle.mx_hier.specs.Changing.{acl_changed, branch_with_acl, branch_with_directory, branch_with_segment, directory_changed, segment_changed, with_acl, with_branch, with_directory, with_segment}
use Rattle.mx_hier.specs.CreateDirectory.{create_dir, create_dir_refusals, new_directory}
use Rattle.mx_hier.specs.CreateLink.{create_link}
use Rattle.mx_hier.specs.Delete.{delete, delete_refusals}
use Rattle.mx_hier.specs.DeleteAclEntry.{del_acl, del_acl_refusals}
use Rattle.mx_hier.specs.InitialLists.{del_iacl, del_iacl_refusals, initial_changed, set_iacl, set_iacl_refusals, with_initial}
use Rattle.mx_hier.specs.MakeSegment.{Wanted, is_bad_length, make_segment, make_segment_refusals, new_segment, segment_added}
use Rattle.mx_hier.specs.Making.{added, last_name, made, making_refusals, parent_path, place}
use Rattle.mx_hier.specs.Objects.{with_object}
use Rattle.mx_hier.specs.Rename.{rename, rename_refusals}
use Rattle.mx_hier.specs.Rules.{first_of, onward, required, unless}
use Rattle.mx_hier.specs.SetAcl.{set_acl, set_acl_refusals}
use Rattle.mx_hier.specs.SetBrackets.{bracketed, set_brackets, set_brackets_refusals}
use Rattle.mx_hier.specs.SetClass.{classed, set_class, set_class_refusals}
use Rattle.mx_hier.specs.SetDirectoryBrackets.{dir_bracketed, set_dir_brackets, set_dir_brackets_refusals}
use Rattle.mx_hier.specs.Walks.{entry, path_or_refusal, reached, resolved}
use Rattle.mx_hier.specs.declared.branches.Branch.{Branch}
use Rattle.mx_hier.specs.declared.branches.Directory.{Directory}
use Rattle.mx_hier.specs.declared.branches.Node.{Node}
use Rattle.mx_hier.specs.declared.branches.Node.TheVariants.{Directory as IsDirectory, Segment as IsSegment, Link as IsLink}
use Rattle.mx_hier.specs.declared.branches.Segment.{Segment}
use Rattle.mx_hier.specs.declared.making.Place.{Place}
use Rattle.mx_hier.specs.declared.refusals.Refusal.{Refusal}
use Rattle.mx_hier.specs.declared.refusals.Refusal.TheVariants.{BadBrackets, BadLength, NameDup, NoPages, NotADir}
use Rattle.mx_name.proofs.FirstFaults.{or_left, or_right}
use Rattle.mx_name.proofs.PathLaws.{pathname_names}
use Rattle.mx_name.specs.Identifiers.{PlainAclId}
use Rattle.mx_name.specs.Names.{name_fault}
use Rattle.mx_name.specs.Pathnames.{climbs, first_fault, is_absolute, names_of, pathname_fault}
use Rattle.mx_name.specs.Paths as paths
use Rattle.mx_name.specs.Paths.{kept, resolve_fault}
use Rattle.mx_name.specs.declared.paths.PathError.{PathError}
use Rattle.mx_object.specs.Objects.{PlainObjectMap}
use Rattle.mx_pages.specs.Runs.{pages_for, run_given}
use Rattle.mx_request.proofs.FieldLaws.{at_most}
use Rattle.mx_request.proofs.StepLaws.{both, both_hold, faultless, no_fault}
use Rattle.mx_request.specs.Fields.{is_name}
use Rattle.mx_request.specs.ObjectTexts.{fits_object}
use Rattle.mx_request.specs.RequestTexts.{are_brackets, is_class, is_pathname, is_ring}
use Rattle.mx_sdw.specs.Rings.{Bracketing}
use Rattle.mx_spelling.proofs.StateBounds.{AreSpelledBrackets, IsSpelledBranch, IsSpelledDirectory, IsSpelledHierarchy, IsSpelledNode, IsSpelledObject, IsSpelledSegment}

-- names
names_fit : (names : List (List ℕ)) → first_fault names ≡ None → list_all is_name names ≡ true
names_fit [] e = refl
names_fit (name ∷ names) e =
    both_hold (is_name name) (list_all is_name names) (no_fault (name_fault name) (or_left (name_fault name) (first_fault names) e))
    (names_fit names (or_right (name_fault name) (first_fault names) e))

taken_names : (n : ℕ) (names : List (List ℕ)) → list_all is_name names ≡ true → list_all is_name (take n names) ≡ true
taken_names zero names e = refl
taken_names (suc n) [] e = refl
taken_names (suc n) (name ∷ names) e =
    let f = both (is_name name) (list_all is_name names) e in
    both_hold (is_name name) (list_all is_name (take n names)) f.0 (taken_names n names f.1)

kept_names : (base : List (List ℕ)) (text : List ℕ) → list_all is_name base ≡ true → list_all is_name (kept base text) ≡ true
kept_names base text e = by_test (is_absolute text)
  where
    by_test : (absolute : Bool) → list_all is_name (if absolute then [] else take (length base - climbs text) base) ≡ true
    by_test true = refl
    by_test false = taken_names (length base - climbs text) base e

name_at : (names : List (List ℕ)) (n : ℕ) (name : List ℕ) → list_all is_name names ≡ true → slice_get names n ≡ Some name → is_name name ≡ true
name_at [] n name e at = absurd cc
name_at (first ∷ names) zero name e at =
    let same : first ≡ name = cc in
    subst (λ (text : List ℕ). is_name text ≡ true) same (both (is_name first) (list_all is_name names) e).0
name_at (first ∷ names) (suc n) name e at = name_at names n name (both (is_name first) (list_all is_name names) e).1 at

-- what a pathname stands for
pub resolved_names : (who : Caller) (text : List ℕ) (path : List (List ℕ)) → list_all is_name who.base ≡ true → is_pathname text ≡ true
    → resolved who text ≡ Ok path → list_all is_name path ≡ true
resolved_names who text path base fits e = by_fault (resolve_fault who.base text) e
  where
    own : list_all is_name (paths.resolved who.base text) ≡ true
    own =
        list_all-append is_name (kept who.base text) (names_of text)
        ∙ both_hold (list_all is_name (kept who.base text)) (list_all is_name (names_of text)) (kept_names who.base text base)
        (names_fit (names_of text) (pathname_names text (faultless (pathname_fault text) fits)))

    by_fault : (o : Option PathError) → path_or_refusal (unless o (paths.resolved who.base text)) ≡ Ok path → list_all is_name path ≡ true
    by_fault None e =
        let same : paths.resolved who.base text ≡ path = cc in
        subst (λ (names : List (List ℕ)). list_all is_name names ≡ true) same own
    by_fault (Some fault) e = absurd cc

placed_name : (h : Hierarchy) (who : Subject) (path : List (List ℕ)) (at : Place) → list_all is_name path ≡ true → place h who path ≡ Ok at
    → is_name at.name ≡ true
placed_name h who path at fits e = by_name (last_name path) refl e
  where
    by_reached : (name : List ℕ) (r : Result ℕ Refusal) → last_name path ≡ Some name
        → onward r (λ dir. Ok (record { dir = dir; name = name })) ≡ Ok at → is_name at.name ≡ true
    by_reached name (Ok dir) f e =
        let same : record { dir = dir; name = name } ≡ at = cc in
        subst (λ (p : Place). is_name p.name ≡ true) same (name_at path (length path - 1) name fits f)
    by_reached name (Err why) f e = absurd cc

    by_name : (o : Option (List ℕ)) → last_name path ≡ o
        → onward (required NameDup o) (λ name. onward (reached h who true (parent_path path)) (λ dir. Ok (record { dir = dir; name = name }))) ≡ Ok at
        → is_name at.name ≡ true
    by_name None f e = absurd cc
    by_name (Some name) f e = by_reached name (reached h who true (parent_path path)) f e

-- what a request leaves
abbrev pub Keeps : Result Hierarchy Refusal → Type 0
Keeps (Ok h) = IsSpelledHierarchy h
Keeps (Err why) = Unit {0}

onward_keeps : {A : Type 0} (r : Result A Refusal) (rest : A → Result Hierarchy Refusal) → ((a : A) → r ≡ Ok a → Keeps (rest a)) → Keeps (onward r rest)
onward_keeps (Ok a) rest each = each a refl
onward_keeps (Err why) rest each = tt

unless_keeps : (o : Option Refusal) (h : Hierarchy) → IsSpelledHierarchy h → Keeps (unless o h)
unless_keeps None h is = is
unless_keeps (Some why) h is = tt

-- one branch changed
changed_spelled : (uid : ℕ) (f : Branch → Branch) (branches : List Branch) → ((branch : Branch) → IsSpelledBranch branch → IsSpelledBranch (f branch))
    → All IsSpelledBranch branches → All IsSpelledBranch (changing.changed uid f branches)
changed_spelled uid f [] keeps all = All-nil IsSpelledBranch
changed_spelled uid f (branch ∷ branches) keeps all =
    All-cons IsSpelledBranch (if branch.uid == uid then f branch else branch) (changing.changed uid f branches)
    (by_test (branch.uid == uid) (All-head IsSpelledBranch branch branches all))
    (changed_spelled uid f branches keeps (All-tail IsSpelledBranch branch branches all))
  where
    by_test : (own : Bool) → IsSpelledBranch branch → IsSpelledBranch (if own then f branch else branch)
    by_test true is = keeps branch is
    by_test false is = is

branch_spelled : (h : Hierarchy) (uid : ℕ) (f : Branch → Branch) → ((branch : Branch) → IsSpelledBranch branch → IsSpelledBranch (f branch))
    → IsSpelledHierarchy h → IsSpelledHierarchy (with_branch h uid f)
branch_spelled h uid f keeps is = record { root = is.root; branches = changed_spelled uid f h.branches keeps is.branches; objects = is.objects }

segment_spelled : (h : Hierarchy) (uid : ℕ) (f : Segment → Segment) → ((segment : Segment) → IsSpelledSegment segment → IsSpelledSegment (f segment))
    → IsSpelledHierarchy h → IsSpelledHierarchy (with_segment h uid f)
segment_spelled h uid f keeps is =
    branch_spelled h uid (branch_with_segment f) (λ branch own. record { name = own.name; node = by_node branch.node own.node }) is
  where
    by_node : (node : Node) → IsSpelledNode node → IsSpelledNode (segment_changed f node)
    by_node (IsSegment segment) own = keeps segment own
    by_node (IsDirectory directory) own = own
    by_node (IsLink target) own = own

directory_spelled : (h : Hierarchy) (uid : ℕ) (f : Directory → Directory)
    → ((directory : Directory) → IsSpelledDirectory directory → IsSpelledDirectory (f directory))
    → IsSpelledHierarchy h → IsSpelledHierarchy (with_directory h uid f)
directory_spelled h uid f keeps is = by_root (uid == 0)
  where
    by_node : (node : Node) → IsSpelledNode node → IsSpelledNode (directory_changed f node)
    by_node (IsDirectory directory) own = keeps directory own
    by_node (IsSegment segment) own = own
    by_node (IsLink target) own = own

    by_root : (root : Bool) → IsSpelledHierarchy (if root then record h { root = f h.root } else with_branch h uid (branch_with_directory f))
    by_root true = record { root = keeps h.root is.root; branches = is.branches; objects = is.objects }
    by_root false =
        branch_spelled h uid (branch_with_directory f) (λ branch own. record { name = own.name; node = by_node branch.node own.node }) is

acl_spelled : (h : Hierarchy) (uid : ℕ) (f : Access → Access) → IsSpelledHierarchy h → IsSpelledHierarchy (with_acl h uid f)
acl_spelled h uid f is = by_root (uid == 0)
  where
    by_node : (node : Node) → IsSpelledNode node → IsSpelledNode (acl_changed f node)
    by_node (IsDirectory directory) own = record { d1 = own.d1; d2 = own.d2 }
    by_node (IsSegment segment) own = record { words = own.words; class = own.class; brackets = own.brackets }
    by_node (IsLink target) own = own

    by_root : (root : Bool)
        → IsSpelledHierarchy (if root then record h { root = record h.root { acl = f h.root.acl } } else with_branch h uid (branch_with_acl f))
    by_root true = record { root = record { d1 = is.root.d1; d2 = is.root.d2 }; branches = is.branches; objects = is.objects }
    by_root false = branch_spelled h uid (branch_with_acl f) (λ branch own. record { name = own.name; node = by_node branch.node own.node }) is

-- one made
added_spelled : (h : Hierarchy) (at : Place) (node : Node) → is_name at.name ≡ true → IsSpelledNode node → IsSpelledHierarchy h
    → IsSpelledHierarchy (added h at node)
added_spelled h at node name own is =
    let new : Branch = record { uid = h.next; parent = at.dir; name = at.name; node = node } in
    record {
      root = is.root;
      branches = All-append IsSpelledBranch h.branches (new ∷ []) is.branches
          (All-cons IsSpelledBranch new [] (record { name = name; node = own }) (All-nil IsSpelledBranch));
      objects = is.objects;
    }

made_keeps : (h : Hierarchy) (at : Place) (refusals : List (Bool × Refusal)) (make : Directory → Result Hierarchy Refusal)
    → ((parent : Directory) → first_of refusals ≡ None → Keeps (make parent)) → Keeps (made h at refusals make)
made_keeps h at refusals make each = by_refusal (first_of refusals) refl
  where
    by_parent : first_of refusals ≡ None → (o : Option Directory) → Keeps (onward (required NotADir o) make)
    by_parent none None = tt
    by_parent none (Some parent) = each parent none

    by_refusal : (o : Option Refusal) → first_of refusals ≡ o
        → Keeps (onward (unless o at) (λ at. onward (required NotADir (directory_at h at.dir)) make))
    by_refusal None none = by_parent none (directory_at h at.dir)
    by_refusal (Some why) e = tt

-- where no rule applies, none of them does
none_applies : (rules more : List (Bool × Refusal)) (test : Bool) (why : Refusal) → first_of (rules ++ (test, why) ∷ more) ≡ None → test ≡ false
none_applies [] more true why e = absurd cc
none_applies [] more false why e = refl
none_applies (rule ∷ rules) more test why e = by_rule rule.0 e (none_applies rules more test why)
  where
    by_rule : (b : Bool) → (if b then Some rule.1 else first_of (rules ++ (test, why) ∷ more)) ≡ None
        → (first_of (rules ++ (test, why) ∷ more) ≡ None → test ≡ false) → test ≡ false
    by_rule true e rest = absurd cc
    by_rule false e rest = rest e

-- brackets
three_rings : (rings : List ℕ) (b : Bracketing) → are_brackets rings ≡ true → bracketing rings ≡ Some b → AreSpelledBrackets b
three_rings [] b fits e = absurd cc
three_rings (r1 ∷ []) b fits e = absurd cc
three_rings (r1 ∷ r2 ∷ []) b fits e = absurd cc
three_rings (r1 ∷ r2 ∷ r3 ∷ r4 ∷ more) b fits e = absurd cc
three_rings (r1 ∷ r2 ∷ r3 ∷ []) b fits e = by_test (nat_le r1 r2) refl (nat_le r2 r3) refl e
  where
    low : r3 ≤ 7
    low =
        let f = both (is_ring r1) (is_ring r2 && (is_ring r3 && true)) fits in
        let g = both (is_ring r2) (is_ring r3 && true) f.1 in
        at_most r3 7 (both (is_ring r3) true g.1).0

    by_test : (first : Bool) → nat_le r1 r2 ≡ first → (last : Bool) → nat_le r2 r3 ≡ last
        → (if first && last then Some (record { r1 = r1; r2 = r2; r3 = r3 }) else None) ≡ Some b → AreSpelledBrackets b
    by_test false f last g e = absurd cc
    by_test true f false g e = absurd cc
    by_test true f true g e =
        let same : record { r1 = r1; r2 = r2; r3 = r3 } ≡ b = cc in
        subst AreSpelledBrackets same (record { write_first = at_most r1 r2 f; gate_last = at_most r2 r3 g; ring = low })

settable_spelled : (ring : ℕ) (rings : List ℕ) (b : Bracketing) → are_brackets rings ≡ true → settable ring rings ≡ Some b → AreSpelledBrackets b
settable_spelled ring rings b fits e = by_brackets (bracketing rings) refl e
  where
    by_test : (own : Bracketing) (above : Bool) → bracketing rings ≡ Some own → (if above then Some own else None) ≡ Some b → AreSpelledBrackets b
    by_test own true f e = let same : own ≡ b = cc in subst AreSpelledBrackets same (three_rings rings own fits f)
    by_test own false f e = absurd cc

    by_brackets : (o : Option Bracketing) → bracketing rings ≡ o
        → option_and_then (λ (brackets : Bracketing). if nat_le ring brackets.r1 then Some brackets else None) o ≡ Some b → AreSpelledBrackets b
    by_brackets None f e = absurd cc
    by_brackets (Some own) f e = by_test own (nat_le ring own.r1) f e

required_some : {A : Type 0} (why : Refusal) (o : Option A) (a : A) → required why o ≡ Ok a → o ≡ Some a
required_some why None a e = absurd cc
required_some why (Some value) a e = let same : value ≡ a = cc in ap Some same

-- the requests that make an entry
module _ (h : Hierarchy) (who : Caller) (text : List ℕ) (is : IsSpelledHierarchy h) (base : list_all is_name who.base ≡ true)
    (fits : is_pathname text ≡ true) where
  pub create_dir_keeps : (d1 d2 : ℕ) → is_ring d1 ≡ true → is_ring d2 ≡ true → Keeps (create_dir h who text d1 d2)
  create_dir_keeps d1 d2 first second =
      onward_keeps (resolved who text) _
      (λ path e. onward_keeps (place h who.subject path) _
      (λ at f. made_keeps h at (create_dir_refusals h who.subject at d1 d2)
      (λ parent. Ok (added h at (IsDirectory (new_directory parent who.subject d1 d2))))
      (λ parent none. added_spelled h at (IsDirectory (new_directory parent who.subject d1 d2))
      (placed_name h who.subject path at (resolved_names who text path base fits e) f)
      (record { d1 = at_most d1 7 first; d2 = at_most d2 7 second }) is)))

  pub create_link_keeps : (to : List ℕ) → is_pathname to ≡ true → Keeps (create_link h who text to)
  create_link_keeps to fits_to =
      onward_keeps (resolved who text) _
      (λ path e. onward_keeps (resolved who to) _
      (λ target f. onward_keeps (place h who.subject path) _
      (λ at g. made_keeps h at (making_refusals h who.subject at) (λ parent. Ok (added h at (IsLink target)))
      (λ parent none. added_spelled h at (IsLink target)
      (placed_name h who.subject path at (resolved_names who text path base fits e) g)
      (resolved_names who to target base fits_to f) is))))

  -- an object's map, and its segment
  module _ (class : is_class who.subject.authorization ≡ true) (wanted : Wanted) (rings : are_brackets wanted.rings ≡ true)
      (object : IfSome wanted.object (λ o. fits_object o ≡ true)) where
    objects_with : (o : Option PlainObjectMap) → IfSome o (λ o. fits_object o ≡ true) → All IsSpelledObject (with_object h.objects h.next o)
    objects_with None own = is.objects
    objects_with (Some map) own =
        All-append IsSpelledObject h.objects ((h.next, map) ∷ []) is.objects
        (All-cons IsSpelledObject (h.next, map) [] own (All-nil IsSpelledObject))

    segment_made : (at : Place) (segment : Segment) → is_name at.name ≡ true → IsSpelledSegment segment
        → IsSpelledHierarchy (segment_added h at segment wanted.object)
    segment_made at segment name own =
        let entry = added_spelled h at (IsSegment segment) name own is in
        record { root = entry.root; branches = entry.branches; objects = objects_with wanted.object object }

    good : (at : Place) → first_of (make_segment_refusals h who.subject at wanted) ≡ None → is_bad_length wanted.words wanted.object ≡ false
    good at none =
        none_applies (making_refusals h who.subject at)
        ((is_none (settable who.subject.ring wanted.rings), BadBrackets) ∷ (is_none (run_given h.pages (pages_for wanted.words)), NoPages) ∷ [])
        (is_bad_length wanted.words wanted.object) BadLength none

    pub make_segment_keeps : Keeps (make_segment h who text wanted)
    make_segment_keeps =
        onward_keeps (resolved who text) _
        (λ path e. onward_keeps (place h who.subject path) _
        (λ at f. made_keeps h at (make_segment_refusals h who.subject at wanted) _
        (λ parent none. onward_keeps (required BadBrackets (settable who.subject.ring wanted.rings)) _
        (λ brackets g. onward_keeps (required NoPages (run_given h.pages (pages_for wanted.words))) _
        (λ page k. segment_made at (new_segment parent who.subject wanted.words brackets wanted.modes page)
        (placed_name h who.subject path at (resolved_names who text path base fits e) f)
        (record {
          words = (good_length wanted.words wanted.object (good at none)).few;
          class = class;
          brackets = settable_spelled who.subject.ring wanted.rings brackets rings
              (required_some BadBrackets (settable who.subject.ring wanted.rings) brackets g);
        }))))))

-- the requests that change one
module _ (h : Hierarchy) (who : Caller) (text : List ℕ) (is : IsSpelledHierarchy h) where
  pub rename_keeps : (name : List ℕ) → is_name name ≡ true → Keeps (rename h who text name)
  rename_keeps name fits =
      onward_keeps (entry h who text false) _
      (λ uid e. unless_keeps (first_of (rename_refusals h who.subject uid name)) _
      (branch_spelled h uid (λ branch. record branch { name = name }) (λ branch own. record { name = fits; node = own.node }) is))

  pub delete_keeps : Keeps (delete h who text)
  delete_keeps =
      onward_keeps (entry h who text false) _
      (λ uid e. unless_keeps (first_of (delete_refusals h who.subject uid)) _ (record {
        root = is.root;
        branches = All-filter (λ (branch : Branch). not (branch.uid == uid)) IsSpelledBranch h.branches is.branches;
        objects = is.objects;
      }))

  pub set_acl_keeps : (id : PlainAclId) (modes : Modes) → Keeps (set_acl h who text id modes)
  set_acl_keeps id modes =
      onward_keeps (entry h who text true) _
      (λ uid e. unless_keeps (first_of (set_acl_refusals h who.subject uid id modes)) _ (acl_spelled h uid (λ acl. with_entry acl id modes) is))

  pub del_acl_keeps : (id : PlainAclId) → Keeps (del_acl h who text id)
  del_acl_keeps id =
      onward_keeps (entry h who text true) _
      (λ uid e. unless_keeps (first_of (del_acl_refusals h who.subject uid id)) _ (acl_spelled h uid (λ acl. without_entry acl id) is))

  initial_spelled : (uid : ℕ) (kind : AclKind) (f : Access → Access) → IsSpelledHierarchy (with_initial h uid kind f)
  initial_spelled uid kind f = directory_spelled h uid (initial_changed kind f) (λ directory own. record { d1 = own.d1; d2 = own.d2 }) is

  pub set_iacl_keeps : (kind : AclKind) (id : PlainAclId) (modes : Modes) → Keeps (set_iacl h who text kind id modes)
  set_iacl_keeps kind id modes =
      onward_keeps (entry h who text true) _
      (λ uid e. unless_keeps (first_of (set_iacl_refusals h who.subject uid kind id modes)) _
      (initial_spelled uid kind (λ initial. with_entry initial id modes)))

  pub del_iacl_keeps : (kind : AclKind) (id : PlainAclId) → Keeps (del_iacl h who text kind id)
  del_iacl_keeps kind id =
      onward_keeps (entry h who text true) _
      (λ uid e. unless_keeps (first_of (del_iacl_refusals h who.subject uid kind id)) _
      (initial_spelled uid kind (λ initial. without_entry initial id)))

  pub set_brackets_keeps : (rings : List ℕ) → are_brackets rings ≡ true → Keeps (set_brackets h who text rings)
  set_brackets_keeps rings fits =
      onward_keeps (entry h who text true) _
      (λ at e. onward_keeps (unless (first_of (set_brackets_refusals h who.subject at rings)) at) _
      (λ uid f. onward_keeps (required BadBrackets (settable who.subject.ring rings)) _
      (λ brackets g. segment_spelled h uid (bracketed brackets) (λ segment own. record {
        words = own.words;
        class = own.class;
        brackets = settable_spelled who.subject.ring rings brackets fits (required_some BadBrackets (settable who.subject.ring rings) brackets g);
      }) is)))

  pub set_dir_brackets_keeps : (d1 d2 : ℕ) → is_ring d1 ≡ true → is_ring d2 ≡ true → Keeps (set_dir_brackets h who text d1 d2)
  set_dir_brackets_keeps d1 d2 first second =
      onward_keeps (entry h who text true) _
      (λ uid e. unless_keeps (first_of (set_dir_brackets_refusals h who.subject uid d1 d2)) _
      (directory_spelled h uid (dir_bracketed d1 d2) (λ directory own. record { d1 = at_most d1 7 first; d2 = at_most d2 7 second }) is))

  pub set_class_keeps : (class : PlainClass) → is_class class ≡ true → Keeps (set_class h who text class)
  set_class_keeps class fits =
      onward_keeps (entry h who text true) _
      (λ uid e. unless_keeps (first_of (set_class_refusals h who.subject uid class)) _
      (segment_spelled h uid (classed class) (λ segment own. record { words = own.words; class = fits; brackets = own.brackets }) is))
