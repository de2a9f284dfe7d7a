-- Which segments stand at their uids after a request on the hierarchy as before it.
use Rattle.std.proofs.Common.{◌≡◌, ◌≢◌, ℕ, ◌<◌, ◌≤◌, eqb, Bool, true, false, cond, not, List, [], ◌∷◌, ◌++◌, Option, Some, None, Result, Ok, Err, refl, sym, ap, subst, ◌∙◌, arith}
use Rattle.std.proofs.lemmas.Bool.{eqb-true, ne_eqb}
use Rattle.std.specs.Option.{option_and_then}
use Rattle.mx_name.specs.Identifiers.{PlainAclId}
use Rattle.mx_acl.specs.Access.{Access, with_entry, without_entry}
use Rattle.mx_acl.specs.declared.modes.AclKind.{AclKind}
use Rattle.mx_acl.specs.declared.modes.Modes.{Modes}
use Rattle.mx_acl.specs.declared.modes.Modes.TheVariants.{Re, Rw}
use Rattle.mx_aim.specs.Classes.{PlainClass}
use Rattle.mx_object.specs.Objects.{PlainObjectMap}
use Rattle.mx_hier.specs.declared.branches.Branch.{Branch}
use Rattle.mx_hier.specs.declared.branches.Directory.{Directory}
use Rattle.mx_hier.specs.declared.branches.Segment.{Segment}
use Rattle.mx_hier.specs.declared.branches.Node.{Node}
use Rattle.mx_hier.specs.declared.branches.Node.TheVariants.{Directory as IsDirectory, Segment as IsSegment, Link as IsLink}
use Rattle.mx_hier.specs.declared.making.Place.{Place}
use Rattle.mx_hier.specs.declared.refusals.Refusal.{Refusal}
use Rattle.mx_hier.specs.declared.refusals.Refusal.TheVariants.{NotADir, BadBrackets, NoPages}
use Rattle.mx_pages.proofs.RunLaws.{given_free}
use Rattle.mx_pages.specs.Runs.{pages_for, run_given, is_in_run}
use Rattle.mx_hier.specs.Branches.{Hierarchy, branch_of, as_segment, directory_at, segment_at, object_at}
use Rattle.mx_hier.specs.Brackets.{settable}
use Rattle.mx_hier.specs.Callers.{Subject, Caller}
use Rattle.mx_hier.specs.Changing.{changed, with_branch, with_acl, with_directory, branch_with_acl, branch_with_directory, branch_with_segment, directory_changed, segment_changed, acl_changed}
use Rattle.mx_hier.specs.CreateDirectory.{create_dir, create_dir_at, create_dir_refusals, new_directory}
use Rattle.mx_hier.specs.CreateLink.{create_link, create_link_at}
use Rattle.mx_hier.specs.CreateObject.{create_object}
use Rattle.mx_hier.specs.CreateSegment.{create_seg}
use Rattle.mx_hier.specs.Delete.{delete_at, delete_refusals, deleted, without}
use Rattle.mx_hier.specs.DeleteAclEntry.{del_acl_at, del_acl_refusals}
use Rattle.mx_hier.specs.MakeSegment.{Wanted, make_segment, make_segment_at, make_segment_refusals, new_segment, segment_added}
use Rattle.mx_hier.specs.InitialLists.{initial_changed, with_initial, set_iacl_at, set_iacl_refusals, del_iacl_at, del_iacl_refusals}
use Rattle.mx_hier.specs.Making.{place, making_refusals, made, added}
use Rattle.mx_hier.specs.Rename.{rename_at, rename_refusals}
use Rattle.mx_hier.specs.Rules.{first_of, required, onward, unless}
use Rattle.mx_hier.specs.SetAcl.{set_acl_at, set_acl_refusals}
use Rattle.mx_hier.specs.SetBrackets.{set_brackets_at, set_brackets_refusals, with_brackets, bracketed}
use Rattle.mx_hier.specs.SetClass.{classed, with_class, set_class_at, set_class_refusals}
use Rattle.mx_hier.specs.SetDirectoryBrackets.{set_dir_brackets_at, set_dir_brackets_refusals, with_dir_brackets, dir_bracketed}
use Rattle.mx_hier.specs.Walks.{resolved}
use Rattle.mx_hier.proofs.ObjectLaws.{found_still}
use Rattle.mx_state.specs.Pages.{lies_on}
use Rattle.mx_state.proofs.PageLaws.{once, counted, pushed, changed_count, deleted_count, lies_alike, run_count}

-- the segment of a uid among branches
abbrev standing : List Branch → ℕ → Option Segment
standing branches uid = option_and_then (λ (branch : Branch). as_segment branch.node) (branch_of branches uid)

-- All segments made so far stand as they did, but the one of this uid, and have the same object maps. At no page more
-- counts than before.
pub record IsAsBefore (but : ℕ → Type 0) (old new : Hierarchy) : Type 0 where
  pub same : (uid : ℕ) → uid < old.next → (but uid → ⊥) → segment_at new uid ≡ segment_at old uid
  pub maps : (uid : ℕ) → uid < old.next → object_at new uid ≡ object_at old uid
  pub next : old.next ≤ new.next
  pub pages : (page : ℕ) → counted new page ≤ counted old page

-- none
abbrev pub Nothing : ℕ → Type 0
Nothing uid = ⊥

-- all but one
abbrev pub Only : ℕ → ℕ → Type 0
Only uid u = u ≡ uid

pub as_it_was : (but : ℕ → Type 0) (h : Hierarchy) → IsAsBefore but h h
as_it_was but h = record { same = λ uid below apart. refl; maps = λ uid below. refl; next = omega arith; pages = λ page. omega arith }

-- what a request leaves, where it is not refused
abbrev pub Leaves : (ℕ → Type 0) → Hierarchy → Result Hierarchy Refusal → Type 0
Leaves but h meant = (k : Hierarchy) → meant ≡ Ok k → IsAsBefore but h k

pub leaves_ok : (but : ℕ → Type 0) (h k : Hierarchy) → IsAsBefore but h k → Leaves but h (Ok k)
leaves_ok but h k before = λ l e. let same : k ≡ l = cc in subst (IsAsBefore but h) same before

leaves_onward : {A : Type 0} (but : ℕ → Type 0) (h : Hierarchy) (given : Result A Refusal) (rest : A → Result Hierarchy Refusal)
    → ((value : A) → Leaves but h (rest value)) → Leaves but h (onward given rest)
leaves_onward but h (Ok value) rest leaves = leaves value
leaves_onward but h (Err why) rest leaves = λ k e. cc

leaves_unless : (but : ℕ → Type 0) (h k : Hierarchy) (why : Option Refusal) → IsAsBefore but h k → Leaves but h (unless why k)
leaves_unless but h k None before = leaves_ok but h k before
leaves_unless but h k (Some why) before = λ l e. cc

-- a new branch has a uid that no other had
found_before : (branches : List Branch) (branch : Branch) (uid : ℕ) → branch.uid ≢ uid → branch_of (branches ++ branch ∷ []) uid ≡ branch_of branches uid
found_before [] branch uid apart = rw (ne_eqb branch.uid uid apart) refl
found_before (x ∷ xs) branch uid apart = ap (cond (eqb x.uid uid) (Some x)) (found_before xs branch uid apart)

added_stands : (h : Hierarchy) (at : Place) (node : Node) (uid : ℕ) → uid < h.next → segment_at (added h at node) uid ≡ segment_at h uid
added_stands h at node uid below = ap (option_and_then (λ (branch : Branch). as_segment branch.node))
    (found_before h.branches (record { uid = h.next; parent = at.dir; name = at.name; node = node }) uid (λ same. omega arith))

-- a directory or a link lies on no page
added_as_before : (h : Hierarchy) (at : Place) (node : Node) → ((page : ℕ) → lies_on page node ≡ false) → IsAsBefore Nothing h (added h at node)
added_as_before h at node none = record {
  same = λ uid below apart. added_stands h at node uid below;
  maps = λ uid below. refl;
  next = omega arith;
  pages = λ page. omega (arith, pushed h.branches (record { uid = h.next; parent = at.dir; name = at.name; node = node }) page, ap once (none page));
}

-- a branch that is changed keeps its uid
one_changed : (b : Bool) (x : Branch) (f : Branch → Branch) (uid : ℕ)
    → ((f x).uid ≡ x.uid) → (b ≡ true → x.uid ≡ uid → as_segment (f x).node ≡ as_segment x.node)
    → (branches changes : List Branch) → standing changes uid ≡ standing branches uid
    → standing (cond b (f x) x ∷ changes) uid ≡ standing (x ∷ branches) uid
one_changed false x f uid keeps same branches changes later = by_test (eqb x.uid uid)
  where
    by_test : (b : Bool) → option_and_then (λ (branch : Branch). as_segment branch.node) (cond b (Some x) (branch_of changes uid))
        ≡ option_and_then (λ (branch : Branch). as_segment branch.node) (cond b (Some x) (branch_of branches uid))
    by_test true = refl
    by_test false = later
one_changed true x f uid keeps same branches changes later =
    by_test (eqb (f x).uid uid) (eqb x.uid uid) (ap (λ n. eqb n uid) keeps) refl
  where
    by_test : (c b : Bool) → c ≡ b → eqb x.uid uid ≡ b → option_and_then (λ (branch : Branch). as_segment branch.node) (cond c (Some (f x)) (branch_of changes uid))
        ≡ option_and_then (λ (branch : Branch). as_segment branch.node) (cond b (Some x) (branch_of branches uid))
    by_test true true e t = same refl (eqb-true x.uid uid t)
    by_test true false e t = cc
    by_test false true e t = cc
    by_test false false e t = later

changed_standing : (at : ℕ) (f : Branch → Branch) (branches : List Branch) (uid : ℕ)
    → ((x : Branch) → (f x).uid ≡ x.uid) → ((x : Branch) → x.uid ≡ at → x.uid ≡ uid → as_segment (f x).node ≡ as_segment x.node)
    → standing (changed at f branches) uid ≡ standing branches uid
changed_standing at f [] uid keeps same = refl
changed_standing at f (x ∷ xs) uid keeps same =
    one_changed (eqb x.uid at) x f uid (keeps x) (λ t here. same x (eqb-true x.uid at t) here)
    xs (changed at f xs) (changed_standing at f xs uid keeps same)

-- one branch changed, which stays a segment as it was
changed_as_before : (h : Hierarchy) (at : ℕ) (f : Branch → Branch) → ((x : Branch) → (f x).uid ≡ x.uid)
    → ((x : Branch) → as_segment (f x).node ≡ as_segment x.node) → IsAsBefore Nothing h (with_branch h at f)
changed_as_before h at f keeps same = record {
  same = λ uid below apart. changed_standing at f h.branches uid keeps (λ x here there. same x);
  maps = λ uid below. refl;
  next = omega arith;
  pages = λ page. changed_count h at f page (λ x. lies_alike page (f x).node x.node (same x));
}

-- one branch changed, which lies where it did
changed_but : (h : Hierarchy) (at : ℕ) (f : Branch → Branch) → ((x : Branch) → (f x).uid ≡ x.uid)
    → ((page : ℕ) (x : Branch) → lies_on page (f x).node ≡ lies_on page x.node) → IsAsBefore (Only at) h (with_branch h at f)
changed_but h at f keeps lies = record {
  same = λ uid below apart. changed_standing at f h.branches uid keeps (λ x here there. absurd (apart (sym there ∙ here)));
  maps = λ uid below. refl;
  next = omega arith;
  pages = λ page. changed_count h at f page (lies page);
}

-- the requests that leave all segments
made_leaves : (h : Hierarchy) (at : Place) (refusals : List (Bool × Refusal)) (make : Directory → Result Hierarchy Refusal)
    → ((parent : Directory) → Leaves Nothing h (make parent)) → Leaves Nothing h (made h at refusals make)
made_leaves h at refusals make leaves =
    leaves_onward Nothing h (unless (first_of refusals) at) (λ at. onward (required NotADir (directory_at h at.dir)) make)
    (λ at. leaves_onward Nothing h (required NotADir (directory_at h at.dir)) make leaves)

placed_leaves : (h : Hierarchy) (who : Subject) (path : List (List ℕ)) (make : Place → Result Hierarchy Refusal)
    → ((at : Place) → Leaves Nothing h (make at)) → Leaves Nothing h (onward (place h who path) make)
placed_leaves h who path make leaves = leaves_onward Nothing h (place h who path) make leaves

pub create_dir_leaves : (h : Hierarchy) (who : Caller) (path : List ℕ) (d1 d2 : ℕ) → Leaves Nothing h (create_dir h who path d1 d2)
create_dir_leaves h who path d1 d2 =
    leaves_onward Nothing h (resolved who path) (λ path. onward (place h who.subject path) (λ at. create_dir_at h who.subject at d1 d2))
    (λ path. placed_leaves h who.subject path (λ at. create_dir_at h who.subject at d1 d2)
    (λ at. made_leaves h at (create_dir_refusals h who.subject at d1 d2)
    (λ parent. Ok (added h at (IsDirectory (new_directory parent who.subject d1 d2))))
    (λ parent. leaves_ok Nothing h (added h at (IsDirectory (new_directory parent who.subject d1 d2)))
    (added_as_before h at (IsDirectory (new_directory parent who.subject d1 d2)) (λ page. refl)))))

segment_as_before : (h : Hierarchy) (at : Place) (segment : Segment) (object : Option PlainObjectMap)
    → run_given h.pages (pages_for segment.words) ≡ Some segment.page → IsAsBefore Nothing h (segment_added h at segment object)
segment_as_before h at segment object given = record {
  same = λ uid below apart. added_stands h at (IsSegment segment) uid below;
  maps = λ uid below. found_still h.objects h.next uid object (λ same. omega arith);
  next = omega arith;
  pages = λ page. omega (
    arith,
    pushed h.branches (record { uid = h.next; parent = at.dir; name = at.name; node = IsSegment segment }) page,
    run_count h.pages (pages_for segment.words) segment.page page (given_free h.pages (pages_for segment.words) segment.page given),
  );
}

-- what follows where a run of pages is given
leaves_given : (but : ℕ → Type 0) (h : Hierarchy) (given : Option ℕ) (rest : ℕ → Result Hierarchy Refusal)
    → ((page : ℕ) → given ≡ Some page → Leaves but h (rest page)) → Leaves but h (onward (required NoPages given) rest)
leaves_given but h (Some page) rest leaves = leaves page refl
leaves_given but h None rest leaves = λ k e. cc

make_segment_leaves : (h : Hierarchy) (who : Caller) (path : List ℕ) (wanted : Wanted) → Leaves Nothing h (make_segment h who path wanted)
make_segment_leaves h who path wanted =
    leaves_onward Nothing h (resolved who path) (λ path. onward (place h who.subject path) (λ at. make_segment_at h who.subject at wanted))
    (λ path. placed_leaves h who.subject path (λ at. make_segment_at h who.subject at wanted)
    (λ at. made_leaves h at (make_segment_refusals h who.subject at wanted)
    (λ parent. onward (required BadBrackets (settable who.subject.ring wanted.rings)) (λ brackets.
    onward (required NoPages (run_given h.pages (pages_for wanted.words))) (λ page.
    Ok (segment_added h at (new_segment parent who.subject wanted.words brackets wanted.modes page) wanted.object))))
    (λ parent. leaves_onward Nothing h (required BadBrackets (settable who.subject.ring wanted.rings))
    (λ brackets. onward (required NoPages (run_given h.pages (pages_for wanted.words))) (λ page.
    Ok (segment_added h at (new_segment parent who.subject wanted.words brackets wanted.modes page) wanted.object)))
    (λ brackets. leaves_given Nothing h (run_given h.pages (pages_for wanted.words))
    (λ page. Ok (segment_added h at (new_segment parent who.subject wanted.words brackets wanted.modes page) wanted.object))
    (λ page given. leaves_ok Nothing h (segment_added h at (new_segment parent who.subject wanted.words brackets wanted.modes page) wanted.object)
    (segment_as_before h at (new_segment parent who.subject wanted.words brackets wanted.modes page) wanted.object given))))))

pub create_seg_leaves : (h : Hierarchy) (who : Caller) (path : List ℕ) (words : ℕ) (rings : List ℕ)
    → Leaves Nothing h (create_seg h who path words rings)
create_seg_leaves h who path words rings =
    make_segment_leaves h who path (record { words = words; rings = rings; modes = Rw; object = None })

pub create_object_leaves : (h : Hierarchy) (who : Caller) (path : List ℕ) (words : ℕ) (rings : List ℕ) (object : PlainObjectMap)
    → Leaves Nothing h (create_object h who path words rings object)
create_object_leaves h who path words rings object =
    make_segment_leaves h who path (record { words = words; rings = rings; modes = Re; object = Some object })

pub create_link_leaves : (h : Hierarchy) (who : Caller) (path target : List ℕ) → Leaves Nothing h (create_link h who path target)
create_link_leaves h who path target =
    leaves_onward Nothing h (resolved who path)
    (λ path. onward (resolved who target) (λ target. onward (place h who.subject path) (λ at. create_link_at h who.subject at target)))
    (λ path. leaves_onward Nothing h (resolved who target)
    (λ target. onward (place h who.subject path) (λ at. create_link_at h who.subject at target))
    (λ target. placed_leaves h who.subject path (λ at. create_link_at h who.subject at target)
    (λ at. made_leaves h at (making_refusals h who.subject at) (λ parent. Ok (added h at (IsLink target)))
    (λ parent. leaves_ok Nothing h (added h at (IsLink target)) (added_as_before h at (IsLink target) (λ page. refl))))))

pub rename_leaves : (h : Hierarchy) (who : Subject) (uid : ℕ) (name : List ℕ) → Leaves Nothing h (rename_at h who uid name)
rename_leaves h who uid name =
    leaves_unless Nothing h (with_branch h uid (λ branch. record branch { name = name })) (first_of (rename_refusals h who uid name))
    (changed_as_before h uid (λ branch. record branch { name = name }) (λ x. refl) (λ x. refl))

directory_stays : (f : Directory → Directory) (node : Node) → as_segment (directory_changed f node) ≡ as_segment node
directory_stays f (IsDirectory directory) = refl
directory_stays f (IsSegment segment) = refl
directory_stays f (IsLink target) = refl

-- a directory that is changed is no segment
pub with_directory_stands : (h : Hierarchy) (uid : ℕ) (f : Directory → Directory) (u : ℕ) → segment_at (with_directory h uid f) u ≡ segment_at h u
with_directory_stands h uid f u = by_root (eqb uid 0)
  where
    by_root : (root : Bool) → segment_at (cond root (record h { root = f h.root }) (with_branch h uid (branch_with_directory f))) u ≡ segment_at h u
    by_root true = refl
    by_root false =
        changed_standing uid (branch_with_directory f) h.branches u (λ x. refl) (λ x here there. directory_stays f x.node)

pub with_directory_maps : (h : Hierarchy) (uid : ℕ) (f : Directory → Directory) (u : ℕ) → object_at (with_directory h uid f) u ≡ object_at h u
with_directory_maps h uid f u = by_root (eqb uid 0)
  where
    by_root : (root : Bool) → object_at (cond root (record h { root = f h.root }) (with_branch h uid (branch_with_directory f))) u ≡ object_at h u
    by_root true = refl
    by_root false = refl

directory_as_before : (h : Hierarchy) (uid : ℕ) (f : Directory → Directory) → IsAsBefore Nothing h (with_directory h uid f)
directory_as_before h uid f = record {
  same = λ u below apart. with_directory_stands h uid f u;
  maps = λ u below. with_directory_maps h uid f u;
  next = by_root (eqb uid 0);
  pages = λ page. no_more page (eqb uid 0);
}
  where
    no_more : (page : ℕ) (root : Bool) → counted (cond root (record h { root = f h.root }) (with_branch h uid (branch_with_directory f))) page ≤ counted h page
    no_more page true = omega arith
    no_more page false = changed_count h uid (branch_with_directory f) page (λ x. lies_alike page (directory_changed f x.node) x.node (directory_stays f x.node))

    by_root : (root : Bool) → h.next ≤ (cond root (record h { root = f h.root }) (with_branch h uid (branch_with_directory f))).next
    by_root true = omega arith
    by_root false = omega arith

pub set_dir_brackets_leaves : (h : Hierarchy) (who : Subject) (uid d1 d2 : ℕ) → Leaves Nothing h (set_dir_brackets_at h who uid d1 d2)
set_dir_brackets_leaves h who uid d1 d2 =
    leaves_unless Nothing h (with_dir_brackets h uid d1 d2) (first_of (set_dir_brackets_refusals h who uid d1 d2))
    (directory_as_before h uid (dir_bracketed d1 d2))

pub set_iacl_leaves : (h : Hierarchy) (who : Subject) (uid : ℕ) (kind : AclKind) (id : PlainAclId) (modes : Modes)
    → Leaves Nothing h (set_iacl_at h who uid kind id modes)
set_iacl_leaves h who uid kind id modes =
    leaves_unless Nothing h (with_initial h uid kind (λ initial. with_entry initial id modes)) (first_of (set_iacl_refusals h who uid kind id modes))
    (directory_as_before h uid (initial_changed kind (λ initial. with_entry initial id modes)))

pub del_iacl_leaves : (h : Hierarchy) (who : Subject) (uid : ℕ) (kind : AclKind) (id : PlainAclId)
    → Leaves Nothing h (del_iacl_at h who uid kind id)
del_iacl_leaves h who uid kind id =
    leaves_unless Nothing h (with_initial h uid kind (λ initial. without_entry initial id)) (first_of (del_iacl_refusals h who uid kind id))
    (directory_as_before h uid (initial_changed kind (λ initial. without_entry initial id)))

acl_lies : (f : Access → Access) (page : ℕ) (node : Node) → lies_on page (acl_changed f node) ≡ lies_on page node
acl_lies f page (IsDirectory directory) = refl
acl_lies f page (IsSegment segment) = refl
acl_lies f page (IsLink target) = refl

acl_as_before : (h : Hierarchy) (uid : ℕ) (f : Access → Access) → IsAsBefore (Only uid) h (with_acl h uid f)
acl_as_before h uid f = by_root (eqb uid 0)
  where
    by_root : (root : Bool) → IsAsBefore (Only uid) h (cond root (record h { root = record h.root { acl = f h.root.acl } })
        (with_branch h uid (branch_with_acl f)))
    by_root true = record { same = λ u below apart. refl; maps = λ u below. refl; next = omega arith; pages = λ page. omega arith }
    by_root false = changed_but h uid (branch_with_acl f) (λ x. refl) (λ page x. acl_lies f page x.node)

-- a segment that has its words and its page lies where it did
segment_lies : (f : Segment → Segment) → ((segment : Segment) → (f segment).words ≡ segment.words) → ((segment : Segment) → (f segment).page ≡ segment.page)
    → (page : ℕ) (node : Node) → lies_on page (segment_changed f node) ≡ lies_on page node
segment_lies f words first page (IsDirectory directory) = refl
segment_lies f words first page (IsSegment segment) =
    ap (λ n. is_in_run (pages_for n) (f segment).page page) (words segment) ∙ ap (λ n. is_in_run (pages_for segment.words) n page) (first segment)
segment_lies f words first page (IsLink target) = refl

-- the requests that change one segment alone
pub set_acl_leaves : (h : Hierarchy) (who : Subject) (uid : ℕ) (id : PlainAclId) (modes : Modes) → Leaves (Only uid) h (set_acl_at h who uid id modes)
set_acl_leaves h who uid id modes =
    leaves_unless (Only uid) h (with_acl h uid (λ acl. with_entry acl id modes)) (first_of (set_acl_refusals h who uid id modes))
    (acl_as_before h uid (λ acl. with_entry acl id modes))

pub del_acl_leaves : (h : Hierarchy) (who : Subject) (uid : ℕ) (id : PlainAclId) → Leaves (Only uid) h (del_acl_at h who uid id)
del_acl_leaves h who uid id =
    leaves_unless (Only uid) h (with_acl h uid (λ acl. without_entry acl id)) (first_of (del_acl_refusals h who uid id))
    (acl_as_before h uid (λ acl. without_entry acl id))

pub set_brackets_leaves : (h : Hierarchy) (who : Subject) (uid : ℕ) (rings : List ℕ) → Leaves (Only uid) h (set_brackets_at h who uid rings)
set_brackets_leaves h who uid rings = by_rules (first_of (set_brackets_refusals h who uid rings))
  where
    by_rules : (why : Option Refusal) → Leaves (Only uid) h (onward (unless why uid) (λ uid.
        onward (required BadBrackets (settable who.ring rings)) (λ brackets. Ok (with_brackets h uid brackets))))
    by_rules (Some why) = λ k e. cc
    by_rules None =
        leaves_onward (Only uid) h (required BadBrackets (settable who.ring rings)) (λ brackets. Ok (with_brackets h uid brackets))
        (λ brackets. leaves_ok (Only uid) h (with_brackets h uid brackets)
        (changed_but h uid (branch_with_segment (bracketed brackets)) (λ x. refl)
        (λ page x. segment_lies (bracketed brackets) (λ segment. refl) (λ segment. refl) page x.node)))

pub set_class_leaves : (h : Hierarchy) (who : Subject) (uid : ℕ) (class : PlainClass) → Leaves (Only uid) h (set_class_at h who uid class)
set_class_leaves h who uid class =
    leaves_unless (Only uid) h (with_class h uid class) (first_of (set_class_refusals h who uid class))
    (changed_but h uid (branch_with_segment (classed class)) (λ x. refl)
    (λ page x. segment_lies (classed class) (λ segment. refl) (λ segment. refl) page x.node))

-- one that is deleted
found_without : (at : ℕ) (branches : List Branch) (uid : ℕ) → uid ≢ at → branch_of (without at branches) uid ≡ branch_of branches uid
found_without at [] uid apart = refl
found_without at (x ∷ xs) uid apart = by_test (eqb x.uid at) refl (found_without at xs uid apart)
  where
    by_test : (b : Bool) → eqb x.uid at ≡ b → branch_of (without at xs) uid ≡ branch_of xs uid
        → branch_of (cond (not b) (x ∷ without at xs) (without at xs)) uid ≡ branch_of (x ∷ xs) uid
    by_test true t later =
        let here : x.uid ≡ at = eqb-true x.uid at t in
        rw (ne_eqb x.uid uid (λ same. apart (sym same ∙ here))) later
    by_test false t later = ap (cond (eqb x.uid uid) (Some x)) later

pub delete_leaves : (h : Hierarchy) (who : Subject) (uid : ℕ) → Leaves (Only uid) h (delete_at h who uid)
delete_leaves h who uid =
    leaves_unless (Only uid) h (deleted h uid) (first_of (delete_refusals h who uid)) (record {
      same = λ u below apart. ap (option_and_then (λ (branch : Branch). as_segment branch.node)) (found_without uid h.branches u apart);
      maps = λ u below. refl;
      next = omega arith;
      pages = λ page. deleted_count h uid page;
    })
