-- Requests on the hierarchy leave each segment on pages that there are, with brackets in order and no more gates and links
-- than a descriptor can have.
use Rattle.std.proofs.Common.{◌≡◌, ℕ, zero, suc, ◌+◌, ◌-◌, ◌≤◌, nat_le, nat_lt, nat_eq, eqb, Bool, true, false, cond, not, ◌&&◌, ◌||◌, List, [], ◌∷◌, ◌++◌, length, Option, Some, None, is_none, Result, Ok, Err, refl, subst, arith}
use Rattle.std.proofs.lemmas.Bool.{leb-true, ltb-false}
use Rattle.std.specs.List.{list_all}
use Rattle.std.specs.Option.{option_and_then}
use Rattle.mx_acl.specs.Access.{Access}
use Rattle.mx_hier.proofs.DescriptorLaws.{gone_admissible, segment_admissible}
use Rattle.mx_hier.specs.Branches.{Hierarchy, as_segment, branch_of, directory_at, object_at, segment_at, segment_in}
use Rattle.mx_hier.specs.Brackets.{settable}
use Rattle.mx_hier.specs.Callers.{Caller, Subject, on}
use Rattle.mx_hier.specs.Changing.{acl_changed, branch_with_acl, branch_with_directory, branch_with_segment, changed, directory_changed, segment_changed, with_acl, with_branch, with_directory, with_segment}
use Rattle.mx_hier.specs.Connected.{desc_for, desc_of}
use Rattle.mx_hier.specs.CreateDirectory.{create_dir, create_dir_at, create_dir_refusals, new_directory}
use Rattle.mx_hier.specs.CreateLink.{create_link, create_link_at}
use Rattle.mx_hier.specs.Delete.{delete_at, delete_refusals, deleted, pages_left, without}
use Rattle.mx_hier.specs.Linkage.{links_of}
use Rattle.mx_hier.specs.MakeSegment.{Wanted, is_bad_length, make_segment, make_segment_at, make_segment_refusals, new_segment, reaches_beyond, segment_added}
use Rattle.mx_hier.specs.Making.{added, made, making_refusals, place}
use Rattle.mx_hier.specs.Objects.{Objects, gate_of, object_of, with_object}
use Rattle.mx_hier.specs.Opening as hierarchy
use Rattle.mx_hier.specs.Rename.{rename_at}
use Rattle.mx_hier.specs.Rules.{first_of, onward, required, unless}
use Rattle.mx_hier.specs.SetBrackets.{bracketed, set_brackets_at, set_brackets_refusals, with_brackets}
use Rattle.mx_hier.specs.Sound.{IsStored}
use Rattle.mx_hier.specs.Walks.{resolved}
use Rattle.mx_hier.specs.declared.branches.Branch.{Branch}
use Rattle.mx_hier.specs.declared.branches.Directory.{Directory}
use Rattle.mx_hier.specs.declared.branches.Node.{Node}
use Rattle.mx_hier.specs.declared.branches.Node.TheVariants.{Directory as IsDirectory, Segment as IsSegment, Link as IsLink}
use Rattle.mx_hier.specs.declared.branches.Segment.{Segment}
use Rattle.mx_hier.specs.declared.making.Place.{Place}
use Rattle.mx_hier.specs.declared.refusals.Refusal.{Refusal}
use Rattle.mx_hier.specs.declared.refusals.Refusal.TheVariants.{NotADir, BadBrackets, BadLength, NoPages}
use Rattle.mx_object.specs.Objects.{PlainObjectMap}
use Rattle.mx_pages.proofs.PageLaws.{length_by_page}
use Rattle.mx_pages.proofs.RunLaws.{given_free, there}
use Rattle.mx_pages.specs.Runs.{PageMap, after_run, is_free, is_in_run, pages_for, run_given, with_run}
use Rattle.mx_request.proofs.StepLaws.{both}
use Rattle.mx_request.specs.RequestTexts.{are_brackets, is_ring}
use Rattle.mx_name.specs.Principals.{PlainPrincipal}
use Rattle.mx_aim.specs.Classes.{PlainClass}
use Rattle.mx_sdw.specs.Admissible.{IsAdmissible}
use Rattle.mx_sdw.specs.Rings.{Bracketing}

pub record GoodBrackets (b : Bracketing) : Type 0 where
  pub first : b.r1 ≤ b.r2
  pub second : b.r2 ≤ b.r3
  pub ring : b.r3 ≤ 7

pub record GoodSegment (s : Segment) : Type 0 where
  pub stored : IsStored s
  pub rings : GoodBrackets s.brackets

abbrev pub GoodNode : Node → Type 0
GoodNode (IsSegment segment) = GoodSegment segment
GoodNode (IsDirectory directory) = Unit {0}
GoodNode (IsLink target) = Unit {0}

abbrev pub GoodBranches : List Branch → Type 0
GoodBranches [] = Unit {0}
GoodBranches (branch ∷ branches) = GoodNode branch.node × GoodBranches branches

pub record GoodMap (object : Option PlainObjectMap) : Type 0 where
  pub gate : gate_of object ≤ 1024
  pub links : links_of object ≤ 64

abbrev pub GoodObjects : Objects → Type 0
GoodObjects [] = Unit {0}
GoodObjects (pair ∷ pairs) = GoodMap (Some pair.1) × GoodObjects pairs

pub record GoodHierarchy (h : Hierarchy) : Type 0 where
  pub branches : GoodBranches h.branches
  pub objects : GoodObjects h.objects
  pub pages : length h.pages.free ≡ 1024

abbrev pub Gives : Result Hierarchy Refusal → Type 0
Gives (Ok h) = GoodHierarchy h
Gives (Err why) = Unit {0}

pub gives_onward : {A : Type 0} (given : Result A Refusal) (rest : A → Result Hierarchy Refusal) → ((value : A) → Gives (rest value))
    → Gives (onward given rest)
gives_onward (Ok value) rest good = good value
gives_onward (Err why) rest good = tt

gives_required : {A : Type 0} (why : Refusal) (given : Option A) (rest : A → Result Hierarchy Refusal)
    → ((value : A) → given ≡ Some value → Gives (rest value)) → Gives (onward (required why given) rest)
gives_required why (Some value) rest good = good value refl
gives_required why None rest good = tt

gives_unless : (why : Option Refusal) (h : Hierarchy) → GoodHierarchy h → Gives (unless why h)
gives_unless None h good = good
gives_unless (Some why) h good = tt

-- what is found is good
node_of : (branches : List Branch) (uid : ℕ) (segment : Segment) → GoodBranches branches → segment_in branches uid ≡ Some segment → GoodSegment segment
node_of [] uid segment good is = absurd cc
node_of (branch ∷ branches) uid segment good is = by_test (eqb branch.uid uid) (node_of branches uid segment good.1) is
  where
    by_node : (node : Node) → GoodNode node → as_segment node ≡ Some segment → GoodSegment segment
    by_node (IsSegment s) g e = let same : s ≡ segment = cc in subst GoodSegment same g
    by_node (IsDirectory d) g e = absurd cc
    by_node (IsLink t) g e = absurd cc

    by_test : (b : Bool) → (segment_in branches uid ≡ Some segment → GoodSegment segment)
        → option_and_then (λ (x : Branch). as_segment x.node) (cond b (Some branch) (branch_of branches uid)) ≡ Some segment
        → GoodSegment segment
    by_test true rest e = by_node branch.node good.0 e
    by_test false rest e = rest e

pub segment_good : (h : Hierarchy) (uid : ℕ) (segment : Segment) → GoodHierarchy h → segment_at h uid ≡ Some segment → GoodSegment segment
segment_good h uid segment good is = node_of h.branches uid segment good.branches is

map_of : (objects : Objects) (uid : ℕ) → GoodObjects objects → GoodMap (object_of objects uid)
map_of [] uid good = record { gate = omega arith; links = omega arith }
map_of (pair ∷ pairs) uid good = by_test (eqb uid pair.0) (map_of pairs uid good.1)
  where
    by_test : (b : Bool) → GoodMap (object_of pairs uid) → GoodMap (cond b (Some pair.1) (object_of pairs uid))
    by_test true rest = good.0
    by_test false rest = rest

pub object_good : (h : Hierarchy) (uid : ℕ) → GoodHierarchy h → GoodMap (object_at h uid)
object_good h uid good = map_of h.objects uid good.objects

-- so its descriptor is admissible
pub branch_admissible : (h : Hierarchy) (uid : ℕ) (who : PlainPrincipal) (authorization : PlainClass) → GoodHierarchy h
    → IsAdmissible (desc_of h uid who authorization)
branch_admissible h uid who authorization good = by_segment (segment_at h uid) refl
  where
    by_segment : (o : Option Segment) → segment_at h uid ≡ o → IsAdmissible (desc_for who authorization (gate_of (object_at h uid)) o)
    by_segment None e = gone_admissible
    by_segment (Some segment) e =
        let g = segment_good h uid segment good e in
        segment_admissible _ segment _ _ _ (gate_of (object_at h uid)) (object_good h uid good).gate g.rings.first g.rings.second g.rings.ring g.stored

-- branches changed, added and taken away
good_changed : (at : ℕ) (f : Branch → Branch) → ((x : Branch) → GoodNode x.node → GoodNode (f x).node) → (branches : List Branch)
    → GoodBranches branches → GoodBranches (changed at f branches)
good_changed at f keeps [] good = tt
good_changed at f keeps (x ∷ xs) good = (by_test (eqb x.uid at), good_changed at f keeps xs good.1)
  where
    by_test : (b : Bool) → GoodNode (cond b (f x) x).node
    by_test true = keeps x good.0
    by_test false = good.0

good_with : (h : Hierarchy) (at : ℕ) (f : Branch → Branch) → ((x : Branch) → GoodNode x.node → GoodNode (f x).node)
    → GoodHierarchy h → GoodHierarchy (with_branch h at f)
good_with h at f keeps good =
    record { branches = good_changed at f keeps h.branches good.branches; objects = good.objects; pages = good.pages }

good_append : (branches : List Branch) (x : Branch) → GoodBranches branches → GoodNode x.node → GoodBranches (branches ++ x ∷ [])
good_append [] x good one = (one, tt)
good_append (y ∷ ys) x good one = (good.0, good_append ys x good.1 one)

good_without : (at : ℕ) (branches : List Branch) → GoodBranches branches → GoodBranches (without at branches)
good_without at [] good = tt
good_without at (x ∷ xs) good = by_test (not (eqb x.uid at)) (good_without at xs good.1)
  where
    by_test : (b : Bool) → GoodBranches (without at xs) → GoodBranches (cond b (x ∷ without at xs) (without at xs))
    by_test true rest = (good.0, rest)
    by_test false rest = rest

good_objects : (objects : Objects) (uid : ℕ) (object : Option PlainObjectMap) → GoodObjects objects → GoodMap object
    → GoodObjects (with_object objects uid object)
good_objects objects uid None good one = good
good_objects objects uid (Some object) good one = by_list objects good
  where
    by_list : (xs : Objects) → GoodObjects xs → GoodObjects (xs ++ (uid, object) ∷ [])
    by_list [] g = (one, tt)
    by_list (x ∷ xs) g = (g.0, by_list xs g.1)

pub run_length : (value : Bool) (pages : PageMap) (first n : ℕ) → length (with_run value pages first n).free ≡ 1024
run_length value pages first n = length_by_page (λ page. cond (is_in_run n first page) value (is_free pages page))

pub after_length : (pages : PageMap) (n : ℕ) (given : Option ℕ) → length pages.free ≡ 1024 → length (after_run pages n given).free ≡ 1024
after_length pages n (Some first) long = run_length false pages first n
after_length pages n None long = long

-- a run that is given lies on pages that there are
pub run_within : (pages : PageMap) (n first : ℕ) → length pages.free ≡ 1024 → 1 ≤ n → run_given pages n ≡ Some first → first + n ≤ 1024
run_within pages n first long some given =
    let last = there pages.free (first + (n - 1)) long (given_free pages n first given (n - 1) (omega (arith, some))) in
    omega (arith, last, some)

-- brackets that may be set are in order, of rings that there are
rings_good : (ring : ℕ) (rings : List ℕ) (b : Bracketing) → are_brackets rings ≡ true → settable ring rings ≡ Some b → GoodBrackets b
rings_good ring [] b fits set = absurd cc
rings_good ring (r1 ∷ []) b fits set = absurd cc
rings_good ring (r1 ∷ r2 ∷ []) b fits set = absurd cc
rings_good ring (r1 ∷ r2 ∷ r3 ∷ r4 ∷ rest) b fits set = absurd cc
rings_good ring (r1 ∷ r2 ∷ r3 ∷ []) b fits set = by_order (nat_le r1 r2) (nat_le r2 r3) refl refl set
  where
    top : r3 ≤ 7
    top =
        let all = (both (nat_eq (length (r1 ∷ r2 ∷ r3 ∷ [])) 3) (list_all is_ring (r1 ∷ r2 ∷ r3 ∷ [])) fits).1 in
        let one = (both (is_ring r1) (is_ring r2 && (is_ring r3 && true)) all).1 in
        let two = (both (is_ring r2) (is_ring r3 && true) one).1 in
        leb-true r3 7 (both (is_ring r3) true two).0

    by_floor : (c : Bool) → r1 ≤ r2 → r2 ≤ r3 → cond c (Some (record { r1 = r1; r2 = r2; r3 = r3 })) None ≡ Some b → GoodBrackets b
    by_floor true low high e =
        let three : Bracketing = record { r1 = r1; r2 = r2; r3 = r3 } in
        let same : three ≡ b = cc in
        subst GoodBrackets same (record { first = low; second = high; ring = top })
    by_floor false low high e = absurd cc

    by_order : (c d : Bool) → nat_le r1 r2 ≡ c → nat_le r2 r3 ≡ d
        → option_and_then (λ (brackets : Bracketing). cond (nat_le ring brackets.r1) (Some brackets) None)
        (cond (c && d) (Some (record { r1 = r1; r2 = r2; r3 = r3 })) None) ≡ Some b → GoodBrackets b
    by_order true true low high e = by_floor (nat_le ring r1) (leb-true r1 r2 low) (leb-true r2 r3 high) e
    by_order true false low high e = absurd cc
    by_order false true low high e = absurd cc
    by_order false false low high e = absurd cc

-- where nothing refuses, no condition holds
none_of : (front rest : List (Bool × Refusal)) (test : Bool) (why : Refusal) → first_of (front ++ (test, why) ∷ rest) ≡ None → test ≡ false
none_of [] rest true why e = absurd cc
none_of [] rest false why e = refl
none_of (rule ∷ front) rest test why e = by_test rule.0 (none_of front rest test why) e
  where
    by_test : (b : Bool) → (first_of (front ++ (test, why) ∷ rest) ≡ None → test ≡ false)
        → cond b (Some rule.1) (first_of (front ++ (test, why) ∷ rest)) ≡ None → test ≡ false
    by_test true later e = absurd cc
    by_test false later e = later e

neither : (a b : Bool) → (a || b) ≡ false → (a ≡ false) × (b ≡ false)
neither true b e = absurd cc
neither false b e = (refl, e)

module _ (h : Hierarchy) (good : GoodHierarchy h) where
  good_added : (at : Place) (node : Node) → GoodNode node → GoodHierarchy (added h at node)
  good_added at node one = record {
    branches = good_append h.branches (record { uid = h.next; parent = at.dir; name = at.name; node = node }) good.branches one;
    objects = good.objects;
    pages = good.pages;
  }

  made_good : (at : Place) (refusals : List (Bool × Refusal)) (make : Directory → Result Hierarchy Refusal)
      → (first_of refusals ≡ None → (parent : Directory) → Gives (make parent)) → Gives (made h at refusals make)
  made_good at refusals make gives = by_rules (first_of refusals) refl
    where
      by_rules : (why : Option Refusal) → first_of refusals ≡ why
          → Gives (onward (unless why at) (λ at. onward (required NotADir (directory_at h at.dir)) make))
      by_rules (Some why) e = tt
      by_rules None e = gives_onward (required NotADir (directory_at h at.dir)) make (gives e)

  pub create_dir_good : (who : Caller) (path : List ℕ) (d1 d2 : ℕ) → Gives (create_dir h who path d1 d2)
  create_dir_good who path d1 d2 =
      gives_onward (resolved who path) (λ path. onward (place h who.subject path) (λ at. create_dir_at h who.subject at d1 d2))
      (λ path. gives_onward (place h who.subject path) (λ at. create_dir_at h who.subject at d1 d2)
      (λ at. made_good at (create_dir_refusals h who.subject at d1 d2)
      (λ parent. Ok (added h at (IsDirectory (new_directory parent who.subject d1 d2))))
      (λ none parent. good_added at (IsDirectory (new_directory parent who.subject d1 d2)) tt)))

  pub create_link_good : (who : Caller) (path target : List ℕ) → Gives (create_link h who path target)
  create_link_good who path target =
      gives_onward (resolved who path)
      (λ path. onward (resolved who target) (λ target. onward (place h who.subject path) (λ at. create_link_at h who.subject at target)))
      (λ path. gives_onward (resolved who target) (λ target. onward (place h who.subject path) (λ at. create_link_at h who.subject at target))
      (λ target. gives_onward (place h who.subject path) (λ at. create_link_at h who.subject at target)
      (λ at. made_good at (making_refusals h who.subject at) (λ parent. Ok (added h at (IsLink target)))
      (λ none parent. good_added at (IsLink target) tt))))

  -- a segment that is made
  made_map : (words : ℕ) (object : Option PlainObjectMap) → words ≤ 1024 → on (reaches_beyond words) object ≡ false
      → links_of object ≤ 64 → GoodMap object
  made_map words None most within few = record { gate = omega arith; links = omega arith }
  made_map words (Some object) most within few =
      let gates = ltb-false words object.gate (neither (nat_lt words object.gate) _ within).0 in
      record { gate = omega (arith, gates, most); links = few }

  made_segment : (who : Subject) (at : Place) (wanted : Wanted) (parent : Directory) (brackets : Bracketing) (page : ℕ)
      → is_bad_length wanted.words wanted.object ≡ false → links_of wanted.object ≤ 64 → GoodBrackets brackets
      → run_given h.pages (pages_for wanted.words) ≡ Some page
      → GoodHierarchy (segment_added h at (new_segment parent who wanted.words brackets wanted.modes page) wanted.object)
  made_segment who at wanted parent brackets page length_good few rings given =
      let one = neither (nat_eq wanted.words 0 || nat_lt 1024 wanted.words) (on (reaches_beyond wanted.words) wanted.object) length_good in
      let two = neither (nat_eq wanted.words 0) (nat_lt 1024 wanted.words) one.0 in
      let most : wanted.words ≤ 1024 = ltb-false 1024 wanted.words two.1 in
      let some : 1 ≤ wanted.words = above wanted.words two.0 in
      let pages : 1 ≤ pages_for wanted.words = grind (arith, some) in
      record {
        branches = good_append h.branches _ good.branches (record {
          stored = record { some = some; most = most; pages = run_within h.pages (pages_for wanted.words) page good.pages pages given };
          rings = rings;
        });
        objects = good_objects h.objects h.next wanted.object good.objects (made_map wanted.words wanted.object most one.1 few);
        pages = run_length false h.pages page (pages_for wanted.words);
      }
    where
      above : (n : ℕ) → nat_eq n 0 ≡ false → 1 ≤ n
      above zero e = absurd cc
      above (suc n) e = omega arith

  pub make_segment_good : (who : Caller) (path : List ℕ) (wanted : Wanted) → are_brackets wanted.rings ≡ true → links_of wanted.object ≤ 64
      → Gives (make_segment h who path wanted)
  make_segment_good who path wanted fits few =
      gives_onward (resolved who path) (λ path. onward (place h who.subject path) (λ at. make_segment_at h who.subject at wanted))
      (λ path. gives_onward (place h who.subject path) (λ at. make_segment_at h who.subject at wanted)
      (λ at. made_good at (make_segment_refusals h who.subject at wanted)
      (λ parent. onward (required BadBrackets (settable who.subject.ring wanted.rings)) (λ brackets.
      onward (required NoPages (run_given h.pages (pages_for wanted.words))) (λ page.
      Ok (segment_added h at (new_segment parent who.subject wanted.words brackets wanted.modes page) wanted.object))))
      (λ none parent. gives_required BadBrackets (settable who.subject.ring wanted.rings)
      (λ brackets. onward (required NoPages (run_given h.pages (pages_for wanted.words))) (λ page.
      Ok (segment_added h at (new_segment parent who.subject wanted.words brackets wanted.modes page) wanted.object)))
      (λ brackets set. gives_required NoPages (run_given h.pages (pages_for wanted.words))
      (λ page. Ok (segment_added h at (new_segment parent who.subject wanted.words brackets wanted.modes page) wanted.object))
      (λ page given. made_segment who.subject at wanted parent brackets page
      (none_of (making_refusals h who.subject at)
      ((is_none (settable who.subject.ring wanted.rings), BadBrackets)
      ∷ (is_none (run_given h.pages (pages_for wanted.words)), NoPages) ∷ [])
      (is_bad_length wanted.words wanted.object) BadLength none)
      few (rings_good who.subject.ring wanted.rings brackets fits set) given)))))

  pub rename_good : (who : Subject) (uid : ℕ) (name : List ℕ) → Gives (rename_at h who uid name)
  rename_good who uid name = gives_unless _ _ (good_with h uid (λ branch. record branch { name = name }) (λ x one. one) good)

  -- directories, access lists and segments that are changed
  good_directory : (uid : ℕ) (f : Directory → Directory) → GoodHierarchy (with_directory h uid f)
  good_directory uid f = by_root (eqb uid 0)
    where
      keeps : (node : Node) → GoodNode node → GoodNode (directory_changed f node)
      keeps (IsDirectory directory) one = tt
      keeps (IsSegment segment) one = one
      keeps (IsLink target) one = tt

      by_root : (b : Bool) → GoodHierarchy (cond b (record h { root = f h.root }) (with_branch h uid (branch_with_directory f)))
      by_root true = record { branches = good.branches; objects = good.objects; pages = good.pages }
      by_root false = good_with h uid (branch_with_directory f) (λ x one. keeps x.node one) good

  good_acl : (uid : ℕ) (f : Access → Access) → GoodHierarchy (with_acl h uid f)
  good_acl uid f = by_root (eqb uid 0)
    where
      keeps : (node : Node) → GoodNode node → GoodNode (acl_changed f node)
      keeps (IsDirectory directory) one = tt
      keeps (IsSegment segment) one = record { stored = record { some = one.stored.some; most = one.stored.most; pages = one.stored.pages }; rings = one.rings }
      keeps (IsLink target) one = tt

      by_root : (b : Bool) → GoodHierarchy (cond b (record h { root = record h.root { acl = f h.root.acl } }) (with_branch h uid (branch_with_acl f)))
      by_root true = record { branches = good.branches; objects = good.objects; pages = good.pages }
      by_root false = good_with h uid (branch_with_acl f) (λ x one. keeps x.node one) good

  good_segment : (uid : ℕ) (f : Segment → Segment) → ((s : Segment) → GoodSegment s → GoodSegment (f s)) → GoodHierarchy (with_segment h uid f)
  good_segment uid f same = good_with h uid (branch_with_segment f) (λ x one. keeps x.node one) good
    where
      keeps : (node : Node) → GoodNode node → GoodNode (segment_changed f node)
      keeps (IsDirectory directory) one = tt
      keeps (IsSegment segment) one = same segment one
      keeps (IsLink target) one = tt

  pub directory_good : (why : Option Refusal) (uid : ℕ) (f : Directory → Directory) → Gives (unless why (with_directory h uid f))
  directory_good why uid f = gives_unless why _ (good_directory uid f)

  pub acl_good : (why : Option Refusal) (uid : ℕ) (f : Access → Access) → Gives (unless why (with_acl h uid f))
  acl_good why uid f = gives_unless why _ (good_acl uid f)

  pub class_good : (why : Option Refusal) (uid : ℕ) (class : PlainClass) → Gives (unless why (with_segment h uid (λ s. record s { class = class })))
  class_good why uid class = gives_unless why _ (good_segment uid (λ s. record s { class = class })
      (λ s one. record { stored = record { some = one.stored.some; most = one.stored.most; pages = one.stored.pages }; rings = one.rings }))

  pub brackets_good : (who : Subject) (uid : ℕ) (rings : List ℕ) → are_brackets rings ≡ true → Gives (set_brackets_at h who uid rings)
  brackets_good who uid rings fits =
      gives_onward (unless (first_of (set_brackets_refusals h who uid rings)) uid)
      (λ uid. onward (required BadBrackets (settable who.ring rings)) (λ brackets. Ok (with_brackets h uid brackets)))
      (λ uid. gives_required BadBrackets (settable who.ring rings) (λ brackets. Ok (with_brackets h uid brackets))
      (λ brackets set. good_segment uid (bracketed brackets) (λ s one. record {
        stored = record { some = one.stored.some; most = one.stored.most; pages = one.stored.pages };
        rings = rings_good who.ring rings brackets fits set;
      })))

  left_length : (o : Option Segment) → length (pages_left h.pages o).free ≡ 1024
  left_length None = good.pages
  left_length (Some segment) = run_length true h.pages segment.page (pages_for segment.words)

  pub delete_good : (who : Subject) (uid : ℕ) → Gives (delete_at h who uid)
  delete_good who uid = gives_unless (first_of (delete_refusals h who uid)) (deleted h uid) (record {
    branches = good_without uid h.branches good.branches;
    objects = good.objects;
    pages = left_length (segment_at h uid);
  })

pub opening_good : (first : ℕ) → GoodHierarchy (hierarchy.opening first)
opening_good first = record { branches = tt; objects = tt; pages = length_by_page (nat_le first) }
