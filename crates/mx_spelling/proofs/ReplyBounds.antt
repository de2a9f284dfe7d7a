-- What `status` and `list` reply can be spelled, where the hierarchy can be; and so can what each object map says of links.
use Rattle.std.proofs.Common.{◌≡◌, ℕ, ◌==◌, ◌≤◌, nat_le, nat_lt, Bool, true, false, ◌||◌, if◌then◌else◌, List, [], ◌∷◌, length, map, find, Option, Some, None, IfSome, Result, Ok, Err, refl, subst, arith}
use Rattle.std.specs.List.{All, list_all}
use Rattle.std.specs.Cmp.Lexicographic.{slice_cmp}
use Rattle.std.specs.Map.{lookup}
use Rattle.std.specs.Option.{option_and_then, option_map}
use Rattle.std.specs.Ordering.{is_lt, nat_cmp}
use Rattle.std.proofs.lemmas.Bool.Decides.{nat_tests}
use Rattle.std.proofs.lemmas.List.Elements.{All-head, All-tail, All-filter}
use Rattle.mx_acl.specs.Access.{modes_for}
use Rattle.mx_acl.specs.declared.modes.Modes.{Modes}
use Rattle.mx_aim.specs.Classes.{PlainClass}
use Rattle.mx_hier.specs.Branches.{Hierarchy, as_segment, branch_of, entries_of, object_at, segment_at}
use Rattle.mx_hier.specs.Callers.{Caller, Subject}
use Rattle.mx_hier.specs.List.{in_byte_order, list, list_refusals, names_in, placed}
use Rattle.mx_hier.specs.Objects.{Objects, defined_in, object_of}
use Rattle.mx_hier.specs.Rules.{first_of, onward, required, unless}
use Rattle.mx_hier.specs.Status.{directory_status, node_at, segment_status, status, status_of, status_refusals}
use Rattle.mx_hier.specs.Walks.{entry}
use Rattle.mx_hier.specs.declared.asking.Status as said
use Rattle.mx_hier.specs.declared.asking.Status.TheVariants as told
use Rattle.mx_hier.specs.declared.branches.Branch.{Branch}
use Rattle.mx_hier.specs.declared.branches.Directory.{Directory}
use Rattle.mx_hier.specs.declared.branches.Node.{Node}
use Rattle.mx_hier.specs.declared.branches.Node.TheVariants.{Directory as IsDirectory, Segment as IsSegment, Link as IsLink}
use Rattle.mx_hier.specs.declared.branches.Segment.{Segment}
use Rattle.mx_hier.specs.declared.refusals.Refusal.{Refusal}
use Rattle.mx_hier.specs.declared.refusals.Refusal.TheVariants.{NoInfo}
use Rattle.mx_name.specs.Names.{same_name}
use Rattle.mx_object.specs.Objects.{PlainObjectMap, has_twice, map_fault, symbols_of}
use Rattle.mx_object.specs.declared.objects.ObjectError.TheVariants.{Twice, TooMany}
use Rattle.mx_request.proofs.FieldLaws.{at_most, at_most_test}
use Rattle.mx_request.proofs.StepLaws.{both, both_hold, faultless}
use Rattle.mx_request.specs.Fields.{is_name}
use Rattle.mx_request.specs.ObjectTexts.{fits_object, is_definition, is_link}
use Rattle.mx_request.specs.RequestTexts.{is_class}
use Rattle.mx_request.specs.Versions.{has_classes}
use Rattle.mx_request.specs.declared.replies.Reply.{Reply}
use Rattle.mx_sdw.specs.Rings.{Bracketing}
use Rattle.mx_state.specs.Shown.{shown, without_class}
use Rattle.mx_spelling.specs.Spelling.{are_ordered, bounds_reply, bounds_status, is_amount, is_none_or}
use Rattle.mx_spelling.proofs.StateBounds.{AreSpelledBrackets, IsSpelledBranch, IsSpelledDirectory, IsSpelledHierarchy, IsSpelledNode, IsSpelledObject, IsSpelledSegment}

abbrev pub IsSaid : Reply → Type 0
IsSaid reply = bounds_reply reply ≡ true

-- what is found in a list is one of it
found_is : {X : Type 0} (P : X → Type 0) (test : X → Bool) (xs : List X) (x : X) → All P xs → find test xs ≡ Some x → P x
found_is P test [] x all e = absurd cc
found_is P test (y ∷ ys) x all e = by_test (test y) e (found_is P test ys x (All-tail P y ys all))
  where
    by_test : (b : Bool) → (if b then Some y else find test ys) ≡ Some x → (find test ys ≡ Some x → P x) → P x
    by_test true e rest = let same : y ≡ x = cc in subst P same (All-head P y ys all)
    by_test false e rest = rest e

pub branch_found : (branches : List Branch) (uid : ℕ) (branch : Branch) → All IsSpelledBranch branches → branch_of branches uid ≡ Some branch
    → IsSpelledBranch branch
branch_found branches uid branch all e = found_is IsSpelledBranch (λ b. b.uid == uid) branches branch all e

pub segment_found : (h : Hierarchy) (uid : ℕ) (segment : Segment) → IsSpelledHierarchy h → segment_at h uid ≡ Some segment → IsSpelledSegment segment
segment_found h uid segment is e = by_branch (branch_of h.branches uid) refl e
  where
    by_node : (node : Node) → IsSpelledNode node → as_segment node ≡ Some segment → IsSpelledSegment segment
    by_node (IsSegment own) own_is e = let same : own ≡ segment = cc in subst IsSpelledSegment same own_is
    by_node (IsDirectory directory) own_is e = absurd cc
    by_node (IsLink target) own_is e = absurd cc

    by_branch : (o : Option Branch) → branch_of h.branches uid ≡ o → option_and_then (λ (branch : Branch). as_segment branch.node) o ≡ Some segment
        → IsSpelledSegment segment
    by_branch None f e = absurd cc
    by_branch (Some branch) f e = by_node branch.node (branch_found h.branches uid branch is.branches f).node e

-- an object map
pub object_found : (objects : Objects) (uid : ℕ) (object : PlainObjectMap) → All IsSpelledObject objects → object_of objects uid ≡ Some object
    → fits_object object ≡ true
object_found [] uid object all e = absurd cc
object_found (first ∷ objects) uid object all e =
    by_test (uid == first.0) e (object_found objects uid object (All-tail IsSpelledObject first objects all))
  where
    by_test : (b : Bool) → (if b then Some first.1 else object_of objects uid) ≡ Some object
        → (object_of objects uid ≡ Some object → fits_object object ≡ true) → fits_object object ≡ true
    by_test true e rest =
        let same : first.1 ≡ object = cc in
        subst (λ (o : PlainObjectMap). fits_object o ≡ true) same (All-head IsSpelledObject first objects all)
    by_test false e rest = rest e

pub object_spelled : (h : Hierarchy) (uid : ℕ) → IsSpelledHierarchy h → IfSome (object_at h uid) (λ o. fits_object o ≡ true)
object_spelled h uid is = by_object (object_at h uid) refl
  where
    by_object : (o : Option PlainObjectMap) → object_at h uid ≡ o → IfSome o (λ o. fits_object o ≡ true)
    by_object None e = tt
    by_object (Some object) e = object_found h.objects uid object is.objects e

pub record IsSmallObject (object : PlainObjectMap) : Type 0 where
  pub gate : object.gate ≤ 9999
  pub definitions : length object.definitions ≤ 64
  pub links : length object.links ≤ 64
  pub words : list_all is_definition object.definitions ≡ true

pub small_object : (object : PlainObjectMap) → fits_object object ≡ true → IsSmallObject object
small_object object fits =
    let f = both (nat_le object.gate 9999) _ fits in
    let g = both (list_all is_definition object.definitions) _ f.1 in
    let k = both (list_all is_link object.links) _ g.1 in
    let few = counts (has_twice (symbols_of object.definitions)) (nat_lt 64 (length object.definitions)) (nat_lt 64 (length object.links))
    refl refl (faultless (map_fault object) k.1) in
    record { gate = at_most object.gate 9999 f.0; definitions = few.0; links = few.1; words = g.0 }
  where
    within : (n : ℕ) → nat_lt 64 n ≡ false → n ≤ 64
    within n e = grind (arith, nat_tests)

    counts : (twice many_definitions many_links : Bool) → nat_lt 64 (length object.definitions) ≡ many_definitions
        → nat_lt 64 (length object.links) ≡ many_links
        → (if twice then Some Twice else (if many_definitions || many_links then Some TooMany else None)) ≡ None
        → (length object.definitions ≤ 64) × (length object.links ≤ 64)
    counts true a b e f none = absurd cc
    counts false true b e f none = absurd cc
    counts false false true e f none = absurd cc
    counts false false false e f none = (within (length object.definitions) e, within (length object.links) f)

word_defined : (definitions : List (List ℕ × ℕ)) (symbol : List ℕ) (word : ℕ) → list_all is_definition definitions ≡ true
    → lookup (same_name symbol) definitions ≡ Some word → word ≤ 16383
word_defined [] symbol word fits e = absurd cc
word_defined (d ∷ definitions) symbol word fits e =
    let f = both (is_definition d) (list_all is_definition definitions) fits in
    by_test (same_name symbol d.0) f.0 e (word_defined definitions symbol word f.1)
  where
    by_test : (b : Bool) → is_definition d ≡ true → (if b then Some d.1 else lookup (same_name symbol) definitions) ≡ Some word
        → (lookup (same_name symbol) definitions ≡ Some word → word ≤ 16383) → word ≤ 16383
    by_test true own e rest =
        let same : d.1 ≡ word = cc in
        subst (λ (n : ℕ). n ≤ 16383) same (at_most d.1 16383 (both (is_name d.0) (nat_le d.1 16383) own).1)
    by_test false own e rest = rest e

pub defined_low : (o : Option PlainObjectMap) (symbol : List ℕ) (word : ℕ) → IfSome o (λ o. fits_object o ≡ true) → defined_in o symbol ≡ Some word
    → word ≤ 16383
defined_low None symbol word fits e = absurd cc
defined_low (Some object) symbol word fits e = word_defined object.definitions symbol word (small_object object fits).words e

-- `status`
abbrev pub IsSaidStatus : said.Status → Type 0
IsSaidStatus status = bounds_status status ≡ true

order_said : (b : Bracketing) → AreSpelledBrackets b → are_ordered b ≡ true
order_said b is =
    both_hold _ _ (at_most_test b.r1 b.r2 is.write_first)
    (both_hold _ _ (at_most_test b.r2 b.r3 is.gate_last) (at_most_test b.r3 7 is.ring))

amount_test : (n : ℕ) → n ≤ 9999 → is_amount n ≡ true
amount_test n h = at_most_test n 65535 (omega (arith, h))

segment_said : (words : ℕ) (b : Bracketing) (modes : Modes) (class : Option PlainClass) → words ≤ 1024 → AreSpelledBrackets b
    → is_none_or class is_class ≡ true → IsSaidStatus (told.Segment words b modes class)
segment_said words b modes class few is fits =
    both_hold _ _ (amount_test words (omega (arith, few))) (both_hold _ _ (order_said b is) fits)

object_said : (words : ℕ) (b : Bracketing) (object : PlainObjectMap) (modes : Modes) (class : Option PlainClass) → words ≤ 1024
    → AreSpelledBrackets b → IsSmallObject object → is_none_or class is_class ≡ true
    → IsSaidStatus (told.Object words b object.gate (length object.definitions) (length object.links) modes class)
object_said words b object modes class few is small fits =
    let definitions = small.definitions in
    let links = small.links in
    both_hold _ _ (amount_test words (omega (arith, few))) (both_hold _ _ (amount_test object.gate small.gate)
    (both_hold _ _ (amount_test (length object.definitions) (omega (arith, definitions)))
    (both_hold _ _ (amount_test (length object.links) (omega (arith, links))) (both_hold _ _ (order_said b is) fits))))

directory_said : (directory : Directory) (modes : Modes) → IsSpelledDirectory directory
    → IsSaidStatus (told.Directory directory.d1 directory.d2 modes)
directory_said directory modes is = both_hold _ _ (at_most_test directory.d1 7 is.d1) (at_most_test directory.d2 7 is.d2)

-- with the class of a segment or without
node_said : (version : ℕ) (who : Subject) (object : Option PlainObjectMap) (node : Node) → IsSpelledNode node → IfSome object (λ o. fits_object o ≡ true)
    → IsSaidStatus (shown version (status_of who object node))
node_said version who object (IsDirectory directory) is fits = by_classes (has_classes version)
  where
    by_classes : (classes : Bool)
        → IsSaidStatus (if classes then directory_status who directory else without_class (directory_status who directory))
    by_classes true = directory_said directory (modes_for directory.acl who.principal) is
    by_classes false = directory_said directory (modes_for directory.acl who.principal) is
node_said version who object (IsLink target) is fits = by_classes (has_classes version)
  where
    by_classes : (classes : Bool) → IsSaidStatus (if classes then told.Link target else without_class (told.Link target))
    by_classes true = is
    by_classes false = is
node_said version who None (IsSegment segment) is fits = by_classes (has_classes version)
  where
    by_classes : (classes : Bool) → IsSaidStatus (if classes then segment_status who segment None else without_class (segment_status who segment None))
    by_classes true = segment_said segment.words segment.brackets (modes_for segment.acl who.principal) (Some segment.class) is.words is.brackets is.class
    by_classes false = segment_said segment.words segment.brackets (modes_for segment.acl who.principal) None is.words is.brackets refl
node_said version who (Some object) (IsSegment segment) is fits = by_classes (has_classes version)
  where
    by_classes : (classes : Bool)
        → IsSaidStatus (if classes then segment_status who segment (Some object) else without_class (segment_status who segment (Some object)))
    by_classes true =
        object_said segment.words segment.brackets object (modes_for segment.acl who.principal) (Some segment.class) is.words is.brackets
        (small_object object fits) is.class
    by_classes false =
        object_said segment.words segment.brackets object (modes_for segment.acl who.principal) None is.words is.brackets
        (small_object object fits) refl

node_found : (h : Hierarchy) (uid : ℕ) (node : Node) → IsSpelledHierarchy h → node_at h uid ≡ Some node → IsSpelledNode node
node_found h uid node is e = by_root (uid == 0) e
  where
    by_branch : (o : Option Branch) → branch_of h.branches uid ≡ o → option_map (λ (branch : Branch). branch.node) o ≡ Some node → IsSpelledNode node
    by_branch None f e = absurd cc
    by_branch (Some branch) f e =
        let same : branch.node ≡ node = cc in subst IsSpelledNode same (branch_found h.branches uid branch is.branches f).node

    by_root : (root : Bool) → (if root then Some (IsDirectory h.root) else option_map (λ (branch : Branch). branch.node) (branch_of h.branches uid)) ≡ Some node
        → IsSpelledNode node
    by_root true e = let same : IsDirectory h.root ≡ node = cc in subst IsSpelledNode same is.root
    by_root false e = by_branch (branch_of h.branches uid) refl e

-- what is asked for is told, or refused
abbrev pub AllTold : {A : Type 0} → (A → Type 0) → Result A Refusal → Type 0
AllTold P (Ok value) = P value
AllTold P (Err why) = Unit {0}

pub onward_told : {A B : Type 0} (P : B → Type 0) (r : Result A Refusal) (rest : A → Result B Refusal) → ((a : A) → r ≡ Ok a → AllTold P (rest a))
    → AllTold P (onward r rest)
onward_told P (Ok a) rest each = each a refl
onward_told P (Err why) rest each = tt

required_told : {A B : Type 0} (P : B → Type 0) (why : Refusal) (o : Option A) (rest : A → Result B Refusal)
    → ((a : A) → o ≡ Some a → AllTold P (rest a)) → AllTold P (onward (required why o) rest)
required_told P why (Some a) rest each = each a refl
required_told P why None rest each = tt

pub unless_told : {A : Type 0} (P : A → Type 0) (o : Option Refusal) (value : A) → P value → AllTold P (unless o value)
unless_told P None value is = is
unless_told P (Some why) value is = tt

pub status_said : (version : ℕ) (h : Hierarchy) (who : Caller) (text : List ℕ) → IsSpelledHierarchy h
    → AllTold (λ status. IsSaidStatus (shown version status)) (status h who text)
status_said version h who text is =
    onward_told (λ status. IsSaidStatus (shown version status)) (entry h who text false) _
    (λ at e. onward_told (λ status. IsSaidStatus (shown version status)) (unless (first_of (status_refusals h who.subject at)) at) _
    (λ uid f. required_told (λ status. IsSaidStatus (shown version status)) NoInfo (node_at h uid) _
    (λ node g. node_said version who.subject (object_at h uid) node (node_found h uid node is g) (object_spelled h uid is))))

-- `list`
placed_names : (name : List ℕ) (names : List (List ℕ)) → is_name name ≡ true → list_all is_name names ≡ true → list_all is_name (placed name names) ≡ true
placed_names name [] own e = both_hold (is_name name) true own refl
placed_names name (next ∷ names) own e =
    let f = both (is_name next) (list_all is_name names) e in
    by_test (is_lt (slice_cmp nat_cmp next name)) f.0 (placed_names name names own f.1)
  where
    by_test : (before : Bool) → is_name next ≡ true → list_all is_name (placed name names) ≡ true
        → list_all is_name (if before then next ∷ placed name names else name ∷ next ∷ names) ≡ true
    by_test true first rest = both_hold (is_name next) (list_all is_name (placed name names)) first rest
    by_test false first rest = both_hold (is_name name) (list_all is_name (next ∷ names)) own e

ordered_names : (names : List (List ℕ)) → list_all is_name names ≡ true → list_all is_name (in_byte_order names) ≡ true
ordered_names [] e = refl
ordered_names (name ∷ names) e =
    let f = both (is_name name) (list_all is_name names) e in
    placed_names name (in_byte_order names) f.0 (ordered_names names f.1)

names_of_branches : (branches : List Branch) → All IsSpelledBranch branches → list_all is_name (map (λ (branch : Branch). branch.name) branches) ≡ true
names_of_branches [] all = refl
names_of_branches (branch ∷ branches) all =
    both_hold _ _ (All-head IsSpelledBranch branch branches all).name (names_of_branches branches (All-tail IsSpelledBranch branch branches all))

pub list_said : (h : Hierarchy) (who : Caller) (text : List ℕ) → IsSpelledHierarchy h → AllTold (λ names. list_all is_name names ≡ true) (list h who text)
list_said h who text is =
    onward_told (λ names. list_all is_name names ≡ true) (entry h who text true) _
    (λ uid e. unless_told (λ names. list_all is_name names ≡ true) (first_of (list_refusals h who.subject uid)) (in_byte_order (names_in h uid))
    (ordered_names (names_in h uid)
    (names_of_branches (entries_of h.branches uid)
    (All-filter (λ (branch : Branch). branch.parent == uid) IsSpelledBranch h.branches is.branches))))
