-- The names that are kept for each directory stay those of its branches.
use Rattle.std.proofs.Common.{ℕ, zero, suc, ◌≡◌, ◌==◌, ◌+◌, ◌<◌, ◌≤◌, Bool, true, false, cond, map, List, [], ◌∷◌, ◌++◌, length, get_or, set, take, drop, Option, Some, None, Result, Ok, Err, refl, sym, ap, subst, ◌∙◌, arith}
use Rattle.std.proofs.lemmas.List.{append-nil, map-append, length-append, length-set, get_or-set_same, get_or-set_other}
use Rattle.std.proofs.lemmas.List.Elements.{filter-append}
use Rattle.std.proofs.lemmas.Cmp.{nat_list_eq_equiv}
use Rattle.std.specs.Cmp.Lexicographic.{pointwise}
use Rattle.std.specs.List.{IsDistinct}
use Rattle.std.specs.Map.{keys_of, lookup, remove_entry}
use Rattle.std.specs.Option.{IfSome, option_map}
use Rattle.std.specs.Borrow.{Bor}
use Rattle.std.specs.Result.{OnOk, OnErr}
use Rattle.mx_hier.specs.declared.branches.Branch.{Branch}
use Rattle.mx_hier.specs.declared.branches.Node.{Node}
use Rattle.mx_hier.specs.Branches.{branch_of, entries_of, uid_in}
use Rattle.mx_hier.specs.Changing.{changed, with_node}
use Rattle.mx_hier.specs.Listed.{Listed, present, slot_of, emptied, changed_at, named, names_of, kept_for, with_name, renamed, AreKeyed, AreKept}
use Rattle.mx_hier.proofs.SlotLaws.{keyed_changed, changed_suc, changed_is, length-changed_at, equal, present-append, present_set, present_at, within_some, keyed_push, keyed_emptied, emptied_suc, slot_suc, slot_is, slot_placed, IsPlaced}
use Rattle.mx_hier.proofs.NameLaws.{name_found}
use Rattle.mx_hier.proofs.KeyLaws.{taken_out, renamed_between}

same_from_test : (a b : ℕ) → (a == b) ≡ true → a ≡ b
same_from_test a b test = grind arith

apart_from_test : (a b : ℕ) → (a == b) ≡ false → b ≡ a → ⊥
apart_from_test a b test same = grind arith

kept_set : (names : List (List (List ℕ × ℕ))) (at dir : ℕ) (kept : List (List ℕ × ℕ)) → at < length names
    → kept_for (set names at kept) dir ≡ cond (at == dir) kept (kept_for names dir)
kept_set names at dir kept within = by (at == dir) refl
  where
    by : (test : Bool) → (at == dir) ≡ test → kept_for (set names at kept) dir ≡ cond test kept (kept_for names dir)
    by true is = subst (λ n. kept_for (set names at kept) n ≡ kept) (same_from_test at dir is) (get_or-set_same names at kept [] within)
    by false is = get_or-set_other names at dir kept [] (apart_from_test at dir is)

names-append : (xs ys : List Branch) (dir : ℕ) → names_of (xs ++ ys) dir ≡ names_of xs dir ++ names_of ys dir
names-append xs ys dir =
    ap (map named) (filter-append (λ (branch : Branch). branch.parent == dir) xs ys) ∙ map-append named (entries_of xs dir) (entries_of ys dir)

names_more : (inside : Bool) (branch : Branch) (rest : List Branch) → map named (cond inside (branch ∷ rest) rest) ≡ cond inside (named branch ∷ map named rest) (map named rest)
names_more true branch rest = refl
names_more false branch rest = refl

-- a name that no branch has is not kept
pub still_free : (slots : List (Option Branch)) (names wide : List (List (List ℕ × ℕ))) (dir : ℕ) (name other : List ℕ) → AreKept slots names
    → ((at : ℕ) → kept_for wide at ≡ kept_for names at) → other ≡ name → uid_in (present slots) dir name ≡ None → lookup (pointwise ◌==◌ other) (kept_for wide dir) ≡ None
still_free slots names wide dir name other kept same is free =
    ap (λ (text : List ℕ). lookup (pointwise ◌==◌ text) (kept_for wide dir)) is
    ∙ ap (lookup (pointwise ◌==◌ name)) (same dir ∙ kept.same dir) ∙ name_found (present slots) dir name ∙ free

-- a branch is added
pub added : (slots : List (Option Branch)) (names wide : List (List (List ℕ × ℕ))) (branch : Branch) → AreKept slots names
    → ((at : ℕ) → kept_for wide at ≡ kept_for names at) → 2 + length slots ≤ length wide → branch.uid ≡ 1 + length slots → branch.parent < 1 + length slots
    → AreKept (slots ++ Some branch ∷ []) (set wide branch.parent (kept_for wide branch.parent ++ named branch ∷ []))
added slots names wide branch kept same room own parent = record {
  keyed = keyed_push 1 slots branch kept.keyed own parent;
  same = λ dir.
      kept_set wide branch.parent dir (kept_for wide branch.parent ++ named branch ∷ []) (omega (arith, room, parent))
      ∙ by dir (branch.parent == dir) refl
      ∙ sym (ap (λ (all : List Branch). names_of all dir) (present-append slots (Some branch ∷ [])) ∙ names-append (present slots) (branch ∷ []) dir
      ∙ ap (λ (more : List (List ℕ × ℕ)). names_of (present slots) dir ++ more) (names_more (branch.parent == dir) branch []));
  room = rw (length-append slots (Some branch ∷ []), length-set wide branch.parent (kept_for wide branch.parent ++ named branch ∷ [])) (omega (arith, room));
}
  where
    by : (dir : ℕ) (test : Bool) → (branch.parent == dir) ≡ test
        → cond test (kept_for wide branch.parent ++ named branch ∷ []) (kept_for wide dir) ≡ names_of (present slots) dir ++ cond test (named branch ∷ []) []
    by dir true is = ap (λ (own : List (List ℕ × ℕ)). own ++ named branch ∷ [])
        (same branch.parent ∙ kept.same branch.parent ∙ ap (names_of (present slots)) (same_from_test branch.parent dir is))
    by dir false is = same dir ∙ kept.same dir ∙ sym (append-nil (names_of (present slots) dir))

pub parent_within : (slots : List (Option Branch)) (names : List (List (List ℕ × ℕ))) (uid : ℕ) (branch : Branch) → AreKept slots names → slot_of slots uid ≡ Some branch
    → branch.parent < length names
parent_within slots names uid branch kept is =
    let place : IsPlaced uid (1 + length slots) branch = subst (λ slot. IfSome slot (IsPlaced uid (1 + length slots))) is (slot_placed slots uid kept.keyed) in
    omega (arith, place.1, place.2, kept.room)

-- a branch is removed
removed_at : (slots : List (Option Branch)) (names : List (List (List ℕ × ℕ))) (i : ℕ) (branch : Branch) → AreKept slots names → get_or slots i None ≡ Some branch
    → branch.parent < length names → IsDistinct (pointwise ◌==◌) (keys_of (kept_for names branch.parent))
    → AreKept (set slots i None) (set names branch.parent (remove_entry (pointwise ◌==◌ branch.name) (kept_for names branch.parent)))
removed_at slots names i branch kept is within distinct = record {
  keyed = keyed_emptied 1 i slots kept.keyed;
  same = λ dir. kept_set names branch.parent dir (remove_entry (pointwise ◌==◌ branch.name) (kept_for names branch.parent)) within ∙ by dir (branch.parent == dir) refl;
  room = rw (length-set slots i None, length-set names branch.parent (remove_entry (pointwise ◌==◌ branch.name) (kept_for names branch.parent))) kept.room;
}
  where
    front : List Branch
    front = present (take i slots)

    back : List Branch
    back = present (drop (suc i) slots)

    old : (dir : ℕ) → names_of (present slots) dir ≡ names_of front dir ++ cond (branch.parent == dir) (named branch ∷ names_of back dir) (names_of back dir)
    old dir =
        ap (λ (all : List Branch). names_of all dir) (present_at slots i (Some branch) (within_some slots i branch is) is) ∙ names-append front (branch ∷ back) dir
        ∙ ap (λ (more : List (List ℕ × ℕ)). names_of front dir ++ more) (names_more (branch.parent == dir) branch (entries_of back dir))

    new : (dir : ℕ) → names_of (present (set slots i None)) dir ≡ names_of front dir ++ names_of back dir
    new dir = ap (λ (all : List Branch). names_of all dir) (present_set slots i None (within_some slots i branch is)) ∙ names-append front back dir

    own : kept_for names branch.parent ≡ names_of front branch.parent ++ named branch ∷ names_of back branch.parent
    own = kept.same branch.parent ∙ old branch.parent
        ∙ ap (λ (test : Bool). names_of front branch.parent ++ cond test (named branch ∷ names_of back branch.parent) (names_of back branch.parent)) (equal branch.parent branch.parent refl)

    by : (dir : ℕ) (test : Bool) → (branch.parent == dir) ≡ test
        → cond test (remove_entry (pointwise ◌==◌ branch.name) (kept_for names branch.parent)) (kept_for names dir) ≡ names_of (present (set slots i None)) dir
    by dir true is =
        ap (remove_entry (pointwise ◌==◌ branch.name)) own
        ∙ taken_out nat_list_eq_equiv (names_of front branch.parent) (named branch) (names_of back branch.parent)
        (subst (λ (pairs : List (List ℕ × ℕ)). IsDistinct (pointwise ◌==◌) (keys_of pairs)) own distinct)
        ∙ sym (new branch.parent) ∙ ap (names_of (present (set slots i None))) (same_from_test branch.parent dir is)
    by dir false is =
        kept.same dir ∙ old dir ∙ ap (λ (test : Bool). names_of front dir ++ cond test (named branch ∷ names_of back dir) (names_of back dir)) is ∙ sym (new dir)

pub removed : (slots : List (Option Branch)) (names : List (List (List ℕ × ℕ))) (uid : ℕ) (branch : Branch) → AreKept slots names → slot_of slots uid ≡ Some branch
    → IsDistinct (pointwise ◌==◌) (keys_of (kept_for names branch.parent))
    → AreKept (emptied slots uid) (set names branch.parent (remove_entry (pointwise ◌==◌ branch.name) (kept_for names branch.parent)))
removed slots names zero branch kept is distinct = absurd (cc)
removed slots names (suc i) branch kept is distinct =
    subst (λ left. AreKept left (set names branch.parent (remove_entry (pointwise ◌==◌ branch.name) (kept_for names branch.parent)))) (sym (emptied_suc slots i))
    (removed_at slots names i branch kept (sym (slot_suc slots i) ∙ is) (parent_within slots names (suc i) branch kept is) distinct)

pub kept_as : (slots left : List (Option Branch)) (names rest : List (List (List ℕ × ℕ))) → slots ≡ left → names ≡ rest → AreKept left rest → AreKept slots names
kept_as slots left names rest e f kept = subst (λ s. AreKept s names) (sym e) (subst (AreKept left) (sym f) kept)

-- the value of the slots, and one more branch in it
abbrev pub listed : List (Option Branch) → Listed
listed slots = record { branches = present slots; next = 1 + length slots }

abbrev pub listed_more : ℕ → List ℕ → Node → Listed → Listed
listed_more dir name node value = record {
  branches = value.branches ++ record { uid = value.next; parent = dir; name = name; node = node } ∷ [];
  next = 1 + value.next;
}

pub listed_added : (slots new : List (Option Branch)) (value : Listed) (uid dir : ℕ) (name other : List ℕ) (node : Node) → listed slots ≡ value → uid ≡ 1 + length slots → other ≡ name
    → new ≡ slots ++ Some (record { uid = uid; parent = dir; name = other; node = node }) ∷ [] → listed new ≡ listed_more dir name node value
listed_added slots new value uid dir name other node is own same e =
    let more : length (slots ++ Some (record { uid = uid; parent = dir; name = other; node = node }) ∷ []) ≡ 1 + length slots =
    omega (arith, length-append slots (Some (record { uid = uid; parent = dir; name = other; node = node }) ∷ [])) in
    ap listed e
    ∙ (λ i. record { branches = present-append slots (Some (record { uid = uid; parent = dir; name = other; node = node }) ∷ []) i; next = 1 + more i })
    ∙ (λ i. record { branches = present slots ++ record { uid = own i; parent = dir; name = same i; node = node } ∷ []; next = 1 + (1 + length slots) })
    ∙ ap (listed_more dir name node) is

-- a branch is changed, and keeps its uid, its directory and its name
module _ (f : Branch → Branch) (own : (branch : Branch) → (f branch).uid ≡ branch.uid) (parent : (branch : Branch) → (f branch).parent ≡ branch.parent)
    (name : (branch : Branch) → (f branch).name ≡ branch.name) where
  names_stay : (uid dir : ℕ) (branches : List Branch) → names_of (changed uid f branches) dir ≡ names_of branches dir
  names_stay uid dir [] = refl
  names_stay uid dir (branch ∷ branches) =
      names_more ((cond (branch.uid == uid) (f branch) branch).parent == dir) (cond (branch.uid == uid) (f branch) branch) (entries_of (changed uid f branches) dir)
      ∙ by (branch.uid == uid)
      ∙ ap (λ (rest : List (List ℕ × ℕ)). cond (branch.parent == dir) (named branch ∷ rest) rest) (names_stay uid dir branches)
      ∙ sym (names_more (branch.parent == dir) branch (entries_of branches dir))
    where
      rest : List (List ℕ × ℕ)
      rest = names_of (changed uid f branches) dir

      by : (test : Bool) → cond ((cond test (f branch) branch).parent == dir) (named (cond test (f branch) branch) ∷ rest) rest ≡ cond (branch.parent == dir) (named branch ∷ rest) rest
      by true = λ i. cond (parent branch i == dir) ((name branch i, own branch i) ∷ rest) rest
      by false = refl

  pub stays_kept : (slots : List (Option Branch)) (names : List (List (List ℕ × ℕ))) (uid : ℕ) → AreKept slots names → AreKept (changed_at slots uid f) names
  stays_kept slots names uid kept = record {
    keyed = by uid;
    same = λ dir. kept.same dir ∙ sym (names_stay uid dir (present slots)) ∙ sym (ap (λ (all : List Branch). names_of all dir) (changed_is slots uid f kept.keyed));
    room = rw (length-changed_at slots uid f) kept.room;
  }
    where
      by : (uid : ℕ) → AreKeyed 1 (changed_at slots uid f)
      by zero = kept.keyed
      by (suc i) = subst (AreKeyed 1) (sym (changed_suc slots i f)) (keyed_changed f own parent 1 i slots kept.keyed)

pub listed_changed : (slots new : List (Option Branch)) (value : Listed) (uid : ℕ) (f : Branch → Branch) → AreKeyed 1 slots → listed slots ≡ value → new ≡ changed_at slots uid f
    → listed new ≡ record value { branches = changed uid f value.branches }
listed_changed slots new value uid f keyed is e =
    ap listed e ∙ (λ i. record { branches = changed_is slots uid f keyed i; next = 1 + length-changed_at slots uid f i })
    ∙ ap (λ (v : Listed). record v { branches = changed uid f v.branches }) is

-- the same where only what stands at the branch is changed
pub node_kept : (g : Node → Node) (slots new : List (Option Branch)) (names : List (List (List ℕ × ℕ))) (uid : ℕ) → AreKept slots names
    → new ≡ changed_at slots uid (λ branch. with_node (g branch.node) branch) → AreKept new names
node_kept g slots new names uid kept e =
    subst (λ s. AreKept s names) (sym e) (stays_kept (λ branch. with_node (g branch.node) branch) (λ branch. refl) (λ branch. refl) (λ branch. refl) slots names uid kept)

pub result_kept : {A E : Type 0} (result : Result A E) (g : Node → Node) (slots new : List (Option Branch)) (names : List (List (List ℕ × ℕ))) (uid : ℕ) → AreKept slots names
    → OnOk result (new ≡ changed_at slots uid (λ branch. with_node (g branch.node) branch)) → OnErr result (new ≡ slots) → AreKept new names
result_kept (Ok done) g slots new names uid kept ok err = node_kept g slots new names uid kept ok
result_kept (Err e) g slots new names uid kept ok err = subst (λ s. AreKept s names) (sym err) kept

pub slot_listed : (slots : List (Option Branch)) (value : Listed) (uid : ℕ) → AreKeyed 1 slots → listed slots ≡ value → slot_of slots uid ≡ branch_of value.branches uid
slot_listed slots value uid keyed is = slot_is slots uid keyed ∙ ap (λ (v : Listed). branch_of v.branches uid) is

-- a branch gets another name
renamed_at : (slots : List (Option Branch)) (names : List (List (List ℕ × ℕ))) (i : ℕ) (branch : Branch) (new : List ℕ) → AreKept slots names → get_or slots i None ≡ Some branch
    → branch.parent < length names → IsDistinct (pointwise ◌==◌) (keys_of (kept_for names branch.parent))
    → AreKept (set slots i (option_map (with_name new) (get_or slots i None))) (set names branch.parent (renamed branch.name new (kept_for names branch.parent)))
renamed_at slots names i branch new kept is within distinct = record {
  keyed = keyed_changed (with_name new) (λ other. refl) (λ other. refl) 1 i slots kept.keyed;
  same = λ dir. kept_set names branch.parent dir (renamed branch.name new (kept_for names branch.parent)) within ∙ by dir (branch.parent == dir) refl;
  room = rw (length-set slots i (option_map (with_name new) (get_or slots i None)), length-set names branch.parent (renamed branch.name new (kept_for names branch.parent))) kept.room;
}
  where
    front : List Branch
    front = present (take i slots)

    back : List Branch
    back = present (drop (suc i) slots)

    old : (dir : ℕ) → names_of (present slots) dir ≡ names_of front dir ++ cond (branch.parent == dir) (named branch ∷ names_of back dir) (names_of back dir)
    old dir =
        ap (λ (all : List Branch). names_of all dir) (present_at slots i (Some branch) (within_some slots i branch is) is) ∙ names-append front (branch ∷ back) dir
        ∙ ap (λ (more : List (List ℕ × ℕ)). names_of front dir ++ more) (names_more (branch.parent == dir) branch (entries_of back dir))

    changed_to : (dir : ℕ) → names_of (present (set slots i (option_map (with_name new) (get_or slots i None)))) dir
        ≡ names_of front dir ++ cond (branch.parent == dir) ((new, branch.uid) ∷ names_of back dir) (names_of back dir)
    changed_to dir =
        ap (λ (slot : Option Branch). names_of (present (set slots i (option_map (with_name new) slot))) dir) is
        ∙ ap (λ (all : List Branch). names_of all dir) (present_set slots i (Some (with_name new branch)) (within_some slots i branch is)) ∙ names-append front (with_name new branch ∷ back) dir
        ∙ ap (λ (more : List (List ℕ × ℕ)). names_of front dir ++ more) (names_more (branch.parent == dir) (with_name new branch) (entries_of back dir))

    own : kept_for names branch.parent ≡ names_of front branch.parent ++ named branch ∷ names_of back branch.parent
    own = kept.same branch.parent ∙ old branch.parent
        ∙ ap (λ (test : Bool). names_of front branch.parent ++ cond test (named branch ∷ names_of back branch.parent) (names_of back branch.parent)) (equal branch.parent branch.parent refl)

    by : (dir : ℕ) (test : Bool) → (branch.parent == dir) ≡ test
        → cond test (renamed branch.name new (kept_for names branch.parent)) (kept_for names dir) ≡ names_of (present (set slots i (option_map (with_name new) (get_or slots i None)))) dir
    by dir true is =
        ap (renamed branch.name new) own
        ∙ renamed_between new (names_of front branch.parent) (named branch) (names_of back branch.parent) (subst (λ (pairs : List (List ℕ × ℕ)). IsDistinct (pointwise ◌==◌) (keys_of pairs)) own distinct)
        ∙ ap (λ (test : Bool). names_of front branch.parent ++ cond test ((new, branch.uid) ∷ names_of back branch.parent) (names_of back branch.parent)) (sym (equal branch.parent branch.parent refl))
        ∙ sym (changed_to branch.parent) ∙ ap (names_of (present (set slots i (option_map (with_name new) (get_or slots i None))))) (same_from_test branch.parent dir is)
    by dir false is =
        kept.same dir ∙ old dir ∙ ap (λ (test : Bool). names_of front dir ++ cond test (named branch ∷ names_of back dir) (names_of back dir)) is
        ∙ ap (λ (test : Bool). names_of front dir ++ cond test ((new, branch.uid) ∷ names_of back dir) (names_of back dir)) (sym is) ∙ sym (changed_to dir)

pub renamed_kept : (slots : List (Option Branch)) (names : List (List (List ℕ × ℕ))) (uid : ℕ) (branch : Branch) (new : List ℕ) → AreKept slots names → slot_of slots uid ≡ Some branch
    → IsDistinct (pointwise ◌==◌) (keys_of (kept_for names branch.parent))
    → AreKept (changed_at slots uid (with_name new)) (set names branch.parent (renamed branch.name new (kept_for names branch.parent)))
renamed_kept slots names zero branch new kept is distinct = absurd (cc)
renamed_kept slots names (suc i) branch new kept is distinct =
    subst (λ left. AreKept left (set names branch.parent (renamed branch.name new (kept_for names branch.parent)))) (sym (changed_suc slots i (with_name new)))
    (renamed_at slots names i branch new kept (sym (slot_suc slots i) ∙ is) (parent_within slots names (suc i) branch kept is) distinct)

pub shown : (found : Option (Bor Branch)) (slot : Option Branch) (branch : Bor Branch) → option_map (λ b. b.now) found ≡ slot → found ≡ Some branch → slot ≡ Some branch.now
shown found slot branch e f = sym e ∙ ap (option_map (λ (b : Bor Branch). b.now)) f
