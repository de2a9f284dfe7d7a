-- The slots of all uids, and the branches that stand in them.
use Rattle.std.proofs.Common.{ℕ, zero, suc, ◌≡◌, ◌==◌, ◌+◌, ◌-◌, ◌<◌, Bool, true, false, cond, not, List, [], ◌∷◌, ◌++◌, length, get_or, set, take, drop, Option, Some, None, refl, sym, ap, subst, ◌∙◌, arith}
use Rattle.std.proofs.lemmas.List.{length-set, set_split, set-get_or}
use Rattle.std.specs.List.{AllByRecursion}
use Rattle.std.specs.Option.{IfSome, option_map}
use Rattle.std.specs.Borrow.{Bor}
use Rattle.mx_hier.specs.declared.branches.Branch.{Branch}
use Rattle.mx_hier.specs.Branches.{branch_of}
use Rattle.mx_hier.specs.Changing.{changed}
use Rattle.mx_hier.specs.Delete.{without}
use Rattle.mx_hier.specs.Listed.{present, slot_of, emptied, changed_at, AreKeyed}

-- none of these branches has the uid
abbrev pub AreApart : ℕ → List Branch → Type 0
AreApart uid branches = AllByRecursion (λ (branch : Branch). (branch.uid == uid) ≡ false) branches

pub unequal : (a b : ℕ) → (a ≡ b → ⊥) → (a == b) ≡ false
unequal a b apart = grind arith

pub equal : (a b : ℕ) → a ≡ b → (a == b) ≡ true
equal a b same = grind arith

pub keyed_rest : (first : ℕ) (slot : Option Branch) (slots : List (Option Branch)) → AreKeyed first (slot ∷ slots) → AreKeyed (1 + first) slots
keyed_rest first None slots keyed = keyed
keyed_rest first (Some branch) slots keyed = keyed.2

above : (first uid : ℕ) (slots : List (Option Branch)) → uid < first → AreKeyed first slots → AreApart uid (present slots)
above first uid [] lt keyed = tt
above first uid (None ∷ slots) lt keyed = above (1 + first) uid slots (omega arith) keyed
above first uid (Some branch ∷ slots) lt keyed =
    (unequal branch.uid uid (λ same. omega (arith, same, keyed.0)), above (1 + first) uid slots (omega arith) keyed.2)

-- those before and behind a place have other uids
pub apart_front : (first i : ℕ) (slots : List (Option Branch)) → AreKeyed first slots → AreApart (first + i) (present (take i slots))
apart_front first zero slots keyed = tt
apart_front first (suc i) [] keyed = tt
apart_front first (suc i) (None ∷ slots) keyed =
    subst (λ n. AreApart n (present (take i slots))) (omega arith) (apart_front (1 + first) i slots keyed)
apart_front first (suc i) (Some branch ∷ slots) keyed = (
  unequal branch.uid (first + suc i) (λ same. omega (arith, same, keyed.0)),
  subst (λ n. AreApart n (present (take i slots))) (omega arith) (apart_front (1 + first) i slots keyed.2),
)

pub apart_back : (first i : ℕ) (slots : List (Option Branch)) → AreKeyed first slots → AreApart (first + i) (present (drop (suc i) slots))
apart_back first i [] keyed = tt
apart_back first zero (None ∷ slots) keyed = above (1 + first) (first + zero) slots (omega arith) keyed
apart_back first zero (Some branch ∷ slots) keyed = above (1 + first) (first + zero) slots (omega arith) keyed.2
apart_back first (suc i) (None ∷ slots) keyed =
    subst (λ n. AreApart n (present (drop (suc i) slots))) (omega arith) (apart_back (1 + first) i slots keyed)
apart_back first (suc i) (Some branch ∷ slots) keyed =
    subst (λ n. AreApart n (present (drop (suc i) slots))) (omega arith) (apart_back (1 + first) i slots keyed.2)

pub find_apart : (uid : ℕ) (branches : List Branch) → AreApart uid branches → branch_of branches uid ≡ None
find_apart uid [] apart = refl
find_apart uid (branch ∷ branches) apart =
    ap (λ (test : Bool). cond test (Some branch) (branch_of branches uid)) apart.0 ∙ find_apart uid branches apart.1

found : (first i : ℕ) (slots : List (Option Branch)) → AreKeyed first slots → branch_of (present slots) (first + i) ≡ get_or slots i None
found first i [] keyed = refl
found first zero (None ∷ slots) keyed = find_apart (first + zero) (present slots) (above (1 + first) (first + zero) slots (omega arith) keyed)
found first zero (Some branch ∷ slots) keyed =
    ap (λ (test : Bool). cond test (Some branch) (branch_of (present slots) (first + zero))) (equal branch.uid (first + zero) (omega (arith, keyed.0)))
found first (suc i) (None ∷ slots) keyed =
    subst (λ n. branch_of (present slots) n ≡ get_or slots i None) (omega arith) (found (1 + first) i slots keyed)
found first (suc i) (Some branch ∷ slots) keyed =
    ap (λ (test : Bool). cond test (Some branch) (branch_of (present slots) (first + suc i))) (unequal branch.uid (first + suc i) (λ same. omega (arith, same, keyed.0)))
    ∙ subst (λ n. branch_of (present slots) n ≡ get_or slots i None) (omega arith) (found (1 + first) i slots keyed.2)

-- the branch of a uid stands in its slot
pub slot_is : (slots : List (Option Branch)) (uid : ℕ) → AreKeyed 1 slots → slot_of slots uid ≡ branch_of (present slots) uid
slot_is slots zero keyed = sym (find_apart 0 (present slots) (above 1 0 slots (omega arith) keyed))
slot_is slots (suc i) keyed =
    let one : suc i - 1 ≡ i = omega arith in
    let more : 1 + i ≡ suc i = omega arith in
    rw (unequal (suc i) 0 (λ same. omega (arith, same)), one) (sym (subst (λ n. branch_of (present slots) n ≡ get_or slots i None) more (found 1 i slots keyed)))

-- what is known of the branch in a slot
abbrev pub IsPlaced : ℕ → ℕ → Branch → Type 0
IsPlaced uid next branch = (branch.uid ≡ uid) × (branch.parent < uid) × (uid < next)

placed : (first i : ℕ) (slots : List (Option Branch)) → AreKeyed first slots → IfSome (get_or slots i None) (IsPlaced (first + i) (first + length slots))
placed first i [] keyed = tt
placed first zero (None ∷ slots) keyed = tt
placed first zero (Some branch ∷ slots) keyed = (omega (arith, keyed.0), omega (arith, keyed.1), omega arith)
placed first (suc i) (slot ∷ slots) keyed =
    let place : (1 + first) + i ≡ first + suc i = omega arith in
    let next : (1 + first) + length slots ≡ first + suc (length slots) = omega arith in
    subst (λ n. IfSome (get_or slots i None) (IsPlaced n (first + suc (length slots)))) place
    (subst (λ n. IfSome (get_or slots i None) (IsPlaced ((1 + first) + i) n)) next (placed (1 + first) i slots (keyed_rest first slot slots keyed)))

pub slot_placed : (slots : List (Option Branch)) (uid : ℕ) → AreKeyed 1 slots → IfSome (slot_of slots uid) (IsPlaced uid (1 + length slots))
slot_placed slots zero keyed = tt
slot_placed slots (suc i) keyed =
    let one : suc i - 1 ≡ i = omega arith in
    let more : 1 + i ≡ suc i = omega arith in
    rw (unequal (suc i) 0 (λ same. omega (arith, same)), one) (subst (λ n. IfSome (get_or slots i None) (IsPlaced n (1 + length slots))) more (placed 1 i slots keyed))

-- the same of what a reference to it leads to
pub behind : (found : Option (Bor Branch)) (slot : Option Branch) (P : Branch → Type 0) → option_map (λ branch. branch.now) found ≡ slot → IfSome slot P
    → IfSome found (λ branch. P branch.now)
behind None slot P same holds = tt
behind (Some branch) slot P same holds = subst (λ s. IfSome s P) (sym same) holds

pub present-append : (xs ys : List (Option Branch)) → present (xs ++ ys) ≡ present xs ++ present ys
present-append [] ys = refl
present-append (None ∷ xs) ys = present-append xs ys
present-append (Some branch ∷ xs) ys = ap (λ (rest : List Branch). branch ∷ rest) (present-append xs ys)

-- what a slot holds stands between those before it and those behind it
pub present_set : (slots : List (Option Branch)) (i : ℕ) (slot : Option Branch) → i < length slots
    → present (set slots i slot) ≡ present (take i slots) ++ present (slot ∷ drop (suc i) slots)
present_set slots i slot within = ap present (set_split slots i slot within) ∙ present-append (take i slots) (slot ∷ drop (suc i) slots)

pub present_at : (slots : List (Option Branch)) (i : ℕ) (slot : Option Branch) → i < length slots → get_or slots i None ≡ slot
    → present slots ≡ present (take i slots) ++ present (slot ∷ drop (suc i) slots)
present_at slots i slot within is =
    ap present (sym (set-get_or slots i None) ∙ ap (λ (other : Option Branch). set slots i other) is) ∙ present_set slots i slot within

pub within_some : (slots : List (Option Branch)) (i : ℕ) (branch : Branch) → get_or slots i None ≡ Some branch → i < length slots
within_some [] i branch is = absurd (cc)
within_some (slot ∷ slots) zero branch is = omega arith
within_some (slot ∷ slots) (suc i) branch is = omega (arith, within_some slots i branch is)

-- one more slot
pub keyed_push : (first : ℕ) (slots : List (Option Branch)) (branch : Branch) → AreKeyed first slots → branch.uid ≡ first + length slots → branch.parent < first + length slots
    → AreKeyed first (slots ++ Some branch ∷ [])
keyed_push first [] branch keyed own parent = (omega (arith, own), omega (arith, parent), tt)
keyed_push first (None ∷ slots) branch keyed own parent = keyed_push (1 + first) slots branch keyed (omega (arith, own)) (omega (arith, parent))
keyed_push first (Some other ∷ slots) branch keyed own parent =
    (keyed.0, keyed.1, keyed_push (1 + first) slots branch keyed.2 (omega (arith, own)) (omega (arith, parent)))

-- and one less
pub keyed_emptied : (first i : ℕ) (slots : List (Option Branch)) → AreKeyed first slots → AreKeyed first (set slots i None)
keyed_emptied first i [] keyed = tt
keyed_emptied first zero (slot ∷ slots) keyed = keyed_rest first slot slots keyed
keyed_emptied first (suc i) (None ∷ slots) keyed = keyed_emptied (1 + first) i slots keyed
keyed_emptied first (suc i) (Some branch ∷ slots) keyed = (keyed.0, keyed.1, keyed_emptied (1 + first) i slots keyed.2)

kept_apart : (uid : ℕ) (branches : List Branch) → AreApart uid branches → without uid branches ≡ branches
kept_apart uid [] apart = refl
kept_apart uid (branch ∷ branches) apart =
    ap (λ (test : Bool). cond (not test) (branch ∷ without uid branches) (without uid branches)) apart.0
    ∙ ap (λ (rest : List Branch). branch ∷ rest) (kept_apart uid branches apart.1)

left_out : (first i : ℕ) (slots : List (Option Branch)) → AreKeyed first slots → present (set slots i None) ≡ without (first + i) (present slots)
left_out first i [] keyed = refl
left_out first zero (None ∷ slots) keyed = sym (kept_apart (first + zero) (present slots) (above (1 + first) (first + zero) slots (omega arith) keyed))
left_out first zero (Some branch ∷ slots) keyed =
    sym (ap (λ (test : Bool). cond (not test) (branch ∷ without (first + zero) (present slots)) (without (first + zero) (present slots))) (equal branch.uid (first + zero) (omega (arith, keyed.0)))
    ∙ kept_apart (first + zero) (present slots) (above (1 + first) (first + zero) slots (omega arith) keyed.2))
left_out first (suc i) (None ∷ slots) keyed =
    subst (λ n. present (set slots i None) ≡ without n (present slots)) (omega arith) (left_out (1 + first) i slots keyed)
left_out first (suc i) (Some branch ∷ slots) keyed =
    ap (λ (rest : List Branch). branch ∷ rest) (subst (λ n. present (set slots i None) ≡ without n (present slots)) (omega arith) (left_out (1 + first) i slots keyed.2))
    ∙ sym (ap (λ (test : Bool). cond (not test) (branch ∷ without (first + suc i) (present slots)) (without (first + suc i) (present slots))) (unequal branch.uid (first + suc i) (λ same. omega (arith, same, keyed.0))))

pub emptied_suc : (slots : List (Option Branch)) (i : ℕ) → emptied slots (suc i) ≡ set slots i None
emptied_suc slots i =
    let one : suc i - 1 ≡ i = omega arith in
    rw (unequal (suc i) 0 (λ same. omega (arith, same)), one) refl

pub slot_suc : (slots : List (Option Branch)) (i : ℕ) → slot_of slots (suc i) ≡ get_or slots i None
slot_suc slots i =
    let one : suc i - 1 ≡ i = omega arith in
    rw (unequal (suc i) 0 (λ same. omega (arith, same)), one) refl

-- without the branch of a uid
pub emptied_is : (slots : List (Option Branch)) (uid : ℕ) → AreKeyed 1 slots → present (emptied slots uid) ≡ without uid (present slots)
emptied_is slots zero keyed = sym (kept_apart 0 (present slots) (above 1 0 slots (omega arith) keyed))
emptied_is slots (suc i) keyed =
    ap present (emptied_suc slots i) ∙ subst (λ n. present (set slots i None) ≡ without n (present slots)) (omega arith) (left_out 1 i slots keyed)

-- a branch is changed, and keeps its uid and its directory
module _ (f : Branch → Branch) (own : (branch : Branch) → (f branch).uid ≡ branch.uid) (parent : (branch : Branch) → (f branch).parent ≡ branch.parent) where
  pub keyed_changed : (first i : ℕ) (slots : List (Option Branch)) → AreKeyed first slots → AreKeyed first (set slots i (option_map f (get_or slots i None)))
  keyed_changed first i [] keyed = tt
  keyed_changed first zero (None ∷ slots) keyed = keyed
  keyed_changed first zero (Some branch ∷ slots) keyed = (own branch ∙ keyed.0, omega (arith, parent branch, keyed.1), keyed.2)
  keyed_changed first (suc i) (None ∷ slots) keyed = keyed_changed (1 + first) i slots keyed
  keyed_changed first (suc i) (Some branch ∷ slots) keyed = (keyed.0, keyed.1, keyed_changed (1 + first) i slots keyed.2)

changed_apart : (uid : ℕ) (f : Branch → Branch) (branches : List Branch) → AreApart uid branches → changed uid f branches ≡ branches
changed_apart uid f [] apart = refl
changed_apart uid f (branch ∷ branches) apart =
    ap (λ (test : Bool). cond test (f branch) branch ∷ changed uid f branches) apart.0 ∙ ap (λ (rest : List Branch). branch ∷ rest) (changed_apart uid f branches apart.1)

altered : (f : Branch → Branch) (first i : ℕ) (slots : List (Option Branch)) → AreKeyed first slots
    → present (set slots i (option_map f (get_or slots i None))) ≡ changed (first + i) f (present slots)
altered f first i [] keyed = refl
altered f first zero (None ∷ slots) keyed = sym (changed_apart (first + zero) f (present slots) (above (1 + first) (first + zero) slots (omega arith) keyed))
altered f first zero (Some branch ∷ slots) keyed =
    sym (ap (λ (test : Bool). cond test (f branch) branch ∷ changed (first + zero) f (present slots)) (equal branch.uid (first + zero) (omega (arith, keyed.0)))
    ∙ ap (λ (rest : List Branch). f branch ∷ rest) (changed_apart (first + zero) f (present slots) (above (1 + first) (first + zero) slots (omega arith) keyed.2)))
altered f first (suc i) (None ∷ slots) keyed =
    subst (λ n. present (set slots i (option_map f (get_or slots i None))) ≡ changed n f (present slots)) (omega arith) (altered f (1 + first) i slots keyed)
altered f first (suc i) (Some branch ∷ slots) keyed =
    ap (λ (rest : List Branch). branch ∷ rest)
    (subst (λ n. present (set slots i (option_map f (get_or slots i None))) ≡ changed n f (present slots)) (omega arith) (altered f (1 + first) i slots keyed.2))
    ∙ sym (ap (λ (test : Bool). cond test (f branch) branch ∷ changed (first + suc i) f (present slots)) (unequal branch.uid (first + suc i) (λ same. omega (arith, same, keyed.0))))

pub changed_suc : (slots : List (Option Branch)) (i : ℕ) (f : Branch → Branch) → changed_at slots (suc i) f ≡ set slots i (option_map f (get_or slots i None))
changed_suc slots i f =
    let one : suc i - 1 ≡ i = omega arith in
    rw (unequal (suc i) 0 (λ same. omega (arith, same)), one) refl

pub changed_is : (slots : List (Option Branch)) (uid : ℕ) (f : Branch → Branch) → AreKeyed 1 slots → present (changed_at slots uid f) ≡ changed uid f (present slots)
changed_is slots zero f keyed = sym (changed_apart 0 f (present slots) (above 1 0 slots (omega arith) keyed))
changed_is slots (suc i) f keyed =
    ap present (changed_suc slots i f)
    ∙ subst (λ n. present (set slots i (option_map f (get_or slots i None))) ≡ changed n f (present slots)) (omega arith) (altered f 1 i slots keyed)

pub length-changed_at : (slots : List (Option Branch)) (uid : ℕ) (f : Branch → Branch) → length (changed_at slots uid f) ≡ length slots
length-changed_at slots zero f = refl
length-changed_at slots (suc i) f = ap length (changed_suc slots i f) ∙ length-set slots i (option_map f (get_or slots i None))
