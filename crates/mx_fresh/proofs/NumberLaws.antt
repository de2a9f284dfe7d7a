-- Branches stay numbered in the order of their making, and the one of a uid stands at one place.
use Rattle.std.proofs.Common.{ℕ, zero, suc, ◌≡◌, ◌==◌, ◌+◌, ◌<◌, ◌≤◌, Bool, true, false, cond, List, [], ◌∷◌, ◌++◌, length, filter, get_or, nat_lt, position, Option, Some, None, Result, Ok, Err, OnOk, OnErr, refl, sym, ap, subst, ◌∙◌, arith}
use Rattle.std.specs.List.{slice_get, slice_set, position_or_len}
use Rattle.std.proofs.lemmas.List.Folds.{find_at}
use Rattle.std.proofs.lemmas.List.Quantifiers.{position-Some}
use Rattle.std.proofs.lemmas.Option.{slice_get-get_or, slice_get_past}
use Rattle.mx_hier.specs.declared.branches.Node.TheVariants.{Link as IsLink}
use Rattle.mx_hier.specs.Listed.{Listed, listed_changed}
use Rattle.mx_hier.specs.declared.branches.Branch.{Branch}
use Rattle.mx_hier.specs.Branches.{branch_of}
use Rattle.mx_hier.specs.Changing.{changed}
use Rattle.mx_hier.proofs.SlotLaws.{unequal, equal}
use Rattle.mx_fresh.specs.Numbered.{AreNumbered}

pub numbered_lower : (low from : ℕ) (branches : List Branch) (next : ℕ) → low ≤ from → AreNumbered from branches next → AreNumbered low branches next
numbered_lower low from [] next less numbered = omega (arith, less, numbered)
numbered_lower low from (branch ∷ branches) next less numbered = (omega (arith, less, numbered.0), numbered.1)

-- one more
pub numbered_added : (low : ℕ) (branches : List Branch) (next : ℕ) (branch : Branch) → branch.uid ≡ next → AreNumbered low branches next
    → AreNumbered low (branches ++ branch ∷ []) (next + 1)
numbered_added low [] next branch is numbered = (omega (arith, is, numbered), omega (arith, is))
numbered_added low (first ∷ branches) next branch is numbered = (numbered.0, numbered_added (suc first.uid) branches next branch is numbered.1)

-- some left out
pub numbered_filtered : (keeps : Branch → Bool) (low : ℕ) (branches : List Branch) (next : ℕ) → AreNumbered low branches next
    → AreNumbered low (filter keeps branches) next
numbered_filtered keeps low [] next numbered = numbered
numbered_filtered keeps low (branch ∷ branches) next numbered = by (keeps branch) (numbered_filtered keeps (suc branch.uid) branches next numbered.1)
  where
    by : (b : Bool) → AreNumbered (suc branch.uid) (filter keeps branches) next → AreNumbered low (cond b (branch ∷ filter keeps branches) (filter keeps branches)) next
    by true rest = (numbered.0, rest)
    by false rest = numbered_lower low (suc branch.uid) (filter keeps branches) next (omega (arith, numbered.0)) rest

-- one in the place of another of the same uid
pub numbered_set : (low : ℕ) (branches : List Branch) (next place : ℕ) (old new : Branch) → slice_get branches place ≡ Some old → new.uid ≡ old.uid
    → AreNumbered low branches next → AreNumbered low (slice_set branches place new) next
numbered_set low [] next place old new at same numbered = absurd (cc)
numbered_set low (branch ∷ branches) next zero old new at same numbered =
    let here : branch.uid ≡ new.uid = (let is : branch ≡ old = cc in ap (λ (b : Branch). b.uid) is) ∙ sym same in
    (omega (arith, here, numbered.0), ap_numbered here)
  where
    ap_numbered : branch.uid ≡ new.uid → AreNumbered (suc new.uid) branches next
    ap_numbered here = numbered_lower (suc new.uid) (suc branch.uid) branches next (omega (arith, here)) numbered.1
numbered_set low (branch ∷ branches) next (suc place) old new at same numbered =
    (numbered.0, numbered_set (suc branch.uid) branches next place old new at same numbered.1)

-- those from a number on have no lower uid
untouched : (uid : ℕ) (f : Branch → Branch) (low : ℕ) (branches : List Branch) (next : ℕ) → uid < low → AreNumbered low branches next → changed uid f branches ≡ branches
untouched uid f low [] next less numbered = refl
untouched uid f low (branch ∷ branches) next less numbered =
    ap (λ (b : Bool). cond b (f branch) branch ∷ changed uid f branches) (unequal branch.uid uid (λ same. omega (arith, same, less, numbered.0)))
    ∙ ap (λ (rest : List Branch). branch ∷ rest) (untouched uid f (suc branch.uid) branches next (omega (arith, less, numbered.0)) numbered.1)

-- the uid at a place is at least the first number
at_least : (low : ℕ) (branches : List Branch) (next place : ℕ) (branch : Branch) → slice_get branches place ≡ Some branch → AreNumbered low branches next → low ≤ branch.uid
at_least low [] next place branch at numbered = absurd (cc)
at_least low (first ∷ branches) next zero branch at numbered =
    let same : first.uid ≡ branch.uid = (let is : first ≡ branch = cc in ap (λ (b : Branch). b.uid) is) in omega (arith, same, numbered.0)
at_least low (first ∷ branches) next (suc place) branch at numbered =
    omega (arith, numbered.0, at_least (suc first.uid) branches next place branch at numbered.1)

-- the branch of a uid is the one at its place, and changing it changes no other
pub found_at : (low : ℕ) (branches : List Branch) (next place : ℕ) (branch : Branch) → slice_get branches place ≡ Some branch → AreNumbered low branches next
    → branch_of branches branch.uid ≡ Some branch
found_at low [] next place branch at numbered = absurd (cc)
found_at low (first ∷ branches) next zero branch at numbered =
    let is : first ≡ branch = cc in
    ap (λ (b : Bool). cond b (Some first) (branch_of branches branch.uid)) (equal first.uid branch.uid (ap (λ (b : Branch). b.uid) is)) ∙ at
found_at low (first ∷ branches) next (suc place) branch at numbered =
    let later = at_least (suc first.uid) branches next place branch at numbered.1 in
    ap (λ (b : Bool). cond b (Some first) (branch_of branches branch.uid)) (unequal first.uid branch.uid (λ same. omega (arith, same, later)))
    ∙ found_at (suc first.uid) branches next place branch at numbered.1

pub changed_at : (f : Branch → Branch) (low : ℕ) (branches : List Branch) (next place : ℕ) (branch : Branch) → slice_get branches place ≡ Some branch
    → AreNumbered low branches next → slice_set branches place (f branch) ≡ changed branch.uid f branches
changed_at f low [] next place branch at numbered = absurd (cc)
changed_at f low (first ∷ branches) next zero branch at numbered =
    let is : first ≡ branch = cc in
    let same : first.uid ≡ branch.uid = ap (λ (b : Branch). b.uid) is in
    sym (ap (λ (b : Bool). cond b (f first) first ∷ changed branch.uid f branches) (equal first.uid branch.uid same)
    ∙ ap (λ (rest : List Branch). f first ∷ rest) (untouched branch.uid f (suc first.uid) branches next (omega (arith, same)) numbered.1)
    ∙ ap (λ (b : Branch). f b ∷ branches) is)
changed_at f low (first ∷ branches) next (suc place) branch at numbered =
    let later = at_least (suc first.uid) branches next place branch at numbered.1 in
    sym (ap (λ (b : Bool). cond b (f first) first ∷ changed branch.uid f branches) (unequal first.uid branch.uid (λ same. omega (arith, same, later)))
    ∙ ap (λ (rest : List Branch). first ∷ rest) (sym (changed_at f (suc first.uid) branches next place branch at numbered.1)))

-- where there is no branch of a uid, changing it changes nothing
pub none_changed : (uid : ℕ) (f : Branch → Branch) (branches : List Branch) → branch_of branches uid ≡ None → changed uid f branches ≡ branches
none_changed uid f [] none = refl
none_changed uid f (branch ∷ branches) none = by (branch.uid == uid) refl none (none_changed uid f branches)
  where
    by : (b : Bool) → (branch.uid == uid) ≡ b → cond b (Some branch) (branch_of branches uid) ≡ None → (branch_of branches uid ≡ None → changed uid f branches ≡ branches)
        → cond b (f branch) branch ∷ changed uid f branches ≡ branch ∷ branches
    by true is none rest = absurd (cc)
    by false is none rest = ap (λ (later : List Branch). branch ∷ later) (rest none)

-- the branch at the place of a uid
record IsPlaced (branches : List Branch) (uid place : ℕ) : Type 0 where
  branch : Branch
  at : slice_get branches place ≡ Some branch
  own : branch.uid ≡ uid

abbrev nobody : Branch
nobody = record { uid = 0; parent = 0; name = []; node = IsLink [] }

placed : (branches : List Branch) (uid place : ℕ) → position (λ branch. branch.uid == uid) branches ≡ Some place → IsPlaced branches uid place
placed branches uid place is =
    let found = position-Some (λ (branch : Branch). branch.uid == uid) branches place nobody is in
    record {
      branch = get_or branches place nobody;
      at = slice_get-get_or branches place nobody found.0;
      own = let same = found.1 in grind arith;
    }

absent : (branches : List Branch) (uid : ℕ) → position (λ branch. branch.uid == uid) branches ≡ None → branch_of branches uid ≡ None
absent branches uid is = by (nat_lt (position_or_len (λ (branch : Branch). branch.uid == uid) branches) (length branches)) refl is
  where
    by : (b : Bool) → nat_lt (position_or_len (λ (branch : Branch). branch.uid == uid) branches) (length branches) ≡ b
        → cond b (Some (position_or_len (λ (branch : Branch). branch.uid == uid) branches)) None ≡ None → branch_of branches uid ≡ None
    by true within none = absurd (cc)
    by false past none =
        find_at (λ (branch : Branch). branch.uid == uid) branches
        ∙ slice_get_past branches (position_or_len (λ (branch : Branch). branch.uid == uid) branches) (grind arith)

-- what was found of the branch of a uid is so of that
module _ (branches : List Branch) (next uid : ℕ) (old : Listed) (is : record { branches = branches; next = next } ≡ old) (P : Option Branch → Type 0) where
  abbrev here : Listed
  here = record { branches = branches; next = next }

  pub of_branch : (place : ℕ) → position (λ branch. branch.uid == uid) branches ≡ Some place → AreNumbered 1 branches next
      → ((branch : Branch) → slice_get branches place ≡ Some branch → P (Some branch)) → P (branch_of old.branches uid)
  of_branch place at numbered so =
      let there = placed branches uid place at in
      let found : branch_of branches uid ≡ Some there.branch =
      ap (branch_of branches) (sym there.own) ∙ found_at 1 branches next place there.branch there.at numbered in
      subst (λ (list : Listed). P (branch_of list.branches uid)) is (subst P (sym found) (so there.branch there.at))

  pub of_none : position (λ branch. branch.uid == uid) branches ≡ None → P None → P (branch_of old.branches uid)
  of_none at so = subst (λ (list : Listed). P (branch_of list.branches uid)) is (subst P (sym (absent branches uid at)) so)

-- a branch that is changed in its place, and keeps its uid
module _ (f : Branch → Branch) (keeps : (branch : Branch) → (f branch).uid ≡ branch.uid) (branches : List Branch) (next uid : ℕ)
    (old : Listed) (is : record { branches = branches; next = next } ≡ old) where
  pub unlisted : position (λ branch. branch.uid == uid) branches ≡ None → old ≡ listed_changed old uid f
  unlisted at =
      sym (ap (λ (list : Listed). listed_changed list uid f) (sym is)
      ∙ ap (λ (later : List Branch). record { branches = later; next = next }) (none_changed uid f branches (absent branches uid at)) ∙ is)

  module _ (numbered : AreNumbered 1 branches next) (place : ℕ) (at : position (λ branch. branch.uid == uid) branches ≡ Some place) (new : List Branch) where
    pub set_numbered : ((branch : Branch) → slice_get branches place ≡ Some branch → new ≡ slice_set branches place (f branch)) → AreNumbered 1 new next
    set_numbered set =
        let there = placed branches uid place at in
        subst (λ (list : List Branch). AreNumbered 1 list next) (sym (set there.branch there.at))
        (numbered_set 1 branches next place there.branch (f there.branch) there.at (keeps there.branch) numbered)

    pub set_listed : ((branch : Branch) → slice_get branches place ≡ Some branch → new ≡ slice_set branches place (f branch))
        → record { branches = new; next = next } ≡ listed_changed old uid f
    set_listed set =
        let there = placed branches uid place at in
        ap (λ (later : List Branch). record { branches = later; next = next })
        (set there.branch there.at ∙ changed_at f 1 branches next place there.branch there.at numbered ∙ ap (λ n. changed n f branches) there.own)
        ∙ ap (λ (list : Listed). listed_changed list uid f) is

    -- the same where this may have failed, which changes nothing
    pub kept_numbered : {E : Type 0} (result : Result (Unit {0}) E)
        → OnOk result ((branch : Branch) → slice_get branches place ≡ Some branch → new ≡ slice_set branches place (f branch))
        → OnErr result (new ≡ branches) → AreNumbered 1 new next
    kept_numbered (Ok done) set same = set_numbered set
    kept_numbered (Err e) set same = subst (λ (list : List Branch). AreNumbered 1 list next) (sym same) numbered
