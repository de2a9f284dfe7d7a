-- The names that stand, of those stored.
use Rattle.std.proofs.Common.{ℕ, ◌≡◌, ◌<◌, ◌≤◌, Bool, true, false, cond, not, ◌==◌, ◌||◌, ◌&&◌, List, [], ◌∷◌, ◌++◌, length, get_or, map, set, Option, None, Some, is_some, refl, ap, sym, subst, ◌∙◌, append-nil, arith}
use Rattle.std.specs.List.{All, IsDistinct}
use Rattle.std.specs.Map.{keys_of, lookup, remove_entry}
use Rattle.std.proofs.lemmas.List.{length-append, length-map, length-set, get_or_append_left, get_or_default, map-set}
use Rattle.std.proofs.lemmas.List.Elements.{All-cons, All-head, All-tail, All-weaker, All-push, All-set, All-filter, filter-append}
use Rattle.std.proofs.lemmas.Map.Entries.{option_filter, lookup-filter-values}
use Rattle.std.proofs.Math.Seq.{map-set_same}
use Rattle.mx_name.specs.Names.{same_name}
use Rattle.mx_kst.specs.declared.lots.Lot.{Lot}
use Rattle.mx_kst.specs.declared.lots.Lot.TheVariants.{Free, Stack, Branch, Linkage}
use Rattle.mx_kst.specs.declared.segments.Known.{Known}
use Rattle.mx_kst.specs.Sections.{PlainSection}
use Rattle.mx_kst.specs.Lots.{is_branch, is_section_of, lot_of, number_of}
use Rattle.mx_kst.specs.Names.{RingNames, names_in, named}
use Rattle.mx_kst.specs.Stored.{standing, AreGiven, Holds, HoldAll}
use Rattle.mx_kst.specs.Initiating.{known_by, known_as, lots_given, lots_with, with_name}
use Rattle.mx_kst.specs.Terminating.{lots_without, names_without}
use Rattle.mx_kst.proofs.LotLaws.{mapped_at, freed, branch_within, stands, given_stands}
use Rattle.mx_kst.proofs.NameLaws.{same_name_laws}

standing_in : (lots : List Lot) (stored : List RingNames) (ring : ℕ) → names_in (map (standing lots) stored) ring ≡ standing lots (names_in stored ring)
standing_in lots stored ring = mapped_at (standing lots) stored ring [] refl

-- the number that a name stands for is the one stored with it, if that is the number of a segment
pub found_standing : (lots : List Lot) (name : List ℕ) (stored : RingNames) (found : Option ℕ) → IsDistinct same_name (keys_of stored)
    → found ≡ lookup (same_name name) stored → option_filter (λ n. is_branch (lot_of lots n)) found ≡ lookup (same_name name) (standing lots stored)
found_standing lots name stored found apart e =
    ap (option_filter (λ (n : ℕ). is_branch (lot_of lots n))) e
    ∙ sym (lookup-filter-values same_name_laws (λ n. is_branch (lot_of lots n)) name stored apart)

-- what is taken out

standing_twice : (lots : List Lot) (stored : RingNames) → standing lots (standing lots stored) ≡ standing lots stored
standing_twice lots [] = refl
standing_twice lots (e ∷ es) = by_test (is_branch (lot_of lots e.1)) refl (standing_twice lots es)
  where
    by_test : (b : Bool) → is_branch (lot_of lots e.1) ≡ b → standing lots (standing lots es) ≡ standing lots es
        → standing lots (cond b (e ∷ standing lots es) (standing lots es)) ≡ cond b (e ∷ standing lots es) (standing lots es)
    by_test true t rest = (λ j. cond (t j) (e ∷ rest j) (rest j))
    by_test false t rest = rest

standing_removed : (lots : List Lot) (test : List ℕ → Bool) (stored : RingNames) → lookup test (standing lots stored) ≡ None
    → standing lots (remove_entry test stored) ≡ standing lots stored
standing_removed lots test [] none = refl
standing_removed lots test (e ∷ es) none = by_test (test e.0) (is_branch (lot_of lots e.1)) refl refl none (standing_removed lots test es)
  where
    passed : test e.0 ≡ false → lookup test (e ∷ standing lots es) ≡ None → lookup test (standing lots es) ≡ None
    passed t none = sym (ap (λ b. cond b (Some e.1) (lookup test (standing lots es))) t) ∙ none

    by_test : (t b : Bool) → test e.0 ≡ t → is_branch (lot_of lots e.1) ≡ b → lookup test (cond b (e ∷ standing lots es) (standing lots es)) ≡ None
        → (lookup test (standing lots es) ≡ None → standing lots (remove_entry test es) ≡ standing lots es)
        → standing lots (cond t es (e ∷ remove_entry test es)) ≡ cond b (e ∷ standing lots es) (standing lots es)
    by_test true true t b none rest =
        let found : Some e.1 ≡ None = sym (ap (λ c. cond c (Some e.1) (lookup test (standing lots es))) t) ∙ none in
        absurd (cc)
    by_test true false t b none rest = refl
    by_test false true t b none rest = let left = rest (passed t none) in (λ j. cond (b j) (e ∷ left j) (left j))
    by_test false false t b none rest = let left = rest none in (λ j. cond (b j) (e ∷ left j) (left j))

given_removed : (lots : List Lot) (test : List ℕ → Bool) (stored : RingNames) → AreGiven lots stored → AreGiven lots (remove_entry test stored)
given_removed lots test [] given = given
given_removed lots test (e ∷ es) given = by_test (test e.0) (given_removed lots test es (All-tail (λ (entry : List ℕ × ℕ). entry.1 < length lots) e es given))
  where
    by_test : (b : Bool) → AreGiven lots (remove_entry test es) → AreGiven lots (cond b es (e ∷ remove_entry test es))
    by_test true rest = All-tail (λ (entry : List ℕ × ℕ). entry.1 < length lots) e es given
    by_test false rest =
        All-cons (λ (entry : List ℕ × ℕ). entry.1 < length lots) e (remove_entry test es)
        (All-head (λ (entry : List ℕ × ℕ). entry.1 < length lots) e es given) rest

pub holds_removed : (lots : List Lot) (test : List ℕ → Bool) (stored : RingNames) → lookup test (standing lots stored) ≡ None → AreGiven lots stored
    → Holds lots (remove_entry test stored) (standing lots stored)
holds_removed lots test stored none given = record {
  standing = standing_removed lots test stored none;
  given = given_removed lots test stored given;
}

pub holds_cleared : (lots : List Lot) (stored : RingNames) → AreGiven lots stored → Holds lots (standing lots stored) (standing lots stored)
holds_cleared lots stored given = record {
  standing = standing_twice lots stored;
  given =
      All-filter (λ (entry : List ℕ × ℕ). is_branch (lot_of lots entry.1)) (λ (entry : List ℕ × ℕ). entry.1 < length lots) stored given;
}

-- lots are added

given_longer : (lots later : List Lot) (stored : RingNames) → length lots ≤ length later → AreGiven lots stored → AreGiven later stored
given_longer lots later stored more given =
    All-weaker (λ (entry : List ℕ × ℕ). entry.1 < length lots) (λ (entry : List ℕ × ℕ). entry.1 < length later) (λ entry below. omega arith) stored given

all_given_longer : (lots later : List Lot) (stored : List RingNames) → length lots ≤ length later → All (AreGiven lots) stored → All (AreGiven later) stored
all_given_longer lots later stored more given = All-weaker (AreGiven lots) (AreGiven later) (λ names below. given_longer lots later names more below) stored given

longer : (lots more : List Lot) → length lots ≤ length (lots ++ more)
longer lots more = omega (arith, length-append lots more)

-- no number given later brings back a name
standing_longer : (lots more : List Lot) (stored : RingNames) → AreGiven lots stored → standing (lots ++ more) stored ≡ standing lots stored
standing_longer lots more [] given = refl
standing_longer lots more (e ∷ es) given =
    let same = ap is_branch (get_or_append_left lots more Free e.1 (All-head (λ (entry : List ℕ × ℕ). entry.1 < length lots) e es given)) in
    let rest = standing_longer lots more es (All-tail (λ (entry : List ℕ × ℕ). entry.1 < length lots) e es given) in
    (λ j. cond (same j) (e ∷ rest j) (rest j))

all_standing_longer : (lots more : List Lot) (stored : List RingNames) → All (AreGiven lots) stored → map (standing (lots ++ more)) stored ≡ map (standing lots) stored
all_standing_longer lots more [] given = refl
all_standing_longer lots more (names ∷ stored) given =
    let same = standing_longer lots more names (All-head (AreGiven lots) names stored given) in
    let rest = all_standing_longer lots more stored (All-tail (AreGiven lots) names stored given) in
    (λ j. same j ∷ rest j)

held : (lots more : List Lot) (stored : List RingNames) → All (AreGiven lots) stored → HoldAll (lots ++ more) stored (map (standing lots) stored)
held lots more stored given = record {
  standing = all_standing_longer lots more stored given;
  given = all_given_longer lots (lots ++ more) stored (longer lots more) given;
}

-- a name that comes last
pub holds_pushed : (lots more : List Lot) (name : List ℕ) (segno : ℕ) (kept names : RingNames) → Holds lots kept names
    → is_branch (lot_of (lots ++ more) segno) ≡ true → Holds (lots ++ more) (kept ++ (name, segno) ∷ []) (names ++ (name, segno) ∷ [])
holds_pushed lots more name segno kept names holds branch = record {
  standing =
      let same = standing_longer lots more kept holds.given ∙ holds.standing in
      filter-append (λ (entry : List ℕ × ℕ). is_branch (lot_of (lots ++ more) entry.1)) kept ((name, segno) ∷ [])
      ∙ (λ j. same j ++ cond (branch j) ((name, segno) ∷ []) []);
  given =
      All-push (λ (entry : List ℕ × ℕ). entry.1 < length (lots ++ more)) kept (name, segno)
      (given_longer lots (lots ++ more) kept (longer lots more) holds.given) (branch_within (lots ++ more) segno branch);
}

-- in one ring
held_set : (lots more : List Lot) (stored : List RingNames) (ring : ℕ) (own names : RingNames) → All (AreGiven lots) stored
    → Holds (lots ++ more) own names → HoldAll (lots ++ more) (set stored ring own) (set (map (standing lots) stored) ring names)
held_set lots more stored ring own names given holds = record {
  standing =
      let same = all_standing_longer lots more stored given in
      let here = holds.standing in
      map-set (standing (lots ++ more)) stored ring own ∙ (λ j. set (same j) ring (here j));
  given = All-set (AreGiven (lots ++ more)) stored ring own holds.given (all_given_longer lots (lots ++ more) stored (longer lots more) given);
}

-- where no name is given, nothing is added
pub held_unnamed : (lots more : List Lot) (stored : List RingNames) (ring segno : ℕ) (given_name : Option (List ℕ)) → given_name ≡ None
    → All (AreGiven lots) stored → HoldAll (lots ++ more) stored (with_name (map (standing lots) stored) ring given_name segno)
held_unnamed lots more stored ring segno None e given = held lots more stored given
held_unnamed lots more stored ring segno (Some name) e given = absurd (cc)

-- nor where it stands
pub held_there : (lots more : List Lot) (stored : List RingNames) (ring segno : ℕ) (name : List ℕ) (given_name : Option (List ℕ)) → given_name ≡ Some name
    → is_some (named (map (standing lots) stored) ring name) ≡ true → All (AreGiven lots) stored
    → HoldAll (lots ++ more) stored (with_name (map (standing lots) stored) ring given_name segno)
held_there lots more stored ring segno name given_name e there given =
    subst (λ (o : Option (List ℕ)). HoldAll (lots ++ more) stored (with_name (map (standing lots) stored) ring o segno)) (sym e)
    (subst (λ (b : Bool). HoldAll (lots ++ more) stored (cond b (map (standing lots) stored) (set (map (standing lots) stored) ring (names_in (map (standing lots) stored) ring ++ (name, segno) ∷ []))))
    (sym there) (held lots more stored given))

found_in : (stored : List RingNames) (ring index : ℕ) (default : RingNames) → index ≡ ring → ring < length stored → get_or stored index default ≡ names_in stored ring
found_in stored ring index default same within = ap (λ k. get_or stored k default) same ∙ get_or_default stored ring default [] within

-- else it comes last in its ring
pub held_added : (lots more : List Lot) (stored : List RingNames) (ring index segno : ℕ) (name : List ℕ) (given_name : Option (List ℕ)) (default own : RingNames)
    → given_name ≡ Some name → is_some (named (map (standing lots) stored) ring name) ≡ false → All (AreGiven lots) stored
    → index ≡ ring → ring < length stored → Holds (lots ++ more) own (standing lots (get_or stored index default) ++ (name, segno) ∷ [])
    → HoldAll (lots ++ more) (set stored index own) (with_name (map (standing lots) stored) ring given_name segno)
held_added lots more stored ring index segno name given_name default own e absent given same within holds =
    let here : standing lots (get_or stored index default) ≡ names_in (map (standing lots) stored) ring = ap (standing lots) (found_in stored ring index default same within) ∙ sym (standing_in lots stored ring) in
    subst (λ (o : Option (List ℕ)). HoldAll (lots ++ more) (set stored index own) (with_name (map (standing lots) stored) ring o segno)) (sym e)
    (subst (λ (b : Bool). HoldAll (lots ++ more) (set stored index own) (cond b (map (standing lots) stored) (set (map (standing lots) stored) ring (names_in (map (standing lots) stored) ring ++ (name, segno) ∷ []))))
    (sym absent)
    (subst (λ (k : ℕ). HoldAll (lots ++ more) (set stored k own) (set (map (standing lots) stored) ring (names_in (map (standing lots) stored) ring ++ (name, segno) ∷ [])))
    (sym same)
    (held_set lots more stored ring own _ given (subst (λ (names : RingNames). Holds (lots ++ more) own (names ++ (name, segno) ∷ [])) here holds))))

-- a ring that holds what it held
pub held_still : (lots : List Lot) (stored : List RingNames) (index : ℕ) (default own : RingNames) → All (AreGiven lots) stored
    → Holds lots own (standing lots (get_or stored index default)) → HoldAll lots (set stored index own) (map (standing lots) stored)
held_still lots stored index default own given holds = record {
  standing = map-set_same (standing lots) stored index own default holds.standing;
  given = All-set (AreGiven lots) stored index own holds.given given;
}

-- what is stored holds the names also with the lots of a segment that gets its number now
held_with : (lots : List Lot) (uid : ℕ) (section : Option PlainSection) (stored names : List RingNames)
    → ((more : List Lot) → is_branch (lot_of (lots ++ more) (known_as lots uid section).segno) ≡ true → HoldAll (lots ++ more) stored names)
    → HoldAll (lots_with lots (known_as lots uid section) uid section) stored names
held_with lots uid section stored names holds = by_number (number_of lots uid) refl holds
  where
    by_number : (o : Option ℕ) → number_of lots uid ≡ o
        → ((more : List Lot) → is_branch (lot_of (lots ++ more) (known_by o (length lots) section).segno) ≡ true → HoldAll (lots ++ more) stored names)
        → HoldAll (lots_with lots (known_by o (length lots) section) uid section) stored names
    by_number (Some own) e holds =
        let none_more : lots ++ [] ≡ lots = append-nil lots in
        let branch = ap (λ (xs : List Lot). is_branch (lot_of xs own)) none_more ∙ ap is_branch (stands lots uid own e) in
        subst (λ (xs : List Lot). HoldAll xs stored names) none_more (holds [] branch)
    by_number None e holds = holds (lots_given (length lots) uid section) (ap is_branch (given_stands lots (length lots) uid section))

-- the same of a call that saw those lots and names
pub held_after : (lots seen : List Lot) (stored seen_stored after : List RingNames) (uid ring : ℕ) (name : Option (List ℕ)) (section : Option PlainSection) (known : Known)
    → seen ≡ lots → seen_stored ≡ stored → known ≡ known_as lots uid section
    → ((more : List Lot) → is_branch (lot_of (seen ++ more) known.segno) ≡ true
    → HoldAll (seen ++ more) after (with_name (map (standing seen) seen_stored) ring name known.segno))
    → HoldAll (lots_with lots (known_as lots uid section) uid section) after (with_name (map (standing lots) stored) ring name (known_as lots uid section).segno)
held_after lots seen stored seen_stored after uid ring name section known p q r holds =
    held_with lots uid section after (with_name (map (standing lots) stored) ring name (known_as lots uid section).segno)
    (subst (λ (x : Known). (more : List Lot) → is_branch (lot_of (lots ++ more) x.segno) ≡ true → HoldAll (lots ++ more) after (with_name (map (standing lots) stored) ring name x.segno)) r
    (subst (λ (ys : List RingNames). (more : List Lot) → is_branch (lot_of (lots ++ more) known.segno) ≡ true → HoldAll (lots ++ more) after (with_name (map (standing lots) ys) ring name known.segno)) q
    (subst (λ (xs : List Lot). (more : List Lot) → is_branch (lot_of (xs ++ more) known.segno) ≡ true → HoldAll (xs ++ more) after (with_name (map (standing xs) seen_stored) ring name known.segno)) p holds)))

-- a number and its linkage section are taken away

left_branch : (b : Bool) (segno : ℕ) (lot : Lot) → is_branch (cond (b || is_section_of segno lot) Free lot) ≡ (is_branch lot && not b)
left_branch true segno Free = refl
left_branch true segno (Stack ring) = refl
left_branch true segno (Branch uid) = refl
left_branch true segno (Linkage of page brackets words) = refl
left_branch false segno Free = refl
left_branch false segno (Stack ring) = refl
left_branch false segno (Branch uid) = refl
left_branch false segno (Linkage of page brackets words) = by_test (of == segno)
  where
    by_test : (b : Bool) → is_branch (cond b Free (Linkage of page brackets words)) ≡ false
    by_test true = refl
    by_test false = refl

first_left : (b : Bool) (segno : ℕ) (e : List ℕ × ℕ) (rest : RingNames)
    → cond (b && not (e.1 == segno)) (e ∷ names_without segno rest) (names_without segno rest) ≡ names_without segno (cond b (e ∷ rest) rest)
first_left true segno e rest = refl
first_left false segno e rest = refl

standing_without : (lots : List Lot) (segno : ℕ) (stored : RingNames) → standing (lots_without segno lots) stored ≡ names_without segno (standing lots stored)
standing_without lots segno [] = refl
standing_without lots segno (e ∷ es) =
    let same = ap is_branch (freed lots segno e.1) ∙ left_branch (e.1 == segno) segno (lot_of lots e.1) in
    let rest = standing_without lots segno es in
    (λ j. cond (same j) (e ∷ rest j) (rest j)) ∙ first_left (is_branch (lot_of lots e.1)) segno e (standing lots es)

pub all_standing_without : (lots : List Lot) (segno : ℕ) (stored : List RingNames)
    → map (standing (lots_without segno lots)) stored ≡ map (names_without segno) (map (standing lots) stored)
all_standing_without lots segno [] = refl
all_standing_without lots segno (names ∷ stored) =
    let same = standing_without lots segno names in
    let rest = all_standing_without lots segno stored in
    (λ j. same j ∷ rest j)

pub given_without : (lots : List Lot) (segno : ℕ) (stored : List RingNames) → All (AreGiven lots) stored → All (AreGiven (lots_without segno lots)) stored
given_without lots segno stored given =
    let same : length (lots_without segno lots) ≡ length lots = simp (length-map, length-set) in
    all_given_longer lots (lots_without segno lots) stored (omega arith) given
