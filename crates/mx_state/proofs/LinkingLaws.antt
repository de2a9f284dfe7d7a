-- Where a link leads there is a segment, with an object map that defines the symbol.
use Rattle.std.proofs.Common.{◌≡◌, ℕ, Bool, true, false, cond, List, [], ◌∷◌, Option, Some, None, is_some, Result, Ok, Err, refl, sym, ap, ◌∙◌}
use Rattle.std.specs.Option.{option_and_then}
use Rattle.mx_hier.specs.Branches.{Hierarchy, holder, object_at, segment_at}
use Rattle.mx_hier.specs.Callers.{Subject, has_access, on}
use Rattle.mx_hier.specs.Find.{accessible, find_at, find_in}
use Rattle.mx_hier.specs.Objects.{defined_in}
use Rattle.mx_hier.specs.Walks.{walk}
use Rattle.mx_hier.specs.declared.branches.Directory.{Directory as DirectoryValue}
use Rattle.mx_hier.specs.declared.branches.Segment.{Segment}
use Rattle.mx_hier.specs.declared.refusals.Refusal.{Refusal}
use Rattle.mx_kst.specs.KnownSegments.{KnownSegments}
use Rattle.mx_kst.specs.Names.{named}
use Rattle.mx_link.specs.Targets.{at_word, in_object, in_segment}
use Rattle.mx_link.specs.declared.resolving.LinkError.{LinkError}
use Rattle.mx_link.specs.declared.resolving.LinkError.TheVariants as error
use Rattle.mx_link.specs.declared.resolving.Target.{Target}
use Rattle.mx_object.specs.Objects.{PlainObjectMap, word_of}
use Rattle.mx_search.specs.Searching.{answers, first_found}
use Rattle.mx_search.specs.declared.rules.Rule.{Rule}
use Rattle.mx_search.specs.declared.rules.Rule.TheVariants.{InitiatedSegments, ReferencingDir, WorkingDir, Directory}
use Rattle.mx_search.specs.declared.searching.Found.{Found}
use Rattle.mx_search.specs.declared.searching.Found.TheVariants as found
use Rattle.mx_state.specs.declared.linking.Link.{Link}
use Rattle.mx_state.specs.declared.states.ProcessState.{ProcessState}
use Rattle.mx_state.specs.Askers.{caller}
use Rattle.mx_state.specs.Linking.{branch_found, found_object, found_uid, known_uid, link_target, rule_finds, standing}

-- what is found is a segment that stands
pub record Stands (h : Hierarchy) (known : KnownSegments) (it : Found) : Type 0 where
  pub uid : ℕ
  pub found : found_uid known it ≡ Some uid
  pub segment : is_some (segment_at h uid) ≡ true

known_found : (h : Hierarchy) (known : KnownSegments) (it : Found) (o : Option ℕ) → option_and_then (standing h known) o ≡ Some it
    → Stands h known it
known_found h known it None e = absurd (cc)
known_found h known it (Some segno) e = by_uid (known_uid known segno) refl e
  where
    by_test : (uid : ℕ) (b : Bool) → is_some (segment_at h uid) ≡ b → known_uid known segno ≡ Some uid
        → cond b (Some (found.Known segno)) None ≡ Some it → Stands h known it
    by_test uid true t f e =
        let same : found.Known segno ≡ it = cc in
        record { uid = uid; found = ap (found_uid known) (sym same) ∙ f; segment = t }
    by_test uid false t f e = absurd (cc)

    by_uid : (o : Option ℕ) → known_uid known segno ≡ o
        → cond (is_some (option_and_then (segment_at h) o)) (Some (found.Known segno)) None ≡ Some it → Stands h known it
    by_uid None f e = absurd (cc)
    by_uid (Some uid) f e = by_test uid (is_some (segment_at h uid)) refl f e

-- one to which access is left stands
accessible_stands : (h : Hierarchy) (who : Subject) (given : Result ℕ (Refusal × Option DirectoryValue)) (uid : ℕ)
    → accessible h who given ≡ Some uid → is_some (segment_at h uid) ≡ true
accessible_stands h who (Err refusal) uid e = absurd (cc)
accessible_stands h who (Ok at) uid e = by_segment (segment_at h at) refl e
  where
    by_access : (b : Bool) (own : Segment) → segment_at h at ≡ Some own → cond b (Some at) None ≡ Some uid → is_some (segment_at h uid) ≡ true
    by_access true own t e = let same : at ≡ uid = cc in ap (λ n. is_some (segment_at h n)) (sym same) ∙ ap is_some t
    by_access false own t e = absurd (cc)

    by_segment : (o : Option Segment) → segment_at h at ≡ o → cond (on (has_access who) o) (Some at) None ≡ Some uid
        → is_some (segment_at h uid) ≡ true
    by_segment None t e = absurd (cc)
    by_segment (Some own) t e = by_access (has_access who own) own t e

branch_stands : (h : Hierarchy) (known : KnownSegments) (it : Found) (o : Option ℕ)
    → ((uid : ℕ) → o ≡ Some uid → is_some (segment_at h uid) ≡ true) → branch_found o ≡ Some it → Stands h known it
branch_stands h known it None stands e = absurd (cc)
branch_stands h known it (Some uid) stands e =
    let same : found.Branch uid ≡ it = cc in
    record { uid = uid; found = ap (found_uid known) (sym same); segment = stands uid refl }

rule_stands : (h : Hierarchy) (process : ProcessState) (ring object : ℕ) (rule : Rule) (name : List ℕ) (it : Found)
    → rule_finds h process ring object rule name ≡ Some it → Stands h process.known it
rule_stands h process ring object InitiatedSegments name it e =
    known_found h process.known it (named process.known.names ring name) e
rule_stands h process ring object ReferencingDir name it e =
    branch_stands h process.known it (option_and_then (λ dir. find_in h (caller process ring).subject dir name) (holder h object))
    (by_holder (holder h object)) e
  where
    by_holder : (o : Option ℕ) (uid : ℕ) → option_and_then (λ dir. find_in h (caller process ring).subject dir name) o ≡ Some uid
        → is_some (segment_at h uid) ≡ true
    by_holder None uid f = absurd (cc)
    by_holder (Some dir) uid f =
        accessible_stands h (caller process ring).subject (walk 10 h true dir (name ∷ [])) uid f
rule_stands h process ring object WorkingDir name it e =
    branch_stands h process.known it (find_at h (caller process ring).subject process.working_directory name)
    (λ uid f. accessible_stands h (caller process ring).subject _ uid f) e
rule_stands h process ring object (Directory path) name it e =
    branch_stands h process.known it (find_at h (caller process ring).subject path name)
    (λ uid f. accessible_stands h (caller process ring).subject _ uid f) e

-- what all rules find, one of them finds
one_found : (answer : Rule → List ℕ → Option Found) (rules : List Rule) (name : List ℕ) (it : Found)
    → first_found (answers answer rules name) ≡ Some it → (rule : Rule) × (answer rule name ≡ Some it)
one_found answer [] name it e = cc
one_found answer (rule ∷ rules) name it e = by_answer (answer rule name) refl e (one_found answer rules name it)
  where
    by_answer : (o : Option Found) → answer rule name ≡ o → first_found (o ∷ answers answer rules name) ≡ Some it
        → (first_found (answers answer rules name) ≡ Some it → (rule : Rule) × (answer rule name ≡ Some it))
        → (rule : Rule) × (answer rule name ≡ Some it)
    by_answer None f e later = later e
    by_answer (Some own) f e later = (rule, f ∙ e)

-- a target is at the symbol's word in the object that is found
record IsTarget (object_of : Found → Option PlainObjectMap) (symbol : List ℕ) (given : Option Found) (to : Target) : Type 0 where
  there : given ≡ Some to.found
  word : defined_in (object_of to.found) symbol ≡ Some to.word

target_is : (object_of : Found → Option PlainObjectMap) (symbol : List ℕ) (given : Option Found) (to : Target)
    → in_segment object_of given symbol ≡ Ok to → IsTarget object_of symbol given to
target_is object_of symbol None to e = absurd (cc)
target_is object_of symbol (Some it) to e = by_object (object_of it) refl e
  where
    by_word : (object : PlainObjectMap) (o : Option ℕ) → object_of it ≡ Some object → word_of object symbol ≡ o → at_word it o ≡ Ok to
        → IsTarget object_of symbol (Some it) to
    by_word object None f g e = absurd (cc)
    by_word object (Some word) f g e =
        let same : record { found = it; word = word } ≡ to = cc in
        let own : it ≡ to.found = ap (λ (t : Target). t.found) same in
        let at : word ≡ to.word = ap (λ (t : Target). t.word) same in
        record { there = ap Some own; word = ap (λ x. defined_in (object_of x) symbol) (sym own) ∙ ap (λ o. defined_in o symbol) f ∙ g ∙ ap Some at }

    by_object : (o : Option PlainObjectMap) → object_of it ≡ o → in_object it o symbol ≡ Ok to → IsTarget object_of symbol (Some it) to
    by_object None f e = absurd (cc)
    by_object (Some object) f e = by_word object (word_of object symbol) f refl e

-- and the definition never wants for memory
pub remembers : (object_of : Found → Option PlainObjectMap) (symbol : List ℕ) (given : Option Found)
    → in_segment object_of given symbol ≡ Err error.Memory → ⊥
remembers object_of symbol None e = apart e
  where
    apart : ◌≡◌ {A = Result Target LinkError} (Err error.SegmentNotFound) (Err error.Memory) → ⊥
    apart e = cc
remembers object_of symbol (Some it) e = by_object (object_of it) e
  where
    by_word : (o : Option ℕ) → at_word it o ≡ Err error.Memory → ⊥
    by_word None e = cc
    by_word (Some word) e = cc

    by_object : (o : Option PlainObjectMap) → in_object it o symbol ≡ Err error.Memory → ⊥
    by_object None e = cc
    by_object (Some object) e = by_word (word_of object symbol) e

-- where a link leads there is a segment
pub target_stands : (h : Hierarchy) (process : ProcessState) (ring : ℕ) (it : Link) (to : Target) → link_target h process ring it ≡ Ok to
    → Stands h process.known to.found
target_stands h process ring it to e =
    let answer = rule_finds h process ring it.object in
    let is = target_is (found_object h process.known) it.symbol (first_found (answers answer process.rules it.segment)) to e in
    let one = one_found answer process.rules it.segment to.found is.there in
    rule_stands h process ring it.object one.0 it.segment to.found one.1

-- the same of a uid that is that of what was found
pub found_stands : (h : Hierarchy) (process : ProcessState) (ring : ℕ) (it : Link) (to : Target) (uid : ℕ) → link_target h process ring it ≡ Ok to
    → found_uid process.known to.found ≡ Some uid → is_some (segment_at h uid) ≡ true
found_stands h process ring it to uid e f =
    let stands = target_stands h process ring it to e in
    let same : stands.uid ≡ uid = cc in
    ap (λ n. is_some (segment_at h n)) (sym same) ∙ stands.segment

pub found_word : (h : Hierarchy) (process : ProcessState) (ring : ℕ) (it : Link) (to : Target) (uid : ℕ) → link_target h process ring it ≡ Ok to
    → found_uid process.known to.found ≡ Some uid → defined_in (object_at h uid) it.symbol ≡ Some to.word
found_word h process ring it to uid e f =
    let is = target_is (found_object h process.known) it.symbol
    (first_found (answers (rule_finds h process ring it.object) process.rules it.segment)) to e in
    ap (λ o. defined_in (option_and_then (object_at h) o) it.symbol) (sym f) ∙ is.word
