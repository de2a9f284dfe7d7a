-- A refusal of every request that makes an entry is that of each.
use Rattle.std.proofs.Common.{◌≡◌, ◌==◌, ◌≤◌, ◌<◌, ◌-◌, length, slice_get, length-append, leb, ◌||◌, ltb, ℕ, is_none, not, Option, None, refl, arith, Bool, true, false, cond, List, [], ◌∷◌, ◌++◌, Some, Result, Ok, Err, ap, sym, subst, ◌∙◌}
use Rattle.std.proofs.lemmas.Bool.{or_parts}
use Rattle.std.proofs.Math.Seq.{take-append_seam}
use Rattle.std.specs.List.{list_any}
use Rattle.std.specs.Map.{lookup}
use Rattle.std.specs.Option.{option_map}
use Rattle.mx_name.specs.Names.{same_name}
use Rattle.mx_object.specs.Objects.{PlainObjectMap}
use Rattle.mx_hier.specs.declared.branches.Directory.{Directory}
use Rattle.mx_acl.specs.Access.{Access}
use Rattle.mx_acl.specs.declared.modes.Modes.{Modes}
use Rattle.mx_hier.specs.declared.branches.Node.TheVariants.{Directory as IsDirectory}
use Rattle.mx_hier.specs.declared.branches.Node.{Node}
use Rattle.mx_hier.specs.declared.making.Place.{Place}
use Rattle.mx_hier.specs.declared.refusals.HierError.{HierError}
use Rattle.mx_hier.specs.declared.refusals.HierError.TheVariants.{Refused, Memory}
use Rattle.mx_sdw.specs.Rings.{Bracketing}
use Rattle.mx_hier.specs.declared.refusals.Refusal.{Refusal}
use Rattle.mx_hier.specs.declared.refusals.Refusal.TheVariants.{NotADir, IncorrectAccess, NameDup, BadLength, BadBrackets, NoPages}
use Rattle.mx_pages.specs.Runs.{pages_for, run_given}
use Rattle.mx_hier.specs.Branches.{Hierarchy, directory_at, holding}
use Rattle.mx_hier.specs.Brackets.{settable}
use Rattle.mx_hier.specs.Callers.{Subject, has_append, on}
use Rattle.mx_hier.specs.Objects.{gate_of, defined_in}
use Rattle.mx_hier.specs.MakeSegment.{Wanted, reaches_beyond, is_bad_length, make_segment_refusals, make_segment_at, new_segment, segment_added, segment_on_pages}
use Rattle.mx_hier.specs.CreateDirectory.{create_dir_refusals, new_directory, create_dir_at}
use Rattle.mx_hier.specs.Making.{place, entry_refusals, making_refusals, made, added, created_at, first_acl}
use Rattle.mx_hier.specs.Walks.{reached}
use Rattle.mx_hier.specs.Rules.{first_of, say, onward, required, unless, Answers, Tells, TellsFirst}

last_at : (parent : List (List ℕ)) (name : List ℕ) → slice_get (parent ++ name ∷ []) (length parent) ≡ Some name
last_at [] name = refl
last_at (first ∷ parent) name = last_at parent name

-- a path that ends with a name is that of a place in what its other names lead to
pub place_of : (h : Hierarchy) (who : Subject) (path parent : List (List ℕ)) (name : List ℕ) → path ≡ parent ++ name ∷ []
    → place h who path ≡ onward (reached h who true parent) (λ dir. Ok (record { dir = dir; name = name }))
place_of h who path parent name are =
    let before : length (parent ++ name ∷ []) - 1 ≡ length parent = omega (arith, length-append parent (name ∷ [])) in
    rw (are, before, last_at parent name, take-append_seam parent (name ∷ [])) refl

-- the path of no names is that of no place
pub no_place : (h : Hierarchy) (who : Subject) (path : List (List ℕ)) → path ≡ [] → place h who path ≡ Err NameDup
no_place h who path none = rw none refl

pub first_again : (rules own : List (Bool × Refusal)) (why : Refusal) → first_of rules ≡ Some why → first_of (rules ++ own) ≡ Some why
first_again [] own why is = absurd (cc)
first_again (rule ∷ rules) own why is = by rule.0 is (first_again rules own why)
  where
    by : (b : Bool) → cond b (Some rule.1) (first_of rules) ≡ Some why → (first_of rules ≡ Some why → first_of (rules ++ own) ≡ Some why)
        → cond b (Some rule.1) (first_of (rules ++ own)) ≡ Some why
    by true is rest = is
    by false is rest = rest is

-- where they do not apply, those that follow decide
first_past : (rules own : List (Bool × Refusal)) → first_of rules ≡ None → first_of (rules ++ own) ≡ first_of own
first_past [] own is = refl
first_past (rule ∷ rules) own is = by rule.0 is (first_past rules own)
  where
    by : (b : Bool) → cond b (Some rule.1) (first_of rules) ≡ None → (first_of rules ≡ None → first_of (rules ++ own) ≡ first_of own)
        → cond b (Some rule.1) (first_of (rules ++ own)) ≡ first_of own
    by true is rest = absurd (cc)
    by false is rest = rest is

made_refused : (h : Hierarchy) (at : Place) (rules : List (Bool × Refusal)) (make : Directory → Result Hierarchy Refusal) (why : Refusal)
    → first_of rules ≡ Some why → made h at rules make ≡ Err why
made_refused h at rules make why is = ap (λ refusal. onward (unless refusal at) (λ (at : Place). onward (required NotADir (directory_at h at.dir)) make)) is

made_all : (h : Hierarchy) (at : Place) (rules : List (Bool × Refusal)) (make : Directory → Result Hierarchy Refusal) (parent : Directory)
    → first_of rules ≡ None → directory_at h at.dir ≡ Some parent → made h at rules make ≡ make parent
made_all h at rules make parent none is =
    ap (λ refusal. onward (unless refusal at) (λ (at : Place). onward (required NotADir (directory_at h at.dir)) make)) none
    ∙ ap (λ directory. onward (required NotADir directory) make) is

-- where nothing refuses a making there is the directory
record HasParent (found : Option Directory) : Type 0 where
  parent : Directory
  is : found ≡ Some parent

has_parent : (found : Option Directory) (why : Refusal) (rules : List (Bool × Refusal)) → first_of ((is_none found, why) ∷ rules) ≡ None → HasParent found
has_parent None why rules none = absurd (cc)
has_parent (Some directory) why rules none = record { parent = directory; is = refl }

parent_of : (h : Hierarchy) (who : Subject) (at : Place) → first_of (making_refusals h who at) ≡ None → HasParent (directory_at h at.dir)
parent_of h who at none =
    has_parent (directory_at h at.dir) (say who NotADir (holding h at.dir))
    ((not (on (has_append who) (directory_at h at.dir)), say who IncorrectAccess (directory_at h at.dir)) ∷ entry_refusals h at) none

-- what nothing refuses but what refuses every making
pub node_refused : (h : Hierarchy) (who : Subject) (at : Place) (node : Node) (why : Refusal)
    → Some why ≡ first_of (making_refusals h who at) → created_at h who at node ≡ Err why
node_refused h who at node why is = made_refused h at (making_refusals h who at) (λ parent. Ok (added h at node)) why (sym is)

-- a directory
pub dir_refused : (h : Hierarchy) (who : Subject) (at : Place) (d1 d2 : ℕ) (why : Refusal)
    → Some why ≡ first_of (making_refusals h who at) → create_dir_at h who at d1 d2 ≡ Err why
dir_refused h who at d1 d2 why is =
    made_refused h at (create_dir_refusals h who at d1 d2) (λ parent. Ok (added h at (IsDirectory (new_directory parent who d1 d2)))) why
    (first_again (making_refusals h who at) ((ltb d2 d1 || ltb d1 who.ring, BadBrackets) ∷ []) why (sym is))

pub segment_refused : (h : Hierarchy) (who : Subject) (at : Place) (wanted : Wanted) (why : Refusal)
    → Some why ≡ first_of (making_refusals h who at) → make_segment_at h who at wanted ≡ Err why
segment_refused h who at wanted why is =
    made_refused h at (make_segment_refusals h who at wanted)
    (λ parent.
    onward (required BadBrackets (settable who.ring wanted.rings)) (λ brackets.
    onward (required NoPages (run_given h.pages (pages_for wanted.words))) (λ page.
    Ok (segment_added h at (new_segment parent who wanted.words brackets wanted.modes page) wanted.object))))
    why
    (first_again (making_refusals h who at)
    ((is_bad_length wanted.words wanted.object, BadLength) ∷ (is_none (settable who.ring wanted.rings), BadBrackets)
    ∷ (is_none (run_given h.pages (pages_for wanted.words)), NoPages) ∷ []) why (sym is))

own_refusals : Subject → Wanted → Option ℕ → List (Bool × Refusal)
own_refusals who wanted page =
    (is_bad_length wanted.words wanted.object, BadLength) ∷ (is_none (settable who.ring wanted.rings), BadBrackets) ∷ (is_none page, NoPages) ∷ []

-- a segment with a bad length, with bad brackets, without pages, and one that is made
module _ (h : Hierarchy) (who : Subject) (at : Place) (wanted : Wanted) (is_free : None ≡ first_of (making_refusals h who at)) where
  none : first_of (making_refusals h who at) ≡ None
  none = sym is_free

  page : Option ℕ
  page = run_given h.pages (pages_for wanted.words)

  make : Directory → Result Hierarchy Refusal
  make parent =
      onward (required BadBrackets (settable who.ring wanted.rings)) (λ brackets.
      onward (required NoPages (run_given h.pages (pages_for wanted.words))) (λ page.
      Ok (segment_added h at (new_segment parent who wanted.words brackets wanted.modes page) wanted.object)))

  pub segment_unfit : is_bad_length wanted.words wanted.object ≡ true → make_segment_at h who at wanted ≡ Err BadLength
  unfolding own_refusals page make
  segment_unfit bad =
      made_refused h at (make_segment_refusals h who at wanted) make BadLength
      (first_past (making_refusals h who at) (own_refusals who wanted page) none
      ∙ ap (λ (b : Bool). cond b (Some BadLength) (cond (is_none (settable who.ring wanted.rings)) (Some BadBrackets) (cond (is_none page) (Some NoPages) None))) bad)

  pub segment_unbracketed : is_bad_length wanted.words wanted.object ≡ false → settable who.ring wanted.rings ≡ None
      → make_segment_at h who at wanted ≡ Err BadBrackets
  unfolding own_refusals page make
  segment_unbracketed fit bad =
      made_refused h at (make_segment_refusals h who at wanted) make BadBrackets
      (first_past (making_refusals h who at) (own_refusals who wanted page) none
      ∙ ap (λ (b : Bool). cond b (Some BadLength) (cond (is_none (settable who.ring wanted.rings)) (Some BadBrackets) (cond (is_none page) (Some NoPages) None))) fit
      ∙ ap (λ (o : Option Bracketing). cond (is_none o) (Some BadBrackets) (cond (is_none page) (Some NoPages) None)) bad)

  segment_unpaged : (brackets : Bracketing) → is_bad_length wanted.words wanted.object ≡ false → settable who.ring wanted.rings ≡ Some brackets
      → run_given h.pages (pages_for wanted.words) ≡ None → make_segment_at h who at wanted ≡ Err NoPages
  unfolding own_refusals page make
  segment_unpaged brackets fit good lacking =
      made_refused h at (make_segment_refusals h who at wanted) make NoPages
      (first_past (making_refusals h who at) (own_refusals who wanted page) none
      ∙ ap (λ (b : Bool). cond b (Some BadLength) (cond (is_none (settable who.ring wanted.rings)) (Some BadBrackets) (cond (is_none page) (Some NoPages) None))) fit
      ∙ ap (λ (o : Option Bracketing). cond (is_none o) (Some BadBrackets) (cond (is_none page) (Some NoPages) None)) good
      ∙ ap (λ (o : Option ℕ). cond (is_none o) (Some NoPages) None) lacking)

  segment_made : (brackets : Bracketing) (first : ℕ) (parent : Directory) → is_bad_length wanted.words wanted.object ≡ false
      → settable who.ring wanted.rings ≡ Some brackets → run_given h.pages (pages_for wanted.words) ≡ Some first → directory_at h at.dir ≡ Some parent
      → make_segment_at h who at wanted ≡ Ok (segment_added h at (new_segment parent who wanted.words brackets wanted.modes first) wanted.object)
  unfolding own_refusals page make
  segment_made brackets first parent fit good some is =
      made_all h at (make_segment_refusals h who at wanted) make parent
      (first_past (making_refusals h who at) (own_refusals who wanted page) none
      ∙ ap (λ (b : Bool). cond b (Some BadLength) (cond (is_none (settable who.ring wanted.rings)) (Some BadBrackets) (cond (is_none page) (Some NoPages) None))) fit
      ∙ ap (λ (o : Option Bracketing). cond (is_none o) (Some BadBrackets) (cond (is_none page) (Some NoPages) None)) good
      ∙ ap (λ (o : Option ℕ). cond (is_none o) (Some NoPages) None) some)
      is
      ∙ ap (λ (o : Option Bracketing).
      onward (required BadBrackets o) (λ brackets.
      onward (required NoPages (run_given h.pages (pages_for wanted.words))) (λ page.
      Ok (segment_added h at (new_segment parent who wanted.words brackets wanted.modes page) wanted.object)))) good
      ∙ ap (λ (o : Option ℕ).
      onward (required NoPages o) (λ page. Ok (segment_added h at (new_segment parent who wanted.words brackets wanted.modes page) wanted.object))) some

  pub segment_left : (brackets : Bracketing) → is_bad_length wanted.words wanted.object ≡ false → settable who.ring wanted.rings ≡ Some brackets
      → make_segment_at h who at wanted ≡ segment_on_pages h who at wanted.words brackets wanted.modes wanted.object
  segment_left brackets fit good = by (run_given h.pages (pages_for wanted.words)) refl
    where
      by : (o : Option ℕ) → run_given h.pages (pages_for wanted.words) ≡ o
          → make_segment_at h who at wanted
          ≡ onward (required NoPages o) (λ page.
          onward (required NotADir (directory_at h at.dir)) (λ parent.
          Ok (segment_added h at (new_segment parent who wanted.words brackets wanted.modes page) wanted.object)))
      by None is = segment_unpaged brackets fit good is
      by (Some first) is =
          let found = parent_of h who at none in
          segment_made brackets first found.parent fit good is found.is
          ∙ sym (ap (λ (found : Option Directory). onward (required NotADir found) (λ parent.
          Ok (segment_added h at (new_segment parent who wanted.words brackets wanted.modes first) wanted.object))) found.is)

-- the access list of what is made is that which its directory gives
record IsGiven (found : Option Directory) (list : Directory → Access) (acl : Access) : Type 0 where
  parent : Directory
  is : found ≡ Some parent
  gives : list parent ≡ acl

is_given : (found : Option Directory) (list : Directory → Access) (acl : Access) → option_map list found ≡ Some acl → IsGiven found list acl
is_given None list acl e = absurd (cc)
is_given (Some parent) list acl e = record { parent = parent; is = refl; gives = cc }

-- a segment that has its pages
pub pages_there : (h : Hierarchy) (who : Subject) (at : Place) (words first : ℕ) (brackets : Bracketing) (modes : Modes) (object : Option PlainObjectMap) (acl : Access)
    → run_given h.pages (pages_for words) ≡ Some first
    → option_map (λ (parent : Directory). first_acl parent.initial.segments who modes) (directory_at h at.dir) ≡ Some acl
    → segment_on_pages h who at words brackets modes object
    ≡ Ok (segment_added h at (record { acl = acl; class = who.authorization; brackets = brackets; words = words; page = first }) object)
pages_there h who at words first brackets modes object acl there given =
    let g = is_given (directory_at h at.dir) (λ (parent : Directory). first_acl parent.initial.segments who modes) acl given in
    ap (λ (o : Option ℕ).
    onward (required NoPages o) (λ page.
    onward (required NotADir (directory_at h at.dir)) (λ parent.
    Ok (segment_added h at (new_segment parent who words brackets modes page) object)))) there
    ∙ ap (λ (o : Option Directory).
    onward (required NotADir o) (λ parent. Ok (segment_added h at (new_segment parent who words brackets modes first) object))) g.is
    ∙ ap (λ (acl : Access).
    Ok (segment_added h at (record { acl = acl; class = who.authorization; brackets = brackets; words = words; page = first }) object)) g.gives

-- what a call answers is what an equal definition says
pub answers_as : {A : Type 0} {meant same : Result Hierarchy Refusal} (h : Hierarchy) (result : Result A HierError) (new : Hierarchy) → same ≡ meant
    → Answers meant h result new → Answers same h result new
answers_as h result new e found = subst (λ (m : Result Hierarchy Refusal). Answers m h result new) (sym e) found

pub tells_first_as : {A : Type 0} {meant same : Result Hierarchy Refusal} (result : Result A HierError) → same ≡ meant
    → TellsFirst meant result → TellsFirst same result
tells_first_as result e told = subst (λ (m : Result Hierarchy Refusal). TellsFirst m result) (sym e) told

-- what a request comes to that goes on where a place was found
onward_ok : {A B C : Type 0} (r : Result A Refusal) (f : A → Result B Refusal) (g : B → Result C Refusal) (b : B) → onward r f ≡ Ok b
    → onward r (λ a. onward (f a) g) ≡ g b
onward_ok (Ok a) f g b e = ap (λ r. onward r g) e
onward_ok (Err why) f g b e = absurd (cc)

onward_err : {A B C : Type 0} (r : Result A Refusal) (f : A → Result B Refusal) (g : B → Result C Refusal) (why : Refusal) → onward r f ≡ Err why
    → onward r (λ a. onward (f a) g) ≡ Err why
onward_err (Ok a) f g why e = ap (λ r. onward r g) e
onward_err (Err w) f g why e = let same : w ≡ why = cc in ap (λ w. Err w) same

pub placed_then : {A B C : Type 0} (r : Result A Refusal) (f : A → Result B Refusal) (g : B → Result Hierarchy Refusal) (b : B) (h : Hierarchy)
    (result : Result C HierError) (new : Hierarchy) → onward r f ≡ Ok b → Answers (g b) h result new
    → Answers (onward r (λ a. onward (f a) g)) h result new
placed_then r f g b h result new e found =
    subst (λ (meant : Result Hierarchy Refusal). Answers meant h result new) (sym (onward_ok r f g b e)) found

pub resolved_then : {A : Type 0} (r : Result A Refusal) (a b : A) (g : A → Result Hierarchy Refusal) (h : Hierarchy) (result : Result (Unit {0}) HierError)
    (new : Hierarchy) → r ≡ Ok a → b ≡ a → Answers (g b) h result new → Answers (onward r g) h result new
resolved_then r a b g h result new e f found =
    subst (λ (meant : Result Hierarchy Refusal). Answers meant h result new) (ap g f ∙ sym (ap (λ r. onward r g) e)) found

pub not_placed : {A B : Type 0} (C : Type 0) (r : Result A Refusal) (f : A → Result B Refusal) (g : B → Result Hierarchy Refusal) (h : Hierarchy)
    (error : HierError) → Tells (onward r f) (Err error) → Answers {A = C} (onward r (λ a. onward (f a) g)) h (Err error) h
not_placed C r f g h (Refused why) e = (onward_err r f g why e, refl)
not_placed C r f g h Memory e = refl

pub told_first : {A B C : Type 0} (r : Result A Refusal) (f : A → Result B Refusal) (b : B) (result : Result C HierError) → onward r f ≡ Ok b
    → TellsFirst r result
told_first r f b (Ok value) e = tt
told_first r f b (Err (Refused why)) e = tt
told_first (Ok a) f b (Err Memory) e = refl
told_first (Err why) f b (Err Memory) e = absurd (cc)

pub told_alike : {A : Type 0} (B C : Type 0) (r : Result A Refusal) (error : HierError) → TellsFirst {A = A} {B = B} r (Err error)
    → TellsFirst {A = A} {B = C} r (Err error)
told_alike B C r (Refused why) told = tt
told_alike B C r Memory told = told

-- a length that is not bad
all_false : (a b c : Bool) → (a || b || c) ≡ false → (a ≡ false) × (b ≡ false) × (c ≡ false)
all_false true true c e = cc
all_false true false c e = cc
all_false false true c e = cc
all_false false false true e = cc
all_false false false false e = (refl, refl, refl)

some_words : (words : ℕ) → (words == 0) ≡ false → 1 ≤ words
some_words words e = grind arith

few_words : (words : ℕ) → ltb 1024 words ≡ false → words ≤ 1024
few_words words e = grind arith

few_gates : (words : ℕ) (object : Option PlainObjectMap) → words ≤ 1024 → on (reaches_beyond words) object ≡ false → gate_of object ≤ 1024
few_gates words None few e = omega arith
few_gates words (Some object) few e =
    let within : object.gate ≤ words = below words object.gate (or_parts (ltb words object.gate) _ e).0 in omega (arith, within, few)
  where
    below : (words gate : ℕ) → ltb words gate ≡ false → gate ≤ words
    below words gate e = grind arith

-- a definition at a word that there is
words_below : (definitions : List (List ℕ × ℕ)) (words word : ℕ) (symbol : List ℕ)
    → list_any (λ definition. leb words definition.1) definitions ≡ false → lookup (same_name symbol) definitions ≡ Some word → word < words
words_below [] words word symbol e f = absurd (cc)
words_below (x ∷ xs) words word symbol e f =
    let parts = or_parts (leb words x.1) _ e in
    by_name (same_name symbol x.0) parts.0 f (words_below xs words word symbol parts.1)
  where
    below : (at : ℕ) → leb words at ≡ false → at < words
    below at e = grind arith

    by_name : (b : Bool) → leb words x.1 ≡ false → cond b (Some x.1) (lookup (same_name symbol) xs) ≡ Some word
        → (lookup (same_name symbol) xs ≡ Some word → word < words) → word < words
    by_name true e f later = let same : x.1 ≡ word = cc in below word (ap (leb words) (sym same) ∙ e)
    by_name false e f later = later f

few_words_defined : (words : ℕ) (object : Option PlainObjectMap) → words ≤ 1024 → on (reaches_beyond words) object ≡ false
    → (word : ℕ) (symbol : List ℕ) → defined_in object symbol ≡ Some word → word < 1024
few_words_defined words None few e word symbol f = absurd (cc)
few_words_defined words (Some object) few e word symbol f =
    let within : word < words = words_below object.definitions words word symbol (or_parts (ltb words object.gate) _ e).1 f in
    omega (arith, within, few)

pub record IsGoodLength (words : ℕ) (object : Option PlainObjectMap) : Type 0 where
  pub some : 1 ≤ words
  pub few : words ≤ 1024
  pub gates : gate_of object ≤ 1024
  pub defined : (word : ℕ) (symbol : List ℕ) → defined_in object symbol ≡ Some word → word < 1024

pub good_length : (words : ℕ) (object : Option PlainObjectMap) → is_bad_length words object ≡ false → IsGoodLength words object
good_length words object e =
    let f = all_false (words == 0) (ltb 1024 words) (on (reaches_beyond words) object) e in
    let few = few_words words f.1 in
    record {
      some = some_words words f.0;
      few = few;
      gates = few_gates words object few f.2;
      defined = few_words_defined words object few f.2;
    }
