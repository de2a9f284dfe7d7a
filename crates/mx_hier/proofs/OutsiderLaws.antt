-- A caller without any access to any directory changes nothing, and is told nothing.
use Rattle.std.proofs.Common.{◌≡◌, ◌≢◌, ◌∙◌, inr, ℕ, ◌-◌, nat_le, Bool, true, false, ◌||◌, not, List, [], ◌∷◌, ◌++◌, length, get_or, slice_get, Option, Some, None, is_none, is_some, Result, Ok, Err, refl, ap, arith, rules}
use Rattle.std.proofs.lemmas.Option.{slice_get-get_or}
use Rattle.std.specs.Option.{option_and_then}
use Rattle.mx_name.specs.Identifiers.{PlainAclId}
use Rattle.mx_acl.specs.Access.{with_entry, without_entry}
use Rattle.mx_acl.specs.declared.modes.AclKind.{AclKind}
use Rattle.mx_acl.specs.declared.modes.Modes.{Modes}
use Rattle.mx_aim.specs.Classes.{PlainClass}
use Rattle.mx_acl.specs.declared.modes.Modes.TheVariants.{Rw, Re}
use Rattle.mx_object.specs.Objects.{PlainObjectMap}
use Rattle.mx_hier.specs.declared.branches.Directory.{Directory}
use Rattle.mx_hier.specs.declared.making.Place.{Place}
use Rattle.mx_hier.specs.declared.refusals.Refusal.{Refusal}
use Rattle.mx_hier.specs.declared.refusals.Refusal.TheVariants.{NoInfo, NotADir, IncorrectAccess, NameDup, DirFull, BadBrackets, NoAclEntry}
use Rattle.mx_hier.specs.Branches.{Hierarchy, entries_of, uid_in, directory_at, holder, holding}
use Rattle.mx_hier.specs.Brackets.{settable}
use Rattle.mx_hier.specs.Callers.{Subject, Caller, has_status, has_modify, has_append, has_any, on}
use Rattle.mx_hier.specs.Changing.{changing_refusals}
use Rattle.mx_hier.specs.CreateDirectory.{create_dir, create_dir_at}
use Rattle.mx_hier.specs.CreateLink.{create_link, create_link_at}
use Rattle.mx_hier.specs.CreateObject.{create_object}
use Rattle.mx_hier.specs.CreateSegment.{create_seg}
use Rattle.mx_hier.specs.Delete.{delete, delete_at}
use Rattle.mx_hier.specs.DeleteAclEntry.{del_acl, del_acl_at}
use Rattle.mx_hier.specs.InitialLists.{initial_refusals, with_initial, set_iacl, set_iacl_at, del_iacl, del_iacl_at}
use Rattle.mx_hier.specs.Listed.{iacl_refusals, iacl_lacks}
use Rattle.mx_hier.specs.Making.{making_refusals, made, place, last_name, parent_path}
use Rattle.mx_hier.specs.MakeSegment.{Wanted, make_segment, make_segment_at}
use Rattle.mx_hier.specs.Rename.{rename, rename_at}
use Rattle.mx_hier.specs.Rules.{say, first_of, onward, required, unless}
use Rattle.mx_hier.specs.SetAcl.{set_acl, set_acl_at}
use Rattle.mx_hier.specs.SetBrackets.{set_brackets, set_brackets_at, set_brackets_refusals, with_brackets}
use Rattle.mx_hier.specs.SetClass.{set_class, set_class_at}
use Rattle.mx_hier.specs.SetDirectoryBrackets.{set_dir_brackets, set_dir_brackets_at}
use Rattle.mx_hier.specs.Strangers.{IsStranger, IsReticent, IsOutsider, IsTurnedAway}
use Rattle.mx_hier.specs.Walks.{entry, resolved, reached}
use Rattle.mx_hier.proofs.StrangerLaws.{silent, resolved_reticent, entry_reticent, walk_reticent}

-- of three modes none is left
or_left : (a b c : Bool) → (a || b || c) ≡ false → a ≡ false
or_left false b c e = refl
or_left true b c e = e

or_middle : (a b c : Bool) → (a || b || c) ≡ false → b ≡ false
or_middle false false c e = refl
or_middle false true c e = e
or_middle true b c e = absurd (search rules)

or_right : (a b c : Bool) → (a || b || c) ≡ false → c ≡ false
or_right false false c e = e
or_right false true c e = absurd (search rules)
or_right true b c e = absurd (search rules)

no_status : (who : Subject) (dir : Option Directory) → on (has_any who) dir ≡ false → on (has_status who) dir ≡ false
no_status who None e = refl
no_status who (Some d) e = or_left (has_status who d) (has_modify who d) (has_append who d) e

no_modify : (who : Subject) (dir : Option Directory) → on (has_any who) dir ≡ false → on (has_modify who) dir ≡ false
no_modify who None e = refl
no_modify who (Some d) e = or_middle (has_status who d) (has_modify who d) (has_append who d) e

no_append : (who : Subject) (dir : Option Directory) → on (has_any who) dir ≡ false → on (has_append who) dir ≡ false
no_append who None e = refl
no_append who (Some d) e = or_right (has_status who d) (has_modify who d) (has_append who d) e

abbrev placed : ℕ → List ℕ → Place
placed dir name = record { dir = dir; name = name }

-- what follows a refusal
first_turned : {A : Type 0} (a : Bool) (why : Refusal) (more : List (Bool × Refusal)) (value : A) → a ≡ true
    → why ≡ NoInfo → IsTurnedAway (unless (first_of ((a, why) ∷ more)) value)
first_turned true why more value e is = inr is
first_turned false why more value e is = absurd (search rules)

second_turned : {A : Type 0} (a b : Bool) (why other : Refusal) (more : List (Bool × Refusal)) (value : A)
    → why ≡ NoInfo → b ≡ true → other ≡ NoInfo
    → IsTurnedAway (unless (first_of ((a, why) ∷ (b, other) ∷ more)) value)
second_turned true b why other more value is e also = inr is
second_turned false b why other more value is e also = first_turned b other more value e also

turned_onward : {A B : Type 0} (given : Result A Refusal) (rest : A → Result B Refusal) → IsTurnedAway given
    → IsTurnedAway (onward given rest)
turned_onward (Ok value) rest is = absurd is
turned_onward (Err why) rest is = is

onward_turned : {A B : Type 0} (given : Result A Refusal) (rest : A → Result B Refusal) → IsReticent given
    → ((value : A) → given ≡ Ok value → IsTurnedAway (rest value)) → IsTurnedAway (onward given rest)
onward_turned (Ok value) rest is later = later value refl
onward_turned (Err why) rest is later = is

not_none : {A : Type 0} (o : Option A) (x : A) → o ≡ Some x → o ≡ None → ⊥
not_none None x is none = search rules
not_none (Some y) x is none = search rules

-- only the root's path has no last name
has_last : (name : List ℕ) (names : List (List ℕ)) → last_name (name ∷ names) ≡ None → ⊥
has_last name names e =
    let at = length (name ∷ names) - 1 in
    not_none (slice_get (name ∷ names) at) (get_or (name ∷ names) at name)
    (slice_get-get_or (name ∷ names) at name (omega arith)) e

module _ (h : Hierarchy) (who : Subject) (outsider : IsOutsider h who) where
  stranger : IsStranger h who
  stranger uid = no_status who (directory_at h uid) (outsider uid)

  left_holding : (uid : ℕ) → on (has_any who) (holding h uid) ≡ false
  left_holding uid = by (holder h uid)
    where
      by : (dir : Option ℕ) → on (has_any who) (option_and_then (directory_at h) dir) ≡ false
      by None = refl
      by (Some dir) = outsider dir

  told_nothing : (why : Refusal) (dir : Option Directory) → on (has_any who) dir ≡ false → say who why dir ≡ NoInfo
  told_nothing why dir left = silent h who stranger why dir (no_status who dir left)

  -- each request that changes an entry
  change_turned : {A : Type 0} (uid : ℕ) (more : List (Bool × Refusal)) (value : A)
      → IsTurnedAway (unless (first_of (changing_refusals h who uid ++ more)) value)
  change_turned uid more value =
      first_turned (not (on (has_modify who) (holding h uid))) (say who IncorrectAccess (holding h uid)) more value
      (ap not (no_modify who (holding h uid) (left_holding uid)))
      (told_nothing IncorrectAccess (holding h uid) (left_holding uid))

  -- each request that changes an initial list
  initial_turned : {A : Type 0} (uid : ℕ) (more : List (Bool × Refusal)) (value : A)
      → IsTurnedAway (unless (first_of (initial_refusals h who uid ++ more)) value)
  initial_turned uid more value =
      second_turned (is_none (directory_at h uid)) (not (on (has_modify who) (directory_at h uid)))
      (say who NotADir (holding h uid)) (say who IncorrectAccess (holding h uid)) more value
      (told_nothing NotADir (holding h uid) (left_holding uid))
      (ap not (no_modify who (directory_at h uid) (outsider uid)))
      (told_nothing IncorrectAccess (holding h uid) (left_holding uid))

  -- each request that makes one
  making_turned : (at : Place) (more : List (Bool × Refusal)) (make : Directory → Result Hierarchy Refusal)
      → IsTurnedAway (made h at (making_refusals h who at ++ more) make)
  making_turned at more make =
      turned_onward (unless (first_of (making_refusals h who at ++ more)) at)
      (λ at. onward (required NotADir (directory_at h at.dir)) make)
      (second_turned (is_none (directory_at h at.dir)) (not (on (has_append who) (directory_at h at.dir)))
      (say who NotADir (holding h at.dir)) (say who IncorrectAccess (directory_at h at.dir))
      ((is_some (uid_in h.branches at.dir at.name), NameDup)
      ∷ (nat_le 256 (length (entries_of h.branches at.dir)), DirFull) ∷ more) at
      (told_nothing NotADir (holding h at.dir) (left_holding at.dir))
      (ap not (no_append who (directory_at h at.dir) (outsider at.dir)))
      (told_nothing IncorrectAccess (directory_at h at.dir) (outsider at.dir)))

  place_turned : (path : List (List ℕ)) (make : Place → Result Hierarchy Refusal) → path ≢ []
      → ((at : Place) → IsTurnedAway (make at)) → IsTurnedAway (onward (place h who path) make)
  place_turned path make some later = by (last_name path) (named path some)
    where
      named : (names : List (List ℕ)) → names ≢ [] → last_name names ≡ None → ⊥
      named [] some e = some refl
      named (name ∷ names) some e = has_last name names e

      at_directory : (name : List ℕ) (given : Result ℕ Refusal) → IsReticent given
          → IsTurnedAway (onward (onward given (λ dir. Ok (placed dir name))) make)
      at_directory name (Ok dir) is = later (placed dir name)
      at_directory name (Err why) is = is

      by : (last : Option (List ℕ)) → (last ≡ None → ⊥)
          → IsTurnedAway (onward (onward (required NameDup last) (λ name. onward (reached h who true (parent_path path))
          (λ dir. Ok (placed dir name)))) make)
      by None some = absurd (some refl)
      by (Some name) some =
          at_directory name (reached h who true (parent_path path))
          (walk_reticent h who stranger 10 true 0 (parent_path path))

  set_brackets_turned : (uid : ℕ) (rings : List ℕ) → IsTurnedAway (set_brackets_at h who uid rings)
  set_brackets_turned uid rings =
      turned_onward (unless (first_of (set_brackets_refusals h who uid rings)) uid)
      (λ uid. onward (required BadBrackets (settable who.ring rings)) (λ brackets. Ok (with_brackets h uid brackets)))
      (search (change_turned {A = ℕ}))

module _ (h : Hierarchy) (who : Caller) (path : List ℕ) (outsider : IsOutsider h who.subject) where
  entry_turned : (follow : Bool) (rest : ℕ → Result Hierarchy Refusal) → ((uid : ℕ) → IsTurnedAway (rest uid))
      → IsTurnedAway (onward (entry h who path follow) rest)
  entry_turned follow rest later =
      onward_turned (entry h who path follow) rest
      (entry_reticent h who path follow (stranger h who.subject outsider)) (λ uid e. later uid)

  pub set_acl_turned : (id : PlainAclId) (modes : Modes) → IsTurnedAway (set_acl h who path id modes)
  set_acl_turned id modes =
      entry_turned true (λ uid. set_acl_at h who.subject uid id modes)
      (λ uid. search (change_turned h who.subject outsider {A = Hierarchy}))

  pub del_acl_turned : (id : PlainAclId) → IsTurnedAway (del_acl h who path id)
  del_acl_turned id =
      entry_turned true (λ uid. del_acl_at h who.subject uid id) (λ uid. search (change_turned h who.subject outsider {A = Hierarchy}))

  pub brackets_turned : (rings : List ℕ) → IsTurnedAway (set_brackets h who path rings)
  brackets_turned rings =
      entry_turned true (λ uid. set_brackets_at h who.subject uid rings)
      (λ uid. set_brackets_turned h who.subject outsider uid rings)

  pub dir_brackets_turned : (d1 d2 : ℕ) → IsTurnedAway (set_dir_brackets h who path d1 d2)
  dir_brackets_turned d1 d2 =
      entry_turned true (λ uid. set_dir_brackets_at h who.subject uid d1 d2)
      (λ uid. search (change_turned h who.subject outsider {A = Hierarchy}))

  pub set_class_turned : (class : PlainClass) → IsTurnedAway (set_class h who path class)
  set_class_turned class =
      entry_turned true (λ uid. set_class_at h who.subject uid class)
      (λ uid. search (change_turned h who.subject outsider {A = Hierarchy}))

  pub set_iacl_turned : (kind : AclKind) (id : PlainAclId) (modes : Modes) → IsTurnedAway (set_iacl h who path kind id modes)
  set_iacl_turned kind id modes =
      entry_turned true (λ uid. set_iacl_at h who.subject uid kind id modes)
      (λ uid. initial_turned h who.subject outsider uid (iacl_refusals kind id modes (directory_at h uid))
      (with_initial h uid kind (λ initial. with_entry initial id modes)))

  pub del_iacl_turned : (kind : AclKind) (id : PlainAclId) → IsTurnedAway (del_iacl h who path kind id)
  del_iacl_turned kind id =
      entry_turned true (λ uid. del_iacl_at h who.subject uid kind id)
      (λ uid. initial_turned h who.subject outsider uid ((iacl_lacks kind id (directory_at h uid), NoAclEntry) ∷ [])
      (with_initial h uid kind (λ initial. without_entry initial id)))

  pub rename_turned : (name : List ℕ) → IsTurnedAway (rename h who path name)
  rename_turned name =
      entry_turned false (λ uid. rename_at h who.subject uid name)
      (λ uid. search (change_turned h who.subject outsider {A = Hierarchy}))

  pub delete_turned : IsTurnedAway (delete h who path)
  delete_turned =
      entry_turned false (λ uid. delete_at h who.subject uid) (λ uid. search (change_turned h who.subject outsider {A = Hierarchy}))

  at_place : resolved who path ≢ Ok [] → (make : Place → Result Hierarchy Refusal)
      → ((at : Place) → IsTurnedAway (make at))
      → IsTurnedAway (onward (resolved who path) (λ names. onward (place h who.subject names) make))
  at_place some make later =
      onward_turned (resolved who path) (λ names. onward (place h who.subject names) make) (resolved_reticent who path)
      (λ names e. place_turned h who.subject outsider names make (λ none. some (e ∙ ap Ok none)) later)

  pub create_dir_turned : (d1 d2 : ℕ) → resolved who path ≢ Ok [] → IsTurnedAway (create_dir h who path d1 d2)
  create_dir_turned d1 d2 some =
      at_place some (λ at. create_dir_at h who.subject at d1 d2)
      (λ at. search (making_turned h who.subject outsider at))

  segment_turned : (wanted : Wanted) → resolved who path ≢ Ok [] → IsTurnedAway (make_segment h who path wanted)
  segment_turned wanted some =
      at_place some (λ at. make_segment_at h who.subject at wanted)
      (λ at. search (making_turned h who.subject outsider at))

  pub create_seg_turned : (words : ℕ) (rings : List ℕ) → resolved who path ≢ Ok []
      → IsTurnedAway (create_seg h who path words rings)
  create_seg_turned words rings some =
      segment_turned (record { words = words; rings = rings; modes = Rw; object = None }) some

  pub create_object_turned : (words : ℕ) (rings : List ℕ) (object : PlainObjectMap) → resolved who path ≢ Ok []
      → IsTurnedAway (create_object h who path words rings object)
  create_object_turned words rings object some =
      segment_turned (record { words = words; rings = rings; modes = Re; object = Some object }) some

  link_at : (target : List (List ℕ)) (at : Place) → IsTurnedAway (create_link_at h who.subject at target)
  link_at target at = search (making_turned h who.subject outsider at)

  pub create_link_turned : (target : List ℕ) → resolved who path ≢ Ok []
      → IsTurnedAway (create_link h who path target)
  create_link_turned target some =
      onward_turned (resolved who path)
      (λ names. onward (resolved who target) (λ to. onward (place h who.subject names) (λ at.
      create_link_at h who.subject at to))) (resolved_reticent who path)
      (λ names e. onward_turned (resolved who target)
      (λ to. onward (place h who.subject names) (λ at. create_link_at h who.subject at to))
      (resolved_reticent who target)
      (λ to _. place_turned h who.subject outsider names (λ at. create_link_at h who.subject at to)
      (λ none. some (e ∙ ap Ok none)) (link_at to)))
