-- Where names lead from a link and from a refusal, and where walks end.
use Rattle.std.proofs.Common.{◌≡◌, ◌≤◌, ◌-◌, ℕ, zero, suc, Bool, true, false, List, [], ◌∷◌, ◌++◌, fold, Option, Some, None, Result, Ok, Err, is_ok, refl, sym, ap, ◌∙◌, arith}
use Rattle.std.proofs.lemmas.List.{append-nil, append_assoc}
use Rattle.mx_hier.specs.declared.branches.Directory.{Directory}
use Rattle.mx_hier.specs.declared.refusals.Refusal.{Refusal}
use Rattle.mx_hier.specs.declared.refusals.Refusal.TheVariants.{NoEntry, NotADir, LinkLoop}
use Rattle.mx_hier.specs.Branches.{Hierarchy, uid_in, directory_at, target_at, holding}
use Rattle.mx_hier.specs.Callers.{Subject, Caller}
use Rattle.mx_hier.specs.Rules.{say, onward}
use Rattle.mx_hier.specs.Walks.{Stop, Reached, Linked, Refused, step, ended, followed, found, entered, along, outcome, walk, told, resolved, reached, entry}

-- the names after a link come after its target
linked : (h : Hierarchy) (follow : Bool) (dir : Option Directory) (path names : List (List ℕ))
    → ended h follow (fold (step h) (Linked dir path) names) ≡ Linked dir (path ++ names)
linked h true dir path [] = ap (Linked dir) (sym (append-nil path))
linked h false dir path [] = ap (Linked dir) (sym (append-nil path))
linked h follow dir path (name ∷ names) = linked h follow dir (path ++ name ∷ []) names ∙ ap (Linked dir) (append_assoc path (name ∷ []) names)

-- a refusal stays, whatever names are left
refused : (h : Hierarchy) (follow : Bool) (why : Refusal) (dir : Option Directory) (names : List (List ℕ))
    → ended h follow (fold (step h) (Refused why dir) names) ≡ Refused why dir
refused h true why dir [] = refl
refused h false why dir [] = refl
refused h follow why dir (name ∷ names) = refused h follow why dir names

-- one name more, from a link, from what is no directory, and from a directory that has no such entry
module _ (h : Hierarchy) (follow : Bool) (at : ℕ) (name : List ℕ) (names : List (List ℕ)) where
  after_target : (target : Option (List (List ℕ))) → target_at h at ≡ target
      → along h follow at (name ∷ names) ≡ ended h follow (fold (step h) (followed h at (name ∷ []) target (entered h at (directory_at h at) name)) names)
  after_target target is =
      ap (λ (found : Option (List (List ℕ))). ended h follow (fold (step h) (followed h at (name ∷ []) found (entered h at (directory_at h at) name)) names)) is

  from_link : (target : List (List ℕ)) → target_at h at ≡ Some target → along h follow at (name ∷ names) ≡ Linked (holding h at) (target ++ name ∷ names)
  from_link target is =
      after_target (Some target) is ∙ linked h follow (holding h at) (target ++ name ∷ []) names
      ∙ ap (Linked (holding h at)) (append_assoc target (name ∷ []) names)

  from_no_directory : target_at h at ≡ None → directory_at h at ≡ None → along h follow at (name ∷ names) ≡ Refused NotADir (holding h at)
  from_no_directory is none =
      after_target None is ∙ ap (λ (dir : Option Directory). ended h follow (fold (step h) (entered h at dir name) names)) none
      ∙ refused h follow NotADir (holding h at) names

  from_directory : (directory : Directory) (uid : Option ℕ) → target_at h at ≡ None → directory_at h at ≡ Some directory → uid_in h.branches at name ≡ uid
      → along h follow at (name ∷ names) ≡ ended h follow (fold (step h) (found (Some directory) uid) names)
  from_directory directory uid is at_dir there =
      after_target None is ∙ ap (λ (dir : Option Directory). ended h follow (fold (step h) (entered h at dir name) names)) at_dir
      ∙ ap (λ (entry : Option ℕ). ended h follow (fold (step h) (found (Some directory) entry) names)) there

  from_no_entry : (directory : Directory) → target_at h at ≡ None → directory_at h at ≡ Some directory → uid_in h.branches at name ≡ None
      → along h follow at (name ∷ names) ≡ Refused NoEntry (Some directory)
  from_no_entry directory is at_dir none = from_directory directory None is at_dir none ∙ refused h follow NoEntry (Some directory) names

-- the same where the names that are left begin with that one
module _ (h : Hierarchy) (follow : Bool) (at : ℕ) (names : List (List ℕ)) (name : List ℕ) (after : List (List ℕ)) (are : names ≡ name ∷ after) where
  pub stops_at_link : (target : List (List ℕ)) → target_at h at ≡ Some target → along h follow at names ≡ Linked (holding h at) (target ++ names)
  stops_at_link target is = rw are (from_link h follow at name after target is)

  pub stops_outside : target_at h at ≡ None → directory_at h at ≡ None → along h follow at names ≡ Refused NotADir (holding h at)
  stops_outside is none = rw are (from_no_directory h follow at name after is none)

  pub stops_unfound : (directory : Directory) → target_at h at ≡ None → directory_at h at ≡ Some directory → uid_in h.branches at name ≡ None
      → along h follow at names ≡ Refused NoEntry (Some directory)
  stops_unfound directory is at_dir none = rw are (from_no_entry h follow at name after directory is at_dir none)

-- a walk that ends at a refusal is told so
pub walk_refused : (left : ℕ) (h : Hierarchy) (who : Subject) (follow : Bool) (from : ℕ) (names : List (List ℕ)) (why : Refusal) (dir : Option Directory)
    → Refused why dir ≡ along h follow from names → Err (say who why dir) ≡ told who (walk left h follow from names)
walk_refused zero h who follow from names why dir e = ap (λ stop. told who (outcome stop (λ dir path. Err (LinkLoop, dir)))) e
walk_refused (suc left) h who follow from names why dir e = ap (λ stop. told who (outcome stop (λ dir path. walk left h follow 0 path))) e

-- a walk that comes to a link goes on at the root
pub walk_linked : (left : ℕ) (h : Hierarchy) (who : Subject) (follow : Bool) (from : ℕ) (names : List (List ℕ)) (dir : Option Directory) (path : List (List ℕ))
    → 1 ≤ left → Linked dir path ≡ along h follow from names → told who (walk (left - 1) h follow 0 path) ≡ told who (walk left h follow from names)
walk_linked zero h who follow from names dir path some e = absurd (omega arith)
walk_linked (suc left) h who follow from names dir path some e =
    let same : suc left - 1 ≡ left = omega arith in
    ap (λ n. told who (walk n h follow 0 path)) same ∙ ap (λ stop. told who (outcome stop (λ dir path. walk left h follow 0 path))) e

-- whether a walk ends well is asked of nobody
told_alike : (who other : Subject) (end : Result ℕ (Refusal × Option Directory)) → is_ok (told who end) ≡ is_ok (told other end)
told_alike who other (Ok uid) = refl
told_alike who other (Err refusal) = refl

pub ends_alike : (h : Hierarchy) (who other : Caller) (path : List ℕ) (follow : Bool) → who.base ≡ other.base
    → is_ok (entry h who path follow) ≡ is_ok (entry h other path follow)
ends_alike h who other path follow same =
    by (resolved who path) ∙ ap (λ (base : List (List ℕ)). is_ok (onward (resolved (record { subject = other.subject; base = base }) path) (λ names. reached h other.subject follow names))) same
  where
    by : (given : Result (List (List ℕ)) Refusal) → is_ok (onward given (λ names. reached h who.subject follow names)) ≡ is_ok (onward given (λ names. reached h other.subject follow names))
    by (Ok names) = told_alike who.subject other.subject (walk 10 h follow 0 names)
    by (Err why) = refl

-- a link at the last name is followed
no_link : (h : Hierarchy) (uid : ℕ) (stop : Stop) → ended h true stop ≡ Reached uid → target_at h uid ≡ None
no_link h uid (Linked dir path) is = absurd (cc)
no_link h uid (Refused why dir) is = absurd (cc)
no_link h uid (Reached at) is = by (target_at h at) refl is
  where
    by : (target : Option (List (List ℕ))) → target_at h at ≡ target → followed h at [] target (Reached at) ≡ Reached uid → target_at h uid ≡ None
    by None none is = let same : at ≡ uid = cc in ap (target_at h) (sym same) ∙ none
    by (Some target) some is = absurd (cc)

stopped : (h : Hierarchy) (from : ℕ) (names : List (List ℕ)) (uid : ℕ) (linked : Option Directory → List (List ℕ) → Result ℕ (Refusal × Option Directory))
    → ((dir : Option Directory) (path : List (List ℕ)) → linked dir path ≡ Ok uid → target_at h uid ≡ None)
    → (stop : Stop) → along h true from names ≡ stop → outcome stop linked ≡ Ok uid → target_at h uid ≡ None
stopped h from names uid linked later (Reached at) e is = let same : at ≡ uid = cc in no_link h uid (fold (step h) (Reached from) names) (e ∙ ap Reached same)
stopped h from names uid linked later (Linked dir path) e is = later dir path is
stopped h from names uid linked later (Refused why dir) e is = absurd (cc)

walk_no_link : (left : ℕ) (h : Hierarchy) (from : ℕ) (names : List (List ℕ)) (uid : ℕ) → walk left h true from names ≡ Ok uid → target_at h uid ≡ None
walk_no_link zero h from names uid is = stopped h from names uid (λ dir path. Err (LinkLoop, dir)) (λ dir path e. absurd (cc)) (along h true from names) refl is
walk_no_link (suc left) h from names uid is =
    stopped h from names uid (λ dir path. walk left h true 0 path) (λ dir path e. walk_no_link left h 0 path uid e) (along h true from names) refl is

pub ends_at_no_link : (h : Hierarchy) (who : Caller) (path : List ℕ) (uid : ℕ) → entry h who path true ≡ Ok uid → target_at h uid ≡ None
ends_at_no_link h who path uid is = by (resolved who path) is
  where
    end : (given : Result ℕ (Refusal × Option Directory)) → told who.subject given ≡ Ok uid → given ≡ Ok uid
    end (Ok at) is = cc
    end (Err refusal) is = absurd (cc)

    by : (given : Result (List (List ℕ)) Refusal) → onward given (λ names. reached h who.subject true names) ≡ Ok uid → target_at h uid ≡ None
    by (Ok names) is = walk_no_link 10 h 0 names uid (end (walk 10 h true 0 names) is)
    by (Err why) is = absurd (cc)
