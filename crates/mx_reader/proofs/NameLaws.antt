-- Laws of names in a line: what is read as names spells them, and names are read back.
use Rattle.std.proofs.Common.{◌≡◌, ℕ, ◌==◌, Bool, true, false, cond, List, [], ◌∷◌, ◌++◌, Option, None, Some, refl, ap, sym, subst, ◌∙◌, append_assoc, append-nil}
use Rattle.std.proofs.lemmas.Bool.{eqb-true}
use Rattle.std.specs.List.{flat_map, list_all, onto_first, slice_split}
use Rattle.mx_hier.proofs.NameTextLaws.{behind_again}
use Rattle.mx_name.proofs.CutLaws.{parts_cut}
use Rattle.mx_name.proofs.TextLaws.{name_again, name_is_free, name_takes}
use Rattle.mx_name.specs.Cuts.{cut_at}
use Rattle.mx_name.specs.Names.{is_free, name_fault, name_of}
use Rattle.mx_name.specs.Parts.{parts_by}
use Rattle.mx_reader.specs.Fields.{all_names, names_at}
use Rattle.mx_request.proofs.StepLaws.{both, both_hold, bind_some, faultless, no_fault, some_is, when_some}
use Rattle.mx_request.specs.Fields.{is_name, line_of}
use Rattle.mx_request.specs.Steps.{◌>>=◌, when}

-- names that were read, and those that are left
abbrev pub names_on : List (List ℕ) → List (List ℕ) → Option (List (List ℕ))
names_on first more = all_names more >>= λ names. Some (first ++ names)

abbrev split : List ℕ → List (List ℕ)
split text = slice_split (λ c. c == 32) text

split_cut : (text : List ℕ) (o : Option (List ℕ × List ℕ)) → cut_at 32 text ≡ o → split text ≡ parts_by 32 text o
split_cut text o e = parts_cut 32 text ∙ ap (parts_by 32 text) e

pub names_next : (first next : List (List ℕ)) (left : List ℕ) (p : List ℕ × List ℕ) (name : List ℕ) → cut_at 32 left ≡ Some p
    → name_of p.0 ≡ Some name → next ≡ first ++ name ∷ [] → names_on first (split left) ≡ names_on next (split p.1)
names_next first next left p name c e n =
    ap (names_on first) (split_cut left (Some p) c) ∙ rw (e, n) (by_more (all_names (split p.1)))
  where
    by_more : (more : Option (List (List ℕ)))
        → ((more >>= λ names. Some (name ∷ names)) >>= λ names. Some (first ++ names)) ≡ (more >>= λ names. Some ((first ++ name ∷ []) ++ names))
    by_more None = refl
    by_more (Some names) = ap Some (sym (append_assoc first (name ∷ []) names))

pub names_last : (first next : List (List ℕ)) (left : List ℕ) (name : List ℕ) → cut_at 32 left ≡ None → name_of left ≡ Some name
    → next ≡ first ++ name ∷ [] → names_on first (split left) ≡ Some next
names_last first next left name c e n = ap (names_on first) (split_cut left None c) ∙ rw (e, n) refl

pub no_next : (first : List (List ℕ)) (left : List ℕ) (p : List ℕ × List ℕ) → cut_at 32 left ≡ Some p → name_of p.0 ≡ None
    → names_on first (split left) ≡ None
no_next first left p c e = ap (names_on first) (split_cut left (Some p) c) ∙ rw e refl

pub no_last : (first : List (List ℕ)) (left : List ℕ) → cut_at 32 left ≡ None → name_of left ≡ None → names_on first (split left) ≡ None
no_last first left c e = ap (names_on first) (split_cut left None c) ∙ rw e refl

pub names_first : (texts : List (List ℕ)) → names_on [] texts ≡ all_names texts
names_first texts = by_all (all_names texts)
  where
    by_all : (o : Option (List (List ℕ))) → (o >>= λ names. Some ([] ++ names)) ≡ o
    by_all None = refl
    by_all (Some names) = refl

-- what is read as names are those texts
names_are : (texts names : List (List ℕ)) → all_names texts ≡ Some names → (names ≡ texts) × (list_all is_name names ≡ true)
names_are [] names e = let P : List (List ℕ) → Type 0 = λ names. (names ≡ []) × (list_all is_name names ≡ true) in subst P (some_is _ _ e) (refl, refl)
names_are (text ∷ texts) names e =
    let n = bind_some (name_of text) _ names e in
    let m = bind_some (all_names texts) _ names n.2 in
    let f = name_takes text n.0 n.1 in
    let g = names_are texts m.0 m.1 in
    let P : List (List ℕ) → Type 0 = λ names. (names ≡ text ∷ texts) × (list_all is_name names ≡ true) in
    subst P (some_is _ _ m.2) (joined n.0 text m.0 texts f.0 g.0, both_hold _ _ (no_fault (name_fault n.0) f.1) g.1)
  where
    joined : (x y : List ℕ) (xs ys : List (List ℕ)) → x ≡ y → xs ≡ ys → x ∷ xs ≡ y ∷ ys
    joined x y xs ys e f = cc

again_names : (names : List (List ℕ)) → list_all is_name names ≡ true → all_names names ≡ Some names
again_names [] e = refl
again_names (name ∷ names) e =
    let f = both (is_name name) (list_all is_name names) e in
    rw (name_again name (faultless (name_fault name) f.0), again_names names f.1) refl

split_joined : (text : List ℕ) → flat_map (λ name. 32 ∷ name) (split text) ≡ 32 ∷ text
split_joined [] = refl
split_joined (c ∷ cs) = by_test (c == 32) refl (split cs) (split_joined cs)
  where
    by_test : (b : Bool) → (c == 32) ≡ b → (rest : List (List ℕ)) → flat_map (λ name. 32 ∷ name) rest ≡ 32 ∷ cs
        → flat_map (λ name. 32 ∷ name) (cond b ([] ∷ rest) (onto_first c rest)) ≡ 32 ∷ c ∷ cs
    by_test true t rest e = let mark : c ≡ 32 = eqb-true c 32 t in rw (mark, e) refl
    by_test false t [] e = cc
    by_test false t (part ∷ parts) e =
        let tail : part ++ flat_map (λ name. 32 ∷ name) parts ≡ cs = cc in ap (λ xs. 32 ∷ c ∷ xs) tail

pub line_behind : (field : List ℕ) (names : List (List ℕ)) → line_of (field ∷ names) ≡ field ++ flat_map (λ name. 32 ∷ name) names
line_behind field [] = sym (append-nil field)
line_behind field (name ∷ names) = ap (λ text. field ++ 32 ∷ text) (line_behind name names)

pub names_take : (field text : List ℕ) (names : List (List ℕ)) → names_at text ≡ Some names
    → (line_of (field ∷ names) ≡ field ++ text) × (list_all is_name names ≡ true)
names_take field [] names e =
    let P : List (List ℕ) → Type 0 = λ names. (line_of (field ∷ names) ≡ field ++ []) × (list_all is_name names ≡ true) in
    subst P (some_is _ _ e) (sym (append-nil field), refl)
names_take field (c ∷ text) names e =
    let t = bind_some (when (c == 32) text) _ names e in
    let blank = when_some (c == 32) text t.0 t.1 in
    let mark : c ≡ 32 = eqb-true c 32 blank.0 in
    let found = names_are (split t.0) names t.2 in (
      line_behind field names
          ∙ ap (λ names. field ++ flat_map (λ name. 32 ∷ name) names) found.0
          ∙ ap (λ x. field ++ x) (split_joined t.0)
          ∙ ap (λ x. field ++ 32 ∷ x) (sym blank.1)
          ∙ ap (λ b. field ++ b ∷ text) (sym mark),
      found.1,
    )

free_names : (names : List (List ℕ)) → list_all is_name names ≡ true → list_all (is_free 32) names ≡ true
free_names [] e = refl
free_names (name ∷ names) e =
    let f = both (is_name name) (list_all is_name names) e in
    both_hold _ _ (name_is_free 32 name refl (faultless (name_fault name) f.0)) (free_names names f.1)

pub names_again : (names : List (List ℕ)) → list_all is_name names ≡ true → names_at (flat_map (λ name. 32 ∷ name) names) ≡ Some names
names_again [] e = refl
names_again (name ∷ names) e =
    ap all_names (behind_again (name ∷ names) (free_names (name ∷ names) e)) ∙ again_names (name ∷ names) e
