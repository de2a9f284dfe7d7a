-- Laws on the words of a command line.
use Rattle.std.proofs.Common.{◌≡◌, ℕ, ◌+◌, ◌<◌, Bool, true, false, List, [], ◌∷◌, length, map, get_or, drop, codes, Option, None, Some, is_some, inl, inr, refl, ap, sym, subst, ◌∙◌, add-one, drop-cons}
use Rattle.std.specs.List.{list_all}
use Rattle.std.specs.Prelude.{◌≢◌, ◌&&◌, nat_eq}
use Rattle.std.specs.Cmp.Lexicographic.{pointwise, told_text}
use Rattle.mx_explain.specs.Commands.{is_order, word_of, IsNothing, IsOneNumber, IsTurns, two_lines, AreLines, IsCommand}
use Rattle.mx_explain.specs.Readings.{IsOneNumberOf, IsSeedOf, IsFormOf}
use Rattle.mx_explain.specs.declared.words.Form.{Form}
use Rattle.mx_explain.specs.declared.words.Form.TheVariants.{Lines, Story, Picture, Page}

-- one text is not two
pub clash : (a b text : List ℕ) → false ≡ pointwise nat_eq a b → text ≡ a → text ≡ b → ⊥
clash a b text other first second = told_text a b false other (sym first ∙ second)

-- what no command is
not_command : (name : List ℕ) (rest : List (List ℕ)) → (name ≡ codes "lint" → IsNothing rest → ⊥)
    → ((form : Form) → name ≡ word_of form → IsTurns rest → ⊥) → (name ≡ codes "outcomes" → AreLines rest → ⊥)
    → (name ≡ codes "plain" → IsNothing rest → ⊥) → (name ≡ codes "breach" → IsNothing rest → ⊥)
    → (name ≡ codes "drill" → (number : ℕ) → IsOneNumber rest number → ⊥) → (name ≡ codes "help" → IsNothing rest → ⊥)
    → IsCommand (name ∷ rest) → ⊥
not_command name rest lint run outcomes plain breach drill help (inl (inl (inl e))) = lint e.0 e.1
not_command name rest lint run outcomes plain breach drill help (inl (inl (inr (inl e)))) = run e.0 e.1.0 e.1.1
not_command name rest lint run outcomes plain breach drill help (inl (inl (inr (inr e)))) = outcomes e.0 e.1
not_command name rest lint run outcomes plain breach drill help (inl (inr (inl e))) = plain e.0 e.1
not_command name rest lint run outcomes plain breach drill help (inl (inr (inr e))) = breach e.0 e.1
not_command name rest lint run outcomes plain breach drill help (inr (inl e)) = drill e.1.0 e.0 e.1.1
not_command name rest lint run outcomes plain breach drill help (inr (inr e)) = help e.0 e.1

-- the word of a form is that of no other command
pub form_and : (word : List ℕ) → false ≡ pointwise nat_eq (codes "lines") word → false ≡ pointwise nat_eq (codes "story") word
    → false ≡ pointwise nat_eq (codes "picture") word → false ≡ pointwise nat_eq (codes "page") word
    → (name : List ℕ) (form : Form) → name ≡ word_of form → name ≡ word → ⊥
form_and word lines story picture page name Lines is other = clash _ _ name lines is other
form_and word lines story picture page name Story is other = clash _ _ name story is other
form_and word lines story picture page name Picture is other = clash _ _ name picture is other
form_and word lines story picture page name Page is other = clash _ _ name page is other

-- the name of a form with other words than turns
pub not_run : (name : List ℕ) (rest : List (List ℕ)) (form : Form) → name ≡ word_of form → (IsTurns rest → ⊥) → IsCommand (name ∷ rest) → ⊥
not_run name rest form is none = not_command name rest (λ e o. form_and (codes "lint") refl refl refl refl name form is e) (λ other e o. none o)
    (λ e o. form_and (codes "outcomes") refl refl refl refl name form is e) (λ e o. form_and (codes "plain") refl refl refl refl name form is e)
    (λ e o. form_and (codes "breach") refl refl refl refl name form is e) (λ e n o. form_and (codes "drill") refl refl refl refl name form is e)
    (λ e o. form_and (codes "help") refl refl refl refl name form is e)

-- `outcomes` with words that name no two lines
pub not_outcomes : (name : List ℕ) (rest : List (List ℕ)) → name ≡ codes "outcomes" → (AreLines rest → ⊥) → IsCommand (name ∷ rest) → ⊥
not_outcomes name rest is none = not_command name rest (λ e o. clash _ _ name refl is e)
    (λ form e o. form_and (codes "outcomes") refl refl refl refl name form e is) (λ e o. none o)
    (λ e o. clash _ _ name refl is e) (λ e o. clash _ _ name refl is e) (λ e n o. clash _ _ name refl is e) (λ e o. clash _ _ name refl is e)

pub not_drill : (name : List ℕ) (rest : List (List ℕ)) → name ≡ codes "drill" → ((number : ℕ) → IsOneNumber rest number → ⊥)
    → IsCommand (name ∷ rest) → ⊥
not_drill name rest is none = not_command name rest (λ e o. clash _ _ name refl is e)
    (λ form e o. form_and (codes "drill") refl refl refl refl name form e is) (λ e o. clash _ _ name refl is e)
    (λ e o. clash _ _ name refl is e) (λ e o. clash _ _ name refl is e) (λ e n o. none n o) (λ e o. clash _ _ name refl is e)

-- other names, with words behind them
pub not_followed : (name : List ℕ) (rest : List (List ℕ)) → IsFormOf name None → name ≢ codes "outcomes" → name ≢ codes "drill"
    → (rest ≡ [] → ⊥) → IsCommand (name ∷ rest) → ⊥
not_followed name rest form outcomes drill some = not_command name rest (λ e o. some o) (λ f e o. form f e)
    (λ e o. outcomes e) (λ e o. some o) (λ e o. some o) (λ e n o. drill e) (λ e o. some o)

-- a number is no empty list of words
no_number : (number : ℕ) → IsOneNumber [] number → ⊥
no_number number is = let two : [] ≡ is.digits ∷ [] = is.words_are in cc

-- other names alone
pub not_alone : (name : List ℕ) → IsFormOf name None → name ≢ codes "outcomes" → name ≢ codes "lint"
    → name ≢ codes "plain" → name ≢ codes "breach" → name ≢ codes "help" → IsCommand (name ∷ []) → ⊥
not_alone name form outcomes lint plain breach help = not_command name [] (λ e o. lint e) (λ f e o. form f e)
    (λ e o. outcomes e) (λ e o. plain e) (λ e o. breach e) (λ e n o. no_number n o) (λ e o. help e)

-- `seed` and a number
seed_on : (name : List ℕ) (rest : List (List ℕ)) (told : Option ℕ) → name ≡ codes "seed" → IsOneNumberOf rest told → IsSeedOf (name ∷ rest) told
seed_on name rest None is one = λ number s. one number s.1
seed_on name rest (Some number) is one = (is, one)

pub seed_words : (name : List ℕ) (rest words : List (List ℕ)) (told : Option ℕ) → words ≡ name ∷ rest → name ≡ codes "seed"
    → IsOneNumberOf rest told → IsSeedOf words told
seed_words name rest words told e is one =
    let P : List (List ℕ) → Type 0 = λ w. IsSeedOf w told in
    subst P (sym e) (seed_on name rest told is one)

pub not_turns : (words : List (List ℕ)) → (words ≡ [] → ⊥) → IsSeedOf words None → is_order words ≡ false → IsTurns words → ⊥
not_turns words some seed order (inl e) = some e
not_turns words some seed order (inr (inl e)) = seed e.0 e.1
not_turns words some seed order (inr (inr e)) = let both : true ≡ false = sym e ∙ order in cc

-- words that ask for no outcomes
pub not_asked : (words : List (List ℕ)) → (words ≡ [] → ⊥) → two_lines words ≡ None → AreLines words → ⊥
not_asked words some none (inl e) = some e
not_asked words some none (inr e) = let both : Some e.0 ≡ None = sym e.1 ∙ none in cc

pub filled : {A : Type 0} (f : A → List ℕ) (words : List A) → (length words ≡ 0 → ⊥) → map f words ≡ [] → ⊥
filled f [] some e = some refl
filled f (w ∷ words) some e = cc

-- the words that are left, taken apart
pub all_left : {X : Type 0} (f : X → List ℕ) (p : List ℕ → Bool) (xs : List X) (i : ℕ) (x : X) → i < length xs → x ≡ get_or xs i x
    → list_all p (map f (drop i xs)) ≡ (p (f x) && list_all p (map f (drop (i + 1) xs)))
all_left f p xs i x within is = rw (add-one i, drop-cons xs i x, ← is) refl

-- one of them names no process
pub one_fails : {X : Type 0} (f : X → List ℕ) (h : List ℕ → Option ℕ) (xs : List X) (i : ℕ) (x : X) (text : List ℕ) (whole : Bool)
    → i < length xs → x ≡ get_or xs i x → text ≡ f x → h text ≡ None → list_all (λ w. is_some (h w)) (map f (drop i xs)) ≡ whole
    → false ≡ whole
one_fails f h xs i x text whole within is spelled none left =
    let no : h (f x) ≡ None = ap h (sym spelled) ∙ none in
    let first : list_all (λ w. is_some (h w)) (map f (drop i xs)) ≡ false =
    all_left f (λ w. is_some (h w)) xs i x within is ∙ rw no refl in
    sym first ∙ left

-- it names one, and so do all that are left where those after it do
pub one_passes : {X : Type 0} (f : X → List ℕ) (h : List ℕ → Option ℕ) (xs : List X) (i : ℕ) (x : X) (text : List ℕ) (p : ℕ) (whole : Bool)
    → i < length xs → x ≡ get_or xs i x → text ≡ f x → h text ≡ Some p → list_all (λ w. is_some (h w)) (map f (drop i xs)) ≡ whole
    → list_all (λ w. is_some (h w)) (map f (drop (i + 1) xs)) ≡ whole
one_passes f h xs i x text p whole within is spelled one left =
    let yes : h (f x) ≡ Some p = ap h (sym spelled) ∙ one in
    let first : list_all (λ w. is_some (h w)) (map f (drop i xs)) ≡ list_all (λ w. is_some (h w)) (map f (drop (i + 1) xs)) =
    all_left f (λ w. is_some (h w)) xs i x within is ∙ rw yes refl in
    sym first ∙ left
