-- Laws on what stands behind the row of an object.
use Rattle.std.proofs.Common.{◌≡◌, ◌<◌, ◌≤◌, ℕ, ◌+◌, Bool, true, false, not, ◌&&◌, ◌||◌, List, [], ◌∷◌, ◌++◌, map, length, Option, Some, Bor, inl, inr, refl, sym, ap, ◌∙◌, subst, append_assoc, length-append, arith}
use Rattle.std.specs.List.{list_any}
use Rattle.std.specs.Option.{option_map}
use Rattle.std.proofs.lemmas.List.{map-append, length-map}
use Rattle.std.proofs.lemmas.List.Folds.{list_all-append}
use Rattle.mx_name.specs.OrderLaws.{both_left, both_right}
use Rattle.mx_lint.specs.Fields.{is, is_definition_text, is_object_link_text}
use Rattle.mx_lint.specs.Pieces.{pieces_left, pieces_of}
use Rattle.mx_lint.specs.Objects.{AreItems, are_different, symbol_of}
use Rattle.mx_lint.specs.Findings.{IsDefinitionSeen, IsLinkSeen, IsSeenToo, HasSeen}

-- the texts that are borrowed
pub any_borrowed : (f : List ℕ → Bool) (xs : List (Bor (List ℕ))) → list_any (λ x. f x.now) xs ≡ list_any f (map (λ x. x.now) xs)
any_borrowed f [] = refl
any_borrowed f (x ∷ xs) = ap (λ (b : Bool). f x.now || b) (any_borrowed f xs)

borrowed_more : (xs ys : List (Bor (List ℕ))) (x : Bor (List ℕ)) → ys ≡ xs ++ x ∷ []
    → map (λ (y : Bor (List ℕ)). y.now) ys ≡ map (λ (y : Bor (List ℕ)). y.now) xs ++ x.now ∷ []
borrowed_more xs ys x e = ap (map (λ (y : Bor (List ℕ)). y.now)) e ∙ map-append (λ (y : Bor (List ℕ)). y.now) xs (x ∷ [])

-- a definition more
pub defined_too : (xs ys : List (Bor (List ℕ))) (x : Bor (List ℕ)) (links : ℕ) (text : List ℕ) → is_definition_text text ≡ true → links ≤ 0
    → list_any (λ other. is other x.now) (map (λ (y : Bor (List ℕ)). y.now) xs) ≡ false → length xs < 64 → x.now ≡ symbol_of text
    → ys ≡ xs ++ x ∷ [] → IsDefinitionSeen (map (λ y. y.now) xs) (map (λ y. y.now) ys) links links text
defined_too xs ys x links text t none new few s e = record {
  definition = t;
  no_link = omega (arith, none);
  new_one = subst (λ (z : List ℕ). list_any (λ other. is other z) (map (λ (y : Bor (List ℕ)). y.now) xs) ≡ false) s new;
  few = subst (λ (n : ℕ). n < 64) (sym (length-map xs (λ (y : Bor (List ℕ)). y.now))) few;
  symbols_are = borrowed_more xs ys x e ∙ ap (λ (z : List ℕ). map (λ (y : Bor (List ℕ)). y.now) xs ++ z ∷ []) s;
  links_are = refl;
}

-- the texts that are left are these
pub opened_seen : (texts symbols left : List (List ℕ)) (links : ℕ) (rest : Option (Bor (List ℕ))) (text : Bor (List ℕ)) → rest ≡ Some text
    → pieces_of text.now ≡ left → HasSeen texts symbols links (pieces_left (option_map (λ (r : Bor (List ℕ)). r.now) rest))
    → HasSeen texts symbols links left
opened_seen texts symbols left links rest text e f h =
    subst (HasSeen texts symbols links) (ap (λ (o : Option (Bor (List ℕ))). pieces_left (option_map (λ (r : Bor (List ℕ)). r.now) o)) e ∙ f) h

-- a new symbol is another one
or_right : (a b c : Bool) → a || (b || c) ≡ (a || b) || c
or_right true b c = refl
or_right false b c = refl

none_left : (a b : Bool) → a || b ≡ false → a ≡ false
none_left true b e = cc
none_left false b e = refl

none_right : (a b : Bool) → a || b ≡ false → b ≡ false
none_right true b e = cc
none_right false b e = e

any_last : (p : List ℕ → Bool) (xs : List (List ℕ)) (y : List ℕ) → list_any p (xs ++ y ∷ []) ≡ list_any p xs || (p y || false)
any_last p [] y = refl
any_last p (x ∷ xs) y = ap (λ (b : Bool). p x || b) (any_last p xs y) ∙ or_right (p x) (list_any p xs) (p y || false)

different_on : (a b c : Bool) → not a ≡ true → b ≡ true → c ≡ false → not (a || (c || false)) && b ≡ true
different_on true b c e f g = cc
different_on false b c e f g = rw (f, g) refl

different_more : (xs : List (List ℕ)) (y : List ℕ) → are_different xs ≡ true → list_any (λ other. is other y) xs ≡ false
    → are_different (xs ++ y ∷ []) ≡ true
different_more [] y e f = refl
different_more (x ∷ xs) y e f =
    subst (λ (b : Bool). not b && are_different (xs ++ y ∷ []) ≡ true) (sym (any_last (is x) xs y))
    (different_on (list_any (is x) xs) (are_different (xs ++ y ∷ [])) (is x y)
    (both_left (not (list_any (is x) xs)) (are_different xs) e)
    (different_more xs y (both_right (not (list_any (is x) xs)) (are_different xs) e)
    (none_right (is x y) (list_any (λ other. is other y) xs) f))
    (none_left (is x y) (list_any (λ other. is other y) xs) f))

-- one more was seen
definition_more : (texts symbols symbols' left definitions links : List (List ℕ)) (count count' : ℕ) (text : List ℕ)
    → texts ≡ definitions ++ (links ++ text ∷ left) → symbols ≡ map symbol_of definitions → count ≡ length links → AreItems definitions links
    → IsDefinitionSeen symbols symbols' count count' text → HasSeen texts symbols' count' left
definition_more texts symbols symbols' left definitions (link ∷ links) count count' text e s n items too = absurd (omega (arith, too.no_link, n))
definition_more texts symbols symbols' left definitions [] count count' text e s n items too = record {
  definitions = definitions ++ text ∷ [];
  links = [];
  texts_are = e ∙ sym (append_assoc definitions (text ∷ []) left);
  symbols_are = too.symbols_are ∙ ap (λ (t : List (List ℕ)). t ++ symbol_of text ∷ []) s ∙ sym (map-append symbol_of definitions (text ∷ []));
  count_is = too.links_are ∙ n;
  items = record {
    are_definitions = list_all-append is_definition_text definitions (text ∷ []) ∙ rw (items.are_definitions, too.definition) refl;
    are_links = refl;
    differ = subst (λ (t : List (List ℕ)). are_different t ≡ true) (sym (map-append symbol_of definitions (text ∷ [])))
        (different_more (map symbol_of definitions) (symbol_of text) items.differ
        (subst (λ (t : List (List ℕ)). list_any (λ other. is other (symbol_of text)) t ≡ false) s too.new_one));
    few_definitions = let few : length (map symbol_of definitions) < 64 = subst (λ (t : List (List ℕ)). length t < 64) s too.few in
        omega (arith, few, length-map definitions symbol_of, length-append definitions (text ∷ []));
    few_links = omega arith;
  };
}

link_more : (texts symbols symbols' left definitions links : List (List ℕ)) (count count' : ℕ) (text : List ℕ)
    → texts ≡ definitions ++ (links ++ text ∷ left) → symbols ≡ map symbol_of definitions → count ≡ length links → AreItems definitions links
    → IsLinkSeen symbols symbols' count count' text → HasSeen texts symbols' count' left
link_more texts symbols symbols' left definitions links count count' text e s n items too =
    let long : length (links ++ text ∷ []) ≡ length links + 1 = length-append links (text ∷ []) in record {
      definitions = definitions;
      links = links ++ text ∷ [];
      texts_are = e ∙ ap (λ (t : List (List ℕ)). definitions ++ t) (sym (append_assoc links (text ∷ []) left));
      symbols_are = too.symbols_are ∙ s;
      count_is = omega (arith, too.links_are, n, long);
      items = record {
        are_definitions = items.are_definitions;
        are_links = list_all-append is_object_link_text links (text ∷ []) ∙ rw (items.are_links, too.link) refl;
        differ = items.differ;
        few_definitions = items.few_definitions;
        few_links = omega (arith, too.few, n, long);
      };
    }

pub seen_more : (texts symbols symbols' left : List (List ℕ)) (count count' : ℕ) (text : List ℕ) → HasSeen texts symbols count (text ∷ left)
    → IsSeenToo symbols symbols' count count' text → HasSeen texts symbols' count' left
seen_more texts symbols symbols' left count count' text h (inl too) =
    definition_more texts symbols symbols' left h.definitions h.links count count' text h.texts_are h.symbols_are h.count_is h.items too
seen_more texts symbols symbols' left count count' text h (inr too) =
    link_more texts symbols symbols' left h.definitions h.links count count' text h.texts_are h.symbols_are h.count_is h.items too
