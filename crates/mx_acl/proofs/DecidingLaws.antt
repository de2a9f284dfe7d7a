-- The first match in order is the match of least rank, and that is the one that decides.
use Rattle.std.proofs.Common.{ℕ, ◌≡◌, ◌≤◌, Bool, true, false, cond, ltb, List, [], ◌∷◌, Option, None, Some, refl, ap, sym, subst, ◌∙◌, arith}
use Rattle.std.specs.Prelude.{T}
use Rattle.std.specs.Ordering.{nat_cmp, is_lt, is_eq, ordering_then, ordering_reverse, eq_by_cmp}
use Rattle.std.specs.declared.cmp.Ordering.{Ordering}
use Rattle.std.specs.declared.cmp.Ordering.TheVariants.{Less, Equal, Greater}
use Rattle.std.specs.Option.{option_map, unwrap_or, IfSome, IfNone}
use Rattle.std.specs.FinMap.Entries.{find, is_sorted, below_all}
use Rattle.std.proofs.lemmas.Bool.Decides.{nat_tests}
use Rattle.std.proofs.lemmas.Cmp.{tied_itself}
use Rattle.mx_name.specs.Identifiers.{PlainAclId, id_matches, id_rank}
use Rattle.mx_name.specs.IdentifierOrder.{id_cmp, components_cmp}
use Rattle.mx_name.specs.OrderLaws.{id_total, id_equal}
use Rattle.mx_name.specs.Principals.{PlainPrincipal}
use Rattle.mx_acl.specs.declared.modes.Modes.{Modes}
use Rattle.mx_acl.specs.declared.modes.Modes.TheVariants.{Null}
use Rattle.mx_acl.specs.Access.{Access, lesser, deciding, modes_for}
use Rattle.mx_acl.specs.Deciding.{IsMatch, IsDeciding}
use Rattle.mx_acl.proofs.EntryLaws.{first, second}
use Rattle.mx_acl.proofs.RankLaws.{same_rank_same_id}

not_more : (m n : ℕ) (o : Ordering) → ordering_then (nat_cmp m n) o ≡ Less → m ≤ n
not_more m n o e = grind (arith, nat_tests, e)

at_most : (m n k : ℕ) → m ≤ n → n ≤ k → m ≤ k
at_most m n k e f = omega arith

both_most : (m n : ℕ) → m ≤ n → n ≤ m → m ≡ n
both_most m n e f = omega arith

not_before : (m n : ℕ) → m ≤ n → ltb n m ≡ false
not_before m n h = grind (arith, nat_tests, h)

less : (o : Ordering) → T (is_lt o) → o ≡ Less
less Less t = refl
less Equal t = absurd t
less Greater t = absurd t

lesser_bound : (n : ℕ) (g : PlainAclId × Modes) (o : Option (PlainAclId × Modes)) → n ≤ id_rank g.0
    → ((h : PlainAclId × Modes) → o ≡ Some h → n ≤ id_rank h.0) → n ≤ id_rank (lesser g o).0
lesser_bound n g None here rest = here
lesser_bound n g (Some h) here rest = by_test (ltb (id_rank h.0) (id_rank g.0))
  where
    by_test : (b : Bool) → n ≤ id_rank (cond b h g).0
    by_test true = rest h refl
    by_test false = here

-- an identifier below all has no greater rank than the one that decides
below_rank : (who : PlainPrincipal) (k : PlainAclId) (es : List (PlainAclId × Modes))
    → T (below_all id_cmp k es) → (f : PlainAclId × Modes) → deciding who es ≡ Some f → id_rank k ≤ id_rank f.0
below_rank who k [] below f e = absurd (cc)
below_rank who k (g ∷ es) below f e =
    by_test (id_matches g.0 who) (below_rank who k es (second (is_lt (id_cmp k g.0)) (below_all id_cmp k es) below)) e
  where
    head : id_rank k ≤ id_rank g.0
    head = not_more (id_rank k) (id_rank g.0) (components_cmp k g.0) (less (id_cmp k g.0) (first (is_lt (id_cmp k g.0)) (below_all id_cmp k es) below))

    by_test : (b : Bool) → ((h : PlainAclId × Modes) → deciding who es ≡ Some h → id_rank k ≤ id_rank h.0)
        → cond b (Some (lesser g (deciding who es))) (deciding who es) ≡ Some f → id_rank k ≤ id_rank f.0
    by_test true ih e =
        let same : lesser g (deciding who es) ≡ f = cc in
        subst (λ (h : PlainAclId × Modes). id_rank k ≤ id_rank h.0) same (lesser_bound (id_rank k) g (deciding who es) head ih)
    by_test false ih e = ih f e

-- the first match of a list in order decides
pub first_decides : (who : PlainPrincipal) (g : PlainAclId × Modes) (es : List (PlainAclId × Modes)) → T (is_sorted id_cmp (g ∷ es))
    → id_matches g.0 who ≡ true → deciding who (g ∷ es) ≡ Some g
first_decides who g es sorted match = rw match (by_rest (deciding who es) (below_rank who g.0 es (first (below_all id_cmp g.0 es) (is_sorted id_cmp es) sorted)))
  where
    by_rest : (o : Option (PlainAclId × Modes)) → ((h : PlainAclId × Modes) → o ≡ Some h → id_rank g.0 ≤ id_rank h.0) → Some (lesser g o) ≡ Some g
    by_rest None least = refl
    by_rest (Some h) least = let later : ltb (id_rank h.0) (id_rank g.0) ≡ false = not_before (id_rank g.0) (id_rank h.0) (least h refl) in rw later refl

-- an identifier that is found further on is another
other_found : (k q : PlainAclId) (m : Modes) (es : List (PlainAclId × Modes)) → T (below_all id_cmp k es) → find id_cmp q es ≡ Some m → eq_by_cmp id_cmp q k ≡ false
other_found k q m [] below e = absurd (cc)
other_found k q m (g ∷ es) below e =
    by_test (id_cmp q g.0) refl (other_found k q m es (second (is_lt (id_cmp k g.0)) (below_all id_cmp k es) below)) e
  where
    by_test : (r : Ordering) → id_cmp q g.0 ≡ r → (find id_cmp q es ≡ Some m → eq_by_cmp id_cmp q k ≡ false)
        → cond (is_eq r) (Some g.1) (find id_cmp q es) ≡ Some m → eq_by_cmp id_cmp q k ≡ false
    by_test Less t ih e = ih e
    by_test Equal t ih e =
        let under : id_cmp k g.0 ≡ Less = less (id_cmp k g.0) (first (is_lt (id_cmp k g.0)) (below_all id_cmp k es) below) in
        ap is_eq (id_total.congr q g.0 k t ∙ id_total.antisymm g.0 k ∙ ap ordering_reverse under)
    by_test Greater t ih e = ih e

-- the pair that decides stands in the list and matches
pub member : (who : PlainPrincipal) (es : List (PlainAclId × Modes)) → T (is_sorted id_cmp es) → (f : PlainAclId × Modes) → deciding who es ≡ Some f
    → (find id_cmp f.0 es ≡ Some f.1) × (id_matches f.0 who ≡ true)
member who [] sorted f e = absurd (cc)
member who (g ∷ es) sorted f e =
    by_test (id_matches g.0 who) refl (member who es (second (below_all id_cmp g.0 es) (is_sorted id_cmp es) sorted) f)
  where
    here : (find id_cmp g.0 (g ∷ es) ≡ Some g.1)
    here = let tied : id_cmp g.0 g.0 ≡ Equal = tied_itself id_total g.0 in rw tied refl

    by_test : (b : Bool) → id_matches g.0 who ≡ b → (deciding who es ≡ Some f → (find id_cmp f.0 es ≡ Some f.1) × (id_matches f.0 who ≡ true))
        → (find id_cmp f.0 (g ∷ es) ≡ Some f.1) × (id_matches f.0 who ≡ true)
    by_test true m ih =
        let same : g ≡ f = (let decides = first_decides who g es sorted m in cc) in
        subst (λ (h : PlainAclId × Modes). (find id_cmp h.0 (g ∷ es) ≡ Some h.1) × (id_matches h.0 who ≡ true)) same (here, m)
    by_test false m ih =
        let rest : deciding who es ≡ Some f = rw m at e in
        let found = ih rest in
        let other = other_found g.0 f.0 f.1 es (first (below_all id_cmp g.0 es) (is_sorted id_cmp es) sorted) found.0 in
        (rw other found.0, found.1)

further : (who : PlainPrincipal) (g : PlainAclId × Modes) (es : List (PlainAclId × Modes)) (n : ℕ) → T (is_sorted id_cmp (g ∷ es))
    → (f : PlainAclId × Modes) × ((deciding who es ≡ Some f) × (id_rank f.0 ≤ n)) → (f : PlainAclId × Modes) × ((deciding who (g ∷ es) ≡ Some f) × (id_rank f.0 ≤ n))
further who g es n sorted rest = by_test (id_matches g.0 who) refl
  where
    by_test : (b : Bool) → id_matches g.0 who ≡ b → (f : PlainAclId × Modes) × ((deciding who (g ∷ es) ≡ Some f) × (id_rank f.0 ≤ n))
    by_test true m =
        let under = below_rank who g.0 es (first (below_all id_cmp g.0 es) (is_sorted id_cmp es) sorted) rest.0 rest.1.0 in
        (g, (first_decides who g es sorted m, at_most (id_rank g.0) (id_rank rest.0.0) n under rest.1.1))
    by_test false m = (rest.0, (rw m rest.1.0, rest.1.1))

-- and no match has a lesser rank
pub least : (who : PlainPrincipal) (es : List (PlainAclId × Modes)) → T (is_sorted id_cmp es) → (id : PlainAclId) (m : Modes)
    → find id_cmp id es ≡ Some m → id_matches id who ≡ true → (f : PlainAclId × Modes) × ((deciding who es ≡ Some f) × (id_rank f.0 ≤ id_rank id))
least who [] sorted id m at match = absurd (cc)
least who (g ∷ es) sorted id m at match =
    by_test (id_cmp id g.0) refl at
    (λ found. further who g es (id_rank id) sorted (least who es (second (below_all id_cmp g.0 es) (is_sorted id_cmp es) sorted) id m found match))
  where
    by_test : (r : Ordering) → id_cmp id g.0 ≡ r → cond (is_eq r) (Some g.1) (find id_cmp id es) ≡ Some m
        → (find id_cmp id es ≡ Some m → (f : PlainAclId × Modes) × ((deciding who (g ∷ es) ≡ Some f) × (id_rank f.0 ≤ id_rank id)))
        → (f : PlainAclId × Modes) × ((deciding who (g ∷ es) ≡ Some f) × (id_rank f.0 ≤ id_rank id))
    by_test Equal t at ih =
        let same : id ≡ g.0 = id_equal id g.0 t in
        let matches : id_matches g.0 who ≡ true = subst (λ (x : PlainAclId). id_matches x who ≡ true) same match in
        let no_more : id_rank g.0 ≤ id_rank id = subst (λ (x : PlainAclId). id_rank x ≤ id_rank id) same (omega arith) in
        (g, (first_decides who g es sorted matches, no_more))
    by_test Less t at ih = ih at
    by_test Greater t at ih = ih at

-- so the modes are those of the pair that decides, and null where no pair matches
pub decides : (acl : Access) (who : PlainPrincipal) → T (is_sorted id_cmp acl.entries) → (id : PlainAclId) (m : Modes) → IsDeciding acl who id m → modes_for acl who ≡ m
decides acl who sorted id m is =
    let low = least who acl.entries sorted id m is.match.at is.match.matching in
    let stands = member who acl.entries sorted low.0 low.1.0 in
    let up : id_rank id ≤ id_rank low.0.0 = is.least low.0.0 low.0.1 (record { at = stands.0; matching = stands.1 }) in
    let same : id ≡ low.0.0 = same_rank_same_id id low.0.0 who is.match.matching stands.1 (both_most (id_rank id) (id_rank low.0.0) up low.1.1) in
    let modes : Some low.0.1 ≡ Some m = sym stands.0 ∙ ap (λ (x : PlainAclId). find id_cmp x acl.entries) (sym same) ∙ is.match.at in
    rw low.1.0 (let given : low.0.1 ≡ m = cc in given)

pub undecided : (acl : Access) (who : PlainPrincipal) → T (is_sorted id_cmp acl.entries)
    → ((id : PlainAclId) (m : Modes) → IsMatch acl who id m → ⊥) → modes_for acl who ≡ Null
undecided acl who sorted none = by_case (deciding who acl.entries) refl
  where
    by_case : (o : Option (PlainAclId × Modes)) → deciding who acl.entries ≡ o → unwrap_or (option_map (λ (pair : PlainAclId × Modes). pair.1) o) Null ≡ Null
    by_case None e = refl
    by_case (Some f) e = let stands = member who acl.entries sorted f e in absurd (none f.0 f.1 (record { at = stands.0; matching = stands.1 }))

-- the pair that is found is the one that decides, and where none is found no pair matches
pub found_decides : (acl : Access) (who : PlainPrincipal) → T (is_sorted id_cmp acl.entries) → (f : PlainAclId × Modes) → deciding who acl.entries ≡ Some f
    → IsDeciding acl who f.0 f.1
found_decides acl who sorted f e =
    let stands = member who acl.entries sorted f e in
    record {
      match = record { at = stands.0; matching = stands.1 };
      least = λ other others is.
          let low = least who acl.entries sorted other others is.at is.matching in
          let same : low.0 ≡ f = (let given = low.1.0 in cc) in
          subst (λ (g : PlainAclId × Modes). id_rank g.0 ≤ id_rank other) same low.1.1;
    }

pub none_matches : (acl : Access) (who : PlainPrincipal) → T (is_sorted id_cmp acl.entries) → deciding who acl.entries ≡ None
    → (id : PlainAclId) (m : Modes) → IsMatch acl who id m → ⊥
none_matches acl who sorted e id m is =
    let low = least who acl.entries sorted id m is.at is.matching in
    let given = low.1.0 in
    cc

-- what is seen of an answer
pub seen_some : {B A : Type 0} (view : B → A) (r : Option B) (o : Option A) (P : A → Type 0) → option_map view r ≡ o → ((f : A) → o ≡ Some f → P f) → IfSome r (λ b. P (view b))
seen_some view None o P e all = tt
seen_some view (Some b) o P e all = all (view b) (sym e)

pub seen_none : {B A : Type 0} (view : B → A) (r : Option B) (o : Option A) (Q : Type 0) → option_map view r ≡ o → (o ≡ None → Q) → IfNone r Q
seen_none view None o Q e all = all (sym e)
seen_none view (Some b) o Q e all = tt
