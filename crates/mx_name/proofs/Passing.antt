-- A text of names, read in one pass: its bytes in order, and how many of the name at work came before.
use Rattle.std.proofs.Common.{ℕ, suc, ◌≡◌, ◌+◌, ◌==◌, Bool, true, false, cond, ◌&&◌, nat_lt, nat_le, List, [], ◌∷◌, length, Option, refl, sym, ◌∙◌, if◌then◌else◌, arith}
use Rattle.std.specs.List.{list_all, slice_split, onto_first}
use Rattle.std.specs.Option.{is_none, option_or}
use Rattle.std.proofs.lemmas.Bool.Decides.{nat_tests}
use Rattle.mx_name.specs.declared.names.NameError.{NameError}
use Rattle.mx_name.specs.Names.{is_name_byte, name_fault}
use Rattle.mx_name.specs.Pathnames.{first_fault}
use Rattle.mx_name.proofs.Splitting.{some_part}
use Rattle.mx_name.proofs.TextLaws.{other_byte}

-- how many bytes a name may have
abbrev pub is_size : ℕ → Bool
is_size size = nat_lt 0 size && nat_le size 32

-- whether a text, behind so many bytes of its first name, has only names between separators
abbrev pub passes : ℕ → List ℕ → Bool
passes size [] = is_size size
passes size (c ∷ cs) =
    if is_name_byte c then passes (size + 1) cs
    else (if c == 62 then is_size size && passes 0 cs else false)

-- the same of the parts between separators
abbrev are_good : ℕ → List (List ℕ) → Bool
are_good size [] = true
are_good size (part ∷ parts) = list_all is_name_byte part && (is_size (size + length part) && is_none (first_fault parts))

-- a name and no fault behind it
first_good : (part : List ℕ) (rest : Option NameError)
    → (list_all is_name_byte part && (is_size (0 + length part) && is_none rest)) ≡ is_none (option_or (name_fault part) rest)
first_good part rest = grind (arith, nat_tests)

-- so with no byte before them the parts are good exactly where they have no fault
good_parts : (p : ℕ → Bool) (text : List ℕ) → are_good 0 (slice_split p text) ≡ is_none (first_fault (slice_split p text))
good_parts p text =
    let some = some_part p text in
    rw some.1.1 (first_good some.0 (first_fault some.1.0))

-- a byte more of the first part
one_more : (size c : ℕ) (parts : List (List ℕ)) (part : List ℕ) (more : List (List ℕ)) → parts ≡ part ∷ more → is_name_byte c ≡ true
    → are_good size (onto_first c parts) ≡ are_good (size + 1) parts
one_more size c parts part more e t =
    let sum : size + suc (length part) ≡ size + 1 + length part = omega arith in
    rw (e, t, sum) refl

-- a byte that no name has spoils it
bad_byte : (size c : ℕ) (parts : List (List ℕ)) (part : List ℕ) (more : List (List ℕ)) → parts ≡ part ∷ more → is_name_byte c ≡ false
    → are_good size (onto_first c parts) ≡ false
bad_byte size c parts part more e f = rw (e, f) refl

-- a text passes exactly where its parts are good
passes_parts : (size : ℕ) (text : List ℕ) → passes size text ≡ are_good size (slice_split (λ c. c == 62) text)
passes_parts size [] =
    let same : size + 0 ≡ size = omega arith in
    rw same (grind (arith, nat_tests))
passes_parts size (c ∷ cs) = by_byte (is_name_byte c) refl (c == 62) refl (passes_parts (size + 1) cs) (passes_parts 0 cs)
  where
    Says : ℕ → Type 0
    Says n = passes n cs ≡ are_good n (slice_split (λ c. c == 62) cs)

    by_byte : (named : Bool) → is_name_byte c ≡ named → (mark : Bool) → (c == 62) ≡ mark → Says (size + 1) → Says 0
        → cond named (passes (size + 1) cs) (cond mark (is_size size && passes 0 cs) false)
        ≡ are_good size (cond mark ([] ∷ slice_split (λ c. c == 62) cs) (onto_first c (slice_split (λ c. c == 62) cs)))
    by_byte true t true e further anew = absurd (let clash = other_byte is_name_byte 62 c refl t in cc)
    by_byte true t false e further anew =
        let some = some_part (λ c. c == 62) cs in
        further ∙ sym (one_more size c (slice_split (λ c. c == 62) cs) some.0 some.1.0 some.1.1 t)
    by_byte false f true e further anew =
        let same : size + 0 ≡ size = omega arith in
        rw (same, anew, good_parts (λ c. c == 62) cs) refl
    by_byte false f false e further anew =
        let some = some_part (λ c. c == 62) cs in
        sym (bad_byte size c (slice_split (λ c. c == 62) cs) some.0 some.1.0 some.1.1 f)

-- a text passes exactly where none of its parts has a fault
pub passes_all : (text : List ℕ) → passes 0 text ≡ is_none (first_fault (slice_split (λ c. c == 62) text))
passes_all text = passes_parts 0 text ∙ good_parts (λ c. c == 62) text
