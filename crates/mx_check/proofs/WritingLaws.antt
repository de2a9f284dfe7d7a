-- A text that is written in parts.
use Rattle.std.proofs.Common.{◌≡◌, ℕ, ◌+◌, ◌<◌, List, ◌++◌, length, take, Option, Some, None, Result, Ok, Err, OnErr, ap, sym, ◌∙◌, subst, append_assoc, length-append, arith}
use Rattle.std.proofs.lemmas.List.{take-append-le}
use Rattle.std.proofs.Math.Seq.{take-append-add}
use Rattle.mx_io.specs.Bytes.{Appends, AppendsPart}

-- a front, and what is behind it
pub both_parts : (a b c : Option (List ℕ)) (xs ys : List ℕ) → Appends a b xs → Appends b c ys → Appends a c (xs ++ ys)
both_parts (Some a) b c xs ys first second =
    subst (λ (v : Option (List ℕ)). Appends v c ys) first second ∙ ap Some (append_assoc a xs ys)
both_parts None b c xs ys first second = subst (λ (v : Option (List ℕ)). Appends v c ys) first second

-- a part of a front
pub part_before : (a b : Option (List ℕ)) (xs ys : List ℕ) → AppendsPart a b xs → AppendsPart a b (xs ++ ys)
part_before a b xs ys part =
    let few : part.0 < length xs = part.1 in (
      part.0,
      omega (arith, few, length-append xs ys),
      subst (λ (text : List ℕ). Appends a b text) (sym (take-append-le part.0 xs ys (omega (arith, few)))) part.2,
    )

-- the front, and a part of what is behind it
pub part_behind : (a b c : Option (List ℕ)) (xs ys : List ℕ) → Appends a b xs → AppendsPart b c ys → AppendsPart a c (xs ++ ys)
part_behind a b c xs ys first part =
    let few : part.0 < length ys = part.1 in (
      length xs + part.0,
      omega (arith, few, length-append xs ys),
      subst (λ (text : List ℕ). Appends a c text) (sym (take-append-add xs ys part.0)) (both_parts a b c xs (take part.0 ys) first part.2),
    )

-- what holds on an error
pub on_error : {T E P : Type 0} (r : Result T E) → P → OnErr r P
on_error (Ok value) p = tt
on_error (Err why) p = p

pub on_errors : {T E P Q : Type 0} (r : Result T E) → (P → Q) → OnErr r P → OnErr r Q
on_errors (Ok value) f p = tt
on_errors (Err why) f p = f p

-- a front, and two parts behind it that are written as one
pub joined : (a b c : Option (List ℕ)) (xs ys zs : List ℕ) → Appends a b xs → Appends b c (ys ++ zs) → Appends a c (xs ++ ys ++ zs)
joined a b c xs ys zs first second =
    subst (Appends a c) (sym (append_assoc xs ys zs)) (both_parts a b c xs (ys ++ zs) first second)

pub joined_part : (a b : Option (List ℕ)) (xs ys zs : List ℕ) → AppendsPart a b (xs ++ (ys ++ zs)) → AppendsPart a b (xs ++ ys ++ zs)
joined_part a b xs ys zs part = subst (AppendsPart a b) (sym (append_assoc xs ys zs)) part
