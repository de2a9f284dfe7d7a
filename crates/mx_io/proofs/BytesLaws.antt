-- Laws on what is taken from a source and added to a sink, one call after another.
use Rattle.std.proofs.Common.{◌≡◌, ℕ, ◌+◌, List, [], ◌++◌, length, take, drop, Option, Some, None, refl, sym, ◌∙◌, ap, append_assoc, append-nil, subst, arith, ◌-◌, ◌≤◌, drop-drop, length-drop}
use Rattle.std.proofs.Math.Seq.{take-add, drop-append_seam, take-append_seam}
use Rattle.std.proofs.lemmas.List.{length-append, length-take-le, take_all, take-append-drop}
use Rattle.mx_io.specs.Bytes.{Takes, TakesAtMost, TakesAll, TakesTooMany, IsAtEnd, Appends}

-- bytes that are taken, and then more
pub takes_more : (a b c : Option (List ℕ)) (xs ys : List ℕ) → Takes a b xs → Takes b c ys → Takes a c (xs ++ ys)
takes_more (Some a) (Some b) (Some c) xs ys first second = rw (first, second) (sym (append_assoc xs ys c))
takes_more (Some a) (Some b) None xs ys first second = absurd second
takes_more (Some a) None c xs ys first second = absurd first
takes_more None (Some b) c xs ys first second = cc
takes_more None None c xs ys first second = second

pub takes_within : (most : ℕ) (a b c : Option (List ℕ)) (xs ys : List ℕ) → Takes a b xs → Takes b c ys → length xs + length ys ≤ most → TakesAtMost most a c
takes_within most a b c xs ys first second within = (xs ++ ys, rw length-append within, takes_more a b c xs ys first second)

-- at the end all is taken
pub takes_all : (a b c : Option (List ℕ)) (xs : List ℕ) → Takes a b xs → IsAtEnd b → Takes b c [] → TakesAll a c xs
takes_all (Some a) (Some b) (Some c) xs taken end same = (rw (taken, end) (append-nil xs), ap Some (sym same ∙ end))
takes_all (Some a) (Some b) None xs taken end same = absurd same
takes_all (Some a) None c xs taken end same = absurd taken
takes_all None (Some b) c xs taken end same = cc
takes_all None None c xs taken end same = same

-- one more than the limit is taken
pub takes_too_many : (limit : ℕ) (a b : Option (List ℕ)) (xs : List ℕ) → Takes a b xs → length xs ≡ limit + 1 → TakesTooMany limit a b
takes_too_many limit (Some a) (Some b) xs taken long = (
  let e : length a ≡ length xs + length b = rw taken (length-append xs b) in omega arith,
  ap Some (rw (taken, ← long) (sym (drop-append_seam xs b))),
)
takes_too_many limit (Some a) None xs taken long = absurd taken
takes_too_many limit None b xs taken long = taken

-- the first bytes are added, and then more of the rest
pub appends_more : (a b c : Option (List ℕ)) (xs : List ℕ) (n k : ℕ) → Appends a b (take n xs) → Appends b c (take k (take (length xs - n) (drop n xs))) → Appends a c (take (n + k) xs)
appends_more (Some a) b c xs n k first second =
    let all : take (length xs - n) (drop n xs) ≡ drop n xs = take_all (length xs - n) (drop n xs) (rw length-drop (omega arith)) in
    let P : Option (List ℕ) → Type 0 = λ v. Appends v c (take k (drop n xs)) in
    subst P first (let Q : List ℕ → Type 0 = λ v. Appends b c (take k v) in subst Q all second)
    ∙ ap Some (append_assoc a (take n xs) (take k (drop n xs)) ∙ ap (λ v. a ++ v) (sym (take-add n k xs)))
appends_more None b c xs n k first second =
    let P : Option (List ℕ) → Type 0 = λ v. Appends v c (take k (take (length xs - n) (drop n xs))) in
    subst P first second

-- the bytes that were put at a buffer's front, and those behind them
pub left_behind : (n at : ℕ) (left xs copied rest : List ℕ) → left ≡ drop at xs → copied ≡ take n (drop at xs) → at + n ≤ length xs
    → left ≡ take n (copied ++ rest) ++ drop (at + n) xs
left_behind n at left xs copied rest begun put within =
    let long : length copied ≡ n = rw put (length-take-le n (drop at xs) (rw length-drop (omega arith))) in
    let front : take n (copied ++ rest) ≡ copied = ap (λ k. take k (copied ++ rest)) (sym long) ∙ take-append_seam copied rest in
    let behind : drop (at + n) xs ≡ drop n (drop at xs) = ap (λ k. drop k xs) {x = at + n} {y = at + n} refl ∙ sym (drop-drop n at xs) in
    begun ∙ sym (rw (front, behind, put) (take-append-drop n (drop at xs)))
