-- Laws of cuts: what a cut takes apart is its text, and a front without the byte is cut off again.
use Rattle.std.proofs.Common.{ℕ, zero, suc, ◌≡◌, ◌==◌, ◌<◌, Bool, true, false, cond, not, List, [], ◌∷◌, ◌++◌, take, drop, length, Option, None, Some, refl, ap, ◌∙◌, subst, arith, ◌+◌, ◌-◌}
use Rattle.std.specs.List.{slice_split, onto_first}
use Rattle.std.specs.Option.{option_map}
use Rattle.std.proofs.lemmas.List.{take_rest}
use Rattle.std.proofs.lemmas.Bool.{eqb-true, eq-eqb}
use Rattle.memchr.specs.Find.{Nowhere, Passes, IsFirstByte, IsLastByte, is_byte}
use Rattle.mx_name.specs.Names.{is_free}
use Rattle.mx_name.specs.Cuts.{behind, cut_at}
use Rattle.mx_name.specs.Parts.{parts_by, parts_to}
use Rattle.mx_name.specs.OrderLaws.{both_left, both_right}
use Rattle.mx_name.proofs.Splitting.{some_part}

some_is : {A : Type 0} (a b : A) → Some a ≡ Some b → a ≡ b
some_is a b e = cc

fails : (b : Bool) → not b ≡ true → b ≡ false
fails true e = cc
fails false e = refl

-- what a cut says of its text
abbrev pub IsCut : ℕ → List ℕ → List ℕ × List ℕ → Type 0
IsCut byte text p = (text ≡ p.0 ++ byte ∷ p.1) × (is_free byte p.0 ≡ true)

cut_on : (byte c : ℕ) (cs : List ℕ) (p : List ℕ × List ℕ) (test : Bool) (o : Option (List ℕ × List ℕ)) → (c == byte) ≡ test
    → cond test (Some ([], cs)) (behind (c ∷ []) o) ≡ Some p → ((q : List ℕ × List ℕ) → o ≡ Some q → IsCut byte cs q)
    → IsCut byte (c ∷ cs) p
cut_on byte c cs p true o t e on =
    let here = eqb-true c byte t in
    let P : List ℕ × List ℕ → Type 0 = IsCut byte (c ∷ cs) in
    subst P (some_is _ _ e) (ap (λ x. x ∷ cs) here, refl)
cut_on byte c cs p false None t e on = cc
cut_on byte c cs p false (Some q) t e on =
    let later = on q refl in
    let P : List ℕ × List ℕ → Type 0 = IsCut byte (c ∷ cs) in
    subst P (some_is _ _ e) (ap (λ xs. c ∷ xs) later.0, rw t later.1)

-- a cut is of its text, and at the first such byte
pub cut_takes : (byte : ℕ) (text : List ℕ) (p : List ℕ × List ℕ) → cut_at byte text ≡ Some p → IsCut byte text p
unfolding cut_at
cut_takes byte [] p e = cc
cut_takes byte (c ∷ cs) p e = cut_on byte c cs p (c == byte) (cut_at byte cs) refl e (cut_takes byte cs)

-- a front without the byte is cut off
pub cut_again : (byte : ℕ) (front rest : List ℕ) → is_free byte front ≡ true → cut_at byte (front ++ byte ∷ rest) ≡ Some (front, rest)
unfolding cut_at
cut_again byte [] rest e = rw (eq-eqb byte byte refl) refl
cut_again byte (c ∷ cs) rest e =
    rw (
      fails (c == byte) (both_left (not (c == byte)) (is_free byte cs) e),
      cut_again byte cs rest (both_right (not (c == byte)) (is_free byte cs) e),
    ) refl

-- the parts of a text are those by its cut
parts_on : (byte c : ℕ) (cs : List ℕ) (test : Bool) (o : Option (List ℕ × List ℕ)) → slice_split (λ c. c == byte) cs ≡ parts_by byte cs o
    → cond test ([] ∷ slice_split (λ c. c == byte) cs) (onto_first c (slice_split (λ c. c == byte) cs))
    ≡ parts_by byte (c ∷ cs) (cond test (Some ([], cs)) (behind (c ∷ []) o))
parts_on byte c cs true o e = refl
parts_on byte c cs false None e = ap (onto_first c) e
parts_on byte c cs false (Some q) e = ap (onto_first c) e

pub parts_cut : (byte : ℕ) (text : List ℕ) → slice_split (λ c. c == byte) text ≡ parts_by byte text (cut_at byte text)
unfolding cut_at
parts_cut byte [] = refl
parts_cut byte (c ∷ cs) = parts_on byte c cs (c == byte) (cut_at byte cs) (parts_cut byte cs)

-- where no byte is the one, there is no cut
cut_past : (byte c : ℕ) (cs : List ℕ) (test : Bool) → (c == byte) ≡ test → (test ≡ true → ⊥) → cut_at byte cs ≡ None
    → cond test (Some ([], cs)) (behind (c ∷ []) (cut_at byte cs)) ≡ None
cut_past byte c cs true t differs e = absurd (differs refl)
cut_past byte c cs false t differs e = rw e refl

pub cut_none : (byte : ℕ) (text : List ℕ) → Nowhere (Passes (is_byte byte) text) 0 (length text) → cut_at byte text ≡ None
unfolding cut_at
cut_none byte [] absent = refl
cut_none byte (c ∷ cs) absent =
    cut_past byte c cs (c == byte) refl (absent 0 (omega arith) (omega arith))
    (cut_none byte cs (λ k low high. absent (suc k) (omega arith) (omega arith)))

-- the cut is at the first byte that is the one
cut_behind : (byte c k : ℕ) (cs : List ℕ) (test : Bool) → (c == byte) ≡ test → (test ≡ true → ⊥)
    → cut_at byte cs ≡ Some (take k cs, drop (suc k) cs)
    → cond test (Some ([], cs)) (behind (c ∷ []) (cut_at byte cs)) ≡ Some (c ∷ take k cs, drop (suc k) cs)
cut_behind byte c k cs true t differs e = absurd (differs refl)
cut_behind byte c k cs false t differs e = rw e refl

pub cut_first : (byte k : ℕ) (text : List ℕ) → k < length text → Nowhere (Passes (is_byte byte) text) 0 k
    → Passes (is_byte byte) text k → cut_at byte text ≡ Some (take k text, drop (suc k) text)
unfolding cut_at
cut_first byte k [] within absent is = absurd (omega arith)
cut_first byte zero (c ∷ cs) within absent is = rw is refl
cut_first byte (suc k) (c ∷ cs) within absent is =
    cut_behind byte c k cs (c == byte) refl (absent 0 (omega arith) (omega arith))
    (cut_first byte k cs (omega arith) (λ j low high. absent (suc j) (omega arith) (omega arith)) is)

-- so the first place where the byte is gives the cut
pub cut_found : (byte : ℕ) (text : List ℕ) (place : Option ℕ) → IsFirstByte (is_byte byte) text place
    → cut_at byte text ≡ option_map (λ k. (take k text, take (length text - (k + 1)) (drop (k + 1) text))) place
cut_found byte text None absent = cut_none byte text absent
cut_found byte text (Some k) is =
    let next : k + 1 ≡ suc k = omega arith in
    rw (take_rest text (k + 1), next) (cut_first byte k text is.0.high is.0.before is.1)

-- a text without the byte is its one part
one_part : (byte : ℕ) (text : List ℕ) → Nowhere (Passes (is_byte byte) text) 0 (length text) → slice_split (λ c. c == byte) text ≡ text ∷ []
one_part byte text absent = parts_cut byte text ∙ ap (parts_by byte text) (cut_none byte text absent)

-- a byte before the first part of some leaves the last one as it is
onto_front : (c : ℕ) (front : List ℕ) (fronts : List (List ℕ)) (parts : List (List ℕ)) (last : List ℕ) → parts ≡ front ∷ fronts
    → onto_first c (parts ++ last ∷ []) ≡ onto_first c parts ++ last ∷ []
onto_front c front fronts parts last e = rw e refl

-- the parts before the last such byte, and what stands after it
last_on : (byte c : ℕ) (front rest last : List ℕ) (test : Bool) → slice_split (λ c. c == byte) rest ≡ slice_split (λ c. c == byte) front ++ last ∷ []
    → cond test ([] ∷ slice_split (λ c. c == byte) rest) (onto_first c (slice_split (λ c. c == byte) rest))
    ≡ cond test ([] ∷ slice_split (λ c. c == byte) front) (onto_first c (slice_split (λ c. c == byte) front)) ++ last ∷ []
last_on byte c front rest last true e = ap (λ (parts : List (List ℕ)). [] ∷ parts) e
last_on byte c front rest last false e =
    let some = some_part (λ c. c == byte) front in
    ap (onto_first c) e ∙ onto_front c some.0 some.1.0 (slice_split (λ c. c == byte) front) last some.1.1

pub cut_last : (byte k : ℕ) (text : List ℕ) → k < length text → Nowhere (Passes (is_byte byte) text) (suc k) (length text)
    → Passes (is_byte byte) text k → slice_split (λ c. c == byte) text ≡ slice_split (λ c. c == byte) (take k text) ++ drop (suc k) text ∷ []
cut_last byte k [] within absent is = absurd (omega arith)
cut_last byte zero (c ∷ cs) within absent is =
    rw is (ap (λ (parts : List (List ℕ)). [] ∷ parts) (one_part byte cs (λ j low high. absent (suc j) (omega arith) (omega arith))))
cut_last byte (suc k) (c ∷ cs) within absent is =
    last_on byte c (take k cs) cs (drop (suc k) cs) (c == byte)
    (cut_last byte k cs (omega arith) (λ j low high. absent (suc j) (omega arith) (omega arith)) is)

-- so the last place where the byte is parts the text
pub last_found : (byte : ℕ) (text : List ℕ) (place : Option ℕ) → IsLastByte (is_byte byte) text place
    → slice_split (λ c. c == byte) text
    ≡ parts_to byte text (option_map (λ k. (take k text, take (length text - (k + 1)) (drop (k + 1) text))) place)
last_found byte text None absent = one_part byte text absent
last_found byte text (Some k) is =
    let next : k + 1 ≡ suc k = omega arith in
    rw (take_rest text (k + 1), next) (cut_last byte k text is.0.high (rw (← next) is.0.after) is.1)
