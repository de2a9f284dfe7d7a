-- Laws of a text that is written field by field.
use Rattle.std.proofs.Common.{◌≡◌, ℕ, List, [], ◌∷◌, ◌++◌, sym, ap, append-nil, append_assoc, ◌∙◌, Result, Ok, Err, OnOk, OnErr}
use Rattle.std.proofs.lemmas.Grind.{flat_map-append}
use Rattle.mx_request.specs.Fields.{line_of}
use Rattle.mx_request.specs.Growth.{IsGrown, blank_before}

-- a line is its first field, and each other with a blank before it
pub line_grows : (field : List ℕ) (fields : List (List ℕ)) → line_of (field ∷ fields) ≡ field ++ blank_before fields
line_grows field [] = sym (append-nil field)
line_grows field (next ∷ fields) = ap (λ rest. field ++ 32 ∷ rest) (line_grows next fields)

-- a line of which the fields after the first are added
pub word_grows : (old new added word : List ℕ) (fields : List (List ℕ)) → added ≡ old ++ word → new ≡ added ++ blank_before fields
    → new ≡ old ++ line_of (word ∷ fields)
word_grows old new added word fields e f = f ∙ rw (e, line_grows word fields) (append_assoc old word (blank_before fields))

-- after the first two
pub path_grows : (old new added word path : List ℕ) (fields : List (List ℕ)) → added ≡ old ++ line_of (word ∷ path ∷ [])
    → new ≡ added ++ blank_before fields → new ≡ old ++ line_of (word ∷ path ∷ fields)
path_grows old new added word path fields e f =
    f ∙ rw (e, line_grows path fields) (simp append_assoc)

-- after the first three
pub words_grow : (old new added more word path words : List ℕ) (fields : List (List ℕ)) → added ≡ old ++ line_of (word ∷ path ∷ [])
    → more ≡ added ++ 32 ∷ words → new ≡ more ++ blank_before fields → new ≡ old ++ line_of (word ∷ path ∷ words ∷ fields)
words_grow old new added more word path words fields e f g =
    g ∙ rw (f, e, line_grows words fields) (simp append_assoc)

-- after rings
pub map_grows : (old new added word path words : List ℕ) (rings fields : List (List ℕ))
    → added ≡ old ++ line_of (word ∷ path ∷ words ∷ rings) → new ≡ added ++ blank_before fields
    → new ≡ old ++ line_of (word ∷ path ∷ words ∷ rings ++ fields)
map_grows old new added word path words rings fields e f =
    f
    ∙ rw (e, line_grows words rings, line_grows words (rings ++ fields), flat_map-append (λ (field : List ℕ). 32 ∷ field) rings fields)
    (simp append_assoc)

-- what has grown twice has grown, also where the second time fails
pub grown_on : {A E : Type 0} (result : Result A E) (old mid new : List ℕ) → IsGrown old mid → IsGrown mid new → OnErr result (IsGrown old new)
grown_on (Ok a) old mid new first second = tt
grown_on (Err e) old mid new first second =
    (first.0 ++ second.0, second.1 ∙ ap (λ xs. xs ++ second.0) first.1 ∙ append_assoc old first.0 second.0)

-- the same where the first time was an addition
pub grown_from : (old mid new added : List ℕ) → mid ≡ old ++ added → IsGrown mid new → IsGrown old new
grown_from old mid new added first second =
    (added ++ second.0, second.1 ∙ ap (λ xs. xs ++ second.0) first ∙ append_assoc old added second.0)

-- what has grown has grown further by a last step, where that fails
pub grown_last : {A E : Type 0} (result : Result A E) (old mid new : List ℕ) → IsGrown old mid → OnErr result (IsGrown mid new)
    → OnErr result (IsGrown old new)
grown_last (Ok a) old mid new first last = tt
grown_last (Err e) old mid new first last = grown_from old mid new first.0 first.1 last

-- three pieces, one after the other, where the last may fail
pub three_pieces : {A E : Type 0} (result : Result A E) (old first second new x y z : List ℕ) → first ≡ old ++ x → second ≡ first ++ y
    → OnOk result (new ≡ second ++ z) → OnOk result (new ≡ old ++ (x ++ (y ++ z)))
three_pieces (Ok a) old first second new x y z e f g = g ∙ rw (f, e) (simp append_assoc)
three_pieces (Err e) old first second new x y z _ _ _ = tt

pub four_pieces : {A E : Type 0} (result : Result A E) (old first second third new w x y z : List ℕ) → first ≡ old ++ w → second ≡ first ++ x
    → third ≡ second ++ y → OnOk result (new ≡ third ++ z) → OnOk result (new ≡ old ++ (w ++ (x ++ (y ++ z))))
four_pieces (Ok a) old first second third new w x y z e f g h = h ∙ rw (g, f, e) (simp append_assoc)
four_pieces (Err e) old first second third new w x y z _ _ _ _ = tt
