-- Laws of texts within a page: none has a byte that begins a tag.
use Rattle.std.proofs.Common.{◌≡◌, ℕ, Bool, true, List, [], ◌∷◌, refl, arith}
use Rattle.std.specs.Prelude.{◌&&◌, codes}
use Rattle.std.specs.List.{flat_map, list_all}
use Rattle.std.proofs.lemmas.List.Concat.{flat_map-cons}
use Rattle.std.proofs.lemmas.List.Folds.{list_all-append}
use Rattle.mx_picture.specs.Escapes.{entity, escaped, quoted, quoted_byte, is_no_mark, begins_no_tag}

both : {x y : Bool} → x ≡ true → y ≡ true → (x && y) ≡ true
both h k = rw (h, k) refl

-- what is true of each piece is true of all of them
all_pieces : (p : ℕ → Bool) (f : ℕ → List ℕ) → ((byte : ℕ) → list_all p (f byte) ≡ true) → (text : List ℕ)
    → list_all p (flat_map f text) ≡ true
all_pieces p f each [] = refl
all_pieces p f each (byte ∷ text) =
    rw (flat_map-cons f byte text, list_all-append p (f byte) (flat_map f text)) (both (each byte) (all_pieces p f each text))

entity_plain : (byte : ℕ) → list_all is_no_mark (entity byte) ≡ true
entity_plain byte = grind arith

byte_plain : (byte : ℕ) → list_all begins_no_tag (quoted_byte byte) ≡ true
byte_plain byte = grind arith

pub escaped_plain : (text : List ℕ) → list_all is_no_mark (escaped text) ≡ true
escaped_plain text = all_pieces is_no_mark entity entity_plain text

pub quoted_plain : (text : List ℕ) → list_all begins_no_tag (quoted text) ≡ true
quoted_plain text =
    rw (list_all-append begins_no_tag (flat_map quoted_byte text) (codes "\""))
    (both (all_pieces begins_no_tag quoted_byte byte_plain text) refl)
