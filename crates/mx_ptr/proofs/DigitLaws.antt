-- Octal digits of a number that is put together from several.
use Rattle.std.proofs.Common.{◌≡◌, ℕ, zero, suc, ◌+◌, ◌*◌, ◌/◌, ◌%◌, ◌^◌, ◌<◌, ◌≤◌, Bool, true, false, ◌++◌, codes, refl, ◌∙◌, arith, lit<, append_assoc, append-nil}
use Rattle.std.proofs.Math.Nat.{pow-succ'}
use Rattle.mx_ptr.specs.Digits.{digits}
use Rattle.mx_ptr.specs.Pointers.{PointerParts, pointer_tag, link_tag, place_of, tagged, pointer_word, IsPackable, link_word}

scaled : (high k : ℕ) → high * 8 ^ suc k ≡ 8 * (high * 8 ^ k)
scaled high k = rw (pow-succ' 8 k) (omega arith)

-- the digits of the higher part, and then the k digits of the lower
digits_joined : (k m j n high low : ℕ) → m ≡ j + k → n ≡ high * 8 ^ k + low → low < 8 ^ k → digits m n ≡ digits j high ++ digits k low
unfolding digits
digits_joined zero m j n high low e s h =
    let places : m ≡ j = omega arith in
    let same : n ≡ high = omega arith in
    rw (places, same, append-nil) refl
digits_joined (suc k) m j n high low e s h =
    let places : m ≡ suc (j + k) = omega arith in
    let front : n / 8 ≡ high * 8 ^ k + low / 8 = omega (arith, scaled high k) in
    let last : n % 8 ≡ low % 8 = omega (arith, scaled high k) in
    rw (places, last, digits_joined k (j + k) j (n / 8) high (low / 8) refl front (omega (arith, pow-succ' 8 k)), append_assoc) refl

-- a word in its twelve digits
pub tagged_digits : (segno ring place tag : ℕ) → ring < 8 → place < 8 ^ 5 → tag < 8 ^ 2
    → digits 12 (tagged segno ring place tag) ≡ digits 4 segno ++ digits 1 ring ++ digits 5 place ++ digits 2 tag
tagged_digits segno ring place tag r p t =
    let one : ring < 8 ^ 1 = r in
    rw (
      digits_joined 2 12 10 (tagged segno ring place tag) ((segno * 8 + ring) * 8 ^ 5 + place) tag refl (omega arith) t,
      digits_joined 5 10 5 ((segno * 8 + ring) * 8 ^ 5 + place) (segno * 8 + ring) place refl refl p,
      digits_joined 1 5 4 (segno * 8 + ring) segno ring refl (omega arith) one,
    ) refl

pointer_tag_digits : digits 2 pointer_tag ≡ codes "43"
unfolding digits
pointer_tag_digits = refl

link_tag_digits : digits 2 link_tag ≡ codes "46"
unfolding digits
link_tag_digits = refl

zero_digits : digits 4 0 ++ digits 1 0 ≡ codes "00000"
unfolding digits
zero_digits = refl

place_below : (word : ℕ) (further : Bool) → word ≤ 16383 → place_of word further < 8 ^ 5
place_below word true h = omega arith
place_below word false h = omega arith

pub pointer_digits : (p : PointerParts) → IsPackable p
    → digits 12 (pointer_word p) ≡ digits 4 p.segno ++ digits 1 p.ring ++ digits 5 (place_of p.word p.further) ++ codes "43"
pointer_digits p h =
    let ring : p.ring < 8 = omega (arith, h.ring) in
    let tag : pointer_tag < 8 ^ 2 = lit< tt in
    tagged_digits p.segno p.ring (place_of p.word p.further) pointer_tag ring (place_below p.word p.further h.word) tag
    ∙ rw pointer_tag_digits refl

pub link_digits : (index : ℕ) → index ≤ 16383 → digits 12 (link_word index) ≡ codes "00000" ++ digits 5 (2 * index) ++ codes "46"
link_digits index h =
    let ring : 0 < 8 = lit< tt in
    let tag : link_tag < 8 ^ 2 = lit< tt in
    tagged_digits 0 0 (2 * index) link_tag ring (omega arith) tag ∙ rw (zero_digits, link_tag_digits) refl
