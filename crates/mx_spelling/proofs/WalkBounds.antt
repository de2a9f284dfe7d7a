-- Pointers and walks of operands within their bounds: what an indirect word and a register say is a place of a segment.
use Rattle.std.proofs.Common.{◌≡◌, ℕ, zero, suc, ◌+◌, ◌*◌, ◌<◌, ◌≤◌, ◌^◌, Bool, true, false, if◌then◌else◌, List, [], ◌∷◌, length, Option, Some, None, IfSome, refl, subst, arith}
use Rattle.std.specs.List.{All, slice_get}
use Rattle.std.specs.Option.{option_map}
use Rattle.std.proofs.lemmas.List.Elements.{All-nil, All-cons, All-head, All-tail, All-append}
use Rattle.mx_ptr.specs.Pointers.{PointerParts, IsPackable, parts_of, pointer_word, link_word}
use Rattle.mx_effring.specs.Chains as chains
use Rattle.mx_effring.specs.Chains.{Indirection, rings_along, largest, effective_ring, last_pointer, place_of, read_on}
use Rattle.mx_effring.specs.Walks.{wanted}
use Rattle.mx_effring.specs.declared.walks.Want.{Want}
use Rattle.mx_effring.specs.declared.walks.Want.TheVariants.{Word, Done}
use Rattle.mx_call.specs.Registers.{Registers, ArePackable, way_back}
use Rattle.mx_request.proofs.FieldLaws.{at_most}
use Rattle.mx_request.proofs.StepLaws.{both}
use Rattle.mx_script.specs.Sessions.{is_address, is_base}
use Rattle.mx_script.specs.declared.lines.Base.{Base}
use Rattle.mx_script.specs.declared.lines.Base.TheVariants.{Segment, Register}
use Rattle.mx_script.specs.declared.lines.Operand.{Operand}
use Rattle.mx_transcript.specs.Operands.{walk_from, beyond, base_of, operand_walk}
use Rattle.std.proofs.Common.{nat_le}

-- what is so of each item is so of the item at a place
pub at_place : {X : Type 0} (P : X → Type 0) (xs : List X) (n : ℕ) (x : X) → All P xs → slice_get xs n ≡ Some x → P x
at_place P [] n x all e = absurd cc
at_place P (y ∷ ys) zero x all e =
    let same : y ≡ x = cc in
    subst P same (All-head P y ys all)
at_place P (y ∷ ys) (suc n) x all e = at_place P ys n x (All-tail P y ys all) e

-- and the place is one of the list
pub place_below : {X : Type 0} (xs : List X) (n : ℕ) (x : X) → slice_get xs n ≡ Some x → n < length xs
place_below [] n x e = absurd cc
place_below (y ∷ ys) zero x e = omega arith
place_below (y ∷ ys) (suc n) x e = let h = place_below ys n x e in omega (arith, h)

-- the parts of a word are those of a pointer
pub parts_packable : (value : ℕ) → value < 2 ^ 36 → IsPackable (parts_of value)
parts_packable value h = record { ring = omega arith; segno = omega arith; word = omega arith }

-- and a pointer has a word
tagged_small : (segno ring place tag : ℕ) → segno ≤ 4095 → ring ≤ 7 → place ≤ 32767 → tag ≤ 63
    → segno * 8 ^ 8 + ring * 8 ^ 7 + place * 8 ^ 2 + tag < 2 ^ 36
tagged_small segno ring place tag a b c d = omega arith

pub pointer_small : (p : PointerParts) → IsPackable p → pointer_word (record p { further = false }) < 2 ^ 36
pointer_small p is =
    let w = is.word in
    tagged_small p.segno p.ring (2 * p.word + 0) 35 is.segno is.ring (omega arith) (omega arith)

pub link_small : (index : ℕ) → index ≤ 16383 → link_word index < 2 ^ 36
link_small index h = tagged_small 0 0 (2 * index) 38 (omega arith) (omega arith) (omega arith) (omega arith)

-- a word of a chain: its pointer, and the first bracket of the segment that held it
abbrev pub IsGoodWord : Indirection → Type 0
IsGoodWord i = IsPackable i.pointer × (i.r1 ≤ 7)

pub record IsGoodWalk (w : chains.Operand) : Type 0 where
  pub current : w.current ≤ 7
  pub base : IsPackable w.base
  pub chain : All IsGoodWord w.chain

largest_low : (chain : List Indirection) → All IsGoodWord chain → largest (rings_along chain) ≤ 7
largest_low [] all = omega arith
largest_low (i ∷ rest) all =
    let here : IsGoodWord i = All-head IsGoodWord i rest all in
    let a : i.pointer.ring ≤ 7 = here.0.ring in
    let b : i.r1 ≤ 7 = here.1 in
    let c : largest (rings_along rest) ≤ 7 = largest_low rest (All-tail IsGoodWord i rest all) in
    omega (arith, a, b, c)

effective_low : (w : chains.Operand) → IsGoodWalk w → effective_ring w ≤ 7
effective_low w is =
    let a : w.current ≤ 7 = is.current in
    let b : w.base.ring ≤ 7 = is.base.ring in
    let c : largest (rings_along w.chain) ≤ 7 = largest_low w.chain is.chain in
    omega (arith, a, b, c)

last_packable : (p : PointerParts) (chain : List Indirection) → IsPackable p → All IsGoodWord chain → IsPackable (last_pointer p chain)
last_packable p [] is all = is
last_packable p (i ∷ rest) is all =
    last_packable i.pointer rest (All-head IsGoodWord i rest all).0 (All-tail IsGoodWord i rest all)

place_packable : (w : chains.Operand) → IsGoodWalk w → IsPackable (place_of w)
place_packable w is =
    last_packable (record w.base { further = w.indirect }) w.chain
    (record { ring = is.base.ring; segno = is.base.segno; word = is.base.word }) is.chain

-- a walk asks for a word that is there to be named, or has come to a place that is
abbrev pub IsGoodWant : Want → Type 0
IsGoodWant (Word segno word ring) = (segno ≤ 4095) × (word ≤ 16383) × (ring ≤ 7)
IsGoodWant (Done target) = IsPackable target × (target.further ≡ false)

pub wanted_good : (w : chains.Operand) → IsGoodWalk w → IsGoodWant (wanted w)
wanted_good w is = by_further (place_of w).further (place_of w) (effective_ring w) (place_packable w is) (effective_low w is)
  where
    by_further : (further : Bool) (place : PointerParts) (ring : ℕ) → IsPackable place → ring ≤ 7 → IsGoodWant (if further
        then Word place.segno place.word ring
        else Done (record place { ring = ring; further = false }))
    by_further true place ring p low = (p.segno, p.word, low)
    by_further false place ring p low = (record { ring = low; segno = p.segno; word = p.word }, refl)

-- one word more
pub read_good : (w : chains.Operand) (value r1 : ℕ) → IsGoodWalk w → value < 2 ^ 36 → r1 ≤ 7 → IsGoodWalk (read_on w (parts_of value) r1)
read_good w value r1 is small low = record {
  current = is.current;
  base = is.base;
  chain = All-append IsGoodWord w.chain (record { pointer = parts_of value; r1 = r1 } ∷ []) is.chain
      (All-cons IsGoodWord (record { pointer = parts_of value; r1 = r1 }) [] (parts_packable value small, low) (All-nil IsGoodWord));
}

-- where a walk begins
begun_good : (g : Registers) (indirect : Bool) (base : Option PointerParts) → ArePackable g → IfSome base IsPackable
    → IfSome (option_map (walk_from g indirect) base) IsGoodWalk
begun_good g indirect None is at = tt
begun_good g indirect (Some p) is at = record { current = is.ring; base = at; chain = All-nil IsGoodWord }

beyond_packable : (word : ℕ) (p : PointerParts) → IsPackable p → IsPackable (beyond word p)
beyond_packable word p is = record { ring = is.ring; segno = is.segno; word = omega arith }

moved_on : (word : ℕ) (p : Option PointerParts) → IfSome p IsPackable → IfSome (option_map (beyond word) p) IsPackable
moved_on word None is = tt
moved_on word (Some p) is = beyond_packable word p is

register_packable : (pr : List PointerParts) (n : ℕ) (p : Option PointerParts) → All IsPackable pr → slice_get pr n ≡ p → IfSome p IsPackable
register_packable pr n None all e = tt
register_packable pr n (Some p) all e = at_place IsPackable pr n p all e

base_good : (g : Registers) (base : Base) (word : ℕ) → ArePackable g → is_base base ≡ true → word ≤ 16383 → IfSome (base_of g base word) IsPackable
base_good g (Segment segno) word is e low = record { ring = is.ring; segno = at_most segno 4095 e; word = low }
base_good g (Register n) word is e low = moved_on word (slice_get g.pr n) (register_packable g.pr n (slice_get g.pr n) is.pr refl)

pub operand_good : (g : Registers) (o : Operand) → ArePackable g → is_address o ≡ true → IfSome (operand_walk g o) IsGoodWalk
operand_good g o is e =
    let f = both (is_base o.base) (nat_le o.word 16383) e in
    begun_good g o.indirect (base_of g o.base o.word) is (base_good g o.base o.word is f.0 (at_most o.word 16383 f.1))

pub fetch_good : (g : Registers) → ArePackable g → IsGoodWalk (walk_from g false (way_back g))
fetch_good g is = record {
  current = is.ring;
  base = record { ring = is.ring; segno = is.procedure.segno; word = is.procedure.word };
  chain = All-nil IsGoodWord;
}
