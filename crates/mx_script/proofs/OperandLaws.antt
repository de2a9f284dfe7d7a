-- Laws of operands: what one is read as spells it, and an operand that fits is read back.
use Rattle.std.proofs.Common.{◌≡◌, ℕ, ◌==◌, ◌^◌, ◌<◌, nat_le, Bool, true, false, not, ◌&&◌, List, [], ◌∷◌, ◌++◌, Option, Some, None, codes, refl, ap, sym, ◌∙◌, subst, arith, append_assoc, append-nil}
use Rattle.std.proofs.lemmas.Bool.{eqb-true, eq-eqb}
use Rattle.std.proofs.lemmas.List.Folds.{list_all-append}
use Rattle.std.specs.Cmp.Lexicographic.{pointwise}
use Rattle.mx_name.proofs.CutLaws.{cut_takes, cut_again}
use Rattle.mx_name.specs.Cuts.{cut_at}
use Rattle.mx_name.specs.Names.{is_free}
use Rattle.mx_sdw.proofs.OctalLaws.{octal_number_takes, octal_number_fits, octal_number_below}
use Rattle.mx_sdw.specs.Octal.{is_octal_digit, octal, octal_number}
use Rattle.mx_request.proofs.FieldLaws.{word_number_takes, word_number_again}
use Rattle.mx_request.specs.WordNumbers.{word_number_of}
use Rattle.mx_request.proofs.StepLaws.{both, both_hold, fails, some_is, bind_some, when_some, same_bytes}
use Rattle.mx_script.proofs.FieldLaws.{at_most, at_most_test, octal_free, cut_none}
use Rattle.mx_script.proofs.FrontLaws.{after_takes}
use Rattle.mx_script.specs.Fields.{operand, register_at, register_base, segment_base, base_at, star_at, indirect_at, offset_of, offset_at, operand_at, register_operand_at}
use Rattle.mx_script.specs.Fronts.{after, read_or}
use Rattle.mx_script.specs.Sessions.{is_register, is_base, is_address}
use Rattle.mx_script.specs.SessionTexts.{base_text, indirect_text, offset_text, operand_text}
use Rattle.mx_script.specs.declared.lines.Base.{Base}
use Rattle.mx_script.specs.declared.lines.Base.TheVariants.{Segment, Register}
use Rattle.mx_script.specs.declared.lines.Operand.{Operand}

-- cuts and fronts that are not there
no_front : (f : ℕ) (fs text : List ℕ) → is_free f text ≡ true → after (f ∷ fs) text ≡ None
unfolding after
no_front f fs [] e = refl
no_front f fs (c ∷ cs) e =
    let g = both (not (c == f)) (is_free f cs) e in
    rw (other (f == c) refl (fails (c == f) g.0)) refl
  where
    other : (test : Bool) → (f == c) ≡ test → (c == f) ≡ false → (f == c) ≡ false
    other false t n = t
    other true t n = let same = eqb-true f c t in let back : (c == f) ≡ true = eq-eqb c f (sym same) in cc

-- registers
pub register_takes : (text : List ℕ) (n : ℕ) → register_at text ≡ Some n → (octal n ≡ text) × (is_register n ≡ true)
register_takes text n e =
    let small : n < 8 ^ 1 = octal_number_below 1 text n e in
    (sym (octal_number_takes 1 text n e).0, at_most_test n 7 (omega arith))

pub register_again : (n : ℕ) → is_register n ≡ true → register_at (octal n) ≡ Some n
register_again n e =
    let small : n < 8 ^ 1 = omega (arith, at_most n 7 e) in
    let one : 0 < 1 = omega arith in
    octal_number_fits 1 n small one

-- bases
base_takes : (text : List ℕ) (base : Base) → base_at text ≡ Some base → (base_text base ≡ text) × (is_base base ≡ true)
unfolding base_at
base_takes text base e = by_front (after (codes "pr") text) refl e
  where
    small : (s : ℕ) → s < 8 ^ 4 → nat_le s 4095 ≡ true
    small s h = at_most_test s 4095 (omega arith)

    by_front : (found : Option (List ℕ)) → after (codes "pr") text ≡ found
        → read_or found register_base (segment_base text) ≡ Some base → (base_text base ≡ text) × (is_base base ≡ true)
    by_front None t e =
        let s = bind_some (octal_number 4 text) _ base e in
        let P : Base → Type 0 = λ b. (base_text b ≡ text) × (is_base b ≡ true) in
        subst P (some_is _ _ s.2)
        (sym (octal_number_takes 4 text s.0 s.1).0, small s.0 (octal_number_below 4 text s.0 s.1))
    by_front (Some rest) t e =
        let n = bind_some (register_at rest) _ base e in
        let P : Base → Type 0 = λ b. (base_text b ≡ text) × (is_base b ≡ true) in
        let r = register_takes rest n.0 n.1 in
        subst P (some_is _ _ n.2)
        (ap (λ xs. codes "pr" ++ xs) r.0 ∙ sym (after_takes (codes "pr") text rest t), r.1)

base_again : (base : Base) → is_base base ≡ true → base_at (base_text base) ≡ Some base
unfolding base_at after
base_again (Segment s) e =
    let low : s < 8 ^ 4 = omega (arith, at_most s 4095 e) in
    let four : 0 < 4 = omega arith in
    rw (no_front 112 (codes "r") (octal s) (octal_free 112 s refl), octal_number_fits 4 s low four) refl
base_again (Register n) e = rw (register_again n e) refl

base_free : (byte : ℕ) (base : Base) → is_octal_digit byte ≡ false → is_free byte (codes "pr") ≡ true
    → is_free byte (base_text base) ≡ true
base_free byte (Segment s) d l = octal_free byte s d
base_free byte (Register n) d l =
    list_all-append (λ c. not (c == byte)) (codes "pr") (octal n) ∙ both_hold (is_free byte (codes "pr")) (is_free byte (octal n)) l (octal_free byte n d)

-- what stands behind a comma
star_takes : (text : List ℕ) (indirect : Bool) → star_at text ≡ Some indirect → (text ≡ codes "*") × (indirect ≡ true)
star_takes text indirect e =
    let f = when_some (pointwise ◌==◌ text (codes "*")) true indirect e in
    (same_bytes text (codes "*") f.0, sym f.1)

-- a word number, and whether the word is indirect
pub record IsOffset (text : List ℕ) (o : ℕ × Bool) : Type 0 where
  pub spelled : offset_text o.0 o.1 ≡ text
  pub fits : nat_le o.0 16383 ≡ true

plain_offset : (text : List ℕ) (word : ℕ) (o : ℕ × Bool) → word_number_of text ≡ Some word → Some (word, false) ≡ Some o
    → IsOffset text o
plain_offset text word o is e =
    let f = word_number_takes text word is in
    subst (IsOffset text) (some_is _ _ e) (record { spelled = append-nil (octal word) ∙ f.0; fits = f.1 })

starred_offset : (text : List ℕ) (o : ℕ × Bool) → indirect_at text ≡ Some o → IsOffset text o
starred_offset text o e =
    let p = bind_some (cut_at 44 text) _ o e in
    let w = bind_some (word_number_of p.0.0) _ o p.2 in
    let i = bind_some (star_at p.0.1) _ o w.2 in
    let f = word_number_takes p.0.0 w.0 w.1 in
    let g = star_takes p.0.1 i.0 i.1 in
    let parts = cut_takes 44 text p.0 p.1 in
    subst (IsOffset text) (some_is _ _ i.2)
    (record { spelled = spelled w.0 i.0 text p.0.0 p.0.1 g.1 f.0 g.0 parts.0; fits = f.1 })
  where
    spelled : (w : ℕ) (indirect : Bool) (text front rest : List ℕ) → indirect ≡ true → octal w ≡ front → rest ≡ codes "*"
        → text ≡ front ++ 44 ∷ rest → offset_text w indirect ≡ text
    spelled w indirect text front rest i f r e = rw (i, f, e, r) refl

offset_takes : (text : List ℕ) (o : ℕ × Bool) → offset_at text ≡ Some o → IsOffset text o
offset_takes text o e = by_word (word_number_of text) refl e
  where
    by_word : (found : Option ℕ) → word_number_of text ≡ found → offset_of text found ≡ Some o → IsOffset text o
    by_word None t e = starred_offset text o e
    by_word (Some word) t e = plain_offset text word o t e

-- a text with a comma is no word number, whose text has none
starred_is_none : (front rest : List ℕ) (found : Option ℕ) → word_number_of (front ++ 44 ∷ rest) ≡ found → found ≡ None
starred_is_none front rest None e = refl
starred_is_none front rest (Some word) e =
    let spelled : octal word ≡ front ++ 44 ∷ rest = (word_number_takes (front ++ 44 ∷ rest) word e).0 in
    let free : is_free 44 (front ++ 44 ∷ rest) ≡ true = subst (λ xs. is_free 44 xs ≡ true) spelled (octal_free 44 word refl) in
    let parts = both _ _ (sym (list_all-append (λ c. not (c == 44)) front (44 ∷ rest)) ∙ free) in
    absurd (no_comma parts.1)
  where
    no_comma : false && is_free 44 rest ≡ true → ⊥
    no_comma e = cc

offset_again : (w : ℕ) (indirect : Bool) → nat_le w 16383 ≡ true
    → offset_at (offset_text w indirect) ≡ Some (w, indirect)
offset_again w true e =
    rw (
      starred_is_none (octal w) (codes "*") _ refl,
      cut_again 44 (octal w) (codes "*") (octal_free 44 w refl),
      word_number_again w e,
    ) refl
offset_again w false e = rw (append-nil (octal w), word_number_again w e) refl

indirect_free : (byte : ℕ) (indirect : Bool) → is_free byte (codes ",*") ≡ true → is_free byte (indirect_text indirect) ≡ true
indirect_free byte true e = e
indirect_free byte false e = refl

-- operands
pub operand_takes : (text : List ℕ) (o : Operand) → operand_at text ≡ Some o
    → (operand_text o ≡ text) × (is_address o ≡ true)
operand_takes text o e =
    let p = bind_some (cut_at 124 text) _ o e in
    let b = bind_some (base_at p.0.0) _ o p.2 in
    let w = bind_some (offset_at p.0.1) _ o b.2 in
    let f = base_takes p.0.0 b.0 b.1 in
    let g = offset_takes p.0.1 w.0 w.1 in
    let parts = cut_takes 124 text p.0 p.1 in
    let P : Operand → Type 0 = λ o. (operand_text o ≡ text) × (is_address o ≡ true) in
    subst P (some_is _ _ w.2) (
      spelled (base_text b.0) (offset_text w.0.0 w.0.1) text p.0.0 p.0.1 f.0 g.spelled parts.0,
      both_hold (is_base b.0) (nat_le w.0.0 16383) f.1 g.fits,
    )
  where
    spelled : (base offset text front rest : List ℕ) → base ≡ front → offset ≡ rest → text ≡ front ++ 124 ∷ rest
        → base ++ codes "|" ++ offset ≡ text
    spelled base offset text front rest e f g = rw (e, f, g, append_assoc) refl

address_again : (base : Base) (w : ℕ) (indirect : Bool) → is_base base ≡ true → nat_le w 16383 ≡ true
    → operand_at (operand_text (operand base w indirect)) ≡ Some (operand base w indirect)
address_again base w indirect e f =
    rw (
      append_assoc,
      cut_again 124 (base_text base) (offset_text w indirect) (base_free 124 base refl refl),
      base_again base e,
      offset_again w indirect f,
    ) refl

pub operand_again : (o : Operand) → is_address o ≡ true → operand_at (operand_text o) ≡ Some o
operand_again o e =
    let f = both (is_base o.base) (nat_le o.word 16383) e in address_again o.base o.word o.indirect f.0 f.1

pub operand_free : (o : Operand) → is_free 10 (operand_text o) ≡ true
operand_free o =
    let digits : is_free 10 (octal o.word) ≡ true = octal_free 10 o.word refl in
    let mark : is_free 10 (indirect_text o.indirect) ≡ true = indirect_free 10 o.indirect refl in
    let offset : is_free 10 (offset_text o.word o.indirect) ≡ true =
    list_all-append _ (octal o.word) (indirect_text o.indirect) ∙ both_hold _ _ digits mark in
    let front : is_free 10 (base_text o.base ++ codes "|") ≡ true =
    list_all-append _ (base_text o.base) (codes "|") ∙ both_hold _ _ (base_free 10 o.base refl refl) refl in
    list_all-append _ (base_text o.base ++ codes "|") (offset_text o.word o.indirect) ∙ both_hold _ _ front offset

-- a register and an operand
pub record IsRegisterOperand (text : List ℕ) (p : ℕ × Operand) : Type 0 where
  pub spelled : octal p.0 ++ codes " " ++ operand_text p.1 ≡ text
  pub fits : is_register p.0 && is_address p.1 ≡ true

pub register_operand_takes : (text : List ℕ) (p : ℕ × Operand) → register_operand_at text ≡ Some p → IsRegisterOperand text p
register_operand_takes text p e =
    let c = bind_some (cut_at 32 text) _ p e in
    let n = bind_some (register_at c.0.0) _ p c.2 in
    let o = bind_some (operand_at c.0.1) _ p n.2 in
    let f = register_takes c.0.0 n.0 n.1 in
    let g = operand_takes c.0.1 o.0 o.1 in
    let parts = cut_takes 32 text c.0 c.1 in
    subst (IsRegisterOperand text) (some_is _ _ o.2) (record {
      spelled = spelled (octal n.0) (operand_text o.0) text c.0.0 c.0.1 f.0 g.0 parts.0;
      fits = both_hold (is_register n.0) (is_address o.0) f.1 g.1;
    })
  where
    spelled : (n after text front rest : List ℕ) → n ≡ front → after ≡ rest → text ≡ front ++ 32 ∷ rest
        → n ++ codes " " ++ after ≡ text
    spelled n after text front rest e f g = rw (e, f, g, append_assoc) refl

pub register_operand_again : (n : ℕ) (o : Operand) → is_register n && is_address o ≡ true
    → register_operand_at (octal n ++ codes " " ++ operand_text o) ≡ Some (n, o)
register_operand_again n o e =
    let f = both (is_register n) (is_address o) e in
    rw (
      append_assoc,
      cut_again 32 (octal n) (operand_text o) (octal_free 32 n refl),
      register_again n f.0,
      operand_again o f.1,
    ) refl

pub register_operand_free : (n : ℕ) (o : Operand) → is_free 10 (octal n ++ codes " " ++ operand_text o) ≡ true
register_operand_free n o =
    let front : is_free 10 (octal n ++ codes " ") ≡ true =
    list_all-append _ (octal n) (codes " ") ∙ both_hold _ _ (octal_free 10 n refl) refl in
    list_all-append _ (octal n ++ codes " ") (operand_text o) ∙ both_hold _ _ front (operand_free o)
