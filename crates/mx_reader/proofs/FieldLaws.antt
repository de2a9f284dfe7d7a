-- Laws of fields: what a field is read as spells it, and a field that can be said is read back.
use Rattle.std.proofs.Common.{◌≡◌, ℕ, ◌==◌, ◌^◌, ◌<◌, ◌≤◌, nat_le, Bool, true, false, cond, ◌&&◌, List, [], ◌∷◌, ◌++◌, Option, None, Some, codes, refl, ap, sym, subst, ◌∙◌, append_assoc, arith}
use Rattle.std.proofs.lemmas.Bool.{eqb-true}
use Rattle.std.proofs.lemmas.Bool.Decides.{nat_tests}
use Rattle.std.specs.Cmp.Lexicographic.{pointwise}
use Rattle.std.specs.Fmt.{decimal}
use Rattle.std.specs.List.{find}
use Rattle.std.specs.Result.{result_ok}
use Rattle.mx_acl.proofs.ModesLaws.{modes_takes, modes_again, modes_is_free}
use Rattle.mx_acl.specs.Modes.{modes_of_text, modes_text}
use Rattle.mx_acl.specs.declared.modes.Modes.{Modes}
use Rattle.mx_aim.proofs.TextLaws.{class_of_text-class_text, class_text-class_of_text}
use Rattle.mx_aim.specs.Classes.{PlainClass, class_of_text, class_text}
use Rattle.mx_core.specs.declared.elements.Kind.{Kind}
use Rattle.mx_core.specs.declared.elements.Kind.TheVariants as kind
use Rattle.mx_hier.specs.Refusals.{refusal_text}
use Rattle.mx_hier.specs.declared.refusals.Refusal.{Refusal}
use Rattle.mx_hier.specs.declared.refusals.Refusal.TheVariants.{BadPath, NoEntry, NoInfo, NotADir, LinkLoop, IncorrectAccess, NameDup, NotASeg, DirNotEmpty, DirFull, BadLength, BadBrackets, InvalidMode, AclFull, NoAclEntry, NoPages, KstFull, UnknownSegno, NotLinkage, SegmentNotFound, NotObject, NoDefinition, NoProcess, MailFull, Ended, BadClass}
use Rattle.mx_name.proofs.CutLaws.{cut_takes, cut_again}
use Rattle.mx_name.specs.Cuts.{cut_at}
use Rattle.mx_name.specs.Names.{is_free}
use Rattle.mx_name.specs.Pathnames.{is_absolute, pathname_of}
use Rattle.mx_name.specs.Paths.{path_text, resolution}
use Rattle.mx_reader.specs.Fields.{address_at, all_denials, all_kinds, all_refusals, amount_at, amount_then, brackets_then, denial_at, entry_number_at, fresh_at, kind_at, known_at, known_by, labelled_then, line_number_at, map_then, modes_at, modes_by, path_at, process_at, refusal_at, ring_number_at}
use Rattle.mx_request.proofs.ClassTexts.{class_fits, class_is}
use Rattle.mx_request.proofs.FieldLaws.{at_most, number_again, number_free, number_takes, ring_again, ring_free, ring_takes, segno_again, segno_free, segno_takes, word_number_again, word_number_takes}
use Rattle.mx_request.proofs.RuleLaws.{cut_none, rule_again, rule_takes}
use Rattle.mx_request.proofs.StepLaws.{both, both_hold, bind_some, same_bytes, some_is, when_some}
use Rattle.mx_request.specs.Decimals.{decimal_number, is_digit}
use Rattle.mx_request.specs.Fields.{address_text, line_of, ring_text}
use Rattle.mx_request.specs.Reading.{ring_at}
use Rattle.mx_request.specs.ReplyTexts.{class_fields, fresh_text, linkage_fields}
use Rattle.mx_request.specs.RequestTexts.{is_class, is_path, is_ring, is_segno, is_word_address}
use Rattle.mx_request.specs.Steps.{◌>>=◌, when}
use Rattle.mx_request.specs.WordNumbers.{word_number_of}
use Rattle.mx_script.proofs.FrontLaws.{after_takes}
use Rattle.mx_script.specs.Fronts.{after}
use Rattle.mx_sdw.specs.Denials.{denial_text}
use Rattle.mx_sdw.specs.declared.denials.Denial.{Denial}
use Rattle.mx_sdw.specs.declared.denials.Denial.TheVariants.{UnknownSegment, NoSegment, OutOfBounds, NotReadable, ReadBracket, NotWritable, WriteBracket, NotExecutable, ExecuteBracket, CallBracket, UpwardCall, Gate, RaisedRing, BadReturn, NotPointer, IndirectLimit, AimRead, AimWrite}
use Rattle.mx_sdw.specs.Octal.{octal, octal_number}
use Rattle.mx_sdw.specs.Rings.{Bracketing, brackets_of}
use Rattle.mx_search.specs.declared.rules.Rule.TheVariants.{Directory}
use Rattle.mx_spelling.specs.Spelling.{are_ordered, is_amount, is_entry_number, is_line_number, is_none_or, is_process}
use Rattle.mx_text.specs.RunText.{kind_text}

-- the first that passes a test passes it
pub found_passes : {A : Type 0} (p : A → Bool) (all : List A) (a : A) → find p all ≡ Some a → p a ≡ true
found_passes p [] a e = absurd (cc)
found_passes p (x ∷ xs) a e = by_test (p x) refl (found_passes p xs a) e
  where
    by_test : (b : Bool) → p x ≡ b → (find p xs ≡ Some a → p a ≡ true) → cond b (Some x) (find p xs) ≡ Some a → p a ≡ true
    by_test true t ih e = subst (λ y. p y ≡ true) (some_is x a e) t
    by_test false t ih e = ih e

-- decimal numbers that pass a test
module _ (digits : ℕ) (test : ℕ → Bool) (some : 0 < digits) (wide : 10 ^ digits ≤ 2 ^ 64) where
  pub counted_takes : (text : List ℕ) (n : ℕ) → (decimal_number digits text >>= λ n. when (test n) n) ≡ Some n
      → (decimal n ≡ text) × (test n ≡ true)
  counted_takes text n e =
      let m = bind_some (decimal_number digits text) _ n e in
      let fits = when_some (test m.0) m.0 n m.2 in
      let f = number_takes digits text m.0 wide m.1 in
      subst (λ (k : ℕ). (decimal k ≡ text) × (test k ≡ true)) fits.1 (f.0, fits.0)

  pub counted_again : (n : ℕ) → n < 10 ^ digits → test n ≡ true → (decimal_number digits (decimal n) >>= λ n. when (test n) n) ≡ Some n
  counted_again n few t = rw (number_again digits n some few (below n (10 ^ digits) (2 ^ 64) few wide), t) refl
    where
      below : (n a b : ℕ) → n < a → a ≤ b → n < b
      below n a b f g = omega (arith, f, g)

pub amount_takes : (text : List ℕ) (n : ℕ) → amount_at text ≡ Some n → (decimal n ≡ text) × (is_amount n ≡ true)
amount_takes text n e = counted_takes 5 is_amount (omega arith) (omega arith) text n e

few_amounts : (n : ℕ) → is_amount n ≡ true → n ≤ 65535
few_amounts n e = at_most n 65535 e

pub amount_again : (n : ℕ) → is_amount n ≡ true → amount_at (decimal n) ≡ Some n
amount_again n e =
    let few : n < 10 ^ 5 = omega (arith, few_amounts n e) in counted_again 5 is_amount (omega arith) (omega arith) n few e

pub amount_free : (n : ℕ) → is_amount n ≡ true → is_free 32 (decimal n) ≡ true
amount_free n e = number_free 32 n refl (omega (arith, few_amounts n e))

pub process_takes : (text : List ℕ) (p : ℕ) → process_at text ≡ Some p → (decimal p ≡ text) × (is_process p ≡ true)
process_takes text p e = counted_takes 2 is_process (omega arith) (omega arith) text p e

few_processes : (p : ℕ) → is_process p ≡ true → p ≤ 15
few_processes p e = at_most p 15 e

pub process_again : (p : ℕ) → is_process p ≡ true → process_at (decimal p) ≡ Some p
process_again p e =
    let few : p < 10 ^ 2 = omega (arith, few_processes p e) in counted_again 2 is_process (omega arith) (omega arith) p few e

pub process_free : (byte p : ℕ) → is_digit byte ≡ false → is_process p ≡ true → is_free byte (decimal p) ≡ true
process_free byte p other e = number_free byte p other (omega (arith, few_processes p e))

-- a number and what stands behind the blank
pub record IsAmountThen (text : List ℕ) (p : ℕ × List ℕ) : Type 0 where
  pub spelled : text ≡ decimal p.0 ++ 32 ∷ p.1
  pub fits : is_amount p.0 ≡ true

pub amount_then_takes : (text : List ℕ) (q : ℕ × List ℕ) → amount_then text ≡ Some q → IsAmountThen text q
amount_then_takes text q e =
    let p = bind_some (cut_at 32 text) _ q e in
    let n = bind_some (amount_at p.0.0) _ q p.2 in
    let f = amount_takes p.0.0 n.0 n.1 in
    subst (IsAmountThen text) (some_is _ _ n.2)
    (record { spelled = (cut_takes 32 text p.0 p.1).0 ∙ ap (λ x. x ++ 32 ∷ p.0.1) (sym f.0); fits = f.1 })

pub amount_then_again : (n : ℕ) (rest : List ℕ) → is_amount n ≡ true → amount_then (decimal n ++ 32 ∷ rest) ≡ Some (n, rest)
amount_then_again n rest e = rw (cut_again 32 (decimal n) rest (amount_free n e), amount_again n e) refl

pub record IsLabelledThen (label text : List ℕ) (p : ℕ × List ℕ) : Type 0 where
  pub spelled : text ≡ label ++ (decimal p.0 ++ 32 ∷ p.1)
  pub fits : is_amount p.0 ≡ true

pub labelled_takes : (label text : List ℕ) (q : ℕ × List ℕ) → labelled_then label text ≡ Some q → IsLabelledThen label text q
labelled_takes label text q e =
    let r = bind_some (after label text) _ q e in
    let f = amount_then_takes r.0 q r.2 in
    record { spelled = after_takes label text r.0 r.1 ∙ ap (λ x. label ++ x) f.spelled; fits = f.fits }

pub record IsMapThen (text : List ℕ) (m : (ℕ × ℕ × ℕ) × List ℕ) : Type 0 where
  pub spelled : text ≡ codes "gate " ++ (decimal m.0.0 ++ 32 ∷ (codes "definitions " ++ (decimal m.0.1 ++ 32 ∷ (codes "links "
      ++ (decimal m.0.2 ++ 32 ∷ m.1)))))
  pub gate : is_amount m.0.0 ≡ true
  pub definitions : is_amount m.0.1 ≡ true
  pub links : is_amount m.0.2 ≡ true

pub map_takes : (text : List ℕ) (m : (ℕ × ℕ × ℕ) × List ℕ) → map_then text ≡ Some m → IsMapThen text m
map_takes text m e =
    let g = bind_some (labelled_then (codes "gate ") text) _ m e in
    let d = bind_some (labelled_then (codes "definitions ") g.0.1) _ m g.2 in
    let l = bind_some (labelled_then (codes "links ") d.0.1) _ m d.2 in
    let gate = labelled_takes (codes "gate ") text g.0 g.1 in
    let definitions = labelled_takes (codes "definitions ") g.0.1 d.0 d.1 in
    let links = labelled_takes (codes "links ") d.0.1 l.0 l.1 in
    subst (IsMapThen text) (some_is _ _ l.2) (record {
      spelled = spelled (decimal g.0.0) (decimal d.0.0) (decimal l.0.0) text g.0.1 d.0.1 l.0.1 gate.spelled definitions.spelled links.spelled;
      gate = gate.fits;
      definitions = definitions.fits;
      links = links.fits;
    })
  where
    spelled : (gate definitions links text g d l : List ℕ) → text ≡ codes "gate " ++ (gate ++ 32 ∷ g)
        → g ≡ codes "definitions " ++ (definitions ++ 32 ∷ d) → d ≡ codes "links " ++ (links ++ 32 ∷ l)
        → text ≡ codes "gate " ++ (gate ++ 32 ∷ (codes "definitions " ++ (definitions ++ 32 ∷ (codes "links " ++ (links ++ 32 ∷ l)))))
    spelled gate definitions links text g d l e f h = rw (e, f, h) refl

pub map_read : (text : List ℕ) (g d l : ℕ × List ℕ) → labelled_then (codes "gate ") text ≡ Some g
    → labelled_then (codes "definitions ") g.1 ≡ Some d → labelled_then (codes "links ") d.1 ≡ Some l → Some ((g.0, d.0, l.0), l.1) ≡ map_then text
map_read text g d l e f h = rw (e, f, h) refl

-- brackets
lower : (a b : ℕ) → nat_le a b ≡ true → is_ring b ≡ true → is_ring a ≡ true
lower a b e f = grind (arith, nat_tests)

pub record AreBrackets (text : List ℕ) (p : Bracketing × List ℕ) : Type 0 where
  pub spelled : text ≡ ring_text p.0.r1 ++ 32 ∷ (ring_text p.0.r2 ++ 32 ∷ (ring_text p.0.r3 ++ 32 ∷ p.1))
  pub fits : are_ordered p.0 ≡ true

pub brackets_take : (text : List ℕ) (found : Bracketing × List ℕ) → brackets_then text ≡ Some found → AreBrackets text found
brackets_take text found e =
    let p = bind_some (cut_at 32 text) _ found e in
    let q = bind_some (cut_at 32 p.0.1) _ found p.2 in
    let r = bind_some (cut_at 32 q.0.1) _ found q.2 in
    let r1 = bind_some (ring_at p.0.0) _ found r.2 in
    let r2 = bind_some (ring_at q.0.0) _ found r1.2 in
    let r3 = bind_some (ring_at r.0.0) _ found r2.2 in
    let b = bind_some (brackets_of r1.0 r2.0 r3.0) _ found r3.2 in
    let order = when_some (nat_le r1.0 r2.0 && nat_le r2.0 r3.0) _ b.0 b.1 in
    let f = both (nat_le r1.0 r2.0) (nat_le r2.0 r3.0) order.0 in
    let g = ring_takes r.0.0 r3.0 r3.1 in
    subst (AreBrackets text) (some_is _ _ b.2)
    (subst (λ (b : Bracketing). AreBrackets text (b, r.0.1)) order.1 (record {
      spelled = spelled r1.0 r2.0 r3.0 text p.0.0 p.0.1 q.0.0 q.0.1 r.0.0 r.0.1 (cut_takes 32 text p.0 p.1).0
          (cut_takes 32 p.0.1 q.0 q.1).0 (cut_takes 32 q.0.1 r.0 r.1).0 (ring_takes p.0.0 r1.0 r1.1).0
          (ring_takes q.0.0 r2.0 r2.1).0 g.0;
      fits = both_hold _ _ f.0 (both_hold _ _ f.1 g.1);
    }))
  where
    spelled : (r1 r2 r3 : ℕ) (text x s y t z u : List ℕ) → text ≡ x ++ 32 ∷ s → s ≡ y ++ 32 ∷ t → t ≡ z ++ 32 ∷ u
        → ring_text r1 ≡ x → ring_text r2 ≡ y → ring_text r3 ≡ z
        → text ≡ ring_text r1 ++ 32 ∷ (ring_text r2 ++ 32 ∷ (ring_text r3 ++ 32 ∷ u))
    spelled r1 r2 r3 text x s y t z u e f g h i j = rw (e, f, g, ← h, ← i, ← j) refl

pub brackets_again : (b : Bracketing) (rest : List ℕ) → are_ordered b ≡ true
    → brackets_then (ring_text b.r1 ++ 32 ∷ (ring_text b.r2 ++ 32 ∷ (ring_text b.r3 ++ 32 ∷ rest))) ≡ Some (b, rest)
brackets_again b rest e =
    let f = both (nat_le b.r1 b.r2) (nat_le b.r2 b.r3 && is_ring b.r3) e in
    let g = both (nat_le b.r2 b.r3) (is_ring b.r3) f.1 in
    let second : is_ring b.r2 ≡ true = lower b.r2 b.r3 g.0 g.1 in
    let first : is_ring b.r1 ≡ true = lower b.r1 b.r2 f.0 second in
    rw (
      cut_again 32 (ring_text b.r1) (ring_text b.r2 ++ 32 ∷ (ring_text b.r3 ++ 32 ∷ rest)) (ring_free 32 b.r1 refl first),
      cut_again 32 (ring_text b.r2) (ring_text b.r3 ++ 32 ∷ rest) (ring_free 32 b.r2 refl second),
      cut_again 32 (ring_text b.r3) rest (ring_free 32 b.r3 refl g.1),
      ring_again b.r1 first,
      ring_again b.r2 second,
      ring_again b.r3 g.1,
      f.0,
      g.0,
    ) refl

-- modes, and a class behind them
pub record AreModes (text : List ℕ) (m : Modes × Option PlainClass) : Type 0 where
  pub spelled : line_of (modes_text m.0 ∷ class_fields m.1) ≡ text
  pub fits : is_none_or m.1 is_class ≡ true

modes_on : (text : List ℕ) (cut : Option (List ℕ × List ℕ)) (m : Modes × Option PlainClass) → cut_at 32 text ≡ cut
    → modes_by text cut ≡ Some m → AreModes text m
modes_on text None m c e =
    let modes = bind_some (modes_of_text text) _ m e in
    subst (AreModes text) (some_is _ _ modes.2) (record { spelled = modes_takes text modes.0 modes.1; fits = refl })
modes_on text (Some p) m c e =
    let modes = bind_some (modes_of_text p.0) _ m e in
    let rest = bind_some (after (codes "class ") p.1) _ m modes.2 in
    let class = bind_some (class_of_text rest.0) _ m rest.2 in
    subst (AreModes text) (some_is _ _ class.2) (record {
      spelled = spelled (modes_text modes.0) (class_text class.0) text p.0 p.1 rest.0 (cut_takes 32 text p c).0
          (modes_takes p.0 modes.0 modes.1) (after_takes (codes "class ") p.1 rest.0 rest.1)
          (class_text-class_of_text rest.0 class.0 class.1);
      fits = class_fits rest.0 class.0 class.1;
    })
  where
    spelled : (modes class text x y rest : List ℕ) → text ≡ x ++ 32 ∷ y → modes ≡ x → y ≡ codes "class " ++ rest → class ≡ rest
        → modes ++ 32 ∷ (codes "class " ++ class) ≡ text
    spelled modes class text x y rest e f g h = rw (e, f, g, h) refl

pub modes_take : (text : List ℕ) (m : Modes × Option PlainClass) → modes_at text ≡ Some m → AreModes text m
modes_take text m e = modes_on text (cut_at 32 text) m refl e

pub modes_back : (modes : Modes) (class : Option PlainClass) → is_none_or class is_class ≡ true
    → modes_at (line_of (modes_text modes ∷ class_fields class)) ≡ Some (modes, class)
unfolding after
modes_back modes None e = rw (cut_none 32 (modes_text modes) (modes_is_free 32 modes refl), modes_again modes) refl
modes_back modes (Some class) e = part (class_text class) (class_of_text-class_text class (class_is class e))
  where
    part : (text : List ℕ) → class_of_text text ≡ Some class
        → modes_at (modes_text modes ++ 32 ∷ (codes "class " ++ text)) ≡ Some (modes, Some class)
    part text same = rw (cut_again 32 (modes_text modes) (codes "class " ++ text) (modes_is_free 32 modes refl), modes_again modes, same) refl

-- whether a segment has become known now, and the linkage section made with it
fresh_takes : (text : List ℕ) (fresh : Bool) → fresh_at text ≡ Some fresh → fresh_text fresh ≡ text
fresh_takes text fresh e = by_new (pointwise ◌==◌ text (codes "new")) refl e
  where
    by_old : (b : Bool) → pointwise ◌==◌ text (codes "old") ≡ b → cond b (Some false) None ≡ Some fresh → fresh_text fresh ≡ text
    by_old true t e = subst (λ f. fresh_text f ≡ text) (some_is _ _ e) (sym (same_bytes text (codes "old") t))
    by_old false t e = cc

    by_new : (b : Bool) → pointwise ◌==◌ text (codes "new") ≡ b
        → cond b (Some true) (cond (pointwise ◌==◌ text (codes "old")) (Some false) None) ≡ Some fresh → fresh_text fresh ≡ text
    by_new true t e = subst (λ f. fresh_text f ≡ text) (some_is _ _ e) (sym (same_bytes text (codes "new") t))
    by_new false t e = by_old (pointwise ◌==◌ text (codes "old")) refl e

fresh_again : (fresh : Bool) → fresh_at (fresh_text fresh) ≡ Some fresh
fresh_again true = refl
fresh_again false = refl

fresh_free : (fresh : Bool) → is_free 32 (fresh_text fresh) ≡ true
fresh_free true = refl
fresh_free false = refl

pub record IsKnown (text : List ℕ) (k : Bool × Option ℕ) : Type 0 where
  pub spelled : line_of (fresh_text k.0 ∷ linkage_fields k.1) ≡ text
  pub fits : is_none_or k.1 is_segno ≡ true

known_on : (text : List ℕ) (cut : Option (List ℕ × List ℕ)) (k : Bool × Option ℕ) → cut_at 32 text ≡ cut → known_by text cut ≡ Some k
    → IsKnown text k
known_on text None k c e =
    let fresh = bind_some (fresh_at text) _ k e in
    subst (IsKnown text) (some_is _ _ fresh.2) (record { spelled = fresh_takes text fresh.0 fresh.1; fits = refl })
known_on text (Some p) k c e =
    let fresh = bind_some (fresh_at p.0) _ k e in
    let rest = bind_some (after (codes "linkage ") p.1) _ k fresh.2 in
    let segno = bind_some (octal_number 4 rest.0) _ k rest.2 in
    let f = segno_takes rest.0 segno.0 segno.1 in
    subst (IsKnown text) (some_is _ _ segno.2) (record {
      spelled = spelled (fresh_text fresh.0) (octal segno.0) text p.0 p.1 rest.0 (cut_takes 32 text p c).0
          (fresh_takes p.0 fresh.0 fresh.1) (after_takes (codes "linkage ") p.1 rest.0 rest.1) f.0;
      fits = f.1;
    })
  where
    spelled : (fresh segno text x y rest : List ℕ) → text ≡ x ++ 32 ∷ y → fresh ≡ x → y ≡ codes "linkage " ++ rest → segno ≡ rest
        → fresh ++ 32 ∷ (codes "linkage " ++ segno) ≡ text
    spelled fresh segno text x y rest e f g h = rw (e, f, g, h) refl

pub known_takes : (text : List ℕ) (k : Bool × Option ℕ) → known_at text ≡ Some k → IsKnown text k
known_takes text k e = known_on text (cut_at 32 text) k refl e

pub known_again : (fresh : Bool) (linkage : Option ℕ) → is_none_or linkage is_segno ≡ true
    → known_at (line_of (fresh_text fresh ∷ linkage_fields linkage)) ≡ Some (fresh, linkage)
unfolding after
known_again fresh None e = rw (cut_none 32 (fresh_text fresh) (fresh_free fresh), fresh_again fresh) refl
known_again fresh (Some segno) e = part (octal segno) (segno_again segno e)
  where
    part : (text : List ℕ) → octal_number 4 text ≡ Some segno
        → known_at (fresh_text fresh ++ 32 ∷ (codes "linkage " ++ text)) ≡ Some (fresh, Some segno)
    part text same = rw (cut_again 32 (fresh_text fresh) (codes "linkage " ++ text) (fresh_free fresh), fresh_again fresh, same) refl

-- refusals
pub refusal_takes : (text : List ℕ) (why : Refusal) → refusal_at text ≡ Some why → refusal_text why ≡ text
refusal_takes text why e =
    sym (same_bytes text (refusal_text why) (found_passes (λ w. pointwise ◌==◌ text (refusal_text w)) all_refusals why e))

pub refusal_again : (why : Refusal) → refusal_at (refusal_text why) ≡ Some why
refusal_again BadPath = refl
refusal_again NoEntry = refl
refusal_again NoInfo = refl
refusal_again NotADir = refl
refusal_again LinkLoop = refl
refusal_again IncorrectAccess = refl
refusal_again NameDup = refl
refusal_again NotASeg = refl
refusal_again DirNotEmpty = refl
refusal_again DirFull = refl
refusal_again BadLength = refl
refusal_again BadBrackets = refl
refusal_again InvalidMode = refl
refusal_again AclFull = refl
refusal_again NoAclEntry = refl
refusal_again NoPages = refl
refusal_again KstFull = refl
refusal_again UnknownSegno = refl
refusal_again NotLinkage = refl
refusal_again SegmentNotFound = refl
refusal_again NotObject = refl
refusal_again NoDefinition = refl
refusal_again NoProcess = refl
refusal_again MailFull = refl
refusal_again Ended = refl
refusal_again BadClass = refl

-- paths, as search rules have them
as_rule : (o : Option (List ℕ)) (f : List ℕ → Option (List (List ℕ))) (path : List (List ℕ)) → (o >>= f) ≡ Some path
    → (o >>= λ name. f name >>= λ path. Some (Directory path)) ≡ Some (Directory path)
as_rule None f path e = cc
as_rule (Some name) f path e = rw e refl

of_rule : (o : Option (List ℕ)) (f : List ℕ → Option (List (List ℕ))) (path : List (List ℕ))
    → (o >>= λ name. f name >>= λ path. Some (Directory path)) ≡ Some (Directory path) → (o >>= f) ≡ Some path
of_rule None f path e = cc
of_rule (Some name) f path e =
    let p = bind_some (f name) _ (Directory path) e in p.1 ∙ ap Some (same p.0 path p.2)
  where
    same : (a b : List (List ℕ)) → Some (Directory a) ≡ Some (Directory b) → a ≡ b
    same a b e = cc

marked_takes : (text : List ℕ) (path : List (List ℕ)) → path_at (62 ∷ text) ≡ Some path → (path_text path ≡ 62 ∷ text) × (is_path path ≡ true)
marked_takes text path e =
    rule_takes (62 ∷ text) (Directory path) (as_rule (pathname_of (62 ∷ text)) (λ name. result_ok (resolution [] name)) path e)

pub path_takes : (text : List ℕ) (path : List (List ℕ)) → path_at text ≡ Some path → (path_text path ≡ text) × (is_path path ≡ true)
path_takes [] path e = cc
path_takes (c ∷ text) path e =
    let t = bind_some (when (is_absolute (c ∷ text)) (c ∷ text)) _ path e in
    let mark : c ≡ 62 = eqb-true c 62 (when_some (is_absolute (c ∷ text)) (c ∷ text) t.0 t.1).0 in
    subst (λ b. (path_text path ≡ b ∷ text) × (is_path path ≡ true)) (sym mark)
    (marked_takes text path (subst (λ b. path_at (b ∷ text) ≡ Some path) mark e))

pub path_again : (path : List (List ℕ)) → is_path path ≡ true → path_at (path_text path) ≡ Some path
path_again [] e = of_rule (pathname_of (path_text [])) (λ name. result_ok (resolution [] name)) [] (rule_again (Directory []) e)
path_again (name ∷ names) e =
    of_rule (pathname_of (path_text (name ∷ names))) (λ name. result_ok (resolution [] name)) (name ∷ names)
    (rule_again (Directory (name ∷ names)) e)

-- rings, entries and lines by their numbers
few_rings : (n : ℕ) → is_ring n ≡ true → n ≤ 7
few_rings n e = at_most n 7 e

pub ring_number_takes : (text : List ℕ) (n : ℕ) → ring_number_at text ≡ Some n → (decimal n ≡ text) × (is_ring n ≡ true)
ring_number_takes text n e = counted_takes 1 is_ring (omega arith) (omega arith) text n e

pub ring_number_again : (n : ℕ) → is_ring n ≡ true → ring_number_at (decimal n) ≡ Some n
ring_number_again n e =
    let few : n < 10 ^ 1 = omega (arith, few_rings n e) in counted_again 1 is_ring (omega arith) (omega arith) n few e

pub ring_number_free : (byte n : ℕ) → is_digit byte ≡ false → is_ring n ≡ true → is_free byte (decimal n) ≡ true
ring_number_free byte n other e = number_free byte n other (omega (arith, few_rings n e))

few_entries : (n : ℕ) → is_entry_number n ≡ true → n ≤ 262143
few_entries n e = at_most n 262143 e

pub entry_number_takes : (text : List ℕ) (n : ℕ) → entry_number_at text ≡ Some n → (decimal n ≡ text) × (is_entry_number n ≡ true)
entry_number_takes text n e = counted_takes 6 is_entry_number (omega arith) (omega arith) text n e

pub entry_number_again : (n : ℕ) → is_entry_number n ≡ true → entry_number_at (decimal n) ≡ Some n
entry_number_again n e =
    let few : n < 10 ^ 6 = omega (arith, few_entries n e) in counted_again 6 is_entry_number (omega arith) (omega arith) n few e

pub entry_number_free : (byte n : ℕ) → is_digit byte ≡ false → is_entry_number n ≡ true → is_free byte (decimal n) ≡ true
entry_number_free byte n other e = number_free byte n other (omega (arith, few_entries n e))

few_lines : (n : ℕ) → is_line_number n ≡ true → n < 2 ^ 32
few_lines n e = grind (arith, nat_tests)

pub line_number_takes : (text : List ℕ) (n : ℕ) → line_number_at text ≡ Some n → (decimal n ≡ text) × (is_line_number n ≡ true)
line_number_takes text n e = counted_takes 10 is_line_number (omega arith) (omega arith) text n e

pub line_number_again : (n : ℕ) → is_line_number n ≡ true → line_number_at (decimal n) ≡ Some n
line_number_again n e =
    let few : n < 10 ^ 10 = omega (arith, few_lines n e) in counted_again 10 is_line_number (omega arith) (omega arith) n few e

pub line_number_free : (byte n : ℕ) → is_digit byte ≡ false → is_line_number n ≡ true → is_free byte (decimal n) ≡ true
line_number_free byte n other e = number_free byte n other (omega (arith, few_lines n e))

-- addresses
pub record IsAddress (text : List ℕ) (a : ℕ × ℕ) : Type 0 where
  pub spelled : address_text a.0 a.1 ≡ text
  pub fits : is_word_address a.0 a.1 ≡ true

pub address_takes : (text : List ℕ) (a : ℕ × ℕ) → address_at text ≡ Some a → IsAddress text a
address_takes text a e =
    let p = bind_some (cut_at 124 text) _ a e in
    let s = bind_some (octal_number 4 p.0.0) _ a p.2 in
    let w = bind_some (word_number_of p.0.1) _ a s.2 in
    let segno = segno_takes p.0.0 s.0 s.1 in
    let word = word_number_takes p.0.1 w.0 w.1 in
    subst (IsAddress text) (some_is _ _ w.2) (record {
      spelled = spelled (octal s.0) (octal w.0) text p.0.0 p.0.1 (cut_takes 124 text p.0 p.1).0 segno.0 word.0;
      fits = both_hold _ _ segno.1 word.1;
    })
  where
    spelled : (segno word text x y : List ℕ) → text ≡ x ++ 124 ∷ y → segno ≡ x → word ≡ y → segno ++ codes "|" ++ word ≡ text
    spelled segno word text x y e f g = rw (e, f, g, append_assoc) refl

pub address_again : (segno word : ℕ) → is_word_address segno word ≡ true → address_at (address_text segno word) ≡ Some (segno, word)
address_again segno word e =
    let f = both (is_segno segno) (nat_le word 16383) e in
    rw (
      append_assoc,
      cut_again 124 (octal segno) (octal word) (segno_free 124 segno refl),
      segno_again segno f.0,
      word_number_again word f.1,
    ) refl

-- denials
pub denial_takes : (text : List ℕ) (denial : Denial) → denial_at text ≡ Some denial → denial_text denial ≡ text
denial_takes text denial e =
    sym (same_bytes text (denial_text denial) (found_passes (λ d. pointwise ◌==◌ text (denial_text d)) all_denials denial e))

pub denial_again : (denial : Denial) → denial_at (denial_text denial) ≡ Some denial
denial_again UnknownSegment = refl
denial_again NoSegment = refl
denial_again OutOfBounds = refl
denial_again NotReadable = refl
denial_again ReadBracket = refl
denial_again NotWritable = refl
denial_again WriteBracket = refl
denial_again NotExecutable = refl
denial_again ExecuteBracket = refl
denial_again CallBracket = refl
denial_again UpwardCall = refl
denial_again Gate = refl
denial_again RaisedRing = refl
denial_again BadReturn = refl
denial_again NotPointer = refl
denial_again IndirectLimit = refl
denial_again AimRead = refl
denial_again AimWrite = refl

-- kinds of references
pub kind_takes : (text : List ℕ) (kind : Kind) → kind_at text ≡ Some kind → kind_text kind ≡ text
kind_takes text kind e =
    sym (same_bytes text (kind_text kind) (found_passes (λ k. pointwise ◌==◌ text (kind_text k)) all_kinds kind e))

pub kind_again : (kind : Kind) → kind_at (kind_text kind) ≡ Some kind
kind_again kind.Read = refl
kind_again kind.Ind = refl
kind_again kind.Write = refl
kind_again kind.Fetch = refl
kind_again kind.Call = refl
kind_again kind.Return = refl

pub kind_free : (kind : Kind) → is_free 32 (kind_text kind) ≡ true
kind_free kind.Read = refl
kind_free kind.Ind = refl
kind_free kind.Write = refl
kind_free kind.Fetch = refl
kind_free kind.Call = refl
kind_free kind.Return = refl
