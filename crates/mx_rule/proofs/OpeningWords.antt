-- The words of the opening show the opening world.
use Rattle.std.proofs.Common.{◌≡◌, ◌≢◌, ℕ, zero, suc, ◌+◌, ◌*◌, ◌-◌, ◌<◌, ◌≤◌, List, [], ◌∷◌, ◌++◌, length, replicate, set, refl, ap, sym, ◌∙◌, subst, Some, arith}
use Rattle.std.specs.Prelude.{nat_lt}
use Rattle.std.specs.List.{slice_get}
use Rattle.std.proofs.lemmas.Bool.{lt-ltb, le-ltb}
use Rattle.std.proofs.lemmas.Option.{get_or_from_slice_get}
use Rattle.mx_sdw.specs.Admissible.{IsAdmissible}
use Rattle.mx_sdw.specs.Descriptors.{Descriptor, unknown_desc}
use Rattle.mx_core.specs.Append.{with_changes}
use Rattle.mx_core.specs.Opening.{CanOpen}
use Rattle.mx_core.specs.Put.{pick, put}
use Rattle.mx_core.specs.Lists.{Lists}
use Rattle.mx_core.specs.declared.changes.Change.{Change}
use Rattle.mx_core.specs.declared.words.DescriptorWord.TheVariants.{Valid}
use Rattle.mx_core.proofs.Puts.{put_all, put_here, pick_true, pick_false}
use Rattle.mx_core.proofs.Descriptors.{unknown_admissible}
use Rattle.mx_rule.specs.Codes.{word_code}
use Rattle.mx_rule.specs.Layout.{Layout, ShowsWords}
use Rattle.mx_rule.specs.Openings.{IsPlaced, MayOpen, opening_content, blank_number}
use Rattle.mx_rule.specs.Parts.{Answered, CellAt, ConnectWord, Count, DescriptorAt, Flag, IsPart, Part, number_in, words_in}
use Rattle.mx_rule.specs.Shown.{base_of}
use Rattle.mx_rule.proofs.PartLaws.{part_within, desc_under}
use Rattle.mx_rule.proofs.Words.{set_words, put_pair}

-- the numbers of the words by ranges
module _ (P B start i : ℕ) where
  abbrev blank_by : ℕ
  blank_by = pick (nat_lt i 2) start (pick (nat_lt i (2 + P)) 0 (pick (nat_lt i (2 + 2 * P + B)) start 0))

  head_is : i < 2 → blank_by ≡ start
  head_is l = pick_true (nat_lt i 2) start _ (lt-ltb i 2 l)

  flag_is : 2 ≤ i → i < 2 + P → blank_by ≡ 0
  flag_is low l =
      pick_false (nat_lt i 2) start _ (le-ltb i 2 low) ∙ pick_true (nat_lt i (2 + P)) 0 _ (lt-ltb i (2 + P) l)

  word_is : 2 + P ≤ i → i < 2 + 2 * P + B → blank_by ≡ start
  word_is low l =
      pick_false (nat_lt i 2) start _ (le-ltb i 2 (omega arith)) ∙ pick_false (nat_lt i (2 + P)) 0 _ (le-ltb i (2 + P)
      low)
      ∙ pick_true (nat_lt i (2 + 2 * P + B)) start 0 (lt-ltb i (2 + 2 * P + B) l)

  cell_is : 2 + 2 * P + B ≤ i → blank_by ≡ 0
  cell_is low =
      pick_false (nat_lt i 2) start _ (le-ltb i 2 (omega arith))
      ∙ pick_false (nat_lt i (2 + P)) 0 _ (le-ltb i (2 + P) (omega arith))
      ∙ pick_false (nat_lt i (2 + 2 * P + B)) start 0 (le-ltb i (2 + 2 * P + B) low)

blank_content : (y : Layout) (start : ℕ) (x : Part) → IsPart y.processes y.numbers x
    → blank_number y start (number_in y x) ≡ opening_content y start (λ p n. unknown_desc) x
blank_content y start Count part = head_is y.processes (y.numbers * y.processes) start 0 (omega arith)
blank_content y start Answered part = head_is y.processes (y.numbers * y.processes) start 1 (omega arith)
blank_content y start (Flag p) part =
    let low = part.0 in
    let high = part.1 in
    flag_is y.processes (y.numbers * y.processes) start (1 + p) (omega arith) (omega arith)
blank_content y start (ConnectWord p) part =
    let low = part.0 in
    let high = part.1 in
    go y.processes (y.numbers * y.processes) start p low high
  where
    go : (P B start p : ℕ) → 1 ≤ p → p ≤ P → blank_by P B start (1 + P + p) ≡ start
    go P B start p low high = word_is P B start (1 + P + p) (omega arith) (omega arith)
blank_content y start (DescriptorAt p n) part =
    go y.processes (y.numbers * y.processes) start (y.numbers * (p - 1) + n) (desc_under y.processes y.numbers p n part)
  where
    go : (P B start d : ℕ) → d < B → blank_by P B start (2 + 2 * P + d) ≡ start
    go P B start d under = word_is P B start (2 + 2 * P + d) (omega arith) (omega arith)
blank_content y start (CellAt c) part = go y.processes (y.numbers * y.processes) start c
  where
    go : (P B start c : ℕ) → blank_by P B start (2 + 2 * P + B + c) ≡ 0
    go P B start c = cell_is P B start (2 + 2 * P + B + c) (omega arith)

-- words up to the first cell, and then a zero for each cell
zeros_added : (xs : List ℕ) (f : ℕ → ℕ) (more : ℕ) → Lists xs f → ((i : ℕ) → length xs ≤ i → f i ≡ 0)
    → Lists (xs ++ replicate more 0) f
zeros_added [] f zero has zeros n under = absurd (omega (arith, under))
zeros_added [] f (suc more) has zeros zero under = ap Some (sym (zeros 0 (omega arith)))
zeros_added [] f (suc more) has zeros (suc n) under =
    zeros_added [] (λ i. f (suc i)) more (λ i l. absurd (omega (arith, l))) (λ i l. zeros (suc i) (omega arith)) n
    (omega (arith, under))
zeros_added (x ∷ xs) f more has zeros zero under = has 0 (omega arith)
zeros_added (x ∷ xs) f more has zeros (suc n) under =
    zeros_added xs (λ i. f (suc i)) more (λ i l. has (suc i) (omega (arith, l))) (λ i l. zeros (suc i) (omega (arith, l))) n
    (omega (arith, under))

pub cells_blank : (y : Layout) (start : ℕ) (words : List ℕ) (more : ℕ) → length words ≡ number_in y (CellAt 0)
    → Lists words (blank_number y start) → Lists (words ++ replicate more 0) (blank_number y start)
cells_blank y start words more many has = zeros_added words (blank_number y start) more has zeros
  where
    zeros : (i : ℕ) → length words ≤ i → blank_number y start i ≡ 0
    zeros i low = cell_is y.processes (y.numbers * y.processes) start i (omega (arith, low, many))

pub blanks_show : (y : Layout) (start : ℕ) (words : List ℕ) → length words ≡ words_in y
    → Lists words (blank_number y start)
    → ShowsWords y y.processes y.numbers (opening_content y start (λ p n. unknown_desc)) words
blanks_show y start words many has = record {
  wide = λ x part. subst (λ (k : ℕ). number_in y x < k) (sym many) (part_within y x part);
  each = λ x part.
      get_or_from_slice_get words (number_in y x) (blank_number y start (number_in y x)) 0
      (has (number_in y x) (subst (λ (k : ℕ). number_in y x < k) (sym many) (part_within y x part)))
      ∙ blank_content y start x part;
}

here : (table : ℕ → ℕ → Descriptor) (p n : ℕ) (d : Descriptor) → put table p (put (table p) n d) p n ≡ d
here table p n d =
    ap (λ (f : ℕ → Descriptor). f n) (put_here table p (put (table p) n d)) ∙ put_here (table p) n d

others : (y : Layout) (start : ℕ) (table : ℕ → ℕ → Descriptor) (p n : ℕ) (d : Descriptor) (z : Part)
    → z ≢ DescriptorAt p n
    → opening_content y start (put table p (put (table p) n d)) z ≡ opening_content y start table z
others y start table p n d Count apart = refl
others y start table p n d Answered apart = refl
others y start table p n d (Flag q) apart = refl
others y start table p n d (ConnectWord q) apart = refl
others y start table p n d (DescriptorAt q m) apart =
    ap (λ (d : Descriptor). word_code (Valid start d))
    (put_pair table p n d q m (λ e f. apart (λ i. DescriptorAt (e i) (f i))))
others y start table p n d (CellAt c) apart = refl

-- one descriptor put in
pub one_shown : (y : Layout) (start : ℕ) (words : List ℕ) (change : Change) (table : ℕ → ℕ → Descriptor) (code : ℕ)
    → y.processes ≤ 15 → IsPlaced y change → code ≡ word_code (Valid start change.desc)
    → ShowsWords y y.processes y.numbers (opening_content y start table) words
    → ShowsWords y y.processes y.numbers
    (opening_content y start (put table change.process (put (table change.process) change.segno change.desc)))
    (set words (number_in y (DescriptorAt change.process change.segno)) code)
one_shown y start words change table code few placed is shows =
    let p = change.process in
    let n = change.segno in
    set_words y y.processes y.numbers (opening_content y start table)
    (opening_content y start (put table p (put (table p) n change.desc))) words (DescriptorAt p n) code
    (record { few = few; processes_is = refl; numbers_is = refl }) (placed.low, placed.high, placed.number) shows
    (is ∙ ap (λ (d : Descriptor). word_code (Valid start d)) (sym (here table p n change.desc)))
    (others y start table p n change.desc)

-- what holds of the table and of each change holds of the table with the changes put in
changed_all : (P : ℕ → ℕ → Descriptor → Type 0) (changes : List Change) (table : ℕ → ℕ → Descriptor)
    → ((p n : ℕ) → P p n (table p n))
    → ((i : ℕ) (c : Change) → slice_get changes i ≡ Some c → P c.process c.segno c.desc) → (p n : ℕ)
    → P p n (with_changes changes table p n)
changed_all P [] table old new = old
changed_all P (c ∷ rest) table old new = changed_all P rest (put table c.process (put (table c.process) c.segno c.desc))
    (put_all (λ p f. (n : ℕ) → P p n (f n)) table c.process (put (table c.process) c.segno c.desc)
    (put_all (λ n d. P c.process n d) (table c.process) c.segno c.desc (new 0 c refl) (λ n e. old c.process n))
    (λ p e. old p))
    (λ i d h. new (suc i) d h)

pub base_opens : (y : Layout) (start : ℕ) (base : List Change) → MayOpen y start base
    → CanOpen y.processes y.numbers start (base_of base)
base_opens y start base may = record {
  some = may.some;
  most = may.most;
  limit = may.limit;
  admissible = changed_all (λ p n d. IsAdmissible d) base (λ p n. unknown_desc) (λ p n. unknown_admissible)
      (λ i c at. (may.each i c at).desc);
  nobody = λ n. changed_all (λ p n d. p ≡ 0 → d ≡ unknown_desc) base (λ p n. unknown_desc) (λ p n e. refl)
      (λ i c at e. let low = (may.each i c at).low in absurd (omega arith)) 0 n refl;
  more = changed_all (λ p n d. y.processes < p → d ≡ unknown_desc) base (λ p n. unknown_desc) (λ p n e. refl)
      (λ i c at e. let high = (may.each i c at).high in absurd (omega arith));
  beyond = changed_all (λ p n d. y.numbers ≤ n → d ≡ unknown_desc) base (λ p n. unknown_desc) (λ p n e. refl)
      (λ i c at e. let number = (may.each i c at).number in absurd (omega arith));
}
