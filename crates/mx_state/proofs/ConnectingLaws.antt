-- What is so where a segment becomes known.
use Rattle.std.proofs.Common.{◌≡◌, ◌≤◌, ◌<◌, ◌+◌, ℕ, Bool, true, false, ◌&&◌, cond, ltb, List, [], ◌∷◌, ◌++◌, length, Option, Some, None, is_none, is_some, length-append, Ok, Err, inl, inr, refl, sym, ap, ◌∙◌, subst, arith}
use Rattle.std.proofs.lemmas.Bool.{cases_eq, cases_lt, ltb-false}
use Rattle.std.proofs.lemmas.List.{get_or_append_left, get_or_past}
use Rattle.std.specs.Option.{option_map}
use Rattle.mx_hier.specs.Branches.{Hierarchy}
use Rattle.mx_hier.specs.Linkage.{linkage_brackets_at, links_at, page_given}
use Rattle.mx_hier.specs.Rules.{first_of, unless}
use Rattle.mx_hier.specs.declared.refusals.Refusal.{Refusal}
use Rattle.mx_hier.specs.declared.refusals.Refusal.TheVariants.{NameDup, KstFull, NoPages}
use Rattle.mx_kst.proofs.LotLaws.{section_stands, where_branch}
use Rattle.mx_kst.specs.Initiating as kst
use Rattle.mx_kst.specs.Initiating.{Initiated, is_full, is_taken, known_by, lots_given, lots_with, numbers_needed}
use Rattle.mx_kst.specs.KnownSegments.{KnownSegments}
use Rattle.mx_kst.specs.Lots.{lot_of, number_of, numbers_left}
use Rattle.mx_kst.specs.Names.{RingNames}
use Rattle.mx_kst.specs.Sections.{PlainSection}
use Rattle.mx_kst.specs.declared.lots.Lot.{Lot}
use Rattle.mx_kst.specs.declared.lots.Lot.TheVariants.{Free, Branch}
use Rattle.mx_kst.specs.declared.segments.Known.{Known}
use Rattle.mx_kst.specs.declared.segments.KstError.{KstError}
use Rattle.mx_state.specs.Connecting.{Connected, connect, connect_refusals, connected, with_section_page}
use Rattle.mx_state.specs.Known.{section_or_refusal}
use Rattle.mx_state.specs.Numbers.{stands_for}
use Rattle.mx_state.specs.Sections.{has_links, needs_section, section_by, section_made}
use Rattle.mx_state.specs.Told.{IsSection}
use Rattle.mx_state.proofs.NumberLaws.{stands_within, stands_alike}

-- a segment that becomes known was refused by no test
pub record IsGranted (h : Hierarchy) (k : KnownSegments) (uid ring : ℕ) (name : Option (List ℕ)) (c : Connected) : Type 0 where
  pub free : is_taken k uid ring name ≡ false
  pub room : is_full k uid (has_links h uid) ≡ false
  pub page : (needs_section h k uid && is_none (page_given h)) ≡ false
  pub is : connected h k uid ring name ≡ c

pub granted : (h : Hierarchy) (k : KnownSegments) (uid ring : ℕ) (name : Option (List ℕ)) (c : Connected)
    → connect h k ring name uid ≡ Ok c → IsGranted h k uid ring name c
granted h k uid ring name c e =
    by_tests (is_taken k uid ring name) (is_full k uid (has_links h uid)) (needs_section h k uid && is_none (page_given h)) refl refl refl e
  where
    by_tests : (taken full none : Bool) → is_taken k uid ring name ≡ taken → is_full k uid (has_links h uid) ≡ full
        → (needs_section h k uid && is_none (page_given h)) ≡ none
        → unless (first_of ((taken, NameDup) ∷ (full, KstFull) ∷ (none, NoPages) ∷ [])) (connected h k uid ring name) ≡ Ok c
        → IsGranted h k uid ring name c
    by_tests true full none t f n e = absurd (cc)
    by_tests false true none t f n e = absurd (cc)
    by_tests false false true t f n e = absurd (cc)
    by_tests false false false t f n e =
        let same : connected h k uid ring name ≡ c = cc in record { free = t; room = f; page = n; is = same }

-- a linkage section that a number stands for
pub record SectionAt (k : KnownSegments) (n : ℕ) : Type 0 where
  pub words : ℕ
  pub section : IsSection (stands_for k n) words

-- the section that is made where the segment has this number, or none
abbrev pub section_with : Hierarchy → ℕ → Option ℕ → Option PlainSection
section_with h uid o =
    cond (is_none o && has_links h uid) (section_by (links_at h uid) (linkage_brackets_at h uid) (page_given h)) None

-- a section that was made is there
new_section : (h : Hierarchy) (k : KnownSegments) (uid n : ℕ) (names : List RingNames) (o : Option ℕ)
    → (is_none o && ltb (numbers_left k.last k.lots) (numbers_needed (has_links h uid))) ≡ false
    → (known_by o (length k.lots) (section_with h uid o)).linkage ≡ Some n
    → SectionAt (record k { lots = lots_with k.lots (known_by o (length k.lots) (section_with h uid o)) uid (section_with h uid o); names = names }) n
new_section h k uid n names (Some own) room e = absurd (cc)
new_section h k uid n names None room e =
    by_links (has_links h uid) (section_by (links_at h uid) (linkage_brackets_at h uid) (page_given h)) room e
  where
    by_links : (links : Bool) (made : Option PlainSection) → ltb (numbers_left k.last k.lots) (numbers_needed links) ≡ false
        → option_map (λ _. length k.lots + 1) (cond links made None) ≡ Some n
        → SectionAt (record k { lots = k.lots ++ lots_given (length k.lots) uid (cond links made None); names = names }) n
    by_links false made room e = absurd (cc)
    by_links true None room e = absurd (cc)
    by_links true (Some section) room e =
        let at : length k.lots + 1 ≡ n = cc in
        let left = ltb-false (numbers_left k.last k.lots) 2 room in
        let within : n ≤ k.last = omega (arith, left, at) in
        record {
          words = section.words;
          section = record {
            of = length k.lots;
            page = section.page;
            brackets = section.brackets;
            is = stands_within (record k { lots = k.lots ++ lots_given (length k.lots) uid (Some section); names = names }) n within
                ∙ section_stands k.lots (length k.lots) uid n section (sym at);
          };
        }

pub section_is_there : (h : Hierarchy) (k : KnownSegments) (uid ring n : ℕ) (name : Option (List ℕ)) (c : Connected)
    → connect h k ring name uid ≡ Ok c → c.known.linkage ≡ Some n → SectionAt c.after n
section_is_there h k uid ring n name c e f =
    let is = granted h k uid ring name c e in
    let before : KnownSegments = (connected h k uid ring name).after in
    let there : SectionAt before n =
    new_section h k uid n before.names (number_of k.lots uid) is.room (ap (λ (c : Connected). c.known.linkage) is.is ∙ f) in
    subst (λ (c : Connected). SectionAt c.after n) is.is there

-- a lot that is given stays where a segment becomes known
given_stays : (lots : List Lot) (known : Known) (uid n : ℕ) (section : Option PlainSection) → n < length lots
    → lot_of (lots_with lots known uid section) n ≡ lot_of lots n
given_stays lots known uid n section below = by_fresh known.fresh
  where
    by_fresh : (fresh : Bool) → lot_of (cond fresh (lots ++ lots_given known.segno uid section) lots) n ≡ lot_of lots n
    by_fresh true = get_or_append_left lots (lots_given known.segno uid section) Free n below
    by_fresh false = refl

-- a number that stands for something has been given
pub given_below : (lots : List Lot) (n : ℕ) (lot : Lot) → lot_of lots n ≡ lot → (Free ≡ lot → ⊥) → n < length lots
given_below lots n lot e some = elim (cases_lt n (length lots)) [
  | inl below ↦ below
  | inr past ↦ absurd (some (sym (get_or_past lots n Free past) ∙ e))
]

-- what a number stood for it stands for
pub stands_still : (h : Hierarchy) (k : KnownSegments) (uid ring n : ℕ) (name : Option (List ℕ)) (c : Connected)
    → connect h k ring name uid ≡ Ok c → n < length k.lots → stands_for c.after n ≡ stands_for k n
stands_still h k uid ring n name c e below =
    let is = granted h k uid ring name c e in
    let before : KnownSegments = (connected h k uid ring name).after in
    let section = section_with h uid (number_of k.lots uid) in
    let own = known_by (number_of k.lots uid) (length k.lots) section in
    let kept : lot_of before.lots n ≡ lot_of k.lots n = given_stays k.lots own uid n section below in
    ap (λ (c : Connected). stands_for c.after n) (sym is.is) ∙ stands_alike before k n refl kept

-- a segment that is refused, by the tests that are made before anything changes, and one that is not
pub connect_refused : (h : Hierarchy) (k : KnownSegments) (uid ring : ℕ) (name : Option (List ℕ)) (why : Refusal)
    → section_or_refusal h k uid ring name ≡ Err why → connect h k ring name uid ≡ Err why
connect_refused h k uid ring name why e = by_rules (first_of (connect_refusals h k uid ring name)) e
  where
    by_rules : (o : Option Refusal) → unless o (section_made h k uid) ≡ Err why → unless o (connected h k uid ring name) ≡ Err why
    by_rules None e = absurd (cc)
    by_rules (Some other) e = let same : other ≡ why = cc in ap Err same

-- and becomes known as its table says
abbrev pub connected_by : Hierarchy → Option PlainSection → Initiated → Connected
connected_by h section given = record { known = given.known; after = given.after; hierarchy = with_section_page h section }

pub connect_granted : (h : Hierarchy) (k : KnownSegments) (uid ring : ℕ) (name : Option (List ℕ)) (section : Option PlainSection) (given : Initiated)
    → section_or_refusal h k uid ring name ≡ Ok section → kst.initiate k uid ring name section ≡ Ok given
    → connect h k ring name uid ≡ Ok (connected_by h section given)
connect_granted h k uid ring name section given e f = by_rules (first_of (connect_refusals h k uid ring name)) e
  where
    by_table : (o : Option KstError) → unless o (kst.initiated k uid ring name section) ≡ Ok given → kst.initiated k uid ring name section ≡ given
    by_table None f = cc
    by_table (Some error) f = absurd (cc)

    by_rules : (o : Option Refusal) → unless o (section_made h k uid) ≡ Ok section
        → unless o (connected h k uid ring name) ≡ Ok (connected_by h section given)
    by_rules (Some why) e = absurd (cc)
    by_rules None e =
        let same : section_made h k uid ≡ section = cc in
        ap (λ s. Ok (connected_by h s (kst.initiated k uid ring name s))) same
        ∙ ap (λ (g : Initiated). Ok (connected_by h section g)) (by_table (kst.refusal k uid ring name (is_some section)) f)

-- a number that is neither of the two that may be given stands for what it stood for
pub lots_apart : (lots : List Lot) (known : Known) (uid m : ℕ) (section : Option PlainSection) → (m ≡ length lots → ⊥) → (m ≡ length lots + 1 → ⊥)
    → lot_of (lots_with lots known uid section) m ≡ lot_of lots m
lots_apart lots known uid m section apart beyond = elim (cases_lt m (length lots)) [
  | inl below ↦ given_stays lots known uid m section below
  | inr past ↦ by_fresh known.fresh past
]
  where
    apart_from : (m n : ℕ) → (m ≡ n → ⊥) → (m ≡ n + 1 → ⊥) → n ≤ m → n + 2 ≤ m
    apart_from m n a b past = elim (cases_eq m n) [
      | inl same ↦ absurd (a same)
      | inr more ↦ elim (cases_eq m (n + 1)) [ inl same ↦ absurd (b same) | inr further ↦ omega arith ]
    ]

    two : (section : Option PlainSection) → length (lots_given known.segno uid section) ≤ 2
    two None = omega arith
    two (Some section) = omega arith

    by_fresh : (fresh : Bool) → length lots ≤ m → lot_of (cond fresh (lots ++ lots_given known.segno uid section) lots) m ≡ lot_of lots m
    by_fresh true past =
        get_or_past (lots ++ lots_given known.segno uid section) m Free
        (omega (arith, length-append lots (lots_given known.segno uid section), two section, apart_from m (length lots) apart beyond past))
        ∙ sym (get_or_past lots m Free past)
    by_fresh false past = refl

-- what a process knows after its table was asked
pub initiated_lots : (k : KnownSegments) (uid ring : ℕ) (name : Option (List ℕ)) (section : Option PlainSection) (given : Initiated)
    → kst.initiate k uid ring name section ≡ Ok given → given.after.lots ≡ lots_with k.lots given.known uid section
initiated_lots k uid ring name section given f = by_table (kst.refusal k uid ring name (is_some section)) f
  where
    by_table : (o : Option KstError) → unless o (kst.initiated k uid ring name section) ≡ Ok given
        → given.after.lots ≡ lots_with k.lots given.known uid section
    by_table None f =
        let same : kst.initiated k uid ring name section ≡ given = cc in
        subst (λ (g : Initiated). g.after.lots ≡ lots_with k.lots g.known uid section) same refl
    by_table (Some error) f = absurd (cc)

-- and its numbers are the same
pub initiated_last : (k : KnownSegments) (uid ring : ℕ) (name : Option (List ℕ)) (section : Option PlainSection) (given : Initiated)
    → kst.initiate k uid ring name section ≡ Ok given → given.after.last ≡ k.last
initiated_last k uid ring name section given f = by_table (kst.refusal k uid ring name (is_some section)) f
  where
    by_table : (o : Option KstError) → unless o (kst.initiated k uid ring name section) ≡ Ok given → given.after.last ≡ k.last
    by_table None f =
        let same : kst.initiated k uid ring name section ≡ given = cc in
        ap (λ (g : Initiated). g.after.last) (sym same)
    by_table (Some error) f = absurd (cc)

-- a segment that the process knows was known, or was made
pub made_by : (lots : List Lot) (known : Known) (uid next : ℕ) (section : Option PlainSection) → uid < next
    → ((n v : ℕ) → lot_of lots n ≡ Branch v → v < next)
    → (n v : ℕ) → lot_of (lots_with lots known uid section) n ≡ Branch v → v < next
made_by lots known uid next section below made n v e = by_fresh known.fresh e
  where
    by_fresh : (fresh : Bool) → lot_of (cond fresh (lots ++ lots_given known.segno uid section) lots) n ≡ Branch v → v < next
    by_fresh false e = made n v e
    by_fresh true e =
        elim (where_branch lots known.segno uid n v section e) [ inl old ↦ made n v old | inr new ↦ omega (arith, new.1) ]
