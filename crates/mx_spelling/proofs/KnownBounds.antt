-- What a process knows can be spelled where a segment becomes known to it and where one is no longer known; and so can its numbers.
use Rattle.std.proofs.Common.{◌≡◌, ℕ, ◌+◌, ◌-◌, ◌<◌, ◌≤◌, nat_lt, Bool, true, false, ◌&&◌, if◌then◌else◌, List, [], ◌∷◌, ◌++◌, length, map, Option, Some, None, IfSome, is_none, Ok, refl, ap, subst, arith, slice_set, length-append, length-set}
use Rattle.std.specs.List.{All}
use Rattle.std.specs.Option.{option_map}
use Rattle.std.proofs.lemmas.Bool.Decides.{nat_tests}
use Rattle.std.proofs.lemmas.List.{length-map}
use Rattle.std.proofs.lemmas.List.Elements.{All-nil, All-cons, All-append, All-set, All-head, All-tail}
use Rattle.mx_hier.specs.Branches.{Hierarchy, object_at, segment_at}
use Rattle.mx_hier.specs.Linkage.{linkage_brackets, linkage_brackets_at, links_at, links_of, page_given}
use Rattle.mx_hier.specs.declared.branches.Segment.{Segment}
use Rattle.mx_kst.proofs.LotLaws.{branch_within, stands}
use Rattle.mx_kst.specs.Initiating.{known_by, lots_with, numbers_needed}
use Rattle.mx_kst.specs.KnownSegments.{KnownSegments}
use Rattle.mx_kst.specs.Lots.{is_branch, is_section_of, lot_of, number_of, numbers_left}
use Rattle.mx_kst.specs.Names.{RingNames}
use Rattle.mx_kst.specs.Sections.{PlainSection}
use Rattle.mx_kst.specs.Terminating.{lot_without, lots_without, names_without, terminate}
use Rattle.mx_kst.specs.declared.lots.Lot.{Lot}
use Rattle.mx_kst.specs.declared.lots.Lot.TheVariants as lot
use Rattle.mx_kst.specs.declared.segments.Known.{Known}
use Rattle.mx_object.specs.Objects.{PlainObjectMap}
use Rattle.mx_request.proofs.FieldLaws.{at_most_test}
use Rattle.mx_request.specs.ObjectTexts.{fits_object}
use Rattle.mx_request.specs.RequestTexts.{is_segno}
use Rattle.mx_sdw.specs.Rings.{Bracketing}
use Rattle.mx_state.proofs.ConnectingLaws.{granted, section_with}
use Rattle.mx_state.specs.Connecting.{Connected, connect, connected, with_section_page}
use Rattle.mx_state.specs.Sections.{has_links, section_by, with_page_back}
use Rattle.mx_spelling.specs.Spelling.{is_none_or}
use Rattle.mx_spelling.proofs.ReplyBounds.{object_spelled, segment_found, small_object}
use Rattle.mx_spelling.proofs.StateBounds.{IsSpelledHierarchy, IsSpelledKnown, IsSpelledLot}

-- a linkage section that is made
abbrev pub IsSpelledSection : PlainSection → Type 0
IsSpelledSection section = (section.brackets.r1 ≤ 7) × (section.words ≤ 64)

few_links : (h : Hierarchy) (uid : ℕ) → IsSpelledHierarchy h → links_at h uid ≤ 64
few_links h uid is = by_object (object_at h uid) (object_spelled h uid is)
  where
    by_object : (o : Option PlainObjectMap) → IfSome o (λ o. fits_object o ≡ true) → links_of o ≤ 64
    by_object None fits = omega arith
    by_object (Some object) fits = (small_object object fits).links

low_brackets : (h : Hierarchy) (uid : ℕ) → IsSpelledHierarchy h → IfSome (linkage_brackets_at h uid) (λ (b : Bracketing). b.r1 ≤ 7)
low_brackets h uid is = by_segment (segment_at h uid) refl
  where
    by_segment : (o : Option Segment) → segment_at h uid ≡ o
        → IfSome (option_map (λ (segment : Segment). linkage_brackets segment.brackets) o) (λ (b : Bracketing). b.r1 ≤ 7)
    by_segment None e = tt
    by_segment (Some segment) e =
        let own = (segment_found h uid segment is e).brackets in
        let first = own.write_first in
        let last = own.gate_last in
        let low = own.ring in
        omega (arith, first, last, low)

section_by_spelled : (links : ℕ) (o : Option Bracketing) (page : Option ℕ) → links ≤ 64 → IfSome o (λ (b : Bracketing). b.r1 ≤ 7)
    → IfSome (section_by links o page) IsSpelledSection
section_by_spelled links (Some b) (Some page) few low = (low, few)
section_by_spelled links (Some b) None few low = tt
section_by_spelled links None page few low = tt

-- what a process knows then, and the numbers that it is told
record IsSpelledGiven (k : KnownSegments) (uid : ℕ) (names : List RingNames) (known : Known) (section : Option PlainSection) : Type 0 where
  after : IsSpelledKnown (record k { lots = lots_with k.lots known uid section; names = names })
  segno : known.segno ≤ 4095
  linkage : is_none_or known.linkage is_segno ≡ true

module _ (k : KnownSegments) (uid : ℕ) (names : List RingNames) (is : IsSpelledKnown k) where
  -- one number more, or two
  longer : (more : List Lot) → length k.lots + length more ≤ k.last + 1 → All IsSpelledLot more
      → IsSpelledKnown (record k { lots = k.lots ++ more; names = names })
  longer more room own = record {
    last = is.last;
    given = let both = length-append k.lots more in omega (arith, both, room);
    lots = All-append IsSpelledLot k.lots more is.lots own;
  }

  alone : All IsSpelledLot (lot.Branch uid ∷ [])
  alone = All-cons IsSpelledLot (lot.Branch uid) [] tt (All-nil IsSpelledLot)

  given_alone : length k.lots + 1 ≤ k.last + 1 → IsSpelledGiven k uid names (known_by None (length k.lots) None) None
  given_alone room = record {
    after = longer (lot.Branch uid ∷ []) room alone;
    segno = let last = is.last in omega (arith, room, last);
    linkage = refl;
  }

  left_is : (n : ℕ) → nat_lt (numbers_left k.last k.lots) n ≡ false → n ≤ k.last + 1 - length k.lots
  left_is n e = grind (arith, nat_tests)

  given_new : (links : Bool) (made : Option PlainSection) → IfSome made IsSpelledSection
      → nat_lt (numbers_left k.last k.lots) (numbers_needed links) ≡ false
      → IsSpelledGiven k uid names (known_by None (length k.lots) (if links then made else None)) (if links then made else None)
  given_new false made own room = given_alone (let left = left_is 1 room in omega (arith, left))
  given_new true None own room = given_alone (let left = left_is 2 room in omega (arith, left))
  given_new true (Some section) own room =
      let left = left_is 2 room in
      let within : length k.lots + 2 ≤ k.last + 1 = omega (arith, left) in
      let last = is.last in
      record {
        after = longer (lot.Branch uid ∷ lot.Linkage (length k.lots) section.page section.brackets section.words ∷ []) within
            (All-cons IsSpelledLot (lot.Branch uid) (lot.Linkage (length k.lots) section.page section.brackets section.words ∷ []) tt
            (All-cons IsSpelledLot (lot.Linkage (length k.lots) section.page section.brackets section.words) [] own (All-nil IsSpelledLot)));
        segno = omega (arith, within, last);
        linkage = at_most_test (length k.lots + 1) 4095 (omega (arith, within, last));
      }

  -- a segment that is known keeps its number
  given_old : (own : ℕ) → own < length k.lots → IsSpelledGiven k uid names (known_by (Some own) (length k.lots) None) None
  given_old own below = record {
    after = record { last = is.last; given = is.given; lots = is.lots };
    segno = let given = is.given in let last = is.last in omega (arith, below, given, last);
    linkage = refl;
  }

given_spelled : (h : Hierarchy) (k : KnownSegments) (uid : ℕ) (names : List RingNames) → IsSpelledHierarchy h → IsSpelledKnown k
    → (is_none (number_of k.lots uid) && nat_lt (numbers_left k.last k.lots) (numbers_needed (has_links h uid))) ≡ false
    → IsSpelledGiven k uid names (known_by (number_of k.lots uid) (length k.lots) (section_with h uid (number_of k.lots uid)))
    (section_with h uid (number_of k.lots uid))
given_spelled h k uid names hierarchy is room = by_number (number_of k.lots uid) refl room
  where
    by_number : (o : Option ℕ) → number_of k.lots uid ≡ o
        → (is_none o && nat_lt (numbers_left k.last k.lots) (numbers_needed (has_links h uid))) ≡ false
        → IsSpelledGiven k uid names (known_by o (length k.lots) (section_with h uid o)) (section_with h uid o)
    by_number (Some own) e room = given_old k uid names is own (branch_within k.lots own (ap is_branch (stands k.lots uid own e)))
    by_number None e room =
        given_new k uid names is (has_links h uid) (section_by (links_at h uid) (linkage_brackets_at h uid) (page_given h))
        (section_by_spelled (links_at h uid) (linkage_brackets_at h uid) (page_given h) (few_links h uid hierarchy) (low_brackets h uid hierarchy)) room

-- a segment that becomes known
pub record IsSpelledConnection (c : Connected) : Type 0 where
  pub known : IsSpelledKnown c.after
  pub segno : c.known.segno ≤ 4095
  pub linkage : is_none_or c.known.linkage is_segno ≡ true
  pub hierarchy : IsSpelledHierarchy c.hierarchy

paged : (h : Hierarchy) (section : Option PlainSection) → IsSpelledHierarchy h → IsSpelledHierarchy (with_section_page h section)
paged h None is = is
paged h (Some section) is = record { root = is.root; branches = is.branches; objects = is.objects }

-- a page that goes back changes no more than the pages
pub back_spelled : (h : Hierarchy) (page : Option ℕ) → IsSpelledHierarchy h → IsSpelledHierarchy (with_page_back h page)
back_spelled h None is = is
back_spelled h (Some page) is = record { root = is.root; branches = is.branches; objects = is.objects }

pub connected_spelled : (h : Hierarchy) (k : KnownSegments) (uid ring : ℕ) (name : Option (List ℕ)) (c : Connected) → IsSpelledHierarchy h
    → IsSpelledKnown k → connect h k ring name uid ≡ Ok c → IsSpelledConnection c
connected_spelled h k uid ring name c hierarchy is e =
    let grant = granted h k uid ring name c e in
    let before : KnownSegments = (connected h k uid ring name).after in
    let given = given_spelled h k uid before.names hierarchy is grant.room in
    subst IsSpelledConnection grant.is (record {
      known = given.after;
      segno = given.segno;
      linkage = given.linkage;
      hierarchy = paged h (section_with h uid (number_of k.lots uid)) hierarchy;
    })

-- a segment that is known no longer
lot_spelled : (segno : ℕ) (l : Lot) → IsSpelledLot l → IsSpelledLot (lot_without segno l)
lot_spelled segno l is = by_test (is_section_of segno l)
  where
    by_test : (own : Bool) → IsSpelledLot (if own then lot.Free else l)
    by_test true = tt
    by_test false = is

each_lot : (segno : ℕ) (lots : List Lot) → All IsSpelledLot lots → All IsSpelledLot (map (lot_without segno) lots)
each_lot segno [] all = All-nil IsSpelledLot
each_lot segno (l ∷ lots) all =
    All-cons IsSpelledLot (lot_without segno l) (map (lot_without segno) lots) (lot_spelled segno l (All-head IsSpelledLot l lots all))
    (each_lot segno lots (All-tail IsSpelledLot l lots all))

pub terminated_spelled : (k known : KnownSegments) (segno : ℕ) → IsSpelledKnown k → terminate k segno ≡ Some known → IsSpelledKnown known
terminated_spelled k known segno is e = by_test (is_branch (lot_of k.lots segno)) e
  where
    after : KnownSegments
    after = record k { lots = lots_without segno k.lots; names = map (names_without segno) k.names }

    own : IsSpelledKnown after
    own = record {
      last = is.last;
      given = let a = length-map (slice_set k.lots segno lot.Free) (lot_without segno) in
          let b = length-set k.lots segno lot.Free in
          let given = is.given in
          omega (arith, a, b, given);
      lots = each_lot segno (slice_set k.lots segno lot.Free) (All-set IsSpelledLot k.lots segno lot.Free tt is.lots);
    }

    by_test : (there : Bool) → (if there then Some after else None) ≡ Some known → IsSpelledKnown known
    by_test true e = let same : after ≡ known = cc in subst IsSpelledKnown same own
    by_test false e = absurd cc
