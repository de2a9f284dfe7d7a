-- A segment becomes known, or gets a further name.
use Rattle.std.specs.Prelude.{◌≡◌, ◌<◌, IfSome, ℕ, ◌+◌, ◌==◌, Bool, true, false, ◌&&◌, not, nat_lt, List, [], ◌∷◌, ◌++◌, length, Option, None, Some, is_some, Result, Ok, Err, if◌then◌else◌, slice_set}
use Rattle.std.specs.Option.{is_none, option_map}
use Rattle.mx_kst.specs.declared.lots.Lot.{Lot}
use Rattle.mx_kst.specs.declared.lots.Lot.TheVariants.{Branch, Linkage}
use Rattle.mx_kst.specs.declared.segments.Known.{Known}
use Rattle.mx_kst.specs.declared.segments.KstError.{KstError}
use Rattle.mx_kst.specs.declared.segments.KstError.TheVariants.{NameDup, Full}
use Rattle.mx_name.specs.Answers.{unless}
use Rattle.mx_kst.specs.Sections.{PlainSection}
use Rattle.mx_kst.specs.Lots.{numbers_left, lot_of, number_of}
use Rattle.mx_kst.specs.Names.{RingNames, names_in, named}
use Rattle.mx_kst.specs.KnownSegments.{KnownSegments}

-- a number other than the one that a segment has; one that is not known has none
abbrev pub is_another : Option ℕ → Option ℕ → Bool
is_another own None = false
is_another None (Some segno) = true
is_another (Some own) (Some segno) = not (segno == own)

-- the name stands in the ring for another number than the segment's
abbrev pub is_taken : KnownSegments → ℕ → ℕ → Option (List ℕ) → Bool
is_taken k uid ring None = false
is_taken k uid ring (Some name) = is_another (number_of k.lots uid) (named k.names ring name)

-- a number for the segment, and one for its linkage section, where one is wanted
abbrev pub numbers_needed : Bool → ℕ
numbers_needed false = 1
numbers_needed true = 2

-- the segment is not known, and too few numbers are left
abbrev pub is_full : KnownSegments → ℕ → Bool → Bool
is_full k uid wanted = is_none (number_of k.lots uid) && nat_lt (numbers_left k.last k.lots) (numbers_needed wanted)

-- why a segment is not initiated: its name is taken; else there is no number for it
abbrev pub refusal : KnownSegments → ℕ → ℕ → Option (List ℕ) → Bool → Option KstError
refusal k uid ring name wanted =
    if is_taken k uid ring name then Some NameDup
    else (if is_full k uid wanted then Some Full else None)

-- a segment keeps the number that it has; else it gets the next one, and its linkage section the one after that
abbrev pub known_by : Option ℕ → ℕ → Option PlainSection → Known
known_by (Some own) next section = record { segno = own; fresh = false; linkage = None }
known_by None next section = record { segno = next; fresh = true; linkage = option_map (λ _. next + 1) section }

abbrev pub known_as : List Lot → ℕ → Option PlainSection → Known
known_as lots uid section = known_by (number_of lots uid) (length lots) section

-- the lots of a segment that gets this number and of its linkage section
abbrev pub lots_given : ℕ → ℕ → Option PlainSection → List Lot
lots_given segno uid None = Branch uid ∷ []
lots_given segno uid (Some section) = Branch uid ∷ Linkage segno section.page section.brackets section.words ∷ []

-- the lots with those of a segment that gets its number now
abbrev pub lots_with : List Lot → Known → ℕ → Option PlainSection → List Lot
lots_with lots known uid section = if known.fresh then lots ++ lots_given known.segno uid section else lots

-- the names with one more for a number, unless none is given or it stands in the ring already
abbrev pub with_name : List RingNames → ℕ → Option (List ℕ) → ℕ → List RingNames
with_name names ring None segno = names
with_name names ring (Some name) segno =
    if is_some (named names ring name) then names else slice_set names ring (names_in names ring ++ (name, segno) ∷ [])

-- how the segment is known, and what the process knows then
pub record Initiated : Type 0 where
  pub known : Known
  pub after : KnownSegments

abbrev pub initiated : KnownSegments → ℕ → ℕ → Option (List ℕ) → Option PlainSection → Initiated
initiated k uid ring name section =
    let known : Known = known_as k.lots uid section in
    record {
      known = known;
      after = record k {
        lots = lots_with k.lots known uid section;
        names = with_name k.names ring name known.segno;
      };
    }

abbrev pub initiate : KnownSegments → ℕ → ℕ → Option (List ℕ) → Option PlainSection → Result Initiated KstError
initiate k uid ring name section =
    unless (refusal k uid ring name (is_some section)) (initiated k uid ring name section)

-- a call's answer, with what the process knows then
abbrev pub outcome : Result Known KstError → KnownSegments → Result Initiated KstError
outcome (Ok known) after = Ok (record { known = known; after = after })
outcome (Err error) after = Err error

-- what is left of it in words of the numbers and names alone
pub record IsInitiated (before : KnownSegments) (uid ring : ℕ) (name : Option (List ℕ)) (section : Option PlainSection)
    (known : Known) (after : KnownSegments) : Type 0 where
  -- the segment has the number
  pub number : number_of after.lots uid ≡ Some known.segno
  pub lot : lot_of after.lots known.segno ≡ Branch uid
  -- it had it before, or no number was given from this one on
  pub old : known.fresh ≡ false → number_of before.lots uid ≡ Some known.segno
  pub fresh : known.fresh ≡ true → known.segno ≡ length before.lots
  -- a linkage section is made exactly where one is wanted and the segment was not known;
  -- it has the number after the segment's
  pub made : is_some known.linkage ≡ (known.fresh && is_some section)
  pub linkage : (number : ℕ) → known.linkage ≡ Some number → (number ≡ known.segno + 1)
      × IfSome section (λ given. lot_of after.lots number ≡ Linkage known.segno given.page given.brackets given.words)
  -- so many numbers are given, what was given stays, and so does the last number
  pub given : length after.lots ≡ length before.lots + (if known.fresh then numbers_needed (is_some section) else 0)
  pub lots : (number : ℕ) → number < length before.lots → lot_of after.lots number ≡ lot_of before.lots number
  pub last : after.last ≡ before.last
  -- the name stands for the number, and every other name for what it stood for
  pub own_name : IfSome name (λ text. named after.names ring text ≡ Some known.segno)
  pub other_names : (other_ring : ℕ) (other : List ℕ) → (other_ring ≡ ring → name ≡ Some other → ⊥)
      → named after.names other_ring other ≡ named before.names other_ring other
