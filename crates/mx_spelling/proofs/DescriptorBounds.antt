-- In a state that can be spelled each descriptor has a ring for its first bracket, and bounds no more words than a segment can have.
use Rattle.std.proofs.Common.{◌≡◌, ℕ, zero, suc, ◌-◌, ◌==◌, nat_lt, Bool, true, false, if◌then◌else◌, List, [], ◌∷◌, Option, Some, None, refl, arith, slice_get}
use Rattle.std.specs.List.{All}
use Rattle.std.proofs.lemmas.List.Elements.{All-head, All-tail}
use Rattle.mx_hier.specs.Branches.{Hierarchy, object_at, segment_at}
use Rattle.mx_hier.specs.Connected.{desc_for}
use Rattle.mx_hier.specs.Objects.{gate_of}
use Rattle.mx_hier.specs.declared.branches.Segment.{Segment}
use Rattle.mx_kst.specs.Lots.{lot_of}
use Rattle.mx_kst.specs.declared.lots.Lot.{Lot}
use Rattle.mx_kst.specs.declared.lots.Lot.TheVariants as lot
use Rattle.mx_state.specs.Numbers.{stands_for}
use Rattle.mx_state.specs.Plain.{Plain}
use Rattle.mx_state.specs.Table.{descriptor, process_desc, standing_desc}
use Rattle.mx_state.specs.declared.states.ProcessState.{ProcessState}
use Rattle.mx_spelling.proofs.NextBounds.{IsLow}
use Rattle.mx_spelling.proofs.ReplyBounds.{segment_found}
use Rattle.mx_spelling.proofs.StateBounds.{IsSpelled, IsSpelledHierarchy, IsSpelledLot, IsSpelledProcess}
use Rattle.mx_spelling.proofs.WalkBounds.{at_place}

segment_low : (h : Hierarchy) (uid : ℕ) (process : ProcessState) → IsSpelledHierarchy h
    → IsLow (desc_for process.principal process.authorization (gate_of (object_at h uid)) (segment_at h uid))
segment_low h uid process is = by_segment (segment_at h uid) refl
  where
    by_segment : (o : Option Segment) → segment_at h uid ≡ o
        → IsLow (desc_for process.principal process.authorization (gate_of (object_at h uid)) o)
    by_segment None e = record { ring = omega arith; bound = omega arith }
    by_segment (Some segment) e =
        let own = segment_found h uid segment is e in
        let first = own.brackets.write_first in
        let last = own.brackets.gate_last in
        let low = own.brackets.ring in
        let words = own.words in
        record { ring = omega (arith, first, last, low); bound = omega (arith, words) }

standing_low : (h : Hierarchy) (p : ℕ) (process : ProcessState) (l : Lot) → IsSpelledHierarchy h → IsSpelledLot l → IsLow (standing_desc h p process l)
standing_low h p process lot.Free is own = record { ring = omega arith; bound = omega arith }
standing_low h p process (lot.Stack ring) is own = record { ring = own; bound = omega arith }
standing_low h p process (lot.Branch uid) is own = segment_low h uid process is
standing_low h p process (lot.Linkage of page brackets words) is own =
    record { ring = own.0; bound = let few = own.1 in omega (arith, few) }

lot_at : (lots : List Lot) (n : ℕ) → All IsSpelledLot lots → IsSpelledLot (lot_of lots n)
lot_at [] n all = tt
lot_at (l ∷ lots) zero all = All-head IsSpelledLot l lots all
lot_at (l ∷ lots) (suc n) all = lot_at lots n (All-tail IsSpelledLot l lots all)

stands_low : (process : ProcessState) (segno : ℕ) → IsSpelledProcess process → IsSpelledLot (stands_for process.known segno)
stands_low process segno is = by_test (nat_lt process.known.last segno)
  where
    by_test : (beyond : Bool) → IsSpelledLot (if beyond then lot.Free else lot_of process.known.lots segno)
    by_test true = tt
    by_test false = lot_at process.known.lots segno is.known.lots

pub descriptor_low : (s : Plain) (p segno : ℕ) → IsSpelled s → IsLow (descriptor s p segno)
descriptor_low s p segno is = by_zero (p == 0)
  where
    none : IsLow (process_desc s.hierarchy p None segno)
    none = record { ring = omega arith; bound = omega arith }

    by_place : (o : Option ProcessState) → slice_get s.processes (p - 1) ≡ o → IsLow (process_desc s.hierarchy p o segno)
    by_place None e = none
    by_place (Some process) e =
        standing_low s.hierarchy p process (stands_for process.known segno) is.hierarchy
        (stands_low process segno (at_place IsSpelledProcess s.processes (p - 1) process is.processes e))

    by_zero : (zero : Bool) → IsLow (process_desc s.hierarchy p (if zero then None else slice_get s.processes (p - 1)) segno)
    by_zero true = none
    by_zero false = by_place (slice_get s.processes (p - 1)) refl
