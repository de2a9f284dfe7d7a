-- What a good trace did is what the law of a finished run takes it to have done.
use Rattle.std.proofs.Common.{◌≡◌, ℕ, suc, ◌+◌, ◌*◌, ◌<◌, ◌≤◌, Bool, true, false, List, [], ◌∷◌, map, refl, ap, ◌∙◌, subst, Option, Some, None, arith}
use Rattle.std.specs.Prelude.{◌/◌, nat_le, nat_lt, IsTrue}
use Rattle.std.proofs.lemmas.Bool.{and_from, le-leb, lt-ltb}
use Rattle.std.specs.List.{slice_get}
use Rattle.mx_core.specs.Deeds.{deed_by, deed_of}
use Rattle.mx_core.specs.Judging.{kind_of, loads, Agrees, IsGranted}
use Rattle.mx_core.specs.Pages.{page_of, cell_at, covers, use_at, cell_use}
use Rattle.mx_core.specs.Traces.{IsRightElement}
use Rattle.mx_core.specs.declared.elements.Element.{Element}
use Rattle.mx_core.specs.declared.elements.Kept.{Kept as Recorded}
use Rattle.mx_core.specs.declared.elements.Kept.TheVariants.{Judged, Missed}
use Rattle.mx_core.specs.declared.elements.Kind.{Kind}
use Rattle.mx_core.specs.declared.elements.Outcome.{Outcome}
use Rattle.mx_core.specs.declared.elements.Outcome.TheVariants as outcome
use Rattle.mx_core.specs.declared.words.Asked.{Asked}
use Rattle.mx_reads.specs.Deeds.{CellUse, Deed, Stores, Loads, Refers, Misses}
use Rattle.mx_sdw.specs.Descriptors.{Descriptor}
use Rattle.mx_sdw.proofs.JudgingLaws.{granted_is_allowed}
use Rattle.mx_sdw.specs.Judging.{judgement, cell_of}
use Rattle.mx_sdw.specs.Operations.{writes}
use Rattle.mx_sdw.specs.declared.denials.Denial.{Denial}
use Rattle.mx_sdw.specs.declared.operations.Op.{Op}
use Rattle.mx_sdw.specs.declared.operations.Op.TheVariants as op
use Rattle.mx_ties.specs.Uses.{renamed}
use Rattle.mx_ties.specs.Views.{deed_kept}
use Rattle.mx_transcript.specs.References.{granted_cell, cell_by, reference}
use Rattle.mx_closing.proofs.Uses.{in_use, swapped}
use Rattle.mx_closing.specs.Views.{kept_in}

granted : (named : ℕ → CellUse) (d : Descriptor) (a : Asked) → IsGranted d a
    → granted_cell named (judgement d a.op a.ring a.word) ≡ Some (named (cell_at d a.word))
granted named d a g = ap (granted_cell named) g

no : {A : Type 0} → false ≡ true → A
no e = cc

-- a granted read or write touches the cell of its word
read_there : (named : ℕ → CellUse) (d : Descriptor) (o : Op) (ring word : ℕ) → IsGranted d (record { op = o; ring = ring; word = word })
    → loads o ≡ true → cell_by named d (kind_of o) ring word ≡ Some (named (cell_at d word))
read_there named d op.Read ring word g l = granted named d (record { op = op.Read; ring = ring; word = word }) g
read_there named d op.Indirect ring word g l = granted named d (record { op = op.Indirect; ring = ring; word = word }) g
read_there named d op.Write ring word g l = no l
read_there named d op.Fetch ring word g l = granted named d (record { op = op.Fetch; ring = ring; word = word }) g
read_there named d (op.Call current same upward) ring word g l = no l
read_there named d op.Return ring word g l = no l

written_there : (named : ℕ → CellUse) (d : Descriptor) (o : Op) (ring word : ℕ) → IsGranted d (record { op = o; ring = ring; word = word })
    → writes o ≡ true → cell_by named d (kind_of o) ring word ≡ Some (named (cell_at d word))
written_there named d op.Read ring word g l = no l
written_there named d op.Indirect ring word g l = no l
written_there named d op.Write ring word g l = granted named d (record { op = op.Write; ring = ring; word = word }) g
written_there named d op.Fetch ring word g l = no l
written_there named d (op.Call current same upward) ring word g l = no l
written_there named d op.Return ring word g l = no l

entered : (cell : Option CellUse) (ring point : ℕ) → reference cell (outcome.Entered ring) point ≡ Refers point
entered None ring point = refl
entered (Some cell) ring point = refl

denied : (cell : Option CellUse) (denial : Denial) (point : ℕ)
    → reference cell (outcome.Denied denial) point ≡ Refers point
denied None denial point = refl
denied (Some cell) denial point = refl

-- an outcome that the judging rule allows
come : (named : ℕ → CellUse) (d : Descriptor) (o : Op) (ring word point : ℕ) (outcome : Outcome)
    → Agrees d (record { op = o; ring = ring; word = word }) outcome
    → reference (cell_by named d (kind_of o) ring word) outcome point ≡ deed_by (named (cell_at d word)) point outcome
come named d o ring word point (outcome.Read value writer stamp) a =
    ap (λ (c : Option CellUse). reference c (outcome.Read value writer stamp) point) (read_there named d o ring word a.0 a.1)
come named d o ring word point (outcome.Written value) a =
    ap (λ (c : Option CellUse). reference c (outcome.Written value) point) (written_there named d o ring word a.0 a.1)
come named d o ring word point (outcome.Entered to) a = entered (cell_by named d (kind_of o) ring word) to point
come named d o ring word point (outcome.Denied denial) a = denied (cell_by named d (kind_of o) ring word) denial point

-- what is granted lies in a page that the descriptor covers
covers_word : (d : Descriptor) (word : ℕ) → word < d.bound → IsTrue (covers d (page_of (cell_at d word)))
covers_word d word under = and_from (nat_le d.page page) (nat_lt (64 * page) (64 * d.page + d.bound))
    (le-leb d.page page (omega arith)) (lt-ltb (64 * page) (64 * d.page + d.bound) (omega arith))
  where
    page : ℕ
    page = (64 * d.page + word) / 64

lies_there : (d : Descriptor) (o : Op) (ring word : ℕ) → IsGranted d (record { op = o; ring = ring; word = word })
    → IsTrue (covers d (page_of (cell_at d word)))
lies_there d o ring word granted = covers_word d word (granted_is_allowed d o ring word (cell_of d word) granted).bound

module _ (start floor : ℕ) (given mine : ℕ → ℕ → Bool) (base : ℕ → ℕ) (h : ℕ → ℕ → Descriptor)
    (same_use : (q n page : ℕ) → start ≤ q → q ≤ floor → IsTrue (covers (h q n) page)
    → swapped (base page) (use_at 0 mine page q) ≡ use_at start given page q) where
  moved : (d : Descriptor) (o : Op) (ring word point : ℕ) (outcome : Outcome)
      → Agrees d (record { op = o; ring = ring; word = word }) outcome
      → (IsTrue (covers d (page_of (cell_at d word)))
      → swapped (base (page_of (cell_at d word))) (use_at 0 mine (page_of (cell_at d word)) point)
      ≡ use_at start given (page_of (cell_at d word)) point)
      → renamed (in_use base) (deed_by (cell_use 0 mine (cell_at d word) point) point outcome)
      ≡ deed_by (cell_use start given (cell_at d word) point) point outcome
  moved d o ring word point (outcome.Read value writer stamp) a same =
      ap (λ (since : ℕ). Loads (record { cell = cell_at d word; since = since }) value writer stamp point)
      (same (lies_there d o ring word a.0))
  moved d o ring word point (outcome.Written value) a same =
      ap (λ (since : ℕ). Stores (record { cell = cell_at d word; since = since }) value point)
      (same (lies_there d o ring word a.0))
  moved d o ring word point (outcome.Entered to) a same = refl
  moved d o ring word point (outcome.Denied denial) a same = refl

  -- a cell in its use by the journal
  abbrev named : ℕ → ℕ → CellUse
  named = cell_use 0 mine

  deed_same : (e : Element) (o : Op) (d : Descriptor) → IsRightElement start floor h e o d
      → renamed (in_use base) (deed_kept named (kept_in (Judged e o d))) ≡ deed_of start given (Judged e o d)
  deed_same e o d right =
      ap (λ (k : Kind). renamed (in_use base)
      (reference (cell_by (λ cell. named cell e.point) d k e.ring e.word) e.outcome e.point)) right.kind
      ∙ ap (renamed (in_use base)) (come (λ cell. named cell e.point) d o e.ring e.word e.point e.outcome right.right)
      ∙ moved d o e.ring e.word e.point e.outcome right.right
      (λ covered. same_use e.point e.segno (page_of (cell_at d e.word)) right.low right.high
      (subst (λ (c : Descriptor). IsTrue (covers c (page_of (cell_at d e.word)))) right.stands covered))

  pub deeds_same : (trace : List Recorded)
      → ((i : ℕ) (e : Element) (o : Op) (d : Descriptor) → slice_get trace i ≡ Some (Judged e o d)
      → IsRightElement start floor h e o d)
      → map (renamed (in_use base)) (map (deed_kept named) (map kept_in trace)) ≡ map (deed_of start given) trace
  deeds_same [] right = refl
  deeds_same (Judged e o d ∷ trace) right =
      ap (λ (first : Deed). first ∷ map (renamed (in_use base)) (map (deed_kept named) (map kept_in trace)))
      (deed_same e o d (right 0 e o d refl))
      ∙ ap (λ (rest : List Deed). deed_of start given (Judged e o d) ∷ rest)
      (deeds_same trace (λ i f p c at. right (suc i) f p c at))
  deeds_same (Missed segno by ∷ trace) right =
      ap (λ (rest : List Deed). Misses segno by ∷ rest) (deeds_same trace (λ i f p c at. right (suc i) f p c at))
