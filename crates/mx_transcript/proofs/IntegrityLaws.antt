-- Integrity: each store of a legal run is a granted write, and what is read was written so.
use Rattle.std.proofs.Common.{◌≡◌, ℕ, zero, suc, inl, inr, List, [], ◌∷◌, refl, Option, None, Some}
use Rattle.std.specs.Prelude.{map}
use Rattle.std.specs.List.{slice_get}
use Rattle.std.proofs.lemmas.Bool.{cases_eq}
use Rattle.mx_core.specs.declared.elements.Element.{Element}
use Rattle.mx_core.specs.declared.elements.Event.TheVariants.{Seen, Missing}
use Rattle.mx_core.specs.declared.elements.Outcome.{Outcome}
use Rattle.mx_core.specs.declared.elements.Outcome.TheVariants as outcome
use Rattle.mx_script.specs.Sessions.{Outline}
use Rattle.mx_state.specs.declared.journal.Entry as journaled
use Rattle.mx_transcript.specs.declared.transcripts.Event2.{Event2}
use Rattle.mx_transcript.specs.declared.transcripts.Event2.TheVariants.{Core, Entry}
use Rattle.mx_transcript.specs.Access.{descriptor_of}
use Rattle.mx_reads.specs.Deeds.{CellUse, Deed, Stores}
use Rattle.mx_reads.specs.ReadRule.{Reading, IsRightRead}
use Rattle.mx_transcript.specs.Grants.{cell_referred}
use Rattle.mx_transcript.specs.Integrity.{IsGrantedWrite, GrantedStoresLaw, WrittenBeforeReadLaw}
use Rattle.mx_transcript.specs.Legal.{IsLegal, deeds}
use Rattle.mx_transcript.specs.Printed.{EachReferenceLaw}
use Rattle.mx_transcript.specs.Reads.{IsKnown}
use Rattle.mx_transcript.specs.References.{cell_of, reference, deed_by}
use Rattle.mx_transcript.specs.Uses.{use_of}
use Rattle.mx_transcript.specs.Transcripts.{Step, part, events_of}
use Rattle.mx_transcript.proofs.GrantLaws.{answer_of, loaded, stored, write_access, load_at}

-- a deed came of an event
record Came (f : Event2 → Deed) (events : List Event2) (place : ℕ) (deed : Deed) : Type 0 where
  event : Event2
  at : slice_get events place ≡ Some event
  is : f event ≡ deed

came_of : (f : Event2 → Deed) (events : List Event2) (place : ℕ) (deed : Deed)
    → slice_get (map f events) place ≡ Some deed → Came f events place deed
came_of f [] place deed at = absurd cc
came_of f (event ∷ events) zero deed at = record { event = event; at = refl; is = same at }
  where
    same : Some (f event) ≡ Some deed → f event ≡ deed
    same h = cc
came_of f (event ∷ events) (suc place) deed at =
    let came = came_of f events place deed at in record { event = came.event; at = came.at; is = came.is }

-- a reference that is a store
record IsStore (touching : Option CellUse) (came : Outcome) (point : ℕ) (cell : CellUse) (value at : ℕ) : Type 0 where
  touched : touching ≡ Some cell
  written : came ≡ outcome.Written value
  same : point ≡ at

is_store : (touching : Option CellUse) (came : Outcome) (point : ℕ) (cell : CellUse) (value at : ℕ)
    → reference touching came point ≡ Stores cell value at → IsStore touching came point cell value at
is_store (Some own) (outcome.Read word writer stamp) point cell value at h = absurd cc
is_store (Some own) (outcome.Written word) point cell value at h = record { touched = cc; written = cc; same = cc }
is_store (Some own) (outcome.Entered ring) point cell value at h = absurd cc
is_store (Some own) (outcome.Denied denial) point cell value at h = absurd cc
is_store None (outcome.Read word writer stamp) point cell value at h = absurd cc
is_store None (outcome.Written word) point cell value at h = absurd cc
is_store None (outcome.Entered ring) point cell value at h = absurd cc
is_store None (outcome.Denied denial) point cell value at h = absurd cc

same_cell : (a b : CellUse) (o : Option CellUse) → o ≡ Some a → o ≡ Some b → a ≡ b
same_cell a b o one other = cc

store_event : EachReferenceLaw → (x : Outline) (journal : List journaled.Entry) (transcripts : List (List Step))
    → IsLegal x journal transcripts
    → (u place : ℕ) (cell : CellUse) (value point : ℕ) (event : Event2)
    → slice_get (events_of (part transcripts u)) place ≡ Some event
    → deed_by (cell_of (use_of x journal) (descriptor_of x journal u)) event ≡ Stores cell value point
    → (write : Element) × (slice_get (events_of (part transcripts u)) place ≡ Some (Core (Seen write)))
    × IsGrantedWrite x journal u write cell value point
store_event each x journal transcripts legal u place cell value point (Core (Seen e)) at is =
    let store = is_store (cell_of (use_of x journal) (descriptor_of x journal u) e) e.outcome e.point cell value point is in
    let granted = stored (descriptor_of x journal u e) e value (answer_of each x journal transcripts legal u place e at)
    store.written in (
      e,
      at,
      record {
        kind = granted.kind;
        written = store.written;
        into = same_cell _ _ _ (granted.touched (λ cell. use_of x journal cell e.point)) store.touched;
        at = store.same;
        access = write_access x journal u e granted;
      },
    )
store_event each x journal transcripts legal u place cell value point (Core (Missing segno by)) at is = absurd cc
store_event each x journal transcripts legal u place cell value point (Entry number) at is = absurd cc

pub granted_stores_law : EachReferenceLaw → GrantedStoresLaw
granted_stores_law each x journal transcripts legal u place cell value point at =
    let came = came_of (deed_by (cell_of (use_of x journal) (descriptor_of x journal u))) (events_of (part transcripts u)) place
    (Stores cell value point) at in
    store_event each x journal transcripts legal u place cell value point came.event came.at came.is

pub written_before_read_law : EachReferenceLaw → WrittenBeforeReadLaw
written_before_read_law each x journal transcripts legal p place e value writer stamp at came =
    let is = loaded (descriptor_of x journal p e) e value writer stamp
    (answer_of each x journal transcripts legal p place e at) came in
    let read : Reading = record {
      process = p;
      place = place;
      cell = cell_referred x journal p e;
      value = value;
      writer = writer;
      stamp = stamp;
      point = e.point;
    } in
    let right : IsRightRead (deeds x journal transcripts) (IsKnown (deeds x journal transcripts)) legal.reads.source read =
    legal.reads.right read (load_at x journal transcripts p place e value writer stamp at is came) in
    elim (cases_eq writer 0) [
      | inl nobody ↦ inl (nobody, (right.nobody nobody).zero_value)
      | inr somebody ↦
          let source = legal.reads.source p place in
          let store = granted_stores_law each x journal transcripts legal writer source read.cell value stamp
          (right.such somebody).stored in
          inr (record { place = source; write = store.0; printed = store.1; granted = store.2 })
    ]
