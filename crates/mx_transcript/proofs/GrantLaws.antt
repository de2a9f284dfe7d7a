-- What the outcome of a printed reference says of its access: a word read or written was granted, what nothing grants was
-- denied; and what it is as a deed. For the laws of integrity, confidentiality and revocation.
use Rattle.std.proofs.Common.{◌≡◌, ℕ, zero, suc, ◌<◌, ◌≤◌, Bool, true, false, inl, inr, List, [], ◌∷◌, length, refl, ap, sym, ◌∙◌, subst, Option, None, Some, arith}
use Rattle.std.specs.Prelude.{Result, Ok, Err, ◌&&◌}
use Rattle.std.specs.List.{slice_get}
use Rattle.std.specs.Option.{option_map}
use Rattle.std.proofs.lemmas.Bool.{cases_lt}
use Rattle.std.proofs.lemmas.Option.{slice_get-map}
use Rattle.mx_acl.specs.Modes.{has_w}
use Rattle.mx_core.specs.declared.elements.Element.{Element}
use Rattle.mx_core.specs.declared.elements.Event.TheVariants.{Seen}
use Rattle.mx_core.specs.declared.elements.Kind.{Kind}
use Rattle.mx_core.specs.declared.elements.Kind.TheVariants as kind
use Rattle.mx_core.specs.declared.elements.Outcome.{Outcome}
use Rattle.mx_core.specs.declared.elements.Outcome.TheVariants as outcome
use Rattle.mx_hier.specs.DecidingEntry.{gives, AreFlagsOf}
use Rattle.mx_kst.specs.declared.lots.Lot.TheVariants.{Branch}
use Rattle.mx_sdw.specs.Descriptors.{Descriptor}
use Rattle.mx_sdw.specs.Granting.{CanWrite, IsGranted}
use Rattle.mx_sdw.specs.Judging.{judgement, ring_after, cell_of}
use Rattle.mx_sdw.specs.declared.denials.Denial.{Denial}
use Rattle.mx_sdw.specs.declared.descriptors.Cell.{Cell}
use Rattle.mx_sdw.specs.declared.operations.Op.{Op}
use Rattle.mx_sdw.specs.declared.operations.Op.TheVariants as op
use Rattle.mx_sdw.proofs.JudgingLaws.{granted_is_allowed, granted_has_cell}
use Rattle.mx_script.specs.Sessions.{Outline}
use Rattle.mx_state.specs.DecidingEntry.{entry_behind, lot_for}
use Rattle.mx_state.specs.Plain.{process_at}
use Rattle.mx_state.specs.declared.journal.Entry as journaled
use Rattle.mx_state.proofs.EntryLaws.{explained}
use Rattle.mx_transcript.specs.declared.transcripts.Event2.{Event2}
use Rattle.mx_transcript.specs.declared.transcripts.Event2.TheVariants.{Core}
use Rattle.mx_transcript.specs.Access.{descriptor_of}
use Rattle.mx_transcript.specs.Confidentiality.{MayBeGiven, letter_for}
use Rattle.mx_reads.specs.Deeds.{CellUse, Loads, point_of}
use Rattle.mx_transcript.specs.Elements.{kind_of, Gives, Agrees, IsJudged}
use Rattle.mx_transcript.specs.Grants.{state_at, HadAccess, cell_referred}
use Rattle.mx_transcript.specs.Legal.{IsLegal, deeds}
use Rattle.mx_transcript.specs.Next.{Reference}
use Rattle.mx_transcript.specs.Printed.{IsRightElement, EachReferenceLaw}
use Rattle.mx_transcript.specs.References.{cell_by, granted_cell, reference, deed_by}
use Rattle.mx_transcript.specs.References as references
use Rattle.mx_transcript.specs.Revocation.{Denies, IsDenied}
use Rattle.mx_transcript.specs.Transcripts.{Step, part, events_of}
use Rattle.mx_transcript.specs.Uses.{use_of}

-- the judging rule's answer to a printed reference, at the ring and the word that are printed
pub record IsAnswered (d : Descriptor) (e : Element) : Type 0 where
  pub asked : Reference
  pub kind : e.kind ≡ kind_of asked.op
  pub outcome : Agrees asked (ring_after d asked.op e.ring) (judgement d asked.op e.ring e.word) e.outcome

answered : (d : Descriptor) (e : Element) (r : Reference) → IsJudged r d e → IsAnswered d e
answered d e r right = record {
  asked = r;
  kind = right.kind;
  outcome = subst (λ (n : ℕ). Agrees r (ring_after d r.op n) (judgement d r.op n e.word) e.outcome) (sym right.ring)
      (subst (λ (n : ℕ). Agrees r (ring_after d r.op r.ring) (judgement d r.op r.ring n) e.outcome) (sym right.word)
      right.outcome);
}

-- there is no transcript beyond the last
none_beyond : (parts : List (List Step)) (p : ℕ) → length parts ≤ p → part parts p ≡ []
none_beyond [] p h = refl
none_beyond (steps ∷ parts) zero h = absurd (omega arith)
none_beyond (steps ∷ parts) (suc p) h = none_beyond parts p (omega arith)

nothing_printed : (place : ℕ) (event : Event2) → slice_get [] place ≡ Some event → ⊥
nothing_printed place event at = cc

pub there : (parts : List (List Step)) (p place : ℕ) (event : Event2)
    → slice_get (events_of (part parts p)) place ≡ Some event → p < length parts
there parts p place event at = elim (cases_lt p (length parts)) [
  | inl within ↦ within
  | inr beyond ↦
      absurd (nothing_printed place event (subst (λ (steps : List Step). slice_get (events_of steps) place ≡ Some event)
      (none_beyond parts p beyond) at))
]

-- the answer to each printed reference of a legal run
pub answer_of : EachReferenceLaw → (x : Outline) (journal : List journaled.Entry) (transcripts : List (List Step))
    → IsLegal x journal transcripts
    → (p place : ℕ) (e : Element) → slice_get (events_of (part transcripts p)) place ≡ Some (Core (Seen e))
    → IsAnswered (descriptor_of x journal p e) e
answer_of each x journal transcripts legal p place e at =
    let is : IsRightElement x journal p e =
    each x journal transcripts legal p place e (there transcripts p place (Core (Seen e)) at) at in
    answered (descriptor_of x journal p e) e is.asked is.right

-- what a granted operation was, by what it came to
abbrev IsLoad : Op → Type 0
IsLoad op.Read = Unit {0}
IsLoad op.Indirect = Unit {0}
IsLoad op.Write = ⊥
IsLoad op.Fetch = Unit {0}
IsLoad (op.Call current same upward) = ⊥
IsLoad op.Return = ⊥

gives_load : (o : Op) (stores : Option ℕ) (entered value writer stamp : ℕ)
    → Gives o stores entered (outcome.Read value writer stamp) → IsLoad o
gives_load op.Read stores entered value writer stamp g = tt
gives_load op.Indirect stores entered value writer stamp g = tt
gives_load op.Write stores entered value writer stamp g = absurd g
gives_load op.Fetch stores entered value writer stamp g = tt
gives_load (op.Call current same upward) stores entered value writer stamp g = absurd g
gives_load op.Return stores entered value writer stamp g = absurd g

gives_write : (o : Op) (stores : Option ℕ) (entered value : ℕ) → Gives o stores entered (outcome.Written value)
    → o ≡ op.Write
gives_write op.Read stores entered value g = absurd g
gives_write op.Indirect stores entered value g = absurd g
gives_write op.Write stores entered value g = refl
gives_write op.Fetch stores entered value g = absurd g
gives_write (op.Call current same upward) stores entered value g = absurd g
gives_write op.Return stores entered value g = absurd g

-- a granted answer
record IsOk (answer : Result Cell Denial) : Type 0 where
  cell : Cell
  is : answer ≡ Ok cell

read_ok : (r : Reference) (entered : ℕ) (answer : Result Cell Denial) (value writer stamp : ℕ)
    → Agrees r entered answer (outcome.Read value writer stamp) → IsOk answer × IsLoad r.op
read_ok r entered (Ok cell) value writer stamp agrees =
    (record { cell = cell; is = refl }, gives_load r.op r.stores entered value writer stamp agrees)
read_ok r entered (Err denial) value writer stamp agrees = absurd (differ agrees)
  where
    differ : outcome.Read value writer stamp ≡ outcome.Denied denial → ⊥
    differ h = cc

written_ok : (r : Reference) (entered : ℕ) (answer : Result Cell Denial) (value : ℕ)
    → Agrees r entered answer (outcome.Written value) → IsOk answer × (r.op ≡ op.Write)
written_ok r entered (Ok cell) value agrees =
    (record { cell = cell; is = refl }, gives_write r.op r.stores entered value agrees)
written_ok r entered (Err denial) value agrees = absurd (differ agrees)
  where
    differ : outcome.Written value ≡ outcome.Denied denial → ⊥
    differ h = cc

denied_err : (r : Reference) (entered : ℕ) (answer : Result Cell Denial) (came : Outcome)
    → Agrees r entered answer came → (IsOk answer → ⊥) → (denial : Denial) × (came ≡ outcome.Denied denial)
denied_err r entered (Ok cell) came agrees never = absurd (never (record { cell = cell; is = refl }))
denied_err r entered (Err denial) came agrees never = (denial, agrees)

-- a granted load: its cell, and what its access was
pub record IsLoaded (d : Descriptor) (k : Kind) (ring word : ℕ) : Type 0 where
  pub touched : (named : ℕ → CellUse) → cell_by named d k ring word ≡ Some (named (cell_of d word).0)
  pub stood : (o : Op) × IsGranted d o ring word
  pub allowed : MayBeGiven k d ring

use_granted : (d : Descriptor) (o : Op) (ring word : ℕ) (ok : IsOk (judgement d o ring word)) (named : ℕ → CellUse)
    → granted_cell named (judgement d o ring word) ≡ Some (named (cell_of d word).0)
use_granted d o ring word ok named =
    ap (granted_cell named) ok.is
    ∙ ap (λ (c : Cell). Some (named c.0)) (granted_has_cell d o ring word ok.cell ok.is)

loaded_by : (d : Descriptor) (o : Op) (ring word : ℕ) → IsOk (judgement d o ring word) → IsLoad o
    → IsLoaded d (kind_of o) ring word
loaded_by d op.Read ring word ok load =
    let granted = granted_is_allowed d op.Read ring word ok.cell ok.is in
    record { touched = use_granted d op.Read ring word ok; stood = (op.Read, granted); allowed = granted.access }
loaded_by d op.Indirect ring word ok load =
    let granted = granted_is_allowed d op.Indirect ring word ok.cell ok.is in
    record { touched = use_granted d op.Indirect ring word ok; stood = (op.Indirect, granted); allowed = granted.access }
loaded_by d op.Write ring word ok load = absurd load
loaded_by d op.Fetch ring word ok load =
    let granted = granted_is_allowed d op.Fetch ring word ok.cell ok.is in
    record { touched = use_granted d op.Fetch ring word ok; stood = (op.Fetch, granted); allowed = granted.access }
loaded_by d (op.Call current same upward) ring word ok load = absurd load
loaded_by d op.Return ring word ok load = absurd load

pub loaded : (d : Descriptor) (e : Element) (value writer stamp : ℕ) → IsAnswered d e
    → e.outcome ≡ outcome.Read value writer stamp → IsLoaded d e.kind e.ring e.word
loaded d e value writer stamp is came =
    let o = is.asked.op in
    let ok = read_ok is.asked (ring_after d o e.ring) (judgement d o e.ring e.word) value writer stamp
    (subst (λ (c : Outcome). Agrees is.asked (ring_after d o e.ring) (judgement d o e.ring e.word) c) came is.outcome) in
    subst (λ (k : Kind). IsLoaded d k e.ring e.word) (sym is.kind) (loaded_by d o e.ring e.word ok.0 ok.1)

-- a granted store
pub record IsStored (d : Descriptor) (e : Element) : Type 0 where
  pub kind : e.kind ≡ kind.Write
  pub touched : (named : ℕ → CellUse) → cell_by named d e.kind e.ring e.word ≡ Some (named (cell_of d e.word).0)
  pub granted : IsGranted d op.Write e.ring e.word

stored_by : (d : Descriptor) (e : Element) (o : Op) → o ≡ op.Write → e.kind ≡ kind_of o
    → IsOk (judgement d o e.ring e.word) → IsStored d e
stored_by d e o write printed ok =
    let is : IsOk (judgement d op.Write e.ring e.word) =
    subst (λ (o : Op). IsOk (judgement d o e.ring e.word)) write ok in
    let kind : e.kind ≡ kind.Write = printed ∙ ap kind_of write in
    record {
      kind = kind;
      touched = λ named. subst (λ (k : Kind). cell_by named d k e.ring e.word ≡ Some (named (cell_of d e.word).0)) (sym kind)
          (use_granted d op.Write e.ring e.word is named);
      granted = granted_is_allowed d op.Write e.ring e.word is.cell is.is;
    }

pub stored : (d : Descriptor) (e : Element) (value : ℕ) → IsAnswered d e → e.outcome ≡ outcome.Written value
    → IsStored d e
stored d e value is came =
    let o = is.asked.op in
    let ok = written_ok is.asked (ring_after d o e.ring) (judgement d o e.ring e.word) value
    (subst (λ (c : Outcome). Agrees is.asked (ring_after d o e.ring) (judgement d o e.ring e.word) c) came is.outcome) in
    stored_by d e o ok.1 is.kind ok.0

pub denied : (d : Descriptor) (e : Element) → IsAnswered d e → Denies d e → IsDenied e
denied d e is denies =
    let o = is.asked.op in
    let why = denied_err is.asked (ring_after d o e.ring) (judgement d o e.ring e.word) e.outcome is.outcome
    (λ ok. denies o (sym is.kind) (granted_is_allowed d o e.ring e.word ok.cell ok.is)) in
    record { denial = why.0; denied = why.1 }

-- the letter behind a flag
second_holds : (a b c : Bool) → c ≡ (a && b) → c ≡ true → b ≡ true
second_holds true b c is holds = sym is ∙ holds
second_holds false b c is holds = absurd cc

flags : (x : Outline) (journal : List journaled.Entry) (p uid : ℕ) (e : Element)
    → lot_for (process_at (state_at x journal e.point).processes p) e.segno ≡ Branch uid
    → AreFlagsOf (entry_behind (state_at x journal e.point) p e.segno) (descriptor_of x journal p e)
flags x journal p uid e is = explained (state_at x journal e.point) p e.segno uid is

pub write_access : (x : Outline) (journal : List journaled.Entry) (p : ℕ) (e : Element)
    → IsStored (descriptor_of x journal p e) e → HadAccess x journal p e CanWrite has_w
write_access x journal p e is = record {
  stood = is.granted.kind;
  word = is.granted.bound;
  allowed = is.granted.access;
  listed = λ uid lot. second_holds _ _ _ (flags x journal p uid e lot).write is.granted.access.flag;
}

given_letter : (x : Outline) (journal : List journaled.Entry) (p uid : ℕ) (e : Element) (k : Kind)
    → AreFlagsOf (entry_behind (state_at x journal e.point) p e.segno) (descriptor_of x journal p e)
    → MayBeGiven k (descriptor_of x journal p e) e.ring
    → gives (letter_for k) (entry_behind (state_at x journal e.point) p e.segno) ≡ true
given_letter x journal p uid e kind.Read are can = second_holds _ _ _ are.read can.flag
given_letter x journal p uid e kind.Ind are can = second_holds _ _ _ are.read can.flag
given_letter x journal p uid e kind.Fetch are can = second_holds _ _ _ are.execute can.flag
given_letter x journal p uid e kind.Write are can = absurd can
given_letter x journal p uid e kind.Call are can = absurd can
given_letter x journal p uid e kind.Return are can = absurd can

pub read_access : (x : Outline) (journal : List journaled.Entry) (p : ℕ) (e : Element)
    → IsLoaded (descriptor_of x journal p e) e.kind e.ring e.word
    → HadAccess x journal p e (MayBeGiven e.kind) (letter_for e.kind)
read_access x journal p e is = record {
  stood = is.stood.1.kind;
  word = is.stood.1.bound;
  allowed = is.allowed;
  listed = λ uid lot. given_letter x journal p uid e e.kind (flags x journal p uid e lot) is.allowed;
}

-- each event as a deed of its process
pub deed_at : (x : Outline) (journal : List journaled.Entry) (transcripts : List (List Step)) (p place : ℕ)
    (event : Event2)
    → slice_get (events_of (part transcripts p)) place ≡ Some event
    → slice_get (deeds x journal transcripts p) place ≡ Some (deed_by (references.cell_of (use_of x journal) (descriptor_of x journal p)) event)
deed_at x journal transcripts p place event at =
    slice_get-map (deed_by (references.cell_of (use_of x journal) (descriptor_of x journal p))) (events_of (part transcripts p)) place
    ∙ ap (option_map (deed_by (references.cell_of (use_of x journal) (descriptor_of x journal p)))) at

-- a reference's deed has its point
pub point_of_reference : (touching : Option CellUse) (came : Outcome) (point : ℕ)
    → point_of (reference touching came point) ≡ Some point
point_of_reference (Some own) (outcome.Read value writer stamp) point = refl
point_of_reference (Some own) (outcome.Written value) point = refl
point_of_reference (Some own) (outcome.Entered ring) point = refl
point_of_reference (Some own) (outcome.Denied denial) point = refl
point_of_reference None (outcome.Read value writer stamp) point = refl
point_of_reference None (outcome.Written value) point = refl
point_of_reference None (outcome.Entered ring) point = refl
point_of_reference None (outcome.Denied denial) point = refl

-- a word that was read is a load of its cell
pub load_at : (x : Outline) (journal : List journaled.Entry) (transcripts : List (List Step)) (p place : ℕ) (e : Element)
    (value writer stamp : ℕ)
    → slice_get (events_of (part transcripts p)) place ≡ Some (Core (Seen e))
    → IsLoaded (descriptor_of x journal p e) e.kind e.ring e.word
    → e.outcome ≡ outcome.Read value writer stamp
    → slice_get (deeds x journal transcripts p) place
    ≡ Some (Loads (cell_referred x journal p e) value writer stamp e.point)
load_at x journal transcripts p place e value writer stamp at is came =
    deed_at x journal transcripts p place (Core (Seen e)) at
    ∙ ap (λ (touching : Option CellUse). Some (reference touching e.outcome e.point))
    (is.touched (λ cell. use_of x journal cell e.point))
    ∙ ap (λ (c : Outcome). Some (reference (Some (cell_referred x journal p e)) c e.point)) came
