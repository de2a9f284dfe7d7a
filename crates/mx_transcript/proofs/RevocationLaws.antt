-- Revocation: what a process was told of stands before its later points, and so what was taken stays denied.
use Rattle.std.proofs.Common.{◌≡◌, ℕ, zero, suc, ◌<◌, ◌≤◌, inl, inr, List, length, refl, subst, Some, arith}
use Rattle.std.specs.List.{slice_get}
use Rattle.std.proofs.lemmas.Bool.{cases_eq}
use Rattle.mx_core.specs.declared.elements.Element.{Element}
use Rattle.mx_core.specs.declared.elements.Event.TheVariants.{Seen, Missing}
use Rattle.mx_core.specs.declared.elements.Outcome.{Outcome}
use Rattle.mx_core.specs.declared.elements.Outcome.TheVariants as outcome
use Rattle.mx_sdw.specs.Descriptors.{Descriptor}
use Rattle.mx_sdw.specs.Granting.{IsGranted}
use Rattle.mx_script.specs.Sessions.{Outline}
use Rattle.mx_state.specs.declared.journal.Entry as journaled
use Rattle.mx_transcript.specs.declared.transcripts.Event2.{Event2}
use Rattle.mx_transcript.specs.declared.transcripts.Event2.TheVariants.{Core, Entry}
use Rattle.mx_transcript.specs.Access.{descriptor_at, descriptor_of}
use Rattle.mx_transcript.specs.Grants.{cell_referred}
use Rattle.mx_transcript.specs.Legal.{IsLegal, deeds, setup_entries}
use Rattle.mx_transcript.specs.Misses.{IsChanged}
use Rattle.mx_transcript.specs.Points.{IsPoint}
use Rattle.mx_transcript.specs.Printed.{EachReferenceLaw}
use Rattle.mx_transcript.specs.References.{cell_of, reference}
use Rattle.mx_transcript.specs.Revocation.{IsStamped, Tells, Denies, ToldLaw, DeniedLaw, RevocationLaw}
use Rattle.mx_transcript.specs.Uses.{use_of}
use Rattle.mx_transcript.specs.Transcripts.{Step, part, events_of}
use Rattle.mx_transcript.proofs.GrantLaws.{answer_of, loaded, denied, deed_at, load_at, point_of_reference}

-- an outcome with such a stamp is a word that was read
record IsStampedWord (q : ℕ) (came : Outcome) : Type 0 where
  value : ℕ
  writer : ℕ
  stamp : ℕ
  read : came ≡ outcome.Read value writer stamp
  late : q ≤ stamp

stamped : (q : ℕ) (came : Outcome) → IsStamped q came → IsStampedWord q came
stamped q (outcome.Read value writer stamp) is =
    record { value = value; writer = writer; stamp = stamp; read = refl; late = is }
stamped q (outcome.Written value) is = absurd is
stamped q (outcome.Entered ring) is = absurd is
stamped q (outcome.Denied denial) is = absurd is

-- a printed reference keeps the point rule
point_at : (x : Outline) (journal : List journaled.Entry) (transcripts : List (List Step))
    → IsLegal x journal transcripts
    → (p place : ℕ) (e : Element) → slice_get (events_of (part transcripts p)) place ≡ Some (Core (Seen e))
    → IsPoint (setup_entries x) (length journal) (deeds x journal transcripts p) place e.point
point_at x journal transcripts legal p place e at =
    legal.points p place (reference (cell_of (use_of x journal) (descriptor_of x journal p) e) e.outcome e.point) e.point
    (deed_at x journal transcripts p place (Core (Seen e)) at)
    (point_of_reference (cell_of (use_of x journal) (descriptor_of x journal p) e) e.outcome e.point)

told_by : EachReferenceLaw → (x : Outline) (journal : List journaled.Entry) (transcripts : List (List Step))
    → IsLegal x journal transcripts
    → (p place q point : ℕ) (before : ℕ) (event : Event2) → before < place
    → IsPoint (setup_entries x) (length journal) (deeds x journal transcripts p) place point
    → slice_get (events_of (part transcripts p)) before ≡ Some event → Tells q event → q ≤ point
told_by each x journal transcripts legal p place q point before (Entry number) earlier is at tells =
    let l : number ≤ point = is.after_entries before number earlier
    (deed_at x journal transcripts p before (Entry number) at) in omega arith
told_by each x journal transcripts legal p place q point before (Core (Missing segno by)) earlier is at tells =
    let l : by ≤ point = is.after_misses before segno by earlier
    (deed_at x journal transcripts p before (Core (Missing segno by)) at) in omega arith
told_by each x journal transcripts legal p place q point before (Core (Seen o)) earlier is at tells =
    elim tells [
      | inl stamp ↦
          let w = stamped q o.outcome stamp in
          let load = loaded (descriptor_of x journal p o) o w.value w.writer w.stamp
          (answer_of each x journal transcripts legal p before o at) w.read in
          let l : w.stamp ≤ point = is.after_stamps before (cell_referred x journal p o) w.value w.writer w.stamp o.point
          earlier (load_at x journal transcripts p before o w.value w.writer w.stamp at load w.read) in
          let late : q ≤ w.stamp = w.late in
          omega arith
      | inr judged ↦
          let l : o.point ≤ point = is.rising before
          (reference (cell_of (use_of x journal) (descriptor_of x journal p) o) o.outcome o.point) o.point earlier
          (deed_at x journal transcripts p before (Core (Seen o)) at)
          (point_of_reference (cell_of (use_of x journal) (descriptor_of x journal p) o) o.outcome o.point) in
          omega arith
    ]

pub told_law : EachReferenceLaw → ToldLaw
told_law each x journal transcripts legal p place q e at told =
    told_by each x journal transcripts legal p place q e.point told.before told.event told.earlier
    (point_at x journal transcripts legal p place e at) told.at told.tells

pub denied_law : EachReferenceLaw → DeniedLaw
denied_law each x journal transcripts legal p place q e at told denies =
    denied (descriptor_of x journal p e) e (answer_of each x journal transcripts legal p place e at)
    (denies e.point (told_law each x journal transcripts legal p place q e at told) (omega arith))

-- what was denied after an entry, and none of those behind it changed, is denied after each of them
still_denied : (x : Outline) (journal : List journaled.Entry) (p q : ℕ) (e : Element) (point : ℕ) → q ≤ point
    → Denies (descriptor_at x journal q p e.segno) e
    → ((by : ℕ) → q < by → by ≤ point → IsChanged x journal p e.segno by → ⊥)
    → Denies (descriptor_at x journal point p e.segno) e
still_denied x journal p q e zero from denies left =
    let same : q ≡ 0 = omega arith in
    subst (λ (n : ℕ). Denies (descriptor_at x journal n p e.segno) e) same denies
still_denied x journal p q e (suc point) from denies left = elim (cases_eq q (suc point)) [
  | inl same ↦ subst (λ (n : ℕ). Denies (descriptor_at x journal n p e.segno) e) same denies
  | inr other ↦ λ op same granted.
      left (suc point) (omega arith) (omega arith) (record {
        before = point;
        next = refl;
        differs = λ equal. still_denied x journal p q e point (omega arith) denies
            (λ by above below. left by above (omega arith)) op same
            (subst (λ (d : Descriptor). IsGranted d op e.ring e.word) equal granted);
      })
]

pub revocation_law : EachReferenceLaw → RevocationLaw
revocation_law each x journal transcripts legal p place q e at told revoked =
    denied_law each x journal transcripts legal p place q e at told (λ point from to.
    still_denied x journal p q e point from revoked.taken (λ by above below. revoked.left by above (omega arith)))
