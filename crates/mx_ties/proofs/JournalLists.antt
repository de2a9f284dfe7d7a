-- What is said over the front of a journal holds over the whole of it; processes by cases.
use Rattle.std.proofs.Common.{◌≡◌, inl, inr, ℕ, zero, suc, ◌+◌, ◌<◌, ◌≤◌, List, [], ◌∷◌, ◌++◌, map, length, refl, ap, sym, ◌∙◌, Option, Some, None, arith, append_assoc}
use Rattle.std.specs.List.{slice_get}
use Rattle.std.proofs.lemmas.Bool.{cases_lt}
use Rattle.std.proofs.lemmas.List.{map-append, take-append-le, length-append, length-map}
use Rattle.mx_transcript.specs.Opened.{opening_of}
use Rattle.mx_state.specs.History.{replay}
use Rattle.mx_state.specs.Table.{descriptor}
use Rattle.mx_state.specs.declared.journal.Entry as journaled
use Rattle.mx_script.specs.Sessions.{Outline}
use Rattle.mx_core.specs.declared.elements.Element.{Element}
use Rattle.mx_transcript.specs.declared.transcripts.Event2.{Event2}
use Rattle.mx_transcript.specs.declared.transcripts.Event2.TheVariants.{Core, Entry}
use Rattle.mx_ties.specs.Closed.{entry_in, followed}
use Rattle.mx_ties.specs.Counting.{total}
use Rattle.mx_reads.specs.Deeds.{CellUse, Deed, Enters, point_of}
use Rattle.mx_transcript.specs.Access.{descriptor_at}
use Rattle.mx_transcript.specs.Misses.{IsChanged}
use Rattle.mx_transcript.specs.Points.{ArePoints}
use Rattle.mx_transcript.specs.References.{deed_by}
use Rattle.mx_transcript.specs.Transcripts.{Step, part}
use Rattle.mx_ties.specs.Views.{Marked, cores}

-- processes: the initializer, those of the session, and none
pub by_cases : (count : ℕ) (G : ℕ → Type 0) → G 0 → ((p : ℕ) → 1 ≤ p → p ≤ count → G p) → ((p : ℕ) → count < p → G p)
    → (p : ℕ) → G p
by_cases count G here mid beyond zero = here
by_cases count G here mid beyond (suc p) = elim (cases_lt count (suc p)) [
  | inl above ↦ beyond (suc p) above
  | inr most ↦ mid (suc p) (omega arith) most
]

pub part_beyond : (transcripts : List (List Step)) (p : ℕ) → length transcripts ≤ p → part transcripts p ≡ []
part_beyond [] p l = refl
part_beyond (steps ∷ transcripts) zero l = absurd (omega arith)
part_beyond (steps ∷ transcripts) (suc p) l = part_beyond transcripts p (omega arith)

pub there : {A : Type 0} (xs : List A) (i : ℕ) → i < length xs → (a : A) × (slice_get xs i ≡ Some a)
there [] i l = absurd (omega arith)
there (x ∷ xs) zero l = (x, refl)
there (x ∷ xs) (suc i) l = there xs i (omega arith)

pub no_number : (l : List ℕ) → ((i n : ℕ) → slice_get l i ≡ Some n → ⊥) → l ≡ []
no_number [] none = refl
no_number (n ∷ l) none = absurd (none 0 n refl)

pub followed_more : (setup : List journaled.Entry) (history a b : List Marked) → history ≡ a ++ b
    → followed setup history ≡ followed setup a ++ map entry_in b
followed_more setup history a b e =
    ap (followed setup) e ∙ ap (λ (l : List journaled.Entry). setup ++ l) (map-append entry_in a b)
    ∙ sym (append_assoc setup (map entry_in a) (map entry_in b))

pub followed_length : (setup : List journaled.Entry) (history : List Marked)
    → length (followed setup history) ≡ length setup + length history
followed_length setup history = length-append setup (map entry_in history)
    ∙ ap (λ (n : ℕ). length setup + n) (length-map history entry_in)

pub descriptor_kept : (x : Outline) (own more : List journaled.Entry) (point p segno : ℕ) → point ≤ length own
    → descriptor_at x (own ++ more) point p segno ≡ descriptor_at x own point p segno
descriptor_kept x own more point p segno under =
    ap (λ (entries : List journaled.Entry). descriptor (replay (opening_of x) entries) p segno)
    (take-append-le point own more under)

pub changed_front : (x : Outline) (own more : List journaled.Entry) (p segno by : ℕ) → by ≤ length own
    → IsChanged x (own ++ more) p segno by → IsChanged x own p segno by
changed_front x own more p segno by under c = let next = c.next in record {
  before = c.before;
  next = c.next;
  differs = λ e. c.differs
      (descriptor_kept x own more by p segno under ∙ e
      ∙ sym (descriptor_kept x own more c.before p segno (omega arith)));
}

pub points_within : (setup entries entries' : ℕ) (done : List Deed) → entries ≤ entries'
    → ArePoints setup entries done → ArePoints setup entries' done
points_within setup entries entries' done more are place d q h e =
    let is = are place d q h e in
    let within = is.within in record {
      after_setup = is.after_setup;
      after_entries = is.after_entries;
      rising = is.rising;
      after_stamps = is.after_stamps;
      after_misses = is.after_misses;
      within = omega arith;
      before_next = is.before_next;
    }

-- entries alone have no points
pub no_points : (cell : Element → Option CellUse) (events : List Event2) → cores events ≡ []
    → (place : ℕ) (deed : Deed) (q : ℕ)
    → slice_get (map (deed_by cell) events) place ≡ Some deed → point_of deed ≡ Some q → ⊥
no_points cell [] none place deed q h e = cc
no_points cell (Core event ∷ events) none place deed q h e = cc
no_points cell (Entry number ∷ events) none zero deed q h e =
    let is : Enters number ≡ deed = cc in nothing (ap point_of is ∙ e)
  where
    nothing : None ≡ Some q → ⊥
    nothing h = cc
no_points cell (Entry number ∷ events) none (suc place) deed q h e = no_points cell events none place deed q h e

pub total_alike : (n : ℕ) (f g : ℕ → ℕ) → ((p : ℕ) → 1 ≤ p → p ≤ n → f p ≡ g p) → total n f ≡ total n g
total_alike zero f g e = refl
total_alike (suc n) f g e =
    let below = total_alike n f g (λ p some most. e p some (omega arith)) in
    let here = e (suc n) (omega arith) (omega arith) in omega arith
