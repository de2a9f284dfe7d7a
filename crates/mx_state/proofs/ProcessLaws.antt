-- Another state of one process keeps a state sound, and which descriptors it changes.
use Rattle.std.proofs.Common.{◌≡◌, ◌≤◌, ◌<◌, ◌-◌, ℕ, List, [], length, Some, ◌⊎◌, inl, inr, refl, ap, sym, ◌∙◌, subst, slice_get, slice_set, length-set, arith}
use Rattle.std.proofs.lemmas.Bool.{cases_eq, cases_lt, ne_eqb}
use Rattle.mx_name.specs.Principals.{PlainPrincipal}
use Rattle.mx_hier.specs.Branches.{Hierarchy}
use Rattle.mx_hier.specs.Connected.{desc_of}
use Rattle.mx_kst.specs.KnownSegments as kst
use Rattle.mx_kst.specs.KnownSegments.{KnownSegments}
use Rattle.mx_kst.specs.Lots.{lot_of}
use Rattle.mx_kst.specs.declared.lots.Lot.{Lot}
use Rattle.mx_kst.specs.declared.lots.Lot.TheVariants.{Free, Stack, Branch, Linkage}
use Rattle.mx_mail.specs.Processes.{PlainProcess}
use Rattle.mx_request.specs.declared.replies.Reply.{Reply}
use Rattle.mx_state.specs.declared.applied.Applied.{Applied}
use Rattle.mx_state.specs.declared.states.ProcessState.{ProcessState}
use Rattle.mx_state.specs.Askers.{on_process}
use Rattle.mx_state.specs.Changes.{AreChanges}
use Rattle.mx_state.specs.Numbers.{stands_for}
use Rattle.mx_state.specs.Plain.{Plain, Answer, answer, process_at, with_process}
use Rattle.mx_state.specs.Replies.{alone}
use Rattle.mx_state.specs.Serving.{Serves}
use Rattle.mx_state.specs.Sound.{IsSound, IsSoundProcess, HoldsSound}
use Rattle.mx_state.specs.Table.{descriptor, process_desc, standing_desc}
use Rattle.mx_state.proofs.AnswerLaws.{plain_state, nothing_is_bounded}
use Rattle.mx_state.proofs.Descriptors.{AreNumbered, process_at_place, descriptor_at, nothing_changes}
use Rattle.mx_state.proofs.GivenLaws.{none_given, none_freed}
use Rattle.mx_state.proofs.Lists.{slice_get-set, slice_get-set_other, slice_get-set_same, some_in}
use Rattle.mx_state.proofs.NumberLaws.{stands_alike}
use Rattle.mx_state.proofs.PageLaws.{kept_once}

-- the state with a process in a place
abbrev pub in_place : Plain → ℕ → ProcessState → Plain
in_place s i process = record s { processes = slice_set s.processes i process }

pub replaced_is_sound : (s : Plain) (i : ℕ) (process : ProcessState) → IsSound s → IsSoundProcess s.version s.hierarchy.next process → IsSound (in_place s i process)
replaced_is_sound s i process sound own = record {
  process_count = omega (arith, length-set s.processes i process);
  mail_count = sound.mail_count ∙ sym (length-set s.processes i process);
  processes = λ k other e. by_place k other (slice_get-set s.processes i k process other e);
}
  where
    by_place : (k : ℕ) (other : ProcessState) → ((k ≡ i) × (other ≡ process)) ⊎ (slice_get s.processes k ≡ Some other)
        → IsSoundProcess s.version s.hierarchy.next other
    by_place k other (inl same) = subst (IsSoundProcess s.version s.hierarchy.next) (sym same.1) own
    by_place k other (inr e) = sound.processes k other e

-- and so do its numbers
pub replaced_numbered : (last : ℕ) (processes : List ProcessState) (i : ℕ) (process : ProcessState) → AreNumbered last processes → process.known.last ≡ last
    → AreNumbered last (slice_set processes i process)
replaced_numbered last processes i process numbered own k other e = by_place (slice_get-set processes i k process other e)
  where
    by_place : ((k ≡ i) × (other ≡ process)) ⊎ (slice_get processes k ≡ Some other) → other.known.last ≡ last
    by_place (inl same) = ap (λ (p : ProcessState). p.known.last) same.1 ∙ own
    by_place (inr e) = numbered k other e

-- one that knows the same
kept_is_sound : (version next : ℕ) (process other : ProcessState) → other.known ≡ process.known → IsSoundProcess version next process → IsSoundProcess version next other
kept_is_sound version next process other known own = record {
  known = subst kst.IsSound (sym known) own.known;
  last = ap (λ (k : KnownSegments). k.last) known ∙ own.last;
  made = λ n uid e. own.made n uid (ap (λ (k : KnownSegments). lot_of k.lots n) (sym known) ∙ e);
}

-- the same process but for what no descriptor asks
abbrev pub IsSameAsker : ProcessState → ProcessState → Type 0
IsSameAsker process other = (other.principal ≡ process.principal) × (other.authorization ≡ process.authorization)

pub same_principal : (h : Hierarchy) (p : ℕ) (process other : ProcessState) (x : Lot) → IsSameAsker process other
    → standing_desc h p process x ≡ standing_desc h p other x
same_principal h p process other Free e = refl
same_principal h p process other (Stack ring) e = refl
same_principal h p process other (Branch uid) e =
    ap (λ who. desc_of h uid who process.authorization) (sym e.0) ∙ ap (desc_of h uid other.principal) (sym e.1)
same_principal h p process other (Linkage of page brackets words) e = refl

-- the processes with one in a place
pub there_again : (processes : List ProcessState) (p i : ℕ) (process other : ProcessState) → 1 ≤ p → p - 1 ≡ i → slice_get processes i ≡ Some process
    → process_at (slice_set processes i other) p ≡ Some other
there_again processes p i process other low at e =
    process_at_place (slice_set processes i other) p low ∙ rw at (slice_get-set_same processes i other process e)

pub elsewhere : (processes : List ProcessState) (p i : ℕ) (other : ProcessState) → ((1 ≤ p) × (p - 1 ≡ i) → ⊥)
    → process_at (slice_set processes i other) p ≡ process_at processes p
elsewhere processes p i other apart = by_zero (cases_eq p 0)
  where
    by_zero : (p ≡ 0) ⊎ (p ≡ 0 → ⊥) → process_at (slice_set processes i other) p ≡ process_at processes p
    by_zero (inl none) = rw none refl
    by_zero (inr more) =
        let low : 1 ≤ p = omega arith in
        process_at_place (slice_set processes i other) p low
        ∙ slice_get-set_other processes i (p - 1) other (λ at. apart (low, at))
        ∙ sym (process_at_place processes p low)

-- the descriptors of a process that is another now, under the same principal, are those of before where its lots are
pub others_stay : (s : Plain) (p i : ℕ) (process other : ProcessState) → 1 ≤ p → p - 1 ≡ i → slice_get s.processes i ≡ Some process
    → IsSameAsker process other → other.known.last ≡ process.known.last → (q m : ℕ) → (q ≡ p → lot_of other.known.lots m ≡ lot_of process.known.lots m)
    → descriptor s q m ≡ descriptor (in_place s i other) q m
others_stay s p i process other first here e principal last q m same = by_place (cases_lt q 1) (cases_eq (q - 1) i)
  where
    away : ((1 ≤ q) × (q - 1 ≡ i) → ⊥) → descriptor s q m ≡ descriptor (in_place s i other) q m
    away apart = ap (λ o. process_desc s.hierarchy q o m) (sym (elsewhere s.processes q i other apart))

    by_place : (q < 1) ⊎ (1 ≤ q) → (q - 1 ≡ i) ⊎ (q - 1 ≡ i → ⊥) → descriptor s q m ≡ descriptor (in_place s i other) q m
    by_place (inl none) at = away (λ both. omega (arith, both.0))
    by_place (inr low) (inr apart) = away (λ both. apart both.1)
    by_place (inr low) (inl at) =
        let own : q ≡ p = omega (arith, at, here) in
        descriptor_at s q m process (process_at_place s.processes q low ∙ rw at e)
        ∙ same_principal s.hierarchy q process other (stands_for process.known m) principal
        ∙ ap (standing_desc s.hierarchy q other) (stands_alike process.known other.known m last (sym (same own)))
        ∙ sym (descriptor_at (in_place s i other) q m other (there_again s.processes q i process other low at e))

pub kept_changes : (s : Plain) (p i : ℕ) (process other : ProcessState) → 1 ≤ p → p - 1 ≡ i → slice_get s.processes i ≡ Some process
    → other.known ≡ process.known → IsSameAsker process other → AreChanges s (in_place s i other) []
kept_changes s p i process other first here e known principal =
    nothing_changes s (in_place s i other)
    (λ q m. others_stay s p i process other first here e principal (ap (λ (k : KnownSegments). k.last) known) q m
    (λ own. ap (λ (k : KnownSegments). lot_of k.lots m) known))

-- the same as the program's steps
pub kept_holds : (version : ℕ) (f : ProcessState → ProcessState) (h : Hierarchy) (mail : List PlainProcess) (processes after : List ProcessState) (i : ℕ) (principal : PlainPrincipal)
    (root : List (List ℕ)) → ((process : ProcessState) → (f process).known ≡ process.known) → i < length processes
    → ((process : ProcessState) → slice_get processes i ≡ Some process → after ≡ slice_set processes i (f process))
    → HoldsSound principal root (plain_state version h mail processes) → HoldsSound principal root (plain_state version h mail after)
kept_holds version f h mail processes after i principal root known within set holds =
    let w = some_in processes i within in
    record {
      initializer_is = holds.initializer_is;
      root_is = holds.root_is;
      sound = rw (set w.0 w.1) (replaced_is_sound (plain_state version h mail processes) i (f w.0) holds.sound
          (kept_is_sound version h.next w.0 (f w.0) (known w.0) (holds.sound.processes i w.0 w.1)));
      held_once = rw (set w.0 w.1) (kept_once version h mail processes i w.0 (f w.0) w.1 (known w.0) holds.held_once);
    }

-- the answer to a request on a process's own state is that to the process
pub to_process : (s : Plain) (p i : ℕ) (process : ProcessState) (given : ProcessState → Answer) → 1 ≤ p → p - 1 ≡ i
    → slice_get s.processes i ≡ Some process → on_process s p given ≡ given process
to_process s p i process given low at e =
    rw (ne_eqb p 0 (λ z. omega (arith, z, low)), at, e) refl

pub kept_serves : (version : ℕ) (f : ProcessState → ProcessState) (h : Hierarchy) (mail : List PlainProcess) (processes after : List ProcessState) (p i : ℕ)
    (given : ProcessState → Answer) (reply : Reply) (applied : Applied)
    → ((process : ProcessState) → (f process).known ≡ process.known) → ((process : ProcessState) → IsSameAsker process (f process))
    → 1 ≤ p → p - 1 ≡ i → i < length processes
    → ((process : ProcessState) → slice_get processes i ≡ Some process → after ≡ slice_set processes i (f process))
    → ((process : ProcessState) → slice_get processes i ≡ Some process
    → given process ≡ answer reply (with_process (plain_state version h mail processes) p (f process)))
    → applied ≡ alone reply
    → Serves (plain_state version h mail processes) (plain_state version h mail after) (on_process (plain_state version h mail processes) p given) applied
kept_serves version f h mail processes after p i given reply applied known principal low at within set meant e =
    let w = some_in processes i within in
    rw (e, set w.0 w.1) (record {
      as_meant = to_process (plain_state version h mail processes) p i w.0 given low at w.1 ∙ meant w.0 w.1
          ∙ ap (λ k. answer reply (plain_state version h mail (slice_set processes k (f w.0)))) at;
      changes = kept_changes (plain_state version h mail processes) p i w.0 (f w.0) low at w.1 (known w.0) (principal w.0);
      given = none_given (plain_state version h mail processes) (plain_state version h mail (slice_set processes i (f w.0))) refl;
      freed = none_freed (plain_state version h mail processes) (plain_state version h mail (slice_set processes i (f w.0))) refl;
      bounded = nothing_is_bounded _;
      version = refl;
      count = length-set processes i (f w.0);
    })
