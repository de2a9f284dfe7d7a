-- The state before any entry is sound.
use Rattle.std.proofs.Common.{◌≡◌, ◌≤◌, ℕ, nat_le, Bool, true, false, cond, zero, suc, List, [], ◌∷◌, length, map, Some, refl, sym, ◌∙◌, subst, slice_get, arith}
use Rattle.std.proofs.lemmas.List.{length-map, length-replicate}
use Rattle.std.specs.List.{range_with_len}
use Rattle.mx_hier.specs.Branches.{Hierarchy}
use Rattle.mx_kst.proofs.SoundLaws.{no_segment, sound_first}
use Rattle.mx_kst.specs.Lots.{stacks}
use Rattle.mx_kst.specs.Names.{no_names}
use Rattle.mx_mail.specs.Processes.{PlainProcess, all_running}
use Rattle.mx_request.specs.declared.entrants.Entrant.{Entrant}
use Rattle.mx_request.specs.Versions.{last_number}
use Rattle.mx_state.specs.declared.states.ProcessState.{ProcessState}
use Rattle.mx_state.specs.History.{fresh}
use Rattle.mx_state.specs.Sound.{IsSound, IsSoundProcess}

within : (version : ℕ) → (7 ≤ last_number version) × (last_number version ≤ 255)
within version = by_version (nat_le 3 version)
  where
    by_version : (b : Bool) → (7 ≤ cond b 255 127) × (cond b 255 127 ≤ 255)
    by_version true = (omega arith, omega arith)
    by_version false = (omega arith, omega arith)

fresh_is_sound : (version next : ℕ) (entrants : List Entrant) (i : ℕ) (process : ProcessState)
    → slice_get (map (fresh version) entrants) i ≡ Some process → IsSoundProcess version next process
fresh_is_sound version next [] i process e = cc
fresh_is_sound version next (who ∷ others) zero process e =
    let same : fresh version who ≡ process = cc in
    subst (IsSoundProcess version next) same (record {
      known = sound_first (last_number version) stacks no_names (within version).0 (within version).1 refl refl;
      last = refl;
      made = λ n uid h. absurd (no_segment (range_with_len 0 8) n uid h);
    })
fresh_is_sound version next (who ∷ others) (suc i) process e = fresh_is_sound version next others i process e

pub opened_is_sound : (version : ℕ) (h : Hierarchy) (entrants : List Entrant) (processes : List ProcessState) (mail : List PlainProcess)
    → length entrants ≤ 15 → processes ≡ map (fresh version) entrants → mail ≡ all_running (length entrants)
    → IsSound (record { version = version; hierarchy = h; processes = processes; mail = mail })
opened_is_sound version h entrants processes mail few e m =
    rw (e, m) (record {
      process_count = omega (arith, length-map entrants (fresh version));
      mail_count = length-replicate (length entrants) _ ∙ sym (length-map entrants (fresh version));
      processes = λ i process f. fresh_is_sound version h.next entrants i process f;
    })
