-- What is true of every state that the program reaches. Only the model of `State` cites this.
use Rattle.std.specs.Prelude.{◌≡◌, ℕ, ◌<◌, ◌≤◌, List, [], length, slice_get, Some}
use Rattle.mx_name.specs.Principals.{PlainPrincipal}
use Rattle.mx_kst.specs.declared.lots.Lot.TheVariants.{Branch}
use Rattle.mx_kst.specs.KnownSegments as kst
use Rattle.mx_kst.specs.Lots.{lot_of}
use Rattle.mx_request.specs.Versions.{last_number}
use Rattle.mx_state.specs.declared.states.ProcessState.{ProcessState}
use Rattle.mx_state.specs.Askers.{initializer}
use Rattle.mx_state.specs.Pages.{ArePagesHeldOnce}
use Rattle.mx_state.specs.Plain.{Plain}

-- a process's table is sound, with the numbers of the version, and it knows only what was made
pub record IsSoundProcess (version next : ℕ) (process : ProcessState) : Type 0 where
  pub known : kst.IsSound process.known
  pub last : process.known.last ≡ last_number version
  pub made : (n uid : ℕ) → lot_of process.known.lots n ≡ Branch uid → uid < next

pub record IsSound (s : Plain) : Type 0 where
  pub process_count : length s.processes ≤ 15
  pub mail_count : length s.mail ≡ length s.processes
  pub processes : (i : ℕ) (process : ProcessState) → slice_get s.processes i ≡ Some process
      → IsSoundProcess s.version s.hierarchy.next process

-- a program's state: its initializer, the path of the root, and what contracts see of it; its pages are held once
pub record HoldsSound (principal : PlainPrincipal) (root : List (List ℕ)) (s : Plain) : Type 0 where
  pub initializer_is : principal ≡ initializer
  pub root_is : root ≡ []
  pub sound : IsSound s
  pub held_once : ArePagesHeldOnce s
