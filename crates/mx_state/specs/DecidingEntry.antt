-- The entry of an access list that decides the modes of what a segment number stands for.
use Rattle.std.specs.Prelude.{◌≡◌, ℕ, List, Option, Some, None}
use Rattle.mx_name.specs.Identifiers.{PlainAclId}
use Rattle.mx_acl.specs.declared.modes.Modes.{Modes}
use Rattle.mx_hier.specs.Branches.{Hierarchy}
use Rattle.mx_hier.specs.DecidingEntry.{deciding_entry, AreFlagsOf}
use Rattle.mx_kst.specs.declared.lots.Lot.{Lot}
use Rattle.mx_kst.specs.declared.lots.Lot.TheVariants.{Free, Branch}
use Rattle.mx_state.specs.declared.states.ProcessState.{ProcessState}
use Rattle.mx_state.specs.Numbers.{stands_for}
use Rattle.mx_state.specs.Plain.{Plain, process_at}
use Rattle.mx_state.specs.Table.{descriptor}

-- of a segment it is that of its access list for the process's principal; stacks and linkage sections have no access list
abbrev pub entry_for : Hierarchy → ProcessState → Lot → Option (PlainAclId × Modes)
entry_for h process (Branch uid) = deciding_entry h uid process.principal
entry_for h process _ = None

-- what a number stands for in a process that may not be there
abbrev pub lot_for : Option ProcessState → ℕ → Lot
lot_for None segno = Free
lot_for (Some process) segno = stands_for process.known segno

abbrev pub process_entry : Hierarchy → Option ProcessState → ℕ → Option (PlainAclId × Modes)
process_entry h None segno = None
process_entry h (Some process) segno = entry_for h process (stands_for process.known segno)

abbrev pub entry_in : Hierarchy → List ProcessState → ℕ → ℕ → Option (PlainAclId × Modes)
entry_in h processes p segno = process_entry h (process_at processes p) segno

abbrev pub entry_behind : Plain → ℕ → ℕ → Option (PlainAclId × Modes)
entry_behind s p segno = entry_in s.hierarchy s.processes p segno

-- where a number stands for a segment, the flags of its descriptor are those of the entry
abbrev pub Explains : Plain → ℕ → ℕ → Type 0
Explains s p segno =
    (uid : ℕ) → lot_for (process_at s.processes p) segno ≡ Branch uid → AreFlagsOf (entry_behind s p segno) (descriptor s p segno)
