-- The descriptor that a process has of a segment number: computed from the state alone.
use Rattle.std.specs.Prelude.{ℕ, ◌+◌, ◌*◌, ◌-◌, true, false, List, Option, Some, None}
use Rattle.mx_sdw.specs.Descriptors.{unknown_desc, segment_desc}
use Rattle.mx_sdw.specs.declared.descriptors.Desc.{Desc}
use Rattle.mx_hier.specs.Branches.{Hierarchy}
use Rattle.mx_hier.specs.Connected.{desc_of}
use Rattle.mx_kst.specs.declared.lots.Lot.{Lot}
use Rattle.mx_kst.specs.declared.lots.Lot.TheVariants.{Free, Stack, Branch, Linkage}
use Rattle.mx_state.specs.declared.states.ProcessState.{ProcessState}
use Rattle.mx_state.specs.Numbers.{stands_for}
use Rattle.mx_state.specs.Plain.{Plain, process_at}

-- the stack of a ring of process p: one page, to read and write in that ring
abbrev pub stack_desc : ℕ → ℕ → Desc
stack_desc p ring = segment_desc (record { r1 = ring; r2 = ring; r3 = ring }) true false true 0 (8 * (p - 1) + ring) 64

-- of a segment it is what its access list gives the principal and its class lets stand, and gone where it was deleted;
-- a linkage section is to read and write within its brackets
abbrev pub standing_desc : Hierarchy → ℕ → ProcessState → Lot → Desc
standing_desc hierarchy p process Free = unknown_desc
standing_desc hierarchy p process (Stack ring) = stack_desc p ring
standing_desc hierarchy p process (Branch uid) = desc_of hierarchy uid process.principal process.authorization
standing_desc hierarchy p process (Linkage of page brackets words) = segment_desc brackets true false true 0 page words

-- where there is no process, every number is unknown
abbrev pub process_desc : Hierarchy → ℕ → Option ProcessState → ℕ → Desc
process_desc hierarchy p None segno = unknown_desc
process_desc hierarchy p (Some process) segno = standing_desc hierarchy p process (stands_for process.known segno)

abbrev pub descriptor_in : Hierarchy → List ProcessState → ℕ → ℕ → Desc
descriptor_in hierarchy processes p segno = process_desc hierarchy p (process_at processes p) segno

abbrev pub descriptor : Plain → ℕ → ℕ → Desc
descriptor state p segno = descriptor_in state.hierarchy state.processes p segno
