-- The entry that decides explains the flags of a number's descriptor.
use Rattle.std.proofs.Common.{◌≡◌, ℕ, Option, None, Some, subst, sym}
use Rattle.mx_hier.specs.Branches.{Hierarchy}
use Rattle.mx_hier.specs.DecidingEntry.{AreFlagsOf}
use Rattle.mx_hier.proofs.EntryLaws.{flags_of_entry}
use Rattle.mx_kst.specs.declared.lots.Lot.{Lot}
use Rattle.mx_kst.specs.declared.lots.Lot.TheVariants.{Branch}
use Rattle.mx_state.specs.declared.states.ProcessState.{ProcessState}
use Rattle.mx_state.specs.DecidingEntry.{Explains, entry_for, process_entry, lot_for}
use Rattle.mx_state.specs.Plain.{Plain, process_at}
use Rattle.mx_state.specs.Table.{process_desc, standing_desc}

flags_at : (h : Hierarchy) (p segno uid : ℕ) (o : Option ProcessState) → lot_for o segno ≡ Branch uid
    → AreFlagsOf (process_entry h o segno) (process_desc h p o segno)
flags_at h p segno uid None e = absurd (cc)
flags_at h p segno uid (Some process) e =
    subst (λ (lot : Lot). AreFlagsOf (entry_for h process lot) (standing_desc h p process lot)) (sym e) (flags_of_entry h uid process.principal process.authorization)

pub explained : (s : Plain) (p segno : ℕ) → Explains s p segno
explained s p segno uid e = flags_at s.hierarchy p segno uid (process_at s.processes p) e
