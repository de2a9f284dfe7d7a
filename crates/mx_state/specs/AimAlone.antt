-- The class of a segment alone tells in descriptors: `set_class` changes that of each process whose aim becomes another.
use Rattle.std.specs.Prelude.{◌≡◌, ◌≢◌, ℕ, false, List, Option, Some, Contains}
use Rattle.std.specs.Option.{option_map}
use Rattle.mx_name.specs.Principals.{PlainPrincipal}
use Rattle.mx_acl.specs.Access.{modes_for}
use Rattle.mx_acl.specs.Modes.{has_w}
use Rattle.mx_aim.specs.Classes.{PlainClass, aim_of}
use Rattle.mx_core.specs.declared.changes.Change.{Change}
use Rattle.mx_sdw.specs.declared.descriptors.Aim.{Aim}
use Rattle.mx_sdw.specs.declared.descriptors.Aim.TheVariants.{Equal, Dominates}
use Rattle.mx_sdw.specs.declared.descriptors.Desc.{Desc}
use Rattle.mx_hier.specs.declared.branches.Segment.{Segment}
use Rattle.mx_hier.specs.Branches.{segment_at}
use Rattle.mx_hier.specs.Connected.{desc_for}
use Rattle.mx_hier.specs.SetClass.{classed}
use Rattle.mx_kst.specs.declared.lots.Lot.TheVariants.{Branch}
use Rattle.mx_request.specs.declared.replies.Reply.TheVariants.{Done}
use Rattle.mx_request.specs.declared.requests.Request.TheVariants.{SetClass}
use Rattle.mx_state.specs.Changes.{change, AreChanges}
use Rattle.mx_state.specs.Numbers.{stands_for}
use Rattle.mx_state.specs.Plain.{Plain, process_at}
use Rattle.mx_state.specs.Requests.{plain}
use Rattle.mx_state.specs.Table.{descriptor}
use Rattle.mx_state.specs.declared.states.ProcessState.{ProcessState}

-- two descriptors of one segment: the aim is another, and what the class does not decide is the same
pub record IsOtherAim (before after : Desc) : Type 0 where
  pub aim : after.aim ≢ before.aim
  pub kind : after.kind ≡ before.kind
  pub brackets : after.brackets ≡ before.brackets
  pub gate : after.gate ≡ before.gate
  pub page : after.page ≡ before.page
  pub bound : after.bound ≡ before.bound

-- a segment in a class to which the aim is another has another descriptor, whatever the modes, the brackets, the gates,
-- the page and the length
abbrev pub OtherClassLaw : Type 0
OtherClassLaw = (who : PlainPrincipal) (authorization class : PlainClass) (gate : ℕ) (segment : Segment)
    → aim_of authorization class ≢ aim_of authorization segment.class
    → IsOtherAim (desc_for who authorization gate (Some segment)) (desc_for who authorization gate (Some (classed class segment)))

-- without w, in a class that the authorization dominates and does not equal any more, the aim alone is another
abbrev pub AimAloneLaw : Type 0
AimAloneLaw = (who : PlainPrincipal) (authorization class : PlainClass) (gate : ℕ) (segment : Segment)
    → has_w (modes_for segment.acl who) ≡ false
    → aim_of authorization segment.class ≡ Equal → aim_of authorization class ≡ Dominates
    → desc_for who authorization gate (Some (classed class segment))
    ≡ record (desc_for who authorization gate (Some segment)) { aim = Dominates }

-- the aim of a process to the segment of a uid, if there is one
abbrev pub aim_to : Plain → ProcessState → ℕ → Option Aim
aim_to s process uid = option_map (λ segment. aim_of process.authorization segment.class) (segment_at s.hierarchy uid)

-- Where `set_class` is answered `ok`, and the aim of process p to a segment is another after it, each number by which p
-- knows that segment has a descriptor with another aim, and any changes that are exactly those made tell it.
abbrev pub AimToldLaw : Type 0
AimToldLaw = (s : Plain) (q ring p segno uid : ℕ) (path : List ℕ) (class : PlainClass) (process : ProcessState)
    (changes : List Change)
    → (plain s q ring (SetClass path class)).reply ≡ Done
    → process_at s.processes p ≡ Some process → stands_for process.known segno ≡ Branch uid
    → aim_to (plain s q ring (SetClass path class)).state process uid ≢ aim_to s process uid
    → AreChanges s (plain s q ring (SetClass path class)).state changes
    → IsOtherAim (descriptor s p segno) (descriptor (plain s q ring (SetClass path class)).state p segno)
    × Contains changes (change p segno (descriptor (plain s q ring (SetClass path class)).state p segno))
