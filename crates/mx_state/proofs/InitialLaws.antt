-- An initial access list is in no descriptor.
use Rattle.std.proofs.Common.{◌≡◌, ℕ, Option, None, Some, Result, Ok, Err, true, refl, ap, ◌∙◌, subst}
use Rattle.mx_acl.specs.Access.{with_entry, without_entry}
use Rattle.mx_hier.specs.Branches.{Hierarchy, object_at, segment_at}
use Rattle.mx_hier.specs.Callers.{Caller}
use Rattle.mx_hier.specs.Connected.{desc_for}
use Rattle.mx_hier.specs.InitialLists.{initial_changed, set_iacl, set_iacl_at, set_iacl_refusals, del_iacl, del_iacl_at, del_iacl_refusals}
use Rattle.mx_hier.specs.Objects.{gate_of}
use Rattle.mx_hier.specs.Rules.{first_of, onward, unless}
use Rattle.mx_hier.specs.Walks.{entry}
use Rattle.mx_hier.specs.declared.refusals.Refusal.{Refusal}
use Rattle.mx_kst.specs.declared.lots.Lot.{Lot}
use Rattle.mx_kst.specs.declared.lots.Lot.TheVariants.{Free, Stack, Branch, Linkage}
use Rattle.mx_state.specs.declared.states.ProcessState.{ProcessState}
use Rattle.mx_state.specs.Askers.{Asker, Initializer, Process, Nobody, answered_caller, asker, caller, initial_caller}
use Rattle.mx_state.specs.Laws.{DeleteInitialLaw, SetInitialLaw}
use Rattle.mx_state.specs.Numbers.{stands_for}
use Rattle.mx_state.specs.Plain.{Answer, Plain, process_at}
use Rattle.mx_state.specs.Requests.{changed}
use Rattle.mx_state.specs.Table.{descriptor, process_desc, standing_desc}
use Rattle.mx_state.proofs.SegmentLaws.{with_directory_maps, with_directory_stands}

-- all segments stand as they did, with the same object maps
record Stands (old new : Hierarchy) : Type 0 where
  same : (uid : ℕ) → segment_at new uid ≡ segment_at old uid
  maps : (uid : ℕ) → object_at new uid ≡ object_at old uid

abbrev LeavesAll : Hierarchy → Result Hierarchy Refusal → Type 0
LeavesAll h meant = (k : Hierarchy) → meant ≡ Ok k → Stands h k

all_unless : (h k : Hierarchy) (why : Option Refusal) → Stands h k → LeavesAll h (unless why k)
all_unless h k None stands = λ l e. let same : k ≡ l = cc in subst (Stands h) same stands
all_unless h k (Some why) stands = λ l e. cc

all_onward : (h : Hierarchy) (given : Result ℕ Refusal) (rest : ℕ → Result Hierarchy Refusal)
    → ((uid : ℕ) → LeavesAll h (rest uid)) → LeavesAll h (onward given rest)
all_onward h (Ok uid) rest leaves = leaves uid
all_onward h (Err why) rest leaves = λ k e. cc

-- so every descriptor is the same
module _ (s : Plain) (h : Hierarchy) (stands : Stands s.hierarchy h) (q segno : ℕ) where
  same_standing : (process : ProcessState) (x : Lot) → standing_desc h q process x ≡ standing_desc s.hierarchy q process x
  same_standing process Free = refl
  same_standing process (Stack ring) = refl
  same_standing process (Branch uid) =
      ap (λ o. desc_for process.principal process.authorization (gate_of (object_at h uid)) o) (stands.same uid)
      ∙ ap (λ o. desc_for process.principal process.authorization (gate_of o) (segment_at s.hierarchy uid)) (stands.maps uid)
  same_standing process (Linkage of page brackets words) = refl

  same_process : (o : Option ProcessState) → process_desc h q o segno ≡ process_desc s.hierarchy q o segno
  same_process None = refl
  same_process (Some process) = same_standing process (stands_for process.known segno)

  same_descriptor : descriptor (record s { hierarchy = h }) q segno ≡ descriptor s q segno
  same_descriptor = same_process (process_at s.processes q)

module _ (s : Plain) (q segno : ℕ) where
  abbrev IsSame : Answer → Type 0
  IsSame given = descriptor given.state q segno ≡ descriptor s q segno

  changed_same : (meant : Result Hierarchy Refusal) → LeavesAll s.hierarchy meant → IsSame (changed s meant)
  changed_same (Ok h) leaves = same_descriptor s h (leaves h refl) q segno
  changed_same (Err why) leaves = refl

  answer_same : (a : Asker) (ring : ℕ) (meant : Caller → Result Hierarchy Refusal) → ((who : Caller) → LeavesAll s.hierarchy (meant who))
      → IsSame (answered_caller s a ring (λ who. changed s (meant who)))
  answer_same Initializer ring meant leaves = changed_same (meant (initial_caller ring)) (leaves (initial_caller ring))
  answer_same (Process process) ring meant leaves = changed_same (meant (caller process ring)) (leaves (caller process ring))
  answer_same Nobody ring meant leaves = refl

pub set_initial_law : SetInitialLaw
set_initial_law s p ring q segno path kind id modes =
    answer_same s q segno (asker s.processes p) ring (λ who. set_iacl s.hierarchy who path kind id modes)
    (λ who. all_onward s.hierarchy (entry s.hierarchy who path true) (λ uid. set_iacl_at s.hierarchy who.subject uid kind id modes)
    (λ uid. all_unless s.hierarchy _ (first_of (set_iacl_refusals s.hierarchy who.subject uid kind id modes)) (record {
      same = λ u. with_directory_stands s.hierarchy uid (initial_changed kind (λ initial. with_entry initial id modes)) u;
      maps = λ u. with_directory_maps s.hierarchy uid (initial_changed kind (λ initial. with_entry initial id modes)) u;
    })))

pub delete_initial_law : DeleteInitialLaw
delete_initial_law s p ring q segno path kind id =
    answer_same s q segno (asker s.processes p) ring (λ who. del_iacl s.hierarchy who path kind id)
    (λ who. all_onward s.hierarchy (entry s.hierarchy who path true) (λ uid. del_iacl_at s.hierarchy who.subject uid kind id)
    (λ uid. all_unless s.hierarchy _ (first_of (del_iacl_refusals s.hierarchy who.subject uid kind id)) (record {
      same = λ u. with_directory_stands s.hierarchy uid (initial_changed kind (λ initial. without_entry initial id)) u;
      maps = λ u. with_directory_maps s.hierarchy uid (initial_changed kind (λ initial. without_entry initial id)) u;
    })))
