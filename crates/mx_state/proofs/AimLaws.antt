-- A class that is set tells in the descriptors of those whose aim becomes another.
use Rattle.std.proofs.Common.{◌≡◌, ◌≢◌, ℕ, eqb, Bool, true, false, cond, List, [], ◌∷◌, Option, Some, None, Result, Ok, Err, refl, sym, ap, subst, ◌∙◌}
use Rattle.std.proofs.lemmas.Bool.{eqb-true}
use Rattle.std.specs.Option.{option_map, option_and_then}
use Rattle.mx_acl.specs.Access.{modes_for}
use Rattle.mx_acl.specs.Modes.{has_r, has_e, has_w}
use Rattle.mx_aim.specs.Classes.{PlainClass, aim_of}
use Rattle.mx_sdw.specs.Descriptors.{classed_desc}
use Rattle.mx_sdw.specs.declared.descriptors.Aim.{Aim}
use Rattle.mx_sdw.specs.declared.descriptors.Aim.TheVariants.{Equal, Dominates}
use Rattle.mx_sdw.specs.declared.descriptors.Desc.{Desc}
use Rattle.mx_hier.specs.declared.branches.Branch.{Branch}
use Rattle.mx_hier.specs.declared.branches.Segment.{Segment}
use Rattle.mx_hier.specs.declared.branches.Node.{Node}
use Rattle.mx_hier.specs.declared.branches.Node.TheVariants.{Directory as IsDirectory, Segment as IsSegment, Link as IsLink}
use Rattle.mx_hier.specs.declared.refusals.Refusal.{Refusal}
use Rattle.mx_hier.specs.Branches.{Hierarchy, as_segment, branch_of, segment_at, segment_in, object_at}
use Rattle.mx_hier.specs.Callers.{Caller}
use Rattle.mx_hier.specs.Changing.{branch_with_segment, segment_changed}
use Rattle.mx_hier.specs.Changing as hier
use Rattle.mx_hier.specs.Connected.{desc_for, desc_of}
use Rattle.mx_hier.specs.Objects.{gate_of}
use Rattle.mx_hier.specs.Rules.{first_of, onward, unless}
use Rattle.mx_hier.specs.SetClass.{classed, set_class, set_class_at, set_class_refusals, with_class}
use Rattle.mx_hier.specs.Walks.{entry}
use Rattle.mx_kst.specs.declared.lots.Lot.TheVariants.{Branch as KnownBranch}
use Rattle.mx_request.specs.declared.replies.Reply.TheVariants.{Done}
use Rattle.mx_state.specs.declared.states.ProcessState.{ProcessState}
use Rattle.mx_state.specs.AimAlone.{IsOtherAim, OtherClassLaw, AimAloneLaw, AimToldLaw, aim_to}
use Rattle.mx_state.specs.Askers.{Asker, Initializer, Process, Nobody, answered_caller, asker, caller, initial_caller}
use Rattle.mx_state.specs.Numbers.{stands_for}
use Rattle.mx_state.specs.Plain.{Answer, Plain, process_at}
use Rattle.mx_state.specs.Requests.{changed}
use Rattle.mx_state.specs.Table.{descriptor, process_desc, standing_desc}

pub other_class_law : OtherClassLaw
other_class_law who authorization class gate segment other =
    record { aim = other; kind = refl; brackets = refl; gate = refl; page = refl; bound = refl }

pub aim_alone_law : AimAloneLaw
aim_alone_law who authorization class gate segment no_write before after =
    let r = has_r (modes_for segment.acl who) in
    let e = has_e (modes_for segment.acl who) in
    let w = has_w (modes_for segment.acl who) in
    ap (λ aim. classed_desc aim segment.brackets r e w gate segment.page segment.words) after
    ∙ ap (λ w. classed_desc Dominates segment.brackets r e w gate segment.page segment.words) no_write
    ∙ sym (ap (λ aim. record (classed_desc aim segment.brackets r e w gate segment.page segment.words) { aim = Dominates }) before
    ∙ ap (λ w. record (classed_desc Equal segment.brackets r e w gate segment.page segment.words) { aim = Dominates }) no_write)

-- the segment of a uid after one segment was given a class
abbrev classed_if : Bool → PlainClass → Option Segment → Option Segment
classed_if true class o = option_map (classed class) o
classed_if false class o = o

classed_node : (class : PlainClass) (node : Node) → as_segment (segment_changed (classed class) node) ≡ option_map (classed class) (as_segment node)
classed_node class (IsDirectory directory) = refl
classed_node class (IsSegment segment) = refl
classed_node class (IsLink target) = refl

classed_at : (at : ℕ) (class : PlainClass) (branches : List Branch) (uid : ℕ)
    → segment_in (hier.changed at (branch_with_segment (classed class)) branches) uid ≡ classed_if (eqb uid at) class (segment_in branches uid)
classed_at at class [] uid = by_same (eqb uid at)
  where
    by_same : (b : Bool) → None ≡ classed_if b class None
    by_same true = refl
    by_same false = refl
classed_at at class (x ∷ xs) uid = by_tests (eqb x.uid at) (eqb x.uid uid) refl refl (classed_at at class xs uid)
  where
    by_tests : (b c : Bool) → eqb x.uid at ≡ b → eqb x.uid uid ≡ c
        → segment_in (hier.changed at (branch_with_segment (classed class)) xs) uid ≡ classed_if (eqb uid at) class (segment_in xs uid)
        → option_and_then (λ (branch : Branch). as_segment branch.node) (cond (eqb (cond b (branch_with_segment (classed class) x) x).uid uid) (Some (cond b (branch_with_segment (classed class) x) x)) (branch_of (hier.changed at (branch_with_segment (classed class)) xs) uid))
        ≡ classed_if (eqb uid at) class (option_and_then (λ (branch : Branch). as_segment branch.node) (cond c (Some x) (branch_of xs uid)))
    by_tests true true a u later =
        rw (u, sym (ap (λ n. eqb n at) (eqb-true x.uid uid u)), a) (classed_node class x.node)
    by_tests true false a u later = rw u later
    by_tests false true a u later =
        rw (u, sym (ap (λ n. eqb n at) (eqb-true x.uid uid u)), a) refl
    by_tests false false a u later = rw u later

-- where a process's aim to a segment is another afterwards, so is its descriptor
module _ (s : Plain) (at : ℕ) (class : PlainClass) (p segno uid : ℕ) (process : ProcessState)
    (there : process_at s.processes p ≡ Some process) (knows : stands_for process.known segno ≡ KnownBranch uid) where
  abbrev after : Hierarchy
  after = with_class s.hierarchy at class

  desc_in : (h : Hierarchy) → process_desc h p (process_at s.processes p) segno ≡ desc_of h uid process.principal process.authorization
  desc_in h = ap (λ o. process_desc h p o segno) there ∙ ap (standing_desc h p process) knows

  abbrev aim_in : Option Segment → Option Aim
  aim_in o = option_map (λ (segment : Segment). aim_of process.authorization segment.class) o

  abbrev desc_at : Option Segment → Desc
  desc_at o = desc_for process.principal process.authorization (gate_of (object_at s.hierarchy uid)) o

  by_segment : (b : Bool) (o : Option Segment) → aim_in (classed_if b class o) ≢ aim_in o → IsOtherAim (desc_at o) (desc_at (classed_if b class o))
  by_segment true None other = absurd (other refl)
  by_segment true (Some segment) other =
      other_class_law process.principal process.authorization class (gate_of (object_at s.hierarchy uid)) segment (λ e. other (ap (λ a. Some a) e))
  by_segment false o other = absurd (other refl)

  pub told_otherwise : aim_to (record s { hierarchy = after }) process uid ≢ aim_to s process uid
      → IsOtherAim (descriptor s p segno) (descriptor (record s { hierarchy = after }) p segno)
  told_otherwise other =
      let is = classed_at at class s.hierarchy.branches uid in
      let differ = by_segment (eqb uid at) (segment_at s.hierarchy uid) (λ e. other (ap aim_in is ∙ e)) in
      subst (λ d. IsOtherAim d (descriptor (record s { hierarchy = after }) p segno)) (sym (desc_in s.hierarchy))
      (subst (IsOtherAim (desc_at (segment_at s.hierarchy uid))) (sym (desc_in after ∙ ap desc_at is)) differ)

-- whoever asks
module _ (s : Plain) (path : List ℕ) (class : PlainClass) (p segno uid : ℕ) (process : ProcessState)
    (there : process_at s.processes p ≡ Some process) (knows : stands_for process.known segno ≡ KnownBranch uid) where
  abbrev IsTold : Answer → Type 0
  IsTold given = given.reply ≡ Done → aim_to given.state process uid ≢ aim_to s process uid
      → IsOtherAim (descriptor s p segno) (descriptor given.state p segno)

  by_rules : (at : ℕ) (why : Option Refusal) → IsTold (changed s (unless why (with_class s.hierarchy at class)))
  by_rules at None = λ done other. told_otherwise s at class p segno uid process there knows other
  by_rules at (Some why) = λ done other. absurd (other refl)

  by_walk : (who : Caller) (walked : Result ℕ Refusal) → IsTold (changed s (onward walked (λ at. set_class_at s.hierarchy who.subject at class)))
  by_walk who (Ok at) = by_rules at (first_of (set_class_refusals s.hierarchy who.subject at class))
  by_walk who (Err why) = λ done other. absurd (other refl)

  pub by_asker : (a : Asker) (ring : ℕ) → IsTold (answered_caller s a ring (λ who. changed s (set_class s.hierarchy who path class)))
  by_asker Initializer ring = by_walk (initial_caller ring) (entry s.hierarchy (initial_caller ring) path true)
  by_asker (Process own) ring = by_walk (caller own ring) (entry s.hierarchy (caller own ring) path true)
  by_asker Nobody ring = λ done other. absurd (other refl)

pub aim_told_law : AimToldLaw
aim_told_law s q ring p segno uid path class process changes done there knows other are =
    let is = by_asker s path class p segno uid process there knows (asker s.processes q) ring done other in
    (is, are.all p segno (λ e. is.aim (sym (ap (λ (d : Desc). d.aim) e))))
