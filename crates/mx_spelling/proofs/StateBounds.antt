-- What can be spelled of each state of the supervisor: names, brackets, classes, lengths and messages. A session begins so.
use Rattle.std.proofs.Common.{◌≡◌, ℕ, ◌+◌, ◌<◌, ◌≤◌, nat_le, Bool, true, false, if◌then◌else◌, List, [], ◌∷◌, length, map, refl, subst, sym, arith}
use Rattle.std.specs.List.{All, list_all, range_with_len}
use Rattle.std.proofs.lemmas.List.{length-map}
use Rattle.std.proofs.lemmas.List.Elements.{All-nil, All-cons, All-head, All-tail, All-map, All-replicate}
use Rattle.std.proofs.lemmas.List.FromFn.{get_or-range_with_len}
use Rattle.mx_hier.specs.Branches.{Hierarchy}
use Rattle.mx_hier.specs.declared.branches.Branch.{Branch}
use Rattle.mx_hier.specs.declared.branches.Directory.{Directory}
use Rattle.mx_hier.specs.declared.branches.Node.{Node}
use Rattle.mx_hier.specs.declared.branches.Node.TheVariants.{Directory as IsDirectory, Segment as IsSegment, Link as IsLink}
use Rattle.mx_hier.specs.declared.branches.Segment.{Segment}
use Rattle.mx_kst.specs.KnownSegments.{KnownSegments, at_first}
use Rattle.mx_kst.specs.Lots.{stacks}
use Rattle.mx_kst.specs.declared.lots.Lot.{Lot}
use Rattle.mx_kst.specs.declared.lots.Lot.TheVariants as lot
use Rattle.mx_mail.specs.Processes.{PlainProcess, process_in}
use Rattle.mx_mail.specs.declared.processes.ExecutionState.TheVariants.{Running}
use Rattle.mx_object.specs.Objects.{PlainObjectMap}
use Rattle.mx_request.specs.Fields.{is_name}
use Rattle.mx_request.specs.ObjectTexts.{fits_object}
use Rattle.mx_request.specs.RequestTexts.{is_class, is_word}
use Rattle.mx_request.specs.Versions.{last_number}
use Rattle.mx_request.specs.declared.entrants.Entrant.{Entrant}
use Rattle.mx_sdw.specs.Rings.{Bracketing}
use Rattle.mx_state.specs.History.{fresh, opening}
use Rattle.mx_state.specs.Plain.{Plain}
use Rattle.mx_state.specs.declared.states.ProcessState.{ProcessState}

-- the hierarchy: names of entries and links, brackets, lengths and classes of segments, and object maps
pub record AreSpelledBrackets (b : Bracketing) : Type 0 where
  pub write_first : b.r1 ≤ b.r2
  pub gate_last : b.r2 ≤ b.r3
  pub ring : b.r3 ≤ 7

pub record IsSpelledSegment (segment : Segment) : Type 0 where
  pub words : segment.words ≤ 1024
  pub class : is_class segment.class ≡ true
  pub brackets : AreSpelledBrackets segment.brackets

pub record IsSpelledDirectory (directory : Directory) : Type 0 where
  pub d1 : directory.d1 ≤ 7
  pub d2 : directory.d2 ≤ 7

abbrev pub IsSpelledNode : Node → Type 0
IsSpelledNode (IsDirectory directory) = IsSpelledDirectory directory
IsSpelledNode (IsSegment segment) = IsSpelledSegment segment
IsSpelledNode (IsLink target) = list_all is_name target ≡ true

pub record IsSpelledBranch (branch : Branch) : Type 0 where
  pub name : is_name branch.name ≡ true
  pub node : IsSpelledNode branch.node

abbrev pub IsSpelledObject : ℕ × PlainObjectMap → Type 0
IsSpelledObject object = fits_object object.1 ≡ true

pub record IsSpelledHierarchy (h : Hierarchy) : Type 0 where
  pub root : IsSpelledDirectory h.root
  pub branches : All IsSpelledBranch h.branches
  pub objects : All IsSpelledObject h.objects

-- what a process has of its own: its class, its working directory, and what it knows
abbrev pub IsSpelledLot : Lot → Type 0
IsSpelledLot lot.Free = Unit {0}
IsSpelledLot (lot.Stack ring) = ring ≤ 7
IsSpelledLot (lot.Branch uid) = Unit {0}
IsSpelledLot (lot.Linkage of page brackets words) = (brackets.r1 ≤ 7) × (words ≤ 64)

pub record IsSpelledKnown (known : KnownSegments) : Type 0 where
  pub last : known.last ≤ 255
  pub given : length known.lots ≤ known.last + 1
  pub lots : All IsSpelledLot known.lots

pub record IsSpelledProcess (process : ProcessState) : Type 0 where
  pub authorization : is_class process.authorization ≡ true
  pub directory : list_all is_name process.working_directory ≡ true
  pub known : IsSpelledKnown process.known

-- the messages that wait
pub record IsSpelledMessage (message : ℕ × ℕ) : Type 0 where
  pub sender : message.0 ≤ 15
  pub word : is_word message.1 ≡ true

abbrev pub IsSpelledMail : PlainProcess → Type 0
IsSpelledMail process = All IsSpelledMessage process.messages

pub record IsSpelled (s : Plain) : Type 0 where
  pub count : length s.processes ≤ 15
  pub hierarchy : IsSpelledHierarchy s.hierarchy
  pub processes : All IsSpelledProcess s.processes
  pub mail : All IsSpelledMail s.mail

-- the opening
stacks_spelled : All IsSpelledLot stacks
stacks_spelled = All-map IsSpelledLot lot.Stack (range_with_len 0 8) rings
  where
    rings : All (λ (ring : ℕ). ring ≤ 7) (range_with_len 0 8)
    rings k d below =
        let below' : k < 8 = below in
        subst (λ (ring : ℕ). ring ≤ 7) (sym (get_or-range_with_len 0 8 k d below')) (omega arith)

known_spelled : (version : ℕ) → IsSpelledKnown (at_first (last_number version))
known_spelled version = record {
  last = (bounds version).1;
  given = let h = (bounds version).0 in
      let eight : length stacks ≡ 8 = refl in
      omega (arith, h, eight);
  lots = stacks_spelled;
}
  where
    bounds : (version : ℕ) → (127 ≤ last_number version) × (last_number version ≤ 255)
    bounds version = by_version (nat_le 3 version)
      where
        by_version : (later : Bool) → (127 ≤ (if later then 255 else 127)) × ((if later then 255 else 127) ≤ 255)
        by_version true = (omega arith, omega arith)
        by_version false = (omega arith, omega arith)

abbrev pub IsSpelledEntrant : Entrant → Type 0
IsSpelledEntrant entrant = is_class entrant.authorization ≡ true

fresh_spelled : (version : ℕ) (entrant : Entrant) → IsSpelledEntrant entrant → IsSpelledProcess (fresh version entrant)
fresh_spelled version entrant is = record { authorization = is; directory = refl; known = known_spelled version }

all_fresh : (version : ℕ) (entrants : List Entrant) → All IsSpelledEntrant entrants → All IsSpelledProcess (map (fresh version) entrants)
all_fresh version [] all = All-nil IsSpelledProcess
all_fresh version (entrant ∷ entrants) all =
    All-cons IsSpelledProcess (fresh version entrant) (map (fresh version) entrants)
    (fresh_spelled version entrant (All-head IsSpelledEntrant entrant entrants all))
    (all_fresh version entrants (All-tail IsSpelledEntrant entrant entrants all))

pub opening_spelled : (version : ℕ) (entrants : List Entrant) → length entrants ≤ 15 → All IsSpelledEntrant entrants
    → IsSpelled (opening version entrants)
opening_spelled version entrants few all = record {
  count = let same = length-map entrants (fresh version) in omega (arith, few, same);
  hierarchy = record {
    root = record { d1 = omega arith; d2 = omega arith };
    branches = All-nil IsSpelledBranch;
    objects = All-nil IsSpelledObject;
  };
  processes = all_fresh version entrants all;
  mail = All-replicate IsSpelledMail (length entrants) (process_in Running []) (All-nil IsSpelledMessage);
}
