-- The hierarchy before any request.
use Rattle.std.specs.Prelude.{ℕ, [], ◌∷◌, codes}
use Rattle.mx_name.specs.Identifiers.{Any, Literal, PlainAclId}
use Rattle.mx_acl.specs.declared.modes.Modes.TheVariants.{Sma}
use Rattle.mx_acl.specs.declared.modes.AclKind.TheVariants.{Directory as OfDirectory}
use Rattle.mx_pages.specs.Runs.{free_from}
use Rattle.mx_hier.specs.declared.branches.Directory.{Directory}
use Rattle.mx_hier.specs.Branches.{Hierarchy}
use Rattle.mx_hier.specs.InitialAccess.{no_initial}

-- `*.SysDaemon.*`
abbrev pub root_id : PlainAclId
root_id = record { person = Any; project = Literal (codes "SysDaemon"); tag = Any }

-- the root: brackets 7, 7, the one entry `*.SysDaemon.*` with sma, and empty initial access lists (this model's choice)
abbrev pub root : Directory
root = record {
  acl = record { kind = OfDirectory; entries = (root_id, Sma) ∷ [] };
  initial = no_initial;
  d1 = 7;
  d2 = 7;
}

-- no branches and no object maps; each page from this one on is free
abbrev pub opening : ℕ → Hierarchy
opening first_page = record { root = root; branches = []; next = 1; pages = free_from first_page; objects = [] }
