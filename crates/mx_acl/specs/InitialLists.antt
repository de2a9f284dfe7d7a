-- Initial access lists: what a directory gives to the segments, or to the directories, that are made in it. One pair of
-- lists for a directory, and not one for each ring, is this model's choice.
use Rattle.std.specs.Prelude.{ℕ, ◌≤◌, T, List, Option, length}
use Rattle.std.specs.FinMap.Entries.{is_sorted}
use Rattle.mx_name.specs.Identifiers.{PlainAclId}
use Rattle.mx_name.specs.IdentifierOrder.{id_cmp}
use Rattle.mx_acl.specs.declared.modes.Modes.{Modes}
use Rattle.mx_acl.specs.declared.lists.AclError.{AclError}
use Rattle.mx_acl.specs.Access.{Access, with_entry, fault_within}

-- one pair less than an access list has room for: the maker's comes beside them
abbrev pub most_initial_entries : ℕ
most_initial_entries = 63

pub record IsInitialAccess (entries : List (PlainAclId × Modes)) : Type 0 where
  pub in_order : T (is_sorted id_cmp entries)
  pub within : length entries ≤ most_initial_entries

abbrev pub initial_fault : Access → PlainAclId → Modes → Option AclError
initial_fault acl id modes = fault_within most_initial_entries acl id modes

-- the access list of what is made: the initial list's pairs, and its maker's in place of one with the same identifier
abbrev pub acl_for : Access → PlainAclId → Modes → Access
acl_for initial maker modes = with_entry initial maker modes
