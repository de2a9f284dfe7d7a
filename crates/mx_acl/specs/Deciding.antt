-- The same access in words of the set alone.
use Rattle.std.specs.Prelude.{◌≡◌, ◌≤◌, true, Some}
use Rattle.mx_name.specs.Identifiers.{PlainAclId, id_matches, id_rank}
use Rattle.mx_name.specs.Principals.{PlainPrincipal}
use Rattle.mx_acl.specs.declared.modes.Modes.{Modes}
use Rattle.mx_acl.specs.Access.{Access, entry_of}

-- a pair of the set that matches the principal
pub record IsMatch (acl : Access) (who : PlainPrincipal) (id : PlainAclId) (modes : Modes) : Type 0 where
  pub at : entry_of acl id ≡ Some modes
  pub matching : id_matches id who ≡ true

-- the pair that decides: no pair that matches has a lesser rank
pub record IsDeciding (acl : Access) (who : PlainPrincipal) (id : PlainAclId) (modes : Modes) : Type 0 where
  pub match : IsMatch acl who id modes
  pub least : (other : PlainAclId) (others : Modes) → IsMatch acl who other others → id_rank id ≤ id_rank other
