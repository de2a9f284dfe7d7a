-- The initial access lists of a directory: what a segment and what a directory that is made in it gets to begin with.
-- That there is one such pair for all rings is this model's profile.
use Rattle.std.specs.Prelude.{[]}
use Rattle.mx_acl.specs.Access.{Access}
use Rattle.mx_acl.specs.declared.modes.AclKind.{AclKind}
use Rattle.mx_acl.specs.declared.modes.AclKind.TheVariants.{Segment as OfSegment, Directory as OfDirectory}

pub record InitialAccess : Type 0 where
  pub segments : Access
  pub directories : Access

-- both empty
abbrev pub no_initial : InitialAccess
no_initial = record {
  segments = record { kind = OfSegment; entries = [] };
  directories = record { kind = OfDirectory; entries = [] };
}

-- the list for what is made of a kind
abbrev pub initial_for : AclKind → InitialAccess → Access
initial_for OfSegment initial = initial.segments
initial_for OfDirectory initial = initial.directories

-- and the pair with that list changed
abbrev pub with_initial_for : AclKind → (Access → Access) → InitialAccess → InitialAccess
with_initial_for OfSegment change initial = record initial { segments = change initial.segments }
with_initial_for OfDirectory change initial = record initial { directories = change initial.directories }
