-- Who asks, and what access is left to him in his ring (Multics Programmers' Manual; Schroeder and Saltzer).
use Rattle.std.specs.Prelude.{ℕ, nat_le, Bool, false, not, ◌&&◌, ◌||◌, List, Option, Some, None}
use Rattle.mx_name.specs.Principals.{PlainPrincipal}
use Rattle.mx_acl.specs.declared.modes.Modes.{Modes}
use Rattle.mx_acl.specs.Access.{modes_for}
use Rattle.mx_acl.specs.Modes.{has_r, has_e, has_w, has_s, has_m, has_a}
use Rattle.mx_aim.specs.Classes.{PlainClass, aim_of}
use Rattle.mx_sdw.specs.Descriptors.{is_equal, is_neither}
use Rattle.mx_sdw.specs.declared.descriptors.Aim.{Aim}
use Rattle.mx_hier.specs.declared.branches.Directory.{Directory}
use Rattle.mx_hier.specs.declared.branches.Segment.{Segment}

-- for whom access is asked: a principal with an authorization, in a ring
pub record Subject : Type 0 where
  pub principal : PlainPrincipal
  pub authorization : PlainClass
  pub ring : ℕ

-- who makes a request, and the working directory from which its pathnames are resolved
pub record Caller : Type 0 where
  pub subject : Subject
  pub base : List (List ℕ)

-- s on a directory, to ask for its entries: where the modes have it and the ring is at most D2
abbrev pub has_status : Subject → Directory → Bool
has_status who directory = has_s (modes_for directory.acl who.principal) && nat_le who.ring directory.d2

-- m, to change its entries, and a, to add entries: where the modes have it and the ring is at most D1
abbrev pub has_modify : Subject → Directory → Bool
has_modify who directory = has_m (modes_for directory.acl who.principal) && nat_le who.ring directory.d1

abbrev pub has_append : Subject → Directory → Bool
has_append who directory = has_a (modes_for directory.acl who.principal) && nat_le who.ring directory.d1

-- any of the three
abbrev pub has_any : Subject → Directory → Bool
has_any who directory = has_status who directory || has_modify who directory || has_append who directory

-- any access to a segment: r is left up to R2, w up to R1, and e from R1 to R3; r and e where the aim is not neither,
-- and w where it is equal
abbrev pub keeps_any : Modes → Aim → Segment → ℕ → Bool
keeps_any modes aim segment ring =
    not (is_neither aim) && has_r modes && nat_le ring segment.brackets.r2
    || is_equal aim && has_w modes && nat_le ring segment.brackets.r1
    || not (is_neither aim) && has_e modes && nat_le segment.brackets.r1 ring && nat_le ring segment.brackets.r3

abbrev pub has_access : Subject → Segment → Bool
has_access who segment =
    keeps_any (modes_for segment.acl who.principal) (aim_of who.authorization segment.class) segment who.ring

-- one of these on what may be no directory, or no segment
abbrev pub on : {A : Type 0} → (A → Bool) → Option A → Bool
on test (Some item) = test item
on test None = false
