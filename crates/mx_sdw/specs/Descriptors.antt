-- Segment descriptors, by the names under which they are made.
use Rattle.std.specs.Prelude.{ℕ, Bool, true, false, not, ◌&&◌}
use Rattle.mx_sdw.specs.Rings.{Bracketing, lowest_brackets}
use Rattle.mx_sdw.specs.declared.descriptors.Aim.{Aim}
use Rattle.mx_sdw.specs.declared.descriptors.Aim.TheVariants.{Equal, Dominates, Neither}
use Rattle.mx_sdw.specs.declared.descriptors.DescKind.{DescKind}
use Rattle.mx_sdw.specs.declared.descriptors.DescKind.TheVariants.{Unknown, Gone, Segment}

-- one process's access to one segment: the flags that its access control list gives, the brackets in which they serve,
-- how many of its first words are gates, its first page, how many words it has, and how the process's authorization
-- stands to its class
pub record Descriptor : Type 0 where
  pub kind : DescKind
  pub brackets : Bracketing
  pub r : Bool
  pub e : Bool
  pub w : Bool
  pub gate : ℕ
  pub page : ℕ
  pub bound : ℕ
  pub aim : Aim

abbrev pub is_equal : Aim → Bool
is_equal Equal = true
is_equal _ = false

abbrev pub is_neither : Aim → Bool
is_neither Neither = true
is_neither _ = false

-- zeros in all fields but the kind, and an authorization that equals the class
abbrev pub empty_desc : DescKind → Descriptor
empty_desc kind =
    record {
      kind = kind;
      brackets = lowest_brackets;
      r = false;
      e = false;
      w = false;
      gate = 0;
      page = 0;
      bound = 0;
      aim = Equal;
    }

-- the descriptor of a number that is not known
abbrev pub unknown_desc : Descriptor
unknown_desc = empty_desc Unknown

-- the descriptor of a segment that was deleted
abbrev pub gone_desc : Descriptor
gone_desc = empty_desc Gone

-- the descriptor of a segment: how the authorization stands to its class, brackets, flags r, e, w, number of gates, page
-- and number of words. Reading and executing stay on where the authorization dominates the class, writing where it equals it
abbrev pub classed_desc : Aim → Bracketing → Bool → Bool → Bool → ℕ → ℕ → ℕ → Descriptor
classed_desc aim brackets r e w gate page bound =
    record {
      kind = Segment;
      brackets = brackets;
      r = not (is_neither aim) && r;
      e = not (is_neither aim) && e;
      w = is_equal aim && w;
      gate = gate;
      page = page;
      bound = bound;
      aim = aim;
    }

-- the same of a segment whose class the authorization equals
abbrev pub segment_desc : Bracketing → Bool → Bool → Bool → ℕ → ℕ → ℕ → Descriptor
segment_desc brackets r e w gate page bound = classed_desc Equal brackets r e w gate page bound

abbrev pub is_unknown : DescKind → Bool
is_unknown Unknown = true
is_unknown _ = false

abbrev pub is_gone : DescKind → Bool
is_gone Gone = true
is_gone _ = false
