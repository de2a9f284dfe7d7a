-- The descriptors that a table may hold. Each part is a comparison of numbers or an equation of descriptors, so that a
-- program can test it.
use Rattle.std.specs.Prelude.{◌≡◌, ◌+◌, ◌*◌, ◌≤◌, Bool, true, not, ◌&&◌, ◌||◌}
use Rattle.mx_sdw.specs.Descriptors.{Descriptor, unknown_desc, gone_desc, is_equal, is_neither}
use Rattle.mx_sdw.specs.Rings.{IsOrdered}
use Rattle.mx_sdw.specs.declared.descriptors.DescKind.TheVariants.{Unknown, Gone, Segment}

-- flags that the class lets stand: w only where the authorization equals it, r and e only where it dominates it
abbrev pub keeps_class : Descriptor → Bool
keeps_class d = (is_equal d.aim || not d.w) && (not (is_neither d.aim) || (not d.r && not d.e))

-- brackets in order, of rings 0 to 7; at most 1,024 gates; one of 1,024 pages; 1 to 1,024 words; flags as the class has them
pub record IsInRange (d : Descriptor) : Type 0 where
  pub order : IsOrdered d.brackets.r1 d.brackets.r2 d.brackets.r3
  pub ring : d.brackets.r3 ≤ 7
  pub gate : d.gate ≤ 1024
  pub page : d.page ≤ 1023
  pub some : 1 ≤ d.bound
  pub most : d.bound ≤ 1024
  pub class : keeps_class d ≡ true

-- a segment in range whose words all lie in the memory of 65,536 cells
pub record IsSegment (d : Descriptor) : Type 0 where
  pub range : IsInRange d
  pub cells : 64 * d.page + d.bound ≤ 65536

-- unknown or gone, with zeros in all other fields, or such a segment
pub record IsAdmissible (d : Descriptor) : Type 0 where
  pub unknown : d.kind ≡ Unknown → d ≡ unknown_desc
  pub gone : d.kind ≡ Gone → d ≡ gone_desc
  pub segment : d.kind ≡ Segment → IsSegment d
