-- Helpers: the test whether two descriptors are the same, field by field.
use Rattle.std.specs.Prelude.{◌==◌, Bool, true, false, not, ◌&&◌}
use Rattle.mx_sdw.specs.Descriptors.{Descriptor}
use Rattle.mx_sdw.specs.Rings.{Bracketing}
use Rattle.mx_sdw.specs.declared.descriptors.Aim.{Aim}
use Rattle.mx_sdw.specs.declared.descriptors.Aim.TheVariants.{Equal, Dominates, Neither}
use Rattle.mx_sdw.specs.declared.descriptors.DescKind.{DescKind}
use Rattle.mx_sdw.specs.declared.descriptors.DescKind.TheVariants.{Unknown, Gone, Segment}

abbrev pub same_kind : DescKind → DescKind → Bool
same_kind Unknown Unknown = true
same_kind Gone Gone = true
same_kind Segment Segment = true
same_kind _ _ = false

abbrev pub same_aim : Aim → Aim → Bool
same_aim Equal Equal = true
same_aim Dominates Dominates = true
same_aim Neither Neither = true
same_aim _ _ = false

abbrev pub same_flag : Bool → Bool → Bool
same_flag true flag = flag
same_flag false flag = not flag

abbrev pub same_brackets : Bracketing → Bracketing → Bool
same_brackets a b = (a.r1 == b.r1) && ((a.r2 == b.r2) && (a.r3 == b.r3))

abbrev pub same_flags : Descriptor → Descriptor → Bool → Bool
same_flags a b rest = same_flag a.r b.r && (same_flag a.e b.e && (same_flag a.w b.w && rest))

abbrev pub same_desc : Descriptor → Descriptor → Bool
same_desc a b =
    same_kind a.kind b.kind
    && (same_brackets a.brackets b.brackets
    && same_flags a b ((a.gate == b.gate) && ((a.page == b.page) && ((a.bound == b.bound) && same_aim a.aim b.aim))))
