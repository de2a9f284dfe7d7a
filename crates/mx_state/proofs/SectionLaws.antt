-- The descriptors of linkage sections are admissible.
use Rattle.std.proofs.Common.{◌≤◌, ℕ, true, false, refl, arith}
use Rattle.mx_kst.specs.Sections.{IsWithinPage}
use Rattle.mx_sdw.specs.Admissible.{IsAdmissible}
use Rattle.mx_sdw.specs.Descriptors.{segment_desc}
use Rattle.mx_sdw.specs.Rings.{Bracketing}

pub section_admissible : (brackets : Bracketing) (page words : ℕ) → brackets.r1 ≤ brackets.r2 → brackets.r2 ≤ brackets.r3 → brackets.r3 ≤ 7
    → IsWithinPage page words → IsAdmissible (segment_desc brackets true false true 0 page words)
section_admissible brackets page words first second ring within = record {
  unknown = λ kind. cc;
  gone = λ kind. cc;
  segment = λ kind. record {
    range = record {
      order = record { write_first = first; gate_last = second };
      ring = ring;
      gate = omega arith;
      page = within.last_page;
      some = within.some;
      most = omega (arith, within.most);
      class = refl;
    };
    cells = omega (arith, within.most, within.last_page);
  };
}
