-- The descriptors of segments are admissible.
use Rattle.std.proofs.Common.{◌≡◌, ◌≤◌, ◌+◌, ◌*◌, ℕ, Bool, true, not, ◌&&◌, ◌||◌, refl, arith}
use Rattle.mx_pages.specs.Runs.{pages_for}
use Rattle.mx_sdw.specs.Admissible.{IsAdmissible}
use Rattle.mx_sdw.specs.Descriptors.{classed_desc, gone_desc, is_equal, is_neither}
use Rattle.mx_sdw.specs.declared.descriptors.Aim.{Aim}
use Rattle.mx_sdw.specs.declared.descriptors.Aim.TheVariants.{Equal, Dominates, Neither}
use Rattle.mx_hier.specs.declared.branches.Segment.{Segment}
use Rattle.mx_hier.specs.Sound.{IsStored}

on_pages : (words page : ℕ) → page + pages_for words ≤ 1024 → 64 * page + words ≤ 65536
on_pages words page pages =
    let whole : words ≤ 64 * pages_for words = grind arith in
    omega (arith, whole, pages)

some_page : (words page : ℕ) → 1 ≤ words → page + pages_for words ≤ 1024 → page ≤ 1023
some_page words page some pages =
    let one : 1 ≤ pages_for words = grind arith in
    omega (arith, one, pages)

-- what an aim closes is off
class_kept : (aim : Aim) (r e w : Bool)
    → ((is_equal aim || not (is_equal aim && w)) && (not (is_neither aim) || (not (not (is_neither aim) && r) && not (not (is_neither aim) && e)))) ≡ true
class_kept Equal r e w = refl
class_kept Dominates r e w = refl
class_kept Neither r e w = refl

pub segment_admissible : (aim : Aim) (segment : Segment) (r e w : Bool) (gate : ℕ) → gate ≤ 1024 → segment.brackets.r1 ≤ segment.brackets.r2 → segment.brackets.r2 ≤ segment.brackets.r3
    → segment.brackets.r3 ≤ 7 → IsStored segment → IsAdmissible (classed_desc aim segment.brackets r e w gate segment.page segment.words)
segment_admissible aim segment r e w gate gates first second ring stored = record {
  unknown = λ kind. cc;
  gone = λ kind. cc;
  segment = λ kind. record {
    range = record {
      order = record { write_first = first; gate_last = second };
      ring = ring;
      gate = gates;
      page = some_page segment.words segment.page stored.some stored.pages;
      some = stored.some;
      most = stored.most;
      class = class_kept aim r e w;
    };
    cells = on_pages segment.words segment.page stored.pages;
  };
}

pub gone_admissible : IsAdmissible gone_desc
gone_admissible = record { unknown = λ kind. cc; gone = λ kind. refl; segment = λ kind. cc }
