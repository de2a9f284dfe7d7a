-- A segment becomes known to a process, or gets a further name: what `initiate` and `link` have in common.
use Rattle.std.specs.Prelude.{ℕ, Bool, ◌&&◌, List, [], ◌∷◌, Option, Some, None, Result, is_none}
use Rattle.mx_hier.specs.Branches.{Hierarchy}
use Rattle.mx_hier.specs.Linkage.{page_given, with_page_given}
use Rattle.mx_hier.specs.Rules.{first_of, unless}
use Rattle.mx_hier.specs.declared.refusals.Refusal.{Refusal}
use Rattle.mx_hier.specs.declared.refusals.Refusal.TheVariants.{NameDup, KstFull, NoPages}
use Rattle.mx_kst.specs.Initiating.{is_taken, is_full, initiated}
use Rattle.mx_kst.specs.KnownSegments.{KnownSegments}
use Rattle.mx_kst.specs.Sections.{PlainSection}
use Rattle.mx_kst.specs.declared.segments.Known.{Known}
use Rattle.mx_state.specs.Sections.{has_links, needs_section, section_made}

-- the name stands in the ring for another number; the segment is not known, and no number is left, or only one where
-- its linkage section needs a second; no page is left for a linkage section that is needed
abbrev pub connect_refusals : Hierarchy → KnownSegments → ℕ → ℕ → Option (List ℕ) → List (Bool × Refusal)
connect_refusals hierarchy known uid ring name =
    (is_taken known uid ring name, NameDup)
    ∷ (is_full known uid (has_links hierarchy uid), KstFull)
    ∷ (needs_section hierarchy known uid && is_none (page_given hierarchy), NoPages) ∷ []

-- how the segment is known, what the process knows then, and the hierarchy, of which a page may have been given out
pub record Connected : Type 0 where
  pub known : Known
  pub after : KnownSegments
  pub hierarchy : Hierarchy

abbrev pub with_section_page : Hierarchy → Option PlainSection → Hierarchy
with_section_page hierarchy None = hierarchy
with_section_page hierarchy (Some section) = with_page_given hierarchy

abbrev pub connected : Hierarchy → KnownSegments → ℕ → ℕ → Option (List ℕ) → Connected
connected hierarchy known uid ring name =
    let section : Option PlainSection = section_made hierarchy known uid in
    record {
      known = (initiated known uid ring name section).known;
      after = (initiated known uid ring name section).after;
      hierarchy = with_section_page hierarchy section;
    }

abbrev pub connect : Hierarchy → KnownSegments → ℕ → Option (List ℕ) → ℕ → Result Connected Refusal
connect hierarchy known ring name uid = unless (first_of (connect_refusals hierarchy known uid ring name)) (connected hierarchy known uid ring name)
