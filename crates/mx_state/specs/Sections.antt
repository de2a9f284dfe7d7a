-- Linkage sections: which one is made where an object becomes known, and what a number that is one stands for.
use Rattle.std.specs.Prelude.{ℕ, nat_lt, Bool, ◌&&◌, find, Option, Some, None, if◌then◌else◌, is_none}
use Rattle.std.specs.Option.{option_and_then}
use Rattle.mx_hier.specs.Branches.{Hierarchy}
use Rattle.mx_hier.specs.Linkage.{links_at, linkage_brackets_at, page_given, with_page_freed}
use Rattle.mx_kst.specs.KnownSegments.{KnownSegments}
use Rattle.mx_kst.specs.Lots.{is_section_of, number_of}
use Rattle.mx_kst.specs.Sections.{PlainSection}
use Rattle.mx_kst.specs.declared.lots.Lot.{Lot}
use Rattle.mx_kst.specs.declared.lots.Lot.TheVariants.{Free, Stack, Branch, Linkage}
use Rattle.mx_sdw.specs.Rings.{Bracketing}

abbrev pub has_links : Hierarchy → ℕ → Bool
has_links hierarchy uid = nat_lt 0 (links_at hierarchy uid)

-- an object with links needs a linkage section, unless the process knows it already
abbrev pub needs_section : Hierarchy → KnownSegments → ℕ → Bool
needs_section hierarchy known uid = is_none (number_of known.lots uid) && has_links hierarchy uid

-- of these parts, if there are all
abbrev pub section_by : ℕ → Option Bracketing → Option ℕ → Option PlainSection
section_by links (Some brackets) (Some page) = Some (record { page = page; brackets = brackets; words = links })
section_by links (Some brackets) None = None
section_by links None page = None

-- the section that is made with it: a word for each link, on the page that is given out next
abbrev pub section_made : Hierarchy → KnownSegments → ℕ → Option PlainSection
section_made hierarchy known uid =
    if needs_section hierarchy known uid then section_by (links_at hierarchy uid) (linkage_brackets_at hierarchy uid) (page_given hierarchy) else None

abbrev pub page_of_lot : Lot → Option ℕ
page_of_lot (Linkage of page brackets words) = Some page
page_of_lot Free = None
page_of_lot (Stack ring) = None
page_of_lot (Branch uid) = None

-- the page of the linkage section that goes with a number
abbrev pub section_page : KnownSegments → ℕ → Option ℕ
section_page known segno = option_and_then page_of_lot (find (is_section_of segno) known.lots)

-- the hierarchy after a linkage section on this page was taken away: the page is free again
abbrev pub with_page_back : Hierarchy → Option ℕ → Hierarchy
with_page_back hierarchy None = hierarchy
with_page_back hierarchy (Some page) = with_page_freed hierarchy page
