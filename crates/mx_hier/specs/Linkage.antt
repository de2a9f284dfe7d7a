-- What the hierarchy says of linkage sections: how many links an object has, which brackets a section made of it now
-- has, and the page that it is given and that becomes free with it.
use Rattle.std.specs.Prelude.{ℕ, length, Option, Some, None}
use Rattle.std.specs.Option.{option_map}
use Rattle.mx_object.specs.Objects.{PlainObjectMap}
use Rattle.mx_pages.specs.Runs.{run_given, after_run, with_free}
use Rattle.mx_sdw.specs.Rings.{Bracketing}
use Rattle.mx_hier.specs.Branches.{Hierarchy, segment_at, object_at}

-- a segment that is no object has no links
abbrev pub links_of : Option PlainObjectMap → ℕ
links_of None = 0
links_of (Some object) = length object.links

abbrev pub links_at : Hierarchy → ℕ → ℕ
links_at hierarchy uid = links_of (object_at hierarchy uid)

-- written where the object is written, and read where it is read
abbrev pub linkage_brackets : Bracketing → Bracketing
linkage_brackets object = record { r1 = object.r1; r2 = object.r2; r3 = object.r2 }

abbrev pub linkage_brackets_at : Hierarchy → ℕ → Option Bracketing
linkage_brackets_at hierarchy uid = option_map (λ segment. linkage_brackets segment.brackets) (segment_at hierarchy uid)

-- the page that is given out next
abbrev pub page_given : Hierarchy → Option ℕ
page_given hierarchy = run_given hierarchy.pages 1

abbrev pub with_page_given : Hierarchy → Hierarchy
with_page_given hierarchy = record hierarchy { pages = after_run hierarchy.pages 1 (page_given hierarchy) }

-- the page of a linkage section that is taken away becomes free
abbrev pub with_page_freed : Hierarchy → ℕ → Hierarchy
with_page_freed hierarchy page = record hierarchy { pages = with_free hierarchy.pages page 1 }
