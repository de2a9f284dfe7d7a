-- Making a segment: what `create_seg` and `create_object` have in common.
use Rattle.std.specs.Prelude.{◌≡◌, ℕ, ◌==◌, nat_lt, nat_le, Bool, ◌||◌, List, [], ◌∷◌, ◌++◌, Option, Some, Result, Ok, is_none}
use Rattle.std.specs.List.{list_any}
use Rattle.mx_acl.specs.declared.modes.Modes.{Modes}
use Rattle.mx_object.specs.Objects.{PlainObjectMap}
use Rattle.mx_pages.specs.Runs.{PageMap, IsPageRun, pages_for, run_given, after_run}
use Rattle.mx_pages.specs.declared.pages.PageRun.{PageRun}
use Rattle.mx_sdw.specs.Rings.{Bracketing}
use Rattle.mx_hier.specs.declared.branches.Directory.{Directory}
use Rattle.mx_hier.specs.declared.branches.Segment.{Segment}
use Rattle.mx_hier.specs.declared.branches.Node.TheVariants.{Segment as IsSegment}
use Rattle.mx_hier.specs.declared.making.Place.{Place}
use Rattle.mx_hier.specs.declared.refusals.Refusal.{Refusal}
use Rattle.mx_hier.specs.declared.refusals.Refusal.TheVariants.{NotADir, BadLength, BadBrackets, NoPages}
use Rattle.mx_hier.specs.Branches.{Hierarchy, directory_at}
use Rattle.mx_hier.specs.Brackets.{settable}
use Rattle.mx_hier.specs.Callers.{Subject, Caller, on}
use Rattle.mx_hier.specs.Making.{place, making_refusals, made, added, first_acl}
use Rattle.mx_hier.specs.Objects.{with_object}
use Rattle.mx_hier.specs.Rules.{onward, required}
use Rattle.mx_hier.specs.Walks.{resolved}

-- the segment that is asked for: its words, its three rings, the modes that its maker has, and an object's map
pub record Wanted : Type 0 where
  pub words : ℕ
  pub rings : List ℕ
  pub modes : Modes
  pub object : Option PlainObjectMap

-- a gate or a definition is at a word that a segment of so many words doesn't have
abbrev pub reaches_beyond : ℕ → PlainObjectMap → Bool
reaches_beyond words object =
    nat_lt words object.gate || list_any (λ definition. nat_le words definition.1) object.definitions

abbrev pub is_bad_length : ℕ → Option PlainObjectMap → Bool
is_bad_length words object = words == 0 || nat_lt 1024 words || on (reaches_beyond words) object

abbrev pub make_segment_refusals : Hierarchy → Subject → Place → Wanted → List (Bool × Refusal)
make_segment_refusals hierarchy who at wanted = making_refusals hierarchy who at ++
    (is_bad_length wanted.words wanted.object, BadLength)
    ∷ (is_none (settable who.ring wanted.rings), BadBrackets)
    ∷ (is_none (run_given hierarchy.pages (pages_for wanted.words)), NoPages) ∷ []

-- its class is its maker's authorization
abbrev pub new_segment : Directory → Subject → ℕ → Bracketing → Modes → ℕ → Segment
new_segment parent who words brackets modes page = record {
  acl = first_acl parent.initial.segments who modes;
  class = who.authorization;
  brackets = brackets;
  words = words;
  page = page;
}

-- the segment is made on the pages that are given next, and an object's map is kept by its uid
abbrev pub segment_added : Hierarchy → Place → Segment → Option PlainObjectMap → Hierarchy
segment_added hierarchy at segment object = record (added hierarchy at (IsSegment segment)) {
  pages = after_run hierarchy.pages (pages_for segment.words) (Some segment.page);
  objects = with_object hierarchy.objects hierarchy.next object;
}

abbrev pub make_segment_at : Hierarchy → Subject → Place → Wanted → Result Hierarchy Refusal
make_segment_at hierarchy who at wanted =
    made hierarchy at (make_segment_refusals hierarchy who at wanted) (λ parent.
    onward (required BadBrackets (settable who.ring wanted.rings)) (λ brackets.
    onward (required NoPages (run_given hierarchy.pages (pages_for wanted.words))) (λ page.
    Ok (segment_added hierarchy at (new_segment parent who wanted.words brackets wanted.modes page) wanted.object))))

-- the run of pages that a segment of so many words is given of these pages: that which is given out next
pub record IsRunFor (pages : PageMap) (words : ℕ) (run : PageRun) : Type 0 where
  pub next : run_given pages run.count ≡ Some run.first
  pub count : run.count ≡ pages_for words
  pub is_run : IsPageRun run

-- what it comes to where nothing but the want of pages refuses it
abbrev pub segment_on_pages : Hierarchy → Subject → Place → ℕ → Bracketing → Modes → Option PlainObjectMap
    → Result Hierarchy Refusal
segment_on_pages hierarchy who at words brackets modes object =
    onward (required NoPages (run_given hierarchy.pages (pages_for words))) (λ page.
    onward (required NotADir (directory_at hierarchy at.dir)) (λ parent.
    Ok (segment_added hierarchy at (new_segment parent who words brackets modes page) object)))

abbrev pub make_segment : Hierarchy → Caller → List ℕ → Wanted → Result Hierarchy Refusal
make_segment hierarchy who pathname wanted =
    onward (resolved who pathname) (λ path.
    onward (place hierarchy who.subject path) (λ at. make_segment_at hierarchy who.subject at wanted))
