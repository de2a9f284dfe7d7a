-- The cells of pages that an entry freed are cleared.
use Rattle.std.specs.Prelude.{ℕ, zero, suc, ◌+◌, ◌*◌, IsTrue, true, ◌≡◌, List, ◌∷◌, Option, Some, None}
use Rattle.mx_core.specs.Pages.{covers}
use Rattle.mx_pages.specs.declared.pages.PageRun.{PageRun}
use Rattle.mx_rule.specs.Shown.{Office}
use Rattle.mx_rule.specs.declared.views.Cleaning.{Cleaning}
use Rattle.mx_rule.specs.declared.views.Cleaning.TheVariants.{Cleared}
use Rattle.mx_rule.specs.declared.views.SuperView.{SuperView}
use Rattle.mx_state.specs.Given.{is_page_of}

-- so many cells from this one on are made zero, one after another
abbrev pub cleaned : ℕ → ℕ → List Cleaning → List Cleaning
cleaned first zero cleanings = cleanings
cleaned first (suc count) cleanings = Cleared (first + count) ∷ cleaned first count cleanings

abbrev pub cleared_cells : {E : Type 0} → ℕ → ℕ → SuperView E → SuperView E
cleared_cells first count v = record v { cleanings = cleaned first count v.cleanings }

-- the cells of the pages of a run: there are 64 in a page
abbrev pub cleaned_pages : Option PageRun → List Cleaning → List Cleaning
cleaned_pages None cleanings = cleanings
cleaned_pages (Some run) cleanings = cleaned (64 * run.first) (64 * run.count) cleanings

abbrev pub cleared_pages : {E : Type 0} → Option PageRun → SuperView E → SuperView E
cleared_pages run v = record v { cleanings = cleaned_pages run v.cleanings }

-- no descriptor covers a page of the run
abbrev pub AreBare : Office → Option PageRun → Type 0
AreBare x run = (page : ℕ) → is_page_of run page ≡ true → (p n : ℕ) → IsTrue (covers (x.table x.length p n) page) → ⊥
