-- How a number of a process comes to be a linkage section.
use Rattle.std.specs.Prelude.{◌≡◌, ◌⊎◌, ℕ, ◌≤◌, List}
use Rattle.mx_kst.specs.declared.lots.Lot.TheVariants.{Free}
use Rattle.mx_request.specs.declared.entrants.Entrant.{Entrant}
use Rattle.mx_request.specs.declared.requests.Request.{Request}
use Rattle.mx_state.specs.declared.journal.Entry.{Entry}
use Rattle.mx_state.specs.History.{opening, replay}
use Rattle.mx_state.specs.Plain.{Plain}
use Rattle.mx_state.specs.Requests.{plain}
use Rattle.mx_state.specs.Told.{IsSection, lot_in}

-- it was one before, or stood for nothing
abbrev pub SectionComesLaw : Type 0
SectionComesLaw = (s : Plain) (p q ring segno words : ℕ) (request : Request)
    → IsSection (lot_in (plain s q ring request).state p segno) words
    → IsSection (lot_in s p segno) words ⊎ ((lot_in s p segno ≡ Free) × (1 ≤ words))

-- and it has a word at least
abbrev pub SectionWordsLaw : Type 0
SectionWordsLaw = (version : ℕ) (entrants : List Entrant) (journal : List Entry) (p segno words : ℕ)
    → IsSection (lot_in (replay (opening version entrants) journal) p segno) words → 1 ≤ words
