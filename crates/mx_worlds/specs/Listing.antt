-- Helpers: what a program can test of the lists of an entry: that no pair and no page is listed twice, and that no page
-- lies beyond the last.
use Rattle.std.specs.Prelude.{◌+◌, nat_le, nat_lt, ◌==◌, max, Bool, true, false, ◌&&◌, ◌||◌, not, List, [], ◌∷◌}
use Rattle.mx_core.specs.declared.changes.Change.{Change}
use Rattle.mx_core.specs.declared.changes.Run.{Run}

abbrev pub lists_pair : List Change → Change → Bool
lists_pair [] pair = false
lists_pair (change ∷ rest) pair =
    (change.process == pair.process && change.segno == pair.segno) || lists_pair rest pair

abbrev pub pairs_once : List Change → Bool
pairs_once [] = true
pairs_once (change ∷ rest) = not (lists_pair rest change) && pairs_once rest

-- two runs have a page in common
abbrev pub share : Run → Run → Bool
share a b = nat_lt (max a.page b.page) (a.page + a.pages) && nat_lt (max a.page b.page) (b.page + b.pages)

abbrev pub lists_page : List Run → Run → Bool
lists_page [] run = false
lists_page (other ∷ rest) run = share run other || lists_page rest run

abbrev pub pages_once : List Run → Bool
pages_once [] = true
pages_once (run ∷ rest) = not (lists_page rest run) && pages_once rest

abbrev pub pages_within : List Run → Bool
pages_within [] = true
pages_within (run ∷ rest) = nat_le (run.page + run.pages) 1024 && pages_within rest
