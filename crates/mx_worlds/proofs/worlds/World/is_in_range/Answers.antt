use Rattle.std.proofs.Common.{◌≡◌, ℕ, Bool, true, false, List, ap, sym, ◌∙◌, rules}
use Rattle.std.specs.Prelude.{MatchBool}
use Rattle.mx_core.specs.Append.{IsEntryInRange}
use Rattle.mx_worlds.specs.Listing.{pages_once}
use Rattle.mx_worlds.specs.Marking.{AreGood, AreWithin}
use Rattle.mx_core.specs.Notions.{IsProcess}
use Rattle.mx_worlds.specs.Shows.{Counts}
use Rattle.mx_core.specs.World.{World}
use Rattle.mx_core.specs.declared.changes.Change.{Change}
use Rattle.mx_core.specs.declared.changes.Run.{Run}
use Rattle.mx_worlds.proofs.Listings.{PairsOnce, pairs_are_once, pairs_are_twice, pages_are_once, pages_are_twice, pages_are_within, pages_are_beyond}
use Rattle.mx_worlds.proofs.Searching.{not_by, yes_by}
use Rattle.mx_worlds.proofs.Seating.{process_is}
use Rattle.mx_worlds.proofs.worlds.World.is_in_range.Goals as goal

range_by : (w : World) (p : ℕ) (changes : List Change) (given : List Run) (b : Bool) → IsProcess w p → AreGood w changes
    → PairsOnce changes → AreWithin given → b ≡ pages_once given
    → MatchBool b (IsEntryInRange w p changes given) (IsEntryInRange w p changes given → ⊥)
range_by w p changes given true process each pairs pages e = record {
  process = process;
  each = each;
  pair_once = pairs;
  pages = pages;
  page_once = pages_are_once given (sym e);
}
range_by w p changes given false process each pairs pages e = λ range. pages_are_twice given (sym e) range.page_once

pub returns-then-process-eq0 : goal.returns-then-process-eq0
returns-then-process-eq0 c w shows = λ range.
    let e = ap (λ (x : Counts). x.processes) shows.parts.same in
    let low = range.process.low in
    let high = range.process.high in search rules

pub returns-then-not-are_good : goal.returns-then-not-are_good
returns-then-not-are_good c w shows = λ range.
    not_by (AreGood w c.args.changes.now) c.are_good.result (search rules) (c.are_good.ensures w shows) range.each

pub returns-then-not-pairs_once : goal.returns-then-not-pairs_once
returns-then-not-pairs_once c w shows = λ range.
    pairs_are_twice c.args.changes.now (sym c.pairs_once.ensures ∙ search rules) range.pair_once

pub returns-then-not-pages_within : goal.returns-then-not-pages_within
returns-then-not-pages_within c w shows = λ range.
    pages_are_beyond c.args.given.now (sym c.pages_within.ensures ∙ search rules) range.pages

pub returns : goal.returns
returns c w shows =
    range_by w c.args.process c.args.changes.now c.args.given.now c.pages_once.result
    (process_is _ w c.args.process shows.parts.same (search rules) (search rules))
    (yes_by (AreGood w c.args.changes.now) c.are_good.result (search rules) (c.are_good.ensures w shows))
    (pairs_are_once c.args.changes.now (sym c.pairs_once.ensures ∙ search rules))
    (pages_are_within c.args.given.now (sym c.pages_within.ensures ∙ search rules)) c.pages_once.ensures
