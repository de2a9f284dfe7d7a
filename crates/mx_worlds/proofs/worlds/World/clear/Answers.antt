use Rattle.std.proofs.Common.{ℕ, ◌/◌, Bool, true, false, sym, subst, rules}
use Rattle.std.specs.Prelude.{MatchBool, slice_set}
use Rattle.mx_core.specs.Clearing.{CanClear}
use Rattle.mx_core.specs.Memory.{IsBare}
use Rattle.mx_core.specs.Put.{put}
use Rattle.mx_core.specs.Lists.{Lists}
use Rattle.mx_core.specs.Words.{zero_cell}
use Rattle.mx_core.proofs.CellLaws.{clear_law}
use Rattle.mx_worlds.proofs.Seating.{lists_set, resting_is}
use Rattle.mx_worlds.proofs.worlds.World.clear.Goals as goal

pub returns : goal.returns
returns c w shows =
    let m = c.args.self.now in
    let cell = c.args.cell in
    let can : CanClear w cell = record {
      range = search rules;
      rest = resting_is _ w shows.parts.same (search rules);
      bare = subst (λ (b : Bool). MatchBool b (IsBare (w.table w.length) (cell / 64) → ⊥)
          (IsBare (w.table w.length) (cell / 64))) c.if-is_covered.false (c.is_covered.ensures w shows);
    } in (
      can,
      record {
        parts = record {
          same = shows.parts.same;
          shows = shows.parts.shows;
          memory = record {
            cells = subst (λ (z : ℕ). Lists (slice_set m.cells.items cell (record { value = z; writer = 0; stamp = 0 }))
                (put w.cell cell zero_cell)) (sym c.zero.ensures)
                (lists_set m.cells.items w.cell cell zero_cell shows.parts.memory.cells);
            clean_cells = lists_set m.clean.items w.clean cell true shows.parts.memory.clean_cells;
            ready_pages = lists_set m.ready.items w.ready (cell / 64) false shows.parts.memory.ready_pages;
          };
          notes = shows.parts.notes;
        };
        good = clear_law w cell shows.good can;
      },
    )
