use Rattle.std.proofs.Common.{ℕ, true, refl, subst}
use Rattle.std.specs.Prelude.{◌&&◌, not}
use Rattle.mx_core.specs.Opening.{is_covered}
use Rattle.mx_core.specs.Pages.{page_of}
use Rattle.mx_core.specs.Lists.{Lists}
use Rattle.mx_worlds.specs.Tables.{table_of}
use Rattle.mx_core.specs.Words.{zero_cell}
use Rattle.mx_worlds.proofs.Marks.{lists_as}
use Rattle.mx_core.proofs.OpeningLaw.{opening_law}
use Rattle.mx_worlds.proofs.TableLaws.{all_listed, none_noted}
use Rattle.mx_worlds.proofs.worlds.World.new.Goals as goal

pub returns : goal.returns
returns c =
    let t = c.args.table.now in
    let P = c.args.processes in
    record {
      parts = record {
        same = refl;
        shows = c.in_ok-seats.ensures.1;
        memory = record {
          cells = lists_as c.in_ok-cells.cells.items (λ k. record { value = c.zero.result; writer = 0; stamp = 0 })
              (λ k. zero_cell)
              (all_listed c.in_ok-cells.cells.items 65536 (record { value = c.zero.result; writer = 0; stamp = 0 })
              (c.in_ok-cells.ensures.items_if_clones_equal (λ y e. e)))
              (λ n under i. record { value = c.zero.ensures i; writer = 0; stamp = 0 });
          clean_cells = subst (λ (many : ℕ). Lists c.soil.new.clean.items
              (λ k. true && not (is_covered many t.numbers (table_of t) (page_of k)))) c.requires.same
              (c.soil.ensures.shown (λ k. true)
              (all_listed c.in_ok-clean.clean.items 65536 true
              (c.in_ok-clean.ensures.items_if_clones_equal (λ y e. e))));
          ready_pages = all_listed c.in_ok-ready.ready.items 1024 true
              (c.in_ok-ready.ensures.items_if_clones_equal (λ y e. e));
        };
        notes = none_noted c.new.result.items c.new.ensures.items;
      };
      good = opening_law P t.numbers c.args.start (table_of t) c.requires.can;
    }
