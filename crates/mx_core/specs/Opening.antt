-- The opening world: nothing is pending, all words are set, all cells are zero, and every process is outside.
use Rattle.std.specs.Prelude.{◌≡◌, ℕ, suc, zero, ◌<◌, ◌≤◌, Bool, true, false, not, ◌||◌, [], None}
use Rattle.mx_sdw.specs.Descriptors.{Descriptor, unknown_desc}
use Rattle.mx_sdw.specs.Admissible.{IsAdmissible}
use Rattle.mx_core.specs.Pages.{page_of, covers}
use Rattle.mx_core.specs.Words.{Valid, zero_cell}
use Rattle.mx_core.specs.World.{Process, Outside, World}

-- the number of processes, the length and the table that a world may open with
pub record CanOpen (processes numbers start : ℕ) (table : ℕ → ℕ → Descriptor) : Type 0 where
  pub some : 1 ≤ processes
  pub most : processes ≤ 15
  pub limit : start ≤ 262143
  pub admissible : (p n : ℕ) → IsAdmissible (table p n)
  -- beyond the processes and the numbers all is unknown
  pub nobody : (n : ℕ) → table 0 n ≡ unknown_desc
  pub more : (p n : ℕ) → processes < p → table p n ≡ unknown_desc
  pub beyond : (p n : ℕ) → numbers ≤ n → table p n ≡ unknown_desc

abbrev pub any_below : ℕ → (ℕ → Bool) → Bool
any_below zero has = false
any_below (suc n) has = has n || any_below n has

-- some descriptor of the table covers the page
abbrev pub is_covered : ℕ → ℕ → (ℕ → ℕ → Descriptor) → ℕ → Bool
is_covered processes numbers table page =
    any_below (suc processes) (λ p. any_below numbers (λ n. covers (table p n) page))

abbrev pub opening_process : ℕ → Process
opening_process start = record {
  floor = start;
  told = λ p n. start;
  stage = Outside;
  turn = 0;
  flag = 0;
  connect = start;
  cleared = start;
  memory = [];
  basis = None;
  hold = None;
  look = 0;
  acknowledged = false;
}

abbrev pub opening : ℕ → ℕ → ℕ → (ℕ → ℕ → Descriptor) → World
opening processes numbers start table = record {
  processes = processes;
  numbers = numbers;
  start = start;
  answered = start;
  length = start;
  table = λ q. table;
  entry = λ q. record { process = 0; mark = 0 };
  given = λ q page. false;
  word = λ p n. Valid start (table p n);
  cell = λ c. zero_cell;
  told = λ p n. start;
  reported = λ p. 0;
  clean = λ c. not (is_covered processes numbers table (page_of c));
  ready = λ page. true;
  made = 0;
  note = λ i. None;
  process = λ p. opening_process start;
  trace = λ p. [];
}
