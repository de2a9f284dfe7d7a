-- Helpers: what the judging and cell steps of a process leave of its columns.
use Rattle.std.specs.Prelude.{◌≡◌, ◌≢◌, ℕ, ◌<◌, IsTrue, max, nat_le, nat_lt, List, [], ◌∷◌, ◌++◌, Option, Some, None}
use Rattle.mx_sdw.specs.Descriptors.{unknown_desc}
use Rattle.mx_reads.specs.Held.{Held}
use Rattle.mx_core.specs.Acknowledging.{forgotten}
use Rattle.mx_core.specs.AssociativeMemory.{remembered}
use Rattle.mx_core.specs.Judging.{at_once}
use Rattle.mx_core.specs.Loading.{element_of, based}
use Rattle.mx_core.specs.Put.{pick}
use Rattle.mx_worlds.specs.Shows.{Columns}
use Rattle.mx_core.specs.declared.words.DescriptorWord.{DescriptorWord}
use Rattle.mx_core.specs.declared.words.DescriptorWord.TheVariants.{Valid, Fault}
use Rattle.mx_core.specs.declared.words.Triple.{Triple}
use Rattle.mx_core.specs.declared.words.Asked.{Asked}
use Rattle.mx_core.specs.declared.elements.Kept.{Kept}
use Rattle.mx_core.specs.declared.elements.Kept.TheVariants.{Judged, Missed}
use Rattle.mx_core.specs.declared.elements.Outcome.{Outcome}
use Rattle.mx_core.specs.declared.elements.Outcome.TheVariants as outcome

-- one event more in the trace
abbrev pub traced : Columns → Kept → Columns
traced c event = record c { trace = c.trace ++ event ∷ [] }

abbrev pub missed_columns : Columns → ℕ → ℕ → Columns
missed_columns c n by = traced (record c { process = record c.process { basis = None; hold = None } }) (Missed n by)

abbrev pub judged_by : Columns → Triple → Asked → Option Outcome → Columns
judged_by c u a None = record c { process = based c.process u (Some a) }
judged_by c u a (Some o) = traced (record c { process = based c.process u None })
    (Judged (element_of u.segno a c.process.floor o) a.op u.desc)

abbrev pub judged_columns : Columns → Triple → Asked → Columns
judged_columns c u a = judged_by c u a (at_once u.desc a)

abbrev pub with_memory : Columns → List Triple → Columns
with_memory c memory = record c { process = record c.process { memory = memory } }

abbrev pub remembering_columns : Columns → Triple → Columns
remembering_columns c u = with_memory c (remembered u c.process.memory)

abbrev pub found_word : ℕ → ℕ → Columns → ℕ → DescriptorWord
found_word numbers start c n = pick (nat_lt n numbers) (c.words n) (Valid start unknown_desc)

abbrev pub loaded_by : ℕ → Columns → ℕ → Asked → DescriptorWord → Columns
loaded_by numbers c n a (Fault number) = missed_columns c n number
loaded_by numbers c n a (Valid number desc) =
    let u : Triple = record { segno = n; number = number; desc = desc } in
    pick (nat_le number c.process.floor)
    (judged_columns (pick (nat_lt n numbers) (remembering_columns c u) c) u a) (missed_columns c n number)

abbrev pub loaded_columns : ℕ → ℕ → Columns → ℕ → Asked → Columns
loaded_columns numbers start c n a = loaded_by numbers c n a (found_word numbers start c n)

abbrev pub read_columns : Columns → Triple → Asked → Held → Columns
read_columns c u a held = traced
    (record c { process = record c.process { floor = max c.process.floor held.stamp; hold = None } })
    (Judged (element_of u.segno a c.process.floor (outcome.Read held.value held.writer held.stamp)) a.op u.desc)

abbrev pub written_columns : Columns → Triple → Asked → ℕ → Columns
written_columns c u a value = traced (record c { process = record c.process { hold = None } })
    (Judged (element_of u.segno a c.process.floor (outcome.Written value)) a.op u.desc)

-- where the pending entry changes the number, its word is struck by that entry
abbrev pub IsStruckIn : Columns → ℕ → ℕ → Type 0
IsStruckIn c count j = c.present j ≢ c.before j → c.words j ≡ Fault count

-- where the pending entry changes one of the numbers, the process has acknowledged
abbrev pub AreAcknowledged : Columns → ℕ → Type 0
AreAcknowledged c n = (j : ℕ) → j < n → c.present j ≢ c.before j → IsTrue c.process.acknowledged

abbrev pub answered_columns : Columns → Columns
answered_columns c = record c { process = forgotten c.process; before = c.present }
