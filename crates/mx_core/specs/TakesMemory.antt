-- The kinds of step that take memory: they keep an event in a trace, a number in an associative memory, or a note.
use Rattle.std.specs.Prelude.{Bool, true, false}
use Rattle.mx_core.specs.declared.steps.Step.{Step}
use Rattle.mx_core.specs.declared.steps.Step.TheVariants.{Append, Strike, Connect, Look, Acknowledge, Answer, Settle, Clear, Split, Report, Enter, LoadConnect, LoadDesc, Recall, LoadCell, StoreCell, Leave, Join}

abbrev pub takes_memory : Step → Bool
takes_memory (Append p changes given) = false
takes_memory (Strike p n) = false
takes_memory (Connect p) = false
takes_memory (Look p) = false
takes_memory (Acknowledge p) = false
takes_memory Answer = false
takes_memory (Settle p n) = false
takes_memory (Clear cell) = false
takes_memory Split = true
takes_memory (Report p n) = false
takes_memory (Enter p) = false
takes_memory (LoadConnect p) = false
takes_memory (LoadDesc p n op ring word) = true
takes_memory (Recall p n op ring word) = true
takes_memory (LoadCell p) = true
takes_memory (StoreCell p value) = true
takes_memory (Leave p) = false
takes_memory (Join p i) = false
