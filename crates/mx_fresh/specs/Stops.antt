-- Helpers: where names have led, as the program has it.
use Rattle.std.specs.Option.{option_map}
use Rattle.mx_fresh.specs.declared.walks.Stop.{Stop as FreshStop}
use Rattle.mx_fresh.specs.declared.walks.Stop.TheVariants.{Reached as FreshReached, Linked as FreshLinked, Refused as FreshRefused}
use Rattle.mx_hier.specs.Walks.{Stop, Reached, Linked, Refused}

abbrev pub stop_of : FreshStop → Stop
stop_of (FreshReached uid) = Reached uid
stop_of (FreshLinked dir path) = Linked (option_map (λ directory. directory.now) dir) path.items
stop_of (FreshRefused why dir) = Refused why (option_map (λ directory. directory.now) dir)
