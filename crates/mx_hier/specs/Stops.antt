-- Helpers: where names have led, as the program has it.
use Rattle.std.specs.Prelude.{◌++◌}
use Rattle.std.specs.Option.{option_map}
use Rattle.mx_hier.specs.declared.walks.Along.{Along}
use Rattle.mx_hier.specs.declared.walks.Along.TheVariants.{Reached as AlongReached, Linked as AlongLinked, Refused as AlongRefused}
use Rattle.mx_hier.specs.Walks.{Stop, Reached, Linked, Refused}

abbrev pub stop : Along → Stop
stop (AlongReached uid) = Reached uid
stop (AlongLinked dir target rest) = Linked (option_map (λ directory. directory.now) dir) (target.now ++ rest)
stop (AlongRefused why dir) = Refused why (option_map (λ directory. directory.now) dir)
