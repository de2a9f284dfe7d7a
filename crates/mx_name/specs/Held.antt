-- What a held text is seen as.
use Rattle.std.specs.Prelude.{ℕ, List}
use Rattle.mx_name.specs.declared.held.Held.{Held}
use Rattle.mx_name.specs.declared.held.Held.TheVariants.{Short, Long}

-- the text, wherever it is held
abbrev pub text_of : Held → List ℕ
text_of (Short text) = text
text_of (Long text) = text
