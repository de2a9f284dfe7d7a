-- Helpers that only private contracts cite: what each field of a line is read as.
use Rattle.std.specs.Prelude.{ℕ, ◌==◌, Bool, true, false, not, List, Option, None, Some, codes}
use Rattle.std.specs.Cmp.Lexicographic.{pointwise}
use Rattle.mx_aim.specs.Classes.{PlainClass, class_of_text, equals, lowest}
use Rattle.mx_sdw.specs.Octal.{octal_number}
use Rattle.mx_sdw.specs.Words.{word_of}
use Rattle.mx_script.specs.declared.lines.Base.{Base}
use Rattle.mx_script.specs.declared.lines.Base.TheVariants.{Segment, Register}
use Rattle.mx_script.specs.declared.lines.Operand.{Operand}
use Rattle.mx_name.specs.Cuts.{cut_at}
use Rattle.mx_name.specs.Principals.{principal_of}
use Rattle.mx_request.specs.declared.entrants.Entrant.{Entrant}
use Rattle.mx_request.specs.Steps.{◌>>=◌, when}
use Rattle.mx_request.specs.WordNumbers.{word_number_of}
use Rattle.mx_script.specs.Fronts.{after, read_or}
use Rattle.mx_script.specs.Sessions.{entrant}

abbrev pub operand : Base → ℕ → Bool → Operand
operand base word indirect = record { base = base; word = word; indirect = indirect }

-- a pointer register's number is one octal digit
abbrev pub register_at : List ℕ → Option ℕ
register_at text = octal_number 1 text

abbrev pub register_base : List ℕ → Option Base
register_base text = register_at text >>= λ n. Some (Register n)

abbrev pub segment_base : List ℕ → Option Base
segment_base text = octal_number 4 text >>= λ segno. Some (Segment segno)

-- `S` or `prN`
unfoldable pub base_at : List ℕ → Option Base
base_at text = read_or (after (codes "pr") text) register_base (segment_base text)

-- what stands behind a comma
abbrev pub star_at : List ℕ → Option Bool
star_at text = when (pointwise ◌==◌ text (codes "*")) true

-- `W,*`: the word is indirect
abbrev pub indirect_at : List ℕ → Option (ℕ × Bool)
indirect_at text =
    cut_at 44 text >>= λ p.
    word_number_of p.0 >>= λ word.
    star_at p.1 >>= λ indirect.
    Some (word, indirect)

-- `W`, or else that
abbrev pub offset_of : List ℕ → Option ℕ → Option (ℕ × Bool)
offset_of text (Some word) = Some (word, false)
offset_of text None = indirect_at text

abbrev pub offset_at : List ℕ → Option (ℕ × Bool)
offset_at text = offset_of text (word_number_of text)

-- `S|W` or `prN|W`, each with `,*` or without
abbrev pub operand_at : List ℕ → Option Operand
operand_at text =
    cut_at 124 text >>= λ p.
    base_at p.0 >>= λ base.
    offset_at p.1 >>= λ o.
    Some (operand base o.0 o.1)

-- `N OPERAND`
abbrev pub register_operand_at : List ℕ → Option (ℕ × Operand)
register_operand_at text =
    cut_at 32 text >>= λ p.
    register_at p.0 >>= λ n.
    operand_at p.1 >>= λ o.
    Some (n, o)

abbrev pub word_at : List ℕ → Option ℕ
word_at text = octal_number 12 text >>= λ n. word_of n

-- the lowest class is never written out
abbrev pub written_class : List ℕ → Option PlainClass
written_class text = class_of_text text >>= λ class. when (not (equals class lowest)) class

-- `PRINCIPAL`, or `PRINCIPAL CLASS`
abbrev pub entrant_of : List ℕ → Option (List ℕ × List ℕ) → Option Entrant
entrant_of text None = principal_of text >>= λ who. Some (entrant who lowest)
entrant_of text (Some p) = principal_of p.0 >>= λ who. written_class p.1 >>= λ class. Some (entrant who class)

abbrev pub entrant_at : List ℕ → Option Entrant
entrant_at text = entrant_of text (cut_at 32 text)
