-- Helpers that only private contracts cite: fields at the head of a text, each with what stands behind the blank after it.
use Rattle.std.specs.Prelude.{ℕ, List, Option, Some}
use Rattle.mx_core.specs.declared.elements.Kind.{Kind}
use Rattle.mx_name.specs.Cuts.{cut_at}
use Rattle.mx_reader.specs.Fields.{address_at, entry_number_at, kind_at, line_number_at, process_at, ring_number_at}
use Rattle.mx_request.specs.Steps.{◌>>=◌}
use Rattle.mx_request.specs.WordNumbers.{word_number_of}
use Rattle.mx_script.specs.Fields.{word_at}

abbrev pub kind_then : List ℕ → Option (Kind × List ℕ)
kind_then text = cut_at 32 text >>= λ p. kind_at p.0 >>= λ kind. Some (kind, p.1)

-- `S|W ..`
abbrev pub address_then : List ℕ → Option ((ℕ × ℕ) × List ℕ)
address_then text = cut_at 32 text >>= λ p. address_at p.0 >>= λ address. Some (address, p.1)

abbrev pub word_number_then : List ℕ → Option (ℕ × List ℕ)
word_number_then text = cut_at 32 text >>= λ p. word_number_of p.0 >>= λ word. Some (word, p.1)

abbrev pub word_then : List ℕ → Option (ℕ × List ℕ)
word_then text = cut_at 32 text >>= λ p. word_at p.0 >>= λ word. Some (word, p.1)

abbrev pub ring_number_then : List ℕ → Option (ℕ × List ℕ)
ring_number_then text = cut_at 32 text >>= λ p. ring_number_at p.0 >>= λ ring. Some (ring, p.1)

abbrev pub process_then : List ℕ → Option (ℕ × List ℕ)
process_then text = cut_at 32 text >>= λ p. process_at p.0 >>= λ process. Some (process, p.1)

abbrev pub entry_number_then : List ℕ → Option (ℕ × List ℕ)
entry_number_then text = cut_at 32 text >>= λ p. entry_number_at p.0 >>= λ number. Some (number, p.1)

abbrev pub line_number_then : List ℕ → Option (ℕ × List ℕ)
line_number_then text = cut_at 32 text >>= λ p. line_number_at p.0 >>= λ number. Some (number, p.1)
