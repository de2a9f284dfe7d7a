-- Helpers that only private contracts cite: what the line of an entry is read as.
use Rattle.std.specs.Prelude.{ℕ, ◌==◌, List, [], ◌∷◌, Option, None, Some, codes}
use Rattle.mx_name.specs.Cuts.{cut_at}
use Rattle.mx_reader.specs.Fields.{entry_number_at, process_at, ring_number_at}
use Rattle.mx_reader.specs.ReadingReplies.{reply_at}
use Rattle.mx_request.specs.Reading.{request_at}
use Rattle.mx_request.specs.Steps.{◌>>=◌, when}
use Rattle.mx_script.specs.Fronts.{after}
use Rattle.mx_state.specs.declared.journal.Entry as journaled

-- what stands before a last blank
unfoldable pub before_blank : List ℕ → Option (List ℕ)
before_blank [] = None
before_blank (c ∷ []) = when (c == 32) []
before_blank (c ∷ d ∷ rest) = before_blank (d ∷ rest) >>= λ front. Some (c ∷ front)

-- `NUMBER PROCESS RING ..`, of this number
abbrev pub caller_then : ℕ → List ℕ → Option ((ℕ × ℕ) × List ℕ)
caller_then number text =
    cut_at 32 text >>= λ n.
    entry_number_at n.0 >>= λ k.
    when (k == number) n.1 >>= λ rest.
    cut_at 32 rest >>= λ p.
    process_at p.0 >>= λ process.
    cut_at 32 p.1 >>= λ r.
    ring_number_at r.0 >>= λ ring.
    Some ((process, ring), r.1)

-- `REQUEST = REPLY`, cut in two
abbrev pub call_then : List ℕ → Option (List ℕ × List ℕ)
call_then text =
    cut_at 61 text >>= λ p.
    before_blank p.0 >>= λ request.
    after (codes " ") p.1 >>= λ reply.
    Some (request, reply)

-- the line of the entry of this number
unfoldable pub entry_at : ℕ → List ℕ → Option journaled.Entry
entry_at number line =
    caller_then number line >>= λ c.
    call_then c.1 >>= λ p.
    request_at p.0 >>= λ request.
    reply_at p.1 >>= λ reply.
    Some (record { process = c.0.0; ring = c.0.1; request = request; reply = reply })
