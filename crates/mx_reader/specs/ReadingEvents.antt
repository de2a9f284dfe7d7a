-- Helpers that only private contracts cite: what an event's line, and the line that ends a line, are read as.
use Rattle.std.specs.Prelude.{ℕ, ◌==◌, false, List, Option, None, Some, codes, if◌then◌else◌}
use Rattle.std.specs.Cmp.Lexicographic.{pointwise}
use Rattle.mx_core.specs.declared.elements.Event.TheVariants.{Seen, Missing}
use Rattle.mx_core.specs.declared.elements.Kind.{Kind}
use Rattle.mx_core.specs.declared.elements.Kind.TheVariants as kind
use Rattle.mx_core.specs.declared.elements.Outcome.{Outcome}
use Rattle.mx_core.specs.declared.elements.Outcome.TheVariants as outcome
use Rattle.mx_name.specs.Cuts.{cut_at}
use Rattle.mx_reader.specs.Fields.{address_at, denial_at, entry_number_at, kind_at, line_number_at, process_at, ring_number_at}
use Rattle.mx_request.specs.Steps.{◌>>=◌}
use Rattle.mx_script.specs.Fields.{word_at}
use Rattle.mx_script.specs.Fronts.{after, read_or}
use Rattle.mx_sdw.specs.Octal.{octal_number}
use Rattle.mx_transcript.specs.declared.transcripts.Event2.{Event2}
use Rattle.mx_transcript.specs.declared.transcripts.Event2.TheVariants.{Core, Entry}
use Rattle.mx_transcript.specs.declared.transcripts.Result2.{Result2}
use Rattle.mx_transcript.specs.declared.transcripts.Result2.TheVariants as result

-- `word V from P stamp K`
abbrev pub read_at : List ℕ → Option Outcome
read_at text =
    after (codes "word ") text >>= λ rest.
    cut_at 32 rest >>= λ v.
    word_at v.0 >>= λ value.
    after (codes "from ") v.1 >>= λ rest.
    cut_at 32 rest >>= λ p.
    process_at p.0 >>= λ writer.
    after (codes "stamp ") p.1 >>= λ rest.
    entry_number_at rest >>= λ stamp.
    Some (outcome.Read value writer stamp)

-- `word V`
abbrev pub written_at : List ℕ → Option Outcome
written_at text = after (codes "word ") text >>= λ rest. word_at rest >>= λ value. Some (outcome.Written value)

-- `enter R`
abbrev pub entered_at : List ℕ → Option Outcome
entered_at text = after (codes "enter ") text >>= λ rest. ring_number_at rest >>= λ ring. Some (outcome.Entered ring)

-- what a reference of a kind comes to where it is granted
abbrev pub granted_at : Kind → List ℕ → Option Outcome
granted_at kind.Read text = read_at text
granted_at kind.Ind text = read_at text
granted_at kind.Write text = written_at text
granted_at kind.Fetch text = read_at text
granted_at kind.Call text = entered_at text
granted_at kind.Return text = entered_at text

abbrev pub denied_at : List ℕ → Option Outcome
denied_at text = denial_at text >>= λ denial. Some (outcome.Denied denial)

-- and where it is denied
abbrev pub outcome_at : Kind → List ℕ → Option Outcome
outcome_at kind text = read_or (after (codes "denied ") text) denied_at (granted_at kind text)

-- `KIND S|W ring R point K ..`
abbrev pub element_at : List ℕ → Option Event2
element_at text =
    cut_at 32 text >>= λ k.
    kind_at k.0 >>= λ kind.
    cut_at 32 k.1 >>= λ a.
    address_at a.0 >>= λ address.
    after (codes "ring ") a.1 >>= λ rest.
    cut_at 32 rest >>= λ r.
    ring_number_at r.0 >>= λ ring.
    after (codes "point ") r.1 >>= λ rest.
    cut_at 32 rest >>= λ p.
    entry_number_at p.0 >>= λ point.
    outcome_at kind p.1 >>= λ came.
    Some (Core (Seen (record { kind = kind; segno = address.0; word = address.1; ring = ring; point = point; outcome = came })))

-- `S by K`
abbrev pub missing_at : List ℕ → Option Event2
missing_at text =
    cut_at 32 text >>= λ s.
    octal_number 4 s.0 >>= λ segno.
    after (codes "by ") s.1 >>= λ rest.
    entry_number_at rest >>= λ by.
    Some (Core (Missing segno by))

abbrev pub named_at : List ℕ → Option Event2
named_at text = entry_number_at text >>= λ number. Some (Entry number)

unfoldable pub event_at : List ℕ → Option Event2
event_at text =
    read_or (after (codes "entry ") text) named_at
    (read_or (after (codes "missing ") text) missing_at
    (element_at text))

-- results: a word
abbrev pub a_at : List ℕ → Option Result2
a_at text = word_at text >>= λ word. Some (result.A word)

-- `N RING S|W`
abbrev pub pr_at : List ℕ → Option Result2
pr_at text =
    cut_at 32 text >>= λ p.
    cut_at 32 p.1 >>= λ q.
    ring_number_at p.0 >>= λ n.
    ring_number_at q.0 >>= λ ring.
    address_at q.1 >>= λ a.
    Some (result.Pr n (record { ring = ring; segno = a.0; word = a.1; further = false }))

-- `R at S|W`
abbrev pub moved_at : List ℕ → Option Result2
moved_at text =
    cut_at 32 text >>= λ p.
    ring_number_at p.0 >>= λ ring.
    after (codes "at ") p.1 >>= λ rest.
    address_at rest >>= λ a.
    Some (result.Moved ring (record { ring = ring; segno = a.0; word = a.1; further = false }))

abbrev pub denied_result : List ℕ → Option Result2
denied_result text = denial_at text >>= λ denial. Some (result.Denied denial)

unfoldable pub result_at : List ℕ → Option Result2
result_at text =
    if pointwise ◌==◌ text (codes "done") then Some result.Done
    else (if pointwise ◌==◌ text (codes "refused") then Some result.Refused
    else (if pointwise ◌==◌ text (codes "history_full") then Some result.HistoryFull
    else read_or (after (codes "a ") text) a_at
    (read_or (after (codes "pr ") text) pr_at
    (read_or (after (codes "ring ") text) moved_at
    (read_or (after (codes "denied ") text) denied_result None)))))

-- `line N RESULT`
unfoldable pub end_at : List ℕ → Option (ℕ × Result2)
end_at text =
    after (codes "line ") text >>= λ rest.
    cut_at 32 rest >>= λ p.
    line_number_at p.0 >>= λ number.
    result_at p.1 >>= λ ends.
    Some (number, ends)
