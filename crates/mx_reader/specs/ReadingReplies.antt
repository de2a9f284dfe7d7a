-- Helpers that only private contracts cite: what a reply's text is read as, by its first words.
use Rattle.std.specs.Prelude.{ℕ, ◌==◌, List, Option, None, Some, codes, if◌then◌else◌}
use Rattle.std.specs.Cmp.Lexicographic.{pointwise}
use Rattle.mx_acl.specs.Modes.{modes_of_text}
use Rattle.mx_hier.specs.Refusals.{refusal_number}
use Rattle.mx_hier.specs.declared.asking.Status.TheVariants.{Segment, Object, Directory, Link}
use Rattle.mx_name.specs.Cuts.{cut_at}
use Rattle.mx_reader.specs.Fields.{amount_then, brackets_then, known_at, map_then, modes_at, names_at, path_at, process_at, refusal_at}
use Rattle.mx_request.specs.Decimals.{decimal_number}
use Rattle.mx_request.specs.Reading.{ring_at}
use Rattle.mx_request.specs.Steps.{◌>>=◌, when}
use Rattle.mx_request.specs.WordNumbers.{word_number_of}
use Rattle.mx_request.specs.declared.replies.Reply.{Reply}
use Rattle.mx_request.specs.declared.replies.Reply.TheVariants.{Done, Refused, Status, Names, Segno, Linked, Sent, Message, Nobody, Waiting}
use Rattle.mx_script.specs.Fields.{word_at}
use Rattle.mx_script.specs.Fronts.{after, read_or}
use Rattle.mx_sdw.specs.Octal.{octal_number}

-- `NUMBER NAME`
abbrev pub refused_at : List ℕ → Option Reply
refused_at text =
    cut_at 32 text >>= λ p.
    decimal_number 2 p.0 >>= λ number.
    refusal_at p.1 >>= λ why.
    when (number == refusal_number why) (Refused why)

-- `N brackets R1 R2 R3 modes M ..`
abbrev pub segment_at : List ℕ → Option Reply
segment_at text =
    amount_then text >>= λ w.
    after (codes "brackets ") w.1 >>= λ rest.
    brackets_then rest >>= λ b.
    after (codes "modes ") b.1 >>= λ rest.
    modes_at rest >>= λ m.
    Some (Status (Segment w.0 b.0 m.0 m.1))

-- `N brackets R1 R2 R3 gate G definitions D links L modes M ..`
abbrev pub object_at : List ℕ → Option Reply
object_at text =
    amount_then text >>= λ w.
    after (codes "brackets ") w.1 >>= λ rest.
    brackets_then rest >>= λ b.
    map_then b.1 >>= λ g.
    after (codes "modes ") g.1 >>= λ rest.
    modes_at rest >>= λ m.
    Some (Status (Object w.0 b.0 g.0.0 g.0.1 g.0.2 m.0 m.1))

-- `D1 D2 modes M`
abbrev pub directory_at : List ℕ → Option Reply
directory_at text =
    cut_at 32 text >>= λ p.
    cut_at 32 p.1 >>= λ q.
    ring_at p.0 >>= λ d1.
    ring_at q.0 >>= λ d2.
    after (codes "modes ") q.1 >>= λ rest.
    modes_of_text rest >>= λ modes.
    Some (Status (Directory d1 d2 modes))

-- `S new`, `S old`, each with the linkage section or without
abbrev pub segno_at : List ℕ → Option Reply
segno_at text =
    cut_at 32 text >>= λ p.
    octal_number 4 p.0 >>= λ segno.
    known_at p.1 >>= λ k.
    Some (Segno (record { segno = segno; fresh = k.0; linkage = k.1 }))

-- `S|W new`, `S|W old`, each with the linkage section or without
abbrev pub linked_at : List ℕ → Option Reply
linked_at text =
    cut_at 32 text >>= λ p.
    cut_at 124 p.0 >>= λ a.
    octal_number 4 a.0 >>= λ segno.
    word_number_of a.1 >>= λ word.
    known_at p.1 >>= λ k.
    Some (Linked segno word k.0 k.1)

-- `P WORD`
abbrev pub message_at : List ℕ → Option Reply
message_at text =
    cut_at 32 text >>= λ p.
    process_at p.0 >>= λ sender.
    word_at p.1 >>= λ word.
    Some (Message sender word)

abbrev pub link_reply : List ℕ → Option Reply
link_reply text = path_at text >>= λ target. Some (Status (Link target))

abbrev pub names_reply : List ℕ → Option Reply
names_reply text = names_at text >>= λ names. Some (Names names)

-- a reply that is one word
unfoldable pub bare_at : List ℕ → Option Reply
bare_at text =
    if pointwise ◌==◌ text (codes "ok") then Some Done
    else (if pointwise ◌==◌ text (codes "sent") then Some Sent
    else (if pointwise ◌==◌ text (codes "nobody") then Some Nobody
    else (if pointwise ◌==◌ text (codes "waiting") then Some Waiting
    else None)))

-- a reply that holds no text, by its front: of a segment or a process
unfoldable pub short_at : List ℕ → Option Reply
short_at text =
    read_or (after (codes "segno ") text) segno_at
    (read_or (after (codes "linked ") text) linked_at
    (read_or (after (codes "message ") text) message_at
    (bare_at text)))

-- or of a refusal or the status of an entry
unfoldable pub plain_at : List ℕ → Option Reply
plain_at text =
    read_or (after (codes "refused ") text) refused_at
    (read_or (after (codes "segment words ") text) segment_at
    (read_or (after (codes "object words ") text) object_at
    (read_or (after (codes "directory brackets ") text) directory_at
    (short_at text))))

-- a reply of any kind
unfoldable pub reply_at : List ℕ → Option Reply
reply_at text =
    read_or (after (codes "names") text) names_reply
    (read_or (after (codes "link ") text) link_reply
    (plain_at text))
