-- Helpers that only private contracts cite: what each field of a line is read as.
use Rattle.std.specs.Prelude.{ℕ, ◌==◌, Bool, true, false, List, [], ◌∷◌, Option, None, Some, codes, if◌then◌else◌}
use Rattle.std.specs.Cmp.Lexicographic.{pointwise}
use Rattle.std.specs.List.{find, slice_split}
use Rattle.std.specs.Result.{result_ok}
use Rattle.mx_acl.specs.Modes.{modes_of_text}
use Rattle.mx_acl.specs.declared.modes.Modes.{Modes}
use Rattle.mx_aim.specs.Classes.{PlainClass, class_of_text}
use Rattle.mx_core.specs.declared.elements.Kind.{Kind}
use Rattle.mx_core.specs.declared.elements.Kind.TheVariants as kind
use Rattle.mx_hier.specs.Refusals.{refusal_text}
use Rattle.mx_hier.specs.declared.refusals.Refusal.{Refusal}
use Rattle.mx_hier.specs.declared.refusals.Refusal.TheVariants.{BadPath, NoEntry, NoInfo, NotADir, LinkLoop, IncorrectAccess, NameDup, NotASeg, DirNotEmpty, DirFull, BadLength, BadBrackets, InvalidMode, AclFull, NoAclEntry, NoPages, KstFull, UnknownSegno, NotLinkage, SegmentNotFound, NotObject, NoDefinition, NoProcess, MailFull, Ended, BadClass}
use Rattle.mx_name.specs.Cuts.{cut_at}
use Rattle.mx_name.specs.Names.{name_of}
use Rattle.mx_name.specs.Pathnames.{is_absolute, pathname_of}
use Rattle.mx_name.specs.Paths.{resolution}
use Rattle.mx_request.specs.Decimals.{decimal_number}
use Rattle.mx_request.specs.Reading.{ring_at}
use Rattle.mx_request.specs.Steps.{◌>>=◌, when}
use Rattle.mx_request.specs.RequestTexts.{is_ring}
use Rattle.mx_request.specs.WordNumbers.{word_number_of}
use Rattle.mx_script.specs.Fronts.{after}
use Rattle.mx_sdw.specs.Denials.{denial_text}
use Rattle.mx_sdw.specs.declared.denials.Denial.{Denial}
use Rattle.mx_sdw.specs.declared.denials.Denial.TheVariants.{UnknownSegment, NoSegment, OutOfBounds, NotReadable, ReadBracket, NotWritable, WriteBracket, NotExecutable, ExecuteBracket, CallBracket, UpwardCall, Gate, RaisedRing, BadReturn, NotPointer, IndirectLimit, AimRead, AimWrite}
use Rattle.mx_sdw.specs.Octal.{octal_number}
use Rattle.mx_sdw.specs.Rings.{Bracketing, brackets_of}
use Rattle.mx_spelling.specs.Spelling.{is_amount, is_entry_number, is_line_number, is_process}
use Rattle.mx_text.specs.RunText.{kind_text}

-- `N`: how many there are, or the number of a process
abbrev pub amount_at : List ℕ → Option ℕ
amount_at text = decimal_number 5 text >>= λ n. when (is_amount n) n

abbrev pub process_at : List ℕ → Option ℕ
process_at text = decimal_number 2 text >>= λ p. when (is_process p) p

-- `N ..`: how many there are, and what stands behind the blank
abbrev pub amount_then : List ℕ → Option (ℕ × List ℕ)
amount_then text = cut_at 32 text >>= λ p. amount_at p.0 >>= λ n. Some (n, p.1)

-- the same behind a label
abbrev pub labelled_then : List ℕ → List ℕ → Option (ℕ × List ℕ)
labelled_then label text = after label text >>= λ rest. amount_then rest

-- `gate G definitions D links L ..`: how many of each, and what stands behind the blank
abbrev pub map_then : List ℕ → Option ((ℕ × ℕ × ℕ) × List ℕ)
map_then text =
    labelled_then (codes "gate ") text >>= λ g.
    labelled_then (codes "definitions ") g.1 >>= λ d.
    labelled_then (codes "links ") d.1 >>= λ l.
    Some ((g.0, d.0, l.0), l.1)

-- `R1 R2 R3 ..`: rings in order, and what stands behind the blank
abbrev pub brackets_then : List ℕ → Option (Bracketing × List ℕ)
brackets_then text =
    cut_at 32 text >>= λ p.
    cut_at 32 p.1 >>= λ q.
    cut_at 32 q.1 >>= λ r.
    ring_at p.0 >>= λ r1.
    ring_at q.0 >>= λ r2.
    ring_at r.0 >>= λ r3.
    brackets_of r1 r2 r3 >>= λ brackets.
    Some (brackets, r.1)

-- `M`, or `M class C`
abbrev pub modes_by : List ℕ → Option (List ℕ × List ℕ) → Option (Modes × Option PlainClass)
modes_by text None = modes_of_text text >>= λ modes. Some (modes, None)
modes_by text (Some p) =
    modes_of_text p.0 >>= λ modes.
    after (codes "class ") p.1 >>= λ rest.
    class_of_text rest >>= λ class.
    Some (modes, Some class)

abbrev pub modes_at : List ℕ → Option (Modes × Option PlainClass)
modes_at text = modes_by text (cut_at 32 text)

-- `new` or `old`
abbrev pub fresh_at : List ℕ → Option Bool
fresh_at text =
    if pointwise ◌==◌ text (codes "new") then Some true
    else (if pointwise ◌==◌ text (codes "old") then Some false else None)

-- the same, alone or with `linkage S`
abbrev pub known_by : List ℕ → Option (List ℕ × List ℕ) → Option (Bool × Option ℕ)
known_by text None = fresh_at text >>= λ fresh. Some (fresh, None)
known_by text (Some p) =
    fresh_at p.0 >>= λ fresh.
    after (codes "linkage ") p.1 >>= λ rest.
    octal_number 4 rest >>= λ segno.
    Some (fresh, Some segno)

abbrev pub known_at : List ℕ → Option (Bool × Option ℕ)
known_at text = known_by text (cut_at 32 text)

-- the refusal of a name
abbrev pub all_refusals : List Refusal
all_refusals =
    BadPath ∷ NoEntry ∷ NoInfo ∷ NotADir ∷ LinkLoop ∷ IncorrectAccess ∷ NameDup ∷ NotASeg ∷ DirNotEmpty ∷ DirFull ∷ BadLength
    ∷ BadBrackets ∷ InvalidMode ∷ AclFull ∷ NoAclEntry ∷ NoPages ∷ KstFull ∷ UnknownSegno ∷ NotLinkage ∷ SegmentNotFound
    ∷ NotObject ∷ NoDefinition ∷ NoProcess ∷ MailFull ∷ Ended ∷ BadClass ∷ []

abbrev pub refusal_at : List ℕ → Option Refusal
refusal_at text = find (λ why. pointwise ◌==◌ text (refusal_text why)) all_refusals

-- an absolute pathname, as its path
abbrev pub path_at : List ℕ → Option (List (List ℕ))
path_at text =
    when (is_absolute text) text >>= λ text.
    pathname_of text >>= λ pathname.
    result_ok (resolution [] pathname)

-- names, each behind a blank
abbrev pub all_names : List (List ℕ) → Option (List (List ℕ))
all_names [] = Some []
all_names (text ∷ texts) = name_of text >>= λ name. all_names texts >>= λ names. Some (name ∷ names)

abbrev pub names_at : List ℕ → Option (List (List ℕ))
names_at [] = Some []
names_at (c ∷ text) = when (c == 32) text >>= λ text. all_names (slice_split (λ c. c == 32) text)

-- a ring, or the number of a pointer register, in decimal
abbrev pub ring_number_at : List ℕ → Option ℕ
ring_number_at text = decimal_number 1 text >>= λ n. when (is_ring n) n

-- the number of an entry, or a point
abbrev pub entry_number_at : List ℕ → Option ℕ
entry_number_at text = decimal_number 6 text >>= λ n. when (is_entry_number n) n

-- the number of a line in a session text
abbrev pub line_number_at : List ℕ → Option ℕ
line_number_at text = decimal_number 10 text >>= λ n. when (is_line_number n) n

-- `S|W`
abbrev pub address_at : List ℕ → Option (ℕ × ℕ)
address_at text =
    cut_at 124 text >>= λ a.
    octal_number 4 a.0 >>= λ segno.
    word_number_of a.1 >>= λ word.
    Some (segno, word)

-- the denial of a name
abbrev pub all_denials : List Denial
all_denials =
    UnknownSegment ∷ NoSegment ∷ OutOfBounds ∷ NotReadable ∷ ReadBracket ∷ NotWritable ∷ WriteBracket ∷ NotExecutable
    ∷ ExecuteBracket ∷ CallBracket ∷ UpwardCall ∷ Gate ∷ RaisedRing ∷ BadReturn ∷ NotPointer ∷ IndirectLimit
    ∷ AimRead ∷ AimWrite ∷ []

abbrev pub denial_at : List ℕ → Option Denial
denial_at text = find (λ denial. pointwise ◌==◌ text (denial_text denial)) all_denials

-- the kind of reference that a word names
abbrev pub all_kinds : List Kind
all_kinds = kind.Read ∷ kind.Ind ∷ kind.Write ∷ kind.Fetch ∷ kind.Call ∷ kind.Return ∷ []

abbrev pub kind_at : List ℕ → Option Kind
kind_at text = find (λ kind. pointwise ◌==◌ text (kind_text kind)) all_kinds
