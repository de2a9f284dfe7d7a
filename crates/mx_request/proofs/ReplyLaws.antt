-- Laws of replies: a reply that fits is found again in its fields, so that no two have one text.
use Rattle.std.proofs.Common.{◌≡◌, ℕ, ◌==◌, ◌-◌, ◌<◌, ◌≤◌, ◌^◌, nat_le, nat_lt, ltb, Bool, true, false, if◌then◌else◌, not, List, [], ◌∷◌, ◌++◌, length, Option, Some, None, codes, refl, ap, sym, ◌∙◌, arith, append-nil, append_assoc}
use Rattle.std.proofs.lemmas.Bool.Decides.{nat_tests}
use Rattle.std.proofs.lemmas.Fmt.{digits_value-decimal, digits_decimal}
use Rattle.std.proofs.lemmas.List.Elements.{All-cons, All-nil}
use Rattle.std.proofs.lemmas.List.Splits.{slice_split_at, slice_split_none}
use Rattle.std.specs.Cmp.Lexicographic.{pointwise}
use Rattle.std.specs.Fmt.{decimal}
use Rattle.std.specs.List.{All, find, list_all, slice_split}
use Rattle.mx_name.proofs.TextLaws.{all_free, name_is_free}
use Rattle.mx_name.specs.Names.{is_free, is_name_byte, name_fault}
use Rattle.mx_name.specs.Paths.{names_text, path_text}
use Rattle.mx_sdw.proofs.OctalLaws.{octal_has_digits, octal_value-octal}
use Rattle.mx_sdw.specs.Octal.{is_octal_digit, octal, octal_value}
use Rattle.mx_aim.proofs.TextLaws.{class_of_text-class_text}
use Rattle.mx_aim.specs.Classes.{PlainClass, IsClass, class_text, class_of_text}
use Rattle.mx_acl.proofs.ModesLaws.{modes_again, modes_is_free}
use Rattle.mx_acl.specs.Modes.{modes_of_text}
use Rattle.mx_hier.specs.Refusals.{refusal_number, refusal_text}
use Rattle.mx_hier.specs.declared.asking.Status as said
use Rattle.mx_hier.specs.declared.asking.Status.TheVariants.{Segment, Object, Directory, Link}
use Rattle.mx_hier.specs.declared.refusals.Refusal.{Refusal}
use Rattle.mx_hier.specs.declared.refusals.Refusal.TheVariants.{BadPath, NoEntry, NoInfo, NotADir, LinkLoop, IncorrectAccess, NameDup, NotASeg, DirNotEmpty, DirFull, BadLength, BadBrackets, InvalidMode, AclFull, NoAclEntry, NoPages, KstFull, UnknownSegno, NotLinkage, SegmentNotFound, NotObject, NoDefinition, NoProcess, MailFull, Ended, BadClass}
use Rattle.mx_request.proofs.FieldLaws.{at_most, own, ring_free}
use Rattle.mx_name.proofs.CutLaws.{cut_again}
use Rattle.mx_name.specs.Cuts.{cut_at}
use Rattle.mx_request.proofs.AddressLaws.{address_free}
use Rattle.mx_request.proofs.ForeignLaws.{free_append, line_free}
use Rattle.mx_request.proofs.LineLaws.{same_fields}
use Rattle.mx_request.proofs.StepLaws.{both, both_hold, faultless, fails, some_is}
use Rattle.mx_request.specs.declared.replies.Reply.{Reply}
use Rattle.mx_request.specs.declared.replies.Reply.TheVariants.{Done, Refused, Status, Names, Segno, Linked, Sent, Message, Nobody, Waiting}
use Rattle.mx_request.specs.Fields.{ring_text, is_name}
use Rattle.mx_request.specs.Decimals.{decimal_after, is_digit}
use Rattle.mx_request.specs.ReplyTexts.{class_fields, fits_class, fits_reply, fits_status, fresh_text, linkage_fields, reply_fields, reply_text, status_fields}
use Rattle.mx_request.specs.RequestTexts.{is_ring}
use Rattle.mx_request.specs.Steps.{◌>>=◌}

-- numbers
pub below : (n : ℕ) → nat_lt n (2 ^ 64) ≡ true → n < 2 ^ 64
below n e = grind (arith, nat_tests)

pub decimal_again : (n : ℕ) → nat_lt n (2 ^ 64) ≡ true → decimal_after 0 (decimal n) ≡ n
decimal_again n e = digits_value-decimal own n (below n e)

pub decimal_free : (byte n : ℕ) → is_digit byte ≡ false → nat_lt n (2 ^ 64) ≡ true → is_free byte (decimal n) ≡ true
decimal_free byte n other e = all_free is_digit byte (decimal n) other (digits_decimal own n (below n e))

pub octal_free : (byte n : ℕ) → is_octal_digit byte ≡ false → is_free byte (octal n) ≡ true
octal_free byte n other = all_free is_octal_digit byte (octal n) other (octal_has_digits n)

abbrev digit_at : List ℕ → ℕ
digit_at [] = 0
digit_at (c ∷ cs) = c - 48

digit_again : (r : ℕ) → digit_at (ring_text r) ≡ r
digit_again r = omega arith

-- classes
class_below : (n : ℕ) → nat_lt n (2 ^ 18) ≡ true → n < 2 ^ 18
class_below n e = grind (arith, nat_tests)

is_class : (class : PlainClass) → fits_class (Some class) ≡ true → IsClass class
is_class class e =
    let f = both (nat_le class.level 7) (nat_lt class.categories (2 ^ 18)) e in
    record { level = at_most class.level 7 f.0; categories = class_below class.categories f.1 }

-- refusals, by their names
abbrev all_refusals : List Refusal
all_refusals =
    BadPath ∷ NoEntry ∷ NoInfo ∷ NotADir ∷ LinkLoop ∷ IncorrectAccess ∷ NameDup ∷ NotASeg ∷ DirNotEmpty ∷ DirFull ∷ BadLength
    ∷ BadBrackets ∷ InvalidMode ∷ AclFull ∷ NoAclEntry ∷ NoPages ∷ KstFull ∷ UnknownSegno ∷ NotLinkage ∷ SegmentNotFound
    ∷ NotObject ∷ NoDefinition ∷ NoProcess ∷ MailFull ∷ Ended ∷ BadClass ∷ []

abbrev refusal_at : List ℕ → Option Refusal
refusal_at text = find (λ why. pointwise ◌==◌ text (refusal_text why)) all_refusals

refusal_again : (why : Refusal) → refusal_at (refusal_text why) ≡ Some why
refusal_again BadPath = refl
refusal_again NoEntry = refl
refusal_again NoInfo = refl
refusal_again NotADir = refl
refusal_again LinkLoop = refl
refusal_again IncorrectAccess = refl
refusal_again NameDup = refl
refusal_again NotASeg = refl
refusal_again DirNotEmpty = refl
refusal_again DirFull = refl
refusal_again BadLength = refl
refusal_again BadBrackets = refl
refusal_again InvalidMode = refl
refusal_again AclFull = refl
refusal_again NoAclEntry = refl
refusal_again NoPages = refl
refusal_again KstFull = refl
refusal_again UnknownSegno = refl
refusal_again NotLinkage = refl
refusal_again SegmentNotFound = refl
refusal_again NotObject = refl
refusal_again NoDefinition = refl
refusal_again NoProcess = refl
refusal_again MailFull = refl
refusal_again Ended = refl
refusal_again BadClass = refl

refusal_bytes : (why : Refusal) → list_all is_name_byte (refusal_text why) ≡ true
refusal_bytes BadPath = refl
refusal_bytes NoEntry = refl
refusal_bytes NoInfo = refl
refusal_bytes NotADir = refl
refusal_bytes LinkLoop = refl
refusal_bytes IncorrectAccess = refl
refusal_bytes NameDup = refl
refusal_bytes NotASeg = refl
refusal_bytes DirNotEmpty = refl
refusal_bytes DirFull = refl
refusal_bytes BadLength = refl
refusal_bytes BadBrackets = refl
refusal_bytes InvalidMode = refl
refusal_bytes AclFull = refl
refusal_bytes NoAclEntry = refl
refusal_bytes NoPages = refl
refusal_bytes KstFull = refl
refusal_bytes UnknownSegno = refl
refusal_bytes NotLinkage = refl
refusal_bytes SegmentNotFound = refl
refusal_bytes NotObject = refl
refusal_bytes NoDefinition = refl
refusal_bytes NoProcess = refl
refusal_bytes MailFull = refl
refusal_bytes Ended = refl
refusal_bytes BadClass = refl

-- paths, by their parts
abbrev path_of_parts : List (List ℕ) → List (List ℕ)
path_of_parts [] = []
path_of_parts (root ∷ []) = []
path_of_parts (root ∷ [] ∷ parts) = []
path_of_parts (root ∷ (c ∷ cs) ∷ parts) = (c ∷ cs) ∷ parts

abbrev path_at : List ℕ → List (List ℕ)
path_at text = path_of_parts (slice_split (λ c. c == 62) text)

-- a text without `>` has it nowhere
no_mark : (text : List ℕ) → is_free 62 text ≡ true → All (λ c. (c == 62) ≡ false) text
no_mark [] e = All-nil _
no_mark (c ∷ cs) e =
    let f = both (not (c == 62)) (is_free 62 cs) e in
    All-cons (λ x. (x == 62) ≡ false) c cs (fails (c == 62) f.0) (no_mark cs f.1)

name_marks : (name : List ℕ) → is_name name ≡ true → All (λ c. (c == 62) ≡ false) name
name_marks name e = no_mark name (name_is_free 62 name refl (faultless (name_fault name) e))

parts_again : (name : List ℕ) (names : List (List ℕ)) → list_all is_name (name ∷ names) ≡ true
    → slice_split (λ c. c == 62) (name ++ names_text names) ≡ name ∷ names
parts_again name [] e =
    rw append-nil (slice_split_none (λ c. c == 62) name (name_marks name (both (is_name name) true e).0))
parts_again name (next ∷ names) e =
    let f = both (is_name name) (list_all is_name (next ∷ names)) e in
    slice_split_at (λ c. c == 62) name 62 (next ++ names_text names) (name_marks name f.0) refl
    ∙ ap (λ parts. name ∷ parts) (parts_again next names f.1)

not_empty : (name : List ℕ) (names : List (List ℕ)) → is_name name ≡ true → path_of_parts ([] ∷ name ∷ names) ≡ name ∷ names
not_empty [] names e = absurd (cc)
not_empty (c ∷ cs) names e = refl

path_again : (path : List (List ℕ)) → list_all is_name path ≡ true → path_at (path_text path) ≡ path
path_again [] e = refl
path_again (name ∷ names) e =
    ap (λ parts. path_of_parts ([] ∷ parts)) (parts_again name names e)
    ∙ not_empty name names (both (is_name name) (list_all is_name names) e).0

names_free : (byte : ℕ) (names : List (List ℕ)) → is_name_byte byte ≡ false → (62 == byte) ≡ false → list_all is_name names ≡ true
    → is_free byte (names_text names) ≡ true
names_free byte [] other mark e = refl
names_free byte (name ∷ names) other mark e =
    let f = both (is_name name) (list_all is_name names) e in
    rw mark (free_append byte name (names_text names) (name_is_free byte name other (faultless (name_fault name) f.0))
    (names_free byte names other mark f.1))

path_free : (byte : ℕ) (path : List (List ℕ)) → is_name_byte byte ≡ false → (62 == byte) ≡ false → list_all is_name path ≡ true
    → is_free byte (path_text path) ≡ true
path_free byte [] other mark e = rw mark refl
path_free byte (name ∷ names) other mark e = names_free byte (name ∷ names) other mark e

-- the reply that fields say, by the first of them
abbrev is : List ℕ → List ℕ → Bool
is word text = pointwise ◌==◌ word text

abbrev refused_at : List (List ℕ) → Option Reply
refused_at (number ∷ text ∷ []) = refusal_at text >>= λ why. Some (Refused why)
refused_at _ = None

abbrev class_at : List (List ℕ) → Option (Option PlainClass)
class_at [] = Some None
class_at (word ∷ class ∷ []) = class_of_text class >>= λ class. Some (Some class)
class_at _ = None

abbrev segment_at : List (List ℕ) → Option Reply
segment_at (w ∷ words ∷ b ∷ r1 ∷ r2 ∷ r3 ∷ m ∷ modes ∷ last) =
    modes_of_text modes >>= λ modes.
    class_at last >>= λ class.
    Some (Status (Segment (decimal_after 0 words) (record { r1 = digit_at r1; r2 = digit_at r2; r3 = digit_at r3 }) modes class))
segment_at _ = None

abbrev object_at : List (List ℕ) → Option Reply
object_at (w ∷ words ∷ b ∷ r1 ∷ r2 ∷ r3 ∷ g ∷ gate ∷ d ∷ definitions ∷ l ∷ links ∷ m ∷ modes ∷ last) =
    modes_of_text modes >>= λ modes.
    class_at last >>= λ class.
    Some (Status (Object (decimal_after 0 words) (record { r1 = digit_at r1; r2 = digit_at r2; r3 = digit_at r3 })
    (decimal_after 0 gate) (decimal_after 0 definitions) (decimal_after 0 links) modes class))
object_at _ = None

abbrev directory_at : List (List ℕ) → Option Reply
directory_at (b ∷ d1 ∷ d2 ∷ m ∷ modes ∷ []) =
    modes_of_text modes >>= λ modes. Some (Status (Directory (digit_at d1) (digit_at d2) modes))
directory_at _ = None

abbrev link_at : List (List ℕ) → Option Reply
link_at (target ∷ []) = Some (Status (Link (path_at target)))
link_at _ = None

abbrev linkage_at : List (List ℕ) → Option (Option ℕ)
linkage_at [] = Some None
linkage_at (word ∷ segno ∷ []) = Some (Some (octal_value segno))
linkage_at _ = None

abbrev segno_at : List (List ℕ) → Option Reply
segno_at (segno ∷ fresh ∷ section) =
    linkage_at section >>= λ linkage.
    Some (Segno (record { segno = octal_value segno; fresh = is fresh (codes "new"); linkage = linkage }))
segno_at _ = None

abbrev linked_at : List (List ℕ) → Option Reply
linked_at (address ∷ fresh ∷ section) =
    linkage_at section >>= λ linkage.
    cut_at 124 address >>= λ p.
    Some (Linked (octal_value p.0) (octal_value p.1) (is fresh (codes "new")) linkage)
linked_at _ = None

abbrev message_at : List (List ℕ) → Option Reply
message_at (sender ∷ word ∷ []) = Some (Message (decimal_after 0 sender) (octal_value word))
message_at _ = None

abbrev reply_of : List ℕ → List (List ℕ) → Option Reply
reply_of word fields =
    if is word (codes "ok") then Some Done
    else (if is word (codes "refused") then refused_at fields
    else (if is word (codes "segment") then segment_at fields
    else (if is word (codes "object") then object_at fields
    else (if is word (codes "directory") then directory_at fields
    else (if is word (codes "link") then link_at fields
    else (if is word (codes "names") then Some (Names fields)
    else (if is word (codes "segno") then segno_at fields
    else (if is word (codes "linked") then linked_at fields
    else (if is word (codes "sent") then Some Sent
    else (if is word (codes "message") then message_at fields
    else (if is word (codes "nobody") then Some Nobody
    else (if is word (codes "waiting") then Some Waiting
    else None))))))))))))

abbrev reply_at : List (List ℕ) → Option Reply
reply_at [] = None
reply_at (word ∷ fields) = reply_of word fields

fresh_again : (fresh : Bool) → is (fresh_text fresh) (codes "new") ≡ fresh
fresh_again true = refl
fresh_again false = refl

linkage_again : (linkage : Option ℕ) → linkage_at (linkage_fields linkage) ≡ Some linkage
linkage_again None = refl
linkage_again (Some segno) = rw (octal_value-octal segno) refl

class_again : (class : Option PlainClass) → fits_class class ≡ true → class_at (class_fields class) ≡ Some class
class_again None e = refl
class_again (Some class) e = rw (class_of_text-class_text class (is_class class e)) refl

status_again : (status : said.Status) → fits_status status ≡ true → reply_at (status_fields status) ≡ Some (Status status)
status_again (Segment words brackets modes class) e =
    let f = both (nat_lt words (2 ^ 64)) _ e in
    let g = both (is_ring brackets.r1) _ f.1 in
    let h = both (is_ring brackets.r2) _ g.1 in
    let i = both (is_ring brackets.r3) (fits_class class) h.1 in
    rw (
      modes_again modes,
      class_again class i.1,
      decimal_again words f.0,
      digit_again brackets.r1,
      digit_again brackets.r2,
      digit_again brackets.r3,
    ) refl
status_again (Object words brackets gate definitions links modes class) e =
    let f = both (nat_lt words (2 ^ 64)) _ e in
    let g = both (nat_lt gate (2 ^ 64)) _ f.1 in
    let h = both (nat_lt definitions (2 ^ 64)) _ g.1 in
    let i = both (nat_lt links (2 ^ 64)) _ h.1 in
    let j = both (is_ring brackets.r1) _ i.1 in
    let k = both (is_ring brackets.r2) _ j.1 in
    let l = both (is_ring brackets.r3) (fits_class class) k.1 in
    rw (
      modes_again modes,
      class_again class l.1,
      decimal_again words f.0,
      decimal_again gate g.0,
      decimal_again definitions h.0,
      decimal_again links i.0,
      digit_again brackets.r1,
      digit_again brackets.r2,
      digit_again brackets.r3,
    ) refl
status_again (Directory d1 d2 modes) e = rw (modes_again modes, digit_again d1, digit_again d2) refl
status_again (Link target) e = ap (λ path. Some (Status (Link path))) (path_again target e)

-- a reply that fits is found again in its fields
reply_again : (reply : Reply) → fits_reply reply ≡ true → reply_at (reply_fields reply) ≡ Some reply
reply_again Done e = refl
reply_again (Refused why) e = rw (refusal_again why) refl
reply_again (Status status) e = status_again status e
reply_again (Names names) e = refl
reply_again (Segno known) e =
    rw (linkage_again known.linkage, octal_value-octal known.segno, fresh_again known.fresh) refl
reply_again (Linked segno word fresh linkage) e =
    rw (
      linkage_again linkage,
      append_assoc,
      cut_again 124 (octal segno) (octal word) (octal_free 124 segno refl),
      octal_value-octal segno,
      octal_value-octal word,
      fresh_again fresh,
    ) refl
reply_again Sent e = refl
reply_again (Message sender word) e = rw (decimal_again sender e, octal_value-octal word) refl
reply_again Nobody e = refl
reply_again Waiting e = refl

-- bytes that no reply has
pub record IsApart (byte : ℕ) : Type 0 where
  pub no_name : is_name_byte byte ≡ false
  pub no_digit : is_digit byte ≡ false
  pub no_octal : is_octal_digit byte ≡ false
  pub no_letter : ltb 96 byte ≡ false
  pub no_mark : (62 == byte) ≡ false
  pub no_bar : (124 == byte) ≡ false
  pub no_colon : (58 == byte) ≡ false

fresh_bytes : (fresh : Bool) → list_all is_name_byte (fresh_text fresh) ≡ true
fresh_bytes true = refl
fresh_bytes false = refl

module _ (byte : ℕ) (apart : IsApart byte) where
  word_free : (text : List ℕ) → list_all is_name_byte text ≡ true → is_free byte text ≡ true
  word_free text e = all_free is_name_byte byte text apart.no_name e

  small_number : (why : Refusal) → nat_lt (refusal_number why) (2 ^ 64) ≡ true
  small_number BadPath = refl
  small_number NoEntry = refl
  small_number NoInfo = refl
  small_number NotADir = refl
  small_number LinkLoop = refl
  small_number IncorrectAccess = refl
  small_number NameDup = refl
  small_number NotASeg = refl
  small_number DirNotEmpty = refl
  small_number DirFull = refl
  small_number BadLength = refl
  small_number BadBrackets = refl
  small_number InvalidMode = refl
  small_number AclFull = refl
  small_number NoAclEntry = refl
  small_number NoPages = refl
  small_number KstFull = refl
  small_number UnknownSegno = refl
  small_number NotLinkage = refl
  small_number SegmentNotFound = refl
  small_number NotObject = refl
  small_number NoDefinition = refl
  small_number NoProcess = refl
  small_number MailFull = refl
  small_number Ended = refl
  small_number BadClass = refl

  class_text_free : (class : PlainClass) → is_free byte (class_text class) ≡ true
  class_text_free class =
      free_append byte (octal class.level ++ codes ":") (octal class.categories)
      (free_append byte (octal class.level) (codes ":") (octal_free byte class.level apart.no_octal) (rw apart.no_colon refl))
      (octal_free byte class.categories apart.no_octal)

  class_free : (class : Option PlainClass) → list_all (is_free byte) (class_fields class) ≡ true
  class_free None = refl
  class_free (Some class) =
      both_hold _ _ (word_free (codes "class") refl) (both_hold _ _ (class_text_free class) refl)

  status_free : (status : said.Status) → fits_status status ≡ true → list_all (is_free byte) (status_fields status) ≡ true
  status_free (Segment words brackets modes class) e =
      let f = both (nat_lt words (2 ^ 64)) _ e in
      let g = both (is_ring brackets.r1) _ f.1 in
      let h = both (is_ring brackets.r2) _ g.1 in
      let i = both (is_ring brackets.r3) (fits_class class) h.1 in
      both_hold _ _ (word_free (codes "segment") refl)
      (both_hold _ _ (word_free (codes "words") refl)
      (both_hold _ _ (decimal_free byte words apart.no_digit f.0)
      (both_hold _ _ (word_free (codes "brackets") refl)
      (both_hold _ _ (ring_free byte brackets.r1 apart.no_digit g.0)
      (both_hold _ _ (ring_free byte brackets.r2 apart.no_digit h.0)
      (both_hold _ _ (ring_free byte brackets.r3 apart.no_digit i.0)
      (both_hold _ _ (word_free (codes "modes") refl)
      (both_hold _ _ (modes_is_free byte modes apart.no_letter) (class_free class)))))))))
  status_free (Object words brackets gate definitions links modes class) e =
      let f = both (nat_lt words (2 ^ 64)) _ e in
      let g = both (nat_lt gate (2 ^ 64)) _ f.1 in
      let h = both (nat_lt definitions (2 ^ 64)) _ g.1 in
      let i = both (nat_lt links (2 ^ 64)) _ h.1 in
      let j = both (is_ring brackets.r1) _ i.1 in
      let k = both (is_ring brackets.r2) _ j.1 in
      let l = both (is_ring brackets.r3) (fits_class class) k.1 in
      both_hold _ _ (word_free (codes "object") refl)
      (both_hold _ _ (word_free (codes "words") refl)
      (both_hold _ _ (decimal_free byte words apart.no_digit f.0)
      (both_hold _ _ (word_free (codes "brackets") refl)
      (both_hold _ _ (ring_free byte brackets.r1 apart.no_digit j.0)
      (both_hold _ _ (ring_free byte brackets.r2 apart.no_digit k.0)
      (both_hold _ _ (ring_free byte brackets.r3 apart.no_digit l.0)
      (both_hold _ _ (word_free (codes "gate") refl)
      (both_hold _ _ (decimal_free byte gate apart.no_digit g.0)
      (both_hold _ _ (word_free (codes "definitions") refl)
      (both_hold _ _ (decimal_free byte definitions apart.no_digit h.0)
      (both_hold _ _ (word_free (codes "links") refl)
      (both_hold _ _ (decimal_free byte links apart.no_digit i.0)
      (both_hold _ _ (word_free (codes "modes") refl)
      (both_hold _ _ (modes_is_free byte modes apart.no_letter) (class_free class)))))))))))))))
  status_free (Directory d1 d2 modes) e =
      let f = both (is_ring d1) (is_ring d2) e in
      both_hold _ _ (word_free (codes "directory") refl)
      (both_hold _ _ (word_free (codes "brackets") refl)
      (both_hold _ _ (ring_free byte d1 apart.no_digit f.0)
      (both_hold _ _ (ring_free byte d2 apart.no_digit f.1)
      (both_hold _ _ (word_free (codes "modes") refl)
      (both_hold _ _ (modes_is_free byte modes apart.no_letter) refl)))))
  status_free (Link target) e =
      both_hold _ _ (word_free (codes "link") refl)
      (both_hold _ _ (path_free byte target apart.no_name apart.no_mark e) refl)

  all_names_free : (names : List (List ℕ)) → list_all is_name names ≡ true → list_all (is_free byte) names ≡ true
  all_names_free [] e = refl
  all_names_free (name ∷ names) e =
      let f = both (is_name name) (list_all is_name names) e in
      both_hold _ _ (name_is_free byte name apart.no_name (faultless (name_fault name) f.0)) (all_names_free names f.1)

  linkage_free : (linkage : Option ℕ) → list_all (is_free byte) (linkage_fields linkage) ≡ true
  linkage_free None = refl
  linkage_free (Some segno) =
      both_hold _ _ (word_free (codes "linkage") refl) (both_hold _ _ (octal_free byte segno apart.no_octal) refl)

  pub fields_free : (reply : Reply) → fits_reply reply ≡ true → list_all (is_free byte) (reply_fields reply) ≡ true
  fields_free Done e = both_hold _ _ (word_free (codes "ok") refl) refl
  fields_free (Refused why) e =
      both_hold _ _ (word_free (codes "refused") refl)
      (both_hold _ _ (decimal_free byte (refusal_number why) apart.no_digit (small_number why))
      (both_hold _ _ (word_free (refusal_text why) (refusal_bytes why)) refl))
  fields_free (Status status) e = status_free status e
  fields_free (Names names) e = both_hold _ _ (word_free (codes "names") refl) (all_names_free names e)
  fields_free (Segno known) e =
      both_hold _ _ (word_free (codes "segno") refl)
      (both_hold _ _ (octal_free byte known.segno apart.no_octal)
      (both_hold _ _ (word_free (fresh_text known.fresh) (fresh_bytes known.fresh)) (linkage_free known.linkage)))
  fields_free (Linked segno word fresh linkage) e =
      both_hold _ _ (word_free (codes "linked") refl)
      (both_hold _ _ (address_free byte segno word apart.no_octal apart.no_bar)
      (both_hold _ _ (word_free (fresh_text fresh) (fresh_bytes fresh)) (linkage_free linkage)))
  fields_free Sent e = both_hold _ _ (word_free (codes "sent") refl) refl
  fields_free (Message sender word) e =
      both_hold _ _ (word_free (codes "message") refl)
      (both_hold _ _ (decimal_free byte sender apart.no_digit e)
      (both_hold _ _ (octal_free byte word apart.no_octal) refl))
  fields_free Nobody e = both_hold _ _ (word_free (codes "nobody") refl) refl
  fields_free Waiting e = both_hold _ _ (word_free (codes "waiting") refl) refl

blank : IsApart 32
blank = record { no_name = refl; no_digit = refl; no_octal = refl; no_letter = refl; no_mark = refl; no_bar = refl; no_colon = refl }

newline : IsApart 10
newline = record { no_name = refl; no_digit = refl; no_octal = refl; no_letter = refl; no_mark = refl; no_bar = refl; no_colon = refl }

pub reply_newline_free : (reply : Reply) → fits_reply reply ≡ true → is_free 10 (reply_text reply) ≡ true
reply_newline_free reply e = line_free 10 (reply_fields reply) refl (fields_free 10 newline reply e)

some_field : (reply : Reply) → 1 ≤ length (reply_fields reply)
some_field Done = omega arith
some_field (Refused why) = omega arith
some_field (Status (Segment words brackets modes class)) = omega arith
some_field (Status (Object words brackets gate definitions links modes class)) = omega arith
some_field (Status (Directory d1 d2 modes)) = omega arith
some_field (Status (Link target)) = omega arith
some_field (Names names) = omega arith
some_field (Segno known) = omega arith
some_field (Linked segno word fresh linkage) = omega arith
some_field Sent = omega arith
some_field (Message sender word) = omega arith
some_field Nobody = omega arith
some_field Waiting = omega arith

-- two replies that fit and have one text are the same
pub one_reply : (one other : Reply) → fits_reply one ≡ true → fits_reply other ≡ true → reply_text one ≡ reply_text other → one ≡ other
one_reply one other e f same =
    let fields = same_fields (reply_fields one) (reply_fields other) (some_field one) (some_field other)
    (fields_free 32 blank one e) (fields_free 32 blank other f) same in
    some_is _ _ (sym (reply_again one e) ∙ ap reply_at fields ∙ reply_again other f)
