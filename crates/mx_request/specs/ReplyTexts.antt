-- The replies, each as the text that the journal has of it.
use Rattle.std.specs.Prelude.{ℕ, ◌^◌, nat_lt, Bool, true, false, ◌&&◌, List, [], ◌∷◌, Option, None, Some, codes}
use Rattle.std.specs.Fmt.{decimal}
use Rattle.std.specs.List.{list_all}
use Rattle.mx_name.specs.Paths.{path_text}
use Rattle.mx_sdw.specs.Octal.{octal}
use Rattle.mx_aim.specs.Classes.{PlainClass, class_text}
use Rattle.mx_acl.specs.Modes.{modes_text}
use Rattle.mx_hier.specs.Refusals.{refusal_number, refusal_text}
use Rattle.mx_hier.specs.declared.asking.Status as said
use Rattle.mx_hier.specs.declared.asking.Status.TheVariants.{Segment, Object, Directory, Link}
use Rattle.mx_request.specs.declared.replies.Reply.{Reply}
use Rattle.mx_request.specs.declared.replies.Reply.TheVariants.{Done, Refused, Status, Names, Segno, Linked, Sent, Message, Nobody, Waiting}
use Rattle.mx_request.specs.Fields.{line_of, ring_text, is_name, address_text}
use Rattle.mx_request.specs.RequestTexts.{is_ring, is_class}

-- whether the segment has become known by this request
abbrev pub fresh_text : Bool → List ℕ
fresh_text true = codes "new"
fresh_text false = codes "old"

-- the linkage section that was made with it
abbrev pub linkage_fields : Option ℕ → List (List ℕ)
linkage_fields None = []
linkage_fields (Some segno) = codes "linkage" ∷ octal segno ∷ []

-- the class of a segment, where one is said
abbrev pub class_fields : Option PlainClass → List (List ℕ)
class_fields None = []
class_fields (Some class) = codes "class" ∷ class_text class ∷ []

abbrev pub status_fields : said.Status → List (List ℕ)
status_fields (Segment words brackets modes class) =
    codes "segment" ∷ codes "words" ∷ decimal words
    ∷ codes "brackets" ∷ ring_text brackets.r1 ∷ ring_text brackets.r2 ∷ ring_text brackets.r3
    ∷ codes "modes" ∷ modes_text modes ∷ class_fields class
status_fields (Object words brackets gate definitions links modes class) =
    codes "object" ∷ codes "words" ∷ decimal words
    ∷ codes "brackets" ∷ ring_text brackets.r1 ∷ ring_text brackets.r2 ∷ ring_text brackets.r3
    ∷ codes "gate" ∷ decimal gate ∷ codes "definitions" ∷ decimal definitions ∷ codes "links" ∷ decimal links
    ∷ codes "modes" ∷ modes_text modes ∷ class_fields class
status_fields (Directory d1 d2 modes) =
    codes "directory" ∷ codes "brackets" ∷ ring_text d1 ∷ ring_text d2 ∷ codes "modes" ∷ modes_text modes ∷ []
status_fields (Link target) = codes "link" ∷ path_text target ∷ []

-- the fields of a reply's text: a segment number and a word are octal, all else decimal; an empty directory gives
-- `names` alone
abbrev pub reply_fields : Reply → List (List ℕ)
reply_fields Done = codes "ok" ∷ []
reply_fields (Refused why) = codes "refused" ∷ decimal (refusal_number why) ∷ refusal_text why ∷ []
reply_fields (Status status) = status_fields status
reply_fields (Names names) = codes "names" ∷ names
reply_fields (Segno known) =
    codes "segno" ∷ octal known.segno ∷ fresh_text known.fresh ∷ linkage_fields known.linkage
reply_fields (Linked segno word fresh linkage) =
    codes "linked" ∷ address_text segno word ∷ fresh_text fresh ∷ linkage_fields linkage
reply_fields Sent = codes "sent" ∷ []
reply_fields (Message sender word) = codes "message" ∷ decimal sender ∷ octal word ∷ []
reply_fields Nobody = codes "nobody" ∷ []
reply_fields Waiting = codes "waiting" ∷ []

abbrev pub reply_text : Reply → List ℕ
reply_text reply = line_of (reply_fields reply)

-- a class that is said is one
abbrev pub fits_class : Option PlainClass → Bool
fits_class None = true
fits_class (Some class) = is_class class

-- What a reply's text can say: names of their grammar, rings to 7, numbers of 64 bits, and classes.
abbrev pub fits_status : said.Status → Bool
fits_status (Segment words brackets modes class) =
    nat_lt words (2 ^ 64) && (is_ring brackets.r1 && (is_ring brackets.r2 && (is_ring brackets.r3 && fits_class class)))
fits_status (Object words brackets gate definitions links modes class) =
    nat_lt words (2 ^ 64) && (nat_lt gate (2 ^ 64) && (nat_lt definitions (2 ^ 64) && (nat_lt links (2 ^ 64)
    && (is_ring brackets.r1 && (is_ring brackets.r2 && (is_ring brackets.r3 && fits_class class))))))
fits_status (Directory d1 d2 modes) = is_ring d1 && is_ring d2
fits_status (Link target) = list_all is_name target

abbrev pub fits_reply : Reply → Bool
fits_reply Done = true
fits_reply (Refused why) = true
fits_reply (Status status) = fits_status status
fits_reply (Names names) = list_all is_name names
fits_reply (Segno known) = true
fits_reply (Linked segno word fresh linkage) = true
fits_reply Sent = true
fits_reply (Message sender word) = nat_lt sender (2 ^ 64)
fits_reply Nobody = true
fits_reply Waiting = true
