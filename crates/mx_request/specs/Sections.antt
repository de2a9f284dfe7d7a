-- The linkage section of which a reply tells: the one that was made, by its number.
use Rattle.std.specs.Prelude.{ℕ, Option, None}
use Rattle.mx_request.specs.declared.replies.Reply.{Reply}
use Rattle.mx_request.specs.declared.replies.Reply.TheVariants.{Done, Refused, Status, Names, Segno, Linked, Sent, Message, Nobody, Waiting}

abbrev pub section_in : Reply → Option ℕ
section_in (Segno known) = known.linkage
section_in (Linked segno word fresh linkage) = linkage
section_in Done = None
section_in (Refused why) = None
section_in (Status status) = None
section_in (Names names) = None
section_in Sent = None
section_in (Message sender word) = None
section_in Nobody = None
section_in Waiting = None
