-- A reply within its bounds is one that its text can say.
use Rattle.std.proofs.Common.{◌≡◌, ℕ, ◌^◌, nat_le, nat_lt, Bool, true, ◌&&◌, Option, Some, None, refl, arith}
use Rattle.std.proofs.lemmas.Bool.Decides.{nat_tests}
use Rattle.mx_aim.specs.Classes.{PlainClass}
use Rattle.mx_hier.specs.declared.asking.Status as said
use Rattle.mx_hier.specs.declared.asking.Status.TheVariants as status
use Rattle.mx_request.proofs.FieldLaws.{at_most, at_most_test}
use Rattle.mx_request.proofs.StepLaws.{both, both_hold}
use Rattle.mx_request.specs.ReplyTexts.{fits_class, fits_reply, fits_status}
use Rattle.mx_request.specs.RequestTexts.{is_class, is_ring, is_word}
use Rattle.mx_request.specs.declared.replies.Reply.{Reply}
use Rattle.mx_request.specs.declared.replies.Reply.TheVariants as reply
use Rattle.mx_sdw.specs.Rings.{Bracketing}
use Rattle.mx_spelling.specs.Spelling.{are_ordered, bounds_reply, bounds_status, is_amount, is_none_or, is_process}

class_fits : (class : Option PlainClass) → is_none_or class is_class ≡ true → fits_class class ≡ true
class_fits None e = refl
class_fits (Some class) e = e

amount_fits : (n : ℕ) → is_amount n ≡ true → nat_lt n (2 ^ 64) ≡ true
amount_fits n e = grind (arith, nat_tests)

sender_fits : (n : ℕ) → is_process n ≡ true → nat_lt n (2 ^ 64) ≡ true
sender_fits n e = grind (arith, nat_tests)

brackets_fit : (b : Bracketing) (class : Option PlainClass) → (are_ordered b && is_none_or class is_class) ≡ true
    → (is_ring b.r1 && (is_ring b.r2 && (is_ring b.r3 && fits_class class))) ≡ true
brackets_fit b class e =
    let f = both (are_ordered b) (is_none_or class is_class) e in
    let g = both (nat_le b.r1 b.r2) (nat_le b.r2 b.r3 && is_ring b.r3) f.0 in
    let k = both (nat_le b.r2 b.r3) (is_ring b.r3) g.1 in
    let first = at_most b.r1 b.r2 g.0 in
    let last = at_most b.r2 b.r3 k.0 in
    let low = at_most b.r3 7 k.1 in
    both_hold _ _ (at_most_test b.r1 7 (omega (arith, first, last, low)))
    (both_hold _ _ (at_most_test b.r2 7 (omega (arith, last, low))) (both_hold _ _ k.1 (class_fits class f.1)))

status_fits : (s : said.Status) → bounds_status s ≡ true → fits_status s ≡ true
status_fits (status.Segment words b modes class) e =
    let f = both (is_amount words) (are_ordered b && is_none_or class is_class) e in
    both_hold _ _ (amount_fits words f.0) (brackets_fit b class f.1)
status_fits (status.Object words b gate definitions links modes class) e =
    let rest : Bool = are_ordered b && is_none_or class is_class in
    let f = both (is_amount words) (is_amount gate && (is_amount definitions && (is_amount links && rest))) e in
    let g = both (is_amount gate) (is_amount definitions && (is_amount links && rest)) f.1 in
    let k = both (is_amount definitions) (is_amount links && rest) g.1 in
    let l = both (is_amount links) rest k.1 in
    both_hold _ _ (amount_fits words f.0)
    (both_hold _ _ (amount_fits gate g.0)
    (both_hold _ _ (amount_fits definitions k.0) (both_hold _ _ (amount_fits links l.0) (brackets_fit b class l.1))))
status_fits (status.Directory d1 d2 modes) e = e
status_fits (status.Link target) e = e

pub reply_fits : (r : Reply) → bounds_reply r ≡ true → fits_reply r ≡ true
reply_fits (reply.Status s) e = status_fits s e
reply_fits (reply.Names names) e = e
reply_fits (reply.Message sender word) e = sender_fits sender (both (is_process sender) (is_word word) e).0
reply_fits reply.Done e = refl
reply_fits (reply.Refused why) e = refl
reply_fits (reply.Segno known) e = refl
reply_fits (reply.Linked segno word fresh linkage) e = refl
reply_fits reply.Sent e = refl
reply_fits reply.Nobody e = refl
reply_fits reply.Waiting e = refl
