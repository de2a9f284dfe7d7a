-- Laws of replies: what a text is read as has that text, and a reply that can be said is read back.
use Rattle.std.proofs.Common.{◌≡◌, ℕ, ◌==◌, ◌<◌, ◌^◌, true, ◌&&◌, List, ◌∷◌, ◌++◌, None, Some, codes, refl, ap, sym, subst, ◌∙◌, append_assoc, nat_le, length, arith}
use Rattle.std.proofs.lemmas.Bool.{eqb-true, eq-eqb}
use Rattle.std.specs.Fmt.{decimal}
use Rattle.std.specs.List.{list_all}
use Rattle.mx_acl.proofs.ModesLaws.{modes_again, modes_takes}
use Rattle.mx_acl.specs.Modes.{modes_of_text, modes_text}
use Rattle.mx_hier.specs.Refusals.{refusal_number, refusal_text}
use Rattle.mx_hier.specs.declared.asking.Status as said
use Rattle.mx_hier.specs.declared.asking.Status.TheVariants.{Segment, Object, Directory, Link}
use Rattle.mx_hier.specs.declared.refusals.Refusal.{Refusal}
use Rattle.mx_hier.specs.declared.refusals.Refusal.TheVariants.{BadPath, NoEntry, NoInfo, NotADir, LinkLoop, IncorrectAccess, NameDup, NotASeg, DirNotEmpty, DirFull, BadLength, BadBrackets, InvalidMode, AclFull, NoAclEntry, NoPages, KstFull, UnknownSegno, NotLinkage, SegmentNotFound, NotObject, NoDefinition, NoProcess, MailFull, Ended, BadClass}
use Rattle.mx_name.proofs.CutLaws.{cut_takes, cut_again}
use Rattle.mx_name.specs.Cuts.{cut_at}
use Rattle.mx_name.specs.Paths.{path_text}
use Rattle.mx_reader.proofs.FieldLaws.{amount_then_again, amount_then_takes, brackets_again, brackets_take, known_again, known_takes, map_takes, modes_back, modes_take, path_again, path_takes, process_again, process_free, process_takes, refusal_again, refusal_takes}
use Rattle.mx_reader.proofs.NameLaws.{line_behind, names_again, names_take}
use Rattle.mx_reader.proofs.FrontLaws.{read_or_takes, word_takes}
use Rattle.mx_reader.specs.Exact.{IsExact}
use Rattle.mx_reader.specs.Fields.{amount_then, brackets_then, known_at, map_then, modes_at, names_at, path_at, process_at, refusal_at}
use Rattle.mx_reader.specs.Lines.{IsReply}
use Rattle.mx_reader.specs.ReadingReplies.{bare_at, directory_at, link_reply, linked_at, message_at, names_reply, object_at, plain_at, refused_at, reply_at, segment_at, segno_at, short_at}
use Rattle.mx_reader.specs.RunTexts.{says_reply}
use Rattle.mx_request.proofs.AddressLaws.{address_free}
use Rattle.mx_request.proofs.FieldLaws.{number_again, number_free, number_takes, ring_again, ring_free, ring_takes, segno_again, segno_takes, word_number_again, word_number_takes}
use Rattle.mx_request.proofs.StepLaws.{both, both_hold, bind_some, some_is, when_some}
use Rattle.mx_request.specs.Decimals.{decimal_number}
use Rattle.mx_request.specs.Fields.{address_text, is_name, line_of, ring_text}
use Rattle.mx_request.specs.Reading.{ring_at}
use Rattle.mx_request.specs.ReplyTexts.{class_fields, fresh_text, linkage_fields, reply_text}
use Rattle.mx_request.specs.RequestTexts.{is_class, is_path, is_ring, is_segno, is_word, is_word_address}
use Rattle.mx_request.specs.WordNumbers.{word_number_of}
use Rattle.mx_request.specs.declared.replies.Reply.{Reply}
use Rattle.mx_request.specs.declared.replies.Reply.TheVariants.{Done, Refused, Status, Names, Segno, Linked, Sent, Message, Nobody, Waiting}
use Rattle.mx_script.proofs.FieldLaws.{octal_free, word_again}
use Rattle.mx_script.proofs.FieldLaws as field
use Rattle.mx_script.proofs.FrontLaws.{after_takes}
use Rattle.mx_script.specs.Fields.{word_at}
use Rattle.mx_script.specs.Fronts.{after}
use Rattle.mx_sdw.specs.Octal.{octal, octal_number}
use Rattle.mx_sdw.specs.Rings.{Bracketing}
use Rattle.mx_spelling.specs.Spelling.{are_ordered, bounds_status, is_amount, is_none_or, is_process}

-- what is read of each kind of reply
refused_takes : (text : List ℕ) (reply : Reply) → refused_at text ≡ Some reply → IsReply (codes "refused " ++ text) reply
refused_takes text reply e =
    let p = bind_some (cut_at 32 text) _ reply e in
    let n = bind_some (decimal_number 2 p.0.0) _ reply p.2 in
    let w = bind_some (refusal_at p.0.1) _ reply n.2 in
    let f = when_some (n.0 == refusal_number w.0) (Refused w.0) reply w.2 in
    let number = number_takes 2 p.0.0 n.0 (omega arith) n.1 in
    let same : n.0 ≡ refusal_number w.0 = eqb-true n.0 (refusal_number w.0) f.0 in
    subst (IsReply (codes "refused " ++ text)) f.1 (record {
      spelled = spelled (decimal (refusal_number w.0)) (refusal_text w.0) text p.0.0 p.0.1 (cut_takes 32 text p.0 p.1).0
          (ap decimal (sym same) ∙ number.0) (refusal_takes p.0.1 w.0 w.1);
      says = refl;
    })
  where
    spelled : (number name text x y : List ℕ) → text ≡ x ++ 32 ∷ y → number ≡ x → name ≡ y
        → codes "refused " ++ (number ++ 32 ∷ name) ≡ codes "refused " ++ text
    spelled number name text x y e f g = rw (e, f, g) refl

segment_takes : (text : List ℕ) (reply : Reply) → segment_at text ≡ Some reply → IsReply (codes "segment words " ++ text) reply
segment_takes text reply e =
    let w = bind_some (amount_then text) _ reply e in
    let r = bind_some (after (codes "brackets ") w.0.1) _ reply w.2 in
    let b = bind_some (brackets_then r.0) _ reply r.2 in
    let s = bind_some (after (codes "modes ") b.0.1) _ reply b.2 in
    let m = bind_some (modes_at s.0) _ reply s.2 in
    let words = amount_then_takes text w.0 w.1 in
    let brackets = brackets_take r.0 b.0 b.1 in
    let modes = modes_take s.0 m.0 m.1 in
    subst (IsReply (codes "segment words " ++ text)) (some_is _ _ m.2) (record {
      spelled = spelled w.0.0 b.0.0 (line_of (modes_text m.0.0 ∷ class_fields m.0.1)) text w.0.1 r.0 b.0.1 s.0 words.spelled
          (after_takes (codes "brackets ") w.0.1 r.0 r.1) brackets.spelled (after_takes (codes "modes ") b.0.1 s.0 s.1) modes.spelled;
      says = both_hold _ _ (both_hold _ _ words.fits (both_hold _ _ brackets.fits modes.fits)) refl;
    })
  where
    spelled : (words : ℕ) (b : Bracketing) (modes text w r c s : List ℕ) → text ≡ decimal words ++ 32 ∷ w → w ≡ codes "brackets " ++ r
        → r ≡ ring_text b.r1 ++ 32 ∷ (ring_text b.r2 ++ 32 ∷ (ring_text b.r3 ++ 32 ∷ c)) → c ≡ codes "modes " ++ s → modes ≡ s
        → codes "segment words " ++ (decimal words ++ 32 ∷ (codes "brackets " ++ (ring_text b.r1 ++ 32 ∷ (ring_text b.r2 ++ 32 ∷ (ring_text b.r3
        ++ 32 ∷ (codes "modes " ++ modes))))))
        ≡ codes "segment words " ++ text
    spelled words b modes text w r c s e f g h i = rw (e, f, g, h, i) refl

object_takes : (text : List ℕ) (reply : Reply) → object_at text ≡ Some reply → IsReply (codes "object words " ++ text) reply
object_takes text reply e =
    let w = bind_some (amount_then text) _ reply e in
    let r = bind_some (after (codes "brackets ") w.0.1) _ reply w.2 in
    let b = bind_some (brackets_then r.0) _ reply r.2 in
    let g = bind_some (map_then b.0.1) _ reply b.2 in
    let s = bind_some (after (codes "modes ") g.0.1) _ reply g.2 in
    let m = bind_some (modes_at s.0) _ reply s.2 in
    let words = amount_then_takes text w.0 w.1 in
    let brackets = brackets_take r.0 b.0 b.1 in
    let counts = map_takes b.0.1 g.0 g.1 in
    let modes = modes_take s.0 m.0 m.1 in
    subst (IsReply (codes "object words " ++ text)) (some_is _ _ m.2) (record {
      spelled = spelled w.0.0 b.0.0 (decimal g.0.0.0) (decimal g.0.0.1) (decimal g.0.0.2) (line_of (modes_text m.0.0 ∷ class_fields m.0.1)) text w.0.1 r.0
          b.0.1 g.0.1 s.0 words.spelled (after_takes (codes "brackets ") w.0.1 r.0 r.1) brackets.spelled counts.spelled
          (after_takes (codes "modes ") g.0.1 s.0 s.1) modes.spelled;
      says = both_hold _ _ (both_hold _ _ words.fits (both_hold _ _ counts.gate (both_hold _ _ counts.definitions (both_hold _ _ counts.links
          (both_hold _ _ brackets.fits modes.fits))))) refl;
    })
  where
    spelled : (words : ℕ) (b : Bracketing) (gate definitions links modes text w r c g s : List ℕ) → text ≡ decimal words ++ 32 ∷ w
        → w ≡ codes "brackets " ++ r → r ≡ ring_text b.r1 ++ 32 ∷ (ring_text b.r2 ++ 32 ∷ (ring_text b.r3 ++ 32 ∷ c))
        → c ≡ codes "gate " ++ (gate ++ 32 ∷ (codes "definitions " ++ (definitions ++ 32 ∷ (codes "links " ++ (links ++ 32 ∷ g)))))
        → g ≡ codes "modes " ++ s → modes ≡ s
        → codes "object words " ++ (decimal words ++ 32 ∷ (codes "brackets " ++ (ring_text b.r1 ++ 32 ∷ (ring_text b.r2 ++ 32 ∷ (ring_text b.r3
        ++ 32 ∷ (codes "gate " ++ (gate ++ 32 ∷ (codes "definitions " ++ (definitions ++ 32 ∷ (codes "links " ++ (links ++ 32 ∷ (codes "modes " ++ modes))))))))))))
        ≡ codes "object words " ++ text
    spelled words b gate definitions links modes text w r c g s e f h i j k = rw (e, f, h, i, j, k) refl

directory_takes : (text : List ℕ) (reply : Reply) → directory_at text ≡ Some reply → IsReply (codes "directory brackets " ++ text) reply
directory_takes text reply e =
    let p = bind_some (cut_at 32 text) _ reply e in
    let q = bind_some (cut_at 32 p.0.1) _ reply p.2 in
    let d1 = bind_some (ring_at p.0.0) _ reply q.2 in
    let d2 = bind_some (ring_at q.0.0) _ reply d1.2 in
    let s = bind_some (after (codes "modes ") q.0.1) _ reply d2.2 in
    let m = bind_some (modes_of_text s.0) _ reply s.2 in
    let f = ring_takes p.0.0 d1.0 d1.1 in
    let g = ring_takes q.0.0 d2.0 d2.1 in
    subst (IsReply (codes "directory brackets " ++ text)) (some_is _ _ m.2) (record {
      spelled = spelled (ring_text d1.0) (ring_text d2.0) (modes_text m.0) text p.0.0 p.0.1 q.0.0 q.0.1 s.0 (cut_takes 32 text p.0 p.1).0
          (cut_takes 32 p.0.1 q.0 q.1).0 (after_takes (codes "modes ") q.0.1 s.0 s.1) f.0 g.0 (modes_takes s.0 m.0 m.1);
      says = both_hold _ _ (both_hold _ _ f.1 g.1) refl;
    })
  where
    spelled : (d1 d2 modes text x y z u s : List ℕ) → text ≡ x ++ 32 ∷ y → y ≡ z ++ 32 ∷ u → u ≡ codes "modes " ++ s → d1 ≡ x → d2 ≡ z
        → modes ≡ s
        → codes "directory brackets " ++ (d1 ++ 32 ∷ (d2 ++ 32 ∷ (codes "modes " ++ modes))) ≡ codes "directory brackets " ++ text
    spelled d1 d2 modes text x y z u s e f g h i j = rw (e, f, g, h, i, j) refl

segno_reply_takes : (text : List ℕ) (reply : Reply) → segno_at text ≡ Some reply → IsReply (codes "segno " ++ text) reply
segno_reply_takes text reply e =
    let p = bind_some (cut_at 32 text) _ reply e in
    let s = bind_some (octal_number 4 p.0.0) _ reply p.2 in
    let k = bind_some (known_at p.0.1) _ reply s.2 in
    let segno = segno_takes p.0.0 s.0 s.1 in
    let known = known_takes p.0.1 k.0 k.1 in
    subst (IsReply (codes "segno " ++ text)) (some_is _ _ k.2) (record {
      spelled = spelled (octal s.0) (line_of (fresh_text k.0.0 ∷ linkage_fields k.0.1)) text p.0.0 p.0.1 (cut_takes 32 text p.0 p.1).0 segno.0
          known.spelled;
      says = both_hold _ _ (both_hold _ _ segno.1 known.fits) refl;
    })
  where
    spelled : (segno known text x y : List ℕ) → text ≡ x ++ 32 ∷ y → segno ≡ x → known ≡ y
        → codes "segno " ++ (segno ++ 32 ∷ known) ≡ codes "segno " ++ text
    spelled segno known text x y e f g = rw (e, f, g) refl

linked_takes : (text : List ℕ) (reply : Reply) → linked_at text ≡ Some reply → IsReply (codes "linked " ++ text) reply
linked_takes text reply e =
    let p = bind_some (cut_at 32 text) _ reply e in
    let a = bind_some (cut_at 124 p.0.0) _ reply p.2 in
    let s = bind_some (octal_number 4 a.0.0) _ reply a.2 in
    let w = bind_some (word_number_of a.0.1) _ reply s.2 in
    let k = bind_some (known_at p.0.1) _ reply w.2 in
    let segno = segno_takes a.0.0 s.0 s.1 in
    let word = word_number_takes a.0.1 w.0 w.1 in
    let known = known_takes p.0.1 k.0 k.1 in
    subst (IsReply (codes "linked " ++ text)) (some_is _ _ k.2) (record {
      spelled = spelled (octal s.0) (octal w.0) (line_of (fresh_text k.0.0 ∷ linkage_fields k.0.1)) text p.0.0 p.0.1 a.0.0 a.0.1
          (cut_takes 32 text p.0 p.1).0 (cut_takes 124 p.0.0 a.0 a.1).0 segno.0 word.0 known.spelled;
      says = both_hold _ _ (both_hold _ _ (both_hold _ _ segno.1 word.1) known.fits) refl;
    })
  where
    spelled : (segno word known text x y z u : List ℕ) → text ≡ x ++ 32 ∷ y → x ≡ z ++ 124 ∷ u → segno ≡ z → word ≡ u → known ≡ y
        → codes "linked " ++ ((segno ++ codes "|" ++ word) ++ 32 ∷ known) ≡ codes "linked " ++ text
    spelled segno word known text x y z u e f g h i = rw (e, f, g, h, i, append_assoc z (codes "|") u) refl

message_takes : (text : List ℕ) (reply : Reply) → message_at text ≡ Some reply → IsReply (codes "message " ++ text) reply
message_takes text reply e =
    let p = bind_some (cut_at 32 text) _ reply e in
    let s = bind_some (process_at p.0.0) _ reply p.2 in
    let w = bind_some (word_at p.0.1) _ reply s.2 in
    let sender = process_takes p.0.0 s.0 s.1 in
    let word = field.word_takes p.0.1 w.0 w.1 in
    subst (IsReply (codes "message " ++ text)) (some_is _ _ w.2) (record {
      spelled = spelled (decimal s.0) (octal w.0) text p.0.0 p.0.1 (cut_takes 32 text p.0 p.1).0 sender.0 word.0;
      says = both_hold _ _ (both_hold _ _ sender.1 word.1) refl;
    })
  where
    spelled : (sender word text x y : List ℕ) → text ≡ x ++ 32 ∷ y → sender ≡ x → word ≡ y
        → codes "message " ++ (sender ++ 32 ∷ word) ≡ codes "message " ++ text
    spelled sender word text x y e f g = rw (e, f, g) refl

bare_takes : (text : List ℕ) (reply : Reply) → bare_at text ≡ Some reply → IsReply text reply
unfolding bare_at
bare_takes text reply e =
    word_takes IsReply text (codes "ok") Done reply _ (record { spelled = refl; says = refl })
    (word_takes IsReply text (codes "sent") Sent reply _ (record { spelled = refl; says = refl })
    (word_takes IsReply text (codes "nobody") Nobody reply _ (record { spelled = refl; says = refl })
    (word_takes IsReply text (codes "waiting") Waiting reply None (record { spelled = refl; says = refl }) (λ e. cc)))) e

short_takes : (text : List ℕ) (reply : Reply) → short_at text ≡ Some reply → IsReply text reply
unfolding short_at
short_takes text reply e =
    read_or_takes IsReply (codes "segno ") text segno_at _ reply (λ rest. segno_reply_takes rest reply)
    (read_or_takes IsReply (codes "linked ") text linked_at _ reply (λ rest. linked_takes rest reply)
    (read_or_takes IsReply (codes "message ") text message_at (bare_at text) reply (λ rest. message_takes rest reply)
    (bare_takes text reply))) e

plain_takes : (text : List ℕ) (reply : Reply) → plain_at text ≡ Some reply → IsReply text reply
unfolding plain_at
plain_takes text reply e =
    read_or_takes IsReply (codes "refused ") text refused_at _ reply (λ rest. refused_takes rest reply)
    (read_or_takes IsReply (codes "segment words ") text segment_at _ reply (λ rest. segment_takes rest reply)
    (read_or_takes IsReply (codes "object words ") text object_at _ reply (λ rest. object_takes rest reply)
    (read_or_takes IsReply (codes "directory brackets ") text directory_at (short_at text) reply (λ rest. directory_takes rest reply)
    (short_takes text reply)))) e

link_takes : (text : List ℕ) (reply : Reply) → link_reply text ≡ Some reply → IsReply (codes "link " ++ text) reply
link_takes text reply e =
    let t = bind_some (path_at text) _ reply e in
    let f = path_takes text t.0 t.1 in
    subst (IsReply (codes "link " ++ text)) (some_is _ _ t.2) (record {
      spelled = ap (λ x. codes "link " ++ x) f.0;
      says = both_hold _ _ (both (nat_le (length (path_text t.0)) 168) (list_all is_name t.0) f.1).1 f.1;
    })

names_reply_takes : (text : List ℕ) (reply : Reply) → names_reply text ≡ Some reply → IsReply (codes "names" ++ text) reply
names_reply_takes text reply e =
    let n = bind_some (names_at text) _ reply e in
    let f = names_take (codes "names") text n.0 n.1 in
    subst (IsReply (codes "names" ++ text)) (some_is _ _ n.2) (record { spelled = f.0; says = both_hold _ _ f.1 refl })

reply_takes : (text : List ℕ) (reply : Reply) → reply_at text ≡ Some reply → IsReply text reply
unfolding reply_at
reply_takes text reply e =
    read_or_takes IsReply (codes "names") text names_reply _ reply (λ rest. names_reply_takes rest reply)
    (read_or_takes IsReply (codes "link ") text link_reply (plain_at text) reply (λ rest. link_takes rest reply)
    (plain_takes text reply)) e

-- and each reply that can be said is read back
refused_again : (why : Refusal) → refused_at (decimal (refusal_number why) ++ 32 ∷ refusal_text why) ≡ Some (Refused why)
refused_again why =
    let low = few why in
    let large : refusal_number why < 2 ^ 64 = omega (arith, low) in
    rw (
      cut_again 32 (decimal (refusal_number why)) (refusal_text why) (number_free 32 (refusal_number why) refl large),
      number_again 2 (refusal_number why) (omega arith) low large,
      refusal_again why,
      eq-eqb (refusal_number why) (refusal_number why) refl,
    ) refl
  where
    few : (why : Refusal) → refusal_number why < 10 ^ 2
    few BadPath = omega arith
    few NoEntry = omega arith
    few NoInfo = omega arith
    few NotADir = omega arith
    few LinkLoop = omega arith
    few IncorrectAccess = omega arith
    few NameDup = omega arith
    few NotASeg = omega arith
    few DirNotEmpty = omega arith
    few DirFull = omega arith
    few BadLength = omega arith
    few BadBrackets = omega arith
    few InvalidMode = omega arith
    few AclFull = omega arith
    few NoAclEntry = omega arith
    few NoPages = omega arith
    few KstFull = omega arith
    few UnknownSegno = omega arith
    few NotLinkage = omega arith
    few SegmentNotFound = omega arith
    few NotObject = omega arith
    few NoDefinition = omega arith
    few NoProcess = omega arith
    few MailFull = omega arith
    few Ended = omega arith
    few BadClass = omega arith

status_again : (status : said.Status) → says_reply (Status status) ≡ true → reply_at (reply_text (Status status)) ≡ Some (Status status)
unfolding reply_at plain_at after
status_again (Segment words b modes class) e =
    let bounds = both (bounds_status (Segment words b modes class)) true e in
    let f = both (is_amount words) (are_ordered b && is_none_or class is_class) bounds.0 in
    let g = both (are_ordered b) (is_none_or class is_class) f.1 in
    let tail : List ℕ = line_of (modes_text modes ∷ class_fields class) in
    rw (
      amount_then_again words (codes "brackets " ++ (ring_text b.r1 ++ 32 ∷ (ring_text b.r2 ++ 32 ∷ (ring_text b.r3 ++ 32 ∷ (codes "modes " ++ tail))))) f.0,
      brackets_again b (codes "modes " ++ tail) g.0,
      modes_back modes class g.1,
    ) refl
status_again (Object words b gate definitions links modes class) e =
    let bounds = both (bounds_status (Object words b gate definitions links modes class)) true e in
    let f = both (is_amount words) _ bounds.0 in
    let g = both (is_amount gate) _ f.1 in
    let h = both (is_amount definitions) _ g.1 in
    let i = both (is_amount links) _ h.1 in
    let j = both (are_ordered b) (is_none_or class is_class) i.1 in
    let tail : List ℕ = line_of (modes_text modes ∷ class_fields class) in
    let third : List ℕ = codes "modes " ++ tail in
    let second : List ℕ = codes "links " ++ (decimal links ++ 32 ∷ third) in
    let first : List ℕ = codes "definitions " ++ (decimal definitions ++ 32 ∷ second) in
    let gates : List ℕ = codes "gate " ++ (decimal gate ++ 32 ∷ first) in
    rw (
      amount_then_again words (codes "brackets " ++ (ring_text b.r1 ++ 32 ∷ (ring_text b.r2 ++ 32 ∷ (ring_text b.r3 ++ 32 ∷ gates)))) f.0,
      brackets_again b gates j.0,
      amount_then_again gate first g.0,
      amount_then_again definitions second h.0,
      amount_then_again links third i.0,
      modes_back modes class j.1,
    ) refl
status_again (Directory d1 d2 modes) e =
    let f = both (is_ring d1) (is_ring d2) (both (is_ring d1 && is_ring d2) true e).0 in
    rw (
      cut_again 32 (ring_text d1) (ring_text d2 ++ 32 ∷ (codes "modes " ++ modes_text modes)) (ring_free 32 d1 refl f.0),
      cut_again 32 (ring_text d2) (codes "modes " ++ modes_text modes) (ring_free 32 d2 refl f.1),
      ring_again d1 f.0,
      ring_again d2 f.1,
      modes_again modes,
    ) refl
status_again (Link target) e = rw (path_again target (both (list_all is_name target) (is_path target) e).1) refl

reply_again : (reply : Reply) → says_reply reply ≡ true → reply_at (reply_text reply) ≡ Some reply
unfolding reply_at plain_at short_at bare_at after
reply_again Done e = refl
reply_again (Refused why) e = rw (refused_again why) refl
reply_again (Status status) e = status_again status e
reply_again (Names names) e =
    rw (line_behind (codes "names") names, names_again names (both (list_all is_name names) true e).0) refl
reply_again (Segno known) e =
    let f = both (is_segno known.segno) (is_none_or known.linkage is_segno) (both (is_segno known.segno && is_none_or known.linkage is_segno) true e).0 in
    rw (
      cut_again 32 (octal known.segno) (line_of (fresh_text known.fresh ∷ linkage_fields known.linkage)) (octal_free 32 known.segno refl),
      segno_again known.segno f.0,
      known_again known.fresh known.linkage f.1,
    ) refl
reply_again (Linked segno word fresh linkage) e =
    let f = both (is_word_address segno word) (is_none_or linkage is_segno) (both (is_word_address segno word && is_none_or linkage is_segno) true e).0 in
    let g = both (is_segno segno) (nat_le word 16383) f.0 in
    rw (
      cut_again 32 (address_text segno word) (line_of (fresh_text fresh ∷ linkage_fields linkage)) (address_free 32 segno word refl refl),
      append_assoc,
      cut_again 124 (octal segno) (octal word) (octal_free 124 segno refl),
      segno_again segno g.0,
      word_number_again word g.1,
      known_again fresh linkage f.1,
    ) refl
reply_again Sent e = refl
reply_again (Message sender word) e =
    let f = both (is_process sender) (is_word word) (both (is_process sender && is_word word) true e).0 in
    rw (
      cut_again 32 (decimal sender) (octal word) (process_free 32 sender refl f.0),
      process_again sender f.0,
      word_again word f.1,
    ) refl
reply_again Nobody e = refl
reply_again Waiting e = refl

pub exact_replies : IsExact IsReply reply_at
exact_replies = record {
  takes = reply_takes;
  again = λ text reply is. subst (λ t. reply_at t ≡ Some reply) is.spelled (reply_again reply is.says);
}
