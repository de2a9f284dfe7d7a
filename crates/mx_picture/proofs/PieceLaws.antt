-- Marks that go to a sink piece by piece.
use Rattle.std.proofs.Common.{◌≡◌, ℕ, List, [], ◌++◌, Option, Some, None, refl, ap, sym, subst, append_assoc, append-nil}
use Rattle.mx_io.specs.Bytes.{Appends}
use Rattle.mx_text.proofs.PrintingLaws.{sent_then}
use Rattle.mx_text.specs.Printing.{IsSent}
use Rattle.mx_picture.specs.Drawings.{Draws}

appends_none : (a : Option (List ℕ)) → Appends a a []
appends_none None = refl
appends_none (Some bytes) = ap Some (sym (append-nil bytes))

pub sent_none : (a : Option (List ℕ)) (before : List ℕ) → IsSent a a before (before ++ [])
sent_none a before = record { sent = []; appended = appends_none a; whole = sym (append-nil before) }

-- a piece more was put into the buffer, and some of it was sent
pub sent_piece : (a b c : Option (List ℕ)) (before sofar buffer piece added kept : List ℕ) → IsSent a b buffer (before ++ sofar)
    → added ≡ buffer ++ piece → IsSent b c kept added → IsSent a c kept (before ++ (sofar ++ piece))
sent_piece a b c before sofar buffer piece added kept first is send =
    let P : List ℕ → Type 0 = λ v. IsSent b c kept v in
    let Q : List ℕ → Type 0 = λ v. IsSent a c kept v in
    subst Q (append_assoc before sofar piece) (sent_then a b c (before ++ sofar) buffer kept piece first (subst P is send))

pub draws_none : (a : Option (List ℕ)) (before : List ℕ) → Draws a a before before
draws_none a before = record { marks = []; is_sent = sent_none a before }

-- a mark more
pub draws_mark : (a b c : Option (List ℕ)) (before buffer piece added kept : List ℕ) → Draws a b before buffer
    → added ≡ buffer ++ piece → IsSent b c kept added → Draws a c before kept
draws_mark a b c before buffer piece added kept drawn is send = record {
  marks = drawn.marks ++ piece;
  is_sent = sent_piece a b c before drawn.marks buffer piece added kept drawn.is_sent is send;
}

-- marks, and more behind them
pub draws_more : (a b c : Option (List ℕ)) (before buffer kept : List ℕ) → Draws a b before buffer → Draws b c buffer kept
    → Draws a c before kept
draws_more a b c before buffer kept first second = record {
  marks = first.marks ++ second.marks;
  is_sent =
      sent_piece a b c before first.marks buffer second.marks (buffer ++ second.marks) kept first.is_sent refl second.is_sent;
}
