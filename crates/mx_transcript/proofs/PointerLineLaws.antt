-- The lines with pointers are right, by computation, and each wrong one is refused.
use Rattle.std.proofs.Common.{◌≡◌, inl, ℕ, ◌<◌, ◌^◌, nat_eq, ap, true, false, List, [], ◌∷◌, ◌++◌, refl, None, Some, arith}
use Rattle.mx_sdw.specs.Judging.{judgement}
use Rattle.mx_sdw.specs.declared.denials.Denial.TheVariants as denial
use Rattle.mx_sdw.specs.declared.operations.Op.TheVariants as op
use Rattle.mx_ptr.specs.Pointers.{PointerParts}
use Rattle.mx_upcall.specs.Control.{Control, ungated}
use Rattle.mx_core.specs.declared.elements.Element.{Element}
use Rattle.mx_core.specs.declared.elements.Event.TheVariants.{Seen}
use Rattle.mx_core.specs.declared.elements.Kind.TheVariants as kind
use Rattle.mx_core.specs.declared.elements.Outcome.TheVariants as outcome
use Rattle.mx_request.specs.declared.requests.Request.{Request}
use Rattle.mx_request.specs.declared.requests.Request.TheVariants.{Link}
use Rattle.mx_state.specs.declared.journal.Entry as journaled
use Rattle.mx_script.specs.declared.lines.Line.{Line}
use Rattle.mx_transcript.specs.declared.transcripts.Event2.{Event2}
use Rattle.mx_transcript.specs.declared.transcripts.Event2.TheVariants.{Core, Entry}
use Rattle.mx_transcript.specs.declared.transcripts.Result2.{Result2}
use Rattle.mx_transcript.specs.declared.transcripts.Result2.TheVariants as result
use Rattle.mx_transcript.specs.Asking.{next}
use Rattle.mx_transcript.specs.Courses.{Course, Attempt, Answer, Judged}
use Rattle.mx_transcript.specs.Elements.{IsJudged}
use Rattle.mx_transcript.specs.Events.{IsEvent}
use Rattle.mx_transcript.specs.Lines.{Goes, IsEnd, IsLine}
use Rattle.mx_transcript.specs.Next.{Reference, Asks, Calls, Ends}
use Rattle.mx_transcript.specs.Settings.{Setting, entry_at, judged}
use Rattle.mx_transcript.proofs.EventByEvent as event
use Rattle.mx_transcript.specs.PointerLines.{pointer, g, setting, no_link, word, forged, refused, circle, again, link, other, stored, read, sta, lda, lda_register, epp, spri, RightPointers, WrongPointers}

abbrev s : Setting
s = setting false

abbrev start : Control
start = ungated g

abbrev j : Element → Judged
j e = judged s e

abbrev indirect : ℕ → Reference
indirect ring = record { op = op.Indirect; segno = 8; word = 0; ring = ring; stores = None }

abbrev c : Judged
c = j circle

abbrev a : Judged
a = j again

-- one more round of the circle
round : (seen : List Judged) → next start lda (Attempt seen) ≡ Asks (indirect 4)
    → IsEvent s (next start lda (Attempt seen)) (Attempt seen) (Core (Seen again)) (Attempt (seen ++ a ∷ []))
unfolding judgement
round seen asks = inl (record {
  asked = indirect 4;
  next = asks;
  right = record { kind = refl; segno = refl; word = refl; ring = refl; outcome = omega arith };
  leads = refl;
})

first_round : IsEvent s (next start lda (Attempt [])) (Attempt []) (Core (Seen circle)) (Attempt (c ∷ []))
unfolding judgement
first_round = inl (record {
  asked = indirect 1;
  next = refl;
  right = record { kind = refl; segno = refl; word = refl; ring = refl; outcome = omega arith };
  leads = refl;
})

-- the first indirect word of a line at 8|0
first : (l : Line) (value : ℕ) → value < 2 ^ 36 → next start l (Attempt []) ≡ Asks (indirect 1)
    → IsEvent s (next start l (Attempt [])) (Attempt []) (Core (Seen (word value))) (Attempt (j (word value) ∷ []))
unfolding judgement
first l value fits asks = inl (record {
  asked = indirect 1;
  next = asks;
  right = record { kind = refl; segno = refl; word = refl; ring = refl; outcome = omega arith };
  leads = refl;
})

eight_rounds : IsLine s start lda (Core (Seen circle) ∷ Core (Seen again) ∷ Core (Seen again) ∷ Core (Seen again)
    ∷ Core (Seen again) ∷ Core (Seen again) ∷ Core (Seen again) ∷ Core (Seen again) ∷ []) (result.Denied denial.IndirectLimit) start
eight_rounds = record {
  course = Attempt (c ∷ a ∷ a ∷ a ∷ a ∷ a ∷ a ∷ a ∷ []);
  so_far = (
    _,
    first_round,
    (
      _,
      round (c ∷ []) refl,
      (
        _,
        round (c ∷ a ∷ []) refl,
        (
          _,
          round (c ∷ a ∷ a ∷ []) refl,
          (
            _,
            round (c ∷ a ∷ a ∷ a ∷ []) refl,
            (
              _,
              round (c ∷ a ∷ a ∷ a ∷ a ∷ []) refl,
              (_, round (c ∷ a ∷ a ∷ a ∷ a ∷ a ∷ []) refl, (_, round (c ∷ a ∷ a ∷ a ∷ a ∷ a ∷ a ∷ []) refl, refl)),
            ),
          ),
        ),
      ),
    ),
  );
  end = (refl, refl);
}

forged_ring : IsLine s start sta (Core (Seen forged) ∷ Core (Seen refused) ∷ []) (result.Denied denial.WriteBracket) start
unfolding judgement
forged_ring = record {
  course = Attempt (j forged ∷ j refused ∷ []);
  so_far = (
    _,
    first sta 150995619 (omega arith) refl,
    (
      _,
      inl (record {
        asked = record { op = op.Write; segno = 9; word = 5; ring = 4; stores = Some 5 };
        next = refl;
        right = record { kind = refl; segno = refl; word = refl; ring = refl; outcome = refl };
        leads = refl;
      }),
      refl,
    ),
  );
  end = (refl, refl);
}

by_register : IsLine s start lda_register (Core (Seen read) ∷ []) (result.A 7) (ungated (record g { a = 7 }))
unfolding judgement
by_register = record {
  course = Attempt (j read ∷ []);
  so_far = (
    _,
    inl (record {
      asked = record { op = op.Read; segno = 9; word = 4; ring = 4; stores = None };
      next = refl;
      right = record { kind = refl; segno = refl; word = refl; ring = refl; outcome = omega arith };
      leads = refl;
    }),
    refl,
  );
  end = (refl, refl);
}

spelled : IsLine s start spri (Core (Seen stored) ∷ []) result.Done start
unfolding judgement
spelled = record {
  course = Attempt (j stored ∷ []);
  so_far = (
    _,
    inl (record {
      asked = record { op = op.Write; segno = 9; word = 0; ring = 1; stores = Some 159384227 };
      next = refl;
      right = record { kind = refl; segno = refl; word = refl; ring = refl; outcome = refl };
      leads = refl;
    }),
    refl,
  );
  end = (refl, refl);
}

full_first : IsEvent (setting true) (next start lda (Attempt [])) (Attempt []) (Core (Seen link)) (Attempt (j link ∷ []))
unfolding judgement
full_first = inl (record {
  asked = indirect 1;
  next = refl;
  right = record { kind = refl; segno = refl; word = refl; ring = refl; outcome = omega arith };
  leads = refl;
})

pub right_pointers : RightPointers
right_pointers = record {
  forged_ring = forged_ring;
  eighth = eight_rounds;
  no_pointer = record { course = Attempt (j other ∷ []); so_far = (_, first lda 42 (omega arith) refl, refl); end = (refl, refl) };
  forged_link = record {
    course = Answer no_link [];
    so_far = (_, first lda 38 (omega arith) refl, (_, record { entry = no_link; there = refl; maker = refl; next = refl; leads = refl }, refl));
    end = (refl, refl);
  };
  link_full = record { course = Attempt (j link ∷ []); so_far = (_, full_first, refl); end = (refl, refl, refl) };
  by_register = by_register;
  loaded = record { course = Attempt (j forged ∷ []); so_far = (_, first epp 150995619 (omega arith) refl, refl); end = (refl, refl) };
  spelled = spelled;
}

-- the reference that a line asks for next, and the rest of the line
peel : (l : Line) (seen : List Judged) (r : Reference) (e : Element) (events : List Event2) (course : Course)
    → next start l (Attempt seen) ≡ Asks r → Goes s start l (Attempt seen) (Core (Seen e) ∷ events) course
    → IsJudged r (s.descriptor e) e × Goes s start l (Attempt (seen ++ j e ∷ [])) events course
peel l seen r e events course asks goes = event.peel s start l (Attempt seen) r e events course asks goes

-- the call that a line asks for next, and the rest of the line
peel_call : (l : Line) (before : Course) (number : ℕ) (entry : journaled.Entry) (events : List Event2) (course : Course)
    → entry_at s.journal number ≡ Some entry → Goes s start l before (Entry number ∷ events) course
    → (next start l before ≡ Calls entry.ring entry.request) × Goes s start l (Answer entry []) events course
peel_call l before number entry events course there goes =
    let made = event.peel_call s start l before number entry events course there goes in (made.0, made.2)

-- the end of a line that has no further event
at_end : (after : Control) (l : Line) (before course : Course) (ends : Result2) → Goes s start l before [] course
    → IsEnd s start (next start l course) ends after → IsEnd s start (next start l before) ends after
at_end after l before course ends goes end = event.at_end s start l after before course ends goes end

-- a reference comes only where one is asked for
no_reference : (l : Line) (before : Course) (e : Element) (events : List Event2) (course : Course) (ring : ℕ)
    (request : Request) → next start l before ≡ Calls ring request → Goes s start l before (Core (Seen e) ∷ events) course → ⊥
no_reference l before e events course ring request asks goes =
    event.none_asked s start l before e events course (λ r n. cc) (λ r n. cc) goes

same_calls : (a b : ℕ) (x y : Request) → Calls a x ≡ Calls b y → (a ≡ b) × (x ≡ y)
same_calls a b x y h = (cc, cc)

same_link : (a b x y : ℕ) → Link a x ≡ Link b y → x ≡ y
same_link a b x y h = cc

same_some : (a b : ℕ) → Some a ≡ Some b → a ≡ b
same_some a b h = cc

same_pr : (n : ℕ) (p q : PointerParts) → result.Pr n p ≡ result.Pr n q → p.ring ≡ q.ring
same_pr n p q h = let same : p ≡ q = cc in cc

abbrev writes : Reference
writes = record { op = op.Write; segno = 9; word = 5; ring = 4; stores = Some 5 }

abbrev seen_forged : List Judged
seen_forged = j forged ∷ []

abbrev seen_link : List Judged
seen_link = j link ∷ []

written : IsJudged (record { op = op.Write; segno = 9; word = 0; ring = 1; stores = Some 159384227 })
    (s.descriptor stored) (record stored { outcome = outcome.Written 75497507 }) → ⊥
unfolding judgement
written is =
    let w : Some 159384227 ≡ Some 75497507 = is.outcome in
    let z : 159384227 ≡ 75497507 = same_some 159384227 75497507 w in
    let f : false ≡ true = ap (λ (n : ℕ). nat_eq n 75497507) z in
    cc

-- the write in the ring of the process, and the read of the word that the link would point to
abbrev bold : Element
bold = record refused { ring = 1; outcome = outcome.Written 5 }

abbrev elsewhere : Element
elsewhere = record read { segno = 0; word = 0 }

pub wrong_pointers : WrongPointers
wrong_pointers = record {
  believed = λ after is.
      let rest = (peel sta [] (indirect 1) forged (Core (Seen bold) ∷ []) is.course refl is.so_far).1 in
      let w : 1 ≡ 4 = (peel sta seen_forged writes bold [] is.course refl rest).0.ring in
      omega arith;
  unread = λ after is.
      let w : kind.Write ≡ kind.Ind = (peel sta [] (indirect 1) refused [] is.course refl is.so_far).0.kind in cc;
  read_twice = λ after is.
      let rest = (peel sta [] (indirect 1) forged (Core (Seen forged) ∷ Core (Seen refused) ∷ []) is.course refl is.so_far).1 in
      let w : kind.Ind ≡ kind.Write = (peel sta seen_forged writes forged (Core (Seen refused) ∷ []) is.course refl rest).0.kind in cc;
  link_taken = λ after is.
      let rest = (peel lda [] (indirect 1) link (Core (Seen elsewhere) ∷ []) is.course refl is.so_far).1 in
      no_reference lda (Attempt seen_link) elsewhere [] is.course 1 (Link 8 0) refl rest;
  other_link = λ after is.
      let rest = (peel lda [] (indirect 1) link (Entry 2 ∷ []) is.course refl is.so_far).1 in
      let w : Calls 1 (Link 8 0) ≡ Calls 1 (Link 8 1) =
      (peel_call lda (Attempt seen_link) 2 (record no_link { request = Link 8 1 }) [] is.course refl rest).0 in
      let z : 0 ≡ 1 = same_link 8 8 0 1 (same_calls 1 1 (Link 8 0) (Link 8 1) w).1 in omega arith;
  other_ring = λ after is.
      let rest = (peel lda [] (indirect 1) link (Entry 3 ∷ []) is.course refl is.so_far).1 in
      let w : Calls 1 (Link 8 0) ≡ Calls 4 (Link 8 0) =
      (peel_call lda (Attempt seen_link) 3 (record no_link { ring = 4 }) [] is.course refl rest).0 in
      let z : 1 ≡ 4 = (same_calls 1 4 (Link 8 0) (Link 8 0) w).0 in omega arith;
  not_refused = λ after is.
      let rest = (peel lda [] (indirect 1) link (Entry 1 ∷ []) is.course refl is.so_far).1 in
      let last = (peel_call lda (Attempt seen_link) 1 no_link [] is.course refl rest).1 in
      let end : IsEnd s start (Ends result.Refused start) result.Done after =
      at_end after lda (Answer no_link []) is.course result.Done last is.end in
      let w : result.Done ≡ result.Refused = end.0 in cc;
  below_limit = λ after is.
      let rest = (peel lda [] (indirect 1) link [] is.course refl is.so_far).1 in
      let end : IsEnd s start (Calls 1 (Link 8 0)) result.HistoryFull after =
      at_end after lda (Attempt seen_link) is.course result.HistoryFull rest is.end in
      let w : false ≡ true = end.0 in cc;
  ring_kept = λ after is.
      let rest = (peel epp [] (indirect 1) forged [] is.course refl is.so_far).1 in
      let end : IsEnd s start (next start epp (Attempt seen_forged)) (result.Pr 2 (pointer 1 9 5)) after =
      at_end after epp (Attempt seen_forged) is.course _ rest is.end in
      let w : result.Pr 2 (pointer 1 9 5) ≡ result.Pr 2 (pointer 4 9 5) = end.0 in
      let z : 1 ≡ 4 = same_pr 2 (pointer 1 9 5) (pointer 4 9 5) w in omega arith;
  ring_in_word = λ after is.
      let rest = (peel epp [] (indirect 1) forged [] is.course refl is.so_far).1 in
      let end : IsEnd s start (next start epp (Attempt seen_forged)) (result.Pr 2 (pointer 0 9 5)) after =
      at_end after epp (Attempt seen_forged) is.course _ rest is.end in
      let w : result.Pr 2 (pointer 0 9 5) ≡ result.Pr 2 (pointer 4 9 5) = end.0 in
      let z : 0 ≡ 4 = same_pr 2 (pointer 0 9 5) (pointer 4 9 5) w in omega arith;
  other_word = λ after is.
      let w = (peel spri [] (record { op = op.Write; segno = 9; word = 0; ring = 1; stores = Some 159384227 })
      (record stored { outcome = outcome.Written 75497507 }) [] is.course refl is.so_far).0 in
      written w;
  current_ring = λ after is.
      let w : 1 ≡ 4 = (peel lda_register [] (record { op = op.Read; segno = 9; word = 4; ring = 4; stores = None })
      (record read { ring = 1 }) [] is.course refl is.so_far).0.ring in omega arith;
}
