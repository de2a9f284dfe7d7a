-- The lines with links are right, by computation, and each wrong one is refused.
use Rattle.std.proofs.Common.{◌≡◌, ℕ, nat_eq, ap, Bool, true, false, List, [], ◌∷◌, ◌++◌, refl, None, Some, arith}
use Rattle.mx_sdw.specs.Judging.{judgement}
use Rattle.mx_sdw.specs.declared.denials.Denial.TheVariants as denial
use Rattle.mx_sdw.specs.declared.operations.Op.TheVariants as op
use Rattle.mx_upcall.specs.Control.{Control, ungated}
use Rattle.mx_core.specs.declared.elements.Element.{Element}
use Rattle.mx_core.specs.declared.elements.Event.TheVariants.{Seen, Missing}
use Rattle.mx_core.specs.declared.elements.Kind.TheVariants as kind
use Rattle.mx_core.specs.declared.elements.Outcome.TheVariants as outcome
use Rattle.mx_request.specs.declared.requests.Request.TheVariants.{Link}
use Rattle.mx_state.specs.declared.journal.Entry as journaled
use Rattle.mx_script.specs.declared.lines.Line.{Line}
use Rattle.mx_transcript.specs.declared.transcripts.Event2.{Event2}
use Rattle.mx_transcript.specs.declared.transcripts.Event2.TheVariants.{Core, Entry}
use Rattle.mx_transcript.specs.declared.transcripts.Result2.TheVariants as result
use Rattle.mx_transcript.specs.Asking.{next}
use Rattle.mx_transcript.specs.Courses.{Course, Attempt, Answer, Judged}
use Rattle.mx_transcript.specs.Elements.{IsJudged}
use Rattle.mx_transcript.specs.Filling.{fill}
use Rattle.mx_transcript.specs.LinkLines.{initiated, guarded, known, linked, refused, linked_too, setting, g, in_ring_1, stored, word_0, denied_word, snapped, met, followed, initiate, epp, epp_register, target, RightLinks, WrongLinks}
use Rattle.mx_transcript.specs.Lines.{Goes}
use Rattle.mx_transcript.specs.Next.{Reference, Asks, Fills, Calls, Ends}
use Rattle.mx_transcript.specs.Settings.{Setting, entry_at, judged}
use Rattle.mx_transcript.proofs.EventByEvent as event

abbrev s : Setting
s = setting false

abbrev start : Control
start = ungated g

abbrev inner : Control
inner = ungated in_ring_1

abbrev j : Element → Judged
j e = judged s e

-- the word at 11|0, read in ring 4
abbrev indirect : Reference
indirect = record { op = op.Indirect; segno = 9; word = 0; ring = 4; stores = None }

abbrev pointer_word_4 : ℕ
pointer_word_4 = 176161699

-- each is what it should be, in every setting
met_right : (full : Bool) → IsJudged indirect ((setting full).descriptor met) met
unfolding judgement
met_right full = record { kind = refl; segno = refl; word = refl; ring = refl; outcome = omega arith }

followed_right : IsJudged indirect (s.descriptor followed) followed
unfolding judgement
followed_right = record { kind = refl; segno = refl; word = refl; ring = refl; outcome = omega arith }

word_right : IsJudged (fill 9 0 38) (s.descriptor word_0) word_0
unfolding judgement
word_right = record { kind = refl; segno = refl; word = refl; ring = refl; outcome = refl }

first_right : IsJudged (fill 11 0 38) (s.descriptor (stored 11 0 38)) (stored 11 0 38)
unfolding judgement
first_right = record { kind = refl; segno = refl; word = refl; ring = refl; outcome = refl }

second_right : IsJudged (fill 11 1 166) (s.descriptor (stored 11 1 166)) (stored 11 1 166)
unfolding judgement
second_right = record { kind = refl; segno = refl; word = refl; ring = refl; outcome = refl }

snapped_right : IsJudged (fill 9 0 pointer_word_4) (s.descriptor snapped) snapped
unfolding judgement
snapped_right = record { kind = refl; segno = refl; word = refl; ring = refl; outcome = refl }

-- the pointer is stored after these writes, and the word is read again
snaps : (r : Control) (l : Line) (entry : journaled.Entry) (filled : List Judged)
    → next r l (Answer entry filled) ≡ Fills (fill 9 0 pointer_word_4)
    → next r l (Answer entry (filled ++ j snapped ∷ [])) ≡ Asks indirect
    → Goes s r l (Answer entry filled) (Core (Seen snapped) ∷ Core (Seen followed) ∷ []) (Attempt (j followed ∷ []))
snaps r l entry filled fills asks =
    event.filled_in s r l entry filled (fill 9 0 pointer_word_4) snapped pointer_word_4 (Core (Seen followed) ∷ [])
    (Attempt (j followed ∷ [])) fills snapped_right refl
    (event.made s r l (Answer entry (filled ++ j snapped ∷ [])) indirect followed [] (Attempt (j followed ∷ [])) asks
    followed_right refl)

-- the link is met, and the call of this number made
meets : (r : Control) (l : Line) (number : ℕ) (entry : journaled.Entry) (events : List Event2) (course : Course)
    → next r l (Attempt []) ≡ Asks indirect → next r l (Attempt (j met ∷ [])) ≡ Calls entry.ring entry.request
    → entry_at s.journal number ≡ Some entry → entry.process ≡ 1 → Goes s r l (Answer entry []) events course
    → Goes s r l (Attempt []) (Core (Seen met) ∷ Entry number ∷ events) course
meets r l number entry events course asks calls there maker goes =
    event.made s r l (Attempt []) indirect met (Entry number ∷ events) course asks (met_right false)
    (event.called s r l (Attempt (j met ∷ [])) number entry events course there maker calls goes)

pub right_links : RightLinks
right_links = record {
  made = record {
    course = Answer initiated (j word_0 ∷ []);
    so_far = event.called s start initiate (Attempt []) 1 initiated (Core (Seen word_0) ∷ [])
        (Answer initiated (j word_0 ∷ [])) refl refl refl
        (event.filled_in s start initiate initiated [] (fill 9 0 38) word_0 38 [] (Answer initiated (j word_0 ∷ [])) refl
        word_right refl refl);
    end = (refl, refl);
  };
  known_before = record {
    course = Answer known [];
    so_far = event.called s start initiate (Attempt []) 7 known [] (Answer known []) refl refl refl refl;
    end = (refl, refl);
  };
  first_use = record {
    course = Attempt (j followed ∷ []);
    so_far = meets start (epp 2) 2 linked (Core (Seen snapped) ∷ Core (Seen followed) ∷ []) (Attempt (j followed ∷ [])) refl
        refl refl refl (snaps start (epp 2) linked [] refl refl);
    end = (refl, refl);
  };
  second_use = record {
    course = Attempt (j followed ∷ []);
    so_far = event.made s start (epp 3) (Attempt []) indirect followed [] (Attempt (j followed ∷ [])) refl followed_right
        refl;
    end = (refl, refl);
  };
  by_register = record {
    course = Attempt (j followed ∷ []);
    so_far = meets inner epp_register 2 linked (Core (Seen snapped) ∷ Core (Seen followed) ∷ [])
        (Attempt (j followed ∷ [])) refl refl refl refl (snaps inner epp_register linked [] refl refl);
    end = (refl, refl);
  };
  with_section = record {
    course = Attempt (j followed ∷ []);
    so_far = meets start (epp 2) 5 linked_too
        (Core (Seen (stored 11 0 38)) ∷ Core (Seen (stored 11 1 166)) ∷ Core (Seen snapped) ∷ Core (Seen followed) ∷ [])
        (Attempt (j followed ∷ [])) refl refl refl refl
        (event.filled_in s start (epp 2) linked_too [] (fill 11 0 38) (stored 11 0 38) 38
        (Core (Seen (stored 11 1 166)) ∷ Core (Seen snapped) ∷ Core (Seen followed) ∷ []) (Attempt (j followed ∷ []))
        refl first_right refl
        (event.filled_in s start (epp 2) linked_too (j (stored 11 0 38) ∷ []) (fill 11 1 166) (stored 11 1 166) 166
        (Core (Seen snapped) ∷ Core (Seen followed) ∷ []) (Attempt (j followed ∷ [])) refl second_right refl
        (snaps start (epp 2) linked_too (j (stored 11 0 38) ∷ j (stored 11 1 166) ∷ []) refl refl)));
    end = (refl, refl);
  };
  link_refused = record {
    course = Answer refused [];
    so_far = meets start (epp 2) 3 refused [] (Answer refused []) refl refl refl refl refl;
    end = (refl, refl);
  };
  link_full = record {
    course = Attempt (judged (setting true) met ∷ []);
    so_far = event.made (setting true) start (epp 2) (Attempt []) indirect met []
        (Attempt (judged (setting true) met ∷ [])) refl (met_right true) refl;
    end = (refl, refl, refl);
  };
}

-- after the link was met and called for
met_then : (r : Control) (l : Line) (number : ℕ) (entry : journaled.Entry) (events : List Event2) (course : Course)
    → next r l (Attempt []) ≡ Asks indirect → entry_at s.journal number ≡ Some entry
    → Goes s r l (Attempt []) (Core (Seen met) ∷ Entry number ∷ events) course
    → (next r l (Attempt (j met ∷ [])) ≡ Calls entry.ring entry.request) × Goes s r l (Answer entry []) events course
met_then r l number entry events course asks there goes =
    let first = event.peel s r l (Attempt []) indirect met (Entry number ∷ events) course asks goes in
    let then = event.peel_call s r l (Attempt (j met ∷ [])) number entry events course there first.1 in
    (then.0, then.2)

same_some : (a b : ℕ) → Some a ≡ Some b → a ≡ b
same_some a b h = cc

same_ring : (a b : ℕ) → Calls a (Link 9 0) ≡ Calls b (Link 9 0) → a ≡ b
same_ring a b h = cc

abbrev after_pointer : List Event2
after_pointer = Core (Seen (stored 11 0 38)) ∷ Core (Seen (stored 11 1 166)) ∷ Core (Seen followed) ∷ []

-- another value stored at 11|0 than was asked for
no_value : (value : ℕ) → IsJudged (fill 9 0 value) (s.descriptor word_0) (stored 9 0 166) → value ≡ 166
unfolding judgement
no_value value is = let w : Some value ≡ Some 166 = is.outcome in same_some value 166 w

no_ring_0 : (value : ℕ) → IsJudged (fill 9 0 value) (s.descriptor word_0) (stored 9 0 167773091) → value ≡ 167773091
unfolding judgement
no_ring_0 value is = let w : Some value ≡ Some 167773091 = is.outcome in same_some value 167773091 w

no_further : (value : ℕ) → IsJudged (fill 9 0 value) (s.descriptor word_0) (stored 9 0 176161763) → value ≡ 176161763
unfolding judgement
no_further value is = let w : Some value ≡ Some 176161763 = is.outcome in same_some value 176161763 w

pub wrong_links : WrongLinks
wrong_links = record {
  unfilled = λ after is.
      let rest = (event.peel_call s start initiate (Attempt []) 1 initiated [] is.course refl is.so_far).2 in
      event.at_end s start initiate after (Answer initiated []) is.course result.Done rest is.end;
  other_word = λ after is.
      let rest = (event.peel_call s start initiate (Attempt []) 1 initiated (Core (Seen (stored 9 0 166)) ∷ []) is.course refl
      is.so_far).2 in
      let made = (event.peel_fill s start initiate initiated [] (fill 9 0 38) (stored 9 0 166) [] is.course refl rest).0 in
      let z : 38 ≡ 166 = no_value 38 made in omega arith;
  current_ring = λ after is.
      let rest = (event.peel_call s start initiate (Attempt []) 1 initiated (Core (Seen (record word_0 { ring = 4 })) ∷ [])
      is.course refl is.so_far).2 in
      let w : 4 ≡ 0 =
      (event.peel_fill s start initiate initiated [] (fill 9 0 38) (record word_0 { ring = 4 }) [] is.course refl rest).0.ring in
      omega arith;
  twice = λ after is.
      let rest = (event.peel_call s start initiate (Attempt []) 1 initiated (Core (Seen word_0) ∷ Core (Seen word_0) ∷ [])
      is.course refl is.so_far).2 in
      let more =
      (event.peel_fill s start initiate initiated [] (fill 9 0 38) word_0 (Core (Seen word_0) ∷ []) is.course refl rest).2 in
      event.none_asked s start initiate (Answer initiated (j word_0 ∷ [])) word_0 [] is.course
      (λ r n. let w : Ends result.Done start ≡ Asks r = n in cc) (λ r n. let w : Ends result.Done start ≡ Fills r = n in cc) more;
  missed = λ after is.
      let rest = (event.peel_call s start initiate (Attempt []) 1 initiated (Core (Missing 9 1) ∷ []) is.course refl
      is.so_far).2 in
      let w : Fills (fill 9 0 38) ≡ Asks rest.1.asked = rest.1.next in cc;
  denied = λ after is.
      let rest = (event.peel_call s start initiate (Attempt []) 6 guarded (Core (Seen denied_word) ∷ []) is.course refl
      is.so_far).2 in
      let granted = (event.peel_fill s start initiate guarded [] (fill 12 0 38) denied_word [] is.course refl rest).1 in
      let w : outcome.Denied denial.NotWritable ≡ outcome.Written granted.0 = granted.1 in cc;
  unsnapped = λ after is.
      let rest = (met_then start (epp 2) 2 linked (Core (Seen followed) ∷ []) is.course refl refl is.so_far).1 in
      let w : kind.Ind ≡ kind.Write =
      (event.peel_fill s start (epp 2) linked [] (fill 9 0 pointer_word_4) followed [] is.course refl rest).0.kind in cc;
  ring_0 = λ after is.
      let rest = (met_then start (epp 2) 2 linked (Core (Seen (stored 9 0 167773091)) ∷ Core (Seen followed) ∷ []) is.course
      refl refl is.so_far).1 in
      let made = (event.peel_fill s start (epp 2) linked [] (fill 9 0 pointer_word_4) (stored 9 0 167773091)
      (Core (Seen followed) ∷ []) is.course refl rest).0 in
      let z : 176161699 ≡ 167773091 = no_ring_0 pointer_word_4 made in
      let f : false ≡ true = ap (λ (n : ℕ). nat_eq n 167773091) z in cc;
  further = λ after is.
      let rest = (met_then start (epp 2) 2 linked (Core (Seen (stored 9 0 176161763)) ∷ Core (Seen followed) ∷ []) is.course
      refl refl is.so_far).1 in
      let made = (event.peel_fill s start (epp 2) linked [] (fill 9 0 pointer_word_4) (stored 9 0 176161763)
      (Core (Seen followed) ∷ []) is.course refl rest).0 in
      let z : 176161699 ≡ 176161763 = no_further pointer_word_4 made in
      let f : false ≡ true = ap (λ (n : ℕ). nat_eq n 176161763) z in cc;
  not_anew = λ after is.
      let rest = (met_then start (epp 2) 2 linked (Core (Seen snapped) ∷ []) is.course refl refl is.so_far).1 in
      let last = (event.peel_fill s start (epp 2) linked [] (fill 9 0 pointer_word_4) snapped [] is.course refl rest).2 in
      event.at_end s start (epp 2) after (Answer linked (j snapped ∷ [])) is.course (target 2) last is.end;
  called_inside = λ after is.
      let w : Calls 4 (Link 9 0) ≡ Calls 1 (Link 9 0) =
      (met_then inner epp_register 4 (record linked { ring = 1 }) (Core (Seen snapped) ∷ Core (Seen followed) ∷ [])
      is.course refl refl is.so_far).0 in
      let z : 4 ≡ 1 = same_ring 4 1 w in omega arith;
  pointer_first = λ after is.
      let rest = (met_then start (epp 2) 5 linked_too (Core (Seen snapped) ∷ after_pointer) is.course refl refl is.so_far).1 in
      let w : 9 ≡ 11 =
      (event.peel_fill s start (epp 2) linked_too [] (fill 11 0 38) snapped after_pointer is.course refl rest).0.segno in
      omega arith;
}
