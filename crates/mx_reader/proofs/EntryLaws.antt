-- Laws of entries: what a line is read as has that line, and an entry that can be said is read back.
use Rattle.std.proofs.Common.{◌≡◌, ◌≢◌, ℕ, ◌==◌, true, ◌&&◌, List, [], ◌∷◌, ◌++◌, Option, None, Some, Result, Ok, Err, Bor, codes, refl, ap, sym, subst, ◌∙◌, append_assoc}
use Rattle.std.proofs.lemmas.Bool.{eqb-true, eq-eqb}
use Rattle.std.proofs.lemmas.List.{append_cancel_right}
use Rattle.std.specs.Fmt.{decimal}
use Rattle.std.specs.Option.{MatchOption}
use Rattle.std.specs.Prelude.{IfOk}
use Rattle.mx_name.proofs.CutLaws.{cut_takes, cut_again}
use Rattle.mx_name.specs.Cuts.{cut_at}
use Rattle.mx_name.specs.Names.{is_free}
use Rattle.mx_reader.proofs.FieldLaws.{entry_number_again, entry_number_free, entry_number_takes, process_again, process_free, process_takes, ring_number_again, ring_number_free, ring_number_takes}
use Rattle.mx_reader.proofs.ReplyLaws.{exact_replies}
use Rattle.mx_reader.specs.Exact.{IsExact}
use Rattle.mx_reader.specs.Fields.{entry_number_at, process_at, ring_number_at}
use Rattle.mx_reader.specs.Lines.{IsEntry, IsReply, says_entry}
use Rattle.mx_reader.specs.ReadingEntries.{before_blank, call_then, caller_then, entry_at}
use Rattle.mx_reader.specs.ReadingReplies.{reply_at}
use Rattle.mx_reader.specs.RunTexts.{tells_path}
use Rattle.mx_request.proofs.AgainLaws.{request_again}
use Rattle.mx_request.proofs.ForeignLaws.{equals_free, free_append}
use Rattle.mx_request.proofs.StepLaws.{both, both_hold, bind_some, some_is, when_some}
use Rattle.mx_request.proofs.TakenLaws.{request_takes}
use Rattle.mx_request.specs.Reading.{request_at}
use Rattle.mx_request.specs.ReplyTexts.{reply_text}
use Rattle.mx_request.specs.RequestTexts.{fits_request, is_ring, request_text}
use Rattle.mx_request.specs.Steps.{when}
use Rattle.mx_request.specs.declared.requests.Request.{Request}
use Rattle.mx_script.proofs.FrontLaws.{after_takes}
use Rattle.mx_script.specs.Fronts.{after}
use Rattle.mx_spelling.specs.Spelling.{bounds_reply, fits_entry, is_entry_number, is_process}
use Rattle.mx_state.specs.declared.journal.Entry as journaled
use Rattle.mx_text.specs.RunText.{entry_text}

-- what stands before a last blank
pub before_takes : (text front : List ℕ) → before_blank text ≡ Some front → text ≡ front ++ 32 ∷ []
unfolding before_blank
before_takes [] front e = absurd (cc)
before_takes (c ∷ []) front e =
    let f = when_some (c == 32) [] front e in
    let blank : c ≡ 32 = eqb-true c 32 f.0 in
    subst (λ front. c ∷ [] ≡ front ++ 32 ∷ []) f.1 (ap (λ c. c ∷ []) blank)
before_takes (c ∷ d ∷ rest) front e =
    let f = bind_some (before_blank (d ∷ rest)) _ front e in
    subst (λ front. c ∷ d ∷ rest ≡ front ++ 32 ∷ []) (some_is _ _ f.2) (ap (λ xs. c ∷ xs) (before_takes (d ∷ rest) f.0 f.1))

pub before_again : (front : List ℕ) → before_blank (front ++ 32 ∷ []) ≡ Some front
unfolding before_blank
before_again [] = refl
before_again (c ∷ []) = refl
before_again (c ∷ d ∷ rest) = rw (before_again (d ∷ rest)) refl

nothing_before : (text : List ℕ) (o : Option (List ℕ)) → before_blank text ≡ o → ((front : List ℕ) → text ≢ front ++ 32 ∷ []) → o ≡ None
nothing_before text None e other = refl
nothing_before text (Some front) e other = absurd (other front (before_takes text front e))

-- what `strip_suffix` finds is what stands before the blank
pub before_found : (text : List ℕ) (r : Option (Bor (List ℕ)))
    → MatchOption r ((front : List ℕ) → text ≢ front ++ codes " ") (λ x. text ≡ x.now ++ codes " ")
    → MatchOption r (before_blank text ≡ None) (λ front. before_blank text ≡ Some front.now)
before_found text None other = nothing_before text (before_blank text) refl other
before_found text (Some x) is = ap before_blank is ∙ before_again x.now

-- what `Request::read` answers is the request that the line is read as
none_read : (line : List ℕ) (o : Option Request) → request_at line ≡ o
    → ((request : Request) → fits_request request ≡ true → request_text request ≡ line → ⊥) → ◌≡◌ {A = Option Request} None o
none_read line None e none = refl
none_read line (Some request) e none =
    let is = request_takes line request e in absurd (none request is.fits is.spelled)

pub request_read : {E : Type 0} (line : List ℕ) (result : Result (Option Request) E)
    → ((request : Request) → result ≡ Ok (Some request) → (request_text request ≡ line) × (fits_request request ≡ true))
    → (result ≡ Ok None → (request : Request) → fits_request request ≡ true → request_text request ≡ line → ⊥)
    → IfOk result (λ told. told ≡ request_at line)
request_read line (Ok None) found none = none_read line (request_at line) refl (none refl)
request_read line (Ok (Some request)) found none =
    let f = found request refl in sym (ap request_at (sym f.0) ∙ request_again request f.1)
request_read line (Err x) found none = tt

-- the line of an entry, field by field
abbrev pub entry_line : ℕ → journaled.Entry → List ℕ
entry_line number entry =
    decimal number ++ 32 ∷ (decimal entry.process ++ 32 ∷ (decimal entry.ring ++ 32 ∷ ((request_text entry.request ++ 32 ∷ [])
    ++ 61 ∷ (codes " " ++ reply_text entry.reply))))

pub entry_whole : (number : ℕ) (entry : journaled.Entry) → entry_text number entry ≡ entry_line number entry ++ codes "\n"
entry_whole number entry = whole (decimal number) (decimal entry.process) (decimal entry.ring) (request_text entry.request) (reply_text entry.reply)
  where
    whole : (n p r q s : List ℕ) → n ++ codes " " ++ p ++ codes " " ++ r ++ codes " " ++ q ++ codes " = " ++ s ++ codes "\n"
        ≡ (n ++ 32 ∷ (p ++ 32 ∷ (r ++ 32 ∷ ((q ++ 32 ∷ []) ++ 61 ∷ (codes " " ++ s))))) ++ codes "\n"
    whole n p r q s = simp append_assoc refl

record IsCaller (number : ℕ) (text : List ℕ) (c : (ℕ × ℕ) × List ℕ) : Type 0 where
  pub spelled : decimal number ++ 32 ∷ (decimal c.0.0 ++ 32 ∷ (decimal c.0.1 ++ 32 ∷ c.1)) ≡ text
  pub process : is_process c.0.0 ≡ true
  pub ring : is_ring c.0.1 ≡ true

caller_takes : (number : ℕ) (text : List ℕ) (c : (ℕ × ℕ) × List ℕ) → caller_then number text ≡ Some c → IsCaller number text c
caller_takes number text c e =
    let n = bind_some (cut_at 32 text) _ c e in
    let k = bind_some (entry_number_at n.0.0) _ c n.2 in
    let s = bind_some (when (k.0 == number) n.0.1) _ c k.2 in
    let own = when_some (k.0 == number) n.0.1 s.0 s.1 in
    let p = bind_some (cut_at 32 s.0) _ c s.2 in
    let process = bind_some (process_at p.0.0) _ c p.2 in
    let r = bind_some (cut_at 32 p.0.1) _ c process.2 in
    let ring = bind_some (ring_number_at r.0.0) _ c r.2 in
    let f = process_takes p.0.0 process.0 process.1 in
    let g = ring_number_takes r.0.0 ring.0 ring.1 in
    let same : k.0 ≡ number = eqb-true k.0 number own.0 in
    subst (IsCaller number text) (some_is _ _ ring.2) (record {
      spelled = spelled (decimal number) (decimal process.0) (decimal ring.0) text n.0.0 n.0.1 s.0 p.0.0 p.0.1 r.0.0 r.0.1
          (cut_takes 32 text n.0 n.1).0 own.1 (cut_takes 32 s.0 p.0 p.1).0 (cut_takes 32 p.0.1 r.0 r.1).0
          (ap decimal (sym same) ∙ (entry_number_takes n.0.0 k.0 k.1).0) f.0 g.0;
      process = f.1;
      ring = g.1;
    })
  where
    spelled : (number process ring text x y s p q r t : List ℕ) → text ≡ x ++ 32 ∷ y → y ≡ s → s ≡ p ++ 32 ∷ q → q ≡ r ++ 32 ∷ t
        → number ≡ x → process ≡ p → ring ≡ r
        → number ++ 32 ∷ (process ++ 32 ∷ (ring ++ 32 ∷ t)) ≡ text
    spelled number process ring text x y s p q r t e f g h i j k = rw (e, f, g, h, i, j, k) refl

call_takes : (text : List ℕ) (p : List ℕ × List ℕ) → call_then text ≡ Some p → (p.0 ++ 32 ∷ []) ++ 61 ∷ (codes " " ++ p.1) ≡ text
call_takes text c e =
    let p = bind_some (cut_at 61 text) _ c e in
    let q = bind_some (before_blank p.0.0) _ c p.2 in
    let r = bind_some (after (codes " ") p.0.1) _ c q.2 in
    subst (λ (c : List ℕ × List ℕ). (c.0 ++ 32 ∷ []) ++ 61 ∷ (codes " " ++ c.1) ≡ text) (some_is _ _ r.2)
    (ap (λ x. x ++ 61 ∷ (codes " " ++ r.0)) (sym (before_takes p.0.0 q.0 q.1))
    ∙ ap (λ x. p.0.0 ++ 61 ∷ x) (sym (after_takes (codes " ") p.0.1 r.0 r.1))
    ∙ sym (cut_takes 61 text p.0 p.1).0)

takes : (number : ℕ) (line : List ℕ) (entry : journaled.Entry) → entry_at number line ≡ Some entry → IsEntry number line entry
unfolding entry_at
takes number line entry e =
    let c = bind_some (caller_then number line) _ entry e in
    let p = bind_some (call_then c.0.1) _ entry c.2 in
    let request = bind_some (request_at p.0.0) _ entry p.2 in
    let reply = bind_some (reply_at p.0.1) _ entry request.2 in
    let caller = caller_takes number line c.0 c.1 in
    let call = call_takes c.0.1 p.0 p.1 in
    let asked = request_takes p.0.0 request.0 request.1 in
    let answered : IsReply p.0.1 reply.0 = exact_replies.takes p.0.1 reply.0 reply.1 in
    let said = both (bounds_reply reply.0) (tells_path reply.0) answered.says in
    subst (IsEntry number line) (some_is _ _ reply.2) (record {
      spelled = entry_whole number _
          ∙ ap (λ x. x ++ codes "\n") (spelled (decimal number) (decimal c.0.0.0) (decimal c.0.0.1) (request_text request.0) (reply_text reply.0)
          line c.0.1 p.0.0 p.0.1 caller.spelled call asked.spelled answered.spelled);
      says = both_hold _ _ (both_hold _ _ caller.process (both_hold _ _ caller.ring (both_hold _ _ asked.fits said.0))) said.1;
    })
  where
    spelled : (n p r request reply line rest q s : List ℕ) → n ++ 32 ∷ (p ++ 32 ∷ (r ++ 32 ∷ rest)) ≡ line
        → (q ++ 32 ∷ []) ++ 61 ∷ (codes " " ++ s) ≡ rest → request ≡ q → reply ≡ s
        → n ++ 32 ∷ (p ++ 32 ∷ (r ++ 32 ∷ ((request ++ 32 ∷ []) ++ 61 ∷ (codes " " ++ reply)))) ≡ line
    spelled n p r request reply line rest q s e f g h = rw (← e, ← f, g, h) refl

line_again : (number : ℕ) (entry : journaled.Entry) → is_entry_number number ≡ true → says_entry entry ≡ true
    → entry_at number (entry_line number entry) ≡ Some entry
unfolding entry_at after
line_again number entry low e =
    let s = both (fits_entry entry) (tells_path entry.reply) e in
    let f = both (is_process entry.process) (is_ring entry.ring && (fits_request entry.request && bounds_reply entry.reply)) s.0 in
    let g = both (is_ring entry.ring) (fits_request entry.request && bounds_reply entry.reply) f.1 in
    let h = both (fits_request entry.request) (bounds_reply entry.reply) g.1 in
    let call : List ℕ = (request_text entry.request ++ 32 ∷ []) ++ 61 ∷ (codes " " ++ reply_text entry.reply) in
    let free : is_free 61 (request_text entry.request ++ 32 ∷ []) ≡ true
    = free_append 61 (request_text entry.request) (32 ∷ []) (equals_free entry.request h.0) refl in
    rw (
      cut_again 32 (decimal number) (decimal entry.process ++ 32 ∷ (decimal entry.ring ++ 32 ∷ call)) (entry_number_free 32 number refl low),
      entry_number_again number low,
      eq-eqb number number refl,
      cut_again 32 (decimal entry.process) (decimal entry.ring ++ 32 ∷ call) (process_free 32 entry.process refl f.0),
      process_again entry.process f.0,
      cut_again 32 (decimal entry.ring) call (ring_number_free 32 entry.ring refl g.0),
      ring_number_again entry.ring g.0,
      cut_again 61 (request_text entry.request ++ 32 ∷ []) (codes " " ++ reply_text entry.reply) free,
      before_again (request_text entry.request),
      request_again entry.request h.0,
      exact_replies.again (reply_text entry.reply) entry.reply (record { spelled = refl; says = both_hold _ _ h.1 s.1 }),
    ) refl

pub exact_entries : (number : ℕ) → is_entry_number number ≡ true → IsExact (IsEntry number) (entry_at number)
exact_entries number low = record { takes = takes number; again = again }
  where
    again : (line : List ℕ) (entry : journaled.Entry) → IsEntry number line entry → entry_at number line ≡ Some entry
    again line entry is =
        let same : entry_line number entry ≡ line
        = append_cancel_right (entry_line number entry) line (codes "\n") (sym (entry_whole number entry) ∙ is.spelled) in
        subst (λ t. entry_at number t ≡ Some entry) same (line_again number entry low is.says)
