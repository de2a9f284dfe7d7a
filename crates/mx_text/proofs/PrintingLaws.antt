-- Laws on a text that is sent piece by piece.
use Rattle.std.proofs.Common.{◌≡◌, ℕ, codes, get_or, ◌^◌, ◌+◌, ◌<◌, ◌≤◌, List, [], ◌∷◌, ◌++◌, length, take, drop, Option, Some, None, ◌-◌, refl, sym, add-one, drop-cons, ◌∙◌, ap, subst, arith, append_assoc, length-append, length-drop}
use Rattle.std.proofs.Math.Seq.{take-append_seam}
use Rattle.std.proofs.lemmas.Fmt.{length-decimal-le}
use Rattle.std.proofs.lemmas.List.{take-append-drop}
use Rattle.std.specs.Fmt.{decimal}
use Rattle.std.specs.Result.{OnErr}
use Rattle.std.specs.Prelude.{Result, Ok, Err}
use Rattle.mx_state.specs.declared.journal.Entry.{Entry}
use Rattle.mx_io.specs.Bytes.{Appends, AppendsPart}
use Rattle.mx_text.specs.Printing.{IsSent, IsCutShort}
use Rattle.mx_text.specs.RunText.{entry_text, entries_text, step_text, steps_text, parts_text}
use Rattle.mx_transcript.specs.Transcripts.{Step}

-- what holds anyhow holds on an error
pub on_err : {T E P : Type 0} (r : Result T E) → P → OnErr r P
on_err (Ok x) p = tt
on_err (Err e) p = p

-- what is appended, and then more
pub appends_more : (a b c : Option (List ℕ)) (xs ys : List ℕ) → Appends a b xs → Appends b c ys → Appends a c (xs ++ ys)
appends_more (Some a) b c xs ys first second =
    let P : Option (List ℕ) → Type 0 = λ v. Appends v c ys in
    subst P first second ∙ ap Some (append_assoc a xs ys)
appends_more None b c xs ys first second =
    let P : Option (List ℕ) → Type 0 = λ v. Appends v c ys in
    subst P first second

-- more of the rest is sent
pub sent_more : (a b c : Option (List ℕ)) (text rest left : List ℕ) → IsSent a b rest text → IsSent b c left rest → IsSent a c left text
sent_more a b c text rest left first second = record {
  sent = first.sent ++ second.sent;
  appended = appends_more a b c first.sent second.sent first.appended second.appended;
  whole = append_assoc first.sent second.sent left ∙ ap (λ v. first.sent ++ v) second.whole ∙ first.whole;
}

-- a text that has more behind it
pub sent_before : (a b : Option (List ℕ)) (text rest more : List ℕ) → IsSent a b rest text → IsSent a b (rest ++ more) (text ++ more)
sent_before a b text rest more h = record {
  sent = h.sent;
  appended = h.appended;
  whole = sym (append_assoc h.sent rest more) ∙ ap (λ v. v ++ more) h.whole;
}

-- the whole rest is sent
pub sent_whole : (a b c : Option (List ℕ)) (text rest : List ℕ) → IsSent a b rest text → Appends b c rest → Appends a c text
sent_whole a b c text rest h last =
    let P : List ℕ → Type 0 = λ v. Appends a c v in
    subst P h.whole (appends_more a b c h.sent rest h.appended last)

pub cut_more : (a b c : Option (List ℕ)) (text rest : List ℕ) → IsSent a b rest text → IsCutShort b c rest → IsCutShort a c text
cut_more a b c text rest h cut = record {
  rest = cut.rest;
  some = cut.some;
  is_sent = sent_more a b c text rest cut.rest h cut.is_sent;
}

pub cut_before : (a b : Option (List ℕ)) (text more : List ℕ) → IsCutShort a b text → IsCutShort a b (text ++ more)
cut_before a b text more cut = record {
  rest = cut.rest ++ more;
  some = let e : length (cut.rest ++ more) ≡ length cut.rest + length more = length-append cut.rest more in let s : 1 ≤ length cut.rest = cut.some in omega arith;
  is_sent = sent_before a b text cut.rest more cut.is_sent;
}

-- a write that stopped early
pub part_cut : (a b : Option (List ℕ)) (text : List ℕ) → AppendsPart a b text → IsCutShort a b text
part_cut a b text part = record {
  rest = drop part.0 text;
  some = let e : length (drop part.0 text) ≡ length text - part.0 = length-drop part.0 text in let s : part.0 < length text = part.1 in omega arith;
  is_sent = record { sent = take part.0 text; appended = part.2; whole = take-append-drop part.0 text };
}

pub cut_part : (a b : Option (List ℕ)) (text : List ℕ) → IsCutShort a b text → AppendsPart a b text
cut_part a b text cut =
    let sent : List ℕ = cut.is_sent.sent in
    let long : length text ≡ length sent + length cut.rest = rw (← cut.is_sent.whole) (length-append sent cut.rest) in
    let front : sent ≡ take (length sent) text = rw (← cut.is_sent.whole) (sym (take-append_seam sent cut.rest)) in
    let some : 1 ≤ length cut.rest = cut.some in
    let P : List ℕ → Type 0 = λ v. Appends a b v in
    (length sent, omega arith, subst P front cut.is_sent.appended)

-- A loop that sends texts. The next one is added to the buffer, and some of the buffer is sent.
pub sent_next : (a b c : Option (List ℕ)) (buffer added kept rest piece left text : List ℕ)
    → IsSent a b (buffer ++ rest) text → rest ≡ piece ++ left → added ≡ buffer ++ piece → IsSent b c kept added → IsSent a c (kept ++ left) text
sent_next a b c buffer added kept rest piece left text h parts add send =
    let joined : added ++ left ≡ buffer ++ rest = rw (add, parts) (append_assoc buffer piece left) in
    let P : List ℕ → Type 0 = λ v. IsSent b c (kept ++ left) v in
    sent_more a b c text (buffer ++ rest) (kept ++ left) h (subst P joined (sent_before b c added kept left send))

-- or not all that was to be sent
pub cut_next : (a b c : Option (List ℕ)) (buffer added rest piece left text : List ℕ)
    → IsSent a b (buffer ++ rest) text → rest ≡ piece ++ left → added ≡ buffer ++ piece → IsCutShort b c added → IsCutShort a c text
cut_next a b c buffer added rest piece left text h parts add cut =
    let joined : added ++ left ≡ buffer ++ rest = rw (add, parts) (append_assoc buffer piece left) in
    let P : List ℕ → Type 0 = λ v. IsCutShort b c v in
    cut_more a b c text (buffer ++ rest) h (subst P joined (cut_before b c added left cut))

-- or it can't be added for want of memory
pub cut_here : (a b : Option (List ℕ)) (buffer rest line left text : List ℕ)
    → IsSent a b (buffer ++ rest) text → rest ≡ (line ++ 10 ∷ []) ++ left → IsCutShort a b text
cut_here a b buffer rest line left text h parts = record {
  rest = buffer ++ rest;
  some = rw parts (simp length-append (omega arith));
  is_sent = h;
}

-- the text of what is left, taken apart
pub steps_next : (steps left : List Step) (step : Step) → steps ≡ step ∷ left → steps_text steps ≡ step_text step ++ steps_text left
steps_next steps left step e = ap steps_text e

pub entries_left : (i number : ℕ) (entries : List Entry) (entry : Entry) → i < length entries → entry ≡ get_or entries i entry
    → entries_text number (drop i entries) ≡ entry_text number entry ++ entries_text (number + 1) (drop (i + 1) entries)
entries_left i number entries entry h e = rw (add-one i, drop-cons entries i entry, ← e) refl

-- One text after another: this one begins with what was not sent of the last.
pub sent_then : (a b c : Option (List ℕ)) (text rest kept more : List ℕ)
    → IsSent a b rest text → IsSent b c kept (rest ++ more) → IsSent a c kept (text ++ more)
sent_then a b c text rest kept more first second =
    sent_more a b c (text ++ more) (rest ++ more) kept (sent_before a b text rest more first) second

pub cut_then : (a b c : Option (List ℕ)) (text rest more : List ℕ)
    → IsSent a b rest text → IsCutShort b c (rest ++ more) → IsCutShort a c (text ++ more)
cut_then a b c text rest more first cut = cut_more a b c (text ++ more) (rest ++ more) (sent_before a b text rest more first) cut

pub cut_memory : (a b : Option (List ℕ)) (text rest more : List ℕ) → IsSent a b rest text → 1 ≤ length more → IsCutShort a b (text ++ more)
cut_memory a b text rest more first some = record {
  rest = rest ++ more;
  some = let e : length (rest ++ more) ≡ length rest + length more = length-append rest more in omega arith;
  is_sent = sent_before a b text rest more first;
}

-- A part of the run: its heading is added, and then its steps are printed.
abbrev pub heading : ℕ → List ℕ
heading p = codes "process " ++ decimal p ++ codes "\n"

pub parts_left : (i p : ℕ) (parts : List (List Step)) (steps : List Step) → i < length parts → steps ≡ get_or parts i steps
    → parts_text p (drop i parts) ≡ (heading p ++ steps_text steps) ++ parts_text (p + 1) (drop (i + 1) parts)
parts_left i p parts steps h e = rw (add-one i, drop-cons parts i steps, ← e) refl

-- two texts that are added one after the other
append_next : (buffer added first second : List ℕ) → added ≡ buffer ++ first → added ++ second ≡ buffer ++ (first ++ second)
append_next buffer added first second h = rw h (append_assoc buffer first second)

pub part_next : (a b c : Option (List ℕ)) (buffer added kept text : List ℕ) (i p : ℕ) (parts : List (List Step)) (steps : List Step)
    → IsSent a b (buffer ++ parts_text p (drop i parts)) text → i < length parts → steps ≡ get_or parts i steps
    → added ≡ buffer ++ heading p → IsSent b c kept (added ++ steps_text steps)
    → IsSent a c (kept ++ parts_text (p + 1) (drop (i + 1) parts)) text
part_next a b c buffer added kept text i p parts steps h within is add send =
    sent_next a b c buffer (added ++ steps_text steps) kept (parts_text p (drop i parts)) (heading p ++ steps_text steps)
    (parts_text (p + 1) (drop (i + 1) parts)) text h (parts_left i p parts steps within is)
    (append_next buffer added (heading p) (steps_text steps) add) send

pub part_cut_next : (a b c : Option (List ℕ)) (buffer added text : List ℕ) (i p : ℕ) (parts : List (List Step)) (steps : List Step)
    → IsSent a b (buffer ++ parts_text p (drop i parts)) text → i < length parts → steps ≡ get_or parts i steps
    → added ≡ buffer ++ heading p → IsCutShort b c (added ++ steps_text steps) → IsCutShort a c text
part_cut_next a b c buffer added text i p parts steps h within is add cut =
    cut_next a b c buffer (added ++ steps_text steps) (parts_text p (drop i parts)) (heading p ++ steps_text steps)
    (parts_text (p + 1) (drop (i + 1) parts)) text h (parts_left i p parts steps within is)
    (append_next buffer added (heading p) (steps_text steps) add) cut

pub part_cut_here : (a b : Option (List ℕ)) (buffer text : List ℕ) (i p : ℕ) (parts : List (List Step)) (steps : List Step)
    → IsSent a b (buffer ++ parts_text p (drop i parts)) text → i < length parts → steps ≡ get_or parts i steps → IsCutShort a b text
part_cut_here a b buffer text i p parts steps h within is =
    let left : List ℕ = parts_text (p + 1) (drop (i + 1) parts) in
    cut_here a b buffer (parts_text p (drop i parts)) (codes "process " ++ decimal p) (steps_text steps ++ left) text h
    (parts_left i p parts steps within is ∙ append_assoc (heading p) (steps_text steps) left)

-- The whole run: a heading is put into an empty buffer, then come entries, parts and an end.
pub entries_cut : (a b : Option (List ℕ)) (none buffer heading entries parts end : List ℕ)
    → none ≡ [] → buffer ≡ none ++ heading → IsCutShort a b (buffer ++ entries) → AppendsPart a b (heading ++ entries ++ parts ++ end)
entries_cut a b none buffer heading entries parts end empty add cut =
    let begun : buffer ≡ heading = rw (add, empty) refl in
    let P : List ℕ → Type 0 = λ v. IsCutShort a b (v ++ entries) in
    cut_part a b (heading ++ entries ++ parts ++ end)
    (cut_before a b (heading ++ entries ++ parts) end (cut_before a b (heading ++ entries) parts (subst P begun cut)))

pub parts_sent : (a b c : Option (List ℕ)) (none buffer rest left heading entries parts : List ℕ)
    → none ≡ [] → buffer ≡ none ++ heading → IsSent a b rest (buffer ++ entries) → IsSent b c left (rest ++ parts)
    → IsSent a c left (heading ++ entries ++ parts)
parts_sent a b c none buffer rest left heading entries parts empty add first second =
    let begun : buffer ≡ heading = rw (add, empty) refl in
    let P : List ℕ → Type 0 = λ v. IsSent a b rest (v ++ entries) in
    sent_then a b c (heading ++ entries) rest left parts (subst P begun first) second

pub parts_cut : (a b c : Option (List ℕ)) (none buffer rest heading entries parts end : List ℕ)
    → none ≡ [] → buffer ≡ none ++ heading → IsSent a b rest (buffer ++ entries) → IsCutShort b c (rest ++ parts)
    → AppendsPart a c (heading ++ entries ++ parts ++ end)
parts_cut a b c none buffer rest heading entries parts end empty add first cut =
    let begun : buffer ≡ heading = rw (add, empty) refl in
    let P : List ℕ → Type 0 = λ v. IsSent a b rest (v ++ entries) in
    cut_part a c (heading ++ entries ++ parts ++ end)
    (cut_before a c (heading ++ entries ++ parts) end (cut_then a b c (heading ++ entries) rest parts (subst P begun first) cut))

pub end_cut : (a b c : Option (List ℕ)) (rest added text end : List ℕ)
    → IsSent a b rest text → added ≡ rest ++ end → AppendsPart b c added → AppendsPart a c (text ++ end)
end_cut a b c rest added text end h add part =
    let P : List ℕ → Type 0 = λ v. AppendsPart b c v in
    cut_part a c (text ++ end) (cut_then a b c text rest end h (part_cut b c (rest ++ end) (subst P add part)))

pub end_sent : (a b c : Option (List ℕ)) (rest added text end : List ℕ)
    → IsSent a b rest text → added ≡ rest ++ end → Appends b c added → Appends a c (text ++ end)
end_sent a b c rest added text end h add last =
    let P : List ℕ → Type 0 = λ v. Appends b c v in
    sent_whole a b c (text ++ end) (rest ++ end) (sent_before a b text rest end h) (subst P add last)

-- the heading of the journal is short
pub short_heading : (none items label : List ℕ) (n : ℕ) → none ≡ [] → items ≡ none ++ (label ++ decimal n ++ codes "\n") → length label ≤ 8
    → n < 2 ^ 64 → length items ≤ 32768
short_heading none items label n empty is few small =
    let d : length (decimal n) ≤ 20 = length-decimal-le 20 n (omega arith) (omega arith) small in
    let a : length (label ++ decimal n ++ codes "\n") ≡ length (label ++ decimal n) + 1 = length-append (label ++ decimal n) (codes "\n") in
    let b : length (label ++ decimal n) ≡ length label + length (decimal n) = length-append label (decimal n) in
    rw (is, empty) (omega (arith, a, b, d, few))
