-- Laws of fields at the head of a text: each is what its number, or its word, at the head of the text says; and a line is read
-- field by field.
use Rattle.std.proofs.Common.{◌≡◌, ℕ, ◌==◌, nat_le, not, Bool, true, false, cond, List, [], ◌∷◌, ◌++◌, Option, Some, None, codes, refl, ap, sym, ◌∙◌, append_assoc}
use Rattle.std.proofs.lemmas.Bool.{eqb-true}
use Rattle.std.specs.Cmp.Lexicographic.{pointwise}
use Rattle.mx_core.specs.declared.elements.Event.TheVariants.{Seen}
use Rattle.mx_core.specs.declared.elements.Kind.{Kind}
use Rattle.mx_core.specs.declared.elements.Kind.TheVariants as kind
use Rattle.mx_core.specs.declared.elements.Outcome.TheVariants as outcome
use Rattle.mx_name.proofs.CutLaws.{cut_again, cut_takes}
use Rattle.mx_name.specs.Cuts.{behind, cut_at}
use Rattle.mx_name.specs.Names.{is_free}
use Rattle.mx_reader.proofs.FieldLaws.{address_again, address_takes}
use Rattle.mx_reader.proofs.NumberLaws.{bind_same, other_way}
use Rattle.mx_reader.specs.Fields.{address_at, entry_number_at, kind_at, line_number_at, process_at, ring_number_at}
use Rattle.mx_reader.specs.Heads.{address_then, entry_number_then, kind_then, line_number_then, process_then, ring_number_then, word_number_then, word_then}
use Rattle.mx_reader.specs.Numbers.{decimal_then, octal_then}
use Rattle.mx_reader.specs.ReadingEvents.{element_at, end_at, event_at, outcome_at, read_at, result_at}
use Rattle.mx_request.proofs.AddressLaws.{address_free}
use Rattle.mx_request.proofs.FieldLaws.{segno_again, segno_takes, word_number_again, word_number_takes}
use Rattle.mx_request.proofs.StepLaws.{bind_some, both, both_hold, fails, some_is}
use Rattle.mx_request.specs.Decimals.{decimal_number}
use Rattle.mx_request.specs.Fields.{address_text}
use Rattle.mx_request.specs.RequestTexts.{is_ring, is_segno}
use Rattle.mx_request.specs.Steps.{◌>>=◌, when}
use Rattle.mx_request.specs.WordNumbers.{word_number_of}
use Rattle.mx_script.proofs.FieldLaws.{octal_free}
use Rattle.mx_script.proofs.FrontLaws.{after_takes}
use Rattle.mx_script.specs.Fields.{word_at}
use Rattle.mx_script.specs.Fronts.{after, read_or}
use Rattle.mx_sdw.specs.Octal.{octal, octal_number}
use Rattle.mx_sdw.specs.Words.{word_of}
use Rattle.mx_spelling.specs.Spelling.{is_entry_number, is_line_number, is_process}
use Rattle.mx_transcript.specs.declared.transcripts.Event2.TheVariants.{Core}
use Rattle.mx_transcript.specs.declared.transcripts.Result2.{Result2}

-- a field, and what stands behind the cut
abbrev keep : {A : Type 0} → Option A → List ℕ → Option (A × List ℕ)
keep None rest = None
keep (Some a) rest = Some (a, rest)

keeps : {A : Type 0} (o : Option A) (rest : List ℕ) → (o >>= λ a. Some (a, rest)) ≡ keep o rest
keeps None rest = refl
keeps (Some a) rest = refl

abbrev with_more : {A B : Type 0} → (A → Option B) → A × List ℕ → Option (B × List ℕ)
with_more g q = g q.0 >>= λ b. Some (b, q.1)

abbrev goes_on : {A B : Type 0} → (A → List ℕ → Option B) → A × List ℕ → Option B
goes_on g q = g q.0 q.1

-- a field is read by two steps on what stands before the cut
then_more : {A B : Type 0} (o : Option (List ℕ × List ℕ)) (f : List ℕ → Option A) (g : A → Option B)
    → (o >>= λ p. (f p.0 >>= g) >>= λ b. Some (b, p.1)) ≡ ((o >>= λ p. f p.0 >>= λ a. Some (a, p.1)) >>= with_more g)
then_more None f g = refl
then_more {A = A} {B = B} (Some p) f g =
    keeps (f p.0 >>= g) p.1 ∙ by_field (f p.0) ∙ sym (ap (λ o. o >>= with_more g) (keeps (f p.0) p.1))
  where
    by_field : (a : Option A) → keep (a >>= g) p.1 ≡ (keep a p.1 >>= with_more g)
    by_field None = refl
    by_field (Some a) = sym (keeps (g a) p.1)

-- and what follows goes on from the field and from what stands behind the cut
then_on : {A B : Type 0} (o : Option (List ℕ × List ℕ)) (f : List ℕ → Option A) (g : A → List ℕ → Option B)
    → (o >>= λ p. f p.0 >>= λ a. g a p.1) ≡ ((o >>= λ p. f p.0 >>= λ a. Some (a, p.1)) >>= goes_on g)
then_on None f g = refl
then_on {A = A} {B = B} (Some p) f g = by_field (f p.0) ∙ sym (ap (λ o. o >>= goes_on g) (keeps (f p.0) p.1))
  where
    by_field : (a : Option A) → (a >>= λ a. g a p.1) ≡ (keep a p.1 >>= goes_on g)
    by_field None = refl
    by_field (Some a) = refl

-- fields by their numbers
pub process_by_number : (text : List ℕ) → process_then text
    ≡ (decimal_then 2 text >>= λ q. when (is_process q.0) q.0 >>= λ p. Some (p, q.1))
process_by_number text = then_more (cut_at 32 text) (decimal_number 2) (λ p. when (is_process p) p)

pub ring_by_number : (text : List ℕ) → ring_number_then text
    ≡ (decimal_then 1 text >>= λ q. when (is_ring q.0) q.0 >>= λ n. Some (n, q.1))
ring_by_number text = then_more (cut_at 32 text) (decimal_number 1) (λ n. when (is_ring n) n)

pub entry_by_number : (text : List ℕ) → entry_number_then text
    ≡ (decimal_then 6 text >>= λ q. when (is_entry_number q.0) q.0 >>= λ n. Some (n, q.1))
entry_by_number text = then_more (cut_at 32 text) (decimal_number 6) (λ n. when (is_entry_number n) n)

pub line_by_number : (text : List ℕ) → line_number_then text
    ≡ (decimal_then 10 text >>= λ q. when (is_line_number q.0) q.0 >>= λ n. Some (n, q.1))
line_by_number text = then_more (cut_at 32 text) (decimal_number 10) (λ n. when (is_line_number n) n)

pub word_by_number : (text : List ℕ) → word_then text ≡ (octal_then 12 32 text >>= λ q. word_of q.0 >>= λ word. Some (word, q.1))
word_by_number text = then_more (cut_at 32 text) (octal_number 12) (λ n. word_of n)

pub word_number_by_number : (text : List ℕ) → word_number_then text
    ≡ (octal_then 5 32 text >>= λ q. when (nat_le q.0 16383) q.0 >>= λ word. Some (word, q.1))
word_number_by_number text = then_more (cut_at 32 text) (octal_number 5) (λ word. when (nat_le word 16383) word)

-- two readings that read the same
same_readings : {A : Type 0} (a b : Option A) → ((x : A) → a ≡ Some x → b ≡ Some x) → ((x : A) → b ≡ Some x → a ≡ Some x) → a ≡ b
same_readings None None f g = refl
same_readings None (Some b) f g = g b refl
same_readings (Some a) b f g = sym (f a refl)

-- an address by its two numbers: no blank is a digit
abbrev address_of : ℕ → ℕ × List ℕ → Option ((ℕ × ℕ) × List ℕ)
address_of segno word = Some ((segno, word.0), word.1)

abbrev address_by : List ℕ → Option ((ℕ × ℕ) × List ℕ)
address_by text = octal_then 4 124 text >>= λ s. word_number_then s.1 >>= λ w. Some ((s.0, w.0), w.1)

address_on : (text : List ℕ) (a : (ℕ × ℕ) × List ℕ) → address_then text ≡ Some a → address_by text ≡ Some a
address_on text a e =
    let p = bind_some (cut_at 32 text) _ a e in
    let b = bind_some (address_at p.0.0) _ a p.2 in
    let f = address_takes p.0.0 b.0 b.1 in
    let fits = both (is_segno b.0.0) (nat_le b.0.1 16383) f.fits in
    let spelled = spelled (octal b.0.0) (octal b.0.1) text p.0.0 p.0.1 (cut_takes 32 text p.0 p.1).0 f.spelled in
    ap address_by spelled
    ∙ rw (
      cut_again 124 (octal b.0.0) (octal b.0.1 ++ 32 ∷ p.0.1) (octal_free 124 b.0.0 refl),
      segno_again b.0.0 fits.0,
      cut_again 32 (octal b.0.1) p.0.1 (octal_free 32 b.0.1 refl),
      word_number_again b.0.1 fits.1,
    ) b.2
  where
    spelled : (segno word text x y : List ℕ) → text ≡ x ++ 32 ∷ y → segno ++ codes "|" ++ word ≡ x → text ≡ segno ++ 124 ∷ (word ++ 32 ∷ y)
    spelled segno word text x y e f = e ∙ ap (λ x. x ++ 32 ∷ y) (sym f) ∙ simp append_assoc refl

address_back : (text : List ℕ) (a : (ℕ × ℕ) × List ℕ) → address_by text ≡ Some a → address_then text ≡ Some a
address_back text a e =
    let s = bind_some (octal_then 4 124 text) _ a e in
    let p = bind_some (cut_at 124 text) _ s.0 s.1 in
    let n = bind_some (octal_number 4 p.0.0) _ s.0 p.2 in
    let w = bind_some (word_number_then s.0.1) _ a s.2 in
    let q = bind_some (cut_at 32 s.0.1) _ w.0 w.1 in
    let m = bind_some (word_number_of q.0.0) _ w.0 q.2 in
    let segno = segno_takes p.0.0 n.0 n.1 in
    let word = word_number_takes q.0.0 m.0 m.1 in
    let same_n : (n.0, p.0.1) ≡ s.0 = some_is _ _ n.2 in
    let same_m : (m.0, q.0.1) ≡ w.0 = some_is _ _ m.2 in
    let first : text ≡ octal n.0 ++ 124 ∷ p.0.1 = (cut_takes 124 text p.0 p.1).0 ∙ ap (λ x. x ++ 124 ∷ p.0.1) (sym segno.0) in
    let second : p.0.1 ≡ octal m.0 ++ 32 ∷ q.0.1
    = ap (λ (x : ℕ × List ℕ). x.1) same_n ∙ (cut_takes 32 s.0.1 q.0 q.1).0 ∙ ap (λ x. x ++ 32 ∷ q.0.1) (sym word.0) in
    let spelled : text ≡ address_text n.0 m.0 ++ 32 ∷ q.0.1
    = first ∙ ap (λ x. octal n.0 ++ 124 ∷ x) second ∙ simp append_assoc refl in
    ap address_then spelled
    ∙ rw (
      cut_again 32 (address_text n.0 m.0) q.0.1 (address_free 32 n.0 m.0 refl refl),
      address_again n.0 m.0 (both_hold _ _ segno.1 word.1),
    ) (ap (λ (x : ℕ × List ℕ). address_of x.0 (m.0, q.0.1)) same_n ∙ ap (address_of s.0.0) same_m ∙ w.2)

pub address_by_numbers : (text : List ℕ) → address_then text ≡ address_by text
address_by_numbers text = same_readings (address_then text) (address_by text) (address_on text) (address_back text)

-- a word behind which a blank stands: a front of the text, or what stands before its first blank
word_front : (word text : List ℕ) → is_free 32 word ≡ true
    → after (word ++ 32 ∷ []) text ≡ (cut_at 32 text >>= λ p. when (pointwise ◌==◌ p.0 word) p.1)
unfolding after cut_at
word_front [] [] e = refl
word_front [] (c ∷ cs) e = by_blank (c == 32) (cut_at 32 cs) refl
  where
    by_blank : (test : Bool) (cut : Option (List ℕ × List ℕ)) → (c == 32) ≡ test → cond (32 == c) (Some cs) None
        ≡ (cond test (Some ([], cs)) (behind (c ∷ []) cut) >>= λ p. when (pointwise ◌==◌ p.0 []) p.1)
    by_blank true cut t = rw (other_way 32 c, t) refl
    by_blank false None t = rw (other_way 32 c, t) refl
    by_blank false (Some q) t = rw (other_way 32 c, t) refl
word_front (w ∷ ws) [] e = refl
word_front (w ∷ ws) (c ∷ cs) e =
    let free = both (not (w == 32)) (is_free 32 ws) e in
    by_same (w == c) refl (word_front ws cs free.1) (fails (w == 32) free.0)
  where
    on_same : (cut : Option (List ℕ × List ℕ)) → (c == w) ≡ true → (cut >>= λ p. when (pointwise ◌==◌ p.0 ws) p.1)
        ≡ (behind (c ∷ []) cut >>= λ p. when (pointwise ◌==◌ p.0 (w ∷ ws)) p.1)
    on_same None t = refl
    on_same (Some q) t = rw t refl

    on_other : (test : Bool) (cut : Option (List ℕ × List ℕ)) → (c == w) ≡ false
        → None ≡ (cond test (Some ([], cs)) (behind (c ∷ []) cut) >>= λ p. when (pointwise ◌==◌ p.0 (w ∷ ws)) p.1)
    on_other true cut t = refl
    on_other false None t = refl
    on_other false (Some q) t = rw t refl

    by_same : (test : Bool) → (w == c) ≡ test
        → after (ws ++ 32 ∷ []) cs ≡ (cut_at 32 cs >>= λ p. when (pointwise ◌==◌ p.0 ws) p.1) → (w == 32) ≡ false
        → cond test (after (ws ++ 32 ∷ []) cs) None
        ≡ (cond (c == 32) (Some ([], cs)) (behind (c ∷ []) (cut_at 32 cs)) >>= λ p. when (pointwise ◌==◌ p.0 (w ∷ ws)) p.1)
    by_same true t ih other =
        let mark : (c == 32) ≡ false = ap (λ (b : ℕ). b == 32) (sym (eqb-true w c t)) ∙ other in
        rw mark (ih ∙ on_same (cut_at 32 cs) (other_way c w ∙ t))
    by_same false t ih other = on_other (c == 32) (cut_at 32 cs) (other_way c w ∙ t)

-- the kinds, word by word
abbrev kinds_by : List ℕ → Option (Kind × List ℕ)
kinds_by text =
    read_or (after (codes "read ") text) (λ rest. Some (kind.Read, rest))
    (read_or (after (codes "ind ") text) (λ rest. Some (kind.Ind, rest))
    (read_or (after (codes "write ") text) (λ rest. Some (kind.Write, rest))
    (read_or (after (codes "fetch ") text) (λ rest. Some (kind.Fetch, rest))
    (read_or (after (codes "call ") text) (λ rest. Some (kind.Call, rest))
    (read_or (after (codes "return ") text) (λ rest. Some (kind.Return, rest)) None)))))

pick : (test : Bool) (k : Kind) (rest : List ℕ) (o : Option Kind) (other : Option (Kind × List ℕ)) → keep o rest ≡ other
    → keep (cond test (Some k) o) rest ≡ read_or (when test rest) (λ rest. Some (k, rest)) other
pick true k rest o other e = refl
pick false k rest o other e = e

abbrev kept : Option (List ℕ × List ℕ) → Option (Kind × List ℕ)
kept cut = cut >>= λ p. kind_at p.0 >>= λ kind. Some (kind, p.1)

pub kind_by_fronts : (text : List ℕ) → kind_then text ≡ kinds_by text
kind_by_fronts text =
    rw (
      word_front (codes "read") text refl,
      word_front (codes "ind") text refl,
      word_front (codes "write") text refl,
      word_front (codes "fetch") text refl,
      word_front (codes "call") text refl,
      word_front (codes "return") text refl,
    ) (by_cut (cut_at 32 text))
  where
    by_cut : (cut : Option (List ℕ × List ℕ)) → kept cut
        ≡ read_or (cut >>= λ p. when (pointwise ◌==◌ p.0 (codes "read")) p.1) (λ rest. Some (kind.Read, rest))
        (read_or (cut >>= λ p. when (pointwise ◌==◌ p.0 (codes "ind")) p.1) (λ rest. Some (kind.Ind, rest))
        (read_or (cut >>= λ p. when (pointwise ◌==◌ p.0 (codes "write")) p.1) (λ rest. Some (kind.Write, rest))
        (read_or (cut >>= λ p. when (pointwise ◌==◌ p.0 (codes "fetch")) p.1) (λ rest. Some (kind.Fetch, rest))
        (read_or (cut >>= λ p. when (pointwise ◌==◌ p.0 (codes "call")) p.1) (λ rest. Some (kind.Call, rest))
        (read_or (cut >>= λ p. when (pointwise ◌==◌ p.0 (codes "return")) p.1) (λ rest. Some (kind.Return, rest)) None)))))
    by_cut None = refl
    by_cut (Some p) =
        keeps (kind_at p.0) p.1
        ∙ pick _ kind.Read p.1 _ _ (pick _ kind.Ind p.1 _ _ (pick _ kind.Write p.1 _ _ (pick _ kind.Fetch p.1 _ _
        (pick _ kind.Call p.1 _ _ (pick _ kind.Return p.1 None None refl)))))

-- lines, field by field
pub element_steps : (text : List ℕ) → element_at text
    ≡ (kind_then text >>= λ k. address_then k.1 >>= λ a. after (codes "ring ") a.1 >>= λ b. ring_number_then b >>= λ r.
    after (codes "point ") r.1 >>= λ c. entry_number_then c >>= λ p. outcome_at k.0 p.1 >>= λ came.
    Some (Core (Seen (record { kind = k.0; segno = a.0.0; word = a.0.1; ring = r.0; point = p.0; outcome = came }))))
element_steps text =
    then_on (cut_at 32 text) kind_at _ ∙ bind_same (kind_then text) _ _ (λ k.
    then_on (cut_at 32 k.1) address_at _ ∙ bind_same (address_then k.1) _ _ (λ a.
    bind_same (after (codes "ring ") a.1) _ _ (λ b.
    then_on (cut_at 32 b) ring_number_at _ ∙ bind_same (ring_number_then b) _ _ (λ r.
    bind_same (after (codes "point ") r.1) _ _ (λ c. then_on (cut_at 32 c) entry_number_at _)))))

pub read_steps : (text : List ℕ) → read_at text
    ≡ (after (codes "word ") text >>= λ b. word_then b >>= λ v. after (codes "from ") v.1 >>= λ c. process_then c >>= λ p.
    after (codes "stamp ") p.1 >>= λ d. entry_number_at d >>= λ stamp. Some (outcome.Read v.0 p.0 stamp))
read_steps text =
    bind_same (after (codes "word ") text) _ _ (λ b.
    then_on (cut_at 32 b) word_at _ ∙ bind_same (word_then b) _ _ (λ v.
    bind_same (after (codes "from ") v.1) _ _ (λ c. then_on (cut_at 32 c) process_at _)))

pub end_steps : (text : List ℕ) → end_at text
    ≡ (after (codes "line ") text >>= λ b. line_number_then b >>= λ n. result_at n.1 >>= λ ends. Some (n.0, ends))
unfolding end_at
end_steps text = bind_same (after (codes "line ") text) _ _ (λ b. then_on (cut_at 32 b) line_number_at _)

-- the line that ends a line is that of no event
no_event : (rest : List ℕ) → event_at (codes "line " ++ rest) ≡ None
unfolding event_at after cut_at
no_event rest = refl

pub end_first : (text : List ℕ) (ends : ℕ × Result2) → end_at text ≡ Some ends → event_at text ≡ None
unfolding end_at
end_first text ends e =
    let rest = bind_some (after (codes "line ") text) _ ends e in
    ap event_at (after_takes (codes "line ") text rest.0 rest.1) ∙ no_event rest.0
