-- The turns of questions, one question after another, and in any order.
use Rattle.std.proofs.Common.{◌≡◌, ◌⊎◌, inl, inr, ℕ, zero, suc, ◌+◌, ◌<◌, ◌≤◌, nat_lt, Bool, false, true, cond, List, [], ◌∷◌, ◌++◌, map, take, length, Some, refl, ap, sym, subst, ◌∙◌, arith, append_assoc, append-nil}
use Rattle.std.specs.List.{slice_get, slice_index_or, Contains}
use Rattle.std.specs.List.Sorted.{IsPermutation}
use Rattle.std.proofs.lemmas.Bool.{cases_lt, ltb-false}
use Rattle.std.proofs.lemmas.Option.{none-some, same_Some}
use Rattle.std.proofs.lemmas.List.{length-map, length-take-le, map-append, map_more, take_more}
use Rattle.std.proofs.lemmas.List.Elements.{Contains-append_left, Contains-push, Contains-push_cases}
use Rattle.std.proofs.lemmas.List.Sorted.{Contains-permutation, IsPermutation-sym}
use Rattle.mx_access.specs.Questions.{AreTurns, AreWithin, IsTurn, IsWithin, question_of, questions_from, turn, turns_at, turns_from}
use Rattle.mx_access.specs.declared.questions.Question.{Question}
use Rattle.mx_access.specs.declared.questions.Turn.{Turn}
use Rattle.mx_transcript.specs.declared.transcripts.Event2.{Event2}
use Rattle.mx_transcript.specs.declared.transcripts.Event2.TheVariants.{Core, Entry}
use Rattle.mx_core.specs.declared.elements.Event.TheVariants.{Seen, Missing}

no_turn : (t : Turn) → Contains [] t → ⊥
no_turn t c = absurd (omega (arith, c.1))

pub no_turns : (questions : List Question) → AreTurns questions 0 []
no_turns questions = record {
  each = λ t c. absurd (no_turn t c);
  now = λ at question below is. absurd (omega (arith, below));
  before = λ at question below is less. absurd (omega (arith, below));
}

-- the turns of one question more
turns_more : (questions : List Question) (at : ℕ) (question : Question) (turns new : List Turn) → slice_get questions at ≡ Some question
    → AreTurns questions at turns → ((t : Turn) → Contains turns t → Contains new t)
    → ((t : Turn) → Contains new t → Contains turns t ⊎ IsTurn questions t)
    → Contains new (turn at question false)
    → (question.before < question.point → Contains new (turn at question true))
    → AreTurns questions (at + 1) new
turns_more questions at question turns new is old kept each now before = record {
  each = λ t c. elim (each t c) [ inl was ↦ old.each t was | inr one ↦ one ];
  now = λ place q under found. elim (cases_lt place at) [
    | inl lower ↦ kept (turn place q false) (old.now place q lower found)
    | inr higher ↦
        let here : at ≡ place = omega (arith, under, higher) in
        let same : question ≡ q = same_Some question q (sym is ∙ ap (slice_get questions) here ∙ found) in
        subst (λ (n : ℕ). Contains new (turn n q false)) here (subst (λ (x : Question). Contains new (turn at x false)) same now)
  ];
  before = λ place q under found less. elim (cases_lt place at) [
    | inl lower ↦ kept (turn place q true) (old.before place q lower found less)
    | inr higher ↦
        let here : at ≡ place = omega (arith, under, higher) in
        let same : question ≡ q = same_Some question q (sym is ∙ ap (slice_get questions) here ∙ found) in
        subst (λ (n : ℕ). Contains new (turn n q true)) here
        (subst (λ (x : Question). Contains new (turn at x true)) same
        (before (subst (λ (x : Question). x.before < x.point) (sym same) less)))
  ];
}

now_turn : (questions : List Question) (at : ℕ) (question : Question) → slice_get questions at ≡ Some question
    → IsTurn questions (turn at question false)
now_turn questions at question is = record { question = question; is = is; whole = refl }

before_turn : (questions : List Question) (at : ℕ) (question : Question) → slice_get questions at ≡ Some question
    → IsTurn questions (turn at question true)
before_turn questions at question is = record { question = question; is = is; whole = refl }

pub one_turn : (questions : List Question) (at : ℕ) (question : Question) (turns new : List Turn) → slice_get questions at ≡ Some question
    → AreTurns questions at turns → question.point ≤ question.before → new ≡ turns ++ turn at question false ∷ []
    → AreTurns questions (at + 1) new
one_turn questions at question turns new is old whole e =
    let one : Turn = turn at question false in
    subst (AreTurns questions (at + 1)) (sym e)
    (turns_more questions at question turns (turns ++ one ∷ []) is old (Contains-append_left turns (one ∷ []))
    (λ t c. elim (Contains-push_cases turns one t c) [
      | inl was ↦ inl was
      | inr same ↦ inr (subst (IsTurn questions) same (now_turn questions at question is))
    ])
    (Contains-push turns one) (λ less. absurd (omega (arith, less, whole))))

pub two_turns : (questions : List Question) (at : ℕ) (question : Question) (turns mid new : List Turn) → slice_get questions at ≡ Some question
    → AreTurns questions at turns → mid ≡ turns ++ turn at question false ∷ []
    → new ≡ mid ++ turn at question true ∷ [] → AreTurns questions (at + 1) new
two_turns questions at question turns mid new is old f e =
    let one : Turn = turn at question false in
    let two : Turn = turn at question true in
    subst (AreTurns questions (at + 1)) (sym e)
    (subst (λ (m : List Turn). AreTurns questions (at + 1) (m ++ two ∷ [])) (sym f)
    (turns_more questions at question turns ((turns ++ one ∷ []) ++ two ∷ []) is old
    (λ t c. Contains-append_left (turns ++ one ∷ []) (two ∷ []) t (Contains-append_left turns (one ∷ []) t c))
    (λ t c. elim (Contains-push_cases (turns ++ one ∷ []) two t c) [
      | inl was ↦ elim (Contains-push_cases turns one t was) [
        | inl then ↦ inl then
        | inr same ↦ inr (subst (IsTurn questions) same (now_turn questions at question is))
      ]
      | inr same ↦ inr (subst (IsTurn questions) same (before_turn questions at question is))
    ])
    (Contains-append_left (turns ++ one ∷ []) (two ∷ []) one (Contains-push turns one))
    (λ less. Contains-push (turns ++ one ∷ []) two)))

-- the turns of one question more, behind those of the questions before it
turns_here : (questions : List Question) (at : ℕ) (question : Question) (turns : List Turn)
    → slice_get questions at ≡ Some question → AreTurns questions at turns → AreTurns questions (at + 1) (turns ++ turns_at at question)
turns_here questions at question turns is old = by_test (nat_lt question.before question.point) refl
  where
    by_test : (b : Bool) → nat_lt question.before question.point ≡ b
        → AreTurns questions (at + 1) (turns ++ turn at question false ∷ cond b (turn at question true ∷ []) [])
    by_test false e =
        one_turn questions at question turns (turns ++ turn at question false ∷ []) is old
        (ltb-false question.before question.point e) refl
    by_test true e =
        two_turns questions at question turns (turns ++ turn at question false ∷ [])
        (turns ++ turn at question false ∷ turn at question true ∷ []) is old refl
        (sym (append_assoc turns (turn at question false ∷ []) (turn at question true ∷ [])))

-- the turns of the questions from a place on, behind those of the questions before it
turns_on : (questions : List Question) (at : ℕ) (rest : List Question) (turns : List Turn)
    → ((i : ℕ) (question : Question) → slice_get rest i ≡ Some question → slice_get questions (at + i) ≡ Some question)
    → AreTurns questions at turns → AreTurns questions (at + length rest) (turns ++ turns_from at rest)
turns_on questions at [] turns there old =
    let same : at ≡ at + 0 = omega arith in
    subst (λ (n : ℕ). AreTurns questions n (turns ++ [])) same (subst (AreTurns questions at) (sym (append-nil turns)) old)
turns_on questions at (question ∷ rest) turns there old =
    let here : at ≡ at + 0 = omega arith in
    let next : at + 1 ≡ suc at = omega arith in
    let many : suc at + length rest ≡ at + length (question ∷ rest) = omega arith in
    subst (λ (n : ℕ). AreTurns questions n (turns ++ (turns_at at question ++ turns_from (suc at) rest))) many
    (subst (AreTurns questions (suc at + length rest)) (append_assoc turns (turns_at at question) (turns_from (suc at) rest))
    (turns_on questions (suc at) rest (turns ++ turns_at at question) after
    (subst (λ (n : ℕ). AreTurns questions n (turns ++ turns_at at question)) next
    (turns_here questions at question turns (ap (slice_get questions) here ∙ there 0 question refl) old))))
  where
    after : (i : ℕ) (q : Question) → slice_get rest i ≡ Some q → slice_get questions (suc at + i) ≡ Some q
    after i q found =
        let place : suc at + i ≡ at + suc i = omega arith in
        ap (slice_get questions) place ∙ there (suc i) q found

pub turns_all : (questions : List Question) → AreTurns questions (length questions) (turns_from 0 questions)
turns_all questions =
    let many : 0 + length questions ≡ length questions = omega arith in
    subst (λ (n : ℕ). AreTurns questions n (turns_from 0 questions)) many
    (turns_on questions 0 questions [] there (no_turns questions))
  where
    there : (i : ℕ) (q : Question) → slice_get questions i ≡ Some q → slice_get questions (0 + i) ≡ Some q
    there i q found =
        let place : 0 + i ≡ i = omega arith in
        ap (slice_get questions) place ∙ found

-- the turns of two parts
pub turns_append : (at : ℕ) (xs ys : List Question)
    → turns_from at (xs ++ ys) ≡ turns_from at xs ++ turns_from (at + length xs) ys
turns_append at [] ys =
    let same : at ≡ at + 0 = omega arith in
    ap (λ (n : ℕ). turns_from n ys) same
turns_append at (x ∷ xs) ys =
    let same : suc at + length xs ≡ at + length (x ∷ xs) = omega arith in
    ap (λ (rest : List Turn). turns_at at x ++ rest)
    (turns_append (suc at) xs ys ∙ ap (λ (n : ℕ). turns_from (suc at) xs ++ turns_from n ys) same)
    ∙ sym (append_assoc (turns_at at x) (turns_from (suc at) xs) (turns_from (at + length (x ∷ xs)) ys))

-- the turns of one event more
pub turns_next : (f : Event2 → Question) (at i : ℕ) (events : List Event2) (event : Event2) (base old new : List Turn)
    → i < length events → event ≡ slice_index_or events i event → old ≡ base ++ turns_from at (map f (take i events))
    → new ≡ old ++ turns_at (at + i) (f event) → new ≡ base ++ turns_from at (map f (take (i + 1) events))
turns_next f at i events event base old new below is was pushed =
    let before : List Question = map f (take i events) in
    let many : length before ≡ i =
    length-map (take i events) f ∙ length-take-le i events (omega (arith, below)) in
    pushed
    ∙ ap (λ (l : List Turn). l ++ turns_at (at + i) (f event)) was
    ∙ append_assoc base (turns_from at before) (turns_at (at + i) (f event))
    ∙ ap (λ (l : List Turn). base ++ (turns_from at before ++ l)) (sym (append-nil (turns_at (at + i) (f event))))
    ∙ ap (λ (n : ℕ). base ++ (turns_from at before ++ turns_from (at + n) (f event ∷ []))) (sym many)
    ∙ ap (λ (l : List Turn). base ++ l) (sym (turns_append at before (f event ∷ [])))
    ∙ ap (λ (e : Event2). base ++ turns_from at (before ++ f e ∷ [])) is
    ∙ ap (λ (l : List Question). base ++ turns_from at l) (sym (map_more f events i event below))

-- the turns of events more, of some that are left
pub turns_left : (f : Event2 → Question) (next behind : ℕ) (left xs ys : List Event2) (old new all : List Turn) → left ≡ xs ++ ys
    → old ++ turns_from next (map f left) ≡ all → new ≡ old ++ turns_from next (map f xs) → behind ≡ next + length xs
    → new ++ turns_from behind (map f ys) ≡ all
turns_left f next behind left xs ys old new all cut was added count =
    ap (λ (l : List Turn). l ++ turns_from behind (map f ys)) added
    ∙ ap (λ (n : ℕ). (old ++ turns_from next (map f xs)) ++ turns_from n (map f ys))
    (count ∙ ap (λ (n : ℕ). next + n) (sym (length-map xs f)))
    ∙ append_assoc old (turns_from next (map f xs)) (turns_from (next + length (map f xs)) (map f ys))
    ∙ ap (λ (l : List Turn). old ++ l) (sym (turns_append next (map f xs) (map f ys)))
    ∙ ap (λ (l : List Question). old ++ turns_from next l) (sym (map-append f xs ys))
    ∙ ap (λ (l : List Event2). old ++ turns_from next (map f l)) (sym cut)
    ∙ was

-- the turns of all questions of one process more
pub turns_of_part : (before own all : List Question) (count : ℕ) (old new : List Turn) → all ≡ before ++ own
    → count ≡ length before → old ≡ turns_from 0 before → new ≡ old ++ turns_from count own → new ≡ turns_from 0 all
turns_of_part before own all count old new whole many was added =
    let here : count ≡ 0 + length before = omega (arith, many) in
    added
    ∙ ap (λ (l : List Turn). l ++ turns_from count own) was
    ∙ ap (λ (n : ℕ). turns_from 0 before ++ turns_from n own) here
    ∙ sym (turns_append 0 before own)
    ∙ ap (turns_from 0) (sym whole)

-- in another order they are the same turns
pub turns_moved : (questions : List Question) (count : ℕ) (old new : List Turn) → IsPermutation old new → AreTurns questions count old
    → AreTurns questions count new
turns_moved questions count old new moved turns = record {
  each = λ t c. turns.each t (Contains-permutation new old t (IsPermutation-sym old new moved) c);
  now = λ at question below is. Contains-permutation old new (turn at question false) moved (turns.now at question below is);
  before = λ at question below is less.
      Contains-permutation old new (turn at question true) moved (turns.before at question below is less);
}

-- the questions of one part more
questions_then : (entries first : ℕ) (parts : List (List Event2)) (events : List Event2)
    → questions_from entries first (parts ++ events ∷ [])
    ≡ questions_from entries first parts ++ map (question_of entries (first + length parts)) events
questions_then entries first [] events =
    let here : first ≡ first + 0 = omega arith in
    append-nil (map (question_of entries first) events) ∙ ap (λ (p : ℕ). map (question_of entries p) events) here
questions_then entries first (part ∷ parts) events =
    let there : suc first + length parts ≡ first + length (part ∷ parts) = omega arith in
    ap (λ (rest : List Question). map (question_of entries first) part ++ rest)
    (questions_then entries (suc first) parts events
    ∙ ap (λ (p : ℕ). questions_from entries (suc first) parts ++ map (question_of entries p) events) there)
    ∙ sym (append_assoc (map (question_of entries first) part) (questions_from entries (suc first) parts)
    (map (question_of entries (first + length (part ∷ parts))) events))

pub questions_more : (entries p : ℕ) (parts : List (List Event2)) (events : List Event2) → p < length parts → events ≡ slice_index_or parts p events
    → questions_from entries 0 (take (p + 1) parts)
    ≡ questions_from entries 0 (take p parts) ++ map (question_of entries p) events
questions_more entries p parts events below is =
    let many : length (take p parts) ≡ p = length-take-le p parts (omega (arith, below)) in
    ap (questions_from entries 0) (take_more parts p events below ∙ ap (λ (e : List Event2). take p parts ++ e ∷ []) (sym is))
    ∙ questions_then entries 0 (take p parts) events
    ∙ ap (λ (k : ℕ). questions_from entries 0 (take p parts) ++ map (question_of entries k) events) (zero_more (length (take p parts)) ∙ many)
  where
    zero_more : (n : ℕ) → 0 + n ≡ n
    zero_more n = omega arith

-- all points are those of the journal
one_within : (entries p : ℕ) (event : Event2) → IsWithin entries (question_of entries p event)
one_within entries p (Core (Seen element)) = record { point = omega arith; before = omega arith }
one_within entries p (Core (Missing segno by)) = record { point = omega arith; before = omega arith }
one_within entries p (Entry number) = record { point = omega arith; before = omega arith }

within_append : (entries : ℕ) (xs ys : List Question) → AreWithin entries xs → AreWithin entries ys → AreWithin entries (xs ++ ys)
within_append entries [] ys front back at question is = back at question is
within_append entries (x ∷ xs) ys front back zero question is = front 0 question is
within_append entries (x ∷ xs) ys front back (suc at) question is =
    within_append entries xs ys (λ at question is. front (suc at) question is) back at question is

within_map : (entries p : ℕ) (events : List Event2) → AreWithin entries (map (question_of entries p) events)
within_map entries p [] at question is = absurd (none-some question is)
within_map entries p (event ∷ events) zero question is =
    subst (IsWithin entries) (same_Some (question_of entries p event) question is) (one_within entries p event)
within_map entries p (event ∷ events) (suc at) question is = within_map entries p events at question is

pub questions_within : (entries first : ℕ) (parts : List (List Event2)) → AreWithin entries (questions_from entries first parts)
questions_within entries first [] = λ at question is. absurd (none-some question is)
questions_within entries first (events ∷ parts) =
    within_append entries (map (question_of entries first) events) (questions_from entries (suc first) parts)
    (within_map entries first events) (questions_within entries (suc first) parts)
