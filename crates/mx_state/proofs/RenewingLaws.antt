-- A request that changes one segment changes the descriptors of it that are renewed, and no other.
use Rattle.std.proofs.Common.{◌≡◌, ◌≢◌, ◌⊎◌, ◌+◌, ◌-◌, ◌<◌, ◌≤◌, ℕ, zero, suc, List, [], ◌∷◌, ◌++◌, get_or, take, drop, length, append_assoc, add-one, drop-cons, Option, Some, None, Bool, true, false, cond, inl, inr, refl, ap, sym, ◌∙◌, subst, slice_get, slice_set, arith}
use Rattle.std.proofs.lemmas.Bool.{cases_eq}
use Rattle.std.proofs.lemmas.List.{drop-set-lt, take_more_set}
use Rattle.std.proofs.lemmas.List.Elements.{All-append, Contains-get_or, Contains-append_right}
use Rattle.std.proofs.lemmas.List.Kept.{AllPairs-cons}
use Rattle.std.specs.List.{All, Contains, AllPairs}
use Rattle.mx_core.specs.declared.changes.Change.{Change}
use Rattle.mx_sdw.specs.Admissible.{IsAdmissible}
use Rattle.mx_sdw.proofs.SameLaws.{descs_are, descs_apart}
use Rattle.mx_sdw.specs.Descriptors.{Descriptor}
use Rattle.mx_sdw.specs.Same.{same_desc}
use Rattle.mx_sdw.specs.declared.descriptors.Desc.{Desc}
use Rattle.mx_hier.specs.Branches.{Hierarchy}
use Rattle.mx_kst.proofs.SoundLaws.{number_is}
use Rattle.mx_kst.specs.declared.lots.Lot.{Lot}
use Rattle.mx_kst.specs.declared.lots.Lot.TheVariants.{Free, Stack, Branch, Linkage}
use Rattle.mx_kst.specs.Lots.{number_of}
use Rattle.mx_mail.specs.Processes.{PlainProcess}
use Rattle.mx_state.specs.declared.states.ProcessState.{ProcessState}
use Rattle.mx_state.specs.Changes.{change, AreChanges, IsBefore}
use Rattle.mx_state.specs.Numbers.{stands_for}
use Rattle.mx_state.specs.Plain.{Plain, process_at}
use Rattle.mx_state.specs.Renewing.{held_by, held_from, held_two, renewed_as, renewed}
use Rattle.mx_state.specs.Sound.{IsSound}
use Rattle.mx_state.specs.Table.{descriptor, descriptor_in}
use Rattle.mx_state.proofs.AnswerLaws.{plain_state, one_is_admissible}
use Rattle.mx_state.proofs.Descriptors.{is_there, same_unless}
use Rattle.mx_state.proofs.Lists.{Contains-first, Contains-one, Contains-cases, nothing_contained, AllPairs-one, AllPairs-none}
use Rattle.mx_state.proofs.NumberLaws.{branch_at}
use Rattle.mx_state.proofs.SegmentLaws.{IsAsBefore, Only}

-- where a held descriptor comes from
record IsHeld (s : Plain) (first : ℕ) (processes : List ProcessState) (uid : ℕ) (c : Change) : Type 0 where
  place : ℕ
  process : ProcessState
  number : c.process ≡ place + first
  there : slice_get processes place ≡ Some process
  segno : number_of process.known.lots uid ≡ Some c.segno
  desc : c.desc ≡ descriptor s c.process c.segno

later_held : (s : Plain) (first : ℕ) (x : ProcessState) (xs : List ProcessState) (uid : ℕ) (c : Change) → IsHeld s (first + 1) xs uid c → IsHeld s first (x ∷ xs) uid c
later_held s first x xs uid c h =
    record { place = suc h.place; process = h.process; number = omega (arith, h.number); there = h.there; segno = h.segno; desc = h.desc }

is_held : (s : Plain) (first : ℕ) (processes : List ProcessState) (uid : ℕ) (c : Change) → Contains (held_from s.hierarchy s.processes first processes uid) c
    → IsHeld s first processes uid c
is_held s first [] uid c h = absurd (nothing_contained c h)
is_held s first (x ∷ xs) uid c h = by_number (number_of x.known.lots uid) refl h (is_held s (first + 1) xs uid c)
  where
    by_number : (o : Option ℕ) → number_of x.known.lots uid ≡ o → Contains (held_by s.hierarchy s.processes first o (held_from s.hierarchy s.processes (first + 1) xs uid)) c
        → (Contains (held_from s.hierarchy s.processes (first + 1) xs uid) c → IsHeld s (first + 1) xs uid c) → IsHeld s first (x ∷ xs) uid c
    by_number None t k later = later_held s first x xs uid c (later k)
    by_number (Some n) t k later =
        elim (Contains-cases (change first n (descriptor s first n)) (held_from s.hierarchy s.processes (first + 1) xs uid) c k) [
          | inl same ↦ subst (IsHeld s first (x ∷ xs) uid) same (record { place = 0; process = x; number = omega arith; there = refl; segno = t; desc = refl })
          | inr rest ↦ later_held s first x xs uid c (later rest)
        ]

held_has : (s : Plain) (p : ℕ) (o : Option ℕ) (changes : List Change) (c : Change) → Contains changes c → Contains (held_by s.hierarchy s.processes p o changes) c
held_has s p None changes c h = h
held_has s p (Some n) changes c h = Contains-append_right (change p n (descriptor s p n) ∷ []) changes c h

all_held : (s : Plain) (first : ℕ) (processes : List ProcessState) (uid place p n : ℕ) (process : ProcessState) → p ≡ place + first
    → slice_get processes place ≡ Some process → number_of process.known.lots uid ≡ Some n
    → Contains (held_from s.hierarchy s.processes first processes uid) (change p n (descriptor s p n))
all_held s first [] uid place p n process number there e = cc
all_held s first (x ∷ xs) uid zero p n process number there e =
    let same : process ≡ x = cc in
    let at : p ≡ first = omega arith in
    let here : number_of x.known.lots uid ≡ Some n = rw (← same) e in
    rw (here, at) (Contains-first (change first n (descriptor s first n)) (held_from s.hierarchy s.processes (first + 1) xs uid))
all_held s first (x ∷ xs) uid (suc place) p n process number there e =
    held_has s first (number_of x.known.lots uid) (held_from s.hierarchy s.processes (first + 1) xs uid) (change p n (descriptor s p n))
    (all_held s (first + 1) xs uid place p n process (omega arith) there e)

-- what is renewed was held, and is another now
record IsRenewed (t : Plain) (held : List Change) (c : Change) : Type 0 where
  old : Change
  there : Contains held old
  is : change old.process old.segno (descriptor t old.process old.segno) ≡ c
  differs : same_desc old.desc (descriptor t old.process old.segno) ≡ false

later_renewed : (t : Plain) (x : Change) (xs : List Change) (c : Change) → IsRenewed t xs c → IsRenewed t (x ∷ xs) c
later_renewed t x xs c r = record { old = r.old; there = Contains-append_right (x ∷ []) xs r.old r.there; is = r.is; differs = r.differs }

is_renewed : (t : Plain) (held : List Change) (c : Change) → Contains (renewed t.hierarchy t.processes held) c → IsRenewed t held c
is_renewed t [] c h = absurd (nothing_contained c h)
is_renewed t (x ∷ xs) c h = by_test (same_desc x.desc (descriptor t x.process x.segno)) refl h (is_renewed t xs c)
  where
    by_test : (b : Bool) → same_desc x.desc (descriptor t x.process x.segno) ≡ b
        → Contains (cond b (renewed t.hierarchy t.processes xs) (change x.process x.segno (descriptor t x.process x.segno) ∷ renewed t.hierarchy t.processes xs)) c
        → (Contains (renewed t.hierarchy t.processes xs) c → IsRenewed t xs c) → IsRenewed t (x ∷ xs) c
    by_test true e k later = later_renewed t x xs c (later k)
    by_test false e k later =
        elim (Contains-cases (change x.process x.segno (descriptor t x.process x.segno)) (renewed t.hierarchy t.processes xs) c k) [
          | inl same ↦ record { old = x; there = Contains-first x xs; is = same; differs = e }
          | inr rest ↦ later_renewed t x xs c (later rest)
        ]

renewed_has : (t : Plain) (x : Change) (desc : Descriptor) (changes : List Change) (c : Change) → Contains changes c → Contains (renewed_as x desc changes) c
renewed_has t x desc changes c h = by_test (same_desc x.desc desc)
  where
    by_test : (b : Bool) → Contains (cond b changes (change x.process x.segno desc ∷ changes)) c
    by_test true = h
    by_test false = Contains-append_right (change x.process x.segno desc ∷ []) changes c h

renewed_first : (t : Plain) (p n : ℕ) (d : Descriptor) (changes : List Change) → same_desc d (descriptor t p n) ≡ false
    → Contains (renewed_as (change p n d) (descriptor t p n) changes) (change p n (descriptor t p n))
renewed_first t p n d changes differs = rw differs (Contains-first (change p n (descriptor t p n)) changes)

all_renewed : (t : Plain) (held : List Change) (p n : ℕ) (d : Descriptor) → Contains held (change p n d) → same_desc d (descriptor t p n) ≡ false
    → Contains (renewed t.hierarchy t.processes held) (change p n (descriptor t p n))
all_renewed t [] p n d h differs = absurd (nothing_contained (change p n d) h)
all_renewed t (x ∷ xs) p n d h differs =
    elim (Contains-cases x xs (change p n d) h) [
      | inl same ↦ subst (λ y. Contains (renewed_as y (descriptor t y.process y.segno) (renewed t.hierarchy t.processes xs)) (change p n (descriptor t p n))) (sym same)
          (renewed_first t p n d (renewed t.hierarchy t.processes xs) differs)
      | inr rest ↦ renewed_has t x (descriptor t x.process x.segno) (renewed t.hierarchy t.processes xs) (change p n (descriptor t p n)) (all_renewed t xs p n d rest differs)
    ]

-- they are in order
in_order : (s t : Plain) (first : ℕ) (processes : List ProcessState) (uid : ℕ) → AllPairs IsBefore (renewed t.hierarchy t.processes (held_from s.hierarchy s.processes first processes uid))
in_order s t first [] uid = AllPairs-none IsBefore
in_order s t first (x ∷ xs) uid = by_number (number_of x.known.lots uid) (in_order s t (first + 1) xs uid)
  where
    by_test : (b : Bool) (n : ℕ) → AllPairs IsBefore (renewed t.hierarchy t.processes (held_from s.hierarchy s.processes (first + 1) xs uid))
        → AllPairs IsBefore (cond b (renewed t.hierarchy t.processes (held_from s.hierarchy s.processes (first + 1) xs uid))
        (change first n (descriptor t first n) ∷ renewed t.hierarchy t.processes (held_from s.hierarchy s.processes (first + 1) xs uid)))
    by_test true n later = later
    by_test false n later =
        AllPairs-cons IsBefore (change first n (descriptor t first n)) (renewed t.hierarchy t.processes (held_from s.hierarchy s.processes (first + 1) xs uid))
        (λ k e l.
        let c = get_or (renewed t.hierarchy t.processes (held_from s.hierarchy s.processes (first + 1) xs uid)) k e in
        let r = is_renewed t (held_from s.hierarchy s.processes (first + 1) xs uid) c (Contains-get_or (renewed t.hierarchy t.processes (held_from s.hierarchy s.processes (first + 1) xs uid)) k e l) in
        let h = is_held s (first + 1) xs uid r.old r.there in
        let at : r.old.process ≡ c.process = ap (λ (z : Change). z.process) r.is in
        inl (omega (arith, h.number)))
        later

    by_number : (o : Option ℕ) → AllPairs IsBefore (renewed t.hierarchy t.processes (held_from s.hierarchy s.processes (first + 1) xs uid))
        → AllPairs IsBefore (renewed t.hierarchy t.processes (held_by s.hierarchy s.processes first o (held_from s.hierarchy s.processes (first + 1) xs uid)))
    by_number None later = later
    by_number (Some n) later = by_test (same_desc (descriptor s first n) (descriptor t first n)) n later

-- a number stands for the segment in a process that is there, or it does not
record KnowsAs (s : Plain) (p n uid : ℕ) : Type 0 where
  process : ProcessState
  there : process_at s.processes p ≡ Some process
  stands : stands_for process.known n ≡ Branch uid

abbrev IsApart : Plain → ℕ → ℕ → ℕ → Type 0
IsApart s p n uid = (process : ProcessState) (other : ℕ) → process_at s.processes p ≡ Some process → stands_for process.known n ≡ Branch other
    → Only uid other → ⊥

known_or_apart : (s : Plain) (p n uid : ℕ) → KnowsAs s p n uid ⊎ IsApart s p n uid
known_or_apart s p n uid = by_process (process_at s.processes p) refl
  where
    again : (process other : ProcessState) (x : Lot) (own : ℕ) → process_at s.processes p ≡ Some process → process_at s.processes p ≡ Some other
        → stands_for process.known n ≡ x → stands_for other.known n ≡ Branch own → x ≡ Branch own
    again process other x own e f g k =
        let same : process ≡ other = cc in
        sym g ∙ rw same k

    by_standing : (process : ProcessState) → process_at s.processes p ≡ Some process → (x : Lot) → stands_for process.known n ≡ x
        → KnowsAs s p n uid ⊎ IsApart s p n uid
    by_standing process e Free g = inr (λ other own f k same. let z = again process other Free own e f g k in cc)
    by_standing process e (Stack ring) g = inr (λ other own f k same. let z = again process other (Stack ring) own e f g k in cc)
    by_standing process e (Linkage of page brackets words) g =
        inr (λ other own f k same. let z = again process other (Linkage of page brackets words) own e f g k in cc)
    by_standing process e (Branch v) g =
        elim (cases_eq v uid) [
          | inl same ↦ inl (record { process = process; there = e; stands = g ∙ ap (λ u. Branch u) same })
          | inr apart ↦ inr (λ other own f k same.
              let z = again process other (Branch v) own e f g k in
              let here : v ≡ own = cc in
              apart (here ∙ same))
        ]

    by_process : (o : Option ProcessState) → process_at s.processes p ≡ o → KnowsAs s p n uid ⊎ IsApart s p n uid
    by_process None e = inr (λ other own f k same. let z = sym e ∙ f in cc)
    by_process (Some process) e = by_standing process e (stands_for process.known n) refl

-- the descriptors of some numbers are held, and all others are as before
module _ (s t : Plain) (held : List Change) (is : (c : Change) → Contains held c → c.desc ≡ descriptor s c.process c.segno)
    (all : (p n : ℕ) → (Contains held (change p n (descriptor s p n))) ⊎ (descriptor s p n ≡ descriptor t p n)) where
  pub renewed_each : (p n : ℕ) (d : Descriptor) → Contains (renewed t.hierarchy t.processes held) (change p n d) → (descriptor t p n ≡ d) × (descriptor s p n ≢ d)
  renewed_each p n d c =
      let r = is_renewed t held (change p n d) c in
      let P : Change → Type 0 = λ c. (descriptor t c.process c.segno ≡ c.desc) × (descriptor s c.process c.segno ≢ c.desc) in
      subst P r.is (
        refl,
        (λ same. descs_apart r.old.desc (descriptor t r.old.process r.old.segno) r.differs (is r.old r.there ∙ same)),
      )

  pub renewed_all : (p n : ℕ) → descriptor s p n ≢ descriptor t p n → Contains (renewed t.hierarchy t.processes held) (change p n (descriptor t p n))
  renewed_all p n differ = by_test (same_desc (descriptor s p n) (descriptor t p n)) refl (all p n)
    where
      by_test : (same : Bool) → same_desc (descriptor s p n) (descriptor t p n) ≡ same
          → (Contains held (change p n (descriptor s p n))) ⊎ (descriptor s p n ≡ descriptor t p n)
          → Contains (renewed t.hierarchy t.processes held) (change p n (descriptor t p n))
      by_test true e stood = absurd (differ (descs_are (descriptor s p n) (descriptor t p n) e))
      by_test false e (inl there) = all_renewed t held p n (descriptor s p n) there e
      by_test false e (inr same) = absurd (differ same)

renewing_changes : (s : Plain) (h : Hierarchy) (uid : ℕ) → IsSound s → IsAsBefore (Only uid) s.hierarchy h
    → AreChanges s (record s { hierarchy = h }) (renewed h s.processes (held_from s.hierarchy s.processes 1 s.processes uid))
renewing_changes s h uid sound before = record {
  each = renewed_each s t held is_old held_or_same;
  all = renewed_all s t held is_old held_or_same;
  ordered = in_order s t 1 s.processes uid;
}
  where
    t : Plain
    t = record s { hierarchy = h }

    held : List Change
    held = held_from s.hierarchy s.processes 1 s.processes uid

    is_old : (c : Change) → Contains held c → c.desc ≡ descriptor s c.process c.segno
    is_old c there = (is_held s 1 s.processes uid c there).desc

    -- the segment's number in a process that knows it
    own_number : (p n : ℕ) (process : ProcessState) → process_at s.processes p ≡ Some process → stands_for process.known n ≡ Branch uid
        → number_of process.known.lots uid ≡ Some n
    own_number p n process e stands =
        let there = is_there s.processes p process e in
        (number_is process.known (sound.processes (p - 1) process there.place).known uid n).1 (branch_at process.known n uid stands)

    was_held : (p n : ℕ) (process : ProcessState) → process_at s.processes p ≡ Some process → stands_for process.known n ≡ Branch uid
        → Contains held (change p n (descriptor s p n))
    was_held p n process e stands =
        let there = is_there s.processes p process e in
        all_held s 1 s.processes uid (p - 1) p n process (omega (arith, there.low)) there.place (own_number p n process e stands)

    held_or_same : (p n : ℕ) → (Contains held (change p n (descriptor s p n))) ⊎ (descriptor s p n ≡ descriptor t p n)
    held_or_same p n = elim (known_or_apart s p n uid) [
      | inl knows ↦ inl (was_held p n knows.process knows.there knows.stands)
      | inr apart ↦ inr (same_unless (Only uid) s h p n sound before apart)
    ]

-- the same as the program's steps
pub renewed_are : (version : ℕ) (h k : Hierarchy) (mail : List PlainProcess) (processes : List ProcessState) (uid : ℕ) (held changes : List Change) → IsSound (plain_state version h mail processes)
    → IsAsBefore (Only uid) h k → held ≡ held_from h processes 1 processes uid → changes ≡ renewed k processes held
    → AreChanges (plain_state version h mail processes) (plain_state version k mail processes) changes
renewed_are version h k mail processes uid held changes sound before first then =
    rw (then, first) (renewing_changes (plain_state version h mail processes) k uid sound before)

-- two numbers of a process
pub renewing_two : (s t : Plain) (p segno : ℕ)
    → ((q m : ℕ) → ((q ≡ p) × ((m ≡ segno) ⊎ (m ≡ segno + 1)) → ⊥) → descriptor s q m ≡ descriptor t q m)
    → AreChanges s t (renewed t.hierarchy t.processes (held_two s.hierarchy s.processes p segno))
renewing_two s t p segno others = record {
  each = renewed_each s t (held_two s.hierarchy s.processes p segno) is_old held_or_same;
  all = renewed_all s t (held_two s.hierarchy s.processes p segno) is_old held_or_same;
  ordered = ordered (same_desc (descriptor s p segno) (descriptor t p segno))
      (same_desc (descriptor s p (segno + 1)) (descriptor t p (segno + 1)));
}
  where
    own : Change
    own = change p segno (descriptor s p segno)

    next : Change
    next = change p (segno + 1) (descriptor s p (segno + 1))

    is_old : (c : Change) → Contains (held_two s.hierarchy s.processes p segno) c → c.desc ≡ descriptor s c.process c.segno
    is_old c there = elim (Contains-cases own (next ∷ []) c there) [
      | inl same ↦ subst (λ (c : Change). c.desc ≡ descriptor s c.process c.segno) same refl
      | inr rest ↦ subst (λ (c : Change). c.desc ≡ descriptor s c.process c.segno) (Contains-one next c rest) refl
    ]

    in_next : Contains (held_two s.hierarchy s.processes p segno) next
    in_next = Contains-append_right (own ∷ []) (next ∷ []) next (Contains-first next [])

    held_or_same : (q m : ℕ) → (Contains (held_two s.hierarchy s.processes p segno) (change q m (descriptor s q m))) ⊎ (descriptor s q m ≡ descriptor t q m)
    held_or_same q m = by_place (cases_eq q p) (cases_eq m segno) (cases_eq m (segno + 1))
      where
        by_place : (q ≡ p) ⊎ (q ≡ p → ⊥) → (m ≡ segno) ⊎ (m ≡ segno → ⊥) → (m ≡ segno + 1) ⊎ (m ≡ segno + 1 → ⊥)
            → (Contains (held_two s.hierarchy s.processes p segno) (change q m (descriptor s q m))) ⊎ (descriptor s q m ≡ descriptor t q m)
        by_place (inr other) at then = inr (others q m (λ both. other both.0))
        by_place (inl same) (inl at) then = inl (rw (same, at) (Contains-first own (next ∷ [])))
        by_place (inl same) (inr apart) (inl at) = inl (rw (same, at) in_next)
        by_place (inl same) (inr apart) (inr beyond) = inr (others q m (λ both. elim both.1 [ inl a ↦ apart a | inr b ↦ beyond b ]))

    ordered : (a b : Bool) → AllPairs IsBefore (cond a (cond b [] (change p (segno + 1) (descriptor t p (segno + 1)) ∷ []))
        (change p segno (descriptor t p segno) ∷ cond b [] (change p (segno + 1) (descriptor t p (segno + 1)) ∷ [])))
    ordered true true = AllPairs-none IsBefore
    ordered true false = AllPairs-one IsBefore _
    ordered false true = AllPairs-one IsBefore _
    ordered false false =
        AllPairs-cons IsBefore (change p segno (descriptor t p segno)) (change p (segno + 1) (descriptor t p (segno + 1)) ∷ [])
        (λ k e l. let c = get_or (change p (segno + 1) (descriptor t p (segno + 1)) ∷ []) k e in
        subst (IsBefore (change p segno (descriptor t p segno)))
        (Contains-one (change p (segno + 1) (descriptor t p (segno + 1))) c
        (Contains-get_or (change p (segno + 1) (descriptor t p (segno + 1)) ∷ []) k e l))
        (inr (refl, omega arith)))
        (AllPairs-one IsBefore _)

-- a list of changes to admissible descriptors, with one more
pub push_admissible : (changes : List Change) (c : Change) → All (λ c. IsAdmissible c.desc) changes → IsAdmissible c.desc
    → All (λ c. IsAdmissible c.desc) (changes ++ c ∷ [])
push_admissible changes c all fits = All-append (λ c. IsAdmissible c.desc) changes (c ∷ []) all (one_is_admissible c fits)

-- the first of the descriptors that are left is what it was, or is put behind those in front
module _ (h : Hierarchy) (all : List ProcessState) (xs : List Change) (k i : ℕ) (x : Change) (desc : Desc) where
  as_now : i < length xs → x ≡ get_or xs i x → desc ≡ descriptor_in h all x.process x.segno
      → renewed h all (drop i xs) ≡ renewed_as x desc (renewed h all (drop (i + 1) xs))
  as_now within at is =
      rw (add-one, drop-cons xs i x within, ← at) (ap (λ d. renewed_as x d (renewed h all (drop (suc i) xs))) (sym is))

  pub left_out : i < length xs → x ≡ get_or xs i x → desc ≡ descriptor_in h all x.process x.segno → same_desc x.desc desc ≡ true
      → take k xs ++ renewed h all (drop i xs) ≡ take k xs ++ renewed h all (drop (i + 1) xs)
  left_out within at is same = ap (λ r. take k xs ++ r) (as_now within at is ∙ rw same refl)

  pub put_in_front : k ≤ i → i < length xs → x ≡ get_or xs i x → desc ≡ descriptor_in h all x.process x.segno → same_desc x.desc desc ≡ false
      → take k xs ++ renewed h all (drop i xs)
      ≡ take (k + 1) (slice_set xs k (change x.process x.segno desc)) ++ renewed h all (drop (i + 1) (slice_set xs k (change x.process x.segno desc)))
  put_in_front behind within at is other =
      let c : Change = change x.process x.segno desc in
      let rest : List Change = renewed h all (drop (i + 1) xs) in
      ap (λ r. take k xs ++ r) (as_now within at is ∙ rw other refl) ∙ sym (append_assoc (take k xs) (c ∷ []) rest)
      ∙ ap (λ t. t ++ rest) (sym (take_more_set xs k c (omega arith)))
      ∙ ap (λ r. take (k + 1) (slice_set xs k c) ++ renewed h all r) (sym (drop-set-lt (i + 1) xs k c (omega arith)))

pub front_admissible : (xs : List Change) (k : ℕ) (c : Change) → k < length xs → All (λ c. IsAdmissible c.desc) (take k xs) → IsAdmissible c.desc
    → All (λ c. IsAdmissible c.desc) (take (k + 1) (slice_set xs k c))
front_admissible xs k c within all fits = rw (take_more_set xs k c within) (push_admissible (take k xs) c all fits)
