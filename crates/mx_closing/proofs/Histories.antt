-- Laws of histories: as marked entries, and the fronts that their marks give.
use Rattle.std.proofs.Common.{◌≡◌, ◌≢◌, inl, inr, ℕ, zero, suc, ◌+◌, ◌<◌, ◌≤◌, Bool, true, false, List, [], ◌∷◌, ◌++◌, length, refl, ap, sym, ◌∙◌, subst, arith, rules, append_assoc, length-append}
use Rattle.std.specs.Prelude.{◌==◌, ◌&&◌, nat_le, max}
use Rattle.std.proofs.lemmas.Bool.{cases_eq, cases_lt}
use Rattle.std.proofs.lemmas.List.{append-nil}
use Rattle.mx_core.proofs.Puts.{put_here, put_else}
use Rattle.mx_core.specs.Deeds.{front}
use Rattle.mx_core.specs.Put.{pick, put}
use Rattle.mx_core.specs.World.{Entry}
use Rattle.mx_rule.specs.Shown.{entries_of}
use Rattle.mx_rule.specs.declared.views.EntryView.{EntryView}
use Rattle.mx_state.specs.declared.journal.Entry as journaled
use Rattle.mx_ties.specs.Fronts.{front_after, mark_when}
use Rattle.mx_ties.specs.Views.{Marked}
use Rattle.mx_closing.specs.Keeping.{AreMakers}
use Rattle.mx_closing.specs.Views.{marked_in}

pub marked_append : (later front : List (EntryView journaled.Entry))
    → marked_in (later ++ front) ≡ marked_in front ++ marked_in later
marked_append [] front = sym (append-nil (marked_in front))
marked_append (e ∷ later) front =
    let last : List Marked = record { entry = e.entry; mark = e.mark } ∷ [] in
    ap (λ (l : List Marked). l ++ last) (marked_append later front)
    ∙ append_assoc (marked_in front) (marked_in later) last

pub marked_length : (history : List (EntryView journaled.Entry)) → length (marked_in history) ≡ length history
marked_length [] = refl
marked_length (e ∷ history) =
    length-append (marked_in history) (record { entry = e.entry; mark = e.mark } ∷ [])
    ∙ (let n = marked_length history in omega (arith, n))

-- the entries past a history have no process and no mark
abbrev blank : Entry
blank = record { process = 0; mark = 0 }

past : (start : ℕ) (history : List (EntryView journaled.Entry)) → AreMakers start history → (q : ℕ)
    → start + length history < q → entries_of history q ≡ blank
past start [] are q beyond = refl
past start (e ∷ history) are q beyond =
    let place = are.1 in
    put_else (entries_of history) (e.before + 1) (record { process = e.process; mark = e.mark }) q
    (λ is. absurd (omega (arith, place, is, beyond)))
    ∙ past start history are.2 q (omega (arith, beyond))

-- whether the entry of this number counts at a point
off : (own : Bool) (n q mark : ℕ) → q < n → mark_when own (nat_le n q) mark ≡ 0
off own n q mark l = go own (nat_le n q) (search rules)
  where
    go : (a b : Bool) → b ≡ false → mark_when a b mark ≡ 0
    go true b e = subst (λ (c : Bool). mark_when true c mark ≡ 0) (sym e) refl
    go false b e = refl

on : (own : Bool) (n q mark : ℕ) → n ≤ q → mark_when own (nat_le n q) mark ≡ mark_when own true mark
on own n q mark l = ap (λ (b : Bool). mark_when own b mark) (within n q l)
  where
    within : (n q : ℕ) → n ≤ q → nat_le n q ≡ true
    within n q l = search rules

picked : (b own : Bool) (mark g : ℕ) → b ≡ true → pick (b && own) (max mark g) g ≡ max g (mark_when own true mark)
picked true true mark g e = omega arith
picked true false mark g e = omega arith
picked false own mark g e = cc

picked_more : (c : Bool) (m g f k : ℕ) → g ≡ max f k → pick c (max m g) g ≡ max (pick c (max m f) f) k
picked_more true m g f k e = omega (arith, e)
picked_more false m g f k e = e

unmarked : (c : Bool) (g : ℕ) → pick c (max 0 g) g ≡ g
unmarked true g = omega arith
unmarked false g = refl

-- what is known with one entry more, after so many
module _ (start n : ℕ) (entry : ℕ → Entry) (a : Entry) (begun : start ≤ n) (none : entry (suc n) ≡ blank) where
  abbrev longer : ℕ → Entry
  longer = put entry (suc n) a

  front_put : (u q : ℕ)
      → front start longer u q ≡ max (front start entry u q) (mark_when (a.process == u) (nat_le (suc n) q) a.mark)
  front_put u zero = let e = off (a.process == u) (suc n) 0 a.mark (omega arith) in omega (arith, e)
  front_put u (suc q) =
      let g : ℕ = front start longer u q in
      let f : ℕ = front start entry u q in elim (cases_eq q n) [
        | inl is ↦
            let same : f ≡ front start entry u (suc q) = sym (
            ap (λ (e : Entry). pick (nat_le start q && (e.process == u)) (max e.mark f) f)
            (ap (λ (k : ℕ). entry (suc k)) is ∙ none)
            ∙ unmarked (nat_le start q && (0 == u)) f) in
            let before : g ≡ f =
            front_put u q
            ∙ (let e = off (a.process == u) (suc n) q a.mark (omega (arith, is)) in omega (arith, e)) in
            ap (λ (e : Entry). pick (nat_le start q && (e.process == u)) (max e.mark g) g)
            (ap (λ (k : ℕ). longer (suc k)) is ∙ put_here entry (suc n) a)
            ∙ picked (nat_le start q) (a.process == u) a.mark g (begun_at q is)
            ∙ ap (λ (k : ℕ). max k (mark_when (a.process == u) true a.mark)) (before ∙ same)
            ∙ ap (λ (k : ℕ). max (front start entry u (suc q)) k)
            (sym (on (a.process == u) (suc n) (suc q) a.mark (omega (arith, is))))
        | inr not ↦
            ap (λ (e : Entry). pick (nat_le start q && (e.process == u)) (max e.mark g) g)
            (put_else entry (suc n) a (suc q) (λ e. not (omega (arith, e))))
            ∙ picked_more (nat_le start q && ((entry (suc q)).process == u)) (entry (suc q)).mark g f
            (mark_when (a.process == u) (nat_le (suc n) q) a.mark) (front_put u q)
            ∙ ap (λ (k : ℕ). max (front start entry u (suc q)) k) (alike q not)
      ]
    where
      begun_at : (q : ℕ) → q ≡ n → nat_le start q ≡ true
      begun_at q is = let l : start ≤ q = omega (arith, is, begun) in go q l
        where
          go : (q : ℕ) → start ≤ q → nat_le start q ≡ true
          go q l = search rules

      after : (q : ℕ) → q ≢ n → n ≤ q → suc n ≤ q
      after q not over = elim (cases_lt n q) [
        | inl more ↦ omega (arith, more)
        | inr less ↦ absurd (not (omega (arith, over, less)))
      ]

      alike : (q : ℕ) → q ≢ n → mark_when (a.process == u) (nat_le (suc n) q) a.mark
          ≡ mark_when (a.process == u) (nat_le (suc n) (suc q)) a.mark
      alike q not = elim (cases_lt q n) [
        | inl under ↦
            off (a.process == u) (suc n) q a.mark (omega (arith, under))
            ∙ sym (off (a.process == u) (suc n) (suc q) a.mark (omega (arith, under)))
        | inr over ↦
            let above : suc n ≤ q = after q not over in
            on (a.process == u) (suc n) q a.mark above
            ∙ sym (on (a.process == u) (suc n) (suc q) a.mark (omega (arith, above)))
      ]

after_more : (number : ℕ) (history : List Marked) (m : Marked) (u q : ℕ)
    → front_after number (history ++ m ∷ []) u q
    ≡ max (front_after number history u q)
    (mark_when (m.entry.process == u) (nat_le (suc (number + length history)) q) m.mark)
after_more number [] m u q =
    let e : mark_when (m.entry.process == u) (nat_le (suc number) q) m.mark
    ≡ mark_when (m.entry.process == u) (nat_le (suc (number + 0)) q) m.mark =
    ap (λ (k : ℕ). mark_when (m.entry.process == u) (nat_le (suc k) q) m.mark) (omega arith) in
    omega (arith, e)
after_more number (first ∷ history) m u q =
    let more = after_more (suc number) history m u q in
    let e : mark_when (m.entry.process == u) (nat_le (suc (suc number + length history)) q) m.mark
    ≡ mark_when (m.entry.process == u) (nat_le (suc (number + suc (length history))) q) m.mark =
    ap (λ (k : ℕ). mark_when (m.entry.process == u) (nat_le (suc k) q) m.mark) (omega arith) in
    omega (arith, more, e)

-- what is known by the marks of the supervisor's seat, and by those of the journal
pub front_is : (start : ℕ) (history : List (EntryView journaled.Entry)) → AreMakers start history → (u q : ℕ)
    → front start (entries_of history) u q ≡ front_after start (marked_in history) u q
front_is start [] are u q = nothing q
  where
    nothing : (q : ℕ) → front start (entries_of {E = journaled.Entry} []) u q ≡ 0
    nothing zero = refl
    nothing (suc q) = let g : ℕ = front start (entries_of {E = journaled.Entry} []) u q in
        unmarked (nat_le start q && (0 == u)) g ∙ nothing q
front_is start (e ∷ history) are u q =
    let n : ℕ = start + length history in
    let a : Entry = record { process = e.process; mark = e.mark } in
    let m : Marked = record { entry = e.entry; mark = e.mark } in
    let place = are.1 in
    ap (λ (k : ℕ). front start (put (entries_of history) k a) u q) (next e.before n place)
    ∙ front_put start n (entries_of history) a (omega arith) (past start history are.2 (suc n) (omega arith)) u q
    ∙ ap (λ (k : ℕ). max k (mark_when (e.process == u) (nat_le (suc n) q) e.mark)) (front_is start history are.2 u q)
    ∙ ap (λ (p : ℕ). max (front_after start (marked_in history) u q)
    (mark_when (p == u) (nat_le (suc n) q) e.mark)) are.0
    ∙ ap (λ (k : ℕ). max (front_after start (marked_in history) u q)
    (mark_when (e.entry.process == u) (nat_le (suc (start + k)) q) e.mark)) (sym (marked_length history))
    ∙ sym (after_more start (marked_in history) m u q)
  where
    next : (before n : ℕ) → before ≡ n → before + 1 ≡ suc n
    next before n e = omega (arith, e)
