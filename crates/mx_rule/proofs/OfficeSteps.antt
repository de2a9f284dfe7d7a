-- Strike, Connect and Answer keep the rule.
use Rattle.std.proofs.Common.{◌≡◌, ◌≢◌, ℕ, ◌≤◌, Bool, false, List, [], ◌++◌, length, set, refl, sym, ap, ◌∙◌, subst, arith}
use mathlib.Core.Option.{some}
use lib.ListN.{get_elem?}
use Rattle.atomic_table.specs.Table.{State, keeps}
use Rattle.mx_core.specs.Acknowledging.{after_connect, after_answer}
use Rattle.mx_core.specs.Invariant.{Good}
use Rattle.mx_core.specs.Notions.{with_process}
use Rattle.mx_core.specs.RightWords.{IsWord}
use Rattle.mx_core.specs.Put.{put}
use Rattle.mx_core.specs.Words.{number_of}
use Rattle.mx_core.specs.declared.words.DescriptorWord.{DescriptorWord}
use Rattle.mx_core.specs.Striking.{after_strike}
use Rattle.mx_core.specs.World.{Process, World}
use Rattle.mx_core.specs.declared.words.DescriptorWord.TheVariants.{Valid, Fault}
use Rattle.mx_core.proofs.HistoryLaws.{strike_law, answer_law}
use Rattle.mx_core.proofs.ProcessLaws.{connect_law}
use Rattle.mx_core.proofs.Puts.{put_all, put_here, put_else}
use Rattle.mx_rule.specs.Striking.{MayStrike, struck_view, StrikeAllowed}
use Rattle.mx_rule.specs.Acknowledging.{MayConnect, connecting_view, ConnectAllowed, MayAnswer, answered_view, AnswerAllowed}
use Rattle.mx_rule.specs.Codes.{IsPlain, word_code}
use Rattle.mx_rule.specs.Layout.{IsLayout, Layout, ShowsWords, content}
use Rattle.mx_rule.specs.Parts.{Answered, CellAt, ConnectWord, Count, DescriptorAt, Flag, Part}
use Rattle.mx_rule.specs.Rule.{Seats, IsPassOf, Undealt, AreRetired, IsReported, AreReported, AreMarked, Knows, Holds}
use Rattle.mx_rule.specs.Shown.{View, Super, Pass, Noted, Report, Spent, PassView, EntryView, ReportView, SuperView, Office, office, office_of, fresh_view}
use Rattle.mx_rule.proofs.Words.{set_words, put_pair}
use Rattle.mx_rule.proofs.Fronts.{front_more, no_marks, more_marks}
use Rattle.mx_rule.proofs.Moves.{put_map, view_set}

-- what a step of the supervisor leaves
pub record IsOfficeStep (S : Type 0) (w w' : World) : Type 0 where
  pub processes : w'.processes ≡ w.processes
  pub start : w'.start ≡ w.start
  pub passes : (q : ℕ) (v : PassView S) → IsPassOf (w.process q) (w.trace q) v → IsPassOf (w'.process q) (w'.trace q) v
  pub longer : (q : ℕ) → length (w.trace q) ≤ length (w'.trace q)
  pub higher : (q : ℕ) → (w.process q).floor ≤ (w'.process q).floor
  pub note : w'.note ≡ w.note
  pub rising : (q n : ℕ) → number_of (w.word q n) ≤ number_of (w'.word q n)

-- what was reported stays so
pub reported_on : {S : Type 0} (w w' : World) (u : ReportView) → IsOfficeStep S w w' → IsReported w u → IsReported w' u
reported_on w w' u s k = (
  record { low = k.0.low; high = subst (λ (x : ℕ). u.process ≤ x) (sym s.processes) k.0.high },
  (let a = s.longer u.process in let b = k.1 in omega arith),
  (let a = s.higher u.process in let b = k.2 in omega arith),
  (let a = s.rising u.process u.segno in let b = k.3 in omega arith),
)

-- the seats after more entries
abbrev pub after_entries : {S : Type 0} → List (EntryView S) → Seats S → Seats S
after_entries more seats = record seats { history = more ++ seats.history }

pub under_office : {S : Type 0} (w w' : World) (seats : Seats S) (more : List (EntryView S)) (j : ℕ) (v : View S)
    → IsOfficeStep S w w'
    → j ≢ seats.chief
    → Knows w seats j v → Knows w' (after_entries more seats) j v
under_office w w' seats more j (Super v) s n k = absurd (n k.0)
under_office w w' seats more j (Pass v) s n k = (
  k.0,
  record {
    low = k.1.low;
    high = subst (λ (x : ℕ). v.process ≤ x)
        (sym s.processes) k.1.high;
  },
  s.passes v.process v k.2,
  k.3 ∙ sym s.start,
  front_more more v.history seats.history k.4,
  k.5,
)
under_office w w' seats more j (Noted v) s n k =
    (k.0, ap (λ (f : ℕ → _). f v.number) s.note ∙ k.1, front_more more v.history seats.history k.2)
under_office w w' seats more j (Report v) s n k = reported_on w w' v s k
under_office w w' seats more j Spent s n k = k

pub office_moves : {S : Type 0} (y : Layout) (s : State S (View S)) (r : Holds y s) (id : ℕ) (v v' : SuperView S)
    (w' : World) (more : List (EntryView S)) (words : List ℕ)
    → get_elem? s.views id ≡ some (Super v) → IsOfficeStep S r.world w' → (w'.numbers ≡ r.world.numbers)
    × (v'.next ≡ v.next) × (v'.start ≡ v.start) × (v'.retired ≡ v.retired)
    × (v'.reported ≡ v.reported) × (v'.history ≡ more ++ v.history) → AreMarked r.world more → Good w'
    → office w' ≡ office_of v'
    → ((c : ℕ) → IsPlain (w'.cell c))
    → ShowsWords y w'.processes w'.numbers (content w') words
    → Holds y (record { words = words; homes = s.homes; views = set s.views id (Super v') })
office_moves {S = S} y s r id v v' w' more words at step numbers marks good own plain shows =
    let k = r.views id (Super v) at in let seats' = after_entries more r.seats in record {
      world = w';
      seats = seats';
      layout = subst (λ (x : ℕ × ℕ). IsLayout y x.0 x.1) (λ i. (sym step.processes i, sym numbers.0 i)) r.layout;
      good = good;
      marks = more_marks w' more r.seats.history
          (λ i e at'. let a = marks i e at' in let b = step.longer e.process in omega arith)
          (λ i e at'. let a = r.marks i e at' in let b = step.longer e.process in omega arith);
      plain = plain;
      words = shows;
      views = view_set (Knows w' seats') s.views id (Super v') (
        k.0,
        own,
        subst (λ (z : ℕ × ℕ). Undealt w' seats' id z.0 z.1) (λ i. (sym numbers.1 i, sym numbers.2 i))
            (λ q a b. let u = k.2 q a (subst (λ (x : ℕ). q ≤ x) step.processes b) in
            (u.0, step.passes q (fresh_view v.start q) u.1)),
        subst (λ (z : ℕ × List (PassView S)). AreRetired w' seats' id z.0 z.1) (λ i. (sym numbers.1 i, sym numbers.3 i))
            (λ i x e. let u = k.3 i x e in
            (u.0, u.1, step.passes x.process x u.2, front_more more x.history r.seats.history u.3)),
        subst (AreReported w') (sym numbers.4) (λ i x e. reported_on r.world w' x step (k.4 i x e)),
        numbers.5 ∙ ap (λ xs. more ++ xs) k.5,
      )
          (λ j u n e. under_office r.world w' r.seats more j u step (λ e'. n (e' ∙ sym k.0)) (r.views j u e));
    }

-- the supervisor's part of a process changes
pub office_step : {S : Type 0} (w : World) (p : ℕ) (o : Process) → o.floor ≡ (w.process p).floor
    → ((v : PassView S) → IsPassOf (w.process p) (w.trace p) v → IsPassOf o (w.trace p) v)
    → IsOfficeStep S w (with_process w p o)
office_step w p o floor own = record {
  processes = refl;
  start = refl;
  passes = λ q v. put_all (λ j (x : Process). IsPassOf (w.process j) (w.trace j) v
      → IsPassOf x (w.trace j) v) w.process p o (own v) (λ j n k. k) q;
  longer = λ q. omega arith;
  higher = λ q. put_all (λ j (x : Process). (w.process j).floor ≤ x.floor) w.process p o (omega arith)
      (λ j n. omega arith) q;
  note = refl;
  rising = λ q n. omega arith;
}

within_length : (start answered length : ℕ) (h : ℕ → _) (told : ℕ) (word : DescriptorWord) → answered ≤ length
    → IsWord start answered length h told word → number_of word ≤ length
within_length start answered length h told (Valid k d) le is = let a = is.high in omega arith
within_length start answered length h told (Fault k) le is = is.high

-- a pair's word is replaced by one of a number that is no lower
pub pair_rises : (f : ℕ → ℕ → DescriptorWord) (p n : ℕ) (a : DescriptorWord) → number_of (f p n) ≤ number_of a
    → (q m : ℕ) → number_of (f q m) ≤ number_of (put f p (put (f p) n a) q m)
pair_rises f p n a le q m = put_all (λ j (g : ℕ → DescriptorWord). number_of (f j m) ≤ number_of (g m)) f p
    (put (f p) n a)
    (put_all (λ i (x : DescriptorWord). number_of (f p i) ≤ number_of x) (f p) n a le (λ i ne. omega arith) m)
    (λ j ne. omega arith) q

but_word : (y : Layout) (w : World) (p n : ℕ) (z : Part) → z ≢ DescriptorAt p n → content (after_strike w p n) z
    ≡ content w z
but_word y w p n Count ne = refl
but_word y w p n Answered ne = refl
but_word y w p n (Flag q) ne = refl
but_word y w p n (ConnectWord q) ne = refl
but_word y w p n (DescriptorAt q m) ne = ap word_code
    (put_pair w.word p n (Fault w.length) q m (λ e e'. ne (λ i. DescriptorAt (e i) (e' i))))
but_word y w p n (CellAt c) ne = refl

abbrev pub struck_office : ℕ → ℕ → Office → Office
struck_office p n x = record x { word = put x.word p (put (x.word p) n (Fault x.length)) }

pub strike_allowed : (S : Type 0) → StrikeAllowed S
strike_allowed S y v p n may slots id s r len at lt =
    let w = r.world in
    let k = r.views id (Super v) at in
    let m : MayStrike (office w) p n = subst (λ (x : Office). MayStrike x p n) (sym k.1) may in (
      Super (struck_view p n v),
      keeps,
      tt,
      office_moves y s r id v (struck_view p n v) (after_strike w p n) [] _ at
          (record {
            processes = refl;
            start = refl;
            passes = λ q u h. h;
            longer = λ q. omega arith;
            higher = λ q. omega arith;
            note = refl;
            rising = pair_rises w.word p n (Fault w.length) (within_length w.start w.answered w.length
                (λ q. w.table q p n) (w.told p n) (w.word p n) r.good.access.answered_low
                (r.good.access.words p n));
          })
          (refl, refl, refl, refl, refl, refl)
          (no_marks {S = S} w)
          (strike_law w p n r.good
          (record {
            range = record { process = record { low = m.low; high = m.high }; number = m.number };
            pending = m.pending;
            changed = m.changed;
          }))
          (ap (struck_office p n) k.1)
          r.plain
          (set_words y w.processes w.numbers (content w) (content (after_strike w p n)) s.words
          (DescriptorAt p n) _ r.layout (m.low, m.high, m.number) r.words
          (ap (λ (x : Office). word_code (Fault x.length)) (sym k.1)
          ∙ sym (ap word_code (ap (λ (f : ℕ → _). f n) (put_here w.word p (put (w.word p) n (Fault w.length)))
          ∙ put_here (w.word p) n (Fault w.length))))
          (but_word y w p n)),
      refl,
    )

but_connect : (y : Layout) (w : World) (p : ℕ) (o : Process) → o.flag ≡ (w.process p).flag → (z : Part)
    → z ≢ ConnectWord p → content (with_process w p o) z ≡ content w z
but_connect y w p o flag Count n = refl
but_connect y w p o flag Answered n = refl
but_connect y w p o flag (Flag q) n = put_all (λ j (x : Process). x.flag ≡ (w.process j).flag) w.process p o flag
    (λ j m. refl) q
but_connect y w p o flag (ConnectWord q) n = ap (λ (x : Process). x.connect)
    (put_else w.process p o q (λ e. n (ap ConnectWord e)))
but_connect y w p o flag (DescriptorAt q m) n = refl
but_connect y w p o flag (CellAt c) n = refl

abbrev pub connecting : ℕ → Office → Office
connecting p x = record x { connect = put x.connect p x.length; look = put x.look p 0 }

pub connect_allowed : (S : Type 0) → ConnectAllowed S
connect_allowed S y v p may slots id s r len at lt =
    let w = r.world in
    let k = r.views id (Super v) at in
    let m : MayConnect (office w) p = subst (λ (x : Office). MayConnect x p) (sym k.1) may in
    let o' : Process = record (w.process p) { connect = w.length; look = 0 } in
    let a = put_map (λ (x : Process). x.connect) w.process p o' in
    let b = put_map (λ (x : Process). x.look) w.process p o' in
    let c = put_map (λ (x : Process). x.acknowledged) w.process p o' in
    let d = same_put (λ (q : ℕ). (w.process q).acknowledged) p in (
      Super (connecting_view p v),
      keeps,
      tt,
      office_moves y s r id v (connecting_view p v) (after_connect w p) [] _ at
          (office_step w p o' refl (λ u h. record { told = h.told; rest = h.rest }))
          (refl, refl, refl, refl, refl, refl)
          (no_marks {S = S} w)
          (connect_law w p r.good
          (record {
            range = record { low = m.low; high = m.high };
            pending = m.pending;
            changed = record { segno = m.segno; changed = m.changed };
            struck = m.struck;
          }))
          ((λ i. record (office w) { connect = a i; look = b i; acknowledged = (c ∙ d) i }) ∙ ap (connecting p) k.1)
          r.plain
          (set_words y w.processes w.numbers (content w) (content (after_connect w p)) s.words
          (ConnectWord p) _ r.layout (m.low, m.high) r.words
          (ap (λ (x : Office). x.length) (sym k.1) ∙ sym (ap (λ (x : Process). x.connect) (put_here w.process p o')))
          (but_connect y w p o' refl)),
      refl,
    )
  where
    same_put : (f : ℕ → Bool) (p : ℕ) → put f p (f p) ≡ f
    same_put f p = λ i q. put_all (λ j (x : Bool). x ≡ f j) f p (f p) refl (λ j n. refl) q i

but_answered : (y : Layout) (w : World) (z : Part) → z ≢ Answered → content (after_answer w) z ≡ content w z
but_answered y w Count ne = refl
but_answered y w Answered ne = absurd (ne refl)
but_answered y w (Flag q) ne = refl
but_answered y w (ConnectWord q) ne = refl
but_answered y w (DescriptorAt q m) ne = refl
but_answered y w (CellAt c) ne = refl

abbrev pub answering : Office → Office
answering x = record x { answered = x.length; look = λ p. 0; acknowledged = λ p. false }

pub answer_allowed : (S : Type 0) → AnswerAllowed S
answer_allowed S y v may slots id s r len at lt =
    let w = r.world in
    let k = r.views id (Super v) at in
    let m : MayAnswer (office w) = subst MayAnswer (sym k.1) may in (
      Super (answered_view v),
      keeps,
      tt,
      office_moves y s r id v (answered_view v) (after_answer w) [] _ at
          (record {
            processes = refl;
            start = refl;
            passes = λ q u h. record { told = h.told; rest = h.rest };
            longer = λ q. omega arith;
            higher = λ q. omega arith;
            note = refl;
            rising = λ q n. omega arith;
          })
          (refl, refl, refl, refl, refl, refl)
          (no_marks {S = S} w)
          (answer_law w r.good (record { pending = m.pending; struck = m.struck; acknowledged = m.acknowledged }))
          (ap answering k.1)
          r.plain
          (set_words y w.processes w.numbers (content w)
          (content (after_answer w)) s.words Answered _ r.layout tt r.words
          (ap (λ (x : Office). x.length) (sym k.1)) (but_answered y w)),
      refl,
    )
