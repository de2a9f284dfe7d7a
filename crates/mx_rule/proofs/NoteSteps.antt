-- Split, Join and Report keep the rule.
use Rattle.std.proofs.Common.{◌≡◌, ◌≢◌, ◌⊎◌, inl, inr, ⊎_elim, ℕ, zero, suc, ◌+◌, ◌≤◌, max, List, [], ◌∷◌, ◌++◌, length, set, length-set, refl, sym, ap, ◌∙◌, subst, slice_get, arith, Option, Some, None}
use mathlib.Core.Option.{some, some-injective, some-ne-none}
use lib.ListN.{get_elem?}
use Rattle.atomic_table.proofs.Lists.{set_else}
use Rattle.mx_core.specs.Invariant.{Good}
use Rattle.mx_core.specs.Notes.{after_split, told_by, joined, after_report}
use Rattle.mx_core.specs.Notions.{with_process}
use Rattle.mx_core.specs.Put.{put}
use Rattle.mx_core.specs.Words.{number_of}
use Rattle.mx_core.specs.World.{Process, Note, World}
use Rattle.mx_core.proofs.HistoryLaws.{split_law, report_law}
use Rattle.mx_core.proofs.ProcessLaws.{join_law}
use Rattle.mx_core.proofs.Puts.{put_here, put_else}
use Rattle.mx_core.specs.declared.elements.Kept.{Kept}
use Rattle.mx_core.specs.declared.words.DescriptorWord.{DescriptorWord}
use Rattle.mx_core.specs.declared.elements.Kept.TheVariants.{Judged, Missed}
use Rattle.mx_rule.specs.Notes.{noting_view, noted_view, SplitAllowed, joined_view, JoinAllowed, report_of, MakesReportAllowed, reported_view, ReportAllowed, HasMiss, last_miss}
use Rattle.mx_rule.specs.Fronts.{IsFront}
use Rattle.mx_rule.specs.Layout.{Layout, content}
use Rattle.mx_rule.specs.Parts.{Answered, CellAt, ConnectWord, Count, DescriptorAt, Flag, Part}
use Rattle.mx_rule.specs.Rule.{Seats, IsPassOf, IsReported, AreReported, Knows}
use Rattle.mx_rule.specs.Shown.{View, Super, Pass, Noted, Report, Spent, PassView, ReportView, Office, note_of}
use Rattle.mx_rule.proofs.Words.{all_words}
use Rattle.mx_rule.proofs.Fronts.{front_same, front_longer, front_old}
use Rattle.mx_rule.proofs.Moves.{IsPassStep, plain_step, under_pass, view_set}
use Rattle.mx_rule.proofs.OfficeSteps.{IsOfficeStep, reported_on, under_office}

pub at_snoc_index : {A : Type 0} (l : List A) (a b : A) (j : ℕ) → get_elem? (l ++ a ∷ []) j ≡ some b
    → (get_elem? l j ≡ some b) ⊎ ((a ≡ b) × (j ≡ length l))
at_snoc_index [] a b zero e = inr (some-injective a b e, refl)
at_snoc_index [] a b (suc j) e = absurd (some-ne-none b (sym e))
at_snoc_index (x ∷ xs) a b zero e = inl e
at_snoc_index (x ∷ xs) a b (suc j) e = ⊎_elim (λ t. inl t) (λ (t : (a ≡ b) × (j ≡ length xs)). inr (t.0, ap suc t.1))
    (at_snoc_index xs a b j e)

abbrev note_at : Office → Option Note
note_at x = Some (record { floor = x.answered; told = x.told })

some_note : (o : Note) → ◌≡◌ {A = Option Note} None (Some o) → ⊥
some_note o e = cc

same_report : (w w' : World) (u : ReportView) → w'.processes ≡ w.processes → w'.trace ≡ w.trace
    → w'.process ≡ w.process → w'.word ≡ w.word → IsReported w u → IsReported w' u
same_report w w' u a b c d k = (
  record { low = k.0.low; high = subst (λ (x : ℕ). u.process ≤ x) (sym a) k.0.high },
  subst (λ (f : ℕ → List Kept). u.length ≤ length (f u.process)) (sym b) k.1,
  subst (λ (f : ℕ → Process). u.floor ≤ (f u.process).floor) (sym c) k.2,
  subst (λ (f : ℕ → ℕ → DescriptorWord). u.by ≤ number_of (f u.process u.segno)) (sym d) k.3,
)

pub split_allowed : (S : Type 0) → SplitAllowed S
split_allowed S y v id rest s r at =
    let w = r.world in
    let k = r.views id (Super v) at in
    let w' = after_split w in
    let new : Note = record { floor = w.answered; told = w.told } in
    let seats' : Seats S = record r.seats { noter = put r.seats.noter w.made (length s.views) } in
    let fresh = r.good.shape.notes w.made (omega arith) in
    let known : (j : ℕ) (u : View S) → j ≢ r.seats.chief → Knows w r.seats j u → Knows w' seats' j u =
    still w r.seats (length s.views) new fresh in
    let made_is : w.made ≡ v.made = ap (λ (x : Office). x.made) k.1 in record {
      world = w';
      seats = seats';
      layout = r.layout;
      good = split_law w r.good (record {
        rest = (let a = ap (λ (x : Office). x.length) k.1 in let b = ap
            (λ (x : Office). x.answered) k.1 in omega arith);
      });
      marks = r.marks;
      plain = r.plain;
      words = r.words;
      views = λ j u e. ⊎_elim
          (λ (t : get_elem? (set s.views id (Super (noting_view v))) j ≡ some u).
          view_set (Knows w' seats') s.views id (Super (noting_view v)) (
            k.0,
            ap (λ (x : Office). record x { made = x.made + 1 }) k.1,
            k.2,
            k.3,
            λ i x e. same_report w w' x refl refl refl refl (k.4 i x e),
            k.5,
          )
          (λ j u n e. known j u (λ c. n (c ∙ sym k.0)) (r.views j u e)) j u t)
          (λ (t : (Noted (noted_view v) ≡ u) × (j ≡ length (set s.views id (Super (noting_view v))))).
          subst (Knows w' seats' j) t.0 (
            ap (put r.seats.noter w.made (length s.views)) (sym made_is)
                ∙ put_here r.seats.noter w.made (length s.views)
                ∙ sym (t.1 ∙ length_set s.views id (Super (noting_view v))),
            ap (put w.note w.made (Some new)) (sym made_is) ∙ put_here w.note w.made (Some new)
                ∙ ap (λ (x : Office). note_at x) k.1,
            subst (IsFront v.history) k.5 (front_same v.history),
          ))
          (at_snoc_index (set s.views id (Super (noting_view v))) (Noted (noted_view v)) u j e);
    }
  where
    length_set : (l : List (View S)) (i : ℕ) (a : View S) → length (set l i a) ≡ length l
    length_set l i a = length-set l i a

    still : (w : World) (seats : Seats S) (seat : ℕ) (new : Note) → w.note w.made ≡ None → (j : ℕ) (u : View S)
        → j ≢ seats.chief
        → Knows w seats j u → Knows (after_split w) (record seats { noter = put seats.noter w.made seat }) j u
    still w seats seat new none j (Super u) n k = absurd (n k.0)
    still w seats seat new none j (Pass u) n k = (k.0, record { low = k.1.low; high = k.1.high }, k.2, k.3, k.4, k.5)
    still w seats seat new none j (Noted u) n k =
        let other : u.number ≢ w.made = λ e. some_note (note_of u) (sym none ∙ ap w.note (sym e) ∙ k.1) in
        (put_else seats.noter w.made seat u.number other ∙ k.0, put_else w.note w.made _ u.number other ∙ k.1, k.2)
    still w seats seat new none j (Report u) n k = same_report w (after_split w) u refl refl refl refl k
    still w seats seat new none j Spent n k = k

-- a pass takes a note
note_step : (w : World) (p i : ℕ) (note : Note) → IsPassStep w (with_process w p (told_by (w.process p) note)) p
note_step w p i note = plain_step w p (told_by (w.process p) note)
    (record { connect = refl; look = refl; acknowledged = refl; floor = omega arith })

pub join_allowed : (S : Type 0) → JoinAllowed S
join_allowed S y v u id other s r at apart at' =
    let w = r.world in
    let p = v.process in
    let k = r.views id (Pass v) at in
    let there : get_elem? s.views other ≡ some (Noted u) =
    sym (set_else s.views id other (Pass (joined_view u v)) apart) ∙ at' in
    let l = r.views other (Noted u) there in
    let note = note_of u in
    let w' : World = record w {
      process = put w.process p
          (told_by (w.process p) note);
      note = put w.note u.number None;
    } in
    let step = note_step w p u.number note in
    let o' = told_by (w.process p) note in record {
      world = w';
      seats = r.seats;
      layout = r.layout;
      good = subst (λ (z : Option Note). Good (joined w p u.number z)) l.1
          (join_law w p u.number r.good (record { range = k.1.high; note = record { note = note; at = l.1 } }));
      marks = r.marks;
      plain = r.plain;
      words = record {
        wide = r.words.wide;
        each = λ z part. r.words.each z part
            ∙ sym (same_words y w p note (put w.note u.number None) z);
      };
      views = view_set (Knows w' r.seats) (set s.views id (Pass (joined_view u v))) other Spent tt
          (λ j x n e. view_set (λ i a. i ≢ other → Knows w' r.seats i a) s.views id (Pass (joined_view u v))
          (λ ne. (
            k.0,
            record { low = k.1.low; high = k.1.high },
            subst (λ (o : Process). IsPassOf o (w.trace p) (joined_view u v)) (sym (put_here w.process p o'))
                (record { told = (λ i p n. max (k.2.told i p n) (note.told p n)); rest = ap (joined_view u) k.2.rest }),
            k.3,
            front_longer v.history u.history r.seats.history k.4 l.2,
            front_old v.history u.history r.seats.history k.4 l.2,
          ))
          (λ i a m e' ne. but_note w p u.number note r.seats id other i a step k.0 l.0 m ne (r.views i a e'))
          j x e n);
    }
  where
    same_words : (y : Layout) (w : World) (p : ℕ) (note : Note) (notes : ℕ → Option Note) (z : Part)
        → content (record w { process = put w.process p (told_by (w.process p) note); note = notes }) z ≡ content w z
    same_words y w p note notes Count = refl
    same_words y w p note notes Answered = refl
    same_words y w p note notes (Flag q) = all_words y w p (told_by (w.process p) note) refl refl (Flag q)
    same_words y w p note notes (ConnectWord q) = all_words y w p (told_by (w.process p) note) refl refl (ConnectWord q)
    same_words y w p note notes (DescriptorAt q m) = refl
    same_words y w p note notes (CellAt c) = refl

    but_note : (w : World) (p i : ℕ) (note : Note) (seats : Seats S) (me other j : ℕ) (a : View S)
        → IsPassStep w (with_process w p (told_by (w.process p) note)) p
        → seats.owner p ≡ me → seats.noter i ≡ other → j ≢ me → j ≢ other → Knows w seats j a
        → Knows (record w {
          process = put w.process p
              (told_by (w.process p) note);
          note = put w.note i None;
        }) seats j a
    but_note w p i note seats me other j (Super a) step mine its n n' k =
        let q = under_pass {S = S} w _ seats p me j (Super a) step mine n k in
        (q.0, q.1, q.2, q.3, λ i x e. same_report _ _ x refl refl refl refl (q.4 i x e), q.5)
    but_note w p i note seats me other j (Pass a) step mine its n n' k =
        let q = under_pass {S = S} w _ seats p me j (Pass a) step mine n k in
        (q.0, record { low = q.1.low; high = q.1.high }, q.2, q.3, q.4, q.5)
    but_note w p i note seats me other j (Noted a) step mine its n n' k =
        (k.0, put_else w.note i None a.number (λ e. n' (sym k.0 ∙ ap seats.noter e ∙ its)) ∙ k.1, k.2)
    but_note w p i note seats me other j (Report a) step mine its n n' k =
        same_report _ _ a refl refl refl refl (under_pass {S = S} w _ seats p me j (Report a) step mine n k)
    but_note w p i note seats me other j Spent step mine its n n' k = k

pub makes_report_allowed : (S : Type 0) → MakesReportAllowed S
makes_report_allowed S y v id n by has s r at =
    let w = r.world in
    let k = r.views id (Pass v) at in
    let miss : by ≤ number_of (w.word v.process n) = elim has [
      | inl none ↦ omega arith
      | inr at ↦ ((r.good.traces v.process).misses at.place n by
          (ap (λ (x : PassView S). slice_get x.trace at.place) k.2.rest ∙ at.at)).most
    ] in record {
      world = w;
      seats = r.seats;
      layout = r.layout;
      good = r.good;
      marks = r.marks;
      plain = r.plain;
      words = r.words;
      views = λ j u e. ⊎_elim
          (λ (t : get_elem? (set s.views id (Pass v)) j ≡ some u). view_set (Knows w r.seats) s.views id (Pass v) k
          (λ j u n e. r.views j u e) j u t)
          (λ (t : (Report (report_of n by v) ≡ u) × (j ≡ length (set s.views id (Pass v)))). subst
          (Knows w r.seats j) t.0 (
            k.1,
            (let a = ap (λ (x : PassView S). length x.trace) k.2.rest in omega arith),
            (let a = ap (λ (x : PassView S). x.floor) k.2.rest in omega arith),
            miss,
          ))
          (at_snoc_index (set s.views id (Pass v)) (Report (report_of n by v)) u j e);
    }

pub report_allowed : (S : Type 0) → ReportAllowed S
report_allowed S y v u id other s r at apart at' =
    let w = r.world in
    let k = r.views id (Super v) at in
    let there : get_elem? s.views other ≡ some (Report u) =
    sym (set_else s.views id other (Super (reported_view u v)) apart) ∙ at' in
    let l = r.views other (Report u) there in
    let w' = after_report w u.process u.length in
    let step : IsOfficeStep S w w' =
    record {
      processes = refl;
      start = refl;
      passes = λ q u h. h;
      longer = λ q. omega arith;
      higher = λ q. omega arith;
      note = refl;
      rising = λ q n. omega arith;
    } in record {
      world = w';
      seats = r.seats;
      layout = r.layout;
      good = report_law w u.process u.length r.good (record { range = l.0; within = l.1 });
      marks = r.marks;
      plain = r.plain;
      words = record {
        wide = r.words.wide;
        each = λ z part. r.words.each z part
            ∙ sym (same_words y w u.process u.length z);
      };
      views = view_set (Knows w' r.seats) (set s.views id (Super (reported_view u v))) other Spent tt
          (λ j x n e. view_set (Knows w' r.seats) s.views id (Super (reported_view u v)) (
            k.0,
            ap (λ (x : Office). record x {
              reported = put x.reported u.process
                  (max (x.reported u.process) u.length);
            }) k.1,
            k.2,
            k.3,
            one_more w' u v.reported (reported_on {S = S} w w' u step l)
                (λ i x e. reported_on {S = S} w w' x step (k.4 i x e)),
            k.5,
          )
          (λ i a m e'. under_office w w' r.seats [] i a step (λ c. m (c ∙ sym k.0)) (r.views i a e'))
          j x e);
    }
  where
    some_is : (a b : ReportView) → Some a ≡ Some b → a ≡ b
    some_is a b e = cc

    one_more : (w : World) (u : ReportView) (us : List ReportView) → IsReported w u → AreReported w us
        → AreReported w (u ∷ us)
    one_more w u us h rest zero x e = subst (IsReported w) (some_is u x e) h
    one_more w u us h rest (suc i) x e = rest i x e

    same_words : (y : Layout) (w : World) (p n : ℕ) (z : Part) → content (after_report w p n) z ≡ content w z
    same_words y w p n Count = refl
    same_words y w p n Answered = refl
    same_words y w p n (Flag q) = refl
    same_words y w p n (ConnectWord q) = refl
    same_words y w p n (DescriptorAt q m) = refl
    same_words y w p n (CellAt c) = refl

-- a trace's last event is a miss, or the report has none
last_found : (trace : List Kept) → ((last_miss trace).1 ≡ 0)
    ⊎ ((i : ℕ) × (slice_get trace i ≡ Some (Missed (last_miss trace).0 (last_miss trace).1)))
last_found [] = inl refl
last_found (Missed n by ∷ []) = inr (0, refl)
last_found (Judged e op d ∷ []) = inl refl
last_found (Missed n by ∷ next ∷ rest) = elim (last_found (next ∷ rest)) [
  | inl none ↦ inl none
  | inr at ↦ inr (suc at.0, at.1)
]
last_found (Judged e op d ∷ next ∷ rest) = elim (last_found (next ∷ rest)) [
  | inl none ↦ inl none
  | inr at ↦ inr (suc at.0, at.1)
]

pub last_is_missed : {S : Type 0} (v : PassView S) → ((last_miss v.trace).1 ≡ 0)
    ⊎ HasMiss v (last_miss v.trace).0 (last_miss v.trace).1
last_is_missed v = elim (last_found v.trace) [
  | inl none ↦ inl none
  | inr at ↦ inr (record { place = at.0; at = at.1 })
]
