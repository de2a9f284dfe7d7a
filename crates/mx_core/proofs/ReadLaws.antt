-- What is right of reads and cells in a world stays right: the laws of reads, at worlds.
use Rattle.std.proofs.Common.{◌≡◌, ◌≢◌, ◌⊎◌, inl, inr, ℕ, zero, suc, ◌+◌, ◌<◌, ◌≤◌, Bool, List, [], ◌∷◌, ◌++◌, map, length, refl, ap, sym, ◌∙◌, subst, Some, arith}
use Rattle.std.specs.Prelude.{IsTrue, max, nat_le, ◌&&◌, ◌==◌}
use Rattle.std.specs.List.{slice_get}
use Rattle.std.proofs.lemmas.Bool.{and_parts, eqb-true, leb-true}
use Rattle.std.proofs.lemmas.List.{map_push}
use Rattle.mx_reads.specs.Deeds.{CellUse, Deed, Deeds, Stores, Loads}
use Rattle.mx_reads.specs.Growth.{IsWithin, IsQuietWithin}
use Rattle.mx_reads.specs.Held.{Held, IsHeld, AreRight}
use Rattle.mx_reads.specs.KeepLaws.{IsNew}
use Rattle.mx_reads.specs.ReadRule.{Fronts}
use Rattle.mx_reads.proofs.Keeps.{quiet_law, grown}
use Rattle.mx_core.specs.Deeds.{deed_by, deed_of, deeds, front, present, holding}
use Rattle.mx_core.specs.Pages.{page_of, cell_at, use_at, cell_use}
use Rattle.mx_core.specs.Put.{pick, put}
use Rattle.mx_core.specs.World.{Kept, Judged, Missed, Entry, World}
use Rattle.mx_core.specs.declared.elements.Outcome.{Outcome}
use Rattle.mx_core.specs.declared.elements.Outcome.TheVariants as outcome
use Rattle.mx_core.proofs.Puts.{put_here, put_else, pick_all}

-- nobody does anything; more is known beyond the bound, or the bound is higher
pub nothing_done : (count bound bound' : ℕ) (done : Deeds) (front front' : Fronts) (present present' : CellUse → Bool)
    (memory : CellUse → Held)
    → 0 < count → bound ≤ bound' → ((u q : ℕ) → q ≤ bound → front' u q ≡ front u q)
    → ((u q : ℕ) → q ≤ bound' → front' u q ≤ length (done u))
    → ((c : CellUse) → IsTrue (present' c) → IsTrue (present c) ⊎ IsNew done c (memory c))
    → AreRight count bound done front present memory → AreRight count bound' done front' present' memory
nothing_done count bound bound' done front front' present present' memory some more same low new are =
    quiet_law count bound bound' 0 done done front front' present present' memory some more (record {
      kept = λ u i d h. h;
      found = λ u i d h. inl h;
      same = same;
      longer = λ u. omega arith;
      length_others = λ u n. refl;
      length_own = omega arith;
    }) low new are

-- cells that are no longer to be read may hold anything
pub held_same : (count bound : ℕ) (done : Deeds) (front : Fronts) (present present' : CellUse → Bool)
    (memory memory' : CellUse → Held)
    → ((c : CellUse) → IsTrue (present' c) → IsTrue (present c) × (memory' c ≡ memory c))
    → AreRight count bound done front present memory → AreRight count bound done front present' memory'
held_same count bound done front present present' memory memory' same are = record {
  within = are.within;
  low = are.low;
  idle = are.idle;
  source = are.source;
  right = are.right;
  held = λ c here. let s = same c here in subst (λ (h : Held). IsHeld done front are.source c h) (sym s.1)
      (are.held c s.0);
}

-- a process keeps what is neither read nor store
pub quiet_event : (w : World) (p bound : ℕ) (event : Kept) → p < w.processes + 1
    → IsQuietWithin bound (deed_of w.start w.given event)
    → AreRight (w.processes + 1) bound (deeds w) (front w.start w.entry) (present w) (holding w)
    → AreRight (w.processes + 1) bound (λ u. map (deed_of w.start w.given) (put w.trace p (w.trace p ++ event ∷ []) u))
    (front w.start w.entry) (present w) (holding w)
quiet_event w p bound event counted quiet are =
    let g = grown bound p (deeds w) new (front w.start w.entry) (deed_of w.start w.given event) own others in
    quiet_law (w.processes + 1) bound bound p (deeds w) new (front w.start w.entry) (front w.start w.entry) (present w)
    (present w) (holding w)
    counted (omega arith) (record {
      kept = g.kept;
      found = λ u i d h. elim (g.found u i d h) [
        | inl a ↦ inl a
        | inr b ↦ inr (b.0, b.1, subst (IsQuietWithin bound) (sym b.2) quiet)
      ];
      same = g.same;
      longer = g.longer;
      length_others = g.length_others;
      length_own = g.length_own;
    }) (λ u q l. let a = are.low u q l in let b = g.longer u in omega arith) (λ c h. inl h) are
  where
    new : Deeds
    new u = map (deed_of w.start w.given) (put w.trace p (w.trace p ++ event ∷ []) u)

    own : new p ≡ deeds w p ++ deed_of w.start w.given event ∷ []
    own = ap (map (deed_of w.start w.given)) (put_here w.trace p (w.trace p ++ event ∷ [])) ∙ map_push
        (deed_of w.start w.given) (w.trace p) event

    others : (u : ℕ) → u ≢ p → new u ≡ deeds w u
    others u n = ap (map (deed_of w.start w.given)) (put_else w.trace p (w.trace p ++ event ∷ []) u n)

-- one event more, in the list of deeds
pub event_own : (w : World) (p : ℕ) (event : Kept)
    → map (deed_of w.start w.given) (put w.trace p (w.trace p ++ event ∷ []) p) ≡ deeds w p
    ++ deed_of w.start w.given event ∷ []
event_own w p event = ap (map (deed_of w.start w.given)) (put_here w.trace p (w.trace p ++ event ∷ [])) ∙ map_push
    (deed_of w.start w.given) (w.trace p) event

pub event_others : (w : World) (p : ℕ) (event : Kept) (u : ℕ) → u ≢ p
    → map (deed_of w.start w.given) (put w.trace p (w.trace p ++ event ∷ []) u) ≡ deeds w u
event_others w p event u n = ap (map (deed_of w.start w.given)) (put_else w.trace p (w.trace p ++ event ∷ []) u n)

-- fronts: what entries up to a point say
pub front_same : (start : ℕ) (entry entry' : ℕ → Entry) (u q : ℕ) → ((r : ℕ) → r ≤ q → entry' r ≡ entry r)
    → front start entry' u q ≡ front start entry u q
front_same start entry entry' u zero same = refl
front_same start entry entry' u (suc q) same =
    let below = front_same start entry entry' u q (λ r l. same r (omega arith)) in
    ap (λ (e : Entry). pick (nat_le start q && (e.process == u)) (max e.mark (front start entry' u q))
    (front start entry' u q)) (same (suc q) (omega arith))
    ∙ ap (λ (f : ℕ). pick (nat_le start q && ((entry (suc q)).process == u)) (max (entry (suc q)).mark f) f) below

pub front_within : (start : ℕ) (entry : ℕ → Entry) (u q most : ℕ)
    → ((r : ℕ) → start < r → r ≤ q → (entry r).process ≡ u → (entry r).mark ≤ most) → front start entry u q ≤ most
front_within start entry u zero most all = omega arith
front_within start entry u (suc q) most all =
    let below = front_within start entry u q most (λ r a b e. all r a (omega arith) e) in
    pick_all (λ (f : ℕ). f ≤ most) (nat_le start q && ((entry (suc q)).process == u))
    (max (entry (suc q)).mark (front start entry u q)) (front start entry u q)
    (λ e.
    let parts = and_parts (nat_le start q) ((entry (suc q)).process == u) e in
    let a = leb-true start q parts.0 in
    let here = all (suc q) (omega arith) (omega arith) (eqb-true (entry (suc q)).process u parts.1) in omega arith)
    (λ e. below)

-- uses: what entries up to a point gave out
pub use_low : (start : ℕ) (given : ℕ → ℕ → Bool) (page q : ℕ) → use_at start given page q ≤ q
use_low start given page zero = omega arith
use_low start given page (suc q) =
    let below = use_low start given page q in
    pick_all (λ (f : ℕ). f ≤ suc q) (nat_le start q && given (suc q) page) (suc q) (use_at start given page q)
    (λ e. omega arith) (λ e. omega arith)

pub use_same : (start : ℕ) (given given' : ℕ → ℕ → Bool) (page q : ℕ) → ((r : ℕ) → r ≤ q → given' r ≡ given r)
    → use_at start given' page q ≡ use_at start given page q
use_same start given given' page zero same = refl
use_same start given given' page (suc q) same =
    ap (λ (f : ℕ → Bool). pick (nat_le start q && f page) (suc q) (use_at start given' page q))
    (same (suc q) (omega arith))
    ∙ ap (λ (f : ℕ). pick (nat_le start q && given (suc q) page) (suc q) f)
    (use_same start given given' page q (λ r l. same r (omega arith)))

-- a store is in a use that its point has reached
use_of_store : (start : ℕ) (given : ℕ → ℕ → Bool) (k : Kept) (c : CellUse) (value q : ℕ)
    → deed_of start given k ≡ Stores c value q → c.since ≤ q
use_of_store start given (Missed n by) c value q h = cc
use_of_store start given (Judged e op d) c value q h = by_outcome e.outcome h
  where
    by_outcome : (o : Outcome) → deed_by (cell_use start given (cell_at d e.word) e.point) e.point o ≡ Stores c value q
        → c.since ≤ q
    by_outcome (outcome.Read v writer stamp) h = cc
    by_outcome (outcome.Entered ring) h = cc
    by_outcome (outcome.Denied denial) h = cc
    by_outcome (outcome.Written v) h =
        let point : e.point ≡ q = cc in
        let cell : cell_use start given (cell_at d e.word) e.point ≡ c = cc in
        let since = ap (λ (x : CellUse). x.since) cell in
        let low = use_low start given (page_of (cell_at d e.word)) e.point in omega arith

pub store_use : (start : ℕ) (given : ℕ → ℕ → Bool) (trace : List Kept) (place : ℕ) (c : CellUse) (value q : ℕ)
    → slice_get (map (deed_of start given) trace) place ≡ Some (Stores c value q) → c.since ≤ q
store_use start given [] place c value q h = cc
store_use start given (k ∷ rest) zero c value q h =
    use_of_store start given k c value q (same (deed_of start given k) (Stores c value q) h)
  where
    same : (a b : Deed) → Some a ≡ Some b → a ≡ b
    same a b h = cc
store_use start given (k ∷ rest) (suc place) c value q h = store_use start given rest place c value q h

-- deeds up to a point are the same where what entries up to that point gave out is
same_deed : (start bound : ℕ) (given given' : ℕ → ℕ → Bool) (k : Kept)
    → ((page q : ℕ) → q ≤ bound → use_at start given' page q ≡ use_at start given page q)
    → IsWithin bound (deed_of start given k) → deed_of start given' k ≡ deed_of start given k
same_deed start bound given given' (Missed n by) same within = refl
same_deed start bound given given' (Judged e op d) same within = by_outcome e.outcome within
  where
    cell : e.point ≤ bound → cell_use start given' (cell_at d e.word) e.point ≡ cell_use start given (cell_at d e.word)
        e.point
    cell l = ap (λ (since : ℕ). record { cell = cell_at d e.word; since = since })
        (same (page_of (cell_at d e.word)) e.point l)

    by_outcome : (o : Outcome) → IsWithin bound (deed_by (cell_use start given (cell_at d e.word) e.point) e.point o)
        → deed_by (cell_use start given' (cell_at d e.word) e.point) e.point o ≡ deed_by
        (cell_use start given (cell_at d e.word) e.point) e.point o
    by_outcome (outcome.Read v writer stamp) l = ap (λ (c : CellUse). Loads c v writer stamp e.point) (cell l)
    by_outcome (outcome.Written v) l = ap (λ (c : CellUse). Stores c v e.point) (cell l)
    by_outcome (outcome.Entered ring) l = refl
    by_outcome (outcome.Denied denial) l = refl

pub same_deeds : (start bound : ℕ) (given given' : ℕ → ℕ → Bool) (trace : List Kept)
    → ((page q : ℕ) → q ≤ bound → use_at start given' page q ≡ use_at start given page q)
    → ((i : ℕ) (d : Deed) → slice_get (map (deed_of start given) trace) i ≡ Some d → IsWithin bound d)
    → map (deed_of start given') trace ≡ map (deed_of start given) trace
same_deeds start bound given given' [] same within = refl
same_deeds start bound given given' (k ∷ rest) same within =
    let a = same_deed start bound given given' k same (within 0 (deed_of start given k) refl) in
    let b = same_deeds start bound given given' rest same (λ i d h. within (suc i) d h) in λ i. a i ∷ b i
