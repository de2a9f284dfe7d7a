-- An entry that may be announced may be revoked, cleared after and settled, and its process is then told of it.
use Rattle.std.proofs.Common.{◌≡◌, ◌⊎◌, inl, inr, ℕ, zero, suc, ◌+◌, ◌<◌, ◌≤◌, max, List, [], ◌∷◌, length, Some, slice_get, refl, sym, ap, ◌∙◌, subst, arith}
use Rattle.std.proofs.lemmas.Bool.{cases_eq}
use Rattle.mx_sdw.specs.Descriptors.{Descriptor}
use Rattle.mx_core.specs.Append.{with_changes}
use Rattle.mx_core.specs.Put.{put}
use Rattle.mx_core.proofs.Puts.{put_all, put_here, put_else}
use Rattle.mx_core.specs.declared.changes.Change.{Change}
use Rattle.mx_rule.specs.Fronts.{IsFront}
use Rattle.mx_rule.specs.Notes.{joined_view, noted_view}
use Rattle.mx_rule.specs.Shown.{all_told, base_of, office_of, reported_of, told_of}
use Rattle.mx_rule.specs.Telling.{AreOwnMarks}
use Rattle.mx_rule.specs.declared.layout.Layout.{Layout}
use Rattle.mx_rule.specs.declared.views.EntryView.{EntryView}
use Rattle.mx_rule.specs.declared.views.PassView.{PassView}
use Rattle.mx_rule.specs.declared.views.SuperView.{SuperView}
use Rattle.mx_office.specs.Announcing.{Coming, IsAnnounced, MayAnnounce, announced_view, came_view}
use Rattle.mx_office.specs.Clearing.{cleared_pages}
use Rattle.mx_office.specs.Revoking.{AreListed, IsListed, MayStrikeAll, revoked_view}
use Rattle.mx_office.specs.Settling.{AreStruckLast, ArePairsOnce, settled_told}
use Rattle.mx_office.proofs.Answering.{struck_here}
use Rattle.mx_office.proofs.Settles.{once_rest, settled_here}

same_change : (a b : Change) → Some a ≡ Some b → a ≡ b
same_change a b e = cc

-- a pair that is none of the list
abbrev pub IsUnlisted : List Change → ℕ → ℕ → Type 0
IsUnlisted changes p n = (i : ℕ) (c : Change) → slice_get changes i ≡ Some c → c.process ≡ p → c.segno ≡ n → ⊥

put_other : (t : ℕ → ℕ → Descriptor) (c : Change) (p n : ℕ) → (c.process ≡ p → c.segno ≡ n → ⊥)
    → put t c.process (put (t c.process) c.segno c.desc) p n ≡ t p n
put_other t c p n apart = put_all (λ j (g : ℕ → Descriptor). (c.process ≡ j → c.segno ≡ n → ⊥) → g n ≡ t j n) t c.process
    (put (t c.process) c.segno c.desc)
    (λ a. put_else (t c.process) c.segno c.desc n (λ e. a refl (sym e)))
    (λ j ne a. refl) p apart

put_at : (t : ℕ → ℕ → Descriptor) (c : Change)
    → put t c.process (put (t c.process) c.segno c.desc) c.process c.segno ≡ c.desc
put_at t c = ap (λ (g : ℕ → Descriptor). g c.segno) (put_here t c.process (put (t c.process) c.segno c.desc))
    ∙ put_here (t c.process) c.segno c.desc

pub unlisted_stays : (changes : List Change) (t : ℕ → ℕ → Descriptor) (p n : ℕ) → IsUnlisted changes p n
    → with_changes changes t p n ≡ t p n
unlisted_stays [] t p n none = refl
unlisted_stays (c ∷ cs) t p n none =
    unlisted_stays cs (put t c.process (put (t c.process) c.segno c.desc)) p n (λ i d at. none (suc i) d at)
    ∙ put_other t c p n (none 0 c refl)

-- whether a pair is listed
pub listed_or_not : (changes : List Change) (p n : ℕ) → IsListed changes p n ⊎ IsUnlisted changes p n
listed_or_not [] p n = inr (λ i c at. absurd (cc))
listed_or_not (c ∷ cs) p n = elim (cases_eq c.process p) [
  | inl e ↦ elim (cases_eq c.segno n) [
    | inl f ↦ inl (record { place = 0; change = c; at = refl; process = e; segno = f })
    | inr f ↦ later (λ e' f'. f f') (listed_or_not cs p n)
  ]
  | inr e ↦ later (λ e' f'. e e') (listed_or_not cs p n)
]
  where
    later : (c.process ≡ p → c.segno ≡ n → ⊥) → IsListed cs p n ⊎ IsUnlisted cs p n
        → IsListed (c ∷ cs) p n ⊎ IsUnlisted (c ∷ cs) p n
    later apart (inl l) = inl (record { place = suc l.place; change = l.change; at = l.at; process = l.process; segno = l.segno })
    later apart (inr none) = inr (λ i. here i)
      where
        here : IsUnlisted (c ∷ cs) p n
        here zero d at e f = apart (ap (λ (x : Change). x.process) (same_change c d at) ∙ e)
            (ap (λ (x : Change). x.segno) (same_change c d at) ∙ f)
        here (suc i) d at e f = none i d at e f

pub listed_is : (changes : List Change) (t : ℕ → ℕ → Descriptor) (i : ℕ) (c : Change) → ArePairsOnce changes
    → slice_get changes i ≡ Some c → with_changes changes t c.process c.segno ≡ c.desc
listed_is [] t i c once at = cc
listed_is (d ∷ ds) t zero c once at = subst
    (λ (e : Change). with_changes (d ∷ ds) t e.process e.segno ≡ e.desc) (same_change d c at)
    (unlisted_stays ds (put t d.process (put (t d.process) d.segno d.desc)) d.process d.segno
    (λ j e at' p n. (let z = once (suc j) 0 e d at' refl p n in absurd (omega arith)))
    ∙ put_at t d)
listed_is (d ∷ ds) t (suc i) c once at =
    listed_is ds (put t d.process (put (t d.process) d.segno d.desc)) i c (once_rest d ds once) at

module _ {S : Type 0} (e : Coming S) (v : SuperView S) (u : PassView S) (m : MayAnnounce e v u)
    (answered : v.answered ≤ v.length) where
  abbrev now : ℕ → ℕ → Descriptor
  now = with_changes e.changes ((office_of v).table v.length)

  same_length : v.answered ≡ v.length
  same_length = let a = m.rest in omega arith

  after : (office_of (came_view e v)).table (v.length + 1) ≡ now
  after = put_here (office_of v).table (v.length + 1) now

  before : (office_of (came_view e v)).table v.answered ≡ (office_of v).table v.length
  before = put_else (office_of v).table (v.length + 1) now v.answered (λ is. (let a = same_length in omega arith))
      ∙ ap (office_of v).table same_length

  pub pending : v.answered < v.length + 1
  pending = omega arith

  pub strikes : MayStrikeAll (office_of (came_view e v)) e.changes
  strikes i c at = let each = m.may.each i c at in record {
    low = each.0;
    high = each.1;
    number = each.2;
    pending = pending;
    changed = λ is. m.news i c at
        (ap (λ (f : ℕ → ℕ → Descriptor). f c.process c.segno) (sym before) ∙ sym is
        ∙ ap (λ (f : ℕ → ℕ → Descriptor). f c.process c.segno) after
        ∙ listed_is e.changes ((office_of v).table v.length) i c m.may.pair_once at);
  }

  pub listed : AreListed (office_of (came_view e v)) e.changes
  listed p n h = elim (listed_or_not e.changes p n) [
    | inl l ↦ l
    | inr none ↦ absurd (h (ap (λ (f : ℕ → ℕ → Descriptor). f p n) after
        ∙ unlisted_stays e.changes ((office_of v).table v.length) p n none
        ∙ sym (ap (λ (f : ℕ → ℕ → Descriptor). f p n) before)))
  ]

  abbrev cleared : SuperView S
  cleared = cleared_pages e.freed (revoked_view e.changes (came_view e v))

  pub struck_last : (y : Layout) → v.processes ≡ y.processes → v.numbers ≡ y.numbers
      → AreStruckLast y cleared e.process e.changes
  struck_last y processes numbers i c at own = let each = m.may.each i c at in record {
    pair = record {
      low = each.0;
      high = subst (λ (k : ℕ). c.process ≤ k) processes each.1;
      number = subst (λ (k : ℕ). c.segno < k) numbers each.2;
    };
    may = record {
      low = each.0;
      high = each.1;
      number = each.2;
      rest = omega arith;
      fault = struck_here v.start (base_of v.base) (v.length + 1) e.changes v.words i c at;
    };
  }

  -- what its process then knows
  pub announced : (u' : PassView S) → u' ≡ joined_view (noted_view (announced_view e v)) u
      → (u.floor ≤ v.length + 1 → u'.history ≡ (announced_view e v).history) → AreOwnMarks u'
      → IsFront u'.earlier u'.history → IsAnnounced e v u u'
  announced u' joined later marks longer =
      let low = m.floor in
      let history : u'.history ≡ (came_view e v).history = later (omega arith) in
      let came : EntryView S = record {
        before = v.length;
        process = e.process;
        mark = reported_of v.reported e.process;
        changes = e.changes;
        given = e.given;
        entry = e.entry;
      } in
      let at : slice_get u'.history 0 ≡ Some came = ap (λ (h : List (EntryView S)). slice_get h 0) history in
      let most : reported_of v.reported e.process ≤ length u'.trace =
      marks 0 came at (m.own ∙ sym (ap (λ (x : PassView S). x.process) joined)) in
      let trace : length u'.trace ≡ length u.trace = ap (λ (x : PassView S). length x.trace) joined in
      let least : length u.trace ≤ reported_of v.reported e.process =
      subst (λ (p : ℕ). length u.trace ≤ reported_of v.reported p) (sym m.own) m.reported in
      let mark : reported_of v.reported e.process ≡ length u.trace = omega arith in
      let floor : u'.floor ≡ max u.floor (v.length + 1) = ap (λ (x : PassView S). x.floor) joined in
      record {
        joined = joined;
        history = history ∙ ap (λ (k : ℕ). record {
          before = v.length;
          process = e.process;
          mark = k;
          changes = e.changes;
          given = e.given;
          entry = e.entry;
        } ∷ v.history) mark;
        longer = subst (λ (h : List (EntryView S)). IsFront h u'.history)
            (ap (λ (x : PassView S). x.earlier) joined) longer;
        above = omega arith;
        reached = omega arith;
        own = λ i c at own.
            let told = settled_here v.start (v.length + 1) e.process e.changes v.told i c at (own ∙ sym m.own) in
            let here = ap (λ (q : ℕ). told_of v.start (settled_told e.process e.changes (v.length + 1) v.told) q c.segno) own in
            let then = ap (λ (x : PassView S). all_told x.start x.told x.process c.segno) joined in omega arith;
      }
