-- After the strikes, the connects and the acknowledgements the entry may be answered.
use Rattle.std.proofs.Common.{◌≡◌, ℕ, zero, suc, ◌<◌, List, [], ◌∷◌, Some, slice_get, refl, sym, ap, ◌∙◌, subst}
use Rattle.std.specs.Prelude.{IsTrue}
use Rattle.mx_sdw.specs.Descriptors.{Descriptor}
use Rattle.mx_core.specs.Put.{put}
use Rattle.mx_core.proofs.Puts.{put_all, put_here}
use Rattle.mx_core.specs.declared.changes.Change.{Change}
use Rattle.mx_core.specs.declared.words.DescriptorWord.{DescriptorWord}
use Rattle.mx_core.specs.declared.words.DescriptorWord.TheVariants.{Fault}
use Rattle.mx_desc.specs.Supers.{IsWaiting}
use Rattle.mx_rule.specs.Acknowledging.{MayAcknowledge, MayAnswer, answered_view, connecting_view}
use Rattle.mx_rule.specs.Shown.{base_of, numbers_of, office_of, words_of}
use Rattle.mx_rule.specs.Striking.{Changes, struck_view}
use Rattle.mx_rule.specs.declared.views.NumberAt.{NumberAt}
use Rattle.mx_rule.specs.declared.views.SuperView.{SuperView}
use Rattle.mx_rule.specs.declared.views.WordAt.{WordAt}
use Rattle.mx_office.specs.Revoking.{AreAcknowledged, AreListed, MayAcknowledgeAll, MayConnectAll, MayStrikeAll, connected_views, kept_of_each, revoked_view, struck_views, struck_words}

same_change : (a b : Change) → Some a ≡ Some b → a ≡ b
same_change a b e = cc

-- words that are struck stay so
still_struck : (f : ℕ → ℕ → DescriptorWord) (q m p n : ℕ) (d : DescriptorWord) → f p n ≡ d
    → put f q (put (f q) m d) p n ≡ d
still_struck f q m p n d h = put_all (λ j (g : ℕ → DescriptorWord). f j n ≡ d → g n ≡ d) f q (put (f q) m d)
    (put_all (λ i (x : DescriptorWord). f q i ≡ d → x ≡ d) (f q) m d (λ k. refl) (λ i ne k. k) n) (λ j ne k. k) p h

module _ (start : ℕ) (base : ℕ → ℕ → Descriptor) (number : ℕ) where
  stays : (changes : List Change) (words : List WordAt) (p n : ℕ) → words_of start base words p n ≡ Fault number
      → words_of start base (struck_words changes number words) p n ≡ Fault number
  stays [] words p n h = h
  stays (c ∷ cs) words p n h =
      stays cs (record { process = c.process; segno = c.segno; word = Fault number } ∷ words) p n
      (still_struck (words_of start base words) c.process c.segno p n (Fault number) h)

  pub struck_here : (changes : List Change) (words : List WordAt) (i : ℕ) (c : Change) → slice_get changes i ≡ Some c
      → words_of start base (struck_words changes number words) c.process c.segno ≡ Fault number
  struck_here [] words i c at = cc
  struck_here (d ∷ ds) words zero c at =
      let f = words_of start base words in
      let struck : WordAt = record { process = d.process; segno = d.segno; word = Fault number } in
      stays ds (struck ∷ words) c.process c.segno
      (subst (λ (e : Change). words_of start base (struck ∷ words) e.process e.segno ≡ Fault number)
      (same_change d c at)
      (ap (λ (g : ℕ → DescriptorWord). g d.segno) (put_here f d.process (put (f d.process) d.segno (Fault number)))
      ∙ put_here (f d.process) d.segno (Fault number)))
  struck_here (d ∷ ds) words (suc i) c at =
      struck_here ds (record { process = d.process; segno = d.segno; word = Fault number } ∷ words) i c at

stays_kept : (changes : List Change) (first number : ℕ) (kept : List NumberAt) (p : ℕ) → numbers_of first kept p ≡ number
    → numbers_of first (kept_of_each changes number kept) p ≡ number
stays_kept [] first number kept p h = h
stays_kept (c ∷ cs) first number kept p h = stays_kept cs first number (record { process = c.process; number = number } ∷ kept) p
    (put_all (λ j (x : ℕ). numbers_of first kept j ≡ number → x ≡ number) (numbers_of first kept) c.process number
    (λ k. refl) (λ j ne k. k) p h)

kept_here : (changes : List Change) (first number : ℕ) (kept : List NumberAt) (i : ℕ) (c : Change)
    → slice_get changes i ≡ Some c → numbers_of first (kept_of_each changes number kept) c.process ≡ number
kept_here [] first number kept i c at = cc
kept_here (d ∷ ds) first number kept zero c at =
    stays_kept ds first number (record { process = d.process; number = number } ∷ kept) c.process
    (subst (λ (e : Change). numbers_of first (record { process = d.process; number = number } ∷ kept) e.process ≡ number)
    (same_change d c at) (put_here (numbers_of first kept) d.process number))
kept_here (d ∷ ds) first number kept (suc i) c at =
    kept_here ds first number (record { process = d.process; number = number } ∷ kept) i c at

pub strike_rest : {S : Type 0} (v : SuperView S) (c : Change) (cs : List Change) → MayStrikeAll (office_of v) (c ∷ cs)
    → MayStrikeAll (office_of (struck_view c.process c.segno v)) cs
strike_rest v c cs may i d at = let m = may (suc i) d at in
    record { low = m.low; high = m.high; number = m.number; pending = m.pending; changed = m.changed }

pub connect_rest : {S : Type 0} (v : SuperView S) (c : Change) (cs : List Change) → MayConnectAll (office_of v) (c ∷ cs)
    → MayConnectAll (office_of (connecting_view c.process v)) cs
connect_rest v c cs may i d at = let m = may (suc i) d at in
    record { low = m.low; high = m.high; pending = m.pending; segno = m.segno; changed = m.changed; struck = m.struck }

pub waits_from : {S : Type 0} (v : SuperView S) → IsWaiting v v
waits_from v = record { looks = v.looks; acknowledged = v.acknowledged; after = refl; kept = λ p h. h }

pub waits_on : {S : Type 0} (v u t : SuperView S) → IsWaiting v u → IsWaiting u t → IsWaiting v t
waits_on {S = S} v u t a b = record {
  looks = b.looks;
  acknowledged = b.acknowledged;
  after = b.after
      ∙ ap (λ (x : SuperView S). record x { looks = b.looks; acknowledged = b.acknowledged }) a.after;
  kept = λ p h. b.kept p (a.kept p h);
}

pub may_still : {S : Type 0} (v u : SuperView S) (p : ℕ) → IsWaiting v u → MayAcknowledge (office_of v) p
    → MayAcknowledge (office_of u) p
may_still {S = S} v u p w may = subst (λ (x : SuperView S). MayAcknowledge (office_of x) p) (sym w.after)
    (record { low = may.low; high = may.high; pending = may.pending; connected = may.connected })

pub left_all : {S : Type 0} (u t : SuperView S) (c : Change) (cs : List Change) → IsWaiting u t
    → IsTrue ((office_of u).acknowledged c.process) → AreAcknowledged (office_of t) cs
    → AreAcknowledged (office_of t) (c ∷ cs)
left_all {S = S} u t c cs w here rest zero d at =
    subst (λ (e : Change). IsTrue ((office_of t).acknowledged e.process)) (same_change c d at) (w.kept c.process here)
left_all u t c cs w here rest (suc i) d at = rest i d at

module _ {S : Type 0} (changes : List Change) (v : SuperView S) (may : MayStrikeAll (office_of v) changes)
    (listed : AreListed (office_of v) changes) where
  abbrev struck : SuperView S
  struck = struck_views changes v

  all_struck : (p n : ℕ) → Changes (office_of v) p n → (office_of struck).word p n ≡ Fault v.length
  all_struck p n h = let l = listed p n h in
      subst (λ (z : ℕ × ℕ). (office_of struck).word z.0 z.1 ≡ Fault v.length) (λ i. (l.process i, l.segno i))
      (struck_here v.start (base_of v.base) v.length changes v.words l.place l.change l.at)

  pub may_connect : MayConnectAll (office_of struck) changes
  may_connect i c at =
      let m = may i c at in record {
        low = m.low;
        high = m.high;
        pending = m.pending;
        segno = c.segno;
        changed = m.changed;
        struck = λ n h. all_struck c.process n h;
      }

  abbrev connected : SuperView S
  connected = connected_views changes struck

  pub may_acknowledge : MayAcknowledgeAll (office_of connected) changes
  may_acknowledge i c at =
      let m = may i c at in record {
        low = m.low;
        high = m.high;
        pending = m.pending;
        connected = kept_here changes v.start v.length v.connects i c at;
      }

  pub may_answer : (u : SuperView S) → v.answered < v.length → IsWaiting connected u
      → AreAcknowledged (office_of u) changes → MayAnswer (office_of u)
  may_answer u pending w left =
      let after : SuperView S = record connected { looks = w.looks; acknowledged = w.acknowledged } in
      let gone : AreAcknowledged (office_of after) changes =
      subst (λ (x : SuperView S). AreAcknowledged (office_of x) changes) w.after left in
      subst (λ (x : SuperView S). MayAnswer (office_of x)) (sym w.after) (record {
        pending = pending;
        struck = λ p n h. all_struck p n h;
        acknowledged = λ p n h. let l = listed p n h in
            subst (λ (q : ℕ). IsTrue ((office_of after).acknowledged q)) l.process (gone l.place l.change l.at);
      })

  pub revoked : (u : SuperView S) → IsWaiting connected u → answered_view u ≡ revoked_view changes v
  revoked u w = ap answered_view w.after
