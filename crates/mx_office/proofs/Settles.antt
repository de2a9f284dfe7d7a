-- What is settled of one process leaves the rest to be settled, and is known settled with the last entry.
use Rattle.std.proofs.Common.{◌≡◌, ℕ, zero, suc, Bool, true, false, List, [], ◌∷◌, Some, slice_get, refl, ap, ◌∙◌, subst, arith, eq-eqb}
use Rattle.std.specs.Prelude.{◌==◌}
use Rattle.mx_core.specs.Put.{pick, put}
use Rattle.mx_core.proofs.Puts.{put_all, put_here}
use Rattle.mx_core.specs.declared.changes.Change.{Change}
use Rattle.mx_core.specs.declared.words.DescriptorWord.TheVariants.{Valid}
use Rattle.mx_rule.specs.Shown.{office_of, told_of}
use Rattle.mx_rule.specs.declared.layout.Layout.{Layout}
use Rattle.mx_rule.specs.declared.views.SuperView.{SuperView}
use Rattle.mx_rule.specs.declared.views.Told.{Told}
use Rattle.mx_rule.proofs.Words.{put_pair}
use Rattle.mx_office.specs.Settling.{AreStruckLast, ArePairsOnce, IsStruckLast, settled_told, settled_views}

pub once_rest : (c : Change) (cs : List Change) → ArePairsOnce (c ∷ cs) → ArePairsOnce cs
once_rest c cs once i j a b at at' e e' = let z = once (suc i) (suc j) a b at at' e e' in omega arith

still_put : (f : ℕ → ℕ → ℕ) (q m p n k : ℕ) → f p n ≡ k → put f q (put (f q) m k) p n ≡ k
still_put f q m p n k h = put_all (λ j (g : ℕ → ℕ). f j n ≡ k → g n ≡ k) f q (put (f q) m k)
    (put_all (λ i (x : ℕ). f q i ≡ k → x ≡ k) (f q) m k (λ e. refl) (λ i ne e. e) n) (λ j ne e. e) p h

same_change : (a b : Change) → Some a ≡ Some b → a ≡ b
same_change a b e = cc

-- another pair may still be settled
module _ {S : Type 0} (y : Layout) where
  other_by : (test : Bool) (v : SuperView S) (c d : Change) → (d.process ≡ c.process → d.segno ≡ c.segno → ⊥)
      → IsStruckLast y v d → IsStruckLast y (record v {
        words = pick test (record {
          process = c.process;
          segno = c.segno;
          word = Valid v.length ((office_of v).table v.length c.process c.segno);
        } ∷ v.words) v.words;
        told = pick test (record { process = c.process; segno = c.segno; number = v.length } ∷ v.told) v.told;
      }) d
  other_by true v c d apart m = record {
    pair = m.pair;
    may = record {
      low = m.may.low;
      high = m.may.high;
      number = m.may.number;
      rest = m.may.rest;
      fault = put_pair (office_of v).word c.process c.segno
          (Valid v.length ((office_of v).table v.length c.process c.segno)) d.process d.segno apart ∙ m.may.fault;
    };
  }
  other_by false v c d apart m = record {
    pair = m.pair;
    may = record {
      low = m.may.low;
      high = m.may.high;
      number = m.may.number;
      rest = m.may.rest;
      fault = m.may.fault;
    };
  }

  pub settle_rest : (v : SuperView S) (p : ℕ) (c : Change) (cs : List Change) → AreStruckLast y v p (c ∷ cs)
      → ArePairsOnce (c ∷ cs) → AreStruckLast y (settled_views p (c ∷ []) v) p cs
  settle_rest v p c cs may once i d at own = other_by (c.process == p) v c d
      (λ e e'. (let z = once (suc i) 0 d c at refl e e' in absurd (omega arith))) (may (suc i) d at own)

-- what is settled with a number is known settled with it
module _ (start number : ℕ) where
  keeps_by : (test : Bool) (told : List Told) (c : Change) (p n : ℕ) → told_of start told p n ≡ number
      → told_of start (pick test (record { process = c.process; segno = c.segno; number = number } ∷ told) told) p n
      ≡ number
  keeps_by true told c p n h = still_put (told_of start told) c.process c.segno p n number h
  keeps_by false told c p n h = h

  keeps : (q : ℕ) (changes : List Change) (told : List Told) (p n : ℕ) → told_of start told p n ≡ number
      → told_of start (settled_told q changes number told) p n ≡ number
  keeps q [] told p n h = h
  keeps q (c ∷ cs) told p n h = keeps q cs
      (pick (c.process == q) (record { process = c.process; segno = c.segno; number = number } ∷ told) told) p n
      (keeps_by (c.process == q) told c p n h)

  told_by : (test : Bool) (told : List Told) (c : Change) → test ≡ true
      → told_of start (pick test (record { process = c.process; segno = c.segno; number = number } ∷ told) told)
      c.process c.segno ≡ number
  told_by true told c e = let f = told_of start told in
      ap (λ (g : ℕ → ℕ). g c.segno) (put_here f c.process (put (f c.process) c.segno number))
      ∙ put_here (f c.process) c.segno number
  told_by false told c e = cc

  pub settled_here : (p : ℕ) (changes : List Change) (told : List Told) (i : ℕ) (c : Change)
      → slice_get changes i ≡ Some c → c.process ≡ p
      → told_of start (settled_told p changes number told) c.process c.segno ≡ number
  settled_here p [] told i c at own = cc
  settled_here p (d ∷ ds) told zero c at own =
      let now = pick (d.process == p) (record { process = d.process; segno = d.segno; number = number } ∷ told) told in
      subst (λ (e : Change). told_of start (settled_told p ds number now) e.process e.segno ≡ number)
      (same_change d c at) (keeps p ds now d.process d.segno
      (told_by (d.process == p) told d (eq-eqb d.process p (ap (λ (e : Change). e.process) (same_change d c at) ∙ own))))
  settled_here p (d ∷ ds) told (suc i) c at own = settled_here p ds
      (pick (d.process == p) (record { process = d.process; segno = d.segno; number = number } ∷ told) told) i c at own
