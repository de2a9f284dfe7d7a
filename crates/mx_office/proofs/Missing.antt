-- The word that a process missed is settled, and the process knows it.
use Rattle.std.proofs.Common.{◌≡◌, ◌≢◌, inl, inr, ℕ, suc, ◌+◌, ◌<◌, ◌≤◌, Bool, true, false, List, [], ◌∷◌, ◌++◌, length, take, refl, sym, ap, ◌∙◌, subst, arith}
use Rattle.std.proofs.lemmas.Bool.{cases_lt}
use Rattle.mx_core.proofs.Puts.{put_here}
use Rattle.mx_core.specs.Put.{put}
use Rattle.mx_core.specs.RightWords.{IsAltered, IsWord}
use Rattle.mx_core.specs.Words.{number_of}
use Rattle.mx_core.specs.declared.elements.Kept.{Kept}
use Rattle.mx_core.specs.declared.elements.Kept.TheVariants.{Judged, Missed}
use Rattle.mx_core.specs.declared.words.DescriptorWord.{DescriptorWord}
use Rattle.mx_core.specs.declared.words.DescriptorWord.TheVariants.{Fault, Valid}
use Rattle.mx_desc.specs.Passes.{PassValue}
use Rattle.mx_desc.specs.Slots.{is_fault}
use Rattle.mx_request.specs.Versions.{last_number}
use Rattle.mx_rule.specs.Notes.{last_miss}
use Rattle.mx_rule.specs.Shown.{office_of}
use Rattle.mx_rule.specs.Striking.{settled_view}
use Rattle.mx_rule.specs.Telling.{AreRightWords}
use Rattle.mx_rule.specs.declared.layout.Layout.{Layout}
use Rattle.mx_rule.specs.declared.views.ReportView.{ReportView}
use Rattle.mx_rule.specs.declared.views.SuperView.{SuperView}
use Rattle.mx_rule.specs.declared.views.Told.{Told}
use Rattle.mx_rule.specs.declared.views.WordAt.{WordAt}
use Rattle.mx_script.specs.Sessions.{Outline}
use Rattle.mx_sdw.specs.Descriptors.{Descriptor, unknown_desc}
use Rattle.mx_state.proofs.NumberedLaws.{unknown_law}
use Rattle.mx_state.specs.declared.journal.Entry as journaled
use Rattle.mx_sup.specs.Supervised.{Supervised}
use Rattle.mx_office.specs.Locked.{IsLocked}
use Rattle.mx_office.specs.Serving.{HasGrown, HasSettled, told_to}
use Rattle.mx_office.specs.Settling.{mended_by, mended_view}

-- a trace's last event, where that is a miss
pub last_is : (front : List Kept) (n by : ℕ) → last_miss (front ++ Missed n by ∷ []) ≡ (n, by)
last_is [] n by = refl
last_is (Missed m k ∷ []) n by = refl
last_is (Judged e op d ∷ []) n by = refl
last_is (Missed m k ∷ next ∷ rest) n by = last_is (next ∷ rest) n by
last_is (Judged e op d ∷ next ∷ rest) n by = last_is (next ∷ rest) n by

-- a word that is no fault has the number that is known settled
valid_is : (start answered long : ℕ) (h : ℕ → Descriptor) (told : ℕ) (w : DescriptorWord) → IsWord start answered long h told w
    → is_fault w ≡ false → (told ≡ number_of w) × (number_of w ≤ answered)
valid_is start answered long h told (Valid k d) is none = (is.known, is.high)
valid_is start answered long h told (Fault k) is none = cc

no_fault : (start answered long : ℕ) (h : ℕ → Descriptor) (told : ℕ) (w : DescriptorWord) → IsWord start answered long h told w
    → ((k : ℕ) → start < k → k ≤ long → IsAltered h k → ⊥) → is_fault w ≡ false
no_fault start answered long h told (Valid k d) is none = refl
no_fault start answered long h told (Fault k) is none = absurd (none k is.low is.high is.altered)

-- a fault is settled
pub mend : {E : Type 0} (w : DescriptorWord) (p n : ℕ) (u v : SuperView E) → is_fault w ≡ true
    → ((number : ℕ) → w ≡ Fault number → u ≡ settled_view p n number v) → u ≡ mended_by w p n v
mend (Fault number) p n u v is then = then number refl
mend (Valid number desc) p n u v is then = cc

pub mend_none : {E : Type 0} (w : DescriptorWord) (p n : ℕ) (v : SuperView E) → is_fault w ≡ false → v ≡ mended_by w p n v
mend_none (Fault number) p n v is = cc
mend_none (Valid number desc) p n v is = refl

mended_here : {E : Type 0} (w : DescriptorWord) (p n : ℕ) (v : SuperView E) → (office_of v).word p n ≡ w
    → is_fault ((office_of (mended_by w p n v)).word p n) ≡ false
mended_here (Fault k) p n v is =
    let f = (office_of v).word in
    let d : DescriptorWord = Valid k ((office_of v).table v.length p n) in
    ap is_fault (ap (λ (g : ℕ → DescriptorWord). g n) (put_here f p (put (f p) n d)) ∙ put_here (f p) n d)
mended_here (Valid k d) p n v is = ap is_fault is

-- what it leaves
record IsMended {E : Type 0} (v u : SuperView E) : Type 0 where
  words : List WordAt
  told : List Told
  is : u ≡ record v { words = words; told = told }

mended_as : {E : Type 0} (w : DescriptorWord) (p n : ℕ) (v : SuperView E) → IsMended v (mended_by w p n v)
mended_as (Fault k) p n v = let u = settled_view p n k v in record { words = u.words; told = u.told; is = refl }
mended_as (Valid k d) p n v = record { words = v.words; told = v.told; is = refl }

locked_told : (x : Outline) (setup : List journaled.Entry) (y : Layout) (s : Supervised)
    (v : SuperView journaled.Entry) (total : ℕ) (words : List WordAt) (told : List Told) (reported : List ReportView) (made : ℕ)
    → IsLocked x setup y s v total
    → AreRightWords (office_of (record v { words = words; told = told; reported = reported; made = made }))
    → IsLocked x setup y s (record v { words = words; told = told; reported = reported; made = made }) total
locked_told x setup y s v total words told reported made l right = record {
  session = l.session;
  history = l.history;
  opened = l.opened;
  laid = l.laid;
  rest = l.rest;
  journal = l.journal;
  start = l.start;
  makers = l.makers;
  tables = l.tables;
  admissible = l.admissible;
  words = right;
  pages = record { clean = l.pages.clean; ready = l.pages.ready; given = l.pages.given };
  counted = l.counted;
  dealt = l.dealt;
  out = l.out;
}

module _ (x : Outline) (setup : List journaled.Entry) (y : Layout) (s : Supervised) (v : SuperView journaled.Entry)
    (total p n : ℕ) where
  -- no entry changes what no process can have
  fixed : IsLocked x setup y s v total → y.numbers ≤ n → (k : ℕ) → v.start < k → k ≤ v.length
      → IsAltered (λ q. (office_of v).table q p n) k → ⊥
  fixed l beyond k low high altered =
      let number = l.laid.numbers in
      let next = altered.next in
      altered.differs (unknown k (omega arith) high ∙ sym (unknown altered.before (omega arith) (omega arith)))
    where
      unknown : (q : ℕ) → v.start ≤ q → q ≤ v.length → (office_of v).table q p n ≡ unknown_desc
      unknown q from to = l.tables q p n from to
          ∙ unknown_law x.version x.principals (take q s.journal) p n (let a = l.laid.numbers in omega arith)

module _ (x : Outline) (setup : List journaled.Entry) (y : Layout) (s : Supervised) (v u w : SuperView journaled.Entry)
    (total p n : ℕ) (l : IsLocked x setup y s v total) (within : n < y.numbers → u ≡ mended_view p n v)
    (beyond : y.numbers ≤ n → u ≡ v) (reported : List ReportView) (made : ℕ)
    (is : w ≡ record u { reported = reported; made = made }) (right : AreRightWords (office_of w)) where
  mended : IsMended v u
  mended = elim (cases_lt n y.numbers) [
    | inl low ↦ subst (IsMended v) (sym (within low)) (mended_as ((office_of v).word p n) p n v)
    | inr high ↦ record { words = v.words; told = v.told; is = beyond high }
  ]

  whole : w ≡ record v { words = mended.words; told = mended.told; reported = reported; made = made }
  whole = is ∙ ap (λ (z : SuperView journaled.Entry). record z { reported = reported; made = made }) mended.is

  -- what the office keeps holds again
  pub locked_mended : IsLocked x setup y s w total
  locked_mended = subst (λ (z : SuperView journaled.Entry). IsLocked x setup y s z total) (sym whole)
      (locked_told x setup y s v total mended.words mended.told reported made l
      (subst (λ (z : SuperView journaled.Entry). AreRightWords (office_of z)) whole right))

  whole_here : is_fault ((office_of w).word p n) ≡ false
  whole_here = elim (cases_lt n y.numbers) [
    | inl low ↦ ap (λ (z : SuperView journaled.Entry). is_fault ((office_of z).word p n))
        (is ∙ ap (λ (z : SuperView journaled.Entry). record z { reported = reported; made = made }) (within low))
        ∙ mended_here ((office_of v).word p n) p n v refl
    | inr high ↦ no_fault w.start w.answered w.length (λ q. (office_of w).table q p n) ((office_of w).told p n)
        ((office_of w).word p n) (right p n) (fixed x setup y s w total p n locked_mended (omega arith))
  ]

  -- and the process knows what it missed
  pub settled_by : (o o' : PassValue journaled.Entry) → HasGrown o o' → o'.amount ≡ o.amount → o.view.process ≡ p
      → ((m : ℕ) → (office_of w).told o.view.process m ≤ told_to o' m) → w.answered ≤ o'.view.floor
      → (last_miss o.view.trace).1 ≤ number_of ((office_of w).word o.view.process (last_miss o.view.trace).0)
      → HasSettled n o o'
  settled_by o o' grown amount own told answered miss = record {
    grown = grown;
    floor = λ front by trace. (let a = least front by trace in let b = known.1 in omega arith);
    told = λ front by trace. (let a = least front by trace in let b = known.0 in
        let c = subst (λ (q : ℕ). (office_of w).told q n ≤ told_to o' n) own (told n) in omega arith);
    amount = amount;
  }
    where
      known : ((office_of w).told p n ≡ number_of ((office_of w).word p n)) × (number_of ((office_of w).word p n) ≤ w.answered)
      known = valid_is w.start w.answered w.length (λ q. (office_of w).table q p n) ((office_of w).told p n)
          ((office_of w).word p n) (right p n) whole_here

      least : (front : List Kept) (by : ℕ) → o.view.trace ≡ front ++ Missed n by ∷ [] → by ≤ number_of ((office_of w).word p n)
      least front by trace = subst (λ (z : ℕ × (ℕ × ℕ)). z.1.1 ≤ number_of ((office_of w).word z.0 z.1.0))
          (λ i. (own i, (ap last_miss trace ∙ last_is front n by) i)) miss
