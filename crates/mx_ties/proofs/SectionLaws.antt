-- What a number of a process stands for while a journal goes on: entries of others leave its linkage sections, and a
-- number that becomes one stood for nothing.
use Rattle.std.proofs.Common.{◌≡◌, ◌≢◌, inl, inr, ℕ, zero, suc, ◌+◌, ◌<◌, ◌≤◌, List, [], ◌∷◌, length, take, ap, sym, ◌∙◌, subst, Option, Some, None, refl, arith}
use Rattle.std.specs.List.{slice_get}
use Rattle.std.proofs.lemmas.Bool.{cases_eq}
use Rattle.mx_sdw.specs.Descriptors.{Descriptor, unknown_desc}
use Rattle.mx_sdw.specs.declared.descriptors.DescKind.TheVariants.{Unknown, Segment}
use Rattle.mx_kst.specs.declared.lots.Lot.{Lot}
use Rattle.mx_kst.specs.declared.lots.Lot.TheVariants.{Free}
use Rattle.mx_state.specs.declared.journal.Entry as journaled
use Rattle.mx_state.specs.declared.states.ProcessState.{ProcessState}
use Rattle.mx_state.specs.History.{replay, IsRight}
use Rattle.mx_state.specs.Plain.{Plain}
use Rattle.mx_state.specs.Requests.{plain}
use Rattle.mx_state.specs.Table.{descriptor, process_desc, standing_desc}
use Rattle.mx_state.specs.Told.{IsSection, lot_by, lot_in}
use Rattle.mx_state.proofs.ComingLaws.{section_comes_law}
use Rattle.mx_state.proofs.ToldLaws.{others_law, section_desc_law, sections_stay_law}
use Rattle.mx_ties.proofs.JournalLists.{there}

-- one entry more
pub next_state : (s : Plain) (journal : List journaled.Entry) (i : ℕ) (entry : journaled.Entry)
    → slice_get journal i ≡ Some entry
    → replay s (take (suc i) journal)
    ≡ (plain (replay s (take i journal)) entry.process entry.ring entry.request).state
next_state s [] i entry h = cc
next_state s (first ∷ journal) zero entry h =
    let same : first ≡ entry = cc in
    ap (λ (e : journaled.Entry). (plain s e.process e.ring e.request).state) same
next_state s (first ∷ journal) (suc i) entry h =
    next_state (plain s first.process first.ring first.request).state journal i entry h

pub right_reply : (s : Plain) (journal : List journaled.Entry) (i : ℕ) (entry : journaled.Entry) → IsRight s journal
    → slice_get journal i ≡ Some entry
    → (plain (replay s (take i journal)) entry.process entry.ring entry.request).reply ≡ entry.reply
right_reply s [] i entry right h = cc
right_reply s (first ∷ journal) zero entry right h =
    let same : first ≡ entry = cc in
    subst (λ (e : journaled.Entry). (plain s e.process e.ring e.request).reply ≡ e.reply) same right.0.reply
right_reply s (first ∷ journal) (suc i) entry right h =
    right_reply (plain s first.process first.ring first.request).state journal i entry right.1 h

-- a number that stands for nothing is unknown, and a section is not
free_desc : (s : Plain) (p segno : ℕ) (o : Option ProcessState) → lot_by o segno ≡ Free
    → process_desc s.hierarchy p o segno ≡ unknown_desc
free_desc s p segno None e = refl
free_desc s p segno (Some process) e = ap (standing_desc s.hierarchy p process) e

nothing_is : (words : ℕ) → IsSection Free words → ⊥
nothing_is words is = let none = is.is in cc

module _ (s : Plain) (journal : List journaled.Entry) (p segno : ℕ) where
  abbrev pub state : ℕ → Plain
  state q = replay s (take q journal)

  abbrev pub lot : ℕ → Lot
  lot q = lot_in (state q) p segno

  -- entries of others leave what the number stands for
  pub lot_kept : (i : ℕ) (entry : journaled.Entry) → slice_get journal i ≡ Some entry → entry.process ≢ p
      → lot (suc i) ≡ lot i
  lot_kept i entry h apart =
      ap (λ (t : Plain). lot_in t p segno) (next_state s journal i entry h)
      ∙ ap (λ (o : Option ProcessState). lot_by o segno)
      (others_law (state i) p entry.process entry.ring entry.request apart)

  pub lot_stays : (k d : ℕ)
      → ((i : ℕ) (entry : journaled.Entry) → k ≤ i → i < k + d → slice_get journal i ≡ Some entry → entry.process ≢ p)
      → k + d ≤ length journal → lot (k + d) ≡ lot k
  lot_stays k zero others within = ap lot (let same : k + 0 ≡ k = omega arith in same)
  lot_stays k (suc d) others within =
      let t = there journal (k + d) (omega arith) in
      ap lot (let same : k + suc d ≡ suc (k + d) = omega arith in same)
      ∙ lot_kept (k + d) t.0 t.1 (others (k + d) t.0 (omega arith) (omega arith) t.1)
      ∙ lot_stays k d (λ i entry low high h. others i entry low (omega arith) h) (omega arith)

  -- and so the descriptor of a section
  pub section_kept : (i words : ℕ) (entry : journaled.Entry) → slice_get journal i ≡ Some entry → entry.process ≢ p
      → IsSection (lot i) words → descriptor (state (suc i)) p segno ≡ descriptor (state i) p segno
  section_kept i words entry h apart is =
      ap (λ (t : Plain). descriptor t p segno) (next_state s journal i entry h)
      ∙ sections_stay_law (state i) p entry.process entry.ring segno entry.request apart
      (record { words = words; section = is })

  pub differs : (q r words : ℕ) → lot q ≡ Free → IsSection (lot r) words
      → descriptor (state r) p segno ≡ descriptor (state q) p segno → ⊥
  differs q r words free is same =
      let d = section_desc_law (state r) p segno words is in
      kinds (ap (λ (k : Descriptor). k.kind)
      (sym d.2 ∙ same ∙ free_desc (state q) p segno _ free))
    where
      kinds : Segment ≡ Unknown → ⊥
      kinds e = cc

  -- where it is none it becomes one by an own entry alone, which changes the descriptor
  pub none_comes : (k d : ℕ)
      → ((i : ℕ) (entry : journaled.Entry) → k ≤ i → i < k + d → slice_get journal i ≡ Some entry → entry.process ≡ p
      → descriptor (state (suc i)) p segno ≢ descriptor (state i) p segno → ⊥)
      → ((words : ℕ) → IsSection (lot k) words → ⊥) → k + d ≤ length journal
      → (words : ℕ) → IsSection (lot (k + d)) words → ⊥
  none_comes k zero never none within words is =
      none words (subst (λ (q : ℕ). IsSection (lot q) words) (let at : k + 0 ≡ k = omega arith in at) is)
  none_comes k (suc d) never none within words is =
      let t = there journal (k + d) (omega arith) in
      let here : IsSection (lot (suc (k + d))) words =
      subst (λ (q : ℕ). IsSection (lot q) words) (let at : k + suc d ≡ suc (k + d) = omega arith in at) is in
      elim (section_comes_law (state (k + d)) p t.0.process t.0.ring segno words t.0.request
      (subst (λ (u : Plain). IsSection (lot_in u p segno) words) (next_state s journal (k + d) t.0 t.1) here)) [
        | inl old ↦ none_comes k d (λ i entry low high h own. never i entry low (omega arith) h own) none (omega arith)
            words old
        | inr new ↦ elim (cases_eq t.0.process p) [
          | inl own ↦ never (k + d) t.0 (omega arith) (omega arith) t.1 own
              (λ same. differs (k + d) (suc (k + d)) words new.0 here same)
          | inr apart ↦ nothing_is words
              (subst (λ (l : Lot). IsSection l words) (lot_kept (k + d) t.0 t.1 apart ∙ new.0) here)
        ]
      ]
