-- What the judging steps leave of a process's columns, by the word that it found.
use Rattle.std.proofs.Common.{◌≡◌, ℕ, ◌<◌, ◌≤◌, true, false, List, refl, ap, sym, ◌∙◌, subst, Option, Some, None, rules}
use Rattle.std.specs.Prelude.{nat_le, nat_lt}
use Rattle.mx_sdw.specs.Descriptors.{Descriptor}
use Rattle.mx_core.specs.Judging.{at_once}
use Rattle.mx_core.specs.Put.{pick}
use Rattle.mx_worlds.specs.Seating.{judged_by, judged_columns, with_memory, remembering_columns, missed_columns, found_word, loaded_by, loaded_columns}
use Rattle.mx_worlds.specs.Shows.{Columns, ShowsSeat}
use Rattle.mx_core.specs.declared.words.DescriptorWord.TheVariants.{Valid}
use Rattle.mx_core.specs.declared.words.Triple.{Triple}
use Rattle.mx_core.specs.declared.words.Asked.{Asked}
use Rattle.mx_core.specs.declared.elements.Outcome.{Outcome}
use Rattle.mx_worlds.specs.declared.seats.Seat.{Seat}
use Rattle.mx_core.proofs.Puts.{pick_true, pick_false}

apart : (c : Columns) (u : Triple) (a : Asked) (memory : List Triple) (x : Option Outcome)
    → with_memory (judged_by c u a x) memory ≡ judged_by (with_memory c memory) u a x
apart c u a memory None = refl
apart c u a memory (Some o) = refl

-- a judgement with the memory replaced after it
pub remembered_shown : (n : ℕ) (s : Seat) (c : Columns) (u : Triple) (a : Asked) (memory : List Triple)
    → ShowsSeat n s (with_memory (judged_columns c u a) memory)
    → ShowsSeat n s (judged_columns (with_memory c memory) u a)
remembered_shown n s c u a memory shows = subst (ShowsSeat n s) (apart c u a memory (at_once u.desc a)) shows

at_most : (a b : ℕ) → a ≤ b → nat_le a b ≡ true
at_most a b l = search rules

above : (a b : ℕ) → b < a → nat_le a b ≡ false
above a b l = search rules

below : (a b : ℕ) → a < b → nat_lt a b ≡ true
below a b l = search rules

beyond : (a b : ℕ) → b ≤ a → nat_lt a b ≡ false
beyond a b l = search rules

module _ (n start : ℕ) (c : Columns) (segno : ℕ) (a : Asked) (number : ℕ) (desc : Descriptor)
    (found : Valid number desc ≡ found_word n start c segno) where
  abbrev triple : Triple
  triple = record { segno = segno; number = number; desc = desc }

  pub loaded_missed : c.process.floor < number → missed_columns c segno number ≡ loaded_columns n start c segno a
  loaded_missed over =
      sym (pick_false (nat_le number c.process.floor)
      (judged_columns (pick (nat_lt segno n) (remembering_columns c triple) c) triple a) (missed_columns c segno number)
      (above number c.process.floor over))
      ∙ ap (loaded_by n c segno a) found

  pub loaded_remembered : number ≤ c.process.floor → segno < n
      → judged_columns (remembering_columns c triple) triple a ≡ loaded_columns n start c segno a
  loaded_remembered told known =
      sym (pick_true (nat_le number c.process.floor)
      (judged_columns (pick (nat_lt segno n) (remembering_columns c triple) c) triple a) (missed_columns c segno number)
      (at_most number c.process.floor told)
      ∙ ap (λ (k : Columns). judged_columns k triple a)
      (pick_true (nat_lt segno n) (remembering_columns c triple) c (below segno n known)))
      ∙ ap (loaded_by n c segno a) found

  pub loaded_unknown : number ≤ c.process.floor → n ≤ segno
      → judged_columns c triple a ≡ loaded_columns n start c segno a
  loaded_unknown told unknown =
      sym (pick_true (nat_le number c.process.floor)
      (judged_columns (pick (nat_lt segno n) (remembering_columns c triple) c) triple a) (missed_columns c segno number)
      (at_most number c.process.floor told)
      ∙ ap (λ (k : Columns). judged_columns k triple a)
      (pick_false (nat_lt segno n) (remembering_columns c triple) c (beyond segno n unknown)))
      ∙ ap (loaded_by n c segno a) found
