-- How the shared words follow a step.
use Rattle.std.proofs.Common.{◌≡◌, ◌≢◌, ℕ, ◌<◌, List, get_or, set, sym, refl, ap, ◌∙◌, subst, length-set, get_or-set_other, get_or-set_same, slice_index}
use mathlib.Core.Logic.{dite}
use native.Mathlib.Decide.{ℕ_discrete}
use lib.Seq.{set-get_or}
use Rattle.mx_core.specs.Put.{put}
use Rattle.mx_core.specs.Notions.{with_process}
use Rattle.mx_core.specs.World.{Process, World}
use Rattle.mx_core.proofs.Puts.{put_all, put_else}
use Rattle.mx_rule.specs.Layout.{IsLayout, Layout, ShowsWords, content}
use Rattle.mx_rule.proofs.PartLaws.{numbers_apart}
use Rattle.mx_rule.specs.Parts.{Answered, CellAt, ConnectWord, Count, DescriptorAt, Flag, IsPart, Part, number_in}

-- one word is written
pub set_words : (y : Layout) (processes numbers : ℕ) (f g : Part → ℕ) (words : List ℕ) (x : Part) (n : ℕ)
    → IsLayout y processes numbers → IsPart processes numbers x
    → ShowsWords y processes numbers f words → n ≡ g x → ((z : Part) → z ≢ x → g z ≡ f z)
    → ShowsWords y processes numbers g (set words (number_in y x) n)
set_words y processes numbers f g words x n lay is s here others = record {
  wide = λ z part. subst (λ (k : ℕ). number_in y z < k) (sym (length-set words (number_in y x) n)) (s.wide z part);
  each = λ z part. dite (ℕ_discrete (number_in y z) (number_in y x))
      (λ e. at z part (numbers_apart y processes numbers lay z x part is e))
      (λ ne. get_or-set_other words (number_in y x) (number_in y z) n 0 ne ∙ s.each z part
      ∙ sym (others z (λ e. ne (ap (number_in y) e))));
}
  where
    at : (z : Part) → IsPart processes numbers z → z ≡ x → get_or (set words (number_in y x) n) (number_in y z) 0 ≡ g z
    at z part e = subst (λ (t : Part). get_or (set words (number_in y x) n) (number_in y t) 0 ≡ g t) (sym e)
        (get_or-set_same words (number_in y x) n 0 (s.wide x is) ∙ here)

-- a word is read
pub load_words : (y : Layout) (processes numbers : ℕ) (f g : Part → ℕ) (words : List ℕ) (i : ℕ)
    → ShowsWords y processes numbers f words
    → ((z : Part) → g z ≡ f z) → ShowsWords y processes numbers g (set words i (slice_index words i))
load_words y processes numbers f g words i s same =
    subst (ShowsWords y processes numbers g) (sym (set-get_or words i 0)) (record {
      wide = s.wide;
      each = λ z part. s.each z part ∙ sym (same z);
    })

-- a process step leaves all words but its flag
pub but_flag : (y : Layout) (w : World) (p : ℕ) (o : Process) → o.connect ≡ (w.process p).connect
    → (z : Part) → z ≢ Flag p → content (with_process w p o) z ≡ content w z
but_flag y w p o same Count n = refl
but_flag y w p o same Answered n = refl
but_flag y w p o same (Flag q) n = ap (λ (x : Process). x.flag) (put_else w.process p o q (λ e. n (ap Flag e)))
but_flag y w p o same (ConnectWord q) n = put_all
    (λ j (x : Process). x.connect ≡ (w.process j).connect) w.process p o same (λ j m. refl) q
but_flag y w p o same (DescriptorAt q m) n = refl
but_flag y w p o same (CellAt c) n = refl

pub all_words : (y : Layout) (w : World) (p : ℕ) (o : Process) → o.connect ≡ (w.process p).connect → o.flag
    ≡ (w.process p).flag
    → (z : Part) → content (with_process w p o) z ≡ content w z
all_words y w p o same flag Count = refl
all_words y w p o same flag Answered = refl
all_words y w p o same flag (Flag q) = put_all (λ j (x : Process). x.flag ≡ (w.process j).flag) w.process p o flag
    (λ j m. refl) q
all_words y w p o same flag (ConnectWord q) = put_all
    (λ j (x : Process). x.connect ≡ (w.process j).connect) w.process p o same (λ j m. refl) q
all_words y w p o same flag (DescriptorAt q m) = refl
all_words y w p o same flag (CellAt c) = refl

pub put_pair : {A : Type 0} (f : ℕ → ℕ → A) (p n : ℕ) (a : A) (q m : ℕ) → (q ≡ p → m ≢ n)
    → put f p (put (f p) n a) q m ≡ f q m
put_pair f p n a q m apart = put_all (λ j (g : ℕ → _). (j ≡ p → m ≢ n) → g m ≡ f j m) f p (put (f p) n a)
    (λ h. put_else (f p) n a m (h refl)) (λ j ne h. refl) q apart
