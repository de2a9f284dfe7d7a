-- What the supervisor hears is so.
use Rattle.std.proofs.Common.{◌≡◌, ℕ, suc, ◌≤◌, List, [], ◌∷◌, ◌++◌, length, slice_get, refl, ap, ◌∙◌, subst, arith}
use Rattle.atomic_table.specs.Table.{keeps}
use Rattle.mx_core.specs.RightWords.{IsWord}
use Rattle.mx_core.specs.Words.{number_of}
use Rattle.mx_rule.specs.Layout.{content}
use Rattle.mx_rule.specs.Parts.{Count, number_in}
use Rattle.mx_core.specs.declared.elements.Kept.{Kept}
use Rattle.mx_rule.specs.Shown.{Pass, PassView, EntryView, Super, Office}
use Rattle.mx_rule.specs.Telling.{ListenAllowed, HearAllowed}
use Rattle.mx_rule.proofs.Moves.{view_set}
use Rattle.mx_rule.proofs.Words.{load_words}

-- what a history has, so has one that is longer
abbrev behind : {A : Type 0} → List A → ℕ → ℕ
behind [] i = i
behind (x ∷ later) i = suc (behind later i)

in_whole : {A : Type 0} (later front : List A) (i : ℕ) → slice_get (later ++ front) (behind later i) ≡ slice_get front i
in_whole [] front i = refl
in_whole (x ∷ later) front i = in_whole later front i

pub listen_allowed : (S : Type 0) → ListenAllowed S
listen_allowed S y v slots id s r len at lt =
    let w = r.world in
    let k = r.views id (Pass v) at in (
      Pass v,
      keeps,
      tt,
      record {
        world = w;
        seats = r.seats;
        layout = r.layout;
        good = r.good;
        marks = r.marks;
        plain = r.plain;
        words = load_words y w.processes w.numbers (content w) (content w) s.words (number_in y Count) r.words
            (λ z. refl);
        views = view_set _ s.views id (Pass v) k (λ j u n e. r.views j u e);
      },
      (
        refl,
        (
          λ i e is own.
              let f = k.4 in
              let there = r.marks (behind f.later i) e
              (ap (λ (h : List (EntryView S)). slice_get h (behind f.later i)) f.is
              ∙ in_whole f.later v.history i ∙ is) in
              subst (λ (t : List Kept). e.mark ≤ length t) (ap (λ (x : PassView S). x.trace) k.2.rest)
              (subst (λ (p : ℕ). e.mark ≤ length (w.trace p)) own there),
          k.5,
        ),
      ),
    )

pub hear_allowed : (S : Type 0) → HearAllowed S
hear_allowed S y v slots id s r len at lt =
    let w = r.world in
    let k = r.views id (Super v) at in
    let answered = ap (λ (x : Office). x.answered) k.1 in (
      Super v,
      keeps,
      tt,
      record {
        world = w;
        seats = r.seats;
        layout = r.layout;
        good = r.good;
        marks = r.marks;
        plain = r.plain;
        words = load_words y w.processes w.numbers (content w) (content w) s.words (number_in y Count) r.words
            (λ z. refl);
        views = view_set _ s.views id (Super v) k (λ j u n e. r.views j u e);
      },
      (
        refl,
        record {
          words = λ p n. subst (λ (x : Office). IsWord x.start x.answered x.length (λ q. x.table q p n) (x.told p n)
              (x.word p n)) k.1 (r.good.access.words p n);
          reports = λ i u e.
              let z = k.4 i u e in record {
                floor = (let a = (r.good.access.processes u.process).floor_high in let b = z.2 in omega arith);
                miss = subst (λ (x : Office). u.by ≤ number_of (x.word u.process u.segno)) k.1 z.3;
              };
        },
      ),
    )
