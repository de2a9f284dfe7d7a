-- What the invariant says of the end of the history.
use Rattle.std.proofs.Common.{◌≡◌, ◌≢◌, inl, inr, ℕ, refl, ap, sym, ◌∙◌, subst, arith}
use Rattle.std.specs.Prelude.{IsTrue, not, ◌||◌, ◌==◌}
use Rattle.std.proofs.lemmas.Bool.{cases_lt, and_from, or_left, eq-eqb}
use Rattle.mx_reads.specs.Sightings.{HasStored}
use Rattle.mx_core.specs.Deeds.{deeds}
use Rattle.mx_core.specs.RightWords.{IsValid, IsFault, IsWord}
use Rattle.mx_core.specs.Laws.{SentencesLaw}
use Rattle.mx_core.specs.Notions.{IsChanged}
use Rattle.mx_core.specs.Pages.{page_of, use_at}
use Rattle.mx_core.specs.Sentences.{in_use}
use Rattle.mx_core.specs.World.{World}
use Rattle.mx_core.proofs.Descriptors.{same_descriptor}

unchanged : (w : World) (p n : ℕ) → (IsChanged w p n → ⊥) → w.table w.length p n ≡ w.table w.answered p n
unchanged w p n still = elim (same_descriptor (w.table w.length p n) (w.table w.answered p n))
    [ inl same ↦ same | inr changed ↦ absurd (still changed) ]

pub sentences_law : SentencesLaw
sentences_law w g = record {
  valid = λ p n k d e still.
      let v : IsValid w.start w.answered (λ q. w.table q p n) (w.told p n) k d =
      subst (IsWord w.start w.answered w.length (λ q. w.table q p n) (w.told p n)) e (g.access.words p n) in
      let high = v.high in unchanged w p n still ∙ v.stands w.answered high (omega arith);
  fault = λ p n k e either. elim either [
    | inr last ↦ ap (λ (q : ℕ). w.table q p n) (sym last)
    | inl still ↦
        let v : IsFault w.start w.answered w.length (λ q. w.table q p n) (w.told p n) k =
        subst (IsWord w.start w.answered w.length (λ q. w.table q p n) (w.told p n)) e (g.access.words p n) in
        let high = v.high in
        let next = g.access.length_high in
        elim (cases_lt w.answered k) [
          | inr old ↦ unchanged w p n still ∙ v.stands w.answered old (omega arith)
          | inl new ↦ let last : k ≡ w.length = omega arith in ap (λ (q : ℕ). w.table q p n) (sym last)
        ]
  ];
  kept = λ p u current keeps known.
      let t = (g.access.processes p).triples current u keeps in
      let high = t.high in
      let floor = (g.access.processes p).floor_high in
      elim (same_descriptor (w.table w.length p u.segno) (w.table w.answered p u.segno)) [
        | inl same ↦ same ∙ t.stands w.answered (omega arith) (omega arith)
        | inr changed ↦ t.now (known changed)
      ];
  pending = λ p a. ((g.access.processes p).acknowledged a).0;
  struck = λ p n a changed. let b = (g.access.processes p).acknowledged a in
      ((g.access.processes p).cut b.0 b.1).struck n changed;
  stored = stood;
  read = λ p i c value writer stamp point at some ready none.
      let from = ((g.reads.right (record {
        process = p;
        place = i;
        cell = in_use w c;
        value = value;
        writer = writer;
        stamp = stamp;
        point = point;
      }) at).such some).stored in
      stood writer (g.reads.source p i) c value stamp from ready none;
}
  where
    -- a cell that can be read in its present use, where somebody stored, has a writer
    stood : (p i c value point : ℕ) → HasStored (deeds w) p i (in_use w c) value point → IsTrue (w.ready (page_of c))
        → (w.cell c).writer ≢ 0
    stood p i c value point stored ready none =
        (g.reads.held (in_use w c)
        (and_from (use_at w.start w.given (page_of c) w.length == use_at w.start w.given (page_of c) w.length)
        (w.ready (page_of c) || not ((w.cell c).writer == 0))
        (eq-eqb (use_at w.start w.given (page_of c) w.length) (use_at w.start w.given (page_of c) w.length) refl)
        (or_left (w.ready (page_of c)) (not ((w.cell c).writer == 0)) ready))).unwritten none p i value point stored
