-- What was kept stays right, and what is kept anew is.
use Rattle.std.proofs.Common.{◌≡◌, inl, inr, ℕ, ◌≤◌, List, [], ◌∷◌, ◌++◌, length, sym, ◌∙◌, subst, arith}
use Rattle.std.proofs.lemmas.Option.{slice_get_within}
use Rattle.mx_sdw.specs.Descriptors.{Descriptor}
use Rattle.mx_sdw.specs.declared.operations.Op.{Op}
use Rattle.mx_reads.proofs.Places.{place_found}
use Rattle.mx_core.specs.Traces.{IsRightElement, IsRightMiss, IsAfter, IsGoodTrace}
use Rattle.mx_core.specs.Words.{DescriptorWord, number_of}
use Rattle.mx_core.specs.World.{Kept, Judged, Missed}
use Rattle.mx_core.specs.declared.elements.Element.{Element}

-- the floor may rise
pub trace_risen : (start floor floor' : ℕ) (h : ℕ → ℕ → Descriptor) (word : ℕ → DescriptorWord) (trace : List Kept)
    → floor ≤ floor'
    → IsGoodTrace start floor h word trace → IsGoodTrace start floor' h word trace
trace_risen start floor floor' h word trace more g = record {
  elements = λ i e op d at. let is = g.elements i e op d at in let a = is.high in let b = is.stamp in record {
    kind = is.kind;
    right = is.right;
    stands = is.stands;
    low = is.low;
    high = omega arith;
    stamp = omega arith;
  };
  misses = g.misses;
  order = g.order;
}

-- and so may the numbers in words
pub trace_words : (start floor : ℕ) (h : ℕ → ℕ → Descriptor) (word word' : ℕ → DescriptorWord) (trace : List Kept)
    → ((n : ℕ) → number_of (word n) ≤ number_of (word' n)) → IsGoodTrace start floor h word trace
    → IsGoodTrace start floor h word' trace
trace_words start floor h word word' trace more g = record {
  elements = g.elements;
  misses = λ i n by at. let is = g.misses i n by at in let a = is.most in let b = more n in record {
    after = is.after;
    altered = is.altered;
    most = omega arith;
  };
  order = g.order;
}

-- an entry comes
pub trace_longer : (start floor length : ℕ) (h h' : ℕ → ℕ → Descriptor) (word : ℕ → DescriptorWord) (trace : List Kept)
    → ((q n : ℕ) → q ≤ length → h' q n ≡ h q n) → floor ≤ length → ((n : ℕ) → number_of (word n) ≤ length)
    → IsGoodTrace start floor h word trace → IsGoodTrace start floor h' word trace
trace_longer start floor length h h' word trace same under numbers g = record {
  elements = λ i e op d at. let is = g.elements i e op d at in let high = is.high in record {
    kind = is.kind;
    right = is.right;
    stands = is.stands ∙ sym (same e.point e.segno (omega arith));
    low = is.low;
    high = is.high;
    stamp = is.stamp;
  };
  misses = λ i n by at. let is = g.misses i n by at in let a = is.most in let b = numbers n in let
      next = is.altered.next in record {
        after = is.after;
        altered = record {
          before = is.altered.before;
          next = is.altered.next;
          differs = λ e. is.altered.differs
              (sym (same by n (omega arith)) ∙ e ∙ same is.altered.before n (omega arith));
        };
        most = is.most;
      };
  order = g.order;
}

same_judged : (e f : Element) (op op' : Op) (d d' : Descriptor) → Judged e op d ≡ Judged f op' d'
    → (e ≡ f) × (op ≡ op') × (d ≡ d')
same_judged e f op op' d d' h = (cc, cc, cc)

judged_missed : (e : Element) (op : Op) (d : Descriptor) (n by : ℕ) → Judged e op d ≡ Missed n by → ⊥
judged_missed e op d n by h = cc

same_missed : (n by n' by' : ℕ) → Missed n by ≡ Missed n' by' → (n ≡ n') × (by ≡ by')
same_missed n by n' by' h = (cc, cc)

-- an element is kept, with the floor as its point
pub trace_element : (start floor floor' : ℕ) (h : ℕ → ℕ → Descriptor) (word : ℕ → DescriptorWord) (trace : List Kept)
    (e : Element) (op : Op) (d : Descriptor)
    → floor ≤ floor' → e.point ≡ floor → IsRightElement start floor' h e op d → IsGoodTrace start floor h word trace
    → IsGoodTrace start floor' h word (trace ++ Judged e op d ∷ [])
trace_element start floor floor' h word trace e op d more point right g = record {
  elements = λ i f op' d' at. elim (place_found trace (Judged e op d) (Judged f op' d') i at) [
    | inl old ↦ (trace_risen start floor floor' h word trace more g).elements i f op' d' old
    | inr new ↦
        let same = same_judged f e op' op d' d new.1 in
        subst (λ (x : Element). IsRightElement start floor' h x op' d') (sym same.0)
        (subst (λ (x : Op). IsRightElement start floor' h e x d') (sym same.1)
        (subst (λ (x : Descriptor). IsRightElement start floor' h e op x) (sym same.2) right))
  ];
  misses = λ i n by at. elim (place_found trace (Judged e op d) (Missed n by) i at) [
    | inl old ↦ g.misses i n by old
    | inr new ↦ absurd (judged_missed e op d n by (sym new.1))
  ];
  order = λ i j a b op1 op2 d1 d2 less at at'. elim (place_found trace (Judged e op d) (Judged a op1 d1) i at) [
    | inr first ↦ elim (place_found trace (Judged e op d) (Judged b op2 d2) j at') [
      | inl old ↦ let l = slice_get_within trace j (Judged b op2 d2) old in let f = first.0 in absurd (omega arith)
      | inr new ↦ let f = first.0 in let n = new.0 in absurd (omega arith)
    ]
    | inl first ↦ elim (place_found trace (Judged e op d) (Judged b op2 d2) j at') [
      | inl old ↦ g.order i j a b op1 op2 d1 d2 less first old
      | inr new ↦
          let same = same_judged b e op2 op d2 d new.1 in
          let is = g.elements i a op1 d1 first in
          let high = is.high in
          let stamp = is.stamp in
          let here : IsAfter a e = record { point = omega arith; stamp = omega arith } in
          subst (λ (x : Element). IsAfter a x) (sym same.0) here
    ]
  ];
}

-- a miss is kept
pub trace_miss : (start floor : ℕ) (h : ℕ → ℕ → Descriptor) (word : ℕ → DescriptorWord) (trace : List Kept) (n by : ℕ)
    → IsRightMiss start h word n by → IsGoodTrace start floor h word trace
    → IsGoodTrace start floor h word (trace ++ Missed n by ∷ [])
trace_miss start floor h word trace n by right g = record {
  elements = λ i f op d at. elim (place_found trace (Missed n by) (Judged f op d) i at) [
    | inl old ↦ g.elements i f op d old
    | inr new ↦ absurd (judged_missed f op d n by new.1)
  ];
  misses = λ i m by' at. elim (place_found trace (Missed n by) (Missed m by') i at) [
    | inl old ↦ g.misses i m by' old
    | inr new ↦
        let same = same_missed m by' n by new.1 in
        subst (λ (x : ℕ). IsRightMiss start h word x by') (sym same.0)
        (subst (λ (x : ℕ). IsRightMiss start h word n x) (sym same.1) right)
  ];
  order = λ i j a b op1 op2 d1 d2 less at at'. elim (place_found trace (Missed n by) (Judged a op1 d1) i at) [
    | inr first ↦ absurd (judged_missed a op1 d1 n by first.1)
    | inl first ↦ elim (place_found trace (Missed n by) (Judged b op2 d2) j at') [
      | inl old ↦ g.order i j a b op1 op2 d1 d2 less first old
      | inr new ↦ absurd (judged_missed b op2 d2 n by new.1)
    ]
  ];
}
