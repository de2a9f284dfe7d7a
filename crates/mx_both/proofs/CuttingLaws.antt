-- Laws of cutting bytes behind their first line `end`, line by line.
use Rattle.std.proofs.Common.{◌≡◌, ℕ, ◌+◌, ◌-◌, ◌≤◌, ◌==◌, true, false, inl, inr, List, [], ◌∷◌, ◌++◌, length, take, drop, Some, None, codes, refl, ap, sym, ◌∙◌, append_assoc, append-nil, length-append, arith}
use Rattle.std.proofs.lemmas.List.{drop_at, take_at}
use Rattle.std.proofs.lemmas.List.Folds.{list_all-append}
use Rattle.std.specs.Cmp.Lexicographic.{pointwise}
use Rattle.mx_both.proofs.EndLaws.{fewer_lines}
use Rattle.mx_both.specs.Cutting.{HasPassed, IsCut}
use Rattle.mx_both.specs.Ends.{is_other}
use Rattle.mx_name.proofs.CutLaws.{cut_takes}
use Rattle.mx_name.specs.Cuts.{cut_at}
use Rattle.mx_request.proofs.StepLaws.{both_hold, same_bytes}
use Rattle.mx_script.proofs.ReadingLaws.{lines_text-append}
use Rattle.mx_script.specs.SessionTexts.{lines_text}

-- one more line passed
pub passed_on : (spelled rest : List ℕ) (number : ℕ) (p : List ℕ × List ℕ) → HasPassed spelled rest number → cut_at 10 rest ≡ Some p
    → pointwise ◌==◌ p.0 (codes "end") ≡ false → HasPassed spelled p.1 (number + 1)
passed_on spelled rest number p h c other =
    let is = cut_takes 10 rest p c in
    record {
      lines = h.lines ++ p.0 ∷ [];
      others = list_all-append is_other h.lines (p.0 ∷ []) ∙ both_hold _ _ h.others (both_hold _ _ (both_hold _ _ is.1 (rw other refl)) refl);
      parts = h.parts ∙ ap (λ r. lines_text h.lines ++ r) is.0 ∙ one_more h.lines p.0 p.1;
      count = omega (arith, h.count, length-append h.lines (p.0 ∷ []));
    }
  where
    one_more : (lines : List (List ℕ)) (line more : List ℕ) → lines_text lines ++ (line ++ 10 ∷ more) ≡ lines_text (lines ++ line ∷ []) ++ more
    one_more lines line more =
        sym (ap (λ t. t ++ more) (lines_text-append lines (line ∷ [])) ∙ append_assoc (lines_text lines) (line ++ 10 ∷ []) more
        ∙ ap (λ t. lines_text lines ++ t) (append_assoc line (10 ∷ []) more))

-- they are few
few : (spelled rest : List ℕ) (number : ℕ) → HasPassed spelled rest number → number ≤ length spelled
few spelled rest number h =
    omega (arith, h.count, ap length h.parts, length-append (lines_text h.lines) rest, fewer_lines h.lines)

pub passed_small : (spelled rest : List ℕ) (number : ℕ) (p : List ℕ × List ℕ) → HasPassed spelled rest number → cut_at 10 rest ≡ Some p
    → number + 1 ≤ length spelled
passed_small spelled rest number p h c =
    omega (
      arith,
      h.count,
      ap length h.parts,
      length-append (lines_text h.lines) rest,
      fewer_lines h.lines,
      ap length (cut_takes 10 rest p c).0,
      length-append p.0 (10 ∷ p.1),
    )

-- cut behind a line `end`
pub ended_cut : (spelled rest front behind : List ℕ) (number : ℕ) (p : List ℕ × List ℕ) → HasPassed spelled rest number
    → cut_at 10 rest ≡ Some p → pointwise ◌==◌ p.0 (codes "end") ≡ true → front ≡ take (length spelled - length p.1) spelled
    → behind ≡ drop (length spelled - length p.1) spelled → IsCut spelled front behind (number + 1)
ended_cut spelled rest front behind number p h c own e f =
    let whole : List ℕ = lines_text h.lines ++ codes "end\n" in
    let parts : spelled ≡ whole ++ p.1
    = h.parts ∙ ap (λ r. lines_text h.lines ++ r) ((cut_takes 10 rest p c).0 ∙ ap (λ line. line ++ 10 ∷ p.1) (same_bytes p.0 (codes "end") own))
    ∙ sym (append_assoc (lines_text h.lines) (codes "end\n") p.1) in
    let at = to_there spelled whole p.1 parts in
    let front_is : front ≡ whole = e ∙ ap (take (length spelled - length p.1)) parts ∙ take_at whole p.1 (length spelled - length p.1) at in
    let behind_is : behind ≡ p.1 = f ∙ ap (drop (length spelled - length p.1)) parts ∙ drop_at whole p.1 (length spelled - length p.1) at in
    record {
      parts = parts ∙ ap (λ r. whole ++ r) (sym behind_is) ∙ ap (λ t. t ++ behind) (sym front_is);
      ends = inl (record {
        earlier = number;
        passed = record { lines = h.lines; others = h.others; parts = front_is; count = h.count };
        count = refl;
      });
      few = omega (arith, h.count, ap length front_is, length-append (lines_text h.lines) (codes "end\n"), fewer_lines h.lines);
    }
  where
    to_there : (all whole rest : List ℕ) → all ≡ whole ++ rest → length whole ≡ length all - length rest
    to_there all whole rest e = omega (arith, ap length e, length-append whole rest)

-- or nowhere
pub no_end_cut : (spelled rest : List ℕ) (number : ℕ) → HasPassed spelled rest number → cut_at 10 rest ≡ None
    → IsCut spelled spelled [] number
no_end_cut spelled rest number h none = record {
  parts = sym (append-nil spelled);
  ends = inr (record { last = rest; passed = h; none = none }, refl);
  few = few spelled rest number h;
}
