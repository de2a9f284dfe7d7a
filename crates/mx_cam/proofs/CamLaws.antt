-- What a cam remembers is what its pass's memory has.
use Rattle.std.proofs.Common.{◌≡◌, ℕ, nat_lt, Bool, true, false, cond, List, [], ◌∷◌, Some, refl, sym, ap, ◌∙◌, rules}
use Rattle.std.specs.Prelude.{◌==◌}
use Rattle.mx_core.specs.AssociativeMemory.{recalled, remembered}
use Rattle.mx_core.specs.Put.{pick}
use Rattle.mx_core.specs.declared.elements.Element.{Element}
use Rattle.mx_core.specs.declared.words.Asked.{Asked}
use Rattle.mx_core.specs.declared.words.Triple.{Triple}
use Rattle.mx_desc.specs.Passes.{HasBasis}
use Rattle.mx_desc.specs.Referring.{HasMissed, HasReferred}
use Rattle.mx_rule.specs.declared.views.PassView.{PassView}

equal : (a b : ℕ) → (a == b) ≡ true → a ≡ b
equal a b h = search rules

same_triple : (a b : Triple) → Some a ≡ Some b → a ≡ b
same_triple a b k = cc

number_by : (n : ℕ) (v t : Triple) (rest : List Triple) (test : Bool) → (v.segno == n) ≡ test
    → (recalled n rest ≡ Some t → t.segno ≡ n) → cond test (Some v) (recalled n rest) ≡ Some t → t.segno ≡ n
number_by n v t rest true is later h = sym (ap (λ (x : Triple). x.segno) (same_triple v t h)) ∙ equal v.segno n is
number_by n v t rest false is later h = later h

-- what is recalled of a number has that number
pub recalled_number : (n : ℕ) (memory : List Triple) (t : Triple) → recalled n memory ≡ Some t → t.segno ≡ n
recalled_number n [] t e = cc
recalled_number n (v ∷ rest) t e = number_by n v t rest (v.segno == n) refl (recalled_number n rest t) e

module _ {E : Type 0} (numbers n : ℕ) (a : Asked) (value : ℕ) (v v' : PassView E) (e : Element) where
  pub has_basis : HasReferred numbers n a value v e v' → HasBasis v'
  has_basis r = record { on = r.on; is = ap (λ (x : PassView E). x.basis) r.seen.after }

  pub memory_is : (r : HasReferred numbers n a value v e v') (old new : List Triple) → old ≡ v.memory
      → ((on : Triple) → v'.basis ≡ Some on
      → new ≡ pick (nat_lt n numbers) (remembered (record on { segno = n }) old) old) → new ≡ v'.memory
  memory_is r old new same put =
      put r.on (ap (λ (x : PassView E). x.basis) r.seen.after)
      ∙ (λ i. pick (nat_lt (sym r.segno i) numbers)
      (remembered (record { segno = sym r.segno i; number = r.on.number; desc = r.on.desc }) (same i)) (same i))
      ∙ sym (ap (λ (x : PassView E). x.memory) r.seen.after)

pub memory_missed : {E : Type 0} (n by : ℕ) (v v' : PassView E) → HasMissed n by v v' → v.memory ≡ v'.memory
memory_missed {E = E} n by v v' m = sym (ap (λ (x : PassView E). x.memory) m.after)
