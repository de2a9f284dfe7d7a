-- The judging rule, the table of what is granted, and the first denial that applies.
use Rattle.std.proofs.Common.{◌≡◌, ℕ, Bool, List, Some, None, Ok, ap, subst, sym, rules}
use Rattle.std.specs.Prelude.{find, Option, Err}
use Rattle.mx_sdw.proofs.Orders.{found_is_first, first_is_found}
use Rattle.mx_sdw.specs.declared.denials.Denial.{Denial}
use Rattle.mx_sdw.specs.declared.descriptors.Cell.{Cell}
use Rattle.mx_sdw.specs.declared.operations.Op.{Op}
use Rattle.mx_sdw.specs.declared.operations.Op.TheVariants.{Read, Indirect, Write, Fetch, Call, Return}
use Rattle.mx_sdw.specs.Denials.{judging_order}
use Rattle.mx_sdw.specs.Descriptors.{Descriptor}
use Rattle.mx_sdw.specs.Granting.{IsGranted, IsFirst}
use Rattle.mx_sdw.specs.Judging.{applies, judgement, granted_unless, cell_of}

pub granted_is_allowed : (d : Descriptor) (op : Op) (ring word : ℕ) (cell : Cell) → judgement d op ring word ≡ Ok cell → IsGranted d op ring word
unfolding judgement
granted_is_allowed d Read ring word cell e = search rules
granted_is_allowed d Indirect ring word cell e = search rules
granted_is_allowed d Write ring word cell e = search rules
granted_is_allowed d Fetch ring word cell e = search rules
granted_is_allowed d (Call current same upward) ring word cell e = search rules
granted_is_allowed d Return ring word cell e = search rules

of_granted : (o : Option Denial) (cell other : Cell) → granted_unless o cell ≡ Ok other → other ≡ cell
of_granted None cell other e = cc
of_granted (Some denial) cell other e = cc

pub granted_has_cell : (d : Descriptor) (op : Op) (ring word : ℕ) (cell : Cell) → judgement d op ring word ≡ Ok cell → cell ≡ cell_of d word
unfolding judgement
granted_has_cell d op ring word cell e = of_granted (find (λ denial. applies denial d op ring word) judging_order) (cell_of d word) cell e

pub allowed_is_granted : (d : Descriptor) (op : Op) (ring word : ℕ) → IsGranted d op ring word → judgement d op ring word ≡ Ok (cell_of d word)
unfolding judgement
allowed_is_granted d Read ring word g = search rules
allowed_is_granted d Indirect ring word g = search rules
allowed_is_granted d Write ring word g = search rules
allowed_is_granted d Fetch ring word g = search rules
allowed_is_granted d (Call current same upward) ring word g = search rules
allowed_is_granted d Return ring word g = search rules

found : (o : Option Denial) (cell : Cell) (denial : Denial) → granted_unless o cell ≡ Err denial → o ≡ Some denial
found None cell denial e = cc
found (Some other) cell denial e = cc

pub denied_is_first : (denial : Denial) (d : Descriptor) (op : Op) (ring word : ℕ)
    → judgement d op ring word ≡ Err denial → IsFirst denial d op ring word
unfolding judgement
denied_is_first denial d op ring word e =
    let s = found_is_first (λ other. applies other d op ring word) judging_order denial (found _ (cell_of d word) denial e) in
    record { earlier = s.front; later = s.back; place = s.parts; holds = s.passes; first = s.none }

pub first_is_denied : (denial : Denial) (d : Descriptor) (op : Op) (ring word : ℕ)
    → IsFirst denial d op ring word → judgement d op ring word ≡ Err denial
unfolding judgement
first_is_denied denial d op ring word s =
    let test : Denial → Bool = λ other. applies other d op ring word in
    let at : find test judging_order ≡ Some denial =
    subst (λ (order : List Denial). find test order ≡ Some denial) (sym s.place) (first_is_found test s.earlier denial s.later s.holds s.first) in
    ap (λ (o : Option Denial). granted_unless o (cell_of d word)) at
