-- A row of processes, as one of them goes on, leaves it or comes back.
use Rattle.std.proofs.Common.{◌≡◌, ◌+◌, ◌<◌, ◌≤◌, ℕ, zero, suc, arith, List, [], ◌∷◌, ◌++◌, length, Some, refl, ◌∙◌, subst, slice_set}
use Rattle.std.specs.List.{slice_get}
use Rattle.mx_audit.specs.Accounts.{Account}
use Rattle.mx_process.specs.Lines.{HasEnded, HasGoneOn, HasNoLine, IsAwake, IsOwn}
use Rattle.mx_process.specs.Plans.{left_of}
use Rattle.mx_process.specs.Processes.{HasLine, ProcessValue}
use Rattle.mx_process.specs.declared.lines.Turned.{Turned}
use Rattle.mx_process.specs.declared.lines.Turned.TheVariants.{Done, Waits}
use Rattle.mx_script.specs.Sessions.{Outline}
use Rattle.mx_script.specs.declared.lines.Line.{Line}
use Rattle.mx_proc.proofs.PlaceLaws.{each_front, each_last, each_more, each_set}
use Rattle.mx_proc.specs.Rows.{AreAwake, AreInPlace, HaveNoLine, IsInPlace}

-- a process goes on
pub own_still : (v : ProcessValue) → IsOwn v v
own_still v = record { process = refl; attended = ((λ e. e), (λ e. e)) }

pub turned_own : (old new : ProcessValue) (turned : Turned) → (turned ≡ Done → HasEnded old new)
    → (turned ≡ Waits → HasGoneOn old new) → IsOwn old new
turned_own old new Done done waits = (done refl).own
turned_own old new Waits done waits = (waits refl).own

pub own_place : (accounts : List Account) (place : ℕ) (old new : ProcessValue) → IsOwn old new
    → IsInPlace accounts place old → IsInPlace accounts place new
own_place accounts place old new own at = record {
  process = own.process ∙ at.process;
  attended = ((λ e. at.attended.0 (own.attended.1 e)), (λ e. own.attended.0 (at.attended.1 e)));
}

pub one_goes_on : (accounts : List Account) (row : List ProcessValue) (place : ℕ) (old new : ProcessValue)
    → slice_get row place ≡ Some old → IsOwn old new → AreInPlace accounts row → AreInPlace accounts (slice_set row place new)
one_goes_on accounts row place old new at own all =
    each_set (IsInPlace accounts) row place new (λ i v there other. all i v there)
    (own_place accounts place old new own (all place old at))

-- the last one leaves
pub others_stay : (accounts : List Account) (row : List ProcessValue) (v : ProcessValue) → AreInPlace accounts (row ++ v ∷ [])
    → AreInPlace accounts row
others_stay accounts row v all = each_front (IsInPlace accounts) row (v ∷ []) all

pub last_place : (accounts : List Account) (row : List ProcessValue) (v : ProcessValue) → AreInPlace accounts (row ++ v ∷ [])
    → IsInPlace accounts (length row) v
last_place accounts row v all = each_last (IsInPlace accounts) row v all

pub others_awake : (row : List ProcessValue) (v : ProcessValue) → AreAwake (row ++ v ∷ []) → AreAwake row
others_awake row v all = each_front (λ place. IsAwake) row (v ∷ []) all

pub last_awake : (row : List ProcessValue) (v : ProcessValue) → AreAwake (row ++ v ∷ []) → IsAwake v
last_awake row v all = each_last (λ place. IsAwake) row v all

-- and comes back
pub comes_back : (accounts : List Account) (row : List ProcessValue) (v : ProcessValue) → AreInPlace accounts row
    → IsInPlace accounts (length row) v → AreInPlace accounts (row ++ v ∷ [])
comes_back accounts row v all at = each_more (IsInPlace accounts) row v all at

pub all_done : (x : Outline) (row : List ProcessValue) (v : ProcessValue) → HaveNoLine x row → HasNoLine x v
    → HaveNoLine x (row ++ v ∷ [])
all_done x row v all done = each_more (λ place. HasNoLine x) row v all done

-- where it is not so that a line is left, none is
pub no_line_left : (x : Outline) (v : ProcessValue) → (HasLine x v → ⊥) → HasNoLine x v
no_line_left x v none = by_lines (left_of x v.pass.view.process v.state) refl
  where
    by_lines : (lines : List (ℕ × Line)) → left_of x v.pass.view.process v.state ≡ lines
        → left_of x v.pass.view.process v.state ≡ []
    by_lines [] e = e
    by_lines (line ∷ lines) e =
        absurd (none (record { number = line.0; line = line.1; at = record { left = lines; at = e } }))

pub nobody_left : (x : Outline) (v : ProcessValue) (row : List ProcessValue) → HasNoLine x v → HaveNoLine x row
    → HaveNoLine x (v ∷ row)
nobody_left x v row none others zero w at = let same : v ≡ w = cc in subst (HasNoLine x) same none
nobody_left x v row none others (suc place) w at = others place w at

pub no_row : (x : Outline) → HaveNoLine x []
no_row x place v at = absurd (none at)
  where
    none : slice_get {X = ProcessValue} [] place ≡ Some v → ⊥
    none at = cc

-- where none of those below a place has a line left, and the one there has none, none has below the next place
pub none_below : (x : Outline) (row : List ProcessValue) (n : ℕ) (w : ProcessValue) → slice_get row n ≡ Some w → HasNoLine x w
    → ((i : ℕ) (v : ProcessValue) → i < n → slice_get row i ≡ Some v → HasNoLine x v)
    → (i : ℕ) (v : ProcessValue) → i < n + 1 → slice_get row i ≡ Some v → HasNoLine x v
none_below x [] n w at none below i v less there = absurd (nothing at)
  where
    nothing : slice_get {X = ProcessValue} [] n ≡ Some w → ⊥
    nothing at = cc
none_below x (u ∷ row) zero w at none below zero v less there =
    let same : w ≡ v = cc in subst (HasNoLine x) same none
none_below x (u ∷ row) zero w at none below (suc i) v less there = absurd (omega (arith, less))
none_below x (u ∷ row) (suc n) w at none below zero v less there = below zero v (omega arith) there
none_below x (u ∷ row) (suc n) w at none below (suc i) v less there =
    none_below x row n w at none (λ j z l t. below (suc j) z (omega (arith, l)) t) i v (omega (arith, less)) there

-- a row of one process, which has no line left
pub alone_done : (x : Outline) (row : List ProcessValue) (v : ProcessValue) → length row ≤ 1 → HasNoLine x v
    → HaveNoLine x (slice_set row 0 v)
alone_done x [] v few done place w at = absurd (none at)
  where
    none : slice_get {X = ProcessValue} [] place ≡ Some w → ⊥
    none at = cc
alone_done x (u ∷ []) v few done zero w at = let same : v ≡ w = cc in subst (HasNoLine x) same done
alone_done x (u ∷ []) v few done (suc place) w at = absurd (none at)
  where
    none : slice_get {X = ProcessValue} [] place ≡ Some w → ⊥
    none at = cc
alone_done x (u ∷ t ∷ row) v few done place w at = absurd (omega arith)
