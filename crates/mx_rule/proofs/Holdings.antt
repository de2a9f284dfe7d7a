-- What a pass holds after it judged, and what it keeps as it was.
use Rattle.std.proofs.Common.{◌≡◌, ℕ, nat_le, Bool, true, false, refl, Option, Some, None}
use Rattle.mx_core.specs.Judging.{at_once}
use Rattle.mx_core.specs.Put.{pick}
use Rattle.mx_core.specs.declared.elements.Outcome.{Outcome}
use Rattle.mx_core.specs.declared.words.Asked.{Asked}
use Rattle.mx_core.specs.declared.words.DescriptorWord.{DescriptorWord}
use Rattle.mx_core.specs.declared.words.DescriptorWord.TheVariants.{Valid, Fault}
use Rattle.mx_core.specs.declared.words.Triple.{Triple}
use Rattle.mx_rule.specs.Holding.{held_at, waiting_by, waiting_cell, cell_on}
use Rattle.mx_rule.specs.Loading.{missed_view, judged_view, remembering_view, loaded_view}
use Rattle.mx_rule.specs.Shown.{PassView}

pub same_some : (m n : ℕ) → Some m ≡ Some n → m ≡ n
same_some m n e = cc

pub record IsUnmoved {S : Type 0} (v v' : PassView S) : Type 0 where
  pub process : v'.process ≡ v.process
  pub start : v'.start ≡ v.start
  pub floor : v'.floor ≡ v.floor
  pub turn : v'.turn ≡ v.turn
  pub cleared : v'.cleared ≡ v.cleared

pub judged_holds : {S : Type 0} (o : Option Outcome) (u : Triple) (a : Asked) (v : PassView S)
    → held_at (judged_view o u a v).basis (judged_view o u a v).hold ≡ waiting_by o u.desc a
judged_holds None u a v = refl
judged_holds (Some o) u a v = refl

pub judged_unmoved : {S : Type 0} (o : Option Outcome) (u : Triple) (a : Asked) (v : PassView S)
    → IsUnmoved v (judged_view o u a v)
judged_unmoved None u a v = record { process = refl; start = refl; floor = refl; turn = refl; cleared = refl }
judged_unmoved (Some o) u a v = record { process = refl; start = refl; floor = refl; turn = refl; cleared = refl }

pick_holds : {S : Type 0} (t : Bool) (b c : PassView S) (x y : Option ℕ) → held_at b.basis b.hold ≡ x
    → held_at c.basis c.hold ≡ y
    → held_at (pick t b c).basis (pick t b c).hold ≡ pick t x y
pick_holds true b c x y h k = h
pick_holds false b c x y h k = k

pick_unmoved : {S : Type 0} (t : Bool) (b c v : PassView S) → IsUnmoved v b → IsUnmoved v c → IsUnmoved v (pick t b c)
pick_unmoved true b c v h k = h
pick_unmoved false b c v h k = k

pub loaded_holds : {S : Type 0} (numbers n : ℕ) (a : Asked) (word : DescriptorWord) (v : PassView S)
    → held_at (loaded_view numbers n a word v).basis (loaded_view numbers n a word v).hold ≡ cell_on word v.floor a
loaded_holds numbers n a (Fault number) v = refl
loaded_holds numbers n a (Valid number desc) v =
    let u : Triple = record { segno = n; number = number; desc = desc } in
    pick_holds (nat_le number v.floor) (judged_view (at_once desc a) u a (remembering_view numbers u v))
    (missed_view n number v) (waiting_cell desc a) None
    (judged_holds (at_once desc a) u a (remembering_view numbers u v)) refl

pub loaded_unmoved : {S : Type 0} (numbers n : ℕ) (a : Asked) (word : DescriptorWord) (v : PassView S)
    → IsUnmoved v (loaded_view numbers n a word v)
loaded_unmoved numbers n a (Fault number) v =
    record { process = refl; start = refl; floor = refl; turn = refl; cleared = refl }
loaded_unmoved numbers n a (Valid number desc) v =
    let u : Triple = record { segno = n; number = number; desc = desc } in
    let j = judged_unmoved (at_once desc a) u a (remembering_view numbers u v) in
    pick_unmoved (nat_le number v.floor) (judged_view (at_once desc a) u a (remembering_view numbers u v))
    (missed_view n number v) v
    (record { process = j.process; start = j.start; floor = j.floor; turn = j.turn; cleared = j.cleared })
    (record { process = refl; start = refl; floor = refl; turn = refl; cleared = refl })
