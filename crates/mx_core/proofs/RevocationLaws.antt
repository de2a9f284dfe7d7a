-- A reference rests on the basis that its process has then, and that is what the table has at the answered length.
use Rattle.std.proofs.Common.{◌≡◌, inl, inr, ℕ, zero, suc, ◌≤◌, nat_le, Bool, true, false, List, [], ◌∷◌, ◌++◌, length, Option, Some, None, refl, sym, ap, ◌∙◌, subst, slice_get, arith}
use Rattle.std.proofs.lemmas.Bool.{cases_eq}
use Rattle.mx_sdw.specs.Descriptors.{Descriptor}
use Rattle.mx_sdw.specs.declared.operations.Op.{Op}
use Rattle.mx_core.specs.AssociativeMemory.{recalled}
use Rattle.mx_core.specs.Cells.{cell_loaded, cell_stored}
use Rattle.mx_core.specs.Invariant.{Good}
use Rattle.mx_core.specs.Judging.{at_once}
use Rattle.mx_core.specs.Keeping.{IsCurrent, Keeps}
use Rattle.mx_core.specs.Loading.{found, judged, judged_to, loaded, missed, recalling, remembering}
use Rattle.mx_core.specs.Opening.{opening}
use Rattle.mx_core.specs.Put.{pick, put}
use Rattle.mx_core.specs.Revocation.{IsAnswered, PrivateMemoryLaw, Refers, RevocationLaw}
use Rattle.mx_core.specs.Notes.{joined}
use Rattle.mx_core.specs.Steps.{after, after_all}
use Rattle.mx_core.specs.Striking.{settled}
use Rattle.mx_core.specs.Words.{Asked, DescriptorWord, Fault, Triple, Valid}
use Rattle.mx_core.specs.World.{Judged, Kept, Missed, Note, Process, World}
use Rattle.mx_core.specs.declared.elements.Element.{Element}
use Rattle.mx_core.specs.declared.elements.Outcome.{Outcome}
use Rattle.mx_core.specs.declared.steps.Step.{Step}
use Rattle.mx_core.specs.declared.steps.Step.TheVariants.{Append, Strike, Connect, Look, Acknowledge, Answer, Settle, Clear, Split, Report, Enter, LoadConnect, LoadDesc, Recall, LoadCell, StoreCell, Leave, Join}
use Rattle.mx_core.proofs.Puts.{put_else, put_here}
use Rattle.mx_core.proofs.RunLaws.{history_law, step_law}

-- the process rests on a basis of this number and descriptor, and neither table nor answered length changed
record Rests (w w' : World) (p : ℕ) (e : Element) (d : Descriptor) : Type 0 where
  pub on : Triple
  pub basis : (w'.process p).basis ≡ Some on
  pub desc : on.desc ≡ d
  pub segno : on.segno ≡ e.segno
  pub table : w'.table ≡ w.table
  pub answered : w'.answered ≡ w.answered

beyond : {A : Type 0} (xs : List A) (i : ℕ) (x : A) → length xs ≤ i → slice_get xs i ≡ Some x → ⊥
beyond [] i x le at = cc
beyond (y ∷ xs) zero x le at = omega arith
beyond (y ∷ xs) (suc i) x le at = beyond xs i x (omega arith) at

last_is : {A : Type 0} (xs : List A) (i : ℕ) (x y : A) → length xs ≤ i → slice_get (xs ++ y ∷ []) i ≡ Some x → y ≡ x
last_is [] zero x y le at = cc
last_is [] (suc i) x y le at = absurd (none i at)
  where
    none : (i : ℕ) → slice_get {X = _} [] i ≡ Some x → ⊥
    none i at = cc
last_is (z ∷ xs) zero x y le at = absurd (omega arith)
last_is (z ∷ xs) (suc i) x y le at = last_is xs i x y (omega arith) at

same_judged : (e f : Element) (op op' : Op) (d d' : Descriptor) → Judged e op d ≡ Judged f op' d' → (e ≡ f) × (d ≡ d')
same_judged e f op op' d d' h = (cc, cc)

no_miss : (n by : ℕ) (e : Element) (op : Op) (d : Descriptor) → Missed n by ≡ Judged e op d → ⊥
no_miss n by e op d h = cc

module _ (w : World) (p : ℕ) (e : Element) (op : Op) (d : Descriptor) (i : ℕ) (new : length (w.trace p) ≤ i) where
  -- nothing was added
  still : (w' : World) → w'.trace p ≡ w.trace p → slice_get (w'.trace p) i ≡ Some (Judged e op d) → Rests w w' p e d
  still w' same at = absurd (beyond (w.trace p) i (Judged e op d) new
      (sym (ap (λ (t : List Kept). slice_get t i) same) ∙ at))

  -- an event of a process was added
  added : (q : ℕ) (k : Kept) → slice_get (put w.trace q (w.trace q ++ k ∷ []) p) i ≡ Some (Judged e op d)
      → (p ≡ q) × (k ≡ Judged e op d)
  added q k at = elim (cases_eq p q) [
    | inr ne ↦ absurd (beyond (w.trace p) i (Judged e op d) new
        (sym (ap (λ (t : List Kept). slice_get t i) (put_else w.trace q (w.trace q ++ k ∷ []) p ne)) ∙ at))
    | inl same ↦ (
      same,
      last_is (w.trace q) i (Judged e op d) k (subst (λ (j : ℕ). length (w.trace j) ≤ i) same new)
          (sym (ap (λ (t : List Kept). slice_get t i) (ap (put w.trace q (w.trace q ++ k ∷ [])) same
          ∙ put_here w.trace q (w.trace q ++ k ∷ []))) ∙ at),
    )
  ]

  -- an element was added of a process that has a basis then
  based : (q : ℕ) (w' : World) (o : Process) (u : Triple) (f : Element) (op' : Op) → o.basis ≡ Some u
      → f.segno ≡ u.segno → w'.process ≡ put w.process q o
      → w'.trace ≡ put w.trace q (w.trace q ++ Judged f op' u.desc ∷ []) → w'.table ≡ w.table
      → w'.answered ≡ w.answered → slice_get (w'.trace p) i ≡ Some (Judged e op d) → Rests w w' p e d
  based q w' o u f op' has number processes traces tables lengths at =
      let a = added q (Judged f op' u.desc) (sym (ap (λ (t : ℕ → List Kept). slice_get (t p) i) traces) ∙ at) in
      let s = same_judged f e op' op u.desc d a.1 in record {
        on = u;
        basis = ap (λ (g : ℕ → Process). (g p).basis) processes
            ∙ ap (λ (o : Process). o.basis) (ap (put w.process q o) a.0 ∙ put_here w.process q o) ∙ has;
        desc = s.1;
        segno = sym number ∙ ap (λ (x : Element). x.segno) s.0;
        table = tables;
        answered = lengths;
      }

  judged_rests : (q : ℕ) (o : Process) (u : Triple) (a : Asked) (out : Option Outcome)
      → slice_get ((judged_to w q o u a out).trace p) i ≡ Some (Judged e op d) → Rests w (judged_to w q o u a out) p e d
  judged_rests q o u a None at = still (judged_to w q o u a None) refl at
  judged_rests q o u a (Some out) at =
      based q (judged_to w q o u a (Some out)) _ u _ a.op refl refl refl refl refl refl at

  either_rests : (test : Bool) (x y : World) → (slice_get (x.trace p) i ≡ Some (Judged e op d) → Rests w x p e d)
      → (slice_get (y.trace p) i ≡ Some (Judged e op d) → Rests w y p e d)
      → slice_get ((pick test x y).trace p) i ≡ Some (Judged e op d) → Rests w (pick test x y) p e d
  either_rests true x y f g at = f at
  either_rests false x y f g at = g at

  missed_rests : (q n by : ℕ) → slice_get ((missed w q n by).trace p) i ≡ Some (Judged e op d)
      → Rests w (missed w q n by) p e d
  missed_rests q n by at = absurd (no_miss n by e op d (added q (Missed n by) at).1)

  loaded_rests : (q n : ℕ) (a : Asked) (word : DescriptorWord)
      → slice_get ((loaded w q n a word).trace p) i ≡ Some (Judged e op d) → Rests w (loaded w q n a word) p e d
  loaded_rests q n a (Fault number) at = missed_rests q n number at
  loaded_rests q n a (Valid number desc) at =
      let u : Triple = record { segno = n; number = number; desc = desc } in
      either_rests (nat_le number (w.process q).floor) (judged w q (remembering w (w.process q) u) u a)
      (missed w q n number) (judged_rests q (remembering w (w.process q) u) u a (at_once desc a))
      (missed_rests q n number) at

  recalled_rests : (q : ℕ) (a : Asked) (u : Option Triple)
      → slice_get ((recalling w q a u).trace p) i ≡ Some (Judged e op d) → Rests w (recalling w q a u) p e d
  recalled_rests q a None at = still w refl at
  recalled_rests q a (Some u) at = judged_rests q (w.process q) u a (at_once u.desc a) at

  cell_rests : (q : ℕ) (basis : Option Triple) (hold : Option Asked) → (w.process q).basis ≡ basis
      → slice_get ((cell_loaded w q basis hold).trace p) i ≡ Some (Judged e op d)
      → Rests w (cell_loaded w q basis hold) p e d
  cell_rests q (Some u) (Some a) is at =
      based q (cell_loaded w q (Some u) (Some a)) _ u _ a.op is refl refl refl refl refl at
  cell_rests q (Some u) None is at = still w refl at
  cell_rests q None hold is at = still w refl at

  store_rests : (q value : ℕ) (basis : Option Triple) (hold : Option Asked) → (w.process q).basis ≡ basis
      → slice_get ((cell_stored w q value basis hold).trace p) i ≡ Some (Judged e op d)
      → Rests w (cell_stored w q value basis hold) p e d
  store_rests q value (Some u) (Some a) is at =
      based q (cell_stored w q value (Some u) (Some a)) _ u _ a.op is refl refl refl refl refl at
  store_rests q value (Some u) None is at = still w refl at
  store_rests q value None hold is at = still w refl at

  settled_still : (q n : ℕ) (word : DescriptorWord) → (settled w q n word).trace p ≡ w.trace p
  settled_still q n (Fault number) = refl
  settled_still q n (Valid number desc) = refl

  joined_still : (q j : ℕ) (note : Option Note) → (joined w q j note).trace p ≡ w.trace p
  joined_still q j None = refl
  joined_still q j (Some note) = refl

  rests : (step : Step) → slice_get ((after w step).trace p) i ≡ Some (Judged e op d) → Rests w (after w step) p e d
  rests (Append q changes given) at = still (after w (Append q changes given)) refl at
  rests (Strike q n) at = still (after w (Strike q n)) refl at
  rests (Connect q) at = still (after w (Connect q)) refl at
  rests (Look q) at = still (after w (Look q)) refl at
  rests (Acknowledge q) at = still (after w (Acknowledge q)) refl at
  rests Answer at = still (after w Answer) refl at
  rests (Settle q n) at = still (after w (Settle q n)) (settled_still q n (w.word q n)) at
  rests (Clear cell) at = still (after w (Clear cell)) refl at
  rests Split at = still (after w Split) refl at
  rests (Report q n) at = still (after w (Report q n)) refl at
  rests (Enter q) at = still (after w (Enter q)) refl at
  rests (LoadConnect q) at = still (after w (LoadConnect q)) refl at
  rests (LoadDesc q n op' ring word) at =
      loaded_rests q n (record { op = op'; ring = ring; word = word }) (found w q n) at
  rests (Recall q n op' ring word) at =
      recalled_rests q (record { op = op'; ring = ring; word = word }) (recalled n (w.process q).memory) at
  rests (LoadCell q) at = cell_rests q (w.process q).basis (w.process q).hold refl at
  rests (StoreCell q value) at = store_rests q value (w.process q).basis (w.process q).hold refl at
  rests (Leave q) at = still (after w (Leave q)) refl at
  rests (Join q j) at = still (after w (Join q j)) (joined_still q j (w.note j)) at

-- what a process keeps in a good world is what the table has at the answered length
kept_answered : (w : World) (p : ℕ) (u : Triple) → Good w
    → IsCurrent (w.process p).cleared (w.process p).connect (w.process p).stage
    → Keeps (w.process p).basis (w.process p).memory u → IsAnswered w p u.segno u.desc
kept_answered w p u g current keeps =
    let o = g.access.processes p in
    let t = o.triples current u keeps in
    let high = o.floor_high in
    let most = t.high in sym (t.stands w.answered (omega arith) (omega arith))

refers_answered : (w : World) (step : Step) (p : ℕ) (e : Element) (d : Descriptor) → Good w → Refers w step p e d
    → IsAnswered w p e.segno d
refers_answered w step p e d g r =
    let w' = after w step in
    let is = rests w p e r.op d r.place r.new step r.at in
    let good = step_law w step g r.enabled in
    let ready = (good.access.processes p).ready is.on is.basis in
    let answered = kept_answered w' p is.on good (inr ready) (inl is.basis) in
    sym is.desc ∙ answered ∙ (λ i. (is.table i) (is.answered i) p (is.segno i))

pub revocation_law : RevocationLaw
revocation_law processes numbers start table steps step p e d opens can r =
    refers_answered (after_all (opening processes numbers start table) steps) step p e d
    (history_law processes numbers start table steps opens can) r

pub private_memory_law : PrivateMemoryLaw
private_memory_law processes numbers start table steps p u opens can w is current keeps =
    kept_answered w p u (subst Good (sym is) (history_law processes numbers start table steps opens can)) current keeps
