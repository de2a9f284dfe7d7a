-- LoadDesc keeps the rule.
use Rattle.std.proofs.Common.{◌≡◌, ℕ, ◌<◌, ◌≤◌, nat_le, nat_lt, Bool, true, false, List, refl, sym, ap, ◌∙◌, subst, slice_index, set, Option, Some, None, arith}
use Rattle.atomic_table.specs.Table.{keeps}
use Rattle.mx_core.specs.RightWords.{IsWord}
use Rattle.mx_core.specs.AssociativeMemory.{remembered}
use Rattle.mx_sdw.specs.Admissible.{IsAdmissible}
use Rattle.mx_core.specs.Invariant.{Good}
use Rattle.mx_core.specs.Judging.{at_once}
use Rattle.mx_core.specs.Loading.{element_of, judged_to, missed, found, loaded}
use Rattle.mx_core.specs.Put.{pick}
use Rattle.mx_core.specs.World.{Process, World}
use Rattle.mx_sdw.specs.Descriptors.{unknown_desc}
use Rattle.mx_core.specs.declared.elements.Kept.{Kept}
use Rattle.mx_core.specs.declared.elements.Kept.TheVariants.{Judged, Missed}
use Rattle.mx_core.specs.declared.elements.Outcome.{Outcome}
use Rattle.mx_core.specs.declared.words.Asked.{Asked}
use Rattle.mx_core.specs.declared.words.Triple.{Triple}
use Rattle.mx_core.specs.declared.words.DescriptorWord.{DescriptorWord}
use Rattle.mx_core.specs.declared.words.DescriptorWord.TheVariants.{Valid, Fault}
use Rattle.mx_core.proofs.JudgingLaws.{load_desc_law}
use Rattle.mx_core.proofs.Puts.{put_here, pick_true, pick_false}
use Rattle.mx_rule.specs.Loading.{missed_view, judged_view, remembering_view, loaded_view, IsNews, LoadDescAllowed, LoadUnknownAllowed}
use Rattle.mx_rule.specs.Codes.{IsCodable, IsPlain, word_said}
use Rattle.mx_rule.specs.Layout.{Layout, ShowsWords, content}
use Rattle.mx_rule.specs.Parts.{DescriptorAt, Flag, Part, number_in}
use Rattle.mx_rule.proofs.CodeLaws.{word_back}
use Rattle.mx_rule.specs.Rule.{IsPassOf}
use Rattle.mx_rule.specs.Shown.{PassView, Pass, Office}
use Rattle.mx_rule.proofs.Words.{load_words, all_words}
use Rattle.mx_rule.proofs.Moves.{IsPassStep, IsSamePass, plain_step, event_step, pass_moves, own_here}
use Rattle.std.proofs.lemmas.Bool.Decides.{nat_tests}

-- a step of process p that changes no word
pub record IsReading {S : Type 0} (y : Layout) (w w' : World) (p : ℕ) (v' : PassView S) : Type 0 where
  pub step : IsPassStep w w' p
  pub own : IsPassOf (w'.process p) (w'.trace p) v'
  pub words : (z : Part) → content w' z ≡ content w z
  pub cells : w'.cell ≡ w.cell

missed_reading : {S : Type 0} (y : Layout) (w : World) (p n by : ℕ) (v : PassView S)
    → IsPassOf (w.process p) (w.trace p) v → IsReading y w (missed w p n by) p (missed_view n by v)
missed_reading {S = S} y w p n by v k =
    let o' : Process = record (w.process p) { basis = None; hold = None } in record {
      step = event_step w p o' (Missed n by)
          (record { connect = refl; look = refl; acknowledged = refl; floor = omega arith });
      own = own_here w p o' (Missed n by) (missed_view n by v)
          (record { told = k.told; rest = ap (missed_view n by) k.rest });
      words = all_words y w p o' refl refl;
      cells = refl;
    }

pub judged_reading : {S : Type 0} (y : Layout) (w : World) (p : ℕ) (m : List Triple → List Triple) (u : Triple)
    (a : Asked) (o : Option Outcome) (v : PassView S)
    → IsPassOf (w.process p) (w.trace p) v
    → IsReading y w (judged_to w p (record (w.process p) { memory = m (w.process p).memory }) u a o) p
    (judged_view o u a (record v { memory = m v.memory }))
judged_reading {S = S} y w p m u a None v k =
    let o' : Process = record (w.process p) { memory = m (w.process p).memory; basis = Some u; hold = Some a } in
    let f : PassView S → PassView S = λ x. judged_view None u a (record x { memory = m x.memory }) in record {
      step = plain_step w p o' (record { connect = refl; look = refl; acknowledged = refl; floor = omega arith });
      own = subst (λ (x : Process). IsPassOf x (w.trace p) (f v)) (sym (put_here w.process p o'))
          (record { told = k.told; rest = ap f k.rest });
      words = all_words y w p o' refl refl;
      cells = refl;
    }
judged_reading {S = S} y w p m u a (Some o) v k =
    let o' : Process = record (w.process p) { memory = m (w.process p).memory; basis = Some u; hold = None } in
    let e : Kept = Judged (element_of u.segno a (w.process p).floor o) a.op u.desc in
    let f : PassView S → PassView S = λ x. judged_view (Some o) u a (record x { memory = m x.memory }) in record {
      step = event_step w p o' e (record { connect = refl; look = refl; acknowledged = refl; floor = omega arith });
      own = own_here w p o' e (f v) (record { told = k.told; rest = ap f k.rest });
      words = all_words y w p o' refl refl;
      cells = refl;
    }

either_reading : {S : Type 0} (y : Layout) (w a b : World) (p : ℕ) (va vb : PassView S) (t : Bool)
    → IsReading y w a p va → IsReading y w b p vb → IsReading y w (pick t a b) p (pick t va vb)
either_reading y w a b p va vb true h k = h
either_reading y w a b p va vb false h k = k

loaded_reading : {S : Type 0} (y : Layout) (w : World) (p n : ℕ) (a : Asked) (word : DescriptorWord) (v : PassView S)
    → IsPassOf (w.process p) (w.trace p) v
    → IsReading y w (loaded w p n a word) p (loaded_view w.numbers n a word v)
loaded_reading {S = S} y w p n a (Fault number) v k = missed_reading y w p n number v k
loaded_reading {S = S} y w p n a (Valid number desc) v k =
    let u : Triple = record { segno = n; number = number; desc = desc } in
    let m : List Triple → List Triple = λ memory. pick (nat_lt n w.numbers) (remembered u memory) memory in
    subst (λ (f : ℕ). IsReading y w (loaded w p n a (Valid number desc)) p
    (pick (nat_le number f) (judged_view (at_once desc a) u a (remembering_view w.numbers u v))
    (missed_view n number v)))
    (ap (λ (x : PassView S). x.floor) k.rest)
    (either_reading y w _ _ p _ _ (nat_le number (w.process p).floor)
    (judged_reading y w p m u a (at_once desc a) v k) (missed_reading y w p n number v k))

codable : (w : World) (p n : ℕ) → Good w → (word : DescriptorWord)
    → IsWord w.start w.answered w.length (λ q. w.table q p n) (w.told p n) word → IsCodable word
codable w p n g (Valid number desc) is =
    let a = g.shape.limit in let b = g.access.answered_low in let c = is.high in
    (omega arith, subst IsAdmissible (is.stands w.answered c (omega arith)) (g.shape.admissible w.answered p n))
codable w p n g (Fault number) is = let a = g.shape.limit in let c = is.high in omega arith

pub judged_same : {S : Type 0} (o : Option Outcome) (u : Triple) (a : Asked) (v : PassView S)
    → IsSamePass v (judged_view o u a v)
judged_same None u a v = (refl, refl, refl, refl)
judged_same (Some o) u a v = (refl, refl, refl, refl)

either_same : {S : Type 0} (t : Bool) (b c v : PassView S) → IsSamePass v b → IsSamePass v c → IsSamePass v (pick t b c)
either_same true b c v h k = h
either_same false b c v h k = k

same_pass : {S : Type 0} (numbers n : ℕ) (a : Asked) (word : DescriptorWord) (v : PassView S)
    → IsSamePass v (loaded_view numbers n a word v)
same_pass numbers n a (Fault number) v = (refl, refl, refl, refl)
same_pass numbers n a (Valid number desc) v =
    let u : Triple = record { segno = n; number = number; desc = desc } in
    either_same (nat_le number v.floor) _ _ v (judged_same (at_once desc a) u a (remembering_view numbers u v))
    (refl, refl, refl, refl)

-- nobody knows more settled than the supervisor, and a process nothing above its floor
news : {S : Type 0} (w : World) (v : PassView S) (n : ℕ) → Good w
    → IsPassOf (w.process v.process) (w.trace v.process) v → (word : DescriptorWord)
    → IsWord w.start w.answered w.length (λ q. w.table q v.process n) (w.told v.process n) word → IsNews v n word
news {S = S} w v n g k (Valid number desc) is =
    let told = ap (λ (f : ℕ → ℕ → ℕ). f v.process n) k.told in
    let floor = ap (λ (x : PassView S). x.floor) k.rest in
    let a = (g.access.processes v.process).told v.process n in λ above. omega arith
news w v n g k (Fault number) is =
    let told = ap (λ (f : ℕ → ℕ → ℕ). f v.process n) k.told in
    let a = g.access.tolds v.process v.process n in let b = is.known in omega arith

pub load_desc_allowed : (S : Type 0) → LoadDescAllowed S
load_desc_allowed S y v n a ready small slots id s r len at lt =
    let w = r.world in
    let p = v.process in
    let k = r.views id (Pass v) at in
    let x : Part = DescriptorAt p n in
    let numbers_is = r.layout.numbers_is in
    let small' : n < w.numbers = omega arith in
    let m = slice_index s.words (number_in y x) in
    let word = w.word p n in
    let is : word_said m ≡ word = ap word_said (r.words.each x (k.1.low, k.1.high, small'))
    ∙ word_back word (codable w p n r.good word (r.good.access.words p n)) in
    let here : found w p n ≡ word = pick_true (nat_lt n w.numbers) word (Valid w.start unknown_desc)
    (grind (arith, nat_tests)) in
    let w' = loaded w p n a word in
    let v' = loaded_view y.numbers n a (word_said m) v in
    let reading : IsReading y w w' p v' = subst (λ (z : ℕ × DescriptorWord). IsReading y w w' p
    (loaded_view z.0 n a z.1 v)) (λ i. (numbers_is i, sym is i)) (loaded_reading y w p n a word v k.2) in (
      Pass v',
      keeps,
      tt,
      pass_moves y s r id v v' w' _ at (same_pass y.numbers n a (word_said m) v) reading.step
          (subst (λ (z : DescriptorWord). Good (loaded w p n a z)) here
          (load_desc_law w p n a r.good (record {
            range = k.1;
            ready = ap (λ (z : PassView S). z.stage) k.2.rest
                ∙ ready;
          })))
          reading.own
          (subst (λ (f : ℕ → _). (c : ℕ) → IsPlain (f c)) (sym reading.cells) r.plain)
          (subst (λ (z : Office). ShowsWords y z.processes z.numbers (content w') (set s.words (number_in y x) m))
          (sym reading.step.office)
          (load_words y w.processes w.numbers (content w) (content w') s.words (number_in y x) r.words reading.words)),
      (
        refl,
        (
          record {
            word = word;
            codable = codable w p n r.good word (r.good.access.words p n);
            is = r.words.each x (k.1.low, k.1.high, small');
          },
          subst (IsNews v n) (sym is) (news w v n r.good k.2 word (r.good.access.words p n)),
        ),
      ),
    )

-- a number that the table has not
pub load_unknown_allowed : (S : Type 0) → LoadUnknownAllowed S
load_unknown_allowed S y v n a ready past slots id s r len at lt =
    let w = r.world in
    let p = v.process in
    let k = r.views id (Pass v) at in
    let numbers_is = r.layout.numbers_is in
    let past' : w.numbers ≤ n = omega arith in
    let word : DescriptorWord = Valid w.start unknown_desc in
    let here : found w p n ≡ word = pick_false (nat_lt n w.numbers) (w.word p n) word (grind (arith, nat_tests)) in
    let w' = loaded w p n a word in
    let v' = loaded_view y.numbers n a (Valid v.start unknown_desc) v in
    let reading : IsReading y w w' p v' = subst (λ (z : ℕ × ℕ). IsReading y w w' p
    (loaded_view z.0 n a (Valid z.1 unknown_desc) v)) (λ i. (numbers_is i, sym k.3 i))
    (loaded_reading y w p n a word v k.2) in (
      Pass v',
      keeps,
      tt,
      pass_moves y s r id v v' w' _ at (same_pass y.numbers n a (Valid v.start unknown_desc) v) reading.step
          (subst (λ (z : DescriptorWord). Good (loaded w p n a z)) here
          (load_desc_law w p n a r.good (record {
            range = k.1;
            ready = ap (λ (z : PassView S). z.stage) k.2.rest ∙ ready;
          })))
          reading.own
          (subst (λ (f : ℕ → _). (c : ℕ) → IsPlain (f c)) (sym reading.cells) r.plain)
          (subst (λ (z : Office). ShowsWords y z.processes z.numbers (content w')
          (set s.words (number_in y (Flag p)) (slice_index s.words (number_in y (Flag p)))))
          (sym reading.step.office)
          (load_words y w.processes w.numbers (content w) (content w') s.words (number_in y (Flag p)) r.words
          reading.words)),
      refl,
    )
