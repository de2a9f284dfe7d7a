-- LoadDesc and Recall keep the invariant.
use Rattle.std.proofs.Common.{◌≡◌, inr, ℕ, ◌<◌, ◌≤◌, Bool, true, false, List, refl, ap, sym, ◌∙◌, subst, Option, Some, None, Ok, arith}
use Rattle.std.specs.Prelude.{Result, Err, nat_le, nat_lt}
use Rattle.std.proofs.lemmas.Bool.{leb-true, leb-false, ltb-false}
use Rattle.mx_sdw.specs.declared.denials.Denial.{Denial}
use Rattle.mx_sdw.specs.declared.descriptors.Cell.{Cell}
use Rattle.mx_sdw.specs.Descriptors.{Descriptor, unknown_desc}
use Rattle.mx_sdw.specs.Judging.{judgement, ring_after}
use Rattle.mx_sdw.specs.Operations.{transfers}
use Rattle.mx_sdw.proofs.JudgingLaws.{granted_has_cell}
use Rattle.mx_reads.specs.Deeds.{CellUse}
use Rattle.mx_reads.specs.Growth.{IsQuietWithin}
use Rattle.mx_core.specs.AssociativeMemory.{remembered, IsAssociative}
use Rattle.mx_core.specs.RightWords.{IsAltered, IsValid, IsFault, IsWord}
use Rattle.mx_core.specs.Keeping.{IsReady, IsIn, IsTriple, IsHold}
use Rattle.mx_core.specs.Access.{IsAccess}
use Rattle.mx_core.specs.Deeds.{deed_by}
use Rattle.mx_core.specs.Invariant.{Good}
use Rattle.mx_core.specs.Judging.{IsGranted, Agrees, at_once_by, at_once, stamp_read}
use Rattle.mx_core.specs.Laws.{LoadDescLaw, RecallLaw}
use Rattle.mx_core.specs.Loading.{element_of, based, judged_to, judged, missed, found, remembering, loaded, recalling}
use Rattle.mx_core.specs.Notions.{IsProcess, with_process}
use Rattle.mx_core.specs.Pages.{cell_at, cell_use}
use Rattle.mx_core.specs.Put.{pick}
use Rattle.mx_core.specs.Words.{DescriptorWord, Valid, Fault, Triple, Asked, number_of}
use Rattle.mx_core.specs.World.{Process, Judged, Missed, World}
use Rattle.mx_core.specs.declared.elements.Outcome.{Outcome}
use Rattle.mx_core.specs.declared.elements.Outcome.TheVariants as outcome
use Rattle.mx_core.proofs.Access.{miss_access}
use Rattle.mx_core.proofs.JudgingAccess.{renews, load_desc_access, recall_access}
use Rattle.mx_core.proofs.Memories.{remembered_renews, remembered_associative, recalled_in}
use Rattle.mx_core.proofs.Parts.{good_process, good_event, is_ready}
use Rattle.mx_core.proofs.Puts.{pick_all}
use Rattle.mx_core.proofs.TraceLaws.{trace_element, trace_miss}

-- what needs no cell step is as the rule says, and is neither read nor store
record IsAtOnce (d : Descriptor) (a : Asked) (o : Outcome) : Type 0 where
  pub agrees : Agrees d a o
  pub stamp : stamp_read o ≡ 0
  pub quiet : (c : CellUse) (point bound : ℕ) → point ≤ bound → IsQuietWithin bound (deed_by c point o)

same_outcome : (x y : Outcome) → Some x ≡ Some y → x ≡ y
same_outcome x y h = cc

once : (d : Descriptor) (a : Asked) (through : Bool) (ruled : Result Cell Denial) (o : Outcome)
    → transfers a.op ≡ through
    → judgement d a.op a.ring a.word ≡ ruled → at_once_by d a through ruled ≡ Some o → IsAtOnce d a o
once d a through (Err denial) o e r h = subst (IsAtOnce d a) (same_outcome (outcome.Denied denial) o h) (record {
  agrees = r;
  stamp = refl;
  quiet = λ c point bound l. record { quiet = tt; within = l };
})
once d a true (Ok cell) o e r h =
    subst (IsAtOnce d a) (same_outcome (outcome.Entered (ring_after d a.op a.ring)) o h) (record {
      agrees = (r ∙ ap Ok (granted_has_cell d a.op a.ring a.word cell r), e, refl);
      stamp = refl;
      quiet = λ c point bound l. record { quiet = tt; within = l };
    })
once d a false (Ok cell) o e r h = cc

-- what is not over at once is granted and waits for its cell step
record Waits (d : Descriptor) (a : Asked) : Type 0 where
  pub granted : IsGranted d a
  pub waits : transfers a.op ≡ false

waiting : (d : Descriptor) (a : Asked) (through : Bool) (ruled : Result Cell Denial) → transfers a.op ≡ through
    → judgement d a.op a.ring a.word ≡ ruled → at_once_by d a through ruled ≡ None → Waits d a
waiting d a through (Err denial) e r h = cc
waiting d a true (Ok cell) e r h = cc
waiting d a false (Ok cell) e r h =
    record { granted = r ∙ ap Ok (granted_has_cell d a.op a.ring a.word cell r); waits = e }

same_asked : (a b : Asked) → Some a ≡ Some b → a ≡ b
same_asked a b h = cc

none_asked : (a : Asked) → None ≡ Some a → ⊥
none_asked a h = cc

-- a process judges on a triple that is the table's at its floor
judged_good : (w : World) (p : ℕ) (o : Process) (u : Triple) (a : Asked) → Good w → IsProcess w p
    → o.floor ≡ (w.process p).floor → IsAssociative o.memory
    → ((hold : Option Asked) → ((x : Asked) → hold ≡ Some x → IsHold (Some u) x)
    → IsAccess (with_process w p (based o u hold)))
    → u.desc ≡ w.table o.floor p u.segno → Good (judged w p o u a)
judged_good w p o u a g is floor few access stands = by_outcome (at_once u.desc a) refl
  where
    low : w.start ≤ o.floor
    low = let l = (g.access.processes p).floor_low in omega arith

    high : o.floor ≤ w.answered
    high = let l = (g.access.processes p).floor_high in omega arith

    by_outcome : (x : Option Outcome) → at_once u.desc a ≡ x → Good (judged_to w p o u a x)
    by_outcome None e =
        let waits = waiting u.desc a (transfers a.op) (judgement u.desc a.op a.ring a.word) refl refl e in
        good_process w p (based o u (Some a)) g (access (Some a) (λ x h. record {
          on = u;
          is = refl;
          granted = subst (IsGranted u.desc) (same_asked a x h) waits.granted;
          waits = ap (λ (y : Asked). transfers y.op) (sym (same_asked a x h)) ∙ waits.waits;
        })) (omega arith) few
    by_outcome (Some outcome) e =
        let here = once u.desc a (transfers a.op) (judgement u.desc a.op a.ring a.word) outcome refl refl e in
        let none = here.stamp in
        good_event w p (based o u None) (Judged (element_of u.segno a o.floor outcome) a.op u.desc) g is
        (access None (λ x h. absurd (none_asked x h))) few
        (trace_element w.start (w.process p).floor o.floor (λ q n. w.table q p n) (w.word p) (w.trace p)
        (element_of u.segno a o.floor outcome) a.op u.desc
        (omega arith) floor (record {
          kind = refl;
          right = here.agrees;
          stands = stands;
          low = low;
          high = omega arith;
          stamp = omega arith;
        }) (g.traces p))
        (here.quiet (cell_use w.start w.given (cell_at u.desc a.word) o.floor) o.floor w.answered high)

-- a process misses a number by an entry that changed it, and whose number the word has
missed_good : (w : World) (p n by : ℕ) → Good w → IsProcess w p → w.start < by → IsAltered (λ q. w.table q p n) by
    → by ≤ number_of (w.word p n)
    → Good (missed w p n by)
missed_good w p n by g is after altered most =
    good_event w p (record (w.process p) { basis = None; hold = None }) (Missed n by) g is (miss_access w p g.access)
    (g.shape.memories p)
    (trace_miss w.start (w.process p).floor (λ q m. w.table q p m) (w.word p) (w.trace p) n by
    (record { after = after; altered = altered; most = most }) (g.traces p))
    (record { quiet = tt; within = tt })

-- what LoadDesc finds is the word, also beyond the numbers
found_word : (w : World) (p n : ℕ) → Good w → found w p n ≡ w.word p n
found_word w p n g =
    pick_all (λ (x : DescriptorWord). x ≡ w.word p n) (nat_lt n w.numbers) (w.word p n) (Valid w.start unknown_desc)
    (λ e. refl) (λ e. sym (g.shape.words p n (ltb-false n w.numbers e)))

loaded_good : (w : World) (p n : ℕ) (a : Asked) → Good w → IsProcess w p → IsReady (w.process p).stage
    → (word : DescriptorWord) → w.word p n ≡ word
    → Good (loaded w p n a word)
loaded_good w p n a g is ready (Fault k) e =
    let fault : IsFault w.start w.answered w.length (λ q. w.table q p n) (w.told p n) k =
    subst (IsWord w.start w.answered w.length (λ q. w.table q p n) (w.told p n)) e (g.access.words p n) in
    missed_good w p n k g is fault.low fault.altered
    (subst (λ (x : DescriptorWord). k ≤ number_of x) (sym e) (omega arith))
loaded_good w p n a g is ready (Valid k d) e =
    pick_all Good (nat_le k (w.process p).floor) (judged w p (remembering w (w.process p) u) u a) (missed w p n k)
    (λ h. judged_good w p (remembering w (w.process p) u) u a g is refl few
    (λ hold held. load_desc_access w p u memory hold g.access ready e (leb-true k (w.process p).floor h) renewed held)
    (sym (valid.stands (w.process p).floor (leb-true k (w.process p).floor h) (g.access.processes p).floor_high)))
    (λ h.
    let above = leb-false k (w.process p).floor h in
    let low = (g.access.processes p).floor_low in
    missed_good w p n k g is (omega arith) (valid.altered (omega arith))
    (subst (λ (x : DescriptorWord). k ≤ number_of x) (sym e) (omega arith)))
  where
    u : Triple
    u = record { segno = n; number = k; desc = d }

    valid : IsValid w.start w.answered (λ q. w.table q p n) (w.told p n) k d
    valid = subst (IsWord w.start w.answered w.length (λ q. w.table q p n) (w.told p n)) e (g.access.words p n)

    memory : List Triple
    memory = pick (nat_lt n w.numbers) (remembered u (w.process p).memory) (w.process p).memory

    renewed : renews u (w.process p).memory memory
    renewed = pick_all (renews u (w.process p).memory) (nat_lt n w.numbers) (remembered u (w.process p).memory)
        (w.process p).memory
        (λ h. remembered_renews u (w.process p).memory) (λ h i v at. inr (record { i = i; at = at }))

    few : IsAssociative memory
    few = pick_all IsAssociative (nat_lt n w.numbers) (remembered u (w.process p).memory) (w.process p).memory
        (λ h. remembered_associative u (w.process p).memory (g.shape.memories p)) (λ h. g.shape.memories p)

pub load_desc_law : LoadDescLaw
load_desc_law w p n a g can =
    loaded_good w p n a g can.range (is_ready (w.process p).stage can.ready) (found w p n) (sym (found_word w p n g))

pub recall_law : RecallLaw
recall_law w p n a g can = subst (λ (o : Option Triple). Good (recalling w p a o)) (sym can.recall.at)
    (judged_good w p (w.process p) u a g can.range refl (g.shape.memories p)
    (λ hold held. recall_access w p u hold g.access ready in' held)
    (sym (t.stands (w.process p).floor t.high (g.access.processes p).floor_high)))
  where
    u : Triple
    u = can.recall.triple

    ready : IsReady (w.process p).stage
    ready = is_ready (w.process p).stage can.ready

    in' : IsIn u (w.process p).memory
    in' = recalled_in n (w.process p).memory u can.recall.at

    t : IsTriple w.start (w.process p).floor w.answered w.length (w.process p).acknowledged (λ q m. w.table q p m) u
    t = (g.access.processes p).triples (inr ready) u (inr in')
