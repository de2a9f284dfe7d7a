-- The parts of the invariant, where one process changes, or keeps one event more.
use Rattle.std.proofs.Common.{◌≡◌, ◌≢◌, ℕ, ◌+◌, ◌≤◌, Bool, [], ◌∷◌, ◌++◌, map, length, refl, ap, sym, ◌∙◌, subst, arith}
use Rattle.std.proofs.lemmas.List.{length-append}
use Rattle.mx_sdw.specs.Descriptors.{Descriptor}
use Rattle.mx_reads.specs.Growth.{IsQuietWithin}
use Rattle.mx_reads.specs.Held.{Held, AreRight}
use Rattle.mx_core.specs.AssociativeMemory.{IsAssociative}
use Rattle.mx_core.specs.Access.{IsAccess}
use Rattle.mx_core.specs.RightWords.{IsWord}
use Rattle.mx_core.specs.Keeping.{IsReady}
use Rattle.mx_core.specs.Deeds.{deed_of, front, present, holding}
use Rattle.mx_core.specs.Invariant.{Good}
use Rattle.mx_core.specs.Loading.{with_event}
use Rattle.mx_core.specs.Notions.{IsProcess, with_process}
use Rattle.mx_core.specs.Put.{put}
use Rattle.mx_core.specs.Shapes.{IsShaped}
use Rattle.mx_core.specs.Traces.{IsGoodTrace}
use Rattle.mx_core.specs.Words.{DescriptorWord, Valid, Fault, number_of}
use Rattle.mx_core.specs.World.{Stage, Ready, Process, Kept, World}
use Rattle.mx_core.proofs.Puts.{put_all, put_here, put_else}
use Rattle.mx_core.proofs.ReadLaws.{quiet_event}
use Rattle.mx_core.proofs.TraceLaws.{trace_risen}

pub shape_process : (w : World) (p : ℕ) (o : Process) → IsShaped w → IsAssociative o.memory
    → IsShaped (with_process w p o)
shape_process w p o s few = record {
  limit = s.limit;
  admissible = s.admissible;
  nobody = s.nobody;
  more = s.more;
  beyond = s.beyond;
  words = s.words;
  idle_nobody = s.idle_nobody;
  idle_more = s.idle_more;
  reported = s.reported;
  marked = s.marked;
  memories = put_all (λ j a. IsAssociative a.memory) w.process p o few (λ j n. s.memories j);
  notes = s.notes;
}

pub shape_event : (w : World) (p : ℕ) (event : Kept) → IsShaped w → IsProcess w p → IsShaped (with_event w p event)
shape_event w p event s is = record {
  limit = s.limit;
  admissible = s.admissible;
  nobody = s.nobody;
  more = s.more;
  beyond = s.beyond;
  words = s.words;
  idle_nobody =
      let low = is.low in
      ap length (put_else w.trace p (w.trace p ++ event ∷ []) 0 (λ e. absurd (omega arith))) ∙ s.idle_nobody;
  idle_more = λ u more.
      let high = is.high in
      ap length (put_else w.trace p (w.trace p ++ event ∷ []) u (λ e. absurd (omega arith))) ∙ s.idle_more u more;
  reported = put_all (λ u l. w.reported u ≤ length l) w.trace p (w.trace p ++ event ∷ [])
      (let a = s.reported p in let b = longer in omega arith) (λ u n. s.reported u);
  marked = λ q a b. let m = s.marked q a b in record {
    low = m.low;
    high = m.high;
    within = put_all (λ u l. u ≡ (w.entry q).process → (w.entry q).mark ≤ length l) w.trace p (w.trace p ++ event ∷ [])
        (λ e. let c = m.within in let d = ap (λ (u : ℕ). length (w.trace u)) e in let f = longer in omega arith)
        (λ u n e. let c = m.within in let d = ap (λ (v : ℕ). length (w.trace v)) e in omega arith) (w.entry q).process
        refl;
  };
  memories = s.memories;
  notes = s.notes;
}
  where
    longer : length (w.trace p ++ event ∷ []) ≡ length (w.trace p) + 1
    longer = length-append (w.trace p) (event ∷ [])

pub access_event : (w : World) (p : ℕ) (event : Kept) → IsAccess w → IsAccess (with_event w p event)
access_event w p event g = record {
  start_low = g.start_low;
  answered_low = g.answered_low;
  length_high = g.length_high;
  words = g.words;
  processes = g.processes;
  tolds = g.tolds;
  notes = g.notes;
}

-- a process's step that keeps nothing and touches no cell
pub good_process : (w : World) (p : ℕ) (o : Process) → Good w → IsAccess (with_process w p o)
    → (w.process p).floor ≤ o.floor → IsAssociative o.memory
    → Good (with_process w p o)
good_process w p o g access more few = record {
  shape = shape_process w p o g.shape few;
  access = access;
  traces = put_all (λ j a. IsGoodTrace w.start a.floor (λ q n. w.table q j n) (w.word j) (w.trace j)) w.process p o
      (trace_risen w.start (w.process p).floor o.floor (λ q n. w.table q p n) (w.word p) (w.trace p) more (g.traces p))
      (λ j n. g.traces j);
  reads = g.reads;
  memory = g.memory;
}

-- the traces of all processes, where one changes and keeps one event more
pub traces_event : (w : World) (p : ℕ) (o : Process) (event : Kept)
    → ((j : ℕ) → IsGoodTrace w.start (w.process j).floor (λ q n. w.table q j n) (w.word j) (w.trace j))
    → IsGoodTrace w.start o.floor (λ q n. w.table q p n) (w.word p) (w.trace p ++ event ∷ [])
    → (j : ℕ) → IsGoodTrace w.start (put w.process p o j).floor (λ q n. w.table q j n) (w.word j)
    (put w.trace p (w.trace p ++ event ∷ []) j)
traces_event w p o event all here = put_both_here
  where
    at_floor : (j : ℕ) → j ≢ p → IsGoodTrace w.start (put w.process p o j).floor (λ q n. w.table q j n) (w.word j)
        (w.trace j)
    at_floor j n = subst (λ (a : Process). IsGoodTrace w.start a.floor (λ q n. w.table q j n) (w.word j) (w.trace j))
        (sym (put_else w.process p o j n)) (all j)

    put_both_here : (j : ℕ) → IsGoodTrace w.start (put w.process p o j).floor (λ q n. w.table q j n) (w.word j)
        (put w.trace p (w.trace p ++ event ∷ []) j)
    put_both_here = put_all (λ j t. IsGoodTrace w.start (put w.process p o j).floor (λ q n. w.table q j n) (w.word j)
        t) w.trace p (w.trace p ++ event ∷ [])
        (subst (λ (a : Process). IsGoodTrace w.start a.floor (λ q n. w.table q p n) (w.word p)
        (w.trace p ++ event ∷ [])) (sym (put_here w.process p o)) here)
        at_floor

-- a process's step that keeps an event
pub good_kept : (w : World) (p : ℕ) (o : Process) (event : Kept) → Good w → IsProcess w p
    → IsAccess (with_process w p o) → IsAssociative o.memory
    → IsGoodTrace w.start o.floor (λ q n. w.table q p n) (w.word p) (w.trace p ++ event ∷ [])
    → AreRight (w.processes + 1) w.answered
    (λ u. map (deed_of w.start w.given) (put w.trace p (w.trace p ++ event ∷ []) u)) (front w.start w.entry)
    (present w) (holding w)
    → Good (with_event (with_process w p o) p event)
good_kept w p o event g is access few here reads = record {
  shape = shape_event (with_process w p o) p event (shape_process w p o g.shape few)
      (record { low = is.low; high = is.high });
  access = access_event (with_process w p o) p event access;
  traces = traces_event w p o event g.traces here;
  reads = reads;
  memory = g.memory;
}

-- which is neither read nor store
pub good_event : (w : World) (p : ℕ) (o : Process) (event : Kept) → Good w → IsProcess w p
    → IsAccess (with_process w p o) → IsAssociative o.memory
    → IsGoodTrace w.start o.floor (λ q n. w.table q p n) (w.word p) (w.trace p ++ event ∷ [])
    → IsQuietWithin w.answered (deed_of w.start w.given event)
    → Good (with_event (with_process w p o) p event)
good_event w p o event g is access few here quiet =
    let high = is.high in good_kept w p o event g is access few here
    (quiet_event w p w.answered event (omega arith) quiet g.reads)

-- cells, clean cells and ready pages are no matter of these parts
pub shape_memory : (w : World) (cell : ℕ → Held) (clean ready : ℕ → Bool) → IsShaped w
    → IsShaped (record w { cell = cell; clean = clean; ready = ready })
shape_memory w cell clean ready s = record {
  limit = s.limit;
  admissible = s.admissible;
  nobody = s.nobody;
  more = s.more;
  beyond = s.beyond;
  words = s.words;
  idle_nobody = s.idle_nobody;
  idle_more = s.idle_more;
  reported = s.reported;
  marked = s.marked;
  memories = s.memories;
  notes = s.notes;
}

pub access_memory : (w : World) (cell : ℕ → Held) (clean ready : ℕ → Bool) → IsAccess w
    → IsAccess (record w { cell = cell; clean = clean; ready = ready })
access_memory w cell clean ready g = record {
  start_low = g.start_low;
  answered_low = g.answered_low;
  length_high = g.length_high;
  words = g.words;
  processes = g.processes;
  tolds = g.tolds;
  notes = g.notes;
}

-- the number in a word is within the history
pub number_within : (start answered len : ℕ) (h : ℕ → Descriptor) (told : ℕ) (word : DescriptorWord) → answered ≤ len
    → IsWord start answered len h told word
    → number_of word ≤ len
number_within start answered len h told (Valid k d) l is = let high = is.high in omega arith
number_within start answered len h told (Fault k) l is = is.high

pub nothing_pending : (w : World) → IsAccess w → w.length ≤ w.answered → w.answered ≡ w.length
nothing_pending w g rest = let low = g.answered_low in omega arith

pub is_ready : (stage : Stage) → stage ≡ Ready → IsReady stage
is_ready stage e = subst IsReady (sym e) tt
