-- Strike, Settle, Answer, Split and Report keep the invariant.
use Rattle.std.proofs.Common.{◌≡◌, inl, ℕ, ◌+◌, ◌≤◌, length, refl, ap, sym, subst, Some, None, arith}
use Rattle.std.specs.Prelude.{max}
use Rattle.std.proofs.lemmas.List.{length-map}
use Rattle.mx_sdw.specs.Descriptors.{unknown_desc}
use Rattle.mx_core.specs.Deeds.{deed_of, deeds, front, present, holding}
use Rattle.mx_core.specs.Invariant.{Good}
use Rattle.mx_core.specs.Laws.{StrikeLaw, SettleLaw, AnswerLaw, SplitLaw, ReportLaw}
use Rattle.mx_core.specs.Notions.{IsPair}
use Rattle.mx_core.specs.Put.{put}
use Rattle.mx_core.specs.Shapes.{IsShaped}
use Rattle.mx_core.specs.Striking.{with_word, settled}
use Rattle.mx_core.specs.Traces.{IsGoodTrace}
use Rattle.mx_core.specs.Words.{DescriptorWord, Valid, Fault, number_of}
use Rattle.mx_core.specs.World.{World}
use Rattle.mx_core.proofs.HistoryAccess.{strike_access, settle_access, answer_access, split_access}
use Rattle.mx_core.proofs.Parts.{number_within, nothing_pending}
use Rattle.mx_core.proofs.Puts.{put_all}
use Rattle.mx_core.proofs.ReadLaws.{nothing_done, front_within}
use Rattle.mx_core.proofs.TraceLaws.{trace_words}

-- a word of the table's own numbers changes
shape_word : (w : World) (p n : ℕ) (word : DescriptorWord) → IsShaped w → IsPair w p n → IsShaped (with_word w p n word)
shape_word w p n word s is = record {
  limit = s.limit;
  admissible = s.admissible;
  nobody = s.nobody;
  more = s.more;
  beyond = s.beyond;
  words = put_all (λ j f. (m : ℕ) → w.numbers ≤ m → f m ≡ Valid w.start unknown_desc) w.word p (put (w.word p) n word)
      (put_all (λ m x. w.numbers ≤ m → x ≡ Valid w.start unknown_desc) (w.word p) n word
      (λ l. let under = is.number in absurd (omega arith)) (λ m e. s.words p m))
      (λ j e. s.words j);
  idle_nobody = s.idle_nobody;
  idle_more = s.idle_more;
  reported = s.reported;
  marked = s.marked;
  memories = s.memories;
  notes = s.notes;
}

-- where its number does not fall, traces stay right
traces_word : (w : World) (p n : ℕ) (word : DescriptorWord) → Good w → number_of (w.word p n) ≤ number_of word
    → (j : ℕ) → IsGoodTrace w.start (w.process j).floor (λ q m. w.table q j m) (put w.word p (put (w.word p) n word) j)
    (w.trace j)
traces_word w p n word g more = put_all
    (λ j f. IsGoodTrace w.start (w.process j).floor (λ q m. w.table q j m) f (w.trace j)) w.word p
    (put (w.word p) n word)
    (trace_words w.start (w.process p).floor (λ q m. w.table q p m) (w.word p) (put (w.word p) n word) (w.trace p)
    (put_all (λ m x. number_of (w.word p m) ≤ number_of x) (w.word p) n word more (λ m e. omega arith)) (g.traces p))
    (λ j e. g.traces j)

pub strike_law : StrikeLaw
strike_law w p n g can = record {
  shape = shape_word w p n (Fault w.length) g.shape can.range;
  access = strike_access w p n g.access can.pending can.changed;
  traces = traces_word w p n (Fault w.length) g
      (number_within w.start w.answered w.length (λ q. w.table q p n) (w.told p n) (w.word p n) g.access.answered_low
      (g.access.words p n));
  reads = g.reads;
  memory = g.memory;
}

settled_good : (w : World) (p n k : ℕ) → Good w → IsPair w p n → w.answered ≡ w.length → w.word p n ≡ Fault k
    → Good (settled w p n (Fault k))
settled_good w p n k g is rest fault = record {
  shape = let s = shape_word w p n (Valid k (w.table w.length p n)) g.shape is in record {
    limit = s.limit;
    admissible = s.admissible;
    nobody = s.nobody;
    more = s.more;
    beyond = s.beyond;
    words = s.words;
    idle_nobody = s.idle_nobody;
    idle_more = s.idle_more;
    reported = s.reported;
    marked = s.marked;
    memories = s.memories;
    notes = s.notes;
  };
  access = settle_access w p n k g.access rest fault;
  traces = traces_word w p n (Valid k (w.table w.length p n)) g
      (subst (λ (x : DescriptorWord). number_of x ≤ k) (sym fault) (omega arith));
  reads = g.reads;
  memory = g.memory;
}

pub settle_law : SettleLaw
settle_law w p n g can = subst (λ (x : DescriptorWord). Good (settled w p n x)) (sym can.fault.at)
    (settled_good w p n can.fault.by g can.range (nothing_pending w g.access can.rest) can.fault.at)

pub answer_law : AnswerLaw
answer_law w g can = record {
  shape = let s = g.shape in record {
    limit = s.limit;
    admissible = s.admissible;
    nobody = s.nobody;
    more = s.more;
    beyond = s.beyond;
    words = s.words;
    idle_nobody = s.idle_nobody;
    idle_more = s.idle_more;
    reported = s.reported;
    marked = s.marked;
    memories = s.memories;
    notes = s.notes;
  };
  access = answer_access w g.access can.pending (λ p n c. (can.struck p n c, can.acknowledged p n c));
  traces = g.traces;
  reads = nothing_done (w.processes + 1) w.answered w.length (deeds w) (front w.start w.entry) (front w.start w.entry)
      (present w) (present w) (holding w)
      (omega arith) (let a = g.access.answered_low in omega arith) (λ u q l. refl) low (λ c h. inl h) g.reads;
  memory = record {
    cells = λ c. let is = g.memory.cells c in record {
      word = is.word;
      zero = is.zero;
      low = is.low;
      high = λ some. let a = is.high some in let b = g.access.answered_low in omega arith;
    };
    clean_zero = g.memory.clean_zero;
    clean_bare = g.memory.clean_bare_next;
    clean_bare_next = g.memory.clean_bare_next;
    covered_ready = g.memory.covered_ready_next;
    covered_ready_next = g.memory.covered_ready_next;
    given_bare = g.memory.given_bare;
  };
}
  where
    low : (u q : ℕ) → q ≤ w.length → front w.start w.entry u q ≤ length (deeds w u)
    low u q l =
        let same = length-map (w.trace u) (deed_of w.start w.given) in
        front_within w.start w.entry u q (length (deeds w u)) (λ r a b e.
        let m = (g.shape.marked r a (omega arith)).within in
        let f = ap (λ (v : ℕ). length (w.trace v)) e in omega arith)

pub split_law : SplitLaw
split_law w g can = record {
  shape = let s = g.shape in record {
    limit = s.limit;
    admissible = s.admissible;
    nobody = s.nobody;
    more = s.more;
    beyond = s.beyond;
    words = s.words;
    idle_nobody = s.idle_nobody;
    idle_more = s.idle_more;
    reported = s.reported;
    marked = s.marked;
    memories = s.memories;
    notes = put_all (λ i o. w.made + 1 ≤ i → o ≡ None) w.note w.made
        (Some (record { floor = w.answered; told = w.told })) (λ l. absurd (omega arith))
        (λ i n l. s.notes i (omega arith));
  };
  access = split_access w g.access (nothing_pending w g.access can.rest);
  traces = g.traces;
  reads = g.reads;
  memory = g.memory;
}

pub report_law : ReportLaw
report_law w p n g can = record {
  shape = let s = g.shape in record {
    limit = s.limit;
    admissible = s.admissible;
    nobody = s.nobody;
    more = s.more;
    beyond = s.beyond;
    words = s.words;
    idle_nobody = s.idle_nobody;
    idle_more = s.idle_more;
    reported = put_all (λ u m. m ≤ length (w.trace u)) w.reported p (max (w.reported p) n)
        (let a = s.reported p in let b = can.within in omega arith) (λ u e. s.reported u);
    marked = s.marked;
    memories = s.memories;
    notes = s.notes;
  };
  access = let a = g.access in record {
    start_low = a.start_low;
    answered_low = a.answered_low;
    length_high = a.length_high;
    words = a.words;
    processes = a.processes;
    tolds = a.tolds;
    notes = a.notes;
  };
  traces = g.traces;
  reads = g.reads;
  memory = g.memory;
}
