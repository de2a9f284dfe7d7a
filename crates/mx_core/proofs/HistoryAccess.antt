-- The supervisor's steps on the history and the words: the access part is kept.
use Rattle.std.proofs.Common.{◌≡◌, ◌≢◌, inl, inr, ℕ, ◌+◌, ◌<◌, ◌≤◌, List, refl, ap, sym, ◌∙◌, subst, Some, arith}
use Rattle.std.specs.Prelude.{IsTrue}
use Rattle.std.proofs.lemmas.Bool.{cases_eq, cases_lt}
use Rattle.mx_sdw.specs.Descriptors.{Descriptor}
use Rattle.mx_core.specs.RightWords.{IsAltered, IsFault, IsWord}
use Rattle.mx_core.specs.Keeping.{IsLate, IsCut}
use Rattle.mx_core.specs.Processes.{IsGoodProcess}
use Rattle.mx_core.specs.Access.{IsGoodNote, IsAccess}
use Rattle.mx_core.specs.Acknowledging.{forgotten, after_answer}
use Rattle.mx_core.specs.Append.{with_changes, after_append}
use Rattle.mx_core.specs.Notes.{after_split}
use Rattle.mx_core.specs.Notions.{IsChanged, IsStruck}
use Rattle.mx_core.specs.Put.{put}
use Rattle.mx_core.specs.Striking.{after_strike, settled}
use Rattle.mx_core.specs.Words.{DescriptorWord, Valid, Fault}
use Rattle.mx_core.specs.World.{Process, Note, World}
use Rattle.mx_core.specs.declared.changes.Change.{Change}
use Rattle.mx_core.specs.declared.changes.Run.{Run}
use Rattle.mx_core.proofs.Access.{valid_fault, same_fault, true_false, told_under, told_most}
use Rattle.mx_core.proofs.Descriptors.{same_descriptor}
use Rattle.mx_core.proofs.Puts.{put_all, put_both, put_else}

same_note : (a b : Note) → Some a ≡ Some b → a ≡ b
same_note a b h = cc

-- a note is made
pub split_access : (w : World) → IsAccess w → w.answered ≡ w.length → IsAccess (after_split w)
split_access w g rest = record {
  start_low = g.start_low;
  answered_low = g.answered_low;
  length_high = g.length_high;
  words = g.words;
  processes = g.processes;
  tolds = g.tolds;
  notes = put_all (λ j o. (a : Note) → o ≡ Some a → IsGoodNote w.start w.answered w.told a) w.note w.made
      (Some (record { floor = w.answered; told = w.told }))
      (λ a e. subst (λ (o : Note). IsGoodNote w.start w.answered w.told o)
      (same_note (record { floor = w.answered; told = w.told }) a e) fresh) (λ j n. g.notes j);
}
  where
    fresh : IsGoodNote w.start w.answered w.told (record { floor = w.answered; told = w.told })
    fresh = record {
      low = g.start_low;
      high = omega arith;
      own = λ p n. told_most w.start w.answered w.length (λ q. w.table q p n) (w.told p n) (w.word p n) rest
          (g.words p n);
      most = λ p n. omega arith;
    }

-- Append: nothing changes up to the old length
altered_same : (h h' : ℕ → Descriptor) (k len : ℕ) → ((q : ℕ) → q ≤ len → h' q ≡ h q) → k ≤ len → IsAltered h k
    → IsAltered h' k
altered_same h h' k len same under a = let next = a.next in record {
  before = a.before;
  next = a.next;
  differs = λ e. a.differs (sym (same k under) ∙ e ∙ same a.before (omega arith));
}

word_same : (start ans len : ℕ) (h h' : ℕ → Descriptor) (told : ℕ) (wd : DescriptorWord) → ans ≤ len
    → ((q : ℕ) → q ≤ len → h' q ≡ h q)
    → IsWord start ans len h told wd → IsWord start ans (len + 1) h' told wd
word_same start ans len h h' told (Valid k d) l same is = let high = is.high in record {
  low = is.low;
  high = is.high;
  stands = λ q a b. same q (omega arith) ∙ is.stands q a b;
  altered = λ a. altered_same h h' k len same (omega arith) (is.altered a);
  known = is.known;
}
word_same start ans len h h' told (Fault k) l same is = let high = is.high in record {
  low = is.low;
  high = omega arith;
  stands = λ q a b. same q (omega arith) ∙ is.stands q a b ∙ sym (same k high);
  altered = altered_same h h' k len same high is.altered;
  known = is.known;
}

-- an entry comes
pub append_access : (w : World) (u : ℕ) (changes : List Change) (given : List Run) → IsAccess w → w.answered ≡ w.length
    → IsAccess (after_append w u changes given)
append_access w u changes given g rest = record {
  start_low = g.start_low;
  answered_low = omega arith;
  length_high = omega arith;
  words = λ p n. word_same w.start w.answered w.length (λ q. w.table q p n)
      (λ q. (after_append w u changes given).table q p n) (w.told p n) (w.word p n) g.answered_low (same p n)
      (g.words p n);
  processes = proc;
  tolds = g.tolds;
  notes = g.notes;
}
  where
    next : ℕ → ℕ → Descriptor
    next = with_changes changes (w.table w.length)

    same : (p n q : ℕ) → q ≤ w.length → put w.table (w.length + 1) next q p n ≡ w.table q p n
    same p n q l =
        ap (λ (t : ℕ → ℕ → Descriptor). t p n) (put_else w.table (w.length + 1) next q (λ e. absurd (omega arith)))

    proc : (p : ℕ) → IsGoodProcess w.start w.answered (w.length + 1) (λ q n. put w.table (w.length + 1) next q p n)
        (w.word p) (w.process p)
    proc p = let is = g.processes p in let high = is.connect_high in record {
      floor_low = is.floor_low;
      floor_high = is.floor_high;
      told = is.told;
      ready = is.ready;
      triples = λ cur u k. let t = is.triples cur u k in record {
        low = t.low;
        high = t.high;
        stands = λ q a b. let l = g.answered_low in same p u.segno q (omega arith) ∙ t.stands q a b;
        now = λ a. let b = (is.acknowledged a).0 in absurd (omega arith);
      };
      hold = is.hold;
      acknowledged = λ a. let b = (is.acknowledged a).0 in absurd (omega arith);
      late = λ l. let b = (is.late l).0 in absurd (omega arith);
      cleared_low = is.cleared_low;
      cleared_high = is.cleared_high;
      connect_high = omega arith;
      cut = λ l e. absurd (omega arith);
      same = λ l e c u k. absurd (omega arith);
      flag = is.flag;
      look = λ n. let b = (is.look n).0 in absurd (omega arith);
      looked = is.looked;
    }

-- the words of a process stand in its clause as far as they are struck
proc_words : (start ans len : ℕ) (h : ℕ → ℕ → Descriptor) (word word' : ℕ → DescriptorWord) (o : Process)
    → (IsCut ans len h word → IsCut ans len h word') → IsGoodProcess start ans len h word o
    → IsGoodProcess start ans len h word' o
proc_words start ans len h word word' o go is = record {
  floor_low = is.floor_low;
  floor_high = is.floor_high;
  told = is.told;
  ready = is.ready;
  triples = is.triples;
  hold = is.hold;
  acknowledged = is.acknowledged;
  late = is.late;
  cleared_low = is.cleared_low;
  cleared_high = is.cleared_high;
  connect_high = is.connect_high;
  cut = λ l e. go (is.cut l e);
  same = is.same;
  flag = is.flag;
  look = is.look;
  looked = is.looked;
}

-- a changed word is struck
pub strike_access : (w : World) (p n : ℕ) → IsAccess w → w.answered < w.length → IsChanged w p n
    → IsAccess (after_strike w p n)
strike_access w p n g pends changed = record {
  start_low = g.start_low;
  answered_low = g.answered_low;
  length_high = g.length_high;
  words = put_all (λ j f. (m : ℕ) → IsWord w.start w.answered w.length (λ q. w.table q j m) (w.told j m) (f m)) w.word
      p (put (w.word p) n (Fault w.length))
      (put_all (λ m wd. IsWord w.start w.answered w.length (λ q. w.table q p m) (w.told p m) wd) (w.word p) n
      (Fault w.length) here (λ m o. g.words p m))
      (λ j o. g.words j);
  processes = put_all (λ j f. IsGoodProcess w.start w.answered w.length (λ q m. w.table q j m) f (w.process j)) w.word
      p (put (w.word p) n (Fault w.length))
      (proc_words w.start w.answered w.length (λ q m. w.table q p m) (w.word p) (put (w.word p) n (Fault w.length))
      (w.process p) more (g.processes p))
      (λ j o. g.processes j);
  tolds = g.tolds;
  notes = g.notes;
}
  where
    here : IsWord w.start w.answered w.length (λ q. w.table q p n) (w.told p n) (Fault w.length)
    here = let a = g.start_low in let b = g.length_high in
        let next : w.length ≡ w.answered + 1 = omega arith in record {
          low = omega arith;
          high = omega arith;
          stands = λ q c d. absurd (omega arith);
          altered = record { before = w.answered; next = next; differs = changed };
          known =
              told_under w.start w.answered w.length (λ q. w.table q p n) (w.told p n) (w.word p n) pends (g.words p n);
        }

    more : IsCut w.answered w.length (λ q m. w.table q p m) (w.word p)
        → IsCut w.answered w.length (λ q m. w.table q p m) (put (w.word p) n (Fault w.length))
    more is = record {
      segno = is.segno;
      changed = is.changed;
      struck = put_all (λ m wd. w.table w.length p m ≢ w.table w.answered p m → wd ≡ Fault w.length) (w.word p) n
          (Fault w.length) (λ c. refl) (λ m o. is.struck m);
    }

-- Answer: what is unchanged stands, and what is changed is struck
word_answered : (start ans len : ℕ) (h : ℕ → Descriptor) (told : ℕ) (wd : DescriptorWord) → ans < len → len ≤ ans + 1
    → (h len ≢ h ans → wd ≡ Fault len)
    → IsWord start ans len h told wd → IsWord start len len h told wd
word_answered start ans len h told (Valid k d) l m all is = let high = is.high in record {
  low = is.low;
  high = omega arith;
  stands = λ q a b. elim (cases_lt ans q) [
    | inr old ↦ is.stands q a old
    | inl new ↦ let e : q ≡ len = omega arith in ap h e ∙ at_len ∙ is.stands ans high (omega arith)
  ];
  altered = is.altered;
  known = is.known;
}
  where
    at_len : h len ≡ h ans
    at_len = elim (same_descriptor (h len) (h ans)) [
      | inl same ↦ same
      | inr changed ↦ absurd (valid_fault k len d (all changed))
    ]
word_answered start ans len h told (Fault k) l m all is = let high = is.high in record {
  low = is.low;
  high = is.high;
  stands = λ q a b. elim (cases_lt ans q) [
    | inr old ↦ is.stands q a old
    | inl new ↦ let e : q ≡ len = omega arith in ap h e ∙ at_len
  ];
  altered = is.altered;
  known = is.known;
}
  where
    at_len : h len ≡ h k
    at_len = elim (cases_eq k len) [
      | inl e ↦ ap h (sym e)
      | inr n ↦ elim (same_descriptor (h len) (h ans)) [
        | inl same ↦ let high = is.high in same ∙ is.stands ans (omega arith) (omega arith)
        | inr changed ↦ absurd (n (same_fault k len (all changed)))
      ]
    ]

pub answer_access : (w : World) → IsAccess w → w.answered < w.length
    → ((p n : ℕ) → IsChanged w p n → IsStruck w p n × IsTrue (w.process p).acknowledged) → IsAccess (after_answer w)
answer_access w g pends all = record {
  start_low = let a = g.start_low in omega arith;
  answered_low = omega arith;
  length_high = omega arith;
  words = λ p n. word_answered w.start w.answered w.length (λ q. w.table q p n) (w.told p n) (w.word p n) pends
      g.length_high (λ c. (all p n c).0) (g.words p n);
  processes = proc;
  tolds = g.tolds;
  notes = λ i a e. let o = g.notes i a e in let high = o.high in record
      { low = o.low; high = omega arith; own = o.own; most = o.most };
}
  where
    never_late : (p : ℕ) → IsLate (w.process p).cleared (w.process p).connect (w.process p).stage → ⊥
    never_late p l =
        let is = g.processes p in
        let b = is.late l in
        let cut = is.cut b.0 b.1 in
        let a = (all p cut.segno cut.changed).1 in
        (is.acknowledged a).2 l

    proc : (p : ℕ) → IsGoodProcess w.start w.length w.length (λ q n. w.table q p n) (w.word p) (forgotten (w.process p))
    proc p = let is = g.processes p in let floor = is.floor_high in record {
      floor_low = is.floor_low;
      floor_high = omega arith;
      told = is.told;
      ready = is.ready;
      triples = λ cur u k. let t = is.triples cur u k in let high = t.high in record {
        low = t.low;
        high = t.high;
        stands = λ q a b. elim (cases_lt w.answered q) [
          | inr old ↦ t.stands q a old
          | inl new ↦
              let m = g.length_high in
              let e : q ≡ w.length = omega arith in
              ap (λ (r : ℕ). w.table r p u.segno) e ∙ elim
              (same_descriptor (w.table w.length p u.segno) (w.table w.answered p u.segno)) [
                | inl same ↦ same ∙ t.stands w.answered (omega arith) (omega arith)
                | inr changed ↦ t.now (all p u.segno changed).1
              ]
        ];
        now = λ a. absurd (true_false a);
      };
      hold = is.hold;
      acknowledged = λ a. absurd (true_false a);
      late = λ l. absurd (never_late p l);
      cleared_low = is.cleared_low;
      cleared_high = is.cleared_high;
      connect_high = is.connect_high;
      cut = λ l e. absurd (omega arith);
      same = λ l e c u k. absurd (omega arith);
      flag = is.flag;
      look = λ n. absurd (n refl);
      looked = λ n. absurd (n refl);
    }

-- a fault settles
pub settle_access : (w : World) (p n k : ℕ) → IsAccess w → w.answered ≡ w.length → w.word p n ≡ Fault k
    → IsAccess (settled w p n (Fault k))
settle_access w p n k g rest fault = record {
  start_low = g.start_low;
  answered_low = g.answered_low;
  length_high = g.length_high;
  words = put_both (λ j f t. (m : ℕ) → IsWord w.start w.answered w.length (λ q. w.table q j m) (t m) (f m)) w.word
      w.told p (put (w.word p) n word) (put (w.told p) n k)
      (put_both (λ m wd t. IsWord w.start w.answered w.length (λ q. w.table q p m) t wd) (w.word p) (w.told p) n word k
      here (λ m o. g.words p m))
      (λ j o. g.words j);
  processes = put_all (λ j f. IsGoodProcess w.start w.answered w.length (λ q m. w.table q j m) f (w.process j)) w.word
      p (put (w.word p) n word)
      (proc_words w.start w.answered w.length (λ q m. w.table q p m) (w.word p) (put (w.word p) n word) (w.process p)
      (λ is. absurd (nothing is)) (g.processes p))
      (λ j o. g.processes j);
  tolds = λ o. put_all (λ j t. (m : ℕ) → (w.process o).told j m ≤ t m) w.told p (put (w.told p) n k)
      (put_all (λ m t. (w.process o).told p m ≤ t) (w.told p) n k
      (let a = g.tolds o p n in let b = is.known in omega arith) (λ m e. g.tolds o p m))
      (λ j e. g.tolds o j);
  notes = λ i a e. let o = g.notes i a e in record {
    low = o.low;
    high = o.high;
    own = o.own;
    most = put_all (λ j t. (m : ℕ) → a.told j m ≤ t m) w.told p (put (w.told p) n k)
        (put_all (λ m t. a.told p m ≤ t) (w.told p) n k (let a = o.most p n in let b = is.known in omega arith)
        (λ m f. o.most p m))
        (λ j f. o.most j);
  };
}
  where
    word : DescriptorWord
    word = Valid k (w.table w.length p n)

    is : IsFault w.start w.answered w.length (λ q. w.table q p n) (w.told p n) k
    is = subst (IsWord w.start w.answered w.length (λ q. w.table q p n) (w.told p n)) fault (g.words p n)

    here : IsWord w.start w.answered w.length (λ q. w.table q p n) k (Valid k (w.table w.length p n))
    here = let low = is.low in let high = is.high in record {
      low = omega arith;
      high = omega arith;
      stands = λ q a b. is.stands q a b ∙ sym (is.stands w.length high (omega arith));
      altered = λ a. is.altered;
      known = refl;
    }

    nothing : IsCut w.answered w.length (λ q m. w.table q p m) (w.word p) → ⊥
    nothing pending = pending.changed (ap (λ (q : ℕ). w.table q p pending.segno) (sym rest))
