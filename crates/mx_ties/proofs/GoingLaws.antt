-- A process that runs keeps its rules.
use Rattle.std.proofs.Common.{◌≡◌, ◌⊎◌, inl, inr, ℕ, ◌<◌, ◌≤◌, List, [], ◌∷◌, ◌++◌, length, ap, sym, ◌∙◌, subst, Some, None, arith}
use Rattle.std.specs.List.{slice_get}
use Rattle.std.proofs.lemmas.Option.{slice_get_within}
use Rattle.std.proofs.lemmas.List.{length-append}
use Rattle.mx_reads.specs.Deeds.{Deed, Enters, Stores, Loads, Refers, Misses, point_of}
use Rattle.mx_state.specs.declared.journal.Entry as journaled
use Rattle.mx_script.specs.Sessions.{Outline}
use Rattle.mx_ties.specs.Going.{IsLow, IsGoing, IsReference, SeenLaw, MissLaw, EnteredLaw}
use Rattle.mx_transcript.specs.Misses.{IsChanged}
use Rattle.mx_transcript.specs.Points.{IsNextEntry, IsPoint, ArePoints}
use Rattle.mx_ties.proofs.JournalLists.{changed_front, points_within}
use Rattle.mx_ties.proofs.Places.{place_found, place_kept}

low_more : (floor floor' : ℕ) (d : Deed) → floor ≤ floor' → IsLow floor d → IsLow floor' d
low_more floor floor' (Enters number) more l = omega arith
low_more floor floor' (Stores cell value point) more l = omega arith
low_more floor floor' (Loads cell value writer stamp point) more l = let a = l.0 in let b = l.1 in
    (omega arith, omega arith)
low_more floor floor' (Refers point) more l = omega arith
low_more floor floor' (Misses segno by) more l = omega arith

low_point : (floor : ℕ) (d : Deed) (q : ℕ) → point_of d ≡ Some q → IsLow floor d → q ≤ floor
low_point floor (Enters number) q e l = cc
low_point floor (Stores cell value point) q e l = let same : point ≡ q = cc in omega arith
low_point floor (Loads cell value writer stamp point) q e l = let same : point ≡ q = cc in let b = l.1 in omega arith
low_point floor (Refers point) q e l = let same : point ≡ q = cc in omega arith
low_point floor (Misses segno by) q e l = cc

same_some : (a b : ℕ) → Some a ≡ Some b → a ≡ b
same_some a b h = cc

-- what is before an old place is old
old_at : (done : List Deed) (deed d : Deed) (i : ℕ) → i < length done → slice_get (done ++ deed ∷ []) i ≡ Some d
    → slice_get done i ≡ Some d
old_at done deed d i low h = elim (place_found done deed d i h) [
  | inl a ↦ a
  | inr b ↦ let is = b.0 in absurd (omega arith)
]

-- the next own entry after an old place: an old one, or the new deed
next_old : (done : List Deed) (deed : Deed) (place number : ℕ) → IsNextEntry (done ++ deed ∷ []) place number
    → IsNextEntry done place number ⊎ (deed ≡ Enters number)
next_old done deed place number n = elim (place_found done deed (Enters number) n.at n.entry) [
  | inl old ↦ inl (record {
    at = n.at;
    after = n.after;
    entry = old;
    first = λ between other a b h. n.first between other a b (place_kept done (deed ∷ []) between (Enters other) h);
  })
  | inr new ↦ inr (sym new.1)
]

-- after the last deed there is none
next_none : (done : List Deed) (deed : Deed) (number : ℕ) → IsNextEntry (done ++ deed ∷ []) (length done) number → ⊥
next_none done deed number n = elim (place_found done deed (Enters number) n.at n.entry) [
  | inl old ↦ let l = slice_get_within done n.at (Enters number) old in let a = n.after in absurd (omega arith)
  | inr new ↦ let same = new.0 in let a = n.after in absurd (omega arith)
]

-- an old point keeps the rule, whatever comes, as long as an entry is above the floor
old_point : (start floor floor' : ℕ) (done : List Deed) (deed : Deed) (place q : ℕ) → floor ≤ floor'
    → ((number : ℕ) → deed ≡ Enters number → floor < number)
    → place < length done → IsPoint start floor done place q → IsPoint start floor' (done ++ deed ∷ []) place q
old_point start floor floor' done deed place q more above at is =
    let within = is.within in record {
      after_setup = is.after_setup;
      after_entries = λ before number b h. is.after_entries before number b
          (old_at done deed (Enters number) before (omega arith) h);
      rising = λ before d earlier b h e. is.rising before d earlier b (old_at done deed d before (omega arith) h) e;
      after_stamps = λ before cell value writer stamp point b h.
          is.after_stamps before cell value writer stamp point b
          (old_at done deed (Loads cell value writer stamp point) before (omega arith) h);
      after_misses = λ before segno by b h. is.after_misses before segno by b
          (old_at done deed (Misses segno by) before (omega arith) h);
      within = omega arith;
      before_next = λ number n. elim (next_old done deed place number n) [
        | inl old ↦ is.before_next number old
        | inr new ↦ let high = above number new in omega arith
      ];
    }

-- the points after one deed more
points_more : (start floor floor' : ℕ) (done : List Deed) (deed : Deed) → start ≤ floor → floor ≤ floor'
    → ((number : ℕ) → deed ≡ Enters number → floor < number)
    → ((q : ℕ) → point_of deed ≡ Some q → (floor ≤ q) × (q ≤ floor'))
    → ((place : ℕ) (d : Deed) → slice_get done place ≡ Some d → IsLow floor d)
    → ArePoints start floor done → ArePoints start floor' (done ++ deed ∷ [])
points_more start floor floor' done deed begun more above at low are place d q h e = elim
    (place_found done deed d place h) [
      | inl old ↦ old_point start floor floor' done deed place q more above (slice_get_within done place d old)
          (are place d q old e)
      | inr new ↦
          let is = new.0 in
          let here = at q (ap point_of (sym new.1) ∙ e) in
          let high = here.0 in
          let under = here.1 in record {
            after_setup = omega arith;
            after_entries = λ before number b h.
                let l : number ≤ floor = low before (Enters number)
                (old_at done deed (Enters number) before (omega arith) h) in omega arith;
            rising = λ before d' earlier b h e'.
                let l = low_point floor d' earlier e'
                (low before d' (old_at done deed d' before (omega arith) h)) in omega arith;
            after_stamps = λ before cell value writer stamp point b h.
                let l = (low before (Loads cell value writer stamp point)
                (old_at done deed (Loads cell value writer stamp point) before (omega arith) h)).0 in omega arith;
            after_misses = λ before segno by b h.
                let l : by ≤ floor = low before (Misses segno by)
                (old_at done deed (Misses segno by) before (omega arith) h) in omega arith;
            within = omega arith;
            before_next = λ number n. absurd
                (next_none done deed number (subst (λ (i : ℕ). IsNextEntry (done ++ deed ∷ []) i number) is n));
          }
    ]

reference_no_entry : (d : Deed) (number : ℕ) → IsReference d → d ≡ Enters number → ⊥
reference_no_entry d number r e = subst IsReference e r

reference_no_miss : (d : Deed) (segno by : ℕ) → IsReference d → d ≡ Misses segno by → ⊥
reference_no_miss d segno by r e = subst IsReference e r

-- more is told, and nothing done
pub told_law : (x : Outline) (journal more : List journaled.Entry) (start p : ℕ) (done : List Deed) (floor floor' : ℕ)
    (told told' : ℕ → ℕ) → floor ≤ floor' → ((n : ℕ) → told n ≤ told' n)
    → IsGoing x journal start p done floor told → IsGoing x (journal ++ more) start p done floor' told'
told_law x journal more start p done floor floor' told told' rise told_more g = record {
  begun = let b = g.begun in omega arith;
  points = points_within start floor floor' done rise g.points;
  misses = record {
    rising = g.misses.rising;
    before_next = g.misses.before_next;
    others = λ place segno by other h k c. g.misses.others place segno by other h k
        (changed_front x journal more p segno by (g.within other by k) c);
    above = λ place segno by other number h b k c. g.misses.above place segno by other number h b k
        (changed_front x journal more p segno number (g.within other number k) c);
  };
  low = λ place d h. low_more floor floor' d rise (g.low place d h);
  within = λ place number h. let w = g.within place number h in let l = length-append journal more in omega arith;
  told_own = λ place number segno h c.
      let t = g.told_own place number segno h (changed_front x journal more p segno number (g.within place number h) c) in
      let m = told_more segno in omega arith;
  told_misses = λ place segno by h.
      let t = g.told_misses place segno by h in let m = told_more segno in omega arith;
}

pub seen_law : SeenLaw
seen_law x journal start p done floor floor' told deed q reference is high under lows g = record {
  begun = let b = g.begun in omega arith;
  points = points_more start floor floor' done deed g.begun (omega arith)
      (λ number e. absurd (reference_no_entry deed number reference e))
      (λ q' e. let same = same_some q q' (sym is ∙ e) in (omega arith, omega arith)) g.low g.points;
  misses = record {
    rising = λ place segno by before earlier h b k. elim (place_found done deed (Misses segno by) place h) [
      | inl old ↦
          let l = slice_get_within done place (Misses segno by) old in
          g.misses.rising place segno by before earlier old b
          (old_at done deed (Misses segno earlier) before (omega arith) k)
      | inr new ↦ absurd (reference_no_miss deed segno by reference (sym new.1))
    ];
    before_next = λ place segno by number h n. elim (place_found done deed (Misses segno by) place h) [
      | inl old ↦ elim (next_old done deed place number n) [
        | inl old' ↦ g.misses.before_next place segno by number old old'
        | inr new ↦ absurd (reference_no_entry deed number reference new)
      ]
      | inr new ↦ absurd (reference_no_miss deed segno by reference (sym new.1))
    ];
    others = λ place segno by other h k c. elim (place_found done deed (Misses segno by) place h) [
      | inl old ↦ elim (place_found done deed (Enters by) other k) [
        | inl old' ↦ g.misses.others place segno by other old old' c
        | inr new ↦ absurd (reference_no_entry deed by reference (sym new.1))
      ]
      | inr new ↦ absurd (reference_no_miss deed segno by reference (sym new.1))
    ];
    above = λ place segno by other number h b k c. elim (place_found done deed (Misses segno by) place h) [
      | inl old ↦
          let l = slice_get_within done place (Misses segno by) old in
          g.misses.above place segno by other number old b (old_at done deed (Enters number) other (omega arith) k) c
      | inr new ↦ absurd (reference_no_miss deed segno by reference (sym new.1))
    ];
  };
  low = λ place d h. elim (place_found done deed d place h) [
    | inl old ↦ low_more floor floor' d (omega arith) (g.low place d old)
    | inr new ↦ subst (IsLow floor') (sym new.1) lows
  ];
  within = λ place number h. elim (place_found done deed (Enters number) place h) [
    | inl old ↦ g.within place number old
    | inr new ↦ absurd (reference_no_entry deed number reference (sym new.1))
  ];
  told_own = λ place number segno h c. elim (place_found done deed (Enters number) place h) [
    | inl old ↦ g.told_own place number segno old c
    | inr new ↦ absurd (reference_no_entry deed number reference (sym new.1))
  ];
  told_misses = λ place segno by h. elim (place_found done deed (Misses segno by) place h) [
    | inl old ↦ g.told_misses place segno by old
    | inr new ↦ absurd (reference_no_miss deed segno by reference (sym new.1))
  ];
}

entry_no_miss : (number segno by : ℕ) → Enters number ≡ Misses segno by → ⊥
entry_no_miss number segno by h = cc

same_miss : (segno by segno' by' : ℕ) → Misses segno by ≡ Misses segno' by' → (segno ≡ segno') × (by ≡ by')
same_miss segno by segno' by' h = (cc, cc)

same_entry : (a b : ℕ) → Enters a ≡ Enters b → a ≡ b
same_entry a b h = cc

pub miss_law : MissLaw
miss_law x journal more start p done floor floor' told told' segno0 by0 above under rise told_by told_more g = record {
  begun = let b = g.begun in omega arith;
  points = points_more start floor floor' done (Misses segno0 by0) g.begun rise
      (λ number e. absurd (entry_no_miss number segno0 by0 (sym e)))
      (λ q e. absurd (no_point q e)) g.low g.points;
  misses = record {
    rising = λ place segno by before earlier h b k. elim
        (place_found done (Misses segno0 by0) (Misses segno by) place h) [
          | inl old ↦
              let l = slice_get_within done place (Misses segno by) old in
              g.misses.rising place segno by before earlier old b
              (old_at done (Misses segno0 by0) (Misses segno earlier) before (omega arith) k)
          | inr new ↦
              let is = new.0 in
              let same = same_miss segno by segno0 by0 new.1 in
              let old = old_at done (Misses segno0 by0) (Misses segno earlier) before (omega arith) k in
              let t = g.told_misses before segno earlier old in
              let at = ap told same.0 in
              let byes = same.1 in omega arith
        ];
    before_next = λ place segno by number h n. elim (next_old done (Misses segno0 by0) place number n) [
      | inl old' ↦
          let l = slice_get_within done old'.at (Enters number) old'.entry in
          let a = old'.after in
          g.misses.before_next place segno by number
          (old_at done (Misses segno0 by0) (Misses segno by) place (omega arith) h) old'
      | inr new ↦ absurd (entry_no_miss number segno0 by0 (sym new))
    ];
    others = λ place segno by other h k c. elim (place_found done (Misses segno0 by0) (Enters by) other k) [
      | inr new ↦ absurd (entry_no_miss by segno0 by0 new.1)
      | inl old' ↦
          let c' = changed_front x journal more p segno by (g.within other by old') c in
          elim (place_found done (Misses segno0 by0) (Misses segno by) place h) [
            | inl old ↦ g.misses.others place segno by other old old' c'
            | inr new ↦
                let same = same_miss segno by segno0 by0 new.1 in
                let t = g.told_own other by segno old' c' in
                let at = ap told same.0 in
                let byes = same.1 in absurd (omega arith)
          ]
    ];
    above = λ place segno by other number h b k c. elim (place_found done (Misses segno0 by0) (Misses segno by) place h) [
      | inl old ↦
          let l = slice_get_within done place (Misses segno by) old in
          let k' = old_at done (Misses segno0 by0) (Enters number) other (omega arith) k in
          g.misses.above place segno by other number old b k'
          (changed_front x journal more p segno number (g.within other number k') c)
      | inr new ↦
          let is = new.0 in
          let same = same_miss segno by segno0 by0 new.1 in
          let k' = old_at done (Misses segno0 by0) (Enters number) other (omega arith) k in
          let t = g.told_own other number segno k'
          (changed_front x journal more p segno number (g.within other number k') c) in
          let at = ap told same.0 in
          let byes = same.1 in omega arith
    ];
  };
  low = λ place d h. elim (place_found done (Misses segno0 by0) d place h) [
    | inl old ↦ low_more floor floor' d rise (g.low place d old)
    | inr new ↦ subst (IsLow floor') (sym new.1) under
  ];
  within = λ place number h. elim (place_found done (Misses segno0 by0) (Enters number) place h) [
    | inl old ↦ let w = g.within place number old in let l = length-append journal more in omega arith
    | inr new ↦ absurd (entry_no_miss number segno0 by0 new.1)
  ];
  told_own = λ place number segno h c. elim (place_found done (Misses segno0 by0) (Enters number) place h) [
    | inl old ↦
        let t = g.told_own place number segno old
        (changed_front x journal more p segno number (g.within place number old) c) in
        let m = told_more segno in omega arith
    | inr new ↦ absurd (entry_no_miss number segno0 by0 new.1)
  ];
  told_misses = λ place segno by h. elim (place_found done (Misses segno0 by0) (Misses segno by) place h) [
    | inl old ↦ let t = g.told_misses place segno by old in let m = told_more segno in omega arith
    | inr new ↦
        let same = same_miss segno by segno0 by0 new.1 in
        let at = ap told' same.0 in
        let byes = same.1 in omega arith
  ];
}
  where
    no_point : (q : ℕ) → None ≡ Some q → ⊥
    no_point q h = cc

pub entered_law : EnteredLaw
entered_law x journal more start p done floor floor' told told' number0 above under within0 told_more told_here g =
    record {
      begun = let b = g.begun in omega arith;
      points = points_more start floor floor' done (Enters number0) g.begun (omega arith)
          (λ number e. let same = same_entry number0 number e in omega arith) (λ q e. absurd (no_point q e)) g.low g.points;
      misses = record {
        rising = λ place segno by before earlier h b k. elim (place_found done (Enters number0) (Misses segno by) place h) [
          | inl old ↦
              let l = slice_get_within done place (Misses segno by) old in
              g.misses.rising place segno by before earlier old b
              (old_at done (Enters number0) (Misses segno earlier) before (omega arith) k)
          | inr new ↦ absurd (entry_no_miss number0 segno by (sym new.1))
        ];
        before_next = λ place segno by number h n. elim (place_found done (Enters number0) (Misses segno by) place h) [
          | inr new ↦ absurd (entry_no_miss number0 segno by (sym new.1))
          | inl old ↦ elim (next_old done (Enters number0) place number n) [
            | inl old' ↦ g.misses.before_next place segno by number old old'
            | inr new ↦
                let same = same_entry number0 number new in
                let l : by ≤ floor = g.low place (Misses segno by) old in omega arith
          ]
        ];
        others = λ place segno by other h k c. elim (place_found done (Enters number0) (Misses segno by) place h) [
          | inr new ↦ absurd (entry_no_miss number0 segno by (sym new.1))
          | inl old ↦ elim (place_found done (Enters number0) (Enters by) other k) [
            | inl old' ↦ g.misses.others place segno by other old old'
                (changed_front x journal more p segno by (g.within other by old') c)
            | inr new ↦
                let same = same_entry by number0 new.1 in
                let l : by ≤ floor = g.low place (Misses segno by) old in absurd (omega arith)
          ]
        ];
        above = λ place segno by other number h b k c. elim (place_found done (Enters number0) (Misses segno by) place h) [
          | inr new ↦ absurd (entry_no_miss number0 segno by (sym new.1))
          | inl old ↦
              let l = slice_get_within done place (Misses segno by) old in
              let k' = old_at done (Enters number0) (Enters number) other (omega arith) k in
              g.misses.above place segno by other number old b k'
              (changed_front x journal more p segno number (g.within other number k') c)
        ];
      };
      low = λ place d h. elim (place_found done (Enters number0) d place h) [
        | inl old ↦ low_more floor floor' d (omega arith) (g.low place d old)
        | inr new ↦ subst (IsLow floor') (sym new.1) under
      ];
      within = λ place number h. elim (place_found done (Enters number0) (Enters number) place h) [
        | inl old ↦ let w = g.within place number old in let l = length-append journal more in omega arith
        | inr new ↦ let same = same_entry number number0 new.1 in omega arith
      ];
      told_own = λ place number segno h c. elim (place_found done (Enters number0) (Enters number) place h) [
        | inl old ↦
            let t = g.told_own place number segno old
            (changed_front x journal more p segno number (g.within place number old) c) in
            let m = told_more segno in omega arith
        | inr new ↦
            let same = same_entry number number0 new.1 in
            let t = told_here segno (subst (λ (n : ℕ). IsChanged x (journal ++ more) p segno n) same c) in omega arith
      ];
      told_misses = λ place segno by h. elim (place_found done (Enters number0) (Misses segno by) place h) [
        | inl old ↦ let t = g.told_misses place segno by old in let m = told_more segno in omega arith
        | inr new ↦ absurd (entry_no_miss number0 segno by (sym new.1))
      ];
    }
  where
    no_point : (q : ℕ) → None ≡ Some q → ⊥
    no_point q h = cc
