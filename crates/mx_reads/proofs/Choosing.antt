-- The first store that a read can stand for: found by searches that end.
use Rattle.std.proofs.Common.{◌≡◌, ◌≢◌, ◌⊎◌, inl, inr, ℕ, zero, suc, ◌+◌, ◌<◌, ◌≤◌, length, refl, ap, sym, ◌∙◌, subst, Option, Some, None, arith}
use Rattle.std.specs.List.{slice_get}
use Rattle.std.proofs.lemmas.Bool.{cases_eq, cases_lt}
use Rattle.std.proofs.lemmas.Option.{slice_get_within}
use Rattle.mx_reads.specs.Deeds.{CellUse, Deed, Deeds, Enters, Stores, Loads, Refers, Misses}
use Rattle.mx_reads.specs.ReadRule.{Fronts, known_by, Reading, IsSuperseded, IsSuch, IsFirstOther}
use Rattle.mx_reads.specs.Sightings.{Source, Sights, HasSighted, IsLatest, IsBeyond}
use Rattle.mx_reads.proofs.CellUses.{same_cell}
use Rattle.mx_reads.proofs.Decide.{Dec, IsFirst, first_below, last_below, IsStore, store_at}

same_value : (o : Option Deed) (c : CellUse) (v s v' s' : ℕ) → o ≡ Some (Stores c v s) → o ≡ Some (Stores c v' s')
    → (v ≡ v') × (s ≡ s')
same_value o c v s v' s' h k = let e : Some (Stores c v s) ≡ Some (Stores c v' s') = sym h ∙ k in (cc, cc)

module _ (count : ℕ) (done : Deeds) (front : Fronts) (idle : (u : ℕ) → count ≤ u → length (done u) ≡ 0) where
  record Supersedes (u place : ℕ) (cell : CellUse) (q other at : ℕ) : Type 0 where
    pub store : IsStore (done other) at cell
    pub known : at < front other q
    pub after : other ≡ u → place < at
    pub knew : other ≢ u → place < front u store.point

  supersedes : (u place : ℕ) (cell : CellUse) (q other at : ℕ) → Dec (Supersedes u place cell q other at)
  supersedes u place cell q other at = elim (cases_lt at (front other q)) [
    | inr high ↦ inr (λ r. let known = r.known in absurd (omega arith))
    | inl known ↦ elim (store_at (done other) at cell) [
      | inr none ↦ inr (λ r. none r.store)
      | inl store ↦ elim (cases_eq other u) [
        | inl same ↦ elim (cases_lt place at) [
          | inl after ↦ inl (record { store = store; known = known; after = λ e. after; knew = λ n. absurd (n same) })
          | inr early ↦ inr (λ r. let after = r.after same in absurd (omega arith))
        ]
        | inr another ↦ elim (cases_lt place (front u store.point)) [
          | inl knew ↦ inl (record { store = store; known = known; after = λ e. absurd (another e); knew = λ n. knew })
          | inr high ↦ inr (λ r.
              let same = (same_value (slice_get (done other) at) cell r.store.value r.store.point store.value
              store.point r.store.at store.at).1 in
              let knew = r.knew another in
              let point = ap (front u) same in absurd (omega arith))
        ]
      ]
    ]
  ]

  abbrev SupersedesBy : ℕ → ℕ → CellUse → ℕ → ℕ → Type 0
  SupersedesBy u place cell q other = IsFirst (Supersedes u place cell q other) (length (done other))

  superseded : (u place : ℕ) (cell : CellUse) (q : ℕ) → Dec (IsSuperseded done (known_by front) u place cell q)
  superseded u place cell q = elim (first_below (SupersedesBy u place cell q) count by) [
    | inl f ↦ let s = f.has.has in inl (record {
      other = f.at;
      at = f.has.at;
      value = s.store.value;
      point = s.store.point;
      stored = s.store.at;
      known = s.known;
      after = s.after;
      knew = s.knew;
    })
    | inr none ↦ inr (λ s.
        let within = slice_get_within (done s.other) s.at (Stores cell s.value s.point) s.stored in
        none s.other (counted s.other s.at within)
        (found s.other (record {
          store = record { value = s.value; point = s.point; at = s.stored };
          known = s.known;
          after = s.after;
          knew = s.knew;
        }) within))
  ]
    where
      by : (other : ℕ) → Dec (SupersedesBy u place cell q other)
      by other =
          elim (first_below (Supersedes u place cell q other) (length (done other)) (supersedes u place cell q other)) [
            | inl f ↦ inl f
            | inr none ↦ inr (λ f. none f.at f.below f.has)
          ]

      counted : (other at : ℕ) → at < length (done other) → other < count
      counted other at within = elim (cases_lt other count) [
        | inl l ↦ l
        | inr out ↦ let nothing = idle other out in absurd (omega arith)
      ]

      found : (other : ℕ) {at : ℕ} → Supersedes u place cell q other at → at < length (done other)
          → SupersedesBy u place cell q other
      found other {at} s within =
          elim (first_below (Supersedes u place cell q other) (length (done other)) (supersedes u place cell q other)) [
            | inl f ↦ f
            | inr none ↦ absurd (none at within s)
          ]

  such : (read : Reading) (place : ℕ) → Dec (IsSuch done (known_by front) read place)
  such read place = elim (store_at (done read.writer) place read.cell) [
    | inr none ↦ inr (λ s. none (record { value = read.value; point = read.stamp; at = s.stored }))
    | inl store ↦ elim (cases_eq store.value read.value) [
      | inr other ↦ inr (λ s. other (same_value (slice_get (done read.writer) place) read.cell store.value store.point
          read.value read.stamp store.at s.stored).0)
      | inl e ↦ elim (cases_eq store.point read.stamp) [
        | inr other ↦ inr (λ s. other (same_value (slice_get (done read.writer) place) read.cell store.value store.point
            read.value read.stamp store.at s.stored).1)
        | inl f ↦
            let stored = store.at ∙ ap (λ (v : ℕ). Some (Stores read.cell v store.point)) e ∙ ap
            (λ (s : ℕ). Some (Stores read.cell read.value s)) f in
            elim (superseded read.writer place read.cell read.point) [
              | inl s ↦ inr (λ t. t.current s)
              | inr current ↦ inl (record { stored = stored; current = current })
            ]
      ]
    ]
  ]

  module _ (source : Source) (p : ℕ) (cell : CellUse) where
    -- what a process sighted at a place
    record Sighting (h : ℕ) : Type 0 where
      pub w : ℕ
      pub j : ℕ
      pub sighted : HasSighted done source p h cell w j

    sights_same : (h : ℕ) (d : Deed) (w j w' j' : ℕ) → Sights source p h d cell w j → Sights source p h d cell w' j'
        → (w ≡ w') × (j ≡ j')
    sights_same h (Enters number) w j w' j' s t = absurd s
    sights_same h (Stores own value point) w j w' j' s t = (s.1 ∙ sym t.1, s.2 ∙ sym t.2)
    sights_same h (Loads own value writer stamp point) w j w' j' s t = (s.2 ∙ sym t.2, s.3 ∙ sym t.3)
    sights_same h (Refers point) w j w' j' s t = absurd s
    sights_same h (Misses segno by) w j w' j' s t = absurd s

    same_sighting : (h w j w' j' : ℕ) → HasSighted done source p h cell w j → HasSighted done source p h cell w' j'
        → (w ≡ w') × (j ≡ j')
    same_sighting h w j w' j' s t =
        let e = deed_same s.deed t.deed (sym s.at ∙ t.at) in
        sights_same h t.deed w j w' j' (subst (λ (d : Deed). Sights source p h d cell w j) e s.sights) t.sights
      where
        deed_same : (a b : Deed) → Some a ≡ Some b → a ≡ b
        deed_same a b h = cc

    sights_dec : (h : ℕ) (d : Deed) → slice_get (done p) h ≡ Some d
        → Sighting h ⊎ ((w j : ℕ) → Sights source p h d cell w j → ⊥)
    sights_dec h (Enters number) at = inr (λ w j s. s)
    sights_dec h (Stores own value point) at = elim (same_cell own cell) [
      | inl e ↦ inl (record {
        w = p;
        j = h;
        sighted = record
            { deed = Stores own value point; at = at; sights = (e, refl, refl) };
      })
      | inr n ↦ inr (λ w j s. n s.0)
    ]
    sights_dec h (Loads own value writer stamp point) at = elim (same_cell own cell) [
      | inr n ↦ inr (λ w j s. n s.0)
      | inl e ↦ elim (cases_eq writer 0) [
        | inl nobody ↦ inr (λ w j s. s.1 nobody)
        | inr some ↦ inl (record {
          w = writer;
          j = source p h;
          sighted = record { deed = Loads own value writer stamp point; at = at; sights = (e, some, refl, refl) };
        })
      ]
    ]
    sights_dec h (Refers point) at = inr (λ w j s. s)
    sights_dec h (Misses segno by) at = inr (λ w j s. s)

    sighting : (h : ℕ) → Dec (Sighting h)
    sighting h = at (slice_get (done p) h) refl
      where
        at : (o : Option Deed) → slice_get (done p) h ≡ o → Dec (Sighting h)
        at None e = inr (λ s. nothing s.sighted.deed (sym e ∙ s.sighted.at))
          where
            nothing : (d : Deed) → None ≡ Some d → ⊥
            nothing d h = cc
        at (Some d) e = elim (sights_dec h d e) [
          | inl s ↦ inl s
          | inr none ↦ inr (λ s. none s.w s.j
              (subst (λ (c : Deed). Sights source p h c cell s.w s.j) (same s.sighted.deed (sym s.sighted.at ∙ e))
              s.sighted.sights))
        ]
          where
            same : (c : Deed) → Some c ≡ Some d → c ≡ d
            same c h = cc

    -- above all stores of w that were sighted before a place, and no higher
    record Above (w i : ℕ) : Type 0 where
      pub low : ℕ
      pub covers : (h j : ℕ) → h < i → HasSighted done source p h cell w j → j < low
      pub least : (place : ℕ) → ((h j : ℕ) → h < i → HasSighted done source p h cell w j → j < place) → low ≤ place

    above_next : (w i : ℕ) → Above w i → Above w (suc i)
    above_next w i a = elim (sighting i) [
      | inr none ↦ record {
        low = a.low;
        covers = λ h j l s. elim (cases_eq h i) [
          | inl e ↦ absurd (none (record {
            w = w;
            j = j;
            sighted = subst
                (λ (k : ℕ). HasSighted done source p k cell w j) e s;
          }))
          | inr n ↦ a.covers h j (omega arith) s
        ];
        least = λ place all. a.least place (λ h j l s. all h j (omega arith) s);
      }
      | inl t ↦ elim (cases_eq t.w w) [
        | inr other ↦ record {
          low = a.low;
          covers = λ h j l s. elim (cases_eq h i) [
            | inl e ↦ absurd (other (same_sighting i t.w t.j w j t.sighted
                (subst (λ (k : ℕ). HasSighted done source p k cell w j) e s)).0)
            | inr n ↦ a.covers h j (omega arith) s
          ];
          least = λ place all. a.least place (λ h j l s. all h j (omega arith) s);
        }
        | inl mine ↦ elim (cases_lt t.j a.low) [
          | inl under ↦ record {
            low = a.low;
            covers = λ h j l s. elim (cases_eq h i) [
              | inl e ↦ let f = (same_sighting i t.w t.j w j t.sighted
                  (subst (λ (k : ℕ). HasSighted done source p k cell w j) e s)).1 in omega arith
              | inr n ↦ a.covers h j (omega arith) s
            ];
            least = λ place all. a.least place (λ h j l s. all h j (omega arith) s);
          }
          | inr over ↦ record {
            low = t.j + 1;
            covers = λ h j l s. elim (cases_eq h i) [
              | inl e ↦ let f = (same_sighting i t.w t.j w j t.sighted
                  (subst (λ (k : ℕ). HasSighted done source p k cell w j) e s)).1 in omega arith
              | inr n ↦ let less = a.covers h j (omega arith) s in omega arith
            ];
            least = λ place all.
                let less = all i t.j (omega arith)
                (subst (λ (v : ℕ). HasSighted done source p i cell v t.j) mine t.sighted) in omega arith;
          }
        ]
      ]
    ]

    above : (w i : ℕ) → Above w i
    above w zero = record { low = 0; covers = λ h j l s. absurd (omega arith); least = λ place all. omega arith }
    above w (suc i) = above_next w i (above w i)

    -- a read can stand for the stores of w from this place on
    record Threshold (i w : ℕ) : Type 0 where
      pub low : ℕ
      pub is : (place : ℕ) → IsBeyond done source p i cell w place → low ≤ place
      pub gives : (place : ℕ) → low ≤ place → IsBeyond done source p i cell w place

    threshold : (i w : ℕ) → Threshold i w
    threshold i w = elim (last_below Sighting i sighting) [
      | inr none ↦ record {
        low = 0;
        is = λ place b. omega arith;
        gives = λ place l. record {
          again = λ j t.
              let before = t.before in absurd (none t.earlier before (record { w = w; j = j; sighted = t.sighted }));
          onward = λ no_latest h j before s. absurd (none h before (record { w = w; j = j; sighted = s }));
        };
      }
      | inl f ↦ elim (cases_eq f.has.w w) [
        | inl mine ↦
            let latest : IsLatest done source p i cell w f.has.j = record {
              earlier = f.at;
              before = f.below;
              sighted = subst (λ (v : ℕ). HasSighted done source p f.at cell v f.has.j) mine f.has.sighted;
              last = λ later w' j' a b s. f.none later a b (record { w = w'; j = j'; sighted = s });
            } in record {
              low = f.has.j;
              is = λ place b. b.again f.has.j latest;
              gives = λ place l. record {
                again = λ j t. again_same f.at f.has.w f.has.j f.below f.has.sighted f.none j t place l;
                onward = λ no_latest h j before s. absurd (no_latest f.has.j latest);
              };
            }
        | inr other ↦
            let a = above w i in record {
              low = a.low;
              is = λ place b. a.least place (λ h j l s. b.onward
                  (λ j' t. never f.at f.has.w f.has.j f.below f.has.sighted f.none other j' t) h j l s);
              gives = λ place l. record {
                again = λ j t. absurd (never f.at f.has.w f.has.j f.below f.has.sighted f.none other j t);
                onward = λ no_latest h j before s. let less = a.covers h j before s in omega arith;
              };
            }
      ]
    ]
      where
        same_place : (at w0 j0 : ℕ) → at < i → HasSighted done source p at cell w0 j0
            → ((k : ℕ) → at < k → k < i → Sighting k → ⊥)
            → (j : ℕ) → (t : IsLatest done source p i cell w j) → t.earlier ≡ at
        same_place at w0 j0 below s none j t =
            let before = t.before in
            elim (cases_lt t.earlier at) [
              | inl l ↦ absurd (t.last at w0 j0 l below s)
              | inr m ↦ elim (cases_lt at t.earlier) [
                | inl l ↦ absurd (none t.earlier l before (record { w = w; j = j; sighted = t.sighted }))
                | inr m' ↦ omega arith
              ]
            ]

        never : (at w0 j0 : ℕ) → at < i → HasSighted done source p at cell w0 j0
            → ((k : ℕ) → at < k → k < i → Sighting k → ⊥)
            → w0 ≢ w → (j : ℕ) → IsLatest done source p i cell w j → ⊥
        never at w0 j0 below s none other j t =
            let e = same_place at w0 j0 below s none j t in
            other (same_sighting at w0 j0 w j s (subst (λ (k : ℕ). HasSighted done source p k cell w j) e t.sighted)).0

        again_same : (at w0 j0 : ℕ) → at < i → HasSighted done source p at cell w0 j0
            → ((k : ℕ) → at < k → k < i → Sighting k → ⊥)
            → (j : ℕ) → IsLatest done source p i cell w j → (place : ℕ) → j0 ≤ place → j ≤ place
        again_same at w0 j0 below s none j t place l =
            let e = same_place at w0 j0 below s none j t in
            let f = (same_sighting at w0 j0 w j s
            (subst (λ (k : ℕ). HasSighted done source p k cell w j) e t.sighted)).1 in omega arith

  -- the first that will do, where one will do
  module _ (source : Source) (read : Reading) where
    abbrev IsPast : ℕ → Type 0
    IsPast place = IsBeyond done source read.process read.place read.cell read.writer place

    pub record Choice : Type 0 where
      pub place : ℕ
      pub such : IsSuch done (known_by front) read place
      pub first : IsFirstOther done (known_by front) source read place

    record Fits (low place : ℕ) : Type 0 where
      pub high : low ≤ place
      pub is : IsSuch done (known_by front) read place

    fits_dec : (low place : ℕ) → Dec (Fits low place)
    fits_dec low place = elim (cases_lt place low) [
      | inl under ↦ inr (λ f. let high = f.high in absurd (omega arith))
      | inr high ↦ elim (such read place) [
        | inl is ↦ inl (record { high = high; is = is })
        | inr not_such ↦ inr (λ f. not_such f.is)
      ]
    ]

    pub choose : (place : ℕ) → IsSuch done (known_by front) read place → IsPast place → Choice
    choose place is beyond =
        let t = threshold source read.process read.cell read.place read.writer in
        elim (first_below (Fits t.low) (place + 1) (fits_dec t.low)) [
          | inl f ↦ record {
            place = f.at;
            such = f.has.is;
            first = record {
              beyond = t.gives f.at f.has.high;
              first = λ earlier l s b. f.none earlier l (record { high = t.is earlier b; is = s });
            };
          }
          | inr none ↦ absurd (none place (omega arith) (record { high = t.is place beyond; is = is }))
        ]
