-- The opening world meets the invariant.
use Rattle.std.proofs.Common.{◌≡◌, inl, inr, ℕ, zero, suc, ◌+◌, ◌*◌, ◌<◌, Bool, refl, ap, subst, Some, None, arith}
use Rattle.std.specs.Prelude.{IsTrue, nat_le, nat_lt, not}
use Rattle.std.proofs.lemmas.Bool.{cases_eq, cases_lt, and_parts, ltb-true, not-true, both_ways, or_left, or_right}
use Rattle.mx_sdw.specs.Descriptors.{Descriptor, unknown_desc}
use Rattle.mx_reads.proofs.Keeps.{held_new}
use Rattle.mx_core.specs.Processes.{IsGoodProcess}
use Rattle.mx_core.specs.Deeds.{deeds, front, holding}
use Rattle.mx_core.specs.Invariant.{Good}
use Rattle.mx_core.specs.Laws.{OpeningLaw}
use Rattle.mx_core.specs.Memory.{IsBare}
use Rattle.mx_core.specs.Opening.{CanOpen, any_below, is_covered, opening_process, opening}
use Rattle.mx_core.specs.Pages.{page_of, covers}
use Rattle.mx_core.specs.Words.{Valid}
use Rattle.mx_core.specs.World.{World}
use Rattle.mx_core.proofs.Memories.{empty_associative}
use Rattle.mx_core.proofs.Access.{none_some, none_asked, true_false, nowhere}
use Rattle.mx_core.proofs.ReadLaws.{front_within}

nothing_at : {A : Type 0} (x : A) → None ≡ Some x → ⊥
nothing_at x e = cc

pub some_below : (n : ℕ) (has : ℕ → Bool) (i : ℕ) → i < n → IsTrue (has i) → IsTrue (any_below n has)
some_below zero has i under h = absurd (omega arith)
some_below (suc n) has i under h = elim (cases_eq i n) [
  | inl e ↦ or_left (has n) (any_below n has) (subst (λ (m : ℕ). IsTrue (has m)) e h)
  | inr apart ↦ or_right (has n) (any_below n has) (some_below n has i (omega arith) h)
]

pub unknown_bare : (d : Descriptor) (page : ℕ) → d ≡ unknown_desc → IsTrue (covers d page) → ⊥
unknown_bare d page e h =
    let h' = subst (λ (x : Descriptor). IsTrue (covers x page)) e h in
    let under = ltb-true (64 * page) (64 * 0 + 0) (and_parts (nat_le 0 page) (nat_lt (64 * page) (64 * 0 + 0)) h').1 in
    absurd (omega arith)

module _ (processes numbers start : ℕ) (table : ℕ → ℕ → Descriptor) (can : CanOpen processes numbers start table) where
  abbrev w : World
  w = opening processes numbers start table

  bare : (page : ℕ) → IsTrue (not (is_covered processes numbers table page)) → IsBare table page
  bare page clean p n h = elim (cases_lt processes p) [
    | inl far ↦ unknown_bare (table p n) page (can.more p n far) h
    | inr near ↦ elim (cases_lt n numbers) [
      | inr far ↦ unknown_bare (table p n) page (can.beyond p n far) h
      | inl under ↦ both_ways (is_covered processes numbers table page)
          (not-true (is_covered processes numbers table page) clean)
          (some_below (suc processes) (λ q. any_below numbers (λ m. covers (table q m) page)) p (omega arith)
          (some_below numbers (λ m. covers (table p m) page) n under h))
    ]
  ]

  process : (p : ℕ) → IsGoodProcess start start start (λ q n. table p n) (λ n. Valid start (table p n))
      (opening_process start)
  process p = record {
    floor_low = omega arith;
    floor_high = omega arith;
    told = λ q n. omega arith;
    ready = λ u e. absurd (none_some u e);
    triples = λ current u k. absurd (elim k [ inl e ↦ none_some u e | inr is ↦ nowhere u is ]);
    hold = λ a e. absurd (none_asked a e);
    acknowledged = λ a. absurd (true_false a);
    late = λ l. absurd l.ready;
    cleared_low = omega arith;
    cleared_high = omega arith;
    connect_high = omega arith;
    cut = λ l e. absurd (omega arith);
    same = λ l e c u k. absurd (omega arith);
    flag = refl;
    look = λ n. absurd (n refl);
    looked = λ n. absurd (n refl);
  }

  opened : Good w
  opened = record {
    shape = record {
      limit = can.limit;
      admissible = λ q. can.admissible;
      nobody = λ q. can.nobody;
      more = λ q. can.more;
      beyond = λ q. can.beyond;
      words = λ p n l. ap (Valid start) (can.beyond p n l);
      idle_nobody = refl;
      idle_more = λ p l. refl;
      reported = λ p. omega arith;
      marked = λ q a b. absurd (omega arith);
      memories = λ p. empty_associative;
      notes = λ i l. refl;
    };
    access = record {
      start_low = omega arith;
      answered_low = omega arith;
      length_high = omega arith;
      words = λ p n. record {
        low = omega arith;
        high = omega arith;
        stands = λ q a b. refl;
        altered = λ l. absurd (omega arith);
        known = refl;
      };
      processes = process;
      tolds = λ o p n. omega arith;
      notes = λ i o e. absurd (nothing_at o e);
    };
    traces = λ p. record {
      elements = λ i e op d at. absurd (nothing_at _ at);
      misses = λ i n by at. absurd (nothing_at _ at);
      order = λ i j e f op op' d d' less at at'. absurd (nothing_at _ at);
    };
    reads = record {
      within = λ u i d h. absurd (nothing_at d h);
      low = λ u q l. front_within start (λ r. record { process = 0; mark = 0 }) u q 0 (λ r a b e. omega arith);
      idle = λ u l. refl;
      source = λ p i. 0;
      right = λ read h. absurd (nothing_at _ h);
      held = λ c h. held_new (deeds w) (front start (λ r. record { process = 0; mark = 0 })) (λ p i. 0) c (holding w c)
          (record {
            value = refl;
            writer = refl;
            stamp = refl;
            empty = λ u place value point s. absurd (nothing_at _ s);
          });
    };
    memory = record {
      cells = λ c. record {
        word = omega arith;
        zero = λ e. refl;
        low = λ some. absurd (some refl);
        high = λ some. absurd (some refl);
      };
      clean_zero = λ c h. refl;
      clean_bare = λ c h. bare (page_of c) h;
      clean_bare_next = λ c h. bare (page_of c) h;
      covered_ready = λ page p n h. refl;
      covered_ready_next = λ page p n h. refl;
      given_bare = λ before page a b h. absurd (true_false h);
    };
  }

pub opening_law : OpeningLaw
opening_law processes numbers start table can = opened processes numbers start table can
