-- The conditions of Append can be decided.
use Rattle.std.proofs.Common.{◌≡◌, ◌⊎◌, inl, inr, ℕ, zero, suc, ◌+◌, ◌*◌, ◌<◌, ◌≤◌, List, [], ◌∷◌, length, refl, sym, ◌∙◌, subst, Option, Some, None, arith}
use Rattle.std.specs.Prelude.{IsTrue, true, false, nat_le, nat_lt, ◌&&◌, ◌||◌}
use Rattle.std.specs.List.{slice_get}
use Rattle.std.proofs.lemmas.Bool.{cases_eq, cases_lt, cases_Bool, both_ways, and_parts, or_cases, ltb-true}
use Rattle.std.proofs.lemmas.Option.{slice_get_within}
use Rattle.mx_sdw.specs.Descriptors.{Descriptor, unknown_desc, gone_desc}
use Rattle.mx_sdw.specs.declared.descriptors.DescKind.{DescKind}
use Rattle.mx_sdw.specs.declared.descriptors.DescKind.TheVariants.{Unknown, Gone, Segment}
use Rattle.mx_core.specs.Append.{IsGoodChange, IsEntryInRange, IsClearAt, IsCoveredAt}
use Rattle.mx_sdw.specs.Admissible.{IsInRange, IsSegment, IsAdmissible, keeps_class}
use Rattle.mx_core.specs.Pages.{page_of, covers, gives, covered_anew}
use Rattle.mx_core.specs.World.{World}
use Rattle.mx_core.specs.declared.changes.Change.{Change}
use Rattle.mx_core.specs.declared.changes.Run.{Run}
use Rattle.mx_core.proofs.Decide.{Dec, FirstFailing, all_or_first, all_dec, process_dec, pair_dec}
use Rattle.mx_core.proofs.Descriptors.{same_descriptor}
use Rattle.mx_core.proofs.OpeningLaw.{unknown_bare}

order_dec : (a b : ℕ) → Dec (a ≤ b)
order_dec a b = elim (cases_lt b a) [ inl l ↦ inr (λ m. absurd (omega arith)) | inr m ↦ inl m ]

false_true : false ≡ true → ⊥
false_true e = cc

range_of_dec : (d : Descriptor) → Dec (IsInRange d)
range_of_dec d = elim (order_dec d.brackets.r1 d.brackets.r2) [
  | inr x ↦ inr (λ is. x is.order.write_first)
  | inl first ↦ elim (order_dec d.brackets.r2 d.brackets.r3) [
    | inr x ↦ inr (λ is. x is.order.gate_last)
    | inl last ↦ elim (order_dec d.brackets.r3 7) [
      | inr x ↦ inr (λ is. x is.ring)
      | inl ring ↦ elim (order_dec d.gate 1024) [
        | inr x ↦ inr (λ is. x is.gate)
        | inl gate ↦ elim (order_dec d.page 1023) [
          | inr x ↦ inr (λ is. x is.page)
          | inl page ↦ elim (order_dec 1 d.bound) [
            | inr x ↦ inr (λ is. x is.some)
            | inl some ↦ elim (order_dec d.bound 1024) [
              | inr x ↦ inr (λ is. x is.most)
              | inl most ↦ elim (cases_Bool (keeps_class d)) [
                | inr x ↦ inr (λ is. false_true (sym x ∙ is.class))
                | inl class ↦ inl (record {
                  order = record { write_first = first; gate_last = last };
                  ring = ring;
                  gate = gate;
                  page = page;
                  some = some;
                  most = most;
                  class = class;
                })
              ]
            ]
          ]
        ]
      ]
    ]
  ]
]

segment_dec : (d : Descriptor) → Dec (IsSegment d)
segment_dec d = elim (range_of_dec d) [
  | inr x ↦ inr (λ is. x is.range)
  | inl range ↦ elim (order_dec (64 * d.page + d.bound) 65536) [
    | inr x ↦ inr (λ is. x is.cells)
    | inl cells ↦ inl (record { range = range; cells = cells })
  ]
]

admissible_by : (d : Descriptor) (kind : DescKind) → d.kind ≡ kind → Dec (IsAdmissible d)
admissible_by d Unknown e = elim (same_descriptor d unknown_desc) [
  | inl is ↦ inl (record {
    unknown = λ f. is;
    gone = λ f. absurd (unlike (sym e ∙ f));
    segment = λ f. absurd
        (other (sym e ∙ f));
  })
  | inr x ↦ inr (λ a. x (a.unknown e))
]
  where
    unlike : Unknown ≡ Gone → ⊥
    unlike h = cc

    other : Unknown ≡ Segment → ⊥
    other h = cc
admissible_by d Gone e = elim (same_descriptor d gone_desc) [
  | inl is ↦ inl (record {
    unknown = λ f. absurd (unlike (sym e ∙ f));
    gone = λ f. is;
    segment = λ f. absurd
        (other (sym e ∙ f));
  })
  | inr x ↦ inr (λ a. x (a.gone e))
]
  where
    unlike : Gone ≡ Unknown → ⊥
    unlike h = cc

    other : Gone ≡ Segment → ⊥
    other h = cc
admissible_by d Segment e = elim (segment_dec d) [
  | inl is ↦ inl (record {
    unknown = λ f. absurd (unlike (sym e ∙ f));
    gone = λ f. absurd (other (sym e ∙ f));
    segment = λ f. is;
  })
  | inr x ↦ inr (λ a. x (a.segment e))
]
  where
    unlike : Segment ≡ Unknown → ⊥
    unlike h = cc

    other : Segment ≡ Gone → ⊥
    other h = cc

nothing_at : {A : Type 0} (a : A) → None ≡ Some a → ⊥
nothing_at a h = cc

same_at : {A : Type 0} (a b : A) → Some a ≡ Some b → a ≡ b
same_at a b h = cc

-- what is said of each item of a list
each_by : {A : Type 0} (P : A → Type 0) (xs : List A) (i : ℕ) (o : Option A) → slice_get xs i ≡ o
    → ((a : A) → Dec (P a)) → Dec ((a : A) → slice_get xs i ≡ Some a → P a)
each_by P xs i None e d = inl (λ a h. absurd (nothing_at a (sym e ∙ h)))
each_by P xs i (Some a) e d = elim (d a) [
  | inl p ↦ inl (λ b h. subst P (same_at a b (sym e ∙ h)) p)
  | inr x ↦ inr (λ all. x (all a e))
]

each_dec : {A : Type 0} (P : A → Type 0) (xs : List A) → ((a : A) → Dec (P a))
    → Dec ((i : ℕ) (a : A) → slice_get xs i ≡ Some a → P a)
each_dec {A} P xs d =
    all_dec (λ i. (a : A) → slice_get xs i ≡ Some a → P a) (length xs) (λ i. each_by P xs i (slice_get xs i) refl d)
    (λ i l a h. let under = slice_get_within xs i a h in absurd (omega arith))

good_change_dec : (w : World) (c : Change) → Dec (IsGoodChange w c)
good_change_dec w c = elim (pair_dec w c.process c.segno) [
  | inr x ↦ inr (λ is. x is.pair)
  | inl pair ↦ elim (admissible_by c.desc c.desc.kind refl) [
    | inr x ↦ inr (λ is. x is.desc)
    | inl desc ↦ inl (record { pair = pair; desc = desc })
  ]
]

-- two runs share no page, or stand at one place
abbrev Apart : Run → Run → ℕ → ℕ → Type 0
Apart a b i j = (page : ℕ) → page < 1024 → IsTrue (gives (a ∷ []) page) → IsTrue (gives (b ∷ []) page) → i ≡ j

gives_dec : (run : Run) (page : ℕ) → Dec (IsTrue (gives (run ∷ []) page))
gives_dec run page = elim (cases_Bool (gives (run ∷ []) page))
    [ inl e ↦ inl e | inr e ↦ inr (λ h. both_ways (gives (run ∷ []) page) e h) ]

pub page_under : (given : List Run) (page : ℕ)
    → ((i : ℕ) (a : Run) → slice_get given i ≡ Some a → a.page + a.pages ≤ 1024)
    → IsTrue (gives given page) → page < 1024
page_under [] page all h = cc
page_under (run ∷ rest) page all h =
    elim (or_cases (nat_le run.page page && nat_lt page (run.page + run.pages)) (gives rest page) h) [
      | inl here ↦
          let under = ltb-true page (run.page + run.pages)
          (and_parts (nat_le run.page page) (nat_lt page (run.page + run.pages)) here).1 in
          let most = all 0 run refl in omega arith
      | inr there ↦ page_under rest page (λ i a e. all (suc i) a e) there
    ]

pub anew_under : (changes : List Change) (page : ℕ)
    → ((i : ℕ) (c : Change) → slice_get changes i ≡ Some c → IsAdmissible c.desc) → IsTrue (covered_anew changes page)
    → page < 1024
anew_under [] page all h = cc
anew_under (c ∷ rest) page all h = elim (or_cases (covers c.desc page) (covered_anew rest page) h) [
  | inl here ↦ by_kind c.desc.kind refl (all 0 c refl) here
  | inr there ↦ anew_under rest page (λ i d e. all (suc i) d e) there
]
  where
    by_kind : (kind : DescKind) → c.desc.kind ≡ kind → IsAdmissible c.desc → IsTrue (covers c.desc page) → page < 1024
    by_kind Unknown e is k = absurd (unknown_bare c.desc page (is.unknown e) k)
    by_kind Gone e is k =
        let k' = subst (λ (d : Descriptor). IsTrue (covers d page)) (is.gone e) k in
        let under = ltb-true (64 * page) (64 * 0 + 0)
        (and_parts (nat_le 0 page) (nat_lt (64 * page) (64 * 0 + 0)) k').1 in absurd (omega arith)
    by_kind Segment e is k =
        let most = (is.segment e).cells in
        let under = ltb-true (64 * page) (64 * c.desc.page + c.desc.bound)
        (and_parts (nat_le c.desc.page page) (nat_lt (64 * page) (64 * c.desc.page + c.desc.bound)) k).1 in omega
        arith

pair_once_dec : (changes : List Change)
    → Dec ((i j : ℕ) (a b : Change) → slice_get changes i ≡ Some a → slice_get changes j ≡ Some b
    → a.process ≡ b.process → a.segno ≡ b.segno → i ≡ j)
pair_once_dec changes = elim (all_dec
    (λ i. (a : Change) → slice_get changes i ≡ Some a → (j : ℕ) (b : Change) → slice_get changes j ≡ Some b
    → a.process ≡ b.process → a.segno ≡ b.segno → i ≡ j)
    (length changes) (λ i. each_by (λ a. (j : ℕ) (b : Change) → slice_get changes j ≡ Some b → a.process ≡ b.process
    → a.segno ≡ b.segno → i ≡ j) changes i (slice_get changes i) refl
    (λ a. all_dec (λ j. (b : Change) → slice_get changes j ≡ Some b → a.process ≡ b.process → a.segno ≡ b.segno
    → i ≡ j) (length changes)
    (λ j. each_by (λ b. a.process ≡ b.process → a.segno ≡ b.segno → i ≡ j) changes j (slice_get changes j) refl
    (λ b. one a b i j))
    (λ j l b h. let under = slice_get_within changes j b h in absurd (omega arith))))
    (λ i l a h. let under = slice_get_within changes i a h in absurd (omega arith))) [
      | inl all ↦ inl (λ i j a b h k. all i a h j b k)
      | inr x ↦ inr (λ all. x (λ i a h j b k. all i j a b h k))
    ]
  where
    one : (a b : Change) (i j : ℕ) → Dec (a.process ≡ b.process → a.segno ≡ b.segno → i ≡ j)
    one a b i j = elim (cases_eq i j) [
      | inl e ↦ inl (λ f g. e)
      | inr apart ↦ elim (cases_eq a.process b.process) [
        | inr x ↦ inl (λ f g. absurd (x f))
        | inl f ↦ elim (cases_eq a.segno b.segno) [
          | inr x ↦ inl (λ f' g. absurd (x g))
          | inl g ↦ inr (λ h. apart (h f g))
        ]
      ]
    ]

page_once_dec : (given : List Run) → ((i : ℕ) (a : Run) → slice_get given i ≡ Some a → a.page + a.pages ≤ 1024)
    → Dec ((i j page : ℕ) (a b : Run) → slice_get given i ≡ Some a → slice_get given j ≡ Some b
    → IsTrue (gives (a ∷ []) page) → IsTrue (gives (b ∷ []) page) → i ≡ j)
page_once_dec given pages = elim
    (all_dec (λ i. (a : Run) → slice_get given i ≡ Some a → (j : ℕ) (b : Run) → slice_get given j ≡ Some b
    → Apart a b i j)
    (length given) (λ i. each_by (λ a. (j : ℕ) (b : Run) → slice_get given j ≡ Some b → Apart a b i j) given i
    (slice_get given i) refl
    (λ a. all_dec (λ j. (b : Run) → slice_get given j ≡ Some b → Apart a b i j) (length given)
    (λ j. each_by (λ b. Apart a b i j) given j (slice_get given j) refl (λ b. one a b i j))
    (λ j l b h. let under = slice_get_within given j b h in absurd (omega arith))))
    (λ i l a h. let under = slice_get_within given i a h in absurd (omega arith))) [
      | inl all ↦ inl (λ i j page a b h k f g. all i a h j b k page
          (let m = page_under (a ∷ []) page (alone a (pages i a h)) f in omega arith) f g)
      | inr x ↦ inr (λ all. x (λ i a h j b k page l f g. all i j page a b h k f g))
    ]
  where
    alone : (a : Run) → a.page + a.pages ≤ 1024 → (i : ℕ) (b : Run) → slice_get (a ∷ []) i ≡ Some b
        → b.page + b.pages ≤ 1024
    alone a most zero b h = let e : a ≡ b = cc in subst (λ (x : Run). x.page + x.pages ≤ 1024) e most
    alone a most (suc i) b h = cc

    one : (a b : Run) (i j : ℕ) → Dec (Apart a b i j)
    one a b i j = elim (cases_eq i j) [
      | inl e ↦ inl (λ page l f g. e)
      | inr apart ↦ all_dec (λ page. page < 1024 → IsTrue (gives (a ∷ []) page) → IsTrue (gives (b ∷ []) page) → i ≡ j)
          1024
          (λ page. elim (gives_dec a page) [
            | inr x ↦ inl (λ l f g. absurd (x f))
            | inl f ↦ elim (gives_dec b page) [
              | inr x ↦ inl (λ l f' g. absurd (x g))
              | inl g ↦ elim (cases_lt page 1024) [
                | inl l ↦ inr (λ h. apart (h l f g))
                | inr l ↦ inl (λ m f' g'. absurd (omega arith))
              ]
            ]
          ]) (λ page l m f g. absurd (omega arith))
    ]

pub range_dec : (w : World) (p : ℕ) (changes : List Change) (given : List Run) → Dec (IsEntryInRange w p changes given)
range_dec w p changes given = elim (process_dec w p) [
  | inr x ↦ inr (λ is. x is.process)
  | inl process ↦ elim (each_dec (IsGoodChange w) changes (good_change_dec w)) [
    | inr x ↦ inr (λ is. x is.each)
    | inl each ↦ elim (pair_once_dec changes) [
      | inr x ↦ inr (λ is. x is.pair_once)
      | inl pair_once ↦ elim (each_dec (λ a. a.page + a.pages ≤ 1024) given (λ a. within a)) [
        | inr x ↦ inr (λ is. x is.pages)
        | inl pages ↦ elim (page_once_dec given pages) [
          | inr x ↦ inr (λ is. x is.page_once)
          | inl page_once ↦ inl (record {
            process = process;
            each = each;
            pair_once = pair_once;
            pages = pages;
            page_once = page_once;
          })
        ]
      ]
    ]
  ]
]
  where
    within : (a : Run) → Dec (a.page + a.pages ≤ 1024)
    within a = elim (cases_lt 1024 (a.page + a.pages)) [ inl l ↦ inr (λ m. absurd (omega arith)) | inr l ↦ inl l ]

pub clear_all : (w : World) (p : ℕ) (changes : List Change) (given : List Run) → IsEntryInRange w p changes given
    → ((page : ℕ) → IsClearAt w given page) ⊎ FirstFailing (IsClearAt w given)
clear_all w p changes given range = all_or_first (IsClearAt w given) 1024 one
    (λ page l h. let m = page_under given page range.pages h in absurd (omega arith))
  where
    one : (page : ℕ) → Dec (IsClearAt w given page)
    one page = elim (cases_Bool (gives given page)) [
      | inr e ↦ inl (λ h. absurd (both_ways (gives given page) e h))
      | inl e ↦ elim (all_dec (λ c. page_of c ≡ page → IsTrue (w.clean c)) (64 * page + 64)
          (λ c. elim (cases_Bool (w.clean c)) [
            | inl clean ↦ inl (λ at. clean)
            | inr dirty ↦ elim (cases_eq (page_of c) page) [
              | inl at ↦ inr (λ h. both_ways (w.clean c) dirty (h at))
              | inr x ↦ inl (λ at. absurd (x at))
            ]
          ]) (λ c l at. absurd (omega arith))) [
            | inl all ↦ inl (λ h. all)
            | inr x ↦ inr (λ h. x (h e))
          ]
    ]

pub covered_all : (w : World) (p : ℕ) (changes : List Change) (given : List Run) → IsEntryInRange w p changes given
    → ((page : ℕ) → IsCoveredAt w changes given page) ⊎ FirstFailing (IsCoveredAt w changes given)
covered_all w p changes given range = all_or_first (IsCoveredAt w changes given) 1024 one
    (λ page l h. let m = anew_under changes page (λ i c at. (range.each i c at).desc) h in absurd (omega arith))
  where
    one : (page : ℕ) → Dec (IsCoveredAt w changes given page)
    one page = elim (cases_Bool (gives given page || w.ready page)) [
      | inl e ↦ inl (λ h. e)
      | inr e ↦ elim (cases_Bool (covered_anew changes page)) [
        | inl anew ↦ inr (λ h. both_ways (gives given page || w.ready page) e (h anew))
        | inr not_anew ↦ inl (λ h. absurd (both_ways (covered_anew changes page) not_anew h))
      ]
    ]
