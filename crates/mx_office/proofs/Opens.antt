-- A prepared session opens with all that the office keeps under its lock.
use Rattle.std.proofs.Common.{◌≡◌, inl, inr, ℕ, zero, suc, ◌+◌, ◌<◌, ◌≤◌, Bool, true, false, List, [], length, map, take, refl, sym, ap, ◌∙◌, subst, arith}
use Rattle.std.specs.Prelude.{IsTrue, ◌||◌, not}
use Rattle.std.proofs.lemmas.Bool.{cases_eq, cases_lt}
use Rattle.std.proofs.lemmas.List.{append-nil, take_all}
use Rattle.mx_core.specs.Opening.{CanOpen, any_below, is_covered}
use Rattle.mx_core.specs.Pages.{covers, page_of}
use Rattle.mx_core.specs.declared.changes.Change.{Change}
use Rattle.mx_request.specs.Versions.{last_number}
use Rattle.mx_rule.proofs.OpeningWords.{base_opens}
use Rattle.mx_rule.specs.Dealing.{opening_view}
use Rattle.mx_rule.specs.Openings.{MayOpen}
use Rattle.mx_rule.specs.Seats.{super_of}
use Rattle.mx_rule.specs.Shown.{base_of}
use Rattle.mx_rule.specs.declared.layout.Layout.{Layout}
use Rattle.mx_rule.specs.declared.views.SuperView.{SuperView}
use Rattle.mx_script.specs.Sessions.{Outline}
use Rattle.mx_sdw.specs.Admissible.{IsAdmissible}
use Rattle.mx_sdw.specs.Descriptors.{Descriptor}
use Rattle.mx_state.specs.History.{replay}
use Rattle.mx_state.specs.Pages.{AreFreePagesBare}
use Rattle.mx_state.specs.Plain.{Plain}
use Rattle.mx_state.specs.Table.{descriptor}
use Rattle.mx_state.specs.declared.journal.Entry as journaled
use Rattle.mx_sup.specs.Supervised.{IsHistory, Supervised, state_of, supervised}
use Rattle.mx_transcript.specs.Access.{descriptor_at}
use Rattle.mx_transcript.specs.Legal.{call_of, setup_call, setup_entries}
use Rattle.mx_transcript.specs.Opened.{opening_of}
use Rattle.mx_closing.proofs.Closings.{setup_makers}
use Rattle.mx_closing.proofs.Openings.{state_now}
use Rattle.mx_closing.specs.Keeping.{KeepsJournal}
use Rattle.mx_closing.specs.Opening.{layout_of}
use Rattle.mx_closing.specs.Preparing.{IsPrepared}
use Rattle.mx_closing.specs.declared.preparing.Prepared.{Prepared}
use Rattle.mx_office.specs.Locked.{IsLocked, state_at}
use Rattle.mx_office.proofs.Comings.{from_true, not_true, to_true}
use Rattle.mx_office.proofs.Locks.{nobody_beyond}

-- nothing below is so
neither : (a b : Bool) → (IsTrue a → ⊥) → IsTrue (not b) → IsTrue (not (a || b))
neither true b none rest = absurd (none (to_true true refl))
neither false b none rest = rest

never : (b : Bool) → IsTrue (not b) → IsTrue b → ⊥
never true none is = not_true none
never false none is = not_true is

none_below : (n : ℕ) (has : ℕ → Bool) → ((i : ℕ) → i < n → IsTrue (has i) → ⊥) → IsTrue (not (any_below n has))
none_below zero has none = to_true true refl
none_below (suc n) has none = neither (has n) (any_below n has) (none n (omega arith))
    (none_below n has (λ i low. none i (omega arith)))

none_covered : (processes numbers : ℕ) (table : ℕ → ℕ → Descriptor) (page : ℕ)
    → ((p n : ℕ) → IsTrue (covers (table p n) page) → ⊥) → IsTrue (not (is_covered processes numbers table page))
none_covered processes numbers table page none =
    none_below (suc processes) (λ p. any_below numbers (λ n. covers (table p n) page)) (λ p low.
    never (any_below numbers (λ n. covers (table p n) page))
    (none_below numbers (λ n. covers (table p n) page) (λ n under. none p n)))

-- what the supervisor at the shared words then knows, once the passes are dealt
abbrev pub opened_view : Outline → ℕ → List Change → SuperView journaled.Entry
opened_view x start base =
    record (opening_view (length x.principals) (last_number x.version + 1) start base) { next = length x.principals + 1 }

module _ (x : Outline) (setup : List journaled.Entry) (base : List Change) (history : IsHistory (supervised x setup))
    (only : length setup ≡ setup_entries x) (may : MayOpen (layout_of x) (length setup) base)
    (own : (p n : ℕ) → 1 ≤ p → p ≤ length x.principals → base_of base p n ≡ descriptor_at x setup (length setup) p n)
    (bare : AreFreePagesBare (replay (opening_of x) setup))
    (few : length (replay (opening_of x) setup).processes ≡ length x.principals) where
  abbrev now : Plain
  now = replay (opening_of x) setup

  can : CanOpen (length x.principals) (last_number x.version + 1) (length setup) (base_of base)
  can = base_opens (layout_of x) (length setup) base may

  -- beyond the processes all is unknown on either side
  table_is : (p n : ℕ) → base_of base p n ≡ descriptor now p n
  table_is p n = elim (cases_eq p 0) [
    | inl none ↦ subst (λ (q : ℕ). base_of base q n ≡ descriptor now q n) (sym none) (can.nobody n)
    | inr some ↦ elim (cases_lt (length x.principals) p) [
      | inl past ↦ can.more p n past ∙ sym (nobody_beyond now p n (let a = few in omega arith))
      | inr within ↦ own p n (omega arith) within ∙ sym (state_now x setup p n)
    ]
  ]

  admissible : (p n : ℕ) → IsAdmissible (descriptor now p n)
  admissible p n = subst IsAdmissible (table_is p n) (can.admissible p n)

  state_is : (q : ℕ) → q ≡ length setup → state_at x setup q ≡ now
  state_is q is = ap (replay (opening_of x)) (ap (λ (k : ℕ). take k setup) is ∙ take_all (length setup) setup (omega arith))

  pub opens_locked : IsLocked x setup (layout_of x) (supervised x setup) (opened_view x (length setup) base) 0
  opens_locked = record {
    session = refl;
    history = history;
    opened = record {
      count = only;
      makers = setup_makers x setup [] only
          (ap (λ (j : List journaled.Entry). take (setup_entries x) (map call_of j)) (append-nil setup) ∙ history.setup_first);
    };
    laid = record { processes = refl; numbers = refl };
    rest = omega arith;
    journal = sym (append-nil setup);
    start = refl;
    makers = tt;
    tables = λ q p n from to. table_is p n
        ∙ sym (ap (λ (z : Plain). descriptor z p n) (state_is q (omega arith)));
    admissible = λ q p n from to. can.admissible p n;
    words = λ p n. record {
      low = omega arith;
      high = omega arith;
      stands = λ q from to. refl;
      altered = λ above. absurd (omega arith);
      known = refl;
    };
    pages = record {
      clean = λ cell low free. none_covered (length x.principals) (last_number x.version + 1) (base_of base) (page_of cell)
          (λ p n covered. bare p n (page_of cell) (admissible p n) low free
          (subst (λ (d : Descriptor). IsTrue (covers d (page_of cell))) (table_is p n) covered));
      ready = λ page low taken. to_true true refl;
      given = λ q page from below low. absurd (omega arith);
    };
    counted = refl;
    dealt = omega arith;
    out = refl;
  }

-- what the seat of the opening keeps is the table
kept_table : (x : Outline) (setup : List journaled.Entry) (next : ℕ) (base : List Change)
    → KeepsJournal x setup (record (opening_view {E = journaled.Entry} (length x.principals) (last_number x.version + 1) (length setup) base) { next = next })
    → (p n : ℕ) → 1 ≤ p → p ≤ length x.principals → base_of base p n ≡ descriptor_at x setup (length setup) p n
kept_table x setup next base keeps p n some most =
    keeps.tables (length setup) p n (omega arith) (omega arith) some most
    ∙ ap (λ (j : List journaled.Entry). descriptor_at x j (length setup) p n) (append-nil setup)

-- under the names of a run
pub prepared_locked : (x : Outline) (setup : List journaled.Entry) (y : Layout) (prepared : Prepared)
    (v : SuperView journaled.Entry) (total : ℕ) → IsPrepared x prepared → prepared.supervisor.journal ≡ setup
    → AreFreePagesBare (state_of prepared.supervisor)
    → length (state_of prepared.supervisor).processes ≡ length prepared.supervisor.session.principals
    → y ≡ layout_of x → v ≡ record (super_of prepared.seat.seat.me.0) { next = y.processes + 1 } → total ≡ 0
    → IsLocked x setup y prepared.supervisor v total
prepared_locked x setup y prepared v total is named bare few laid view none =
    subst (λ (z : List journaled.Entry × (Layout × (Supervised × (SuperView journaled.Entry × ℕ)))).
    IsLocked x z.0 z.1.0 z.1.1.0 z.1.1.1.0 z.1.1.1.1)
    (λ i. (named i, (sym laid i, (supervised (sym session i) j, (sym seat i, sym none i)))))
    (opens_locked x j prepared.base (subst (λ (o : Outline). IsHistory (supervised o j)) session is.opened.history) only
    is.may
    (kept_table x j 1 prepared.base (subst (λ (u : SuperView journaled.Entry). KeepsJournal x j (record u { next = 1 }))
    is.view (is.keeps 1)))
    (subst (λ (o : Outline). AreFreePagesBare (replay (opening_of o) j)) session bare)
    (subst (λ (o : Outline). length (replay (opening_of o) j).processes ≡ length o.principals) session few))
  where
    j : List journaled.Entry
    j = prepared.supervisor.journal

    session : prepared.supervisor.session ≡ x
    session = is.opened.session

    only : length j ≡ setup_entries x
    only = is.opened.only

    seat : v ≡ opened_view x (length j) prepared.base
    seat = view ∙ (λ i. record (is.view i) { next = (laid i).processes + 1 })
