-- The seat of the opening keeps the journal of the setup.
use Rattle.std.proofs.Common.{◌≡◌, inl, inr, ℕ, ◌+◌, ◌<◌, ◌≤◌, List, length, ap, sym, ◌∙◌, subst, arith}
use Rattle.std.proofs.lemmas.Bool.{cases_lt}
use Rattle.std.proofs.lemmas.List.{append-nil, take_all}
use Rattle.mx_core.specs.declared.changes.Change.{Change}
use Rattle.mx_desc.specs.Openings.{IsOpening}
use Rattle.mx_request.specs.Versions.{last_number}
use Rattle.mx_rule.specs.Dealing.{opening_view}
use Rattle.mx_rule.proofs.OpeningWords.{base_opens}
use Rattle.mx_rule.specs.Openings.{MayOpen, ArePlaced}
use Rattle.mx_rule.specs.Shown.{base_of}
use Rattle.mx_rule.specs.declared.layout.Layout.{Layout}
use Rattle.mx_rule.specs.declared.views.SuperView.{SuperView}
use Rattle.mx_script.specs.Sessions.{Outline, limit_of}
use Rattle.mx_sdw.specs.Admissible.{IsAdmissible}
use Rattle.mx_state.proofs.NumberedLaws.{unknown_law}
use Rattle.mx_state.specs.History.{replay}
use Rattle.mx_state.specs.Table.{descriptor}
use Rattle.mx_state.specs.declared.journal.Entry as journaled
use Rattle.mx_sup.specs.Supervised.{Supervised, supervised, state_of, IsHistory}
use Rattle.mx_transcript.specs.Access.{descriptor_at}
use Rattle.mx_transcript.specs.Legal.{setup_entries}
use Rattle.mx_transcript.specs.Opened.{opening_of}
use Rattle.mx_closing.proofs.Tables.{rows_have, rows_beyond, placed_rows}
use Rattle.mx_closing.specs.Keeping.{KeepsJournal}
use Rattle.mx_closing.specs.Opening.{layout_of, known_rows}

-- the state now, as a state at a point
pub state_now : (x : Outline) (journal : List journaled.Entry) (p n : ℕ)
    → descriptor (replay (opening_of x) journal) p n ≡ descriptor_at x journal (length journal) p n
state_now x journal p n =
    ap (λ (entries : List journaled.Entry). descriptor (replay (opening_of x) entries) p n)
    (sym (take_all (length journal) journal (omega arith)))

pub table_is : (x : Outline) (journal : List journaled.Entry) (count p n : ℕ) → 1 ≤ p → p ≤ count
    → base_of (known_rows (last_number x.version + 1) (descriptor (replay (opening_of x) journal)) count) p n
    ≡ descriptor_at x journal (length journal) p n
table_is x journal count p n some most = elim (cases_lt (last_number x.version) n) [
  | inl beyond ↦
      rows_beyond (last_number x.version + 1) (descriptor (replay (opening_of x) journal)) count p n
      (omega (arith, beyond))
      ∙ sym (unknown_law x.version x.principals journal p n beyond)
      ∙ state_now x journal p n
  | inr within ↦
      rows_have (last_number x.version + 1) (descriptor (replay (opening_of x) journal)) count p n some most
      (omega (arith, within))
      ∙ state_now x journal p n
]

pub opening_keeps : (x : Outline) (setup : List journaled.Entry) (processes numbers start next : ℕ) (base : List Change)
    → IsHistory (supervised x setup) → length setup ≡ setup_entries x → processes ≡ length x.principals
    → start ≡ length setup
    → ((p n : ℕ) → 1 ≤ p → p ≤ length x.principals → base_of base p n
    ≡ descriptor_at x setup (length setup) p n)
    → ((p n : ℕ) → IsAdmissible (base_of base p n))
    → KeepsJournal x setup (record (opening_view {E = journaled.Entry} processes numbers start base) { next = next })
opening_keeps x setup processes numbers start next base history many same begun table admissible = record {
  history = subst (λ (journal : List journaled.Entry). IsHistory (supervised x journal)) (sym (append-nil setup))
      history;
  setup_length = many;
  begun = begun;
  counted = omega arith;
  answered = omega arith;
  processes = same;
  makers = tt;
  tables = λ q p n low high some most.
      table p n some most
      ∙ ap (λ (point : ℕ). descriptor_at x setup point p n) (omega (arith, begun, low, high))
      ∙ ap (λ (journal : List journaled.Entry). descriptor_at x journal q p n) (sym (append-nil setup));
  admissible = λ q p n low high some most. admissible p n;
  given = λ q page low under within. absurd (omega arith);
}

-- with the list of its known descriptors the table is the plain supervisor's now
pub opens : (x : Outline) (s : Supervised) (y : Layout) (i : ℕ) (base : List Change) → s.session ≡ x
    → y ≡ layout_of x → i ≡ y.processes → base ≡ known_rows y.numbers (descriptor (state_of s)) i
    → (p n : ℕ) → 1 ≤ p → p ≤ length x.principals
    → base_of base p n ≡ descriptor_at x s.journal (length s.journal) p n
opens x s y i base own laid all is p n some most =
    let processes = ap (λ (l : Layout). l.processes) laid in
    ap (λ (changes : List Change). base_of changes p n) is
    ∙ ap (λ (l : Layout). base_of (known_rows l.numbers (descriptor (state_of s)) i) p n) laid
    ∙ ap (λ (o : Outline). base_of (known_rows (last_number x.version + 1)
    (descriptor (replay (opening_of o) s.journal)) i) p n) own
    ∙ table_is x s.journal i p n some (omega (arith, all, processes, most))

pub may_open : (x : Outline) (s : Supervised) (y : Layout) (start limit i : ℕ) (base : List Change) → s.session ≡ x
    → IsHistory s → 1 ≤ y.processes → y.processes ≤ 15 → start ≡ length s.journal → limit ≡ limit_of x
    → limit ≤ 262143 → i ≡ y.processes → base ≡ known_rows y.numbers (descriptor (state_of s)) i
    → ((p n : ℕ) → 1 ≤ p → p ≤ i → n < y.numbers → IsAdmissible (descriptor (state_of s) p n))
    → MayOpen y start base
may_open x s y start limit i base own history some most begun bound low all is admissible =
    let within = history.within_limit in
    let same = ap limit_of own in record {
      some = some;
      most = most;
      limit = omega (arith, begun, within, bound, low, same);
      each = subst (ArePlaced y) (sym is)
          (placed_rows y (descriptor (state_of s)) i (omega (arith, all)) admissible);
    }

pub keeps_now : (x : Outline) (s : Supervised) (y : Layout) (start i : ℕ) (base : List Change) → s.session ≡ x
    → IsHistory s → y ≡ layout_of x → start ≡ length s.journal → i ≡ y.processes
    → base ≡ known_rows y.numbers (descriptor (state_of s)) i → MayOpen y start base
    → length s.journal ≡ setup_entries x → (next : ℕ)
    → KeepsJournal x s.journal
    (record (opening_view {E = journaled.Entry} y.processes y.numbers start base) { next = next })
keeps_now x s y start i base own history laid begun all is may many next =
    opening_keeps x s.journal y.processes y.numbers start next base
    (subst (λ (o : Outline). IsHistory (supervised o s.journal)) own history) many
    (ap (λ (l : Layout). l.processes) laid) begun (opens x s y i base own laid all is)
    (base_opens y start base may).admissible

-- the seat's view as the opening gives it
pub begins : (processes numbers start many : ℕ) (base : List Change) (v : SuperView journaled.Entry)
    → v ≡ opening_view processes numbers start base → start ≡ many → IsOpening many v
begins processes numbers start many base v is same = record {
  begun = ap (λ (u : SuperView journaled.Entry). u.start) is ∙ same;
  none = ap (λ (u : SuperView journaled.Entry). u.history) is;
  still = ap (λ (u : SuperView journaled.Entry). u.length) is ∙ same;
  unwritten = ap (λ (u : SuperView journaled.Entry). u.words) is;
  first = ap (λ (u : SuperView journaled.Entry). u.next) is;
}

pub listed : (processes numbers start : ℕ) (base : List Change) (v : SuperView journaled.Entry)
    → v ≡ opening_view processes numbers start base → base ≡ v.base
listed processes numbers start base v is = ap (λ (u : SuperView journaled.Entry). u.base) (sym is)

pub still_keeps : (x : Outline) (setup : List journaled.Entry) (processes numbers start : ℕ) (base : List Change)
    (v : SuperView journaled.Entry) → v ≡ opening_view processes numbers start base → (next : ℕ)
    → KeepsJournal x setup (record (opening_view {E = journaled.Entry} processes numbers start base) { next = next })
    → KeepsJournal x setup (record v { next = next })
still_keeps x setup processes numbers start base v is next keeps =
    subst (λ (u : SuperView journaled.Entry). KeepsJournal x setup (record u { next = next })) (sym is) keeps
