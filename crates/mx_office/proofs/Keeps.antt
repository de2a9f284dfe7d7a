-- What the office keeps under its lock is what the end of a run asks of the supervisor's seat.
use Rattle.std.proofs.Common.{◌≡◌, ℕ, suc, ◌+◌, ◌<◌, ◌≤◌, List, length, sym, ap, ◌∙◌, subst, arith}
use Rattle.mx_pages.specs.Runs.{page_count}
use Rattle.mx_rule.specs.Shown.{office_of}
use Rattle.mx_rule.specs.declared.layout.Layout.{Layout}
use Rattle.mx_rule.specs.declared.views.SuperView.{SuperView}
use Rattle.mx_script.specs.Sessions.{Outline}
use Rattle.mx_state.specs.Given.{gives}
use Rattle.mx_state.specs.declared.journal.Entry as journaled
use Rattle.mx_sup.specs.Supervised.{IsHistory, Supervised, supervised}
use Rattle.mx_ties.specs.Closed.{followed}
use Rattle.mx_transcript.specs.Access.{descriptor_at}
use Rattle.mx_transcript.specs.Uses.{given_by}
use Rattle.mx_closing.specs.Keeping.{KeepsJournal}
use Rattle.mx_closing.specs.Views.{marked_in}
use Rattle.mx_office.specs.Locked.{IsLocked, state_at}

module _ (x : Outline) (setup : List journaled.Entry) (y : Layout) (s : Supervised)
    (v : SuperView journaled.Entry) (total : ℕ) (l : IsLocked x setup y s v total) where
  -- the pages that an entry gave out are those that the plain supervisor gives out there, in the journal that the seat keeps
  given_by_journal : (q page : ℕ) → v.start ≤ q → q < v.length → page < page_count
      → (office_of v).given (q + 1) page ≡ given_by x (followed setup (marked_in v.history)) (q + 1) page
  given_by_journal q page from under low =
      l.pages.given q page from under low
      ∙ (λ i. gives (state_at (l.session i) (l.journal i) q) (state_at (l.session i) (l.journal i) (q + 1)) page)
      ∙ sym (ap (λ (n : ℕ). given_by x (followed setup (marked_in v.history)) n page) next
      ∙ ap (λ (n : ℕ). gives (state_at x (followed setup (marked_in v.history)) q)
      (state_at x (followed setup (marked_in v.history)) n) page) (sym next))
    where
      next : q + 1 ≡ suc q
      next = omega arith

  pub keeps_journal : v.start + length v.history ≡ v.length → v.answered ≤ v.length → v.processes ≡ y.processes
      → KeepsJournal x setup v
  keeps_journal counted answered processes = record {
    history = subst IsHistory (λ i. supervised (l.session i) (l.journal i)) l.history;
    setup_length = l.opened.count;
    begun = l.start;
    counted = counted;
    answered = answered;
    processes = processes ∙ l.laid.processes;
    makers = l.makers;
    tables = λ q p n from to some most. l.tables q p n from to
        ∙ ap (λ (j : List journaled.Entry). descriptor_at x j q p n) l.journal;
    admissible = λ q p n from to some most. l.admissible q p n from to;
    given = given_by_journal;
  }
