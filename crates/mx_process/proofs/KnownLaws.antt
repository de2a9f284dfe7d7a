-- What a process knows after a step of its pass.
use Rattle.std.proofs.Common.{◌≡◌, ℕ, ◌++◌, ◌∷◌, [], max, map, List, ◌∙◌, ap}
use Rattle.std.proofs.lemmas.List.{map-append}
use Rattle.mx_closing.specs.Views.{kept_in, marked_in, view_in}
use Rattle.mx_core.specs.Judging.{stamp_read}
use Rattle.mx_core.specs.declared.elements.Element.{Element}
use Rattle.mx_core.specs.declared.elements.Kept.TheVariants as recorded
use Rattle.mx_core.specs.declared.words.Asked.{Asked}
use Rattle.mx_desc.specs.Passes.{PassValue}
use Rattle.mx_desc.specs.Referring.{HasMissed}
use Rattle.mx_line.specs.AtWork.{beside}
use Rattle.mx_rule.specs.Shown.{all_told}
use Rattle.mx_rule.specs.declared.views.PassView.{PassView}
use Rattle.mx_state.specs.declared.journal.Entry as journaled
use Rattle.mx_ties.specs.Views.{Kept, Referred}
use Rattle.mx_transcript.specs.Courses.{Judged}
use Rattle.mx_process.proofs.JudgedLaws.{WasJudged}
use Rattle.mx_process.specs.Processes.{Known, having_done, known_of}
use Rattle.mx_process.specs.Turns.{IsUntold}

-- with one event more in the trace, and the floor so high
abbrev pub seen_known : Known → Judged → ℕ → Known
seen_known k j floor = record k { view = record k.view { trace = k.view.trace ++ Referred j ∷ []; floor = floor } }

module _ (n : ℕ) (a : Asked) (value : ℕ) (o o' : PassValue journaled.Entry) (e : Element) where
  pub known_seen : (j : WasJudged n a value o.view e o'.view) → o'.amount ≡ o.amount
      → known_of o' ≡ seen_known (known_of o) (beside e j.on.desc) (max o.view.floor (stamp_read e.outcome))
  known_seen j amount =
      (λ i. record {
        process = (j.after i).process;
        view = record {
          trace = map kept_in (j.after i).trace;
          history = marked_in (j.after i).history;
          floor = (j.after i).floor;
          amount = amount i;
        };
        told = λ m. all_told (j.after i).start (j.after i).told (j.after i).process m;
      })
      ∙ ap (λ (t : List Kept). record (known_of o) { view = record (view_in o) { trace = t; floor = max o.view.floor (stamp_read e.outcome) } })
      (map-append kept_in o.view.trace (recorded.Judged e a.op j.on.desc ∷ []))

  pub untold_seen : WasJudged n a value o.view e o'.view → o'.amount ≡ o.amount → IsUntold o o'
  untold_seen j amount = record {
    process = ap (λ (v : PassView journaled.Entry). v.process) j.after;
    history = ap (λ (v : PassView journaled.Entry). v.history) j.after;
    told = λ m. ap (λ (v : PassView journaled.Entry). all_told v.start v.told v.process m) j.after;
    amount = amount;
  }

module _ (n by : ℕ) (o o' : PassValue journaled.Entry) where
  pub known_missed : HasMissed n by o.view o'.view → o'.amount ≡ o.amount
      → known_of (having_done o.view.trace o') ≡ known_of o
  known_missed m amount = λ i. record {
    process = (m.after i).process;
    view = record {
      trace = map kept_in o.view.trace;
      history = marked_in (m.after i).history;
      floor = (m.after i).floor;
      amount = amount i;
    };
    told = λ s. all_told (m.after i).start (m.after i).told (m.after i).process s;
  }

  pub untold_missed : HasMissed n by o.view o'.view → o'.amount ≡ o.amount → IsUntold o o'
  untold_missed m amount = record {
    process = ap (λ (v : PassView journaled.Entry). v.process) m.after;
    history = ap (λ (v : PassView journaled.Entry). v.history) m.after;
    told = λ s. ap (λ (v : PassView journaled.Entry). all_told v.start v.told v.process s) m.after;
    amount = amount;
  }

pub untold_on : (o between o' : PassValue journaled.Entry) → IsUntold o between → IsUntold between o' → IsUntold o o'
untold_on o between o' a b = record {
  process = b.process ∙ a.process;
  history = b.history ∙ a.history;
  told = λ n. b.told n ∙ a.told n;
  amount = b.amount ∙ a.amount;
}
