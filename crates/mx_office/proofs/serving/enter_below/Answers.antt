use Rattle.std.proofs.Common.{◌≡◌, ℕ, ◌+◌, ◌≤◌, List, length, sym, ap, ◌∙◌, subst, arith}
use Rattle.mx_core.specs.declared.changes.Run.{Run}
use Rattle.mx_desc.specs.Passes.{PassValue}
use Rattle.mx_rule.specs.Notes.{reported_view, reporting_view}
use Rattle.mx_rule.specs.Shown.{office_of, reported_of}
use Rattle.mx_rule.specs.declared.views.PassView.{PassView}
use Rattle.mx_rule.specs.declared.views.SuperView.{SuperView}
use Rattle.mx_state.specs.declared.journal.Entry as journaled
use Rattle.mx_office.specs.Announcing.{Coming, IsAnnounced, MayAnnounce, announced_view, coming}
use Rattle.mx_office.specs.Serving.{HasEntered, IsServed, runs_of}
use Rattle.mx_office.specs.declared.answers.Served.{Served}
use Rattle.mx_rule.specs.Notes.{noting_view}
use Rattle.mx_rule.specs.Telling.{AreRightWords}
use Rattle.mx_transcript.specs.Misses.{IsChanged}
use Rattle.mx_office.specs.Locked.{IsLocked}
use Rattle.mx_office.proofs.Locks.{changed_listed, journal_after, length_is, locked_after, locked_as, may_announce}
use Rattle.mx_office.proofs.Serves.{entered_by, entry_found, fits_found, grown_journal, linked_found, longer_by, number_within, same_served, served_by}
use Rattle.mx_office.proofs.serving.enter_below.Goals as goal

pub entry-entry-requires-clause-most : goal.entry-entry-requires-clause-most
entry-entry-requires-clause-most g c = number_within _ _ _ _ _ _ c.in_ok-made.ensures.entered

pub announce-requires-clause-may : goal.announce-requires-clause-may
announce-requires-clause-may g c =
    let x = g.B.Sitting.session in
    let s = c.args.supervisor.now in
    let s' = c.apply.new.supervisor in
    let v = c.args.chief.now in
    let u = c.args.pass.now.view in
    let w = reported_view (reporting_view u) v in
    let heard : c.report.new.self ≡ w = c.report.ensures.view in
    let u_is : c.report.new.pass.view ≡ u = ap (λ (z : PassValue journaled.Entry). z.view) c.report.ensures.pass in
    let l = locked_as x g.B.Sitting.setup g.B.Naming.layout s v c.args.book.now.total w.reported v.made c.requires.locked in
    let made = c.in_ok-made.ensures.entered in
    let found = c.entry-entry.result.now in
    let mine_is = entry_found s s' c.process-process.result c.args.ring c.args.request.now c.in_ok-made.made.came.number made
    found c.entry-entry.ensures in
    let process : found.process ≡ u.process = ap (λ (e : journaled.Entry). e.process) mine_is ∙ c.process-process.ensures.value in
    let some : 1 ≤ found.process = (let a = c.process-process.ensures.low in
    let b = ap (λ (e : journaled.Entry). e.process) mine_is in omega arith) in
    let most : found.process ≤ length x.principals = (let a = c.process-process.ensures.high in
    let b = ap (λ (e : journaled.Entry). e.process) mine_is in let d = c.requires.locked.laid.processes in omega arith) in
    let may = may_announce x g.B.Sitting.setup g.B.Naming.layout s s' w c.args.book.now.total l found c.in_ok-made.made.came
    c.in_ok-made.ensures.came
    (grown_journal s s' c.process-process.result c.args.ring c.args.request.now c.in_ok-made.made.came.number made found
    c.entry-entry.ensures)
    c.free_pages_are_bare.ensures c.length-before.ensures.processes c.length-after.ensures.processes
    (let a = c.length-length.ensures.counted in let b = c.length-length.ensures.begun in omega arith)
    u c.layout-layout.ensures.processes c.layout-layout.ensures.numbers process some most c.requires.below
    (subst (λ (z : SuperView journaled.Entry). u.floor ≤ z.answered) heard c.report.ensures.floor)
    (subst (λ (z : SuperView journaled.Entry). length u.trace ≤ reported_of z.reported u.process) heard
    c.report.ensures.reported) in
    subst (λ (z : SuperView journaled.Entry × (PassView journaled.Entry × (ℕ × List Run))).
    MayAnnounce (coming z.1.1.0 c.in_ok-made.made.came.changes z.1.1.1 c.in_ok-made.made.came.freed found) z.0 z.1.0)
    (λ i. (
      sym heard i,
      (
        sym u_is i,
        (
          (process ∙ ap (λ (z : PassView journaled.Entry). z.process) (sym u_is)) i,
          sym c.in_ok-made.ensures.given i,
        ),
      ),
    )) may

pub returns-clause-longer : goal.returns-clause-longer
returns-clause-longer g c served same = longer_by _ _ _ _ _ _ c.in_ok-made.ensures.entered

pub returns-clause-served : goal.returns-clause-served
returns-clause-served g c served same =
    let s = c.args.supervisor.now in
    let s' = c.apply.new.supervisor in
    let answered : Served = record { number = c.in_ok-made.made.came.number; answer = c.of.result } in
    subst (λ (z : ℕ × Served). IsServed s z.0 c.args.ring c.args.request.now z.1 s')
    (λ i. (c.process-process.ensures.value i, same_served answered served same i))
    (served_by s s' c.process-process.result c.args.ring c.args.request.now c.in_ok-made.made.came.number
    c.in_ok-made.ensures.entered c.entry-entry.result.now c.entry-entry.ensures c.of.result c.of.ensures)

pub returns-clause-locked : goal.returns-clause-locked
returns-clause-locked g c =
    let x = g.B.Sitting.session in
    let s = c.args.supervisor.now in
    let s' = c.apply.new.supervisor in
    let v = c.args.chief.now in
    let u = c.args.pass.now.view in
    let w = reported_view (reporting_view u) v in
    let heard : c.report.new.self ≡ w = c.report.ensures.view in
    let u_is : c.report.new.pass.view ≡ u = ap (λ (z : PassValue journaled.Entry). z.view) c.report.ensures.pass in
    let l = locked_as x g.B.Sitting.setup g.B.Naming.layout s v c.args.book.now.total w.reported v.made c.requires.locked in
    let made = c.in_ok-made.ensures.entered in
    let found = c.entry-entry.result.now in
    let mine_is = entry_found s s' c.process-process.result c.args.ring c.args.request.now c.in_ok-made.made.came.number made
    found c.entry-entry.ensures in
    let process : found.process ≡ u.process = ap (λ (e : journaled.Entry). e.process) mine_is ∙ c.process-process.ensures.value in
    let some : 1 ≤ found.process = (let a = c.process-process.ensures.low in
    let b = ap (λ (e : journaled.Entry). e.process) mine_is in omega arith) in
    let most : found.process ≤ length x.principals = (let a = c.process-process.ensures.high in
    let b = ap (λ (e : journaled.Entry). e.process) mine_is in let d = c.requires.locked.laid.processes in omega arith) in
    let came = c.in_ok-made.made.came in
    let e = coming found.process came.changes (runs_of came.given) came.freed found in
    let e_is : coming c.report.new.pass.view.process came.changes c.in_ok-made.made.given came.freed found ≡ e =
    (λ i. coming ((ap (λ (z : PassView journaled.Entry). z.process) u_is ∙ sym process) i) came.changes
    (c.in_ok-made.ensures.given i) came.freed found) in
    let after : c.announce.new.chief ≡ noting_view (announced_view e w) =
    c.announce.ensures.view ∙ (λ i. noting_view (announced_view (e_is i) (heard i))) in
    let locked = locked_after x g.B.Sitting.setup g.B.Naming.layout s s' w c.args.book.now.total l found c.in_ok-made.made.came
    c.in_ok-made.ensures.came
    (grown_journal s s' c.process-process.result c.args.ring c.args.request.now c.in_ok-made.made.came.number made found
    c.entry-entry.ensures)
    c.free_pages_are_bare.ensures c.length-before.ensures.processes c.length-after.ensures.processes
    (let a = c.length-length.ensures.counted in let b = c.length-length.ensures.begun in omega arith)
    c.length-after.ensures.history
    (subst (λ (z : SuperView journaled.Entry). AreRightWords (office_of z)) after c.announce.ensures.words) in
    subst (λ (z : SuperView journaled.Entry × ℕ). IsLocked x g.B.Sitting.setup g.B.Naming.layout s' z.0 z.1)
    (λ i. (sym after i, sym c.book.ensures.total i)) locked

pub returns-clause-entered : goal.returns-clause-entered
returns-clause-entered g c served same =
    let x = g.B.Sitting.session in
    let s = c.args.supervisor.now in
    let s' = c.apply.new.supervisor in
    let v = c.args.chief.now in
    let u = c.args.pass.now.view in
    let w = reported_view (reporting_view u) v in
    let heard : c.report.new.self ≡ w = c.report.ensures.view in
    let u_is : c.report.new.pass.view ≡ u = ap (λ (z : PassValue journaled.Entry). z.view) c.report.ensures.pass in
    let l = locked_as x g.B.Sitting.setup g.B.Naming.layout s v c.args.book.now.total w.reported v.made c.requires.locked in
    let made = c.in_ok-made.ensures.entered in
    let found = c.entry-entry.result.now in
    let mine_is = entry_found s s' c.process-process.result c.args.ring c.args.request.now c.in_ok-made.made.came.number made
    found c.entry-entry.ensures in
    let process : found.process ≡ u.process = ap (λ (e : journaled.Entry). e.process) mine_is ∙ c.process-process.ensures.value in
    let some : 1 ≤ found.process = (let a = c.process-process.ensures.low in
    let b = ap (λ (e : journaled.Entry). e.process) mine_is in omega arith) in
    let most : found.process ≤ length x.principals = (let a = c.process-process.ensures.high in
    let b = ap (λ (e : journaled.Entry). e.process) mine_is in let d = c.requires.locked.laid.processes in omega arith) in
    let came = c.in_ok-made.made.came in
    let e = coming found.process came.changes (runs_of came.given) came.freed found in
    let e_is : coming c.report.new.pass.view.process came.changes c.in_ok-made.made.given came.freed found ≡ e =
    (λ i. coming ((ap (λ (z : PassView journaled.Entry). z.process) u_is ∙ sym process) i) came.changes
    (c.in_ok-made.ensures.given i) came.freed found) in
    let told : IsAnnounced e w u c.announce.new.pass.view =
    subst (λ (z : Coming journaled.Entry × (SuperView journaled.Entry × PassView journaled.Entry)).
    IsAnnounced z.0 z.1.0 z.1.1 c.announce.new.pass.view) (λ i. (e_is i, (heard i, u_is i))) c.announce.ensures.told in
    let booked = c.book.ensures.pass in
    let kept = c.announce.ensures.pass in
    let still = c.report.ensures.pass in
    let view : c.book.new.self.view ≡ c.announce.new.pass.view = ap (λ (z : PassValue journaled.Entry). z.view) booked in
    let answered : Served = record { number = came.number; answer = c.of.result } in
    subst (λ (z : Served). HasEntered x g.B.Sitting.setup c.args.ring c.args.request.now z c.args.pass.now c.book.new.self)
    (same_served answered served same)
    (entered_by x g.B.Sitting.setup w e c.args.ring c.args.request.now answered c.args.pass.now c.book.new.self
    (subst (λ (z : PassView journaled.Entry). IsAnnounced e w u z) (sym view) told)
    (ap (λ (z : PassValue journaled.Entry). z.spare) booked ∙ ap (λ (z : PassValue journaled.Entry). z.spare) kept
    ∙ ap (λ (z : PassValue journaled.Entry). z.spare) still)
    (ap (λ (z : PassValue journaled.Entry). z.amount) booked
    ∙ ap (λ (z : PassValue journaled.Entry). z.amount + 1) kept
    ∙ ap (λ (z : PassValue journaled.Entry). z.amount + 1) still)
    l.start
    (let a = c.length-length.ensures.counted in let b = c.length-length.ensures.begun in omega arith)
    (made.number ∙ ap (λ (n : ℕ). n + 1) (length_is x g.B.Sitting.setup g.B.Naming.layout s s' w c.args.book.now.total l found c.in_ok-made.made.came
    c.in_ok-made.ensures.came
    (grown_journal s s' c.process-process.result c.args.ring c.args.request.now c.in_ok-made.made.came.number made found
    c.entry-entry.ensures)
    c.free_pages_are_bare.ensures c.length-before.ensures.processes c.length-after.ensures.processes
    (let a = c.length-length.ensures.counted in let b = c.length-length.ensures.begun in omega arith)
    ))
    (mine_is ∙ (λ i. record {
      process = c.process-process.ensures.value i;
      ring = c.args.ring;
      request = c.args.request.now;
      reply = (ap (λ (z : journaled.Entry). z.reply) (sym mine_is)) i;
    }))
    (linked_found s s' c.process-process.result c.args.ring c.args.request.now came.number made found c.entry-entry.ensures)
    (fits_found s s' c.process-process.result c.args.ring c.args.request.now came.number made c.process-process.ensures.low
    found c.entry-entry.ensures)
    c.of.ensures
    (λ n changed. changed_listed x g.B.Sitting.setup g.B.Naming.layout s s' w c.args.book.now.total l found c.in_ok-made.made.came
    c.in_ok-made.ensures.came
    (grown_journal s s' c.process-process.result c.args.ring c.args.request.now c.in_ok-made.made.came.number made found
    c.entry-entry.ensures)
    c.free_pages_are_bare.ensures c.length-before.ensures.processes c.length-after.ensures.processes
    (let a = c.length-length.ensures.counted in let b = c.length-length.ensures.begun in omega arith)
    u.process n came.number
    (made.number ∙ ap (λ (n : ℕ). n + 1) (length_is x g.B.Sitting.setup g.B.Naming.layout s s' w c.args.book.now.total l found c.in_ok-made.made.came
    c.in_ok-made.ensures.came
    (grown_journal s s' c.process-process.result c.args.ring c.args.request.now c.in_ok-made.made.came.number made found
    c.entry-entry.ensures)
    c.free_pages_are_bare.ensures c.length-before.ensures.processes c.length-after.ensures.processes
    (let a = c.length-length.ensures.counted in let b = c.length-length.ensures.begun in omega arith)
    ))
    (subst (λ (j : List journaled.Entry). IsChanged x j u.process n came.number) (sym (journal_after x g.B.Sitting.setup g.B.Naming.layout s s' w c.args.book.now.total l found c.in_ok-made.made.came
    c.in_ok-made.ensures.came
    (grown_journal s s' c.process-process.result c.args.ring c.args.request.now c.in_ok-made.made.came.number made found
    c.entry-entry.ensures)
    c.free_pages_are_bare.ensures c.length-before.ensures.processes c.length-after.ensures.processes
    (let a = c.length-length.ensures.counted in let b = c.length-length.ensures.begun in omega arith)
    (length u.trace))) changed)))
