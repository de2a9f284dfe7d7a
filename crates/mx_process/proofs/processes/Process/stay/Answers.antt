use Rattle.std.proofs.Common.{◌≡◌, ◌∙◌, ℕ, None, Option, Some, ap, subst, sym}
use Rattle.std.specs.Option.{option_map}
use Rattle.mx_sdw.specs.declared.denials.Denial.{Denial}
use Rattle.mx_process.proofs.StayLaws.{denied_process, hurried_process, numbers_stayed, room_to_tell}
use Rattle.mx_process.specs.Heeding.{HasHeeded}
use Rattle.mx_process.specs.Processes.{IsProcess, ProcessValue}
use Rattle.mx_process.specs.Stays.{HasStayed}
use Rattle.mx_process.specs.Turns.{inside}
use Rattle.mx_process.specs.declared.misses.Miss.{Miss}
use Rattle.mx_process.specs.declared.stays.Stayed.{Stayed}
use Rattle.mx_process.proofs.processes.Process.stay.Goals as goal

pub invariant_of-self : goal.invariant_of-self
invariant_of-self g c =
    let settled : c.self.inside.missing ≡ None = ap (λ (v : ProcessValue). v.missing) c.self.view_is ∙ c.requires.settled in
    let account = option_map g.A.Auditor.account c.self.inside.auditor in
    subst (λ (m : Option Miss). IsProcess g.B.Sitting.session g.B.Sitting.setup g.B.Attending.accounts c.self.inside.script.now
    c.stay.new.cam (record { state = c.stay.new.state; missing = m; pass = c.stay.new.pass; account = account })) (sym settled)
    (hurried_process g.B.Sitting.session g.B.Sitting.setup g.B.Attending.accounts c.self.inside.script.now c.self.inside.cam
    c.stay.new.cam _ (inside c.stay.new.state c.stay.new.pass) c.self.invariant None c.in_err-stay.ensures.err
    c.stay.ensures.same)

pub invariant_of-self-in-Over : goal.invariant_of-self-in-Over
invariant_of-self-in-Over g c =
    let settled : c.self.inside.missing ≡ None = ap (λ (v : ProcessValue). v.missing) c.self.view_is ∙ c.requires.settled in
    let account = option_map g.A.Auditor.account c.self.inside.auditor in
    let came = subst (λ (came : Stayed). HasStayed g.B.Sitting.session g.B.Sitting.setup g.B.Attending.accounts c.self.inside.script.now
    (inside c.self.inside.state c.self.inside.pass) came (inside c.stay.new.state c.stay.new.pass)) c.in-Over.is
    c.in_ok-stay.ensures.came in
    subst (λ (m : Option Miss). IsProcess g.B.Sitting.session g.B.Sitting.setup g.B.Attending.accounts c.self.inside.script.now
    c.stay.new.cam (record { state = c.stay.new.state; missing = m; pass = c.stay.new.pass; account = account })) (sym settled)
    (hurried_process g.B.Sitting.session g.B.Sitting.setup g.B.Attending.accounts c.self.inside.script.now c.self.inside.cam
    c.stay.new.cam _ (inside c.stay.new.state c.stay.new.pass) c.self.invariant None came c.stay.ensures.same)

pub tell_and_heed-self-inside-requires-clause-room : goal.tell_and_heed-self-inside-requires-clause-room
tell_and_heed-self-inside-requires-clause-room g c =
    room_to_tell g.B.Sitting.session g.B.Sitting.setup g.B.Attending.accounts c.self.inside.script.now c.self.inside.cam
    c.stay.new.cam _ (inside c.stay.new.state c.stay.new.pass) c.self.invariant
    (subst (λ (came : Stayed). HasStayed g.B.Sitting.session g.B.Sitting.setup g.B.Attending.accounts c.self.inside.script.now
    (inside c.self.inside.state c.self.inside.pass) came (inside c.stay.new.state c.stay.new.pass)) c.in-Denied.is
    c.in_ok-stay.ensures.came)

pub tell_and_heed-self-inside-requires-clause-left : goal.tell_and_heed-self-inside-requires-clause-left
tell_and_heed-self-inside-requires-clause-left g c =
    let came = subst (λ (came : Stayed). HasStayed g.B.Sitting.session g.B.Sitting.setup g.B.Attending.accounts c.self.inside.script.now
    (inside c.self.inside.state c.self.inside.pass) came (inside c.stay.new.state c.stay.new.pass)) c.in-Denied.is
    c.in_ok-stay.ensures.came in
    came.within

pub tell_and_heed-self-inside-requires-clause-numbers : goal.tell_and_heed-self-inside-requires-clause-numbers
tell_and_heed-self-inside-requires-clause-numbers g c =
    numbers_stayed g.B.Sitting.session g.B.Sitting.setup g.B.Attending.accounts c.self.inside.script.now c.self.inside.cam
    c.stay.new.cam _ (inside c.stay.new.state c.stay.new.pass) c.self.invariant
    (subst (λ (came : Stayed). HasStayed g.B.Sitting.session g.B.Sitting.setup g.B.Attending.accounts c.self.inside.script.now
    (inside c.self.inside.state c.self.inside.pass) came (inside c.stay.new.state c.stay.new.pass)) c.in-Denied.is
    c.in_ok-stay.ensures.came)

pub invariant_of-self-in-Denied : goal.invariant_of-self-in-Denied
invariant_of-self-in-Denied g c =
    let settled : c.self.inside.missing ≡ None = ap (λ (v : ProcessValue). v.missing) c.self.view_is ∙ c.requires.settled in
    let account = option_map g.A.Auditor.account c.tell_and_heed-self-inside.new.auditor in
    let came = subst (λ (came : Stayed). HasStayed g.B.Sitting.session g.B.Sitting.setup g.B.Attending.accounts c.self.inside.script.now
    (inside c.self.inside.state c.self.inside.pass) came (inside c.stay.new.state c.stay.new.pass)) c.in-Denied.is
    c.in_ok-stay.ensures.came in
    subst (λ (m : Option Miss). IsProcess g.B.Sitting.session g.B.Sitting.setup g.B.Attending.accounts c.tell_and_heed-self-inside.result.now
    c.stay.new.cam
    (record { state = c.tell_and_heed-self-inside.new.state; missing = m; pass = c.stay.new.pass; account = account }))
    (sym settled)
    (denied_process g.B.Sitting.session g.B.Sitting.setup g.B.Attending.accounts c.self.inside.script.now c.self.inside.cam
    c.stay.new.cam _ (inside c.stay.new.state c.stay.new.pass) c.self.invariant came c.stay.ensures.same account
    c.tell_and_heed-self-inside.new.state c.tell_and_heed-self-inside.result.now
    (subst (λ (told : Option (ℕ × Denial)). HasHeeded told (option_map g.A.Auditor.account c.self.inside.auditor) c.stay.new.state
    c.self.inside.script.now account c.tell_and_heed-self-inside.new.state c.tell_and_heed-self-inside.result.now) came.last c.tell_and_heed-self-inside.ensures))

pub invariant_of-self-in-Missing : goal.invariant_of-self-in-Missing
invariant_of-self-in-Missing g c =
    let came = subst (λ (came : Stayed). HasStayed g.B.Sitting.session g.B.Sitting.setup g.B.Attending.accounts c.self.inside.script.now
    (inside c.self.inside.state c.self.inside.pass) came (inside c.stay.new.state c.stay.new.pass)) c.in-Missing.is
    c.in_ok-stay.ensures.came in
    hurried_process g.B.Sitting.session g.B.Sitting.setup g.B.Attending.accounts c.self.inside.script.now c.self.inside.cam
    c.stay.new.cam _ (inside c.stay.new.state c.stay.new.pass) c.self.invariant (Some c.in-Missing.miss) came
    c.stay.ensures.same
