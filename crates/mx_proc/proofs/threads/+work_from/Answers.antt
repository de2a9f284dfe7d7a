use Rattle.std.proofs.Common.{◌≡◌, ◌∙◌, ◌++◌, ◌∷◌, [], List, Result, Ok, Err, OnOk, arith, length, rules, subst, sym}
use Rattle.mx_process.specs.Lines.{HasNoLine}
use Rattle.mx_process.specs.Processes.{ProcessValue}
use Rattle.mx_script.specs.Sessions.{Outline}
use Rattle.mx_proc.proofs.RowLaws.{all_done, comes_back, last_awake, last_place, others_awake, others_stay}
use Rattle.mx_proc.specs.Rows.{AreAwake, AreInPlace, HaveNoLine, IsInPlace}
use Rattle.mx_proc.proofs.threads.+work_from.Goals as goal

-- the others are done, and so is the one that comes back
done_with : {X E : Type 0} (x : Outline) (row new : List ProcessValue) (v : ProcessValue) (others : Result X E) → HasNoLine x v
    → new ≡ row ++ v ∷ [] → OnOk others (HaveNoLine x row) → OnOk others (HaveNoLine x new)
done_with x row new v (Ok r) one is all =
    subst (λ (l : List ProcessValue). HaveNoLine x l) (sym is) (all_done x row v all one)
done_with x row new v (Err e) one is all = tt

pub spawn_with-requires-clause-runs : goal.spawn_with-requires-clause-runs
spawn_with-requires-clause-runs g t c κs within =
    let process = c.in-Some.process in
    let rest = c.pop.new.self.items in
    let own = c.pop.new.self.ok.0 in
    let is = c.len-place.ensures in
    let place : c.len-place.result ≡ length rest = omega (arith, own, is) in (
      subst (λ n. IsInPlace g.B.Attending.accounts n process) (sym place)
          (last_place g.B.Attending.accounts rest process
          (subst (λ (l : List ProcessValue). AreInPlace g.B.Attending.accounts l) c.in-Some.ensures.items c.requires.place)),
      (
        last_awake rest process (subst (λ (l : List ProcessValue). AreAwake l) c.in-Some.ensures.items c.requires.awake),
        (search rules, search rules, search rules, search rules),
      ),
    )

pub work_from-others-requires-clause-place : goal.work_from-others-requires-clause-place
work_from-others-requires-clause-place g t c κs within =
    others_stay g.B.Attending.accounts c.pop.new.self.items c.in-Some.process
    (subst (λ (l : List ProcessValue). AreInPlace g.B.Attending.accounts l) c.in-Some.ensures.items c.requires.place)

pub work_from-others-requires-clause-awake : goal.work_from-others-requires-clause-awake
work_from-others-requires-clause-awake g t c κs within =
    others_awake c.pop.new.self.items c.in-Some.process
    (subst (λ (l : List ProcessValue). AreAwake l) c.in-Some.ensures.items c.requires.awake)

pub returns-in_err-done-in-Ok-clause-place : goal.returns-in_err-done-in-Ok-clause-place
returns-in_err-done-in-Ok-clause-place g t c =
    let accounts = g.B.Attending.accounts in
    let process = c.join-process.result.process in
    let row = c.work_from-others.new.row.items in
    let promised : c.in-Ok.thread.promise.0 ≡ c.len-place.result = λ i. (c.in-Ok.ensures.ok i).0 in
    let own = c.work_from-others.new.row.ok.0 in
    let is = c.len-place.ensures in
    let len = c.work_from-others.ensures.len in
    let here : c.in-Ok.thread.promise.0 ≡ length row = omega (arith, promised, own, is, len) in
    subst (λ (l : List ProcessValue). AreInPlace accounts l) (sym c.put.ensures.items)
    (comes_back accounts row process c.work_from-others.ensures.place
    (subst (λ n. IsInPlace accounts n process) here c.join-process.ensures.0))

pub work-process-requires-clause-place : goal.work-process-requires-clause-place
work-process-requires-clause-place g t c κs within =
    let accounts = g.B.Attending.accounts in
    let kept : c.in-Err.refused.value.0 ≡ c.in-Some.process = λ i. (c.in-Err.ensures.err i).0 in
    let own = c.pop.new.self.ok.0 in
    let is = c.len-place.ensures in
    let kept_place : c.in-Err.refused.value.3 ≡ c.len-place.result = λ i. (c.in-Err.ensures.err i).3 in
    let place : c.in-Err.refused.value.3 ≡ length c.pop.new.self.items = omega (arith, kept_place, own, is) in
    subst (λ n. IsInPlace accounts n c.in-Err.refused.value.0) (sym place)
    (subst (λ (v : ProcessValue). IsInPlace accounts (length c.pop.new.self.items) v) (sym kept)
    (last_place accounts c.pop.new.self.items c.in-Some.process
    (subst (λ (l : List ProcessValue). AreInPlace accounts l) c.in-Some.ensures.items c.requires.place)))

pub work-process-requires-clause-awake : goal.work-process-requires-clause-awake
work-process-requires-clause-awake g t c κs within =
    let kept : c.in-Err.refused.value.0 ≡ c.in-Some.process = λ i. (c.in-Err.ensures.err i).0 in
    λ waits. last_awake c.pop.new.self.items c.in-Some.process
    (subst (λ (l : List ProcessValue). AreAwake l) c.in-Some.ensures.items c.requires.awake)
    ((λ i. (sym kept i).state.progress) ∙ waits)

pub take_turns-requires-after_bounds : goal.take_turns-requires-after_bounds
take_turns-requires-after_bounds g t c κs within =
    let accounts = g.B.Attending.accounts in
    let process = c.work-process.result.process in
    let row = c.pop.new.self.items in
    let own = c.pop.new.self.ok.0 in
    let is = c.len-place.ensures in
    let kept_place : c.in-Err.refused.value.3 ≡ c.len-place.result = λ i. (c.in-Err.ensures.err i).3 in
    let place : c.in-Err.refused.value.3 ≡ length row = omega (arith, kept_place, own, is) in
    subst (λ (l : List ProcessValue). AreInPlace accounts l) (sym c.put-in-Err.ensures.items)
    (comes_back accounts row process
    (others_stay accounts row c.in-Some.process
    (subst (λ (l : List ProcessValue). AreInPlace accounts l) c.in-Some.ensures.items c.requires.place))
    (subst (λ n. IsInPlace accounts n process) place c.work-process.ensures.place))

pub returns-in_ok-done-in-Ok-clause-place : goal.returns-in_ok-done-in-Ok-clause-place
returns-in_ok-done-in-Ok-clause-place g t c =
    let accounts = g.B.Attending.accounts in
    let process = c.join-process.result.process in
    let row = c.work_from-others.new.row.items in
    let promised : c.in-Ok.thread.promise.0 ≡ c.len-place.result = λ i. (c.in-Ok.ensures.ok i).0 in
    let own = c.work_from-others.new.row.ok.0 in
    let is = c.len-place.ensures in
    let len = c.work_from-others.ensures.len in
    let here : c.in-Ok.thread.promise.0 ≡ length row = omega (arith, promised, own, is, len) in
    subst (λ (l : List ProcessValue). AreInPlace accounts l) (sym c.put.ensures.items)
    (comes_back accounts row process c.work_from-others.ensures.place
    (subst (λ n. IsInPlace accounts n process) here c.join-process.ensures.0))

pub returns-in_ok-done-in-Ok-clause-done : goal.returns-in_ok-done-in-Ok-clause-done
returns-in_ok-done-in-Ok-clause-done g t c =
    let process = c.join-process.result.process in
    let one = subst (λ r. OnOk r (HasNoLine g.B.Sitting.session process)) c.in_ok-done-in-Ok.was c.join-process.ensures.1 in
    done_with g.B.Sitting.session c.work_from-others.new.row.items c.put.new.list.items process c.work_from-others.result one
    c.put.ensures.items c.work_from-others.ensures.done
