use Rattle.std.proofs.Common.{◌≡◌, ◌≤◌, ◌∙◌, ◌<◌, ◌==◌, ℕ, zero, suc, true, false, List, Result, Ok, Err, OnOk, Some, ap, arith, length, sym}
use Rattle.std.specs.Prelude.{slice_set, vec_len}
use Rattle.std.proofs.lemmas.Option.{slice_get-get_or}
use Rattle.mx_process.specs.Lines.{HasNoLine}
use Rattle.mx_process.specs.Processes.{ProcessValue}
use Rattle.mx_script.specs.Sessions.{Outline}
use Rattle.mx_proc.proofs.RowLaws.{alone_done, one_goes_on}
use Rattle.mx_proc.specs.Rows.{HaveNoLine}
use Rattle.mx_proc.proofs.threads.work_alone.Goals as goal

done_so : {X E : Type 0} (x : Outline) (row : List ProcessValue) (v : ProcessValue) (done : Result X E) → length row ≤ 1
    → OnOk done (HasNoLine x v) → OnOk done (HaveNoLine x (slice_set row 0 v))
done_so x row v (Ok r) few none = alone_done x row v few none
done_so x row v (Err e) few none = tt

never : {A : Type 0} → false ≡ true → A
never e = absurd (other e)
  where
    other : false ≡ true → ⊥
    other e = cc

some_row : (n m : ℕ) → n ≡ m → false ≡ (n == 0) → 0 < m
some_row zero m same other = never other
some_row (suc n) m same other = omega (arith, same)

pub returns-clause-place : goal.returns-clause-place
returns-clause-place g c =
    let row = c.args.row.now.items in
    let old = c.index_mut.result.now in
    let many = c.args.row.now.ok.0 in
    let some : 0 < length row = some_row (vec_len c.args.row.now) (length row) (omega (arith, many))
    (sym c.if-is_empty.false ∙ c.is_empty.ensures) in
    one_goes_on g.B.Attending.accounts row 0 old c.run_alone.new.self (slice_get-get_or row 0 old some ∙ ap Some (sym c.index_mut.ensures.value))
    c.run_alone.ensures.own c.requires.place

pub returns-clause-done : goal.returns-clause-done
returns-clause-done g c =
    let many = c.args.row.now.ok.0 in
    let few = c.requires.few in
    done_so g.B.Sitting.session c.args.row.now.items c.run_alone.new.self c.run_alone.result (omega (arith, many, few)) c.run_alone.ensures.ended
