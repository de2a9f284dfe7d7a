-- A process takes a message.
use Rattle.std.proofs.Common.{◌≡◌, ◌<◌, ◌≤◌, ◌-◌, ◌==◌, ℕ, Bool, true, false, List, [], ◌∷◌, length, Some, refl, sym, ap, subst, ◌∙◌, get_or, set, arith}
use Rattle.std.specs.List.{All}
use Rattle.std.proofs.lemmas.List.{length-set}
use Rattle.std.proofs.lemmas.List.Elements.{All-tail, All-set, All-get_or}
use Rattle.std.proofs.lemmas.Option.{slice_get-get_or}
use Rattle.mx_mail.specs.Processes.{PlainProcess, process_at, IsFromProcess, IsProcess, AreProcesses}
use Rattle.mx_mail.specs.Taking.{take_answer, taken_from, process_after, nobody_else, take_message}

after_is_process : (n : ℕ) (nobody : Bool) (messages : List (ℕ × ℕ)) → length messages ≤ 64
    → All (IsFromProcess n) messages → IsProcess n (process_after nobody messages)
after_is_process n nobody (message ∷ later) few senders = record {
  within = omega arith;
  senders = All-tail (IsFromProcess n) message later senders;
  silent = λ e. cc;
}
after_is_process n true [] few senders = record { within = few; senders = senders; silent = λ e. refl }
after_is_process n false [] few senders = record { within = few; senders = senders; silent = λ e. refl }

pub taken_is_sound : (xs : List PlainProcess) (i : ℕ) (x : PlainProcess) (nobody : Bool) → AreProcesses xs
    → i < length xs → x ≡ get_or xs i x → AreProcesses (set xs i (process_after nobody x.messages))
taken_is_sound xs i x nobody sound within is =
    let P : PlainProcess → Type 0 = IsProcess (length xs) in
    let y : PlainProcess = process_after nobody x.messages in
    let process : P x = subst P (sym is) (All-get_or P xs i x within sound.each) in
    let after : P y = after_is_process (length xs) nobody x.messages process.within process.senders in
    record {
      some = rw length-set sound.some;
      most = rw length-set sound.most;
      each =
          subst (λ (n : ℕ). All (IsProcess n) (set xs i y)) (sym (length-set xs i y))
          (All-set P xs i y after sound.each);
    }

pub stands_at : (xs : List PlainProcess) (p : ℕ) (x : PlainProcess) → 1 ≤ p → p ≤ length xs
    → x ≡ get_or xs (p - 1) x → process_at xs p ≡ Some x
stands_at xs p x some most is =
    let apart : (p == 0) ≡ false = grind arith in
    rw apart (slice_get-get_or xs (p - 1) x (omega arith) ∙ ap Some (sym is))

pub taken_is : (xs : List PlainProcess) (p : ℕ) (x : PlainProcess) → 1 ≤ p → p ≤ length xs
    → x ≡ get_or xs (p - 1) x → take_message xs p ≡ take_answer (taken_from (nobody_else xs p) x.messages)
    (set xs (p - 1) (process_after (nobody_else xs p) x.messages))
taken_is xs p x some most is =
    let apart : (p == 0) ≡ false = grind arith in
    rw (stands_at xs p x some most is, apart) refl
