-- Who is asleep, and who is ready.
use Rattle.std.proofs.Common.{◌≡◌, ◌≢◌, ◌⊎◌, ◌↔◌, ◌≤◌, ◌-◌, ◌==◌, ◌&&◌, ◌||◌, not, ℕ, zero, suc, Bool, true, false, List, [], ◌∷◌, ◌++◌, length, take, drop, Some, slice_get, inl, inr, refl, ap, sym, ◌∙◌, arith}
use Rattle.std.specs.List.{list_all}
use Rattle.mx_mail.specs.declared.mail.Taken.TheVariants as taken
use Rattle.mx_mail.specs.declared.processes.ExecutionState.{ExecutionState}
use Rattle.mx_mail.specs.declared.processes.ExecutionState.TheVariants.{Running, Waiting, Ended}
use Rattle.mx_mail.specs.Processes.{PlainProcess, process_at}
use Rattle.mx_mail.specs.Sleeping.{IsAsleep, AreOthersAsleep, IsAnotherAwake}
use Rattle.mx_mail.specs.Taking.{is_asleep_in, is_asleep, nobody_else, messages_of, taken_from, take_message, is_ready}

-- one process

asleep_in : (s : ExecutionState) (ms : List (ℕ × ℕ)) → is_asleep_in s ms ≡ true
    → (s ≡ Ended) ⊎ ((s ≡ Waiting) × (ms ≡ []))
asleep_in Running ms e = cc
asleep_in Waiting [] e = inr (refl, refl)
asleep_in Waiting (m ∷ ms) e = absurd (grind arith)
asleep_in Ended ms e = inl refl

tested_in : (s : ExecutionState) (ms : List (ℕ × ℕ)) → (s ≡ Ended) ⊎ ((s ≡ Waiting) × (ms ≡ []))
    → is_asleep_in s ms ≡ true
tested_in s ms (inl e) = rw e refl
tested_in s ms (inr a) = rw (a.0, a.1) refl

awake_in : (s : ExecutionState) (ms : List (ℕ × ℕ)) → is_asleep_in s ms ≡ false
    → (s ≡ Running) ⊎ ((s ≡ Waiting) × ((length ms == 0) ≡ false))
awake_in Running ms e = inl refl
awake_in Waiting ms e = inr (refl, e)
awake_in Ended ms e = cc

-- lists of processes

both : (a b : Bool) → (a && b) ≡ true → (a ≡ true) × (b ≡ true)
both true b e = (refl, e)
both false b e = cc

all_sleep : (xs : List PlainProcess) → ((i : ℕ) (x : PlainProcess) → slice_get xs i ≡ Some x → IsAsleep x)
    → list_all is_asleep xs ≡ true
all_sleep [] h = refl
all_sleep (x ∷ xs) h = rw (tested_in x.state x.messages (h 0 x refl)) (all_sleep xs (λ i y e. h (suc i) y e))

each_sleeps : (xs : List PlainProcess) → list_all is_asleep xs ≡ true → (i : ℕ) (x : PlainProcess)
    → slice_get xs i ≡ Some x → IsAsleep x
each_sleeps [] e i x at = cc
each_sleeps (y ∷ xs) e zero x at =
    let is : y ≡ x = cc in
    rw (← is) (asleep_in y.state y.messages (both (is_asleep y) (list_all is_asleep xs) e).0)
each_sleeps (y ∷ xs) e (suc i) x at = each_sleeps xs (both (is_asleep y) (list_all is_asleep xs) e).1 i x at

-- all are asleep, or there is one that is awake
abbrev AllOrAwake : List PlainProcess → Type 0
AllOrAwake xs =
    (list_all is_asleep xs ≡ true) ⊎ ((i : ℕ) × (x : PlainProcess) × (slice_get xs i ≡ Some x) × (is_asleep x ≡ false))

awake_from : (x : PlainProcess) (xs : List PlainProcess) (b : Bool) → is_asleep x ≡ b → AllOrAwake xs
    → AllOrAwake (x ∷ xs)
awake_from x xs true e (inl all) = inl (rw e all)
awake_from x xs true e (inr w) = inr (suc w.0, w.1, w.2, w.3)
awake_from x xs false e rest = inr (0, x, refl, e)

first_awake : (xs : List PlainProcess) → AllOrAwake xs
first_awake [] = inl refl
first_awake (x ∷ xs) = awake_from x xs (is_asleep x) refl (first_awake xs)

-- all but one of them

all_but : (xs : List PlainProcess) (k : ℕ)
    → ((i : ℕ) (x : PlainProcess) → slice_get xs i ≡ Some x → (i ≡ k → ⊥) → IsAsleep x)
    → list_all is_asleep (take k xs ++ drop (suc k) xs) ≡ true
all_but [] zero h = refl
all_but [] (suc k) h = refl
all_but (x ∷ xs) zero h = all_sleep xs (λ i y at. h (suc i) y at (λ e. absurd (omega arith)))
all_but (x ∷ xs) (suc k) h =
    rw (tested_in x.state x.messages (h 0 x refl (λ e. absurd (omega arith))))
    (all_but xs k (λ i y at apart. h (suc i) y at (λ e. apart (omega arith))))

each_but : (xs : List PlainProcess) (k : ℕ) → list_all is_asleep (take k xs ++ drop (suc k) xs) ≡ true
    → (i : ℕ) (x : PlainProcess) → slice_get xs i ≡ Some x → (i ≡ k → ⊥) → IsAsleep x
each_but [] k e i x at apart = cc
each_but (y ∷ xs) zero e zero x at apart = absurd (apart refl)
each_but (y ∷ xs) zero e (suc i) x at apart = each_sleeps xs e i x at
each_but (y ∷ xs) (suc k) e zero x at apart =
    let is : y ≡ x = cc in
    rw (← is) (asleep_in y.state y.messages (both (is_asleep y) (list_all is_asleep (take k xs ++ drop (suc k) xs))
    e).0)
each_but (y ∷ xs) (suc k) e (suc i) x at apart =
    each_but xs k (both (is_asleep y) (list_all is_asleep (take k xs ++ drop (suc k) xs)) e).1 i x at
    (λ z. apart (omega arith))

-- by the numbers of processes

before_next : (k : ℕ) → suc k - 1 ≡ k
before_next k = omega arith

at_next : (xs : List PlainProcess) (k : ℕ) → process_at xs (suc k) ≡ slice_get xs k
at_next xs k =
    let apart : (suc k == 0) ≡ false = grind arith in
    rw (apart, before_next k) refl

pub others_told : (xs : List PlainProcess) (p : ℕ) → 1 ≤ p → nobody_else xs p ≡ true → AreOthersAsleep xs p
others_told xs zero some e = absurd (omega arith)
others_told xs (suc k) some e = λ q other at apart. told q other at apart where
  told : (q : ℕ) (other : PlainProcess) → process_at xs q ≡ Some other → (q ≡ suc k → ⊥) → IsAsleep other
  told zero other at apart = cc
  told (suc i) other at apart = each_but xs k (rw before_next at e) i other (rw at_next at at) (λ z. apart (ap suc z))

pub others_tested : (xs : List PlainProcess) (p : ℕ) → 1 ≤ p → AreOthersAsleep xs p → nobody_else xs p ≡ true
others_tested xs zero some h = absurd (omega arith)
others_tested xs (suc k) some h =
    rw before_next (all_but xs k (λ i x at apart. h (suc i) x (at_next xs i ∙ at) (λ e. apart (omega arith))))

-- the answer

nobody_told : (nobody : Bool) (ms : List (ℕ × ℕ)) → taken_from nobody ms ≡ taken.Nobody → (ms ≡ []) × (nobody ≡ true)
nobody_told nobody (m ∷ ms) e = cc
nobody_told true [] e = (refl, refl)
nobody_told false [] e = cc

pub nobody_is : (xs : List PlainProcess) (p : ℕ) → 1 ≤ p
    → ((take_message xs p).taken ≡ taken.Nobody) ↔ ((messages_of xs p ≡ []) × AreOthersAsleep xs p)
nobody_is xs p some = (
  λ e.
      let told = nobody_told (nobody_else xs p) (messages_of xs p) e in
      (told.0, others_told xs p some told.1),
  λ h. rw (h.0, others_tested xs p some h.1) refl,
)

or_true : (b : Bool) → (b || true) ≡ true
or_true true = refl
or_true false = refl

-- a process that waits and is ready
abbrev ReadyOne : List PlainProcess → Type 0
ReadyOne xs =
    (q : ℕ) × (other : PlainProcess) × (process_at xs q ≡ Some other) × (other.state ≡ Waiting) × (is_ready xs q ≡ true)

ready_awake : (xs : List PlainProcess) (q : ℕ) (x : PlainProcess) → process_at xs q ≡ Some x
    → (x.state ≡ Running) ⊎ ((x.state ≡ Waiting) × ((length x.messages == 0) ≡ false))
    → ((r : ℕ) (other : PlainProcess) → process_at xs r ≡ Some other → other.state ≡ Running → ⊥) → ReadyOne xs
ready_awake xs q x at (inl runs) none = absurd (none q x at runs)
ready_awake xs q x at (inr a) none = (q, x, at, a.0, rw (at, a.1) refl)

ready_asleep : (xs : List PlainProcess) (k : ℕ) → list_all is_asleep xs ≡ true → is_ready xs (suc k) ≡ true
ready_asleep xs k all =
    let nobody : nobody_else xs (suc k) ≡ true = rw before_next
    (all_but xs k (λ i x at apart. each_sleeps xs all i x at)) in
    rw nobody (or_true (not (length (messages_of xs (suc k)) == 0)))

pub one_is_ready : (xs : List PlainProcess) (p : ℕ) (waiting : PlainProcess) → process_at xs p ≡ Some waiting
    → waiting.state ≡ Waiting
    → ((q : ℕ) (other : PlainProcess) → process_at xs q ≡ Some other → other.state ≡ Running → ⊥)
    → (q : ℕ) × (other : PlainProcess) × (process_at xs q ≡ Some other) × (other.state ≡ Waiting)
    × (is_ready xs q ≡ true)
one_is_ready xs zero waiting at waits none = cc
one_is_ready xs (suc k) waiting at waits none = elim (first_awake xs) [
  | inl all ↦ (suc k, waiting, at, waits, ready_asleep xs k all)
  | inr w ↦ ready_awake xs (suc w.0) w.1 (at_next xs w.0 ∙ w.2) (awake_in w.1.state w.1.messages w.3) none
]

-- one of all but one that is awake
record IsAwakeBut (xs : List PlainProcess) (k : ℕ) : Type 0 where
  place : ℕ
  process : PlainProcess
  apart : place ≢ k
  there : slice_get xs place ≡ Some process
  awake : is_asleep process ≡ false

awake_in_some : (xs : List PlainProcess) → list_all is_asleep xs ≡ false
    → (i : ℕ) × (x : PlainProcess) × (slice_get xs i ≡ Some x) × (is_asleep x ≡ false)
awake_in_some xs e = elim (first_awake xs) [
  | inl all ↦ absurd (not_both (sym all ∙ e))
  | inr w ↦ w
]
  where
    not_both : true ≡ false → ⊥
    not_both e = cc

awake_but : (xs : List PlainProcess) (k : ℕ) → list_all is_asleep (take k xs ++ drop (suc k) xs) ≡ false
    → IsAwakeBut xs k
awake_but [] zero e = cc
awake_but [] (suc k) e = cc
awake_but (x ∷ xs) zero e =
    let w = awake_in_some xs e in
    record { place = suc w.0; process = w.1; apart = λ z. absurd (omega arith); there = w.2; awake = w.3 }
awake_but (x ∷ xs) (suc k) e = by_test (is_asleep x) refl e (awake_but xs k)
  where
    by_test : (b : Bool) → is_asleep x ≡ b → (b && list_all is_asleep (take k xs ++ drop (suc k) xs)) ≡ false
        → (list_all is_asleep (take k xs ++ drop (suc k) xs) ≡ false → IsAwakeBut xs k) → IsAwakeBut (x ∷ xs) (suc k)
    by_test false t f rest =
        record { place = 0; process = x; apart = λ z. absurd (omega arith); there = refl; awake = t }
    by_test true t f rest =
        let w = rest f in
        record {
          place = suc w.place;
          process = w.process;
          apart = λ z. w.apart (omega (arith, z));
          there = w.there;
          awake = w.awake;
        }

pub awake_other : (xs : List PlainProcess) (p : ℕ) → 1 ≤ p → is_ready xs p ≡ false → IsAnotherAwake xs p
awake_other xs zero some e = absurd (omega arith)
awake_other xs (suc k) some e =
    let w = awake_but xs k (rw before_next at
    (neither (not (length (messages_of xs (suc k)) == 0)) (nobody_else xs (suc k)) e)) in
    record {
      other = suc w.place;
      process = w.process;
      apart = λ z. w.apart (omega (arith, z));
      there = at_next xs w.place ∙ w.there;
      awake = by_state w.process.state w.process.messages (awake_in w.process.state w.process.messages w.awake);
    }
  where
    neither : (a b : Bool) → (a || b) ≡ false → b ≡ false
    neither true b e = cc
    neither false b e = e

    by_state : (s : ExecutionState) (ms : List (ℕ × ℕ)) → (s ≡ Running) ⊎ ((s ≡ Waiting) × ((length ms == 0) ≡ false))
        → (s ≡ Running) ⊎ ((s ≡ Waiting) × (ms ≢ []))
    by_state s ms (inl runs) = inl runs
    by_state s [] (inr waits) = cc
    by_state s (m ∷ ms) (inr waits) = inr (waits.0, λ z. cc)
