-- What is told of a source, and which status is due of its bytes.
use Rattle.std.proofs.Common.{◌≡◌, ℕ, ◌≤◌, ◌<◌, ◌⊎◌, List, length, Option, Some, inl, inr, sym, ◌∙◌, subst, arith}
use Rattle.mx_breach.specs.Sources.{IsBadSource, IsDueStatus, IsStopped, IsToldSource, TellsBytes}
use Rattle.mx_io.specs.Bytes.{TakesAll, TakesTooMany}

none : {A : Type 0} (a b : ℕ) → a < b → a ≡ b → A
none a b less e = absurd (omega (arith, less, e))

-- status 0
pub told_at : (spelled : List ℕ) (source source' sink sink' : Option (List ℕ)) (status : ℕ) → TakesAll source source' spelled
    → length spelled ≤ 33554432 → TellsBytes spelled sink sink' status → status ≡ 0 → IsToldSource source source' sink sink'
told_at spelled source source' sink sink' status taken within (inl told) zero = record {
  spelled = spelled;
  read = record { taken = taken; within = within };
  run = told.1;
}
told_at spelled source source' sink sink' status taken within (inr told) zero = none 0 5 (omega arith) (sym zero ∙ told.0)

-- status 5
pub bad_at : (spelled : List ℕ) (source source' sink sink' : Option (List ℕ)) (status : ℕ) → TakesAll source source' spelled
    → length spelled ≤ 33554432 → TellsBytes spelled sink sink' status → status ≡ 5 → IsBadSource source source' sink sink'
bad_at spelled source source' sink sink' status taken within (inl told) five = none 0 5 (omega arith) (sym told.0 ∙ five)
bad_at spelled source source' sink sink' status taken within (inr told) five = record {
  spelled = spelled;
  read = record { taken = taken; within = within };
  bad = told.1;
}

-- the status that bytes within the limit ask for
due_of_bytes : (spelled : List ℕ) (sink sink' : Option (List ℕ)) (status : ℕ) → length spelled ≤ 33554432
    → TellsBytes spelled sink sink' status → IsDueStatus spelled status
due_of_bytes spelled sink sink' status within (inl told) = record {
  run = λ few some. told.0;
  no_run = λ few no. absurd (no (told.1.session, told.1.journal, told.1.transcripts, told.1.text));
  too_long = λ more. absurd (omega (arith, more, within));
}
due_of_bytes spelled sink sink' status within (inr told) = record {
  run = λ few some. absurd (told.1.first.none some);
  no_run = λ few no. told.0;
  too_long = λ more. absurd (omega (arith, more, within));
}

pub due_at : (spelled bytes : List ℕ) (source source' sink sink' : Option (List ℕ)) (status : ℕ) → TakesAll source source' bytes
    → length bytes ≤ 33554432 → TellsBytes bytes sink sink' status → source ≡ Some spelled → IsStopped status ⊎ IsDueStatus spelled status
due_at spelled bytes source source' sink sink' status taken within told is =
    let all : TakesAll (Some spelled) source' bytes = subst (λ (o : Option (List ℕ)). TakesAll o source' bytes) is taken in
    let Q : List ℕ → Type 0 = λ l. IsStopped status ⊎ IsDueStatus l status in
    subst Q (sym all.0) (inr (due_of_bytes bytes sink sink' status within told))

-- the status that too many bytes ask for
pub due_beyond : (spelled : List ℕ) (source source' : Option (List ℕ)) (status : ℕ) → TakesTooMany 33554432 source source'
    → (status ≡ 6) ⊎ (status ≡ 4) → source ≡ Some spelled → IsStopped status ⊎ IsDueStatus spelled status
due_beyond spelled source source' status taken (inr four) is = inl (inr (inr four))
due_beyond spelled source source' status taken (inl six) is =
    let all : TakesTooMany 33554432 (Some spelled) source' = subst (λ (o : Option (List ℕ)). TakesTooMany 33554432 o source') is taken in
    let more : 33554432 < length spelled = all.0 in
    inr (record {
      run = λ few some. absurd (omega (arith, more, few));
      no_run = λ few no. absurd (omega (arith, more, few));
      too_long = λ beyond. six;
    })
