-- A process's lines so far are right in a journal that grew.
use Rattle.std.proofs.Common.{nat_le, ◌≡◌, ℕ, zero, suc, ◌<◌, ◌≤◌, ◌==◌, List, [], ◌∷◌, ◌++◌, length, refl, ap, true, Some, arith, take}
use Rattle.std.specs.List.{slice_get}
use Rattle.mx_transcript.specs.Opened.{opening_of}
use Rattle.mx_state.specs.History.{replay}
use Rattle.mx_state.specs.Table.{descriptor}
use Rattle.mx_state.specs.declared.journal.Entry as journaled
use Rattle.mx_script.specs.Sessions.{limit_of}
use Rattle.mx_transcript.specs.Access.{descriptor_of}
use Rattle.mx_transcript.specs.Openings.{opening_control}
use Rattle.mx_transcript.specs.Standing.{own_setting, PromiseLaw}
use Rattle.mx_transcript.proofs.Extending.{lines_kept}
use Rattle.mx_transcript.specs.Legal.{setting_of}
use Rattle.mx_transcript.specs.Settings.{entry_at}
use Rattle.mx_transcript.specs.SoFar.{GrownLaw}

first_of : (q : ℕ) (xs ys : List journaled.Entry) → q ≤ length xs → take q (xs ++ ys) ≡ take q xs
first_of zero [] ys h = refl
first_of zero (x ∷ xs) ys h = refl
first_of (suc q) [] ys h = absurd (omega arith)
first_of (suc q) (x ∷ xs) ys h = ap (λ (l : List journaled.Entry). x ∷ l) (first_of q xs ys (omega arith))

there_still : (xs ys : List journaled.Entry) (place : ℕ) (entry : journaled.Entry) → slice_get xs place ≡ Some entry
    → slice_get (xs ++ ys) place ≡ Some entry
there_still [] ys place entry h = absurd cc
there_still (x ∷ xs) ys zero entry h = h
there_still (x ∷ xs) ys (suc place) entry h = there_still xs ys place entry h

pub entry_still : (xs ys : List journaled.Entry) (number : ℕ) (entry : journaled.Entry)
    → entry_at xs number ≡ Some entry
    → entry_at (xs ++ ys) number ≡ Some entry
entry_still xs ys zero entry h = h
entry_still xs ys (suc place) entry h = there_still xs ys place entry h

not_yet : (a b : ℕ) → a < b → a == b ≡ true → ⊥
not_yet a b l h = grind arith

pub grown_law : GrownLaw
grown_law x journal entry p events below points = record {
  process = refl;
  entries = entry_still journal (entry ∷ []);
  full = λ full. absurd (not_yet (length journal) (limit_of x) below full);
  descriptors = λ place e at.
      ap (λ (l : List journaled.Entry). descriptor (replay (opening_of x) l) p e.segno)
      (first_of e.point journal (entry ∷ []) (points place e at));
}

at_limit : (limit floor entries : ℕ) → nat_le limit floor ≡ true → floor ≤ entries → entries ≤ limit
    → entries == limit ≡ true
at_limit limit floor entries full low high = grind arith

pub promise_law : PromiseLaw
promise_law x front later floor p trace steps after promises low high agrees =
    let are = promises (descriptor_of x (front ++ later) p) agrees in
    record {
      ran = are.ran;
      are = are.are;
      done = lines_kept
          (own_setting x front floor p (descriptor_of x (front ++ later) p))
          (setting_of x (front ++ later) p) (opening_control x p) are.ran steps [] after
          (record {
            process = refl;
            entries = entry_still front later;
            full = λ full. at_limit (limit_of x) floor (length (front ++ later)) full low high;
            descriptors = λ place e at. refl;
          })
          are.done;
    }
