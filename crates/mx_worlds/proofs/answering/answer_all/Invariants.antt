use Rattle.std.proofs.Common.{◌≡◌, ℕ, ◌<◌, ◌≤◌, Some}
use Rattle.std.specs.List.{slice_get}
use Rattle.std.specs.Vec.{vec_len}
use Rattle.mx_worlds.specs.Seating.{answered_columns}
use Rattle.mx_worlds.specs.Shows.{Columns, ShowsSeat}
use Rattle.mx_worlds.specs.declared.seats.Seat.{Seat}
use Rattle.mx_worlds.proofs.answering.answer_all.Given as goal

abbrev pub invariant-loop-place : goal.invariant-loop-place
invariant-loop-place l = ((many : ℕ) (f : ℕ → Columns)
    → ((p : ℕ) (s : Seat) → slice_get l.initial.seats.items p ≡ Some s → ShowsSeat many s (f p))
    → (p : ℕ) (s : Seat) → slice_get l.seats.items p ≡ Some s
    → (p < l.place → ShowsSeat many s (answered_columns (f p))) × (l.place ≤ p → ShowsSeat many s (f p)))
    × (vec_len l.seats ≡ vec_len l.initial.seats)
