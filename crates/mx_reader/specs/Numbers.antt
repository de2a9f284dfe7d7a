-- Helpers that only private contracts cite: numbers at the front of a text, as its bytes are read one after the other.
use Rattle.std.specs.Prelude.{ℕ, ◌+◌, ◌-◌, ◌*◌, ◌==◌, nat_lt, Bool, ◌&&◌, List, [], ◌∷◌, Option, None, Some, if◌then◌else◌}
use Rattle.mx_name.specs.Cuts.{cut_at}
use Rattle.mx_request.specs.Decimals.{decimal_number, is_digit}
use Rattle.mx_request.specs.Steps.{◌>>=◌}
use Rattle.mx_sdw.specs.Octal.{is_octal_digit, octal_number}

-- a number with one more digit
abbrev pub decimal_more : ℕ → ℕ → ℕ
decimal_more n c = 10 * n + (c - 48)

abbrev pub octal_more : ℕ → ℕ → ℕ
octal_more n c = 8 * n + (c - 48)

-- the digits at the front of a text, as many as there is room for, behind those of a number: the number then, and what
-- stands behind them
unfoldable pub digits_on : (ℕ → Bool) → (ℕ → ℕ → ℕ) → ℕ → ℕ → List ℕ → ℕ × List ℕ
digits_on is_one more room n [] = (n, [])
digits_on is_one more room n (c ∷ cs) = if is_one c && nat_lt 0 room then digits_on is_one more (room - 1) (more n c) cs else (n, c ∷ cs)

-- behind the first byte of a number: for how many more digits there is room, and the number so far
abbrev pub begun : (ℕ → Bool) → ℕ → ℕ → Option (ℕ × ℕ)
begun is_one digits c = if c == 48 then Some (0, 0) else (if is_one c then Some (digits - 1, c - 48) else None)

-- the number of at most so many digits at the front of a text, and what stands behind its digits
unfoldable pub number_front : (ℕ → Bool) → (ℕ → ℕ → ℕ) → ℕ → List ℕ → Option (ℕ × List ℕ)
number_front is_one more digits [] = None
number_front is_one more digits (c ∷ cs) = begun is_one digits c >>= λ b. Some (digits_on is_one more b.0 b.1 cs)

abbrev pub decimal_front : ℕ → List ℕ → Option (ℕ × List ℕ)
decimal_front digits text = number_front is_digit decimal_more digits text

abbrev pub octal_front : ℕ → List ℕ → Option (ℕ × List ℕ)
octal_front digits text = number_front is_octal_digit octal_more digits text

-- `N ..`: a number, and what stands behind the mark after it
abbrev pub decimal_then : ℕ → List ℕ → Option (ℕ × List ℕ)
decimal_then digits text = cut_at 32 text >>= λ p. decimal_number digits p.0 >>= λ n. Some (n, p.1)

abbrev pub octal_then : ℕ → ℕ → List ℕ → Option (ℕ × List ℕ)
octal_then digits mark text = cut_at mark text >>= λ p. octal_number digits p.0 >>= λ n. Some (n, p.1)
