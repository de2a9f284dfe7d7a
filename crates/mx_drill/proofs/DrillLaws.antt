-- What the names of a drill are read as, and what its lines may say.
use Rattle.std.proofs.Common.{◌≡◌, ℕ, zero, suc, ◌+◌, ◌*◌, ◌%◌, ◌/◌, ◌^◌, ◌<◌, ◌≤◌, nat_le, nat_lt, nat_eq, Bool, true, false, not, slice_set, Ok, refl, arith, lit<}
use Rattle.std.specs.Prelude.{codes, ◌&&◌, if◌then◌else◌}
use Rattle.std.specs.List.{list_all}
use Rattle.std.proofs.lemmas.Bool.Decides.{nat_tests}
use Rattle.std.proofs.lemmas.Nat.{mod_below}
use Rattle.mx_acl.specs.declared.modes.Modes.{Modes}
use Rattle.mx_name.specs.Identifiers.{acl_id_reading}
use Rattle.mx_name.specs.Principals.{principal_reading}
use Rattle.mx_request.specs.declared.requests.Request.TheVariants.{SetAcl}
use Rattle.mx_request.specs.RequestTexts.{is_identifier, is_pathname}
use Rattle.mx_script.specs.Sessions.{is_script_line, is_logout}
use Rattle.mx_script.specs.SessionTexts.{fits_line}
use Rattle.mx_script.specs.declared.lines.Line.{Line}
use Rattle.mx_script.specs.declared.lines.Line.TheVariants.{Ask, Set, Lda, Sta}
use Rattle.mx_drill.specs.Drills.{segment_path, driller, driller_id, drillers_id, everyone_id, address, word_of_round, value_of_round, loaded_segment, other_process, modes_of_round}
use Rattle.mx_drill.specs.Drills.{store, load, change, overrun, round, initiation}

-- what is true of 1, 2, 3 and 4
pub one_of_four : (P : ℕ → Type 0) → P 1 → P 2 → P 3 → P 4 → (p : ℕ) → 1 ≤ p → p ≤ 4 → P p
one_of_four P a b c d zero low high = absurd (omega arith)
one_of_four P a b c d (suc zero) low high = a
one_of_four P a b c d (suc (suc zero)) low high = b
one_of_four P a b c d (suc (suc (suc zero))) low high = c
one_of_four P a b c d (suc (suc (suc (suc zero)))) low high = d
one_of_four P a b c d (suc (suc (suc (suc (suc p))))) low high = absurd (omega arith)

-- how the names are spelled
pub segment_spelled : (s : ℕ) → 1 ≤ s → s ≤ 4 → slice_set (codes ">s0") 2 (48 + s) ≡ segment_path s
segment_spelled = one_of_four (λ s. slice_set (codes ">s0") 2 (48 + s) ≡ segment_path s) refl refl refl refl

pub driller_read : (p : ℕ) → 1 ≤ p → p ≤ 4 → principal_reading (slice_set (codes "U0.Drill.a") 1 (48 + p)) ≡ Ok (driller p)
driller_read = one_of_four (λ p. principal_reading (slice_set (codes "U0.Drill.a") 1 (48 + p)) ≡ Ok (driller p)) refl refl refl refl

pub driller_id_read : (p : ℕ) → 1 ≤ p → p ≤ 4 → acl_id_reading (slice_set (codes "U0.Drill.a") 1 (48 + p)) ≡ Ok (driller_id p)
driller_id_read = one_of_four (λ p. acl_id_reading (slice_set (codes "U0.Drill.a") 1 (48 + p)) ≡ Ok (driller_id p)) refl refl refl refl

pub drillers_id_read : acl_id_reading (codes "*.Drill.*") ≡ Ok drillers_id
drillers_id_read = refl

pub everyone_id_read : acl_id_reading (codes "*.*.*") ≡ Ok everyone_id
everyone_id_read = refl

-- tests of orders
at_most_test : (a b : ℕ) → a ≤ b → nat_le a b ≡ true
at_most_test a b h = grind (arith, nat_tests)

below_test : (a b : ℕ) → a < b → nat_lt a b ≡ true
below_test a b h = grind (arith, nat_tests)

pub both : {x y : Bool} → x ≡ true → y ≡ true → (x && y) ≡ true
both h k = rw (h, k) refl

-- what holds of a line of a script before its logout, and of one that a text may say
pub record IsGoodTest (good : Line → Bool) : Type 0 where
  pub sets : (value : ℕ) → value < 2 ^ 36 → good (Set value) ≡ true
  pub stores : (segno word : ℕ) → segno ≤ 4095 → word ≤ 16383 → good (Sta (address segno word)) ≡ true
  pub loads : (segno word : ℕ) → segno ≤ 4095 → word ≤ 16383 → good (Lda (address segno word)) ≡ true
  pub changes : (p q : ℕ) (modes : Modes) → 1 ≤ p → p ≤ 4 → 1 ≤ q → q ≤ 4 → good (Ask (SetAcl (segment_path p) (driller_id q) modes)) ≡ true
  pub begins : (s : ℕ) → 1 ≤ s → s ≤ 4 → good (initiation s) ≡ true

is_address_test : (segno word : ℕ) → segno ≤ 4095 → word ≤ 16383 → (nat_le segno 4095 && nat_le word 16383) ≡ true
is_address_test segno word s w = both (at_most_test segno 4095 s) (at_most_test word 16383 w)

pub script_lines : IsGoodTest (is_script_line 1)
script_lines = record {
  sets = λ value h. refl;
  stores = is_address_test;
  loads = is_address_test;
  changes = λ p q modes a b c d. refl;
  begins = λ s a b. refl;
}

pub no_logouts : IsGoodTest (λ line. not (is_logout line))
no_logouts = record {
  sets = λ value h. refl;
  stores = λ segno word s w. refl;
  loads = λ segno word s w. refl;
  changes = λ p q modes a b c d. refl;
  begins = λ s a b. refl;
}

-- a change of access, as a line says it
id_fits : (q : ℕ) → 1 ≤ q → q ≤ 4 → is_identifier (driller_id q) ≡ true
id_fits = one_of_four (λ q. is_identifier (driller_id q) ≡ true) refl refl refl refl

path_fits : (p : ℕ) → 1 ≤ p → p ≤ 4 → is_pathname (segment_path p) ≡ true
path_fits = one_of_four (λ p. is_pathname (segment_path p) ≡ true) refl refl refl refl

pub text_lines : IsGoodTest fits_line
text_lines = record {
  sets = λ value h. below_test value (2 ^ 36) h;
  stores = is_address_test;
  loads = is_address_test;
  changes = λ p q modes a b c d. both (path_fits p a b) (id_fits q c d);
  begins = one_of_four (λ s. fits_line (initiation s) ≡ true) refl refl refl refl;
}

-- a line of each kind of round
module _ (good : Line → Bool) (test : IsGoodTest good) where
  store_good : (number p i : ℕ) → number ≤ 999999 → p ≤ 4 → i < 256 → list_all good (store number p i) ≡ true
  store_good number p i known most low =
      let word : word_of_round number p i < 64 = mod_below (number + 7 * i + p) 64 (lit< tt) in
      both (test.sets (value_of_round number p i) (omega arith))
      (both (test.stores (7 + p) (word_of_round number p i) (omega arith) (omega arith)) refl)

  load_good : (number p i : ℕ) → list_all good (load number p i) ≡ true
  load_good number p i =
      let word : word_of_round number p i < 64 = mod_below (number + 7 * i + p) 64 (lit< tt) in
      let segment : (number + i) % 4 < 4 = mod_below (number + i) 4 (lit< tt) in
      both (test.loads (loaded_segment number i) (word_of_round number p i) (omega arith) (omega arith)) refl

  change_good : (p i : ℕ) → 1 ≤ p → p ≤ 4 → list_all good (change p i) ≡ true
  change_good p i least most =
      let other : (p + i / 4 % 3) % 4 < 4 = mod_below (p + i / 4 % 3) 4 (lit< tt) in
      both (test.changes p (other_process p i) (modes_of_round i) least most (omega arith) (omega arith)) refl

  overrun_good : (p : ℕ) → p ≤ 4 → list_all good (overrun p) ≡ true
  overrun_good p most = both (test.stores (7 + p) 64 (omega arith) (omega arith)) refl

  pub round_good : (number p i : ℕ) → number ≤ 999999 → 1 ≤ p → p ≤ 4 → i < 256 → list_all good (round number p i) ≡ true
  round_good number p i known least most low =
      of_kind (nat_eq (i % 4) 0) (nat_eq (i % 4) 1) (nat_eq (i % 4) 2)
    where
      of_kind : (a b c : Bool) → list_all good (if a then store number p i else (if b then load number p i else (if c then change p i else overrun p))) ≡ true
      of_kind true b c = store_good number p i known most low
      of_kind false true c = load_good number p i
      of_kind false false true = change_good p i least most
      of_kind false false false = overrun_good p most
