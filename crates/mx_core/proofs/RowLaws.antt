-- The worked row: its steps are enabled, and what they give is computed.
use Rattle.std.proofs.Common.{◌≡◌, ◌≢◌, inl, inr, ℕ, zero, suc, ◌<◌, ◌≤◌, Bool, true, false, [], ◌∷◌, refl, ap, sym, subst, Some, None, arith}
use Rattle.std.specs.List.{slice_get}
use Rattle.std.specs.Prelude.{◌==◌, ◌&&◌, ◌||◌}
use Rattle.std.proofs.lemmas.Bool.{cases_eq, eqb-true, and_parts, or_cases}
use Rattle.mx_sdw.specs.declared.descriptors.DescKind.TheVariants.{Unknown, Gone, Segment}
use Rattle.mx_sdw.specs.declared.operations.Op.TheVariants as op
use Rattle.mx_sdw.specs.Descriptors.{Descriptor, unknown_desc}
use Rattle.mx_sdw.specs.Judging.{judgement}
use Rattle.mx_core.specs.Append.{IsGoodChange, CanAppend}
use Rattle.mx_core.specs.Causes.{IsCause}
use Rattle.mx_sdw.specs.Admissible.{IsAdmissible}
use Rattle.mx_core.specs.Row.{data_desc, row_table, row_opening, row_entry, row_steps, RowLaw}
use Rattle.mx_core.specs.Steps.{CanAll, after}
use Rattle.mx_core.specs.Words.{DescriptorWord, Valid, Fault, Triple, Asked}
use Rattle.mx_core.specs.World.{Outside, Ready, World}
use Rattle.mx_core.specs.declared.changes.Change.{Change}
use Rattle.mx_core.specs.declared.steps.Cause.TheVariants as cause
use Rattle.mx_core.specs.declared.steps.Step.TheVariants.{Append, Strike, Connect, Acknowledge, Answer}
use Rattle.mx_core.specs.Opening.{CanOpen}
use Rattle.mx_core.specs.Put.{pick, put}
use Rattle.mx_core.proofs.Descriptors.{unknown_admissible}
use Rattle.mx_core.proofs.Puts.{put_else, pick_all}

unlike_kind : Segment ≡ Unknown → ⊥
unlike_kind e = cc

unlike_gone : Segment ≡ Gone → ⊥
unlike_gone e = cc

inside : Ready ≡ Outside → ⊥
inside e = cc

nothing_at : {A : Type 0} (a : A) → None ≡ Some a → ⊥
nothing_at a h = cc

lt34 : 3 < 4
lt34 = omega arith

le44 : 4 ≤ 4
le44 = omega arith

-- the change, and that it is one
abbrev change : Change
change = record { process = 2; segno = 8; desc = data_desc false 20 }

only : (i : ℕ) (a : Change) → slice_get (change ∷ []) i ≡ Some a → (i ≡ 0) × (a ≡ change)
only zero a h = (refl, cc)
only (suc i) a h = cc

data_admissible : (writable : Bool) (page : ℕ) → page ≤ 1000 → IsAdmissible (data_desc writable page)
data_admissible writable page low = record {
  unknown = λ e. absurd (unlike_kind e);
  gone = λ e. absurd (unlike_gone e);
  segment = λ e. record {
    range = record {
      order = record { write_first = omega arith; gate_last = omega arith };
      ring = omega arith;
      gate = omega arith;
      page = omega arith;
      some = omega arith;
      most = omega arith;
      class = refl;
    };
    cells = omega arith;
  };
}

admissible : IsAdmissible (data_desc false 20)
admissible = data_admissible false 20 (omega arith)

opens : CanOpen 2 128 3 row_table
opens = record {
  some = omega arith;
  most = omega arith;
  limit = omega arith;
  admissible = λ p n. each IsAdmissible p n (λ e. data_admissible true 20 (omega arith))
      (λ e. data_admissible true 21 (omega arith)) unknown_admissible;
  nobody = λ n. refl;
  more = λ p n l. each (λ d. d ≡ unknown_desc) p n
      (λ e. let a = eqb-true p 2 (and_parts (p == 2) (n == 8) e).0 in absurd (omega arith))
      (λ e. absurd (elim (or_cases (p == 1) (p == 2) (and_parts (p == 1 || p == 2) (n == 9) e).0) [
        | inl f ↦ let a = eqb-true p 1 f in absurd (omega arith)
        | inr f ↦ let a = eqb-true p 2 f in absurd (omega arith)
      ])) refl;
  beyond = λ p n l. each (λ d. d ≡ unknown_desc) p n
      (λ e. let a = eqb-true n 8 (and_parts (p == 2) (n == 8) e).1 in absurd (omega arith))
      (λ e. let a = eqb-true n 9 (and_parts (p == 1 || p == 2) (n == 9) e).1 in absurd (omega arith)) refl;
}
  where
    each : (P : Descriptor → Type 0) (p n : ℕ) → ((p == 2 && n == 8) ≡ true → P (data_desc true 20))
        → (((p == 1 || p == 2) && n == 9) ≡ true → P (data_desc true 21)) → P unknown_desc → P (row_table p n)
    each P p n a b c = pick_all P (p == 2 && n == 8) (data_desc true 20)
        (pick ((p == 1 || p == 2) && n == 9) (data_desc true 21) unknown_desc) a
        (λ e. pick_all P ((p == 1 || p == 2) && n == 9) (data_desc true 21) unknown_desc b (λ f. c))

can_append : CanAppend row_opening 1 (change ∷ []) []
can_append = record {
  range = record {
    process = record { low = omega arith; high = omega arith };
    each = λ i a h. subst (IsGoodChange row_opening) (sym (only i a h).1)
        (record {
          pair = record { process = record { low = omega arith; high = omega arith }; number = omega arith };
          desc = admissible;
        });
    pair_once = λ i j a b h k e f. let x = (only i a h).0 in let y = (only j b k).0 in omega arith;
    pages = λ i a h. absurd (nothing_at a h);
    page_once = λ i j page a b h k f g. absurd (nothing_at a h);
  };
  limit = omega arith;
  rest = omega arith;
  clear = λ page h. cc;
  covered = λ page h. refl;
}

-- nothing but the pair (2, 8) is changed
still_number : (n : ℕ) → n ≢ 8 → put (row_table 2) 8 (data_desc false 20) n ≡ row_table 2 n
still_number n x = put_else (row_table 2) 8 (data_desc false 20) n x

changed : data_desc false 20 ≢ data_desc true 20
changed e = let f : false ≡ true = ap (λ (d : Descriptor). d.w) e in cc

abbrev words : ℕ → DescriptorWord
words = put (row_opening.word 2) 8 (Fault 4)

struck_2 : (n : ℕ) → put (row_table 2) 8 (data_desc false 20) n ≢ row_table 2 n → words n ≡ Fault 4
struck_2 n c = elim (cases_eq n 8) [
  | inl e ↦ subst (λ (m : ℕ). words m ≡ Fault 4) (sym e) refl
  | inr x ↦ absurd (c (still_number n x))
]

abbrev table : ℕ → ℕ → Descriptor
table = put row_table 2 (put (row_table 2) 8 (data_desc false 20))

abbrev all_words : ℕ → ℕ → DescriptorWord
all_words = put row_opening.word 2 words

struck : (p n : ℕ) → table p n ≢ row_table p n → all_words p n ≡ Fault 4
struck p n c = elim (cases_eq p 2) [
  | inl e ↦ subst (λ (q : ℕ). all_words q n ≡ Fault 4) (sym e)
      (struck_2 n (subst (λ (q : ℕ). table q n ≢ row_table q n) e c))
  | inr x ↦ absurd (c (ap (λ (h : ℕ → Descriptor). h n)
      (put_else row_table 2 (put (row_table 2) 8 (data_desc false 20)) p x)))
]

abbrev w4 : World
w4 = after (after (after (after row_opening (Append 1 (change ∷ []) [])) (Strike 2 8)) (Connect 2)) (Acknowledge 2)

acknowledged : (p n : ℕ) → table p n ≢ row_table p n → (w4.process p).acknowledged ≡ true
acknowledged p n c = elim (cases_eq p 2) [
  | inl e ↦ subst (λ (q : ℕ). (w4.process q).acknowledged ≡ true) (sym e) refl
  | inr x ↦ absurd (c (ap (λ (h : ℕ → Descriptor). h n)
      (put_else row_table 2 (put (row_table 2) 8 (data_desc false 20)) p x)))
]

one_one : 1 ≤ 1
one_one = omega arith

one_two : 1 ≤ 2
one_two = omega arith

two_two : 2 ≤ 2
two_two = omega arith

eight : 8 < 128
eight = omega arith

-- what process 1 stores through, and process 2 reads through
abbrev known : Triple
known = record { segno = 9; number = 3; desc = data_desc true 21 }

abbrev writing : Asked
writing = record { op = op.Write; ring = 4; word = 0 }

abbrev reading : Asked
reading = record { op = op.Read; ring = 4; word = 0 }

enabled : CanAll row_opening row_steps
unfolding judgement
enabled = (
  can_append,
  (
    record {
      range = record { process = record { low = one_two; high = two_two }; number = eight };
      pending = lt34;
      changed = changed;
    },
    (
      record {
        range = record { low = one_two; high = two_two };
        pending = lt34;
        changed = record
            { segno = 8; changed = changed };
        struck = struck_2;
      },
      (
        record { range = record { low = one_two; high = two_two }; pending = lt34; connected = refl; left = inl refl },
        (
          record { pending = lt34; struck = struck; acknowledged = acknowledged },
          (
            record { rest = le44 },
            (
              record { range = one_two; note = record { note = record { floor = 4; told = λ p n. 3 }; at = refl } },
              (
                record { range = record { low = one_one; high = one_two }; outside = refl },
                (
                  record { range = record { low = one_one; high = one_two }; entering = refl },
                  (
                    record { range = record { low = one_one; high = one_two }; ready = refl },
                    (
                      record {
                        range = record { low = one_one; high = one_two };
                        word = omega arith;
                        hold = record
                            { on = known; asked = writing; basis = refl; hold = refl; operation = refl };
                      },
                      (
                        record { range = record { low = one_one; high = one_two }; inside = inside },
                        (
                          record { range = record { low = one_two; high = two_two }; outside = refl },
                          (
                            record { range = record { low = one_two; high = two_two }; entering = refl },
                            (
                              record { range = record { low = one_two; high = two_two }; ready = refl },
                              (
                                record {
                                  range = record { low = one_two; high = two_two };
                                  hold = record
                                      { on = known; asked = reading; basis = refl; hold = refl; operation = refl };
                                },
                                (
                                  record { range = record { low = one_two; high = two_two }; inside = inside },
                                  (
                                    record { range = record { low = one_two; high = two_two }; outside = refl },
                                    (
                                      record { range = record { low = one_two; high = two_two }; entering = refl },
                                      (
                                        record { range = record { low = one_two; high = two_two }; ready = refl },
                                        (
                                          record { range = record { low = one_two; high = two_two }; inside = inside },
                                          (
                                            record {
                                              range = record {
                                                process = record
                                                    { low = one_two; high = two_two };
                                                number =
                                                    eight;
                                              };
                                              rest = le44;
                                              fault = record { by = 4; at = refl };
                                            },
                                            (
                                              record {
                                                range = record { low = one_two; high = two_two };
                                                outside = refl;
                                              },
                                              (
                                                record {
                                                  range = record { low = one_two; high = two_two };
                                                  entering = refl;
                                                },
                                                (
                                                  record {
                                                    range = record { low = one_two; high = two_two };
                                                    ready = refl;
                                                  },
                                                  (
                                                    record {
                                                      range = record { low = one_two; high = two_two };
                                                      inside = inside;
                                                    },
                                                    tt,
                                                  ),
                                                ),
                                              ),
                                            ),
                                          ),
                                        ),
                                      ),
                                    ),
                                  ),
                                ),
                              ),
                            ),
                          ),
                        ),
                      ),
                    ),
                  ),
                ),
              ),
            ),
          ),
        ),
      ),
    ),
  ),
)

-- before the Strike, the pair (2, 8) is the first that is changed and no fault
no_fault : (n : ℕ) (d : Descriptor) → Valid n d ≡ Fault 4 → ⊥
no_fault n d e = cc

unstruck : IsCause (after row_opening row_entry) Answer (cause.Unstruck 2 8)
unstruck = inr (
  lt34,
  inl (
    λ all. no_fault 3 (data_desc true 20) (all 2 8 changed),
    record {
      process = 2;
      segno = 8;
      is = refl;
      first = record {
        fails = λ h. no_fault 3 (data_desc true 20) (h changed);
        before = λ n l c. absurd (c (still_number n (λ e. absurd (omega arith))));
      };
      before = λ p n l c.
          absurd (c (ap (λ (h : ℕ → Descriptor). h n)
          (put_else row_table 2 (put (row_table 2) 8 (data_desc false 20)) p (λ e. absurd (omega arith)))));
    },
  ),
)

pub row_law : RowLaw
unfolding judgement
row_law = record { opens = opens; unstruck = unstruck; enabled = enabled; trace = refl; floor_1 = refl; floor_2 = refl }
