-- From when on a store is known: the number of its next least entry.
use Rattle.std.proofs.Common.{◌≡◌, inl, inr, ℕ, zero, suc, ◌+◌, ◌-◌, ◌≤◌, List, [], ◌∷◌, drop, Some, None, refl, ap, sym, ◌∙◌, subst, arith}
use Rattle.std.specs.List.{slice_get}
use Rattle.mx_reads.specs.Deeds.{Deed, Enters, Stores, Loads, Refers, Misses}
use Rattle.mx_stores.specs.Known.{IsKnown}
use Rattle.mx_stores.specs.Least.{IsBy, IsNoLater}
use Rattle.mx_stores.specs.Since.{entry_of, least_entry, since}
use Rattle.mx_stores.specs.StoreLaws.{KnownLaw, SinceLaw}
use Rattle.mx_stores.proofs.Drops.{get_dropped, drop_dropped}
use Rattle.mx_stores.proofs.LeastLaws.{least_left, least_right, least_parts}

-- an entry among deeds, numbered at most q
record HasEntry (deeds : List Deed) (q : ℕ) : Type 0 where
  pub at : ℕ
  pub number : ℕ
  pub entry : slice_get deeds at ≡ Some (Enters number)
  pub within : number ≤ q

pub entry_by : (deeds : List Deed) (at number q : ℕ) → slice_get deeds at ≡ Some (Enters number) → number ≤ q
    → IsBy (least_entry deeds) q
entry_by [] at number q e l = absurd (nothing e)
  where
    nothing : None ≡ Some (Enters number) → ⊥
    nothing h = cc
entry_by (deed ∷ deeds) zero number q e l =
    least_left (entry_of deed) (least_entry deeds) q (subst (λ (d : Deed). IsBy (entry_of d) q) (sym (same e)) l)
  where
    same : Some deed ≡ Some (Enters number) → deed ≡ Enters number
    same h = cc
entry_by (deed ∷ deeds) (suc at) number q e l =
    least_right (entry_of deed) (least_entry deeds) q (entry_by deeds at number q e l)

own_entry : (deed : Deed) (deeds : List Deed) (q : ℕ) → IsBy (entry_of deed) q → HasEntry (deed ∷ deeds) q
own_entry (Enters number) deeds q h = record { at = 0; number = number; entry = refl; within = h }
own_entry (Stores cell value point) deeds q h = absurd h
own_entry (Loads cell value writer stamp point) deeds q h = absurd h
own_entry (Refers point) deeds q h = absurd h
own_entry (Misses segno by) deeds q h = absurd h

by_entry : (deeds : List Deed) (q : ℕ) → IsBy (least_entry deeds) q → HasEntry deeds q
by_entry [] q h = absurd h
by_entry (deed ∷ deeds) q h = elim (least_parts (entry_of deed) (least_entry deeds) q h) [
  | inl own ↦ own_entry deed deeds q own
  | inr later ↦
      let has : HasEntry deeds q = by_entry deeds q later in
      record { at = suc has.at; number = has.number; entry = has.entry; within = has.within }
]

-- fewer deeds, fewer entries
pub dropped_later : (n : ℕ) (deeds : List Deed) → IsNoLater (least_entry deeds) (least_entry (drop n deeds))
dropped_later n deeds q h =
    let has : HasEntry (drop n deeds) q = by_entry (drop n deeds) q h in
    entry_by deeds (n + has.at) has.number q (sym (get_dropped n deeds has.at) ∙ has.entry) has.within

pub since_law : SinceLaw
since_law deeds i j l q h =
    let e : suc j ≡ suc i + (j - i) = omega arith in
    let to : drop (suc j) deeds ≡ drop (j - i) (drop (suc i) deeds) =
    ap (λ (n : ℕ). drop n deeds) e ∙ sym (drop_dropped (suc i) (j - i) deeds) in
    dropped_later (j - i) (drop (suc i) deeds) q (subst (λ (ds : List Deed). IsBy (least_entry ds) q) to h)

pub known_law : KnownLaw
known_law done u place q = (forth, back)
  where
    forth : IsKnown done u place q → IsBy (since (done u) place) q
    forth known =
        let after = known.after in
        let e : suc place + (known.later - suc place) ≡ known.later = omega arith in
        entry_by (drop (suc place) (done u)) (known.later - suc place) known.number q
        (get_dropped (suc place) (done u) (known.later - suc place)
        ∙ ap (λ (n : ℕ). slice_get (done u) n) e ∙ known.entry) known.within

    back : IsBy (since (done u) place) q → IsKnown done u place q
    back h =
        let has : HasEntry (drop (suc place) (done u)) q = by_entry (drop (suc place) (done u)) q h in record {
          later = suc place + has.at;
          number = has.number;
          after = omega arith;
          entry = sym (get_dropped (suc place) (done u) has.at) ∙ has.entry;
          within = has.within;
        }
